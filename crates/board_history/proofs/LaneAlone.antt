-- One client that uses a board alone, over a link that may lose, repeat and delay datagrams.
use Rattle.std.proofs.Common.{◌≡◌, ℕ, ◌+◌, List, [], ◌∷◌, Some, ◌∙◌, subst}
use Rattle.std.specs.List.{AllByRecursion}
use Rattle.board_specs.specs.declared.spec.BoardSpec.{BoardSpec}
use Rattle.world_model.specs.Board.{Board}
use Rattle.world_model.specs.Settings.{Limits}
use Rattle.script_steps.specs.declared.operation.Step.{Step}
use Rattle.lane_record.specs.declared.outcome.Outcome.{Outcome}
use Rattle.script_plans.specs.declared.greeting.Greeting.TheVariants.{Live}
use Rattle.script_plans.specs.declared.board_run.BoardRun.{BoardRun}
use Rattle.board_history.specs.Parts.{HasOneOrder, KeepsScripts, AllReplied}
use Rattle.board_history.specs.InTurn.{AreInTurn, IsUsedByOne}
use Rattle.board_history.specs.History.{bodies_by_client, outcomes_by_client}
use Rattle.board_history.specs.Runs.{IsRun, board_run}
use Rattle.board_history.specs.Links.{LinkReport, board_there}
use Rattle.board_history.specs.LinkRuns.{IsLiveRun, IsAsTold, IsRunOver, AreRunsOver, ShowAloneRunsWhereTold}
use Rattle.board_history.proofs.Lates.{in_time}
use Rattle.board_history.proofs.LaneShown.{is_history, told_greeting}
use Rattle.board_history.proofs.Told.{told_there}

-- a client alone is in turn
abbrev pub InTurn : Type 0
InTurn = (bodies : List (List (List ℕ))) (outcomes : List (List Outcome)) → IsUsedByOne bodies
    → HasOneOrder bodies outcomes → KeepsScripts bodies outcomes → AreInTurn bodies outcomes

-- a board has one run
abbrev pub OneRun : Type 0
OneRun = (spec : BoardSpec) (board : ℕ) (scripts : List (List Step)) (run : BoardRun) → IsRun spec board scripts run
    → run ≡ board_run spec board scripts

pub alone_replied : InTurn → OneRun → (settings : Limits) (spec : BoardSpec) (board : ℕ) (scripts : List (List Step))
    (run : BoardRun) (link : LinkReport) (there : Board) (payload : ℕ) → IsRunOver settings spec board scripts run link
    → run.greeting ≡ Live payload → board_there link.telling ≡ Some there → IsUsedByOne (bodies_by_client run)
    → AllReplied (outcomes_by_client run) → run ≡ board_run spec board scripts
alone_replied in_turn only settings spec board scripts run link there payload is greeted tells one replied =
    let live : IsLiveRun settings spec payload run link =
    subst (IsAsTold settings spec run link) greeted is.as_told in
    let history = is_history settings spec board scripts run link there payload is greeted tells in
    only spec board scripts run (record {
      name = is.scripts'.name;
      greeting = greeted ∙ told_greeting spec.link (board_there link.telling) there payload tells is.board'
          live.any_link.packets;
      plans = is.scripts'.plans;
      history = history;
      replied = replied;
      in_time = in_time run.parts replied is.lates.timed_out;
      in_turn = in_turn (bodies_by_client run) (outcomes_by_client run) one history.one_order history.script_order;
    })

-- a run of one board that its client uses alone
abbrev pub AloneReplied : Type 0
AloneReplied = (settings : Limits) (spec : BoardSpec) (board : ℕ) (scripts : List (List Step)) (run : BoardRun)
    (link : LinkReport) (there : Board) (payload : ℕ) → IsRunOver settings spec board scripts run link
    → run.greeting ≡ Live payload → board_there link.telling ≡ Some there → IsUsedByOne (bodies_by_client run)
    → AllReplied (outcomes_by_client run) → run ≡ board_run spec board scripts

pub all_alone : AloneReplied → (settings : Limits) (board : ℕ) (specs : List BoardSpec) (scripts : List (List Step))
    (runs : List BoardRun) (links : List LinkReport) → AreRunsOver settings board specs scripts runs links
    → AllByRecursion (λ (run : BoardRun). AllReplied (outcomes_by_client run)) runs
    → ShowAloneRunsWhereTold board specs scripts runs links
all_alone law settings board [] scripts [] [] is replied = tt
all_alone law settings board [] scripts [] (link ∷ links) is replied = absurd is
all_alone law settings board [] scripts (run ∷ runs) links is replied = absurd is
all_alone law settings board (spec ∷ specs) scripts [] links is replied = absurd is
all_alone law settings board (spec ∷ specs) scripts (run ∷ runs) [] is replied = absurd is
all_alone law settings board (spec ∷ specs) scripts (run ∷ runs) (link ∷ links) is replied = (
  λ payload greeted tells one.
      let there = told_there link.telling tells in
      law settings spec board scripts run link there.0 payload is.0 greeted there.1 one replied.0,
  all_alone law settings (board + 1) specs scripts runs links is.1 replied.1,
)
