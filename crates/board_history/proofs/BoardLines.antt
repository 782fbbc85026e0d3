-- What the lines of boards tell of their timeouts and of their replies.
use Rattle.std.proofs.Common.{◌≡◌, ℕ, ◌+◌, ◌*◌, ◌≤◌, List, [], ◌∷◌, map, Option, Some, None, subst}
use Rattle.std.specs.Prelude.{IfSome}
use Rattle.std.specs.List.{AllZip, count_by}
use Rattle.board_specs.specs.declared.spec.BoardSpec.{BoardSpec}
use Rattle.links.specs.Telling.{Telling}
use Rattle.world_model.specs.Settings.{Limits}
use Rattle.script_steps.specs.declared.operation.Step.{Step}
use Rattle.lane_record.specs.Outcomes.{is_timed_out}
use Rattle.script_plans.specs.declared.greeting.Greeting.{Greeting}
use Rattle.script_plans.specs.declared.greeting.Greeting.TheVariants.{Live, Silent, Down}
use Rattle.transcript.specs.declared.line.BoardLine.{BoardLine}
use Rattle.transcript.specs.declared.line.BoardLine.TheVariants as board_lines
use Rattle.script_plans.specs.declared.board_run.BoardRun.{BoardRun}
use Rattle.transcript.specs.Lines.{board_line, live_line}
use Rattle.script_plans.specs.Runs.{outcomes_on}
use Rattle.board_history.specs.GiveUps.{IsExact, time_outs}
use Rattle.board_history.specs.History.{dispatches_by_client}
use Rattle.board_history.specs.Runs.{opens_with}
use Rattle.board_history.specs.Links.{LinkReport, board_there}
use Rattle.board_history.specs.Receives.{quiets_since_status}
use Rattle.board_history.specs.LinkRuns.{AreRunsOver, IsAsTold, IsTrueRun, ShowsScripts}
use Rattle.board_history.specs.LinkRuns.{RepliesCame, TimeOutsWaited}

-- ---- timeouts

-- the timeouts of a board's line are those of its clients' dispatches
abbrev pub Counting : Type 0
Counting = (spec : BoardSpec) (board : ℕ) (scripts : List (List Step)) (run : BoardRun)
    → ShowsScripts spec board scripts run
    → time_outs (dispatches_by_client run) ≡ count_by is_timed_out (outcomes_on run)

-- so many datagrams were held, where the link tells
held_by_line : (settings : Limits) (spec : BoardSpec) (run : BoardRun) (held : ℕ) (telling : Option Telling)
    → time_outs (dispatches_by_client run) ≡ count_by is_timed_out (outcomes_on run)
    → IfSome (board_there telling) (IsTrueRun settings (opens_with spec.link) run held)
    → IfSome telling (λ _. IsExact held
    → settings.rounds * count_by is_timed_out (outcomes_on run) ≤ settings.window * held)
held_by_line settings spec run held None same told = tt
held_by_line settings spec run held (Some t) same told =
    subst (λ (n : ℕ). IsExact held → settings.rounds * n ≤ settings.window * held) same told.held'.bodies

abbrev pub line_at : BoardRun → Greeting → BoardLine
line_at run told = elim told as (λ _. BoardLine) [
  | Live payload ↦ live_line run.name (outcomes_on run)
  | Silent ↦ board_lines.Silent run.name
  | Down ↦ board_lines.Down run.name
]

pub line_waited : (settings : Limits) (spec : BoardSpec) (run : BoardRun) (link : LinkReport) (told : Greeting)
    → time_outs (dispatches_by_client run) ≡ count_by is_timed_out (outcomes_on run)
    → IsAsTold settings spec run link told → TimeOutsWaited settings (line_at run told) link
line_waited settings spec run link (Live payload) same live = record {
  quiets' = subst (λ (n : ℕ). IsExact link.quiets → (settings.rounds + 1) * n ≤ settings.window * link.quiets) same
      live.any_link.rounds.bodies;
  since = subst (λ (n : ℕ). (settings.rounds + 1) * n ≤ settings.window * quiets_since_status link) same
      live.any_link.rounds_since.bodies;
  held' = held_by_line settings spec run link.held link.telling same live.told;
}
line_waited settings spec run link Silent same silent = tt
line_waited settings spec run link Down same down = tt

pub lines_waited : Counting → (settings : Limits) (board : ℕ) (specs : List BoardSpec) (scripts : List (List Step))
    (runs : List BoardRun) (links : List LinkReport) → AreRunsOver settings board specs scripts runs links
    → AllZip (TimeOutsWaited settings) (map board_line runs) links
lines_waited counting settings board [] scripts [] [] is = tt
lines_waited counting settings board [] scripts [] (link ∷ links) is = absurd is
lines_waited counting settings board [] scripts (run ∷ runs) links is = absurd is
lines_waited counting settings board (spec ∷ specs) scripts [] links is = absurd is
lines_waited counting settings board (spec ∷ specs) scripts (run ∷ runs) [] is = absurd is
lines_waited counting settings board (spec ∷ specs) scripts (run ∷ runs) (link ∷ links) is = (
  line_waited settings spec run link run.greeting (counting spec board scripts run is.0.scripts') is.0.as_told,
  lines_waited counting settings (board + 1) specs scripts runs links is.1,
)

-- ---- replies

pub line_heard : (settings : Limits) (spec : BoardSpec) (run : BoardRun) (link : LinkReport) (told : Greeting)
    → IsAsTold settings spec run link told → RepliesCame (line_at run told) link
line_heard settings spec run link (Live payload) live = live.any_link.heard
line_heard settings spec run link Silent silent = tt
line_heard settings spec run link Down down = tt

pub lines_heard : (settings : Limits) (board : ℕ) (specs : List BoardSpec) (scripts : List (List Step))
    (runs : List BoardRun) (links : List LinkReport) → AreRunsOver settings board specs scripts runs links
    → AllZip RepliesCame (map board_line runs) links
lines_heard settings board [] scripts [] [] is = tt
lines_heard settings board [] scripts [] (link ∷ links) is = absurd is
lines_heard settings board [] scripts (run ∷ runs) links is = absurd is
lines_heard settings board (spec ∷ specs) scripts [] links is = absurd is
lines_heard settings board (spec ∷ specs) scripts (run ∷ runs) [] is = absurd is
lines_heard settings board (spec ∷ specs) scripts (run ∷ runs) (link ∷ links) is = (
  line_heard settings spec run link run.greeting is.0.as_told,
  lines_heard settings (board + 1) specs scripts runs links is.1,
)
