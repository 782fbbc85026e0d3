-- What a run shows where nothing is lost and clients go to boards of this process, one client after another. Profile.
use Rattle.std.specs.Prelude.{◌≡◌, ℕ, ◌+◌, List, [], ◌∷◌, map, drop, get_or, Option, None}
use Rattle.std.specs.List.{AllByRecursion}
use Rattle.ipb_base.specs.Numbers.{payload_of}
use Rattle.board_bus.specs.Cells.{CellMap}
use Rattle.board_bus.specs.Ranges.{opening_bus, refusal_of}
use Rattle.board_specs.specs.declared.spec.BoardSpec.{BoardSpec}
use Rattle.board_specs.specs.declared.spec.LinkSpec.{LinkSpec}
use Rattle.board_specs.specs.declared.spec.LinkSpec.TheVariants.{Sim, Udp}
use Rattle.script_steps.specs.declared.operation.Step.{Step}
use Rattle.script_lang.specs.Limits.{IsSimulated}
use Rattle.lane_record.specs.declared.outcome.Outcome.{Outcome}
use Rattle.script_plans.specs.declared.greeting.Greeting.{Greeting}
use Rattle.script_plans.specs.declared.greeting.Greeting.TheVariants.{Live, Down}
use Rattle.script_plans.specs.declared.board_run.ClientPart.{ClientPart}
use Rattle.script_plans.specs.declared.board_run.BoardRun.{BoardRun}
use Rattle.script_plans.specs.Plan.{ClientBodies}
pub use Rattle.script_plans.specs.Plan.{plans_on}
use Rattle.board_history.specs.Parts.{AllReplied}
use Rattle.board_history.specs.InTurn.{in_turn, AreInTurn}
use Rattle.board_history.specs.History.{ShowsHistory, bodies_by_client, outcomes_by_client}

-- what each client asked, what became of it, and what came late
abbrev pub parts_with : List ClientBodies → List (List Outcome) → List (List (Option (List ℕ))) → List ClientPart
parts_with [] outcomes lates = []
parts_with (planned ∷ later) [] lates = []
parts_with (planned ∷ later) (outcomes ∷ others) lates =
    record { planned = planned; outcomes = outcomes; lates = get_or lates 0 [] }
    ∷ parts_with later others (drop 1 lates)

-- the parts of clients that run one after another from a place on, on this bus; nothing comes late
abbrev pub parts_in_turn : ℕ → CellMap → List ClientBodies → List ClientPart
parts_in_turn place cells planned = parts_with planned
    (in_turn place cells (map (λ (p : ClientBodies). p.bodies) planned)) []

-- a board in this process is live; one behind a port is not reached
abbrev pub greeting_of : LinkSpec → Greeting
greeting_of (Sim mtu buffers first ranges fates) = Live (payload_of mtu)
greeting_of (Udp address port wait) = Down

-- the bus that it opens with
abbrev pub opens_with : LinkSpec → CellMap
opens_with (Sim mtu buffers first ranges fates) = opening_bus ranges
opens_with (Udp address port wait) = []

-- What becomes of the board at a position, from 0, of a session: the clients run one after another from place 1 on.
abbrev pub board_run : BoardSpec → ℕ → List (List Step) → BoardRun
board_run spec board scripts = record {
  name = spec.name;
  greeting = greeting_of spec.link;
  parts = parts_in_turn 1 (opens_with spec.link) (plans_on board (greeting_of spec.link) scripts);
}

-- the boards, the first of which has this position
abbrev pub runs_from : ℕ → List BoardSpec → List (List Step) → List BoardRun
runs_from board [] scripts = []
runs_from board (spec ∷ specs) scripts = board_run spec board scripts ∷ runs_from (board + 1) specs scripts

-- a board in this process within the ranges of its numbers, whose ranges open a bus
abbrev pub RunsHere : LinkSpec → Type 0
RunsHere (Sim mtu buffers first ranges fates) = IsSimulated mtu buffers first fates × (refusal_of ranges ≡ None)
RunsHere (Udp address port wait) = ⊥

abbrev pub CanRun : BoardSpec → Type 0
CanRun spec = RunsHere spec.link

-- ---- the same as a relation

-- What a run shows of the board at a position of a session, where clients run one after another and nothing is lost.
pub record IsRun (spec : BoardSpec) (board : ℕ) (scripts : List (List Step)) (run : BoardRun) : Type 0 where
  pub name : run.name ≡ spec.name
  pub greeting : run.greeting ≡ greeting_of spec.link
  -- each client asked for the bodies of its script
  pub plans : map (λ (part : ClientPart). part.planned) run.parts ≡ plans_on board run.greeting scripts
  -- the outcomes are one history of the board that opened with its ranges
  pub history : ShowsHistory (opens_with spec.link) run
  -- each body was replied to
  pub replied : AllReplied (outcomes_by_client run)
  -- so nothing came late
  pub in_time : AllByRecursion (λ (part : ClientPart). part.lates ≡ []) run.parts
  -- the bodies of a client stand before those of the next one
  pub in_turn : AreInTurn (bodies_by_client run) (outcomes_by_client run)

-- the same of all boards, the first of which has this position
abbrev pub AreRuns : ℕ → List BoardSpec → List (List Step) → List BoardRun → Type 0
AreRuns board [] scripts [] = Unit {0}
AreRuns board [] scripts (run ∷ runs) = ⊥
AreRuns board (spec ∷ specs) scripts [] = ⊥
AreRuns board (spec ∷ specs) scripts (run ∷ runs) =
    IsRun spec board scripts run × AreRuns (board + 1) specs scripts runs
