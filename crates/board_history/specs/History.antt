-- What a run may show of one board: one legal history. Profile.
use Rattle.std.specs.Prelude.{◌≡◌, ℕ, List, Option, map, length}
use Rattle.board_bus.specs.Cells.{CellMap}
use Rattle.mtu_packer.specs.Packed.{deal}
use Rattle.lane_record.specs.declared.outcome.Outcome.{Outcome}
use Rattle.script_plans.specs.declared.board_run.ClientPart.{ClientPart}
use Rattle.script_plans.specs.declared.board_run.BoardRun.{BoardRun}
use Rattle.board_history.specs.Order.{order}
use Rattle.board_history.specs.Parts.{HasOneOrder, KeepsScripts, AreRepliesOf, AreLateRepliesOf}

-- The bodies of each client on a board that opened with this bus, what became of them, and their late answers are one
-- history.
pub record IsHistory (opening : CellMap) (bodies : List (List (List ℕ))) (outcomes : List (List Outcome))
    (lates : List (List (Option (List ℕ)))) : Type 0 where
  -- each body of each client has an outcome
  pub shape : map length outcomes ≡ map length bodies
  -- the places are 1, 2, 3, .., and each belongs to one body
  pub one_order : HasOneOrder bodies outcomes
  -- the bodies of each client stand in the order of its script
  pub script_order : KeepsScripts bodies outcomes
  -- each reply is the one that a bus with a single thread gives at its place
  pub replies : AreRepliesOf opening (order bodies outcomes) outcomes
  -- and so is each late answer
  pub late : AreLateRepliesOf opening (order bodies outcomes) outcomes lates

-- what each client asked of a board
abbrev pub bodies_by_client : BoardRun → List (List (List ℕ))
bodies_by_client run = map (λ (part : ClientPart). part.planned.bodies) run.parts

-- what became of it
abbrev pub outcomes_by_client : BoardRun → List (List Outcome)
outcomes_by_client run = map (λ (part : ClientPart). part.outcomes) run.parts

-- and what came late
abbrev pub lates_by_client : BoardRun → List (List (Option (List ℕ)))
lates_by_client run = map (λ (part : ClientPart). part.lates) run.parts

-- the outcomes, dispatch by dispatch
abbrev pub dispatches_of : ClientPart → List (List Outcome)
dispatches_of part = deal part.planned.counts part.outcomes

abbrev pub dispatches_by_client : BoardRun → List (List (List Outcome))
dispatches_by_client run = map dispatches_of run.parts

-- What a run shows of a board that opened with this bus is one history.
abbrev pub ShowsHistory : CellMap → BoardRun → Type 0
ShowsHistory opening run =
    IsHistory opening (bodies_by_client run) (outcomes_by_client run) (lates_by_client run)

-- Each body of each client has an outcome, and the places are 1, 2, 3, .., each of one body.
pub record IsOrdered (run : BoardRun) : Type 0 where
  pub shape : map length (outcomes_by_client run) ≡ map length (bodies_by_client run)
  pub one_order : HasOneOrder (bodies_by_client run) (outcomes_by_client run)
