-- What is planned on a lane for the clients of a session, and their parts. Profile.
use Rattle.std.specs.Prelude.{◌≡◌, ℕ, List, ◌++◌, length, map, sum, Option}
use Rattle.ipb_base.specs.Lists.{IsPrefix}
use Rattle.links.specs.Telling.{Telling}
use Rattle.lane_record.specs.declared.item.Item.{Item}
use Rattle.lane_record.specs.Dispatches.{outcomes_in_order, plans_from}
use Rattle.hub_lane.specs.Lanes.{LaneState, board_of}
use Rattle.board_history.specs.History.{dispatches_of}
use Rattle.script_plans.specs.declared.board_run.ClientPart.{ClientPart}
use Rattle.script_plans.specs.Plan.{ClientBodies}

-- ---- the lane around its record

-- the lane is of the same board, over the same link: `before` and `now` are what that tells
pub record KeepsLane {L : Type 0} (old new : LaneState L) (before now : Option Telling) : Type 0 where
  pub number : new.number ≡ old.number
  pub settings : new.settings ≡ old.settings
  pub status : new.status ≡ old.status
  pub board : board_of now ≡ board_of before

-- the lane but for its record
abbrev pub with_items : {L : Type 0} → LaneState L → List Item → LaneState L
with_items lane more = record lane { items = lane.items ++ more }

-- ---- Plans

-- a client entered a front of the Plans of these bodies, and nothing else
pub record PlannedSome {L : Type 0} (client : ℕ) (bodies : List (List ℕ)) (old new : LaneState L) : Type 0 where
  pub front : List Item
  pub is_front : IsPrefix front (plans_from client 0 bodies)
  pub became : new ≡ with_items old front

-- a plan cuts its bodies into dispatches, all of them
abbrev pub HasItsCounts : ClientBodies → Type 0
HasItsCounts plan = sum plan.counts ≡ length plan.bodies

-- the bodies of each plan
abbrev pub bodies_of_plans : List ClientBodies → List (List (List ℕ))
bodies_of_plans plans = map (λ (p : ClientBodies). p.bodies) plans

-- ---- parts

-- what became of each body of a client stands in its part, dispatch by dispatch
pub record IsWholePart (part : ClientPart) : Type 0 where
  pub each : length part.outcomes ≡ length part.planned.bodies
  pub cut : outcomes_in_order (dispatches_of part) ≡ part.outcomes
