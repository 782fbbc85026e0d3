-- What follows of the greetings of a berth. Profile.
use Rattle.std.specs.Prelude.{List, IfSome}
use Rattle.std.specs.List.{AllByRecursion}
use Rattle.links.specs.Receives.{receives_in}
use Rattle.links.specs.declared.link.Link.{Ghosts}
use Rattle.world_model.specs.Facts.{bodies_of}
use Rattle.lane_record.specs.Claims.{IsFinished}
use Rattle.lane_record.specs.Legal.{IsLegal}
use Rattle.hub_lane.specs.Lanes.{LaneState}
use Rattle.hub_lane.specs.Truth.{IsTrueTo, IsWhole}
use Rattle.board_berth.specs.declared.greeting.Greeting.{Greeting}
use Rattle.board_berth.specs.Greetings.{IfAnswered}

-- A greeting that was answered has one legal record over its own link; where that tells, the board executed a front of
-- the bodies that were sent in this greeting, in order, and the replies are its own.
pub record HasRecord {L : Type 0} (seen : Ghosts L) (lane : LaneState L) : Type 0 where
  pub legal : IsLegal lane.items lane.outcomes
  pub truth : IfSome (seen.telling lane.link)
      (λ t. IsTrueTo t (bodies_of lane.hub.sent) lane.outcomes lane.lates)

abbrev pub HaveRecords : {L : Type 0} → Ghosts L → List (Greeting L) → Type 0
HaveRecords seen greetings = AllByRecursion (IfAnswered (HasRecord seen)) greetings

-- Each body that was asked in a greeting has its Took in the record of that greeting, which is whole.
pub record HasWholeRecord {L : Type 0} (seen : Ghosts L) (lane : LaneState L) : Type 0 where
  pub finished : IsFinished lane.items
  pub whole : IsWhole lane.items lane.lates lane.hub.sent lane.hub.window lane.hub.rounds lane.give_ups
      (seen.faults lane.link) (seen.quiets lane.link) lane.status (receives_in (seen.traffic lane.link))
      (seen.telling lane.link)

abbrev pub HaveWholeRecords : {L : Type 0} → Ghosts L → List (Greeting L) → Type 0
HaveWholeRecords seen greetings = AllByRecursion (IfAnswered (HasWholeRecord seen)) greetings
