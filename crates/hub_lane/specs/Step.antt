-- What a step of a client does to a lane, and what a look does. Profile.
use Rattle.std.specs.Prelude.{◌≡◌, ◌⊎◌, ℕ, None, Some}
use Rattle.std.specs.List.{slice_get}
use Rattle.ipb_base.specs.Faults.{Rose}
use Rattle.lane_record.specs.declared.outcome.Outcome.{Outcome}
use Rattle.lane_record.specs.Claims.{Claim, IsAskOf}
use Rattle.lane_tables.specs.Taken.{HasTakenAll, IsOldest}
use Rattle.hub_lane.specs.Lanes.{LaneState}
use Rattle.links.specs.Receives.{receives_in}
use Rattle.links.specs.Telling.{IfTelling}
use Rattle.links.specs.declared.link.Link.{Ghosts}
use Rattle.hub_lane.specs.Calls.{IsSameRecord, PumpsAs, Takes, TakesNothing}
use Rattle.hub_lane.specs.Carrying.{Pumping}
use Rattle.hub_lane.specs.declared.answers.Pumped.{Pumped}
use Rattle.hub_lane.specs.declared.step.Looked.{Looked}
use Rattle.hub_lane.specs.declared.step.Looked.TheVariants as looks
use Rattle.hub_lane.specs.declared.step.Stepped.{Stepped}
use Rattle.hub_lane.specs.declared.step.Stepped.TheVariants as steps

-- What became of the client's oldest asked and untaken body was taken, of a lane whose record is the old one, after one
-- pump at most.
pub record StepsToOutcome {L : Type 0} (old : LaneState L) (client : ℕ) (outcome : Outcome) (new : LaneState L)
    : Type 0 where
  pub seq : ℕ
  pub oldest : IsOldest old.items client seq
  pub pumped : LaneState L
  pub same : IsSameRecord old pumped
  pub takes : Takes pumped client seq new outcome

-- nothing became of it yet, after one pump
pub record StepsInVain {L : Type 0} (old : LaneState L) (client : ℕ) (new : LaneState L) : Type 0 where
  pub seq : ℕ
  pub oldest : IsOldest old.items client seq
  pub same : IsSameRecord old new
  pub number : ℕ
  pub claim : Claim
  pub ask : IsAskOf new.items number client seq claim
  pub none_yet : slice_get new.outcomes number ≡ Some None

abbrev pub StepsAs : {L : Type 0} → LaneState L → ℕ → LaneState L → Stepped → Type 0
StepsAs old client new (steps.Ready outcome) = StepsToOutcome old client outcome new
StepsAs old client new (steps.NotYet turned) = StepsInVain old client new
StepsAs old client new steps.Nothing = (new ≡ old) × HasTakenAll old.items client

-- a step that found no outcome received a datagram, or none in the time that the link waits
abbrev pub RoseInVain : {L : Type 0} → Ghosts L → Stepped → L → L → Type 0
RoseInVain seen (steps.Ready outcome) old new = Unit {0}
RoseInVain seen (steps.NotYet turned) old new =
    Rose (seen.quiets old) (seen.quiets new) ⊎ Rose (seen.gots old) (seen.gots new)
RoseInVain seen steps.Nothing old new = Unit {0}

-- ---- look

-- what became of the client's oldest asked and untaken body was taken
pub record LooksAtOutcome {L : Type 0} (old : LaneState L) (client : ℕ) (outcome : Outcome) (new : LaneState L)
    : Type 0 where
  pub seq : ℕ
  pub oldest : IsOldest old.items client seq
  pub takes : Takes old client seq new outcome

-- nothing became of it yet
pub record LooksInVain {L : Type 0} (old : LaneState L) (client : ℕ) (new : LaneState L) : Type 0 where
  pub seq : ℕ
  pub oldest : IsOldest old.items client seq
  pub none_yet : TakesNothing old client seq new

abbrev pub LooksAs : {L : Type 0} → LaneState L → ℕ → LaneState L → Looked → Type 0
LooksAs old client new (looks.Ready outcome) = LooksAtOutcome old client outcome new
LooksAs old client new looks.NotYet = LooksInVain old client new
LooksAs old client new looks.Nothing = (new ≡ old) × HasTakenAll old.items client

-- ---- what a step does to its link

-- one pump that came to this: what the lane became and its link received, and what the link carried
pub record IsPump {L : Type 0} (seen : Ghosts L) (old : LaneState L) (came_to : Pumped) (new : LaneState L)
    : Type 0 where
  pub became : PumpsAs old (seen.telling new.link) (receives_in (seen.traffic old.link))
      (receives_in (seen.traffic new.link)) new came_to
  pub carried : IfTelling (seen.telling old.link) (seen.telling new.link) (Pumping came_to old.hub new.hub)

-- nothing became of the client's oldest asked and untaken body so far, and then the lane was pumped once
pub record PumpsOnce {L : Type 0} (seen : Ghosts L) (old : LaneState L) (client : ℕ) (new : LaneState L) : Type 0 where
  pub first : LooksInVain old client old
  pub came_to : Pumped
  pub pump : IsPump seen old came_to new

-- nothing became of it so far, and it was taken after one pump
pub record TakesAfterPump {L : Type 0} (seen : Ghosts L) (old : LaneState L) (client : ℕ) (outcome : Outcome) (new : LaneState L)
    : Type 0 where
  pub pumped : LaneState L
  pub once : PumpsOnce seen old client pumped
  pub looks : LooksAtOutcome pumped client outcome new

-- Where the outcome is there it is taken, and all but the entry of that is as before, the link too. Where it is not,
-- the lane is pumped once.
abbrev pub StepsOnce : {L : Type 0} → Ghosts L → LaneState L → ℕ → LaneState L → Stepped → Type 0
StepsOnce seen old client new (steps.Ready outcome) =
    LooksAtOutcome old client outcome new ⊎ TakesAfterPump seen old client outcome new
StepsOnce seen old client new (steps.NotYet turned) = PumpsOnce seen old client new
StepsOnce seen old client new steps.Nothing = Unit {0}
