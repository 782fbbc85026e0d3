-- What each call does to a lane. Profile.
use Rattle.std.specs.Prelude.{◌≡◌, ◌⊎◌, ℕ, ◌≤◌, Bool, true, false, ◌||◌, if◌then◌else◌, List, [], ◌∷◌, ◌++◌, length}
use Rattle.std.specs.Prelude.{Option, Some, None, IfSome}
use Rattle.std.specs.List.{slice_get}
use Rattle.world_model.specs.Hub.{Hub, after_handing_out, is_waiting, offer}
use Rattle.reliable_engine.specs.MachineRuns as events
use Rattle.links.specs.Telling.{Telling}
use Rattle.lane_record.specs.declared.outcome.Outcome.{Outcome}
use Rattle.lane_record.specs.declared.outcome.Outcome.TheVariants.{Replied, LinkLost}
use Rattle.lane_record.specs.declared.item.Item.{Item}
use Rattle.lane_record.specs.NextEntry.{ask_of, the_seal, took_of}
use Rattle.lane_record.specs.Items.{asked_count, told_by_first, is_sealed, plan_in, planned_count, took_in}
use Rattle.lane_record.specs.Claims.{Claim, IsAskOf}
use Rattle.lane_record.specs.Lates.{KeepsLates, put_lates}
use Rattle.lane_record.specs.Outcomes.{IsShort}
use Rattle.lane_record.specs.Offers.{KeepsOutcomes, all_lost, put_all}
use Rattle.hub_lane.specs.declared.answers.Asked.{Asked}
use Rattle.hub_lane.specs.declared.answers.Asked.TheVariants as asks
use Rattle.hub_lane.specs.declared.answers.Pumped.{Pumped}
use Rattle.hub_lane.specs.declared.answers.Pumped.TheVariants.{Reply, Status, Stray, Quiet, Idle, LinkDown}
use Rattle.hub_lane.specs.declared.answers.Taken.{Taken}
use Rattle.hub_lane.specs.declared.answers.Taken.TheVariants.{Ready, NotYet}
use Rattle.hub_lane.specs.Carrying.{HasPut}
use Rattle.hub_lane.specs.Sends.{HasSent, all_sent}
use Rattle.hub_lane.specs.Hearing.{IsEventAs, WasReceived, give_ups_of, hub_after, receives_of}
use Rattle.hub_lane.specs.Lanes.{LaneState, with_item}

-- a Seal is the next entry, unless one stands there
abbrev pub with_seal : {L : Type 0} → LaneState L → LaneState L
with_seal lane = if is_sealed lane.items then lane else with_item lane the_seal

-- ---- ask

-- the client's next body, which was planned
pub record IsNextAsk (items : List Item) (client seq : ℕ) (body : List ℕ) : Type 0 where
  pub number : seq ≡ asked_count client items
  pub planned_there : told_by_first plan_in client seq items ≡ Some body

-- the engine is offered the body under the number of the Ask
abbrev pub with_offer : {L : Type 0} → LaneState L → ℕ → ℕ → List ℕ → LaneState L
with_offer lane client seq body = record (with_item lane (ask_of client seq lane.give_ups)) {
  hub = offer lane.hub (record { tag = length lane.outcomes; body = body });
  outcomes = lane.outcomes ++ None ∷ [];
  lates = lane.lates ++ None ∷ [];
  run = lane.run ++ events.Offer (length lane.outcomes) body ∷ [];
}

-- the link failed before
abbrev pub asked_in_vain : {L : Type 0} → LaneState L → ℕ → ℕ → LaneState L
asked_in_vain lane client seq = record (with_item lane (ask_of client seq lane.give_ups)) {
  outcomes = lane.outcomes ++ Some (LinkLost None) ∷ [];
  lates = lane.lates ++ None ∷ [];
}

-- the client's next body stands asked, and nothing was sent
pub record Offers {L : Type 0} (old : LaneState L) (client seq : ℕ) (new : LaneState L) : Type 0 where
  pub body : List ℕ
  pub next : IsNextAsk old.items client seq body
  pub became : new ≡ (if old.down then asked_in_vain old client seq else with_offer old client seq body)

abbrev pub OffersAs : {L : Type 0} → LaneState L → ℕ → LaneState L → Asked → Type 0
OffersAs old client new (asks.Asked seq) = Offers old client seq new
OffersAs old client new asks.Nothing = (new ≡ old) × (asked_count client old.items ≡ planned_count client old.items)

-- ---- sends

-- no entry is added, and what became of an Ask stays, and what came late
pub record IsSameRecord {L : Type 0} (old new : LaneState L) : Type 0 where
  pub number : new.number ≡ old.number
  pub settings : new.settings ≡ old.settings
  pub status : new.status ≡ old.status
  pub items : new.items ≡ old.items
  pub outcomes : KeepsOutcomes old.outcomes new.outcomes
  pub lates : KeepsLates old.lates new.lates
  pub give_ups : old.give_ups ≤ new.give_ups

-- a lane that sends no more: its link failed, or it ran out of memory in a send or a receive
abbrev pub has_stopped : {L : Type 0} → LaneState L → Bool
has_stopped lane = lane.down || lane.spent

-- all that the hub wanted was sent
pub record SendsAll {L : Type 0} (old new : LaneState L) : Type 0 where
  pub hub : new.hub ≡ all_sent old.hub
  pub outcomes : new.outcomes ≡ old.outcomes
  pub lates : new.lates ≡ old.lates
  pub give_ups : new.give_ups ≡ old.give_ups
  pub down : new.down ≡ false
  pub spent : new.spent ≡ false

-- The link failed after some sends: what was without an outcome is lost, with its place where it was sent.
pub record GoesDown {L : Type 0} (old new : LaneState L) : Type 0 where
  pub hub : HasSent old.hub new.hub
  pub outcomes : new.outcomes ≡ all_lost (length new.hub.sent) old.outcomes
  pub lates : new.lates ≡ old.lates
  pub give_ups : new.give_ups ≡ old.give_ups
  pub down : new.down ≡ true
  pub spent : new.spent ≡ false

-- memory ran out: some sends were taken from the hub
pub record IsSpent {L : Type 0} (old new : LaneState L) : Type 0 where
  pub spent : new.spent ≡ true
  pub hub : HasSent old.hub new.hub
  pub outcomes : new.outcomes ≡ old.outcomes
  pub lates : new.lates ≡ old.lates
  pub give_ups : new.give_ups ≡ old.give_ups
  pub down : new.down ≡ old.down

-- a lane that has stopped, or on which nobody waits for a body, sends nothing
abbrev pub HasNoSends : {L : Type 0} → LaneState L → Type 0
HasNoSends lane = (has_stopped lane ≡ true) ⊎ (is_waiting lane.hub ≡ false)

-- such a lane stays as it was; any other one sends all, or goes down, or is spent
abbrev pub SendsAs : {L : Type 0} → LaneState L → LaneState L → Type 0
SendsAs old new = (HasNoSends old × (new ≡ old))
    ⊎ ((has_stopped old ≡ false) × (is_waiting old.hub ≡ true)
    × (SendsAll old new ⊎ GoesDown old new ⊎ IsSpent old new))

-- the client's next body was asked, and then the lane sent
pub record Asks {L : Type 0} (old : LaneState L) (client seq : ℕ) (new : LaneState L) : Type 0 where
  pub asked : LaneState L
  pub offers : Offers old client seq asked
  pub sends : SendsAs asked new
  pub same : IsSameRecord asked new

abbrev pub AsksAs : {L : Type 0} → LaneState L → ℕ → LaneState L → Asked → Type 0
AsksAs old client new (asks.Asked seq) = Asks old client seq new
AsksAs old client new asks.Nothing = (new ≡ old) × (asked_count client old.items ≡ planned_count client old.items)

-- What an ask does to a link that tells: once the client's next body was offered, all that the hub wanted went into the
-- air. Of a link that fails nothing more is said here.
abbrev pub Asking : {L : Type 0} → LaneState L → ℕ → LaneState L → Asked → Telling → Telling → Type 0
Asking old client new (asks.Asked seq) before after = has_stopped new ≡ false → (body : List ℕ)
    → told_by_first plan_in client seq old.items ≡ Some body → HasPut (with_offer old client seq body).hub new.hub before after
Asking old client new asks.Nothing before after = after ≡ before

-- ---- pump

-- The hub after an event, its fates among the outcomes, and its late answers at their places. A quiet receive after
-- which nobody waits was a give-up.
pub record Became {L : Type 0} (old : LaneState L) (event : Hub) (pumped : Pumped) (new : LaneState L) : Type 0 where
  pub hub : new.hub ≡ after_handing_out event
  pub outcomes : new.outcomes ≡ put_all event.fates old.outcomes
  pub lates : new.lates ≡ put_lates event.lates old.lates
  pub give_ups : new.give_ups ≡ give_ups_of pumped event old.give_ups
  pub down : new.down ≡ false
  pub spent : new.spent ≡ false

-- All sends went out, and then came a datagram of these bytes, or none: that alone joined what the link received
-- before, and from it the lane became what it is now.
pub record HasReceived {L : Type 0} (old : LaneState L) (telling : Option Telling) (before now : List (Option (List ℕ)))
    (pumped : Pumped) (new : LaneState L) : Type 0 where
  pub waited : is_waiting old.hub ≡ true
  pub bytes : List ℕ
  pub event : IsEventAs (all_sent old.hub) bytes pumped
  pub receives : now ≡ receives_of pumped bytes before
  pub received : IfSome telling (WasReceived pumped bytes)
  pub became : Became old (hub_after pumped bytes (all_sent old.hub)) pumped new

-- `before` and `now` are what the receives of the link came to: the same where nobody waits or the link fails.
abbrev pub PumpsAs : {L : Type 0} → LaneState L → Option Telling → List (Option (List ℕ)) → List (Option (List ℕ))
    → LaneState L → Pumped → Type 0
PumpsAs old telling before now new (Reply place) = HasReceived old telling before now (Reply place) new
PumpsAs old telling before now new Status = HasReceived old telling before now Status new
PumpsAs old telling before now new Stray = HasReceived old telling before now Stray new
PumpsAs old telling before now new Quiet = HasReceived old telling before now Quiet new
PumpsAs old telling before now new Idle =
    (new ≡ old) × (is_waiting old.hub ≡ false) × (old.down ≡ false) × (now ≡ before)
PumpsAs old telling before now new LinkDown = (now ≡ before) × (((old.down ≡ true) × (new ≡ old))
    ⊎ ((old.down ≡ false) × (is_waiting old.hub ≡ true) × GoesDown old new))

-- ---- take

-- this body was asked under this number, and not taken
pub record IsUntaken (items : List Item) (client seq k : ℕ) : Type 0 where
  pub claim : Claim
  pub ask : IsAskOf items k client seq claim
  pub once : told_by_first took_in client seq items ≡ None

-- the body was asked and not taken
pub record WasAsked (items : List Item) (client seq : ℕ) : Type 0 where
  pub number : ℕ
  pub untaken : IsUntaken items client seq number

-- what became of it, and its Took as the next entry
pub record Takes {L : Type 0} (old : LaneState L) (client seq : ℕ) (new : LaneState L) (outcome : Outcome) : Type 0
  where
    pub number : ℕ
    pub untaken : IsUntaken old.items client seq number
    pub became : slice_get old.outcomes number ≡ Some (Some outcome)
    pub short : IsShort outcome
    pub entry : new ≡ with_item old (took_of client seq outcome old.give_ups)

pub record TakesNothing {L : Type 0} (old : LaneState L) (client seq : ℕ) (new : LaneState L) : Type 0 where
  pub number : ℕ
  pub untaken : IsUntaken old.items client seq number
  pub none_yet : slice_get old.outcomes number ≡ Some None
  pub same : new ≡ old

abbrev pub TakesAs : {L : Type 0} → LaneState L → ℕ → ℕ → LaneState L → Taken → Type 0
TakesAs old client seq new (Ready outcome) = Takes old client seq new outcome
TakesAs old client seq new NotYet = TakesNothing old client seq new

-- ---- what is read

-- an outcome is this reply at this place
abbrev pub IsReplyOf : Option Outcome → ℕ → List ℕ → Type 0
IsReplyOf outcome place words = outcome ≡ Some (Replied place words)

-- a client got, or will get, this reply at this place
pub record IsReplyAt (outcomes : List (Option Outcome)) (place : ℕ) (words : List ℕ) : Type 0 where
  pub number : ℕ
  pub there : slice_get outcomes number ≡ Some (Some (Replied place words))

abbrev pub is_replied : Option Outcome → Bool
is_replied (Some (Replied place words)) = true
is_replied other = false

abbrev pub is_lost_at_place : Option Outcome → Bool
is_lost_at_place (Some (LinkLost (Some place))) = true
is_lost_at_place other = false
