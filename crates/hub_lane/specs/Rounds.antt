-- What the rounds of a lane cost over a link that tells, and what each call makes of the round that is under way: one
-- that ends without a settled place held a datagram back. Profile.
use Rattle.std.specs.Prelude.{◌≡◌, ◌⊎◌, ℕ, ◌*◌, ◌≤◌, Bool, true, false, List, [], ◌∷◌, Option, Some, IfSome}
use Rattle.std.specs.List.{AllByRecursion, slice_get}
use Rattle.ipb_base.specs.Faults.{Rose}
use Rattle.world_model.specs.Hub.{Hub}
use Rattle.world_model.specs.Settings.{Limits}
use Rattle.links.specs.declared.link.Link.{Ghosts}
use Rattle.links.specs.Telling.{IfTelling, Telling}
use Rattle.lane_record.specs.declared.outcome.Outcome.{Outcome}
use Rattle.lane_record.specs.Bounds.{HasReached}
use Rattle.hub_lane.specs.PaidRounds.{IsPaid}
use Rattle.hub_lane.specs.UnderWay.{CanTake, IsUnderWay}
use Rattle.hub_lane.specs.declared.answers.Pumped.{Pumped}
use Rattle.hub_lane.specs.declared.answers.Pumped.TheVariants.{Reply, Status, Stray, Quiet, Idle, LinkDown}
use Rattle.hub_lane.specs.Calls.{has_stopped}
use Rattle.hub_lane.specs.Lanes.{LaneState}
use Rattle.hub_lane.specs.Hearing.{give_ups_of}
use Rattle.hub_lane.specs.Standing.{IsRunning}

-- A hub that gave up so many times, and a link that tells and held so many datagrams. The board has the MTU that it
-- told, holds as many replies as the window has places, and can take every body that was offered; and the rounds are
-- paid.
pub record PaysRounds (mtu rounds given_up : ℕ) (hub : Hub) (held : ℕ) (t : Telling) : Type 0 where
  pub board : t.told.board.mtu ≡ mtu
  pub some_window : 1 ≤ hub.window
  pub holds : hub.window ≤ t.told.board.buffers
  pub sent : AllByRecursion (CanTake t.told.board) hub.sent
  pub queued : AllByRecursion (CanTake t.told.board) hub.queue
  pub paid : IsPaid rounds given_up hub held t

-- so many give-ups are paid, also of a lane that sends no more
abbrev pub HasPaid : Bool → ℕ → ℕ → ℕ → Hub → ℕ → Telling → Type 0
HasPaid false mtu rounds given_up hub held t = PaysRounds mtu rounds given_up hub held t
HasPaid true mtu rounds given_up hub held t = HasReached (rounds * given_up) held

-- where the rounds of a hub were paid they are so after some sends
abbrev pub PaysOn : Option Telling → Hub → ℕ → Option Telling → Hub → ℕ → Type 0
PaysOn old_telling old before new_telling new now = (limits : Limits) (outcomes : List (Option Outcome))
    (lates : List (Option (List ℕ))) (mtu rounds given_up : ℕ)
    → IfSome old_telling (IsRunning limits old outcomes lates)
    → IfSome old_telling (PaysRounds mtu rounds given_up old before)
    → IfSome new_telling (PaysRounds mtu rounds given_up new now)

-- and after a receive that came to this
abbrev pub PaysFor : Pumped → Option Telling → Hub → ℕ → Option Telling → Hub → ℕ → Type 0
PaysFor pumped old_telling old before new_telling new now = (limits : Limits) (outcomes : List (Option Outcome))
    (lates : List (Option (List ℕ))) (mtu given_up : ℕ) → IfSome old_telling (IsRunning limits old outcomes lates)
    → IfSome old_telling (PaysRounds mtu old.rounds given_up old before)
    → IfSome new_telling (PaysRounds mtu old.rounds (give_ups_of pumped new given_up) new now)

-- ---- the round that is under way

-- While a round is under way, so is something in it.
abbrev pub GoesOnInRound : Hub → Telling → Type 0
GoesOnInRound hub t = 1 ≤ hub.status_requests → IsUnderWay hub t

-- A lane over a link that tells, as its rounds see it: its hub, whether it sends no more, what its link tells, and how
-- many datagrams that held.
pub record RoundState : Type 0 where
  pub hub : Hub
  pub stopped : Bool
  pub told : Telling
  pub held : ℕ

-- a call that sends and does not receive, as an ask, or a pump that came to this
pub data LaneCall : Type 0 where
  Sends : LaneCall
  Pumps : Pumped → LaneCall

-- The round is the same one, and what was under way in it still is, or datagrams were held in the call.
pub record KeepsRound (old new : RoundState) : Type 0 where
  pub same : new.hub.status_requests ≡ old.hub.status_requests
  pub way : GoesOnInRound old.hub old.told → GoesOnInRound new.hub new.told ⊎ Rose old.held new.held

-- A receive was quiet although something was under way in a round: datagrams were held in the call. Where a round
-- begins with it, the status request of that round is wanted.
pub record EndsInSilence (old new : RoundState) : Type 0 where
  pub held : 1 ≤ old.hub.status_requests → IsUnderWay old.hub old.told → Rose old.held new.held
  pub wanted : 1 ≤ new.hub.status_requests → new.hub.status_wanted ≡ true

-- What a call makes of the round: a reply ends it, a quiet receive ends it and may begin the next one, and all else
-- keeps it, unless the lane has stopped.
abbrev pub RoundAfter : LaneCall → RoundState → RoundState → Type 0
RoundAfter Sends old new = new.stopped ≡ false → KeepsRound old new
RoundAfter (Pumps (Reply place)) old new = new.hub.status_requests ≡ 0
RoundAfter (Pumps Status) old new = KeepsRound old new
RoundAfter (Pumps Stray) old new = KeepsRound old new
RoundAfter (Pumps Quiet) old new = EndsInSilence old new
RoundAfter (Pumps Idle) old new = KeepsRound old new
RoundAfter (Pumps LinkDown) old new = new.stopped ≡ true

abbrev pub round_of : {L : Type 0} → LaneState L → ℕ → Telling → RoundState
round_of lane held t = record { hub = lane.hub; stopped = has_stopped lane; told = t; held = held }

-- the same of a lane, where its link tells
abbrev pub LaneRound : {L : Type 0} → Ghosts L → LaneCall → LaneState L → LaneState L → Type 0
LaneRound seen call old new = IfTelling (seen.telling old.link) (seen.telling new.link)
    (λ t u. RoundAfter call (round_of old (seen.held old.link) t) (round_of new (seen.held new.link) u))

-- one call of a lane that has not stopped after it
pub record IsCall (call : LaneCall) (old new : RoundState) : Type 0 where
  pub up : new.stopped ≡ false
  pub held : old.held ≤ new.held
  pub round : RoundAfter call old new

-- calls one after another, each with the lane behind it
abbrev pub AreCalls : RoundState → List (LaneCall × RoundState) → RoundState → Type 0
AreCalls first [] last = last ≡ first
AreCalls first ((call, after) ∷ later) last = IsCall call first after × AreCalls after later last

-- one of these calls settled a place
pub record SettlesOne (calls : List (LaneCall × RoundState)) : Type 0 where
  pub number : ℕ
  pub place : ℕ
  pub after : RoundState
  pub there : slice_get calls number ≡ Some (Pumps (Reply place), after)

-- ---- within one call

abbrev pub in_round : Hub → ℕ → Telling → RoundState
in_round hub held t = record { hub = hub; stopped = false; told = t; held = held }

-- what some sends, or a receive, make of the round, where the rounds of the hub were paid
abbrev pub RoundFor : LaneCall → Option Telling → Hub → ℕ → Option Telling → Hub → ℕ → Type 0
RoundFor call old_telling old before new_telling new now = (limits : Limits) (outcomes : List (Option Outcome))
    (lates : List (Option (List ℕ))) (mtu rounds given_up : ℕ)
    → IfSome old_telling (IsRunning limits old outcomes lates)
    → IfSome old_telling (PaysRounds mtu rounds given_up old before)
    → IfTelling old_telling new_telling (λ t u. RoundAfter call (in_round old before t) (in_round new now u))
