-- What the laws of rounds and of late answers say, for the proofs here: no public clause speaks of it.
use Rattle.std.specs.Prelude.{◌≡◌, ◌⊎◌, ℕ, ◌+◌, ◌*◌, ◌≤◌, true, List, Option, Some, None, length}
use Rattle.ipb_base.specs.Faults.{Rose}
use Rattle.world_model.specs.declared.offered.Offered.{Offered}
use Rattle.world_model.specs.Messages.{ToHub, to_hub}
use Rattle.world_model.specs.Hub.{HandedOut, Hub, after_handing_out, give_up, hands_out, hear_quiet, is_waiting, new_hub}
use Rattle.world_model.specs.Hub.{none_handed_out, offer, take_message, want_status}
use Rattle.world_model.specs.LateAnswers.{AreOfTimedOut}
use Rattle.world_model.specs.Sends.{Next, bytes_to_send, next_send}
use Rattle.links.specs.Telling.{IsGot, IsQuiet, IsSent, Telling}
use Rattle.lane_record.specs.Bounds.{HasReached}
use Rattle.hub_lane.specs.PaidRounds.{IsPaid}
use Rattle.hub_lane.specs.UnderWay.{CanRecover, IsUnderWay}

pub record RoundLaws : Type 0 where
  pub begins : (rounds : ℕ) (hub : Hub) (held : ℕ) (t : Telling) → hub.status_requests ≡ 0
      → IsPaid rounds 0 hub held t
  pub offered : (rounds given_up : ℕ) (hub : Hub) (held : ℕ) (t : Telling) (offered : Offered)
      → IsPaid rounds given_up hub held t → IsPaid rounds given_up (offer hub offered) held t
  pub sent : (rounds given_up : ℕ) (hub : Hub) (next : Next) (before now : ℕ) (old new : Telling)
      → CanRecover hub old → before ≤ now → next_send hub ≡ Some next
      → IsSent (bytes_to_send next.hub next.send) before now old new → IsPaid rounds given_up hub before old
      → IsPaid rounds given_up next.hub now new
  pub got : (rounds given_up : ℕ) (hub : Hub) (bytes : List ℕ) (before now : ℕ) (old new : Telling)
      → CanRecover hub old → before ≤ now → IsGot bytes before now old new
      → IsPaid rounds given_up hub before old
      → IsPaid rounds given_up (take_message hub (to_hub bytes)) now new
  pub quiet : (rounds given_up : ℕ) (hub : Hub) (before now : ℕ) (old new : Telling) → CanRecover hub old
      → before ≤ now → next_send hub ≡ None → is_waiting hub ≡ true → 1 ≤ hub.window → IsQuiet before now old new
      → IsPaid rounds given_up hub before old → IsPaid rounds given_up (want_status hub) now new
  pub gave_up : (rounds given_up : ℕ) (hub : Hub) (before now : ℕ) (old new : Telling) → CanRecover hub old
      → before ≤ now → next_send hub ≡ None → rounds ≤ hub.status_requests → IsQuiet before now old new
      → IsPaid rounds given_up hub before old → IsPaid rounds (given_up + 1) (give_up hub) now new
  pub give_ups : (rounds given_up : ℕ) (hub : Hub) (held : ℕ) (t : Telling) → IsPaid rounds given_up hub held t
      → HasReached (rounds * given_up) held

-- and of what is under way in one
pub record WayLaws : Type 0 where
  pub sent : (hub : Hub) (next : Next) (before now : ℕ) (old new : Telling) → CanRecover hub old
      → next_send hub ≡ Some next → IsSent (bytes_to_send next.hub next.send) before now old new
      → IsUnderWay hub old → IsUnderWay next.hub new ⊎ Rose before now
  pub got : (hub : Hub) (bytes : List ℕ) (before now : ℕ) (old new : Telling) → CanRecover hub old
      → 1 ≤ hub.status_requests → 1 ≤ length hub.open_places → IsGot bytes before now old new
      → IsUnderWay hub old → let after = take_message hub (to_hub bytes) in
      Rose before now ⊎ (after.status_requests ≡ 0) ⊎ IsUnderWay after new
  pub quiet : (hub : Hub) (before now : ℕ) (old new : Telling) → CanRecover hub old → next_send hub ≡ None
      → IsQuiet before now old new → IsUnderWay hub old → Rose before now

-- and of what a hub knows of late answers
pub record LateLaws : Type 0 where
  pub begins : (first window rounds : ℕ) → AreOfTimedOut none_handed_out (new_hub first window rounds)
  pub offered : (before : HandedOut) (hub : Hub) (offered : Offered) → AreOfTimedOut before hub
      → AreOfTimedOut before (offer hub offered)
  pub heard : (before : HandedOut) (hub : Hub) (message : Option ToHub) → AreOfTimedOut before hub
      → AreOfTimedOut before (take_message hub message)
  pub quiet : (before : HandedOut) (hub : Hub) → AreOfTimedOut before hub → AreOfTimedOut before (hear_quiet hub)
  pub sent : (before : HandedOut) (hub : Hub) (next : Next) → AreOfTimedOut before hub → next_send hub ≡ Some next
      → AreOfTimedOut before next.hub
  pub handed_out : (before : HandedOut) (hub : Hub) → AreOfTimedOut before hub
      → AreOfTimedOut (hands_out before hub) (after_handing_out hub)
