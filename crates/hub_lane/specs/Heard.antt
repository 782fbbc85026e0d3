-- What a lane heard, whether its link tells or not. Profile.
use Rattle.std.specs.Prelude.{◌≡◌, ℕ, ◌+◌, ◌*◌, ◌≤◌, List, [], count_by, Option, Some, None}
use Rattle.std.specs.List.{slice_get}
use Rattle.status_packet.specs.declared.status.Status.{Status}
use Rattle.world_model.specs.Messages.{ToHub, StatusReply}
use Rattle.world_model.specs.Hub.{Hub}
use Rattle.links.specs.Receives.{IsReplyAmong, first_status, quiets_in, since_status}
use Rattle.lane_record.specs.declared.outcome.Outcome.{Outcome}
use Rattle.lane_record.specs.declared.outcome.Outcome.TheVariants.{Replied}
use Rattle.lane_record.specs.Bounds.{HasReached}
use Rattle.lane_record.specs.Lates.{late_in}
use Rattle.hub_lane.specs.Calls.{is_replied}
use Rattle.hub_lane.specs.Lanes.{BoardStatus, status_of}

-- The link handed out a datagram for each body that was replied to, and one that answered the greeting.
abbrev pub HasHeard : List (Option Outcome) → ℕ → Type 0
HasHeard outcomes gots = HasReached (count_by is_replied outcomes + 1) gots

-- ---- the greeting

-- a status as a datagram tells it
abbrev pub told_by : BoardStatus → ToHub
told_by status = StatusReply status.mtu status.buffers status.next

-- The last one of these receives got the first datagram that told a status, and it told this one.
pub record EndsWithStatus (status : BoardStatus) (receives : List (Option (List ℕ))) : Type 0 where
  pub told : first_status receives ≡ Some (told_by status)
  pub last : since_status receives ≡ []

-- so they end where a status was found, and else none of them told a status
abbrev pub EndWith : Option Status → List (Option (List ℕ)) → Type 0
EndWith (Some status) receives = EndsWithStatus (status_of status) receives
EndWith None receives = first_status receives ≡ None

-- ---- behind the greeting

-- One of these receives got the reply to each body that was replied to or answered late, and its words are those that
-- the lane has. The first argument is the identifier of place 1.
pub record AreHeard (first : ℕ) (outcomes : List (Option Outcome)) (lates : List (Option (List ℕ)))
    (receives : List (Option (List ℕ))) : Type 0 where
  pub replied : (k place : ℕ) (words : List ℕ) → slice_get outcomes k ≡ Some (Some (Replied place words))
      → IsReplyAmong first place words receives
  pub late : (place : ℕ) (words : List ℕ) → late_in lates place ≡ Some words
      → IsReplyAmong first place words receives

-- Each give-up cost `rounds + 1` of these receives, which were quiet, and the round under way as many as status
-- requests were wanted in it.
abbrev pub HasWaitedIn : ℕ → ℕ → ℕ → List (Option (List ℕ)) → Type 0
HasWaitedIn rounds give_ups status_requests receives =
    (rounds + 1) * give_ups + status_requests ≤ quiets_in receives

-- What the receives of a lane came to: the greeting ended with the first datagram that told a status, which is that of
-- the lane, and what the lane heard and how long it waited is counted behind it.
pub record HasListened (status : BoardStatus) (hub : Hub) (outcomes : List (Option Outcome))
    (lates : List (Option (List ℕ))) (give_ups : ℕ) (receives : List (Option (List ℕ))) : Type 0 where
  pub greeting : first_status receives ≡ Some (told_by status)
  pub heard : AreHeard status.next outcomes lates (since_status receives)
  pub waited : HasWaitedIn hub.rounds give_ups hub.status_requests (since_status receives)
