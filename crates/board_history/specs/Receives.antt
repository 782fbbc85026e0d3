-- What the receives of a link brought of its board, whether the link tells or not. Profile.
use Rattle.std.specs.Prelude.{◌≡◌, ℕ, List, Option, Some, None}
use Rattle.ipb_base.specs.Numbers.{payload_of}
use Rattle.world_model.specs.Messages.{StatusReply}
use Rattle.links.specs.Receives.{IsReplyAmong, first_status, quiets_in, receives_in, since_status}
use Rattle.lane_record.specs.declared.outcome.Outcome.{Outcome}
use Rattle.lane_record.specs.declared.outcome.Outcome.TheVariants.{Replied, TimedOut, Unsent, LinkLost}
use Rattle.board_history.specs.Links.{LinkReport}

-- The first datagram that told a status told an MTU whose packets have this payload.
pub record HasToldPayload (link : LinkReport) (payload : ℕ) : Type 0 where
  pub mtu : ℕ
  pub buffers : ℕ
  pub first : ℕ
  pub status : first_status (receives_in link.traffic) ≡ Some (StatusReply mtu buffers first)
  pub packets : payload ≡ payload_of mtu

-- how many receives behind the status were quiet: those of the greeting are left out
abbrev pub quiets_since_status : LinkReport → ℕ
quiets_since_status link = quiets_in (since_status (receives_in link.traffic))

-- A datagram behind the status brought the reply to the packet of this place: a control packet with its identifier,
-- counted from the one that the status tells, whose body is these words.
pub record HasBroughtReply (link : LinkReport) (place : ℕ) (words : List ℕ) : Type 0 where
  pub mtu : ℕ
  pub buffers : ℕ
  pub first : ℕ
  pub status : first_status (receives_in link.traffic) ≡ Some (StatusReply mtu buffers first)
  pub among : IsReplyAmong first place words (since_status (receives_in link.traffic))

-- the link brought the words of a body that was replied to
abbrev pub IsReplyBrought : LinkReport → Outcome → Type 0
IsReplyBrought link (Replied place words) = HasBroughtReply link place words
IsReplyBrought link (TimedOut place rounds) = Unit {0}
IsReplyBrought link Unsent = Unit {0}
IsReplyBrought link (LinkLost place) = Unit {0}

-- and those of the late answer of a body that was timed out; no other body has one
abbrev pub IsLateBrought : LinkReport → Outcome → Option (List ℕ) → Type 0
IsLateBrought link outcome None = Unit {0}
IsLateBrought link (TimedOut place rounds) (Some words) = HasBroughtReply link place words
IsLateBrought link other (Some words) = ⊥
