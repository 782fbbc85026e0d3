-- What the receives of a link came to, in order: each the bytes of a datagram, or none. They stand in its traffic. The
-- greeting of a board ends with the first datagram that tells a status. Profile.
use Rattle.std.specs.Prelude.{◌≡◌, ℕ, Bool, true, false, if◌then◌else◌, List, [], ◌∷◌, ◌++◌, count_by, is_none}
use Rattle.std.specs.Prelude.{Option, Some, None, Result, Ok, Err}
use Rattle.std.specs.List.{Contains}
use Rattle.packet_ids.specs.Identifier.{identifier_at}
use Rattle.world_model.specs.Messages.{ToHub, StatusReply, Reply, to_hub}
use Rattle.reliable_engine.specs.Traffic.{Passed}
use Rattle.reliable_engine.specs.Traffic as passed
use Rattle.links.specs.declared.link.LinkFault.{LinkFault}
use Rattle.links.specs.declared.link.Received.{Received}
use Rattle.links.specs.declared.link.Received.TheVariants.{Got, Quiet}

-- what the receives among what passed came to, in order
abbrev pub receives_in : List Passed → List (Option (List ℕ))
receives_in [] = []
receives_in (passed.Sent bytes ∷ later) = receives_in later
receives_in (passed.Got bytes ∷ later) = Some bytes ∷ receives_in later
receives_in (passed.Quiet ∷ later) = None ∷ receives_in later

-- after one more receive, which left these bytes in its buffer
abbrev pub receives_after : Result Received LinkFault → List ℕ → List (Option (List ℕ)) → List (Option (List ℕ))
receives_after (Ok Got) bytes before = before ++ Some bytes ∷ []
receives_after (Ok Quiet) bytes before = before ++ None ∷ []
receives_after (Err fault) bytes before = before

-- how many of these receives were quiet
abbrev pub quiets_in : List (Option (List ℕ)) → ℕ
quiets_in receives = count_by is_none receives

-- whether a datagram tells a status
abbrev pub tells_status : Option ToHub → Bool
tells_status (Some (StatusReply mtu buffers next)) = true
tells_status (Some (Reply id words)) = false
tells_status None = false

-- the status that was told first, if one was
abbrev pub first_status : List (Option (List ℕ)) → Option ToHub
first_status [] = None
first_status (None ∷ later) = first_status later
first_status (Some bytes ∷ later) = if tells_status (to_hub bytes) then to_hub bytes else first_status later

-- the receives behind it
abbrev pub since_status : List (Option (List ℕ)) → List (Option (List ℕ))
since_status [] = []
since_status (None ∷ later) = since_status later
since_status (Some bytes ∷ later) = if tells_status (to_hub bytes) then later else since_status later

-- One of these receives got a control packet with the identifier of this place, whose body is these words. The first
-- argument is the identifier of place 1.
pub record IsReplyAmong (first place : ℕ) (words : List ℕ) (receives : List (Option (List ℕ))) : Type 0 where
  pub datagram : List ℕ
  pub among : Contains receives (Some datagram)
  pub reply : to_hub datagram ≡ Some (Reply (identifier_at first place) words)
