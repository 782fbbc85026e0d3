-- What passes over a link, and which of its sends are first sends. Profile.
use Rattle.std.specs.Prelude.{◌≡◌, ◌⊎◌, ℕ, ◌+◌, ◌≤◌, Bool, true, false, if◌then◌else◌, List, [], ◌∷◌, length}
use Rattle.std.specs.Prelude.{Option, Some, None}
use Rattle.packet_ids.specs.Identifier.{identifier_at}
use Rattle.packet_codec.specs.declared.packet.Order.TheVariants.{Big}
use Rattle.packet_codec.specs.declared.packet.Packet.{Packet}
use Rattle.packet_codec.specs.Packet.{IsPacket, packet_bytes}
use Rattle.status_packet.specs.Packets.{resend_request, status_request}
use Rattle.world_model.specs.declared.datagram.Direction.TheVariants.{ToBoard}
use Rattle.world_model.specs.declared.offered.Offered.{Offered}
use Rattle.world_model.specs.Places.{at_place}
use Rattle.world_model.specs.Messages.{ToBoard as MessageToBoard, StatusRequest, ResendRequest, ControlPacket}
use Rattle.world_model.specs.Messages.{control_packet, to_board}
use Rattle.world_model.specs.Links.{is_first_send}

-- what a call of a link came to: these bytes were sent, these were received, or nothing came in the time that it waits
pub data Passed : Type 0 where
  Sent : List ℕ → Passed
  Got : List ℕ → Passed
  Quiet : Passed

-- The first sends among what passed, after `count` earlier ones: each is the control packet with the identifier of the
-- next place. `first` is the identifier of place 1.
abbrev pub first_sends_in : ℕ → ℕ → List Passed → List (List ℕ)
first_sends_in first count [] = []
first_sends_in first count (Sent bytes ∷ later) =
    if is_first_send first count ToBoard bytes
    then bytes ∷ first_sends_in first (count + 1) later
    else first_sends_in first count later
first_sends_in first count (Got bytes ∷ later) = first_sends_in first count later
first_sends_in first count (Quiet ∷ later) = first_sends_in first count later

-- the control packet of a body at a place, in the byte order of a hub
abbrev pub packet_at : ℕ → ℕ → Offered → Packet
packet_at first place offered = control_packet Big (identifier_at first place) offered.body

-- the packets of bodies that stand at the places from this one on, as bytes
abbrev pub packets_from : ℕ → ℕ → List Offered → List (List ℕ)
packets_from first place [] = []
packets_from first place (offered ∷ later) =
    packet_bytes (packet_at first place offered) ∷ packets_from first (place + 1) later

-- the request for the reply of one of the places that were sent
pub record IsResendOf (first sent : ℕ) (bytes : List ℕ) : Type 0 where
  pub place : ℕ
  pub from_one : 1 ≤ place
  pub up_to_last : place ≤ sent
  pub bytes_are : bytes ≡ packet_bytes (resend_request (identifier_at first place))

-- the control packet of one of the bodies that were sent
pub record IsPacketOf (first : ℕ) (sent : List Offered) (bytes : List ℕ) : Type 0 where
  pub place : ℕ
  pub offered : Offered
  pub there : at_place sent place ≡ Some offered
  pub bytes_are : bytes ≡ packet_bytes (packet_at first place offered)

-- what a hub may send that has sent these bodies first: a status request, a re-send request or a control packet
abbrev pub IsSendWith : ℕ → List Offered → List ℕ → Type 0
IsSendWith first sent bytes =
    (bytes ≡ packet_bytes status_request) ⊎ IsResendOf first (length sent) bytes ⊎ IsPacketOf first sent bytes

-- what holds of the bytes, where something was sent
abbrev pub IfSent : (List ℕ → Type 0) → Passed → Type 0
IfSent holds (Sent bytes) = holds bytes
IfSent holds (Got bytes) = Unit {0}
IfSent holds Quiet = Unit {0}

-- the bytes are those of a packet
pub record SpellPacket (bytes : List ℕ) : Type 0 where
  pub packet : Packet
  pub is_packet : IsPacket packet
  pub bytes_are : bytes ≡ packet_bytes packet

-- whether a datagram asks a board for its status
abbrev pub asks_status : Option MessageToBoard → Bool
asks_status None = false
asks_status (Some StatusRequest) = true
asks_status (Some (ResendRequest id)) = false
asks_status (Some (ControlPacket order id body)) = false

-- how many status requests were sent
abbrev pub status_requests_in : List Passed → ℕ
status_requests_in [] = 0
status_requests_in (Sent bytes ∷ later) =
    (if asks_status (to_board bytes) then 1 else 0) + status_requests_in later
status_requests_in (Got bytes ∷ later) = status_requests_in later
status_requests_in (Quiet ∷ later) = status_requests_in later

-- how many of the receives were quiet
abbrev pub quiet_receives : List Passed → ℕ
quiet_receives [] = 0
quiet_receives (Sent bytes ∷ later) = quiet_receives later
quiet_receives (Got bytes ∷ later) = quiet_receives later
quiet_receives (Quiet ∷ later) = 1 + quiet_receives later
