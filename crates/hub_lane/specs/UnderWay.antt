-- What is under way in a round of the recovery, over a link that tells: while no datagram is held, the status request
-- leads to a status reply, that to a re-send request or a control packet of the lowest open place, and that to its
-- reply. IPbus 2.0, reliability mechanism.
use Rattle.std.specs.Prelude.{◌≡◌, ◌⊎◌, ℕ, ◌+◌, ◌≤◌, true, false, List, [], ◌∷◌, length, Option, Some, None}
use Rattle.std.specs.List.{AllByRecursion, Contains, slice_get}
use Rattle.packet_ids.specs.Identifier.{identifier_at}
use Rattle.world_model.specs.declared.datagram.Datagram.{Datagram}
use Rattle.world_model.specs.declared.datagram.Direction.{Direction}
use Rattle.world_model.specs.declared.datagram.Direction.TheVariants as goes
use Rattle.world_model.specs.declared.offered.Offered.{Offered}
use Rattle.world_model.specs.declared.offered.OpenPlace.{OpenPlace}
use Rattle.world_model.specs.Messages.{ToBoard, ToHub, StatusRequest, ResendRequest, ControlPacket, StatusReply, Reply}
use Rattle.world_model.specs.Messages.{to_board, to_hub}
use Rattle.world_model.specs.Board.{Board, is_too_long}
use Rattle.world_model.specs.Hub.{Hub, places}
use Rattle.world_model.specs.Facts.{has}
use Rattle.world_model.specs.Links.{IsJoined}
use Rattle.links.specs.Telling.{Telling}

-- how many packets the board executed
abbrev pub count_executed : Board → ℕ
count_executed board = length board.log

-- the board will answer so that the round goes on: a status request, a re-send request for an open place that was
-- executed, or the control packet of the next place, which is open
abbrev pub AsksBoard : ℕ → List ℕ → Board → Option ToBoard → Type 0
AsksBoard first ps board None = ⊥
AsksBoard first ps board (Some StatusRequest) = Unit {0}
AsksBoard first ps board (Some (ResendRequest id)) =
    (place : ℕ) × (has place ps ≡ true) × (1 ≤ place) × (place ≤ count_executed board) × (id ≡ identifier_at first place)
AsksBoard first ps board (Some (ControlPacket order id body)) =
    (has (count_executed board + 1) ps ≡ true) × (id ≡ identifier_at first (count_executed board + 1)) × (is_too_long board body ≡ false)

-- the hub will go on in the round: a status reply that tells the next place, or the reply of an open place
abbrev pub TellsHub : ℕ → List ℕ → Board → Option ToHub → Type 0
TellsHub first ps board None = ⊥
TellsHub first ps board (Some (StatusReply mtu buffers next)) = next ≡ identifier_at first (count_executed board + 1)
TellsHub first ps board (Some (Reply id words)) =
    (place : ℕ) × (has place ps ≡ true) × (id ≡ identifier_at first place)

abbrev pub IsUseful : ℕ → List ℕ → Board → Direction → List ℕ → Type 0
IsUseful first ps board goes.ToBoard bytes = AsksBoard first ps board (to_board bytes)
IsUseful first ps board goes.ToHub bytes = TellsHub first ps board (to_hub bytes)

-- such a datagram at this place of the air
pub record IsUsefulAt (first : ℕ) (ps : List ℕ) (board : Board) (air : List Datagram) (place : ℕ) : Type 0 where
  pub d : Datagram
  pub there : slice_get air place ≡ Some d
  pub useful : IsUseful first ps board d.direction d.bytes

-- such a datagram is still to be heard
pub record IsDue (first : ℕ) (ps : List ℕ) (t : Telling) : Type 0 where
  pub place : ℕ
  pub due : Contains t.due place
  pub at : IsUsefulAt first ps t.told.board t.told.air place

-- the hub wants to send one: a re-send request for an open place that was executed, or the control packet of the next
abbrev pub WantsMore : ℕ → List OpenPlace → Type 0
WantsMore executed [] = ⊥
WantsMore executed (o ∷ os) =
    ((o.resend ≡ true) × (1 ≤ o.place) × (o.place ≤ executed)) ⊎ ((o.control ≡ true) × (o.place ≡ executed + 1))
    ⊎ WantsMore executed os

abbrev pub IsUnderWay : Hub → Telling → Type 0
IsUnderWay hub t =
    (hub.status_wanted ≡ true) ⊎ WantsMore (count_executed t.told.board) hub.open_places
    ⊎ IsDue hub.first (places hub.open_places) t

-- a body that the board can take, and answer
abbrev pub CanTake : Board → Offered → Type 0
CanTake board offered = is_too_long board offered.body ≡ false

-- A hub and a link that tells, where each round can come to its end: they are joined, the board holds as many replies
-- as the window has places, and takes every body that was sent.
pub record CanRecover (hub : Hub) (t : Telling) : Type 0 where
  pub joined : IsJoined hub t.told
  pub held : hub.window ≤ t.told.board.buffers
  pub fits : AllByRecursion (CanTake t.told.board) hub.sent
