-- A link that tells its datagrams, seen by its board and its air alone: what its calls may do, and how it stands to the
-- hub that uses it. It counts first sends by itself, from the control packets that it carries. Profile.
use Rattle.std.specs.Prelude.{◌≡◌, ℕ, ◌+◌, ◌==◌, Bool, true, false, if◌then◌else◌, List, [], ◌∷◌, ◌++◌, length, Option}
use Rattle.std.specs.Prelude.{Some, None}
use Rattle.std.specs.List.{slice_get}
use Rattle.packet_ids.specs.Identifier.{identifier_at}
use Rattle.world_model.specs.declared.datagram.Datagram.{Datagram}
use Rattle.world_model.specs.declared.datagram.Direction.{Direction}
use Rattle.world_model.specs.declared.datagram.Direction.TheVariants.{ToBoard, ToHub}
use Rattle.world_model.specs.Messages.{ToBoard as MessageToBoard, StatusRequest, ResendRequest, ControlPacket, to_board}
use Rattle.world_model.specs.Board.{Board, hear}
use Rattle.world_model.specs.Hub.{Hub}
use Rattle.world_model.specs.Air.{is_alive, goes_to}
use Rattle.world_model.specs.World.{World, air_after_answer}
use Rattle.world_model.specs.Facts.{IsSound}

pub record Told : Type 0 where
  pub board : Board
  pub air : List Datagram

-- The link knows a first send by its number: a control packet for the board that carries the identifier which no
-- earlier one had in turn.
abbrev pub is_first_message : ℕ → ℕ → Option MessageToBoard → Bool
is_first_message first count None = false
is_first_message first count (Some StatusRequest) = false
is_first_message first count (Some (ResendRequest id)) = false
is_first_message first count (Some (ControlPacket order id body)) = id == identifier_at first (count + 1)

abbrev pub is_first_send : ℕ → ℕ → Direction → List ℕ → Bool
is_first_send first count ToBoard bytes = is_first_message first count (to_board bytes)
is_first_send first count ToHub bytes = false

-- the number of first sends among datagrams, after `count` earlier ones
abbrev pub first_sends_from : ℕ → ℕ → List Datagram → ℕ
first_sends_from first count [] = count
first_sends_from first count (datagram ∷ air) =
    first_sends_from first (if is_first_send first count datagram.direction datagram.bytes then count + 1 else count)
    air

abbrev pub first_sends : Told → ℕ
first_sends told = first_sends_from told.board.first 0 told.air

-- A send adds one datagram for the board to the end of the air, itself counted at its birth where it is a first send.
abbrev pub birth_of : Told → List ℕ → ℕ
birth_of told bytes =
    if is_first_send told.board.first (first_sends told) ToBoard bytes then first_sends told + 1 else first_sends told

abbrev pub sent_on : Told → List ℕ → Told
sent_on told bytes = record told {
  air = told.air ++ record { direction = ToBoard; bytes = bytes; birth = birth_of told bytes } ∷ [];
}

-- Its board hears a datagram of the air that is for it and alive, and the answer joins the air.
abbrev pub heard_on : Told → List ℕ → Told
heard_on told bytes =
    let heard = hear told.board bytes in
    record { board = heard.board; air = told.air ++ air_after_answer (first_sends told) heard.answer }

abbrev pub heard_by : Told → Option Datagram → Option Told
heard_by told None = None
heard_by told (Some datagram) =
    if goes_to ToBoard datagram.direction
    then (if is_alive (first_sends told) datagram then Some (heard_on told datagram.bytes) else None)
    else None

abbrev pub then_told : Option Told → (Told → Option Told) → Option Told
then_told None later = None
then_told (Some told) later = later told

-- the board hears the datagrams at these places of the air, one after another
abbrev pub hears_all : Told → List ℕ → Option Told
hears_all told [] = Some told
hears_all told (place ∷ places) = then_told (heard_by told (slice_get told.air place)) (λ after. hears_all after places)

pub record IsHeard (old new : Told) : Type 0 where
  pub places : List ℕ
  pub heard : hears_all old places ≡ Some new

-- the bytes are those of the datagram at this place of the air, which goes to the hub and is alive
pub record IsHandedAt (told : Told) (bytes : List ℕ) (place : ℕ) : Type 0 where
  pub birth : ℕ
  pub there : slice_get told.air place ≡ Some (record { direction = ToHub; bytes = bytes; birth = birth })
  pub alive : is_alive (first_sends told) (record { direction = ToHub; bytes = bytes; birth = birth }) ≡ true

pub record IsHanded (told : Told) (bytes : List ℕ) : Type 0 where
  pub place : ℕ
  pub at : IsHandedAt told bytes place

-- the world of a hub and a link that tells, with nothing handed out yet
abbrev pub together : Hub → Told → World
together hub told = record { board = told.board; hub = hub; air = told.air; fates = []; lates = [] }

-- The joint fact of a hub and a link that tells: their world is sound, and the link counts the hub's first sends.
pub record IsJoined (hub : Hub) (told : Told) : Type 0 where
  pub sound : IsSound (together hub told)
  pub counts : first_sends told ≡ length hub.sent
