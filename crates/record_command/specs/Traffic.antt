-- The datagrams of a link as a tap keeps them, and how they stand to what the link tells of its own. Profile.
use Rattle.std.specs.Prelude.{◌≡◌, ℕ, ◌+◌, ◌≤◌, Bool, true, false, not, List, [], ◌∷◌, length, map, take, Option, Some}
use Rattle.std.specs.Prelude.{IfSome, Result, Ok, Err}
use Rattle.std.specs.List.{filter, slice_get}
use Rattle.world_model.specs.declared.datagram.Datagram.{Datagram}
use Rattle.world_model.specs.declared.datagram.Direction.TheVariants.{ToHub}
use Rattle.world_model.specs.Air.{is_alive, is_for_board}
use Rattle.world_model.specs.Links.{Told, first_sends}
use Rattle.links.specs.declared.link.LinkFault.{LinkFault}
use Rattle.links.specs.declared.link.Received.{Received}
use Rattle.links.specs.declared.link.Received.TheVariants.{Got, Quiet}
use Rattle.links.specs.Births.{birth_after}
use Rattle.links.specs.Telling.{Telling}
use Rattle.reliable_engine.specs.Traffic.{Passed}
use Rattle.capture_reader.specs.declared.capture.Caught.{Caught}
use Rattle.capture_reader.specs.CaptureText.{AreItems}
use Rattle.record_command.specs.Passing.{caught_in, received_item}

-- a link, and the datagrams that were sent on it and received from it, in the order of the calls
pub record Tapped (L : Type 0) : Type 0 where
  pub link : L
  pub caught : List Caught

-- the bytes of those that were sent, and of those that were received, each in their order
abbrev pub is_sent : Caught → Bool
is_sent item = item.sent

abbrev pub is_received : Caught → Bool
is_received item = not item.sent

abbrev pub bytes_of : Caught → List ℕ
bytes_of item = item.bytes

abbrev pub sent_in : List Caught → List (List ℕ)
sent_in items = map bytes_of (filter is_sent items)

abbrev pub received_in : List Caught → List (List ℕ)
received_in items = map bytes_of (filter is_received items)

-- the bytes of the datagrams of an air that are for the board, in order
abbrev pub bytes_for_board : Datagram → List ℕ
bytes_for_board datagram = datagram.bytes

abbrev pub for_board : List Datagram → List (List ℕ)
for_board air = map bytes_for_board (filter is_for_board air)

-- these datagrams stand at these places of an air, and each is for the hub
pub record IsForHubAt (air : List Datagram) (place : ℕ) (datagram : Datagram) : Type 0 where
  pub there : slice_get air place ≡ Some datagram
  pub for_hub : datagram.direction ≡ ToHub

abbrev pub AreForHubAt : List Datagram → List ℕ → List Datagram → Type 0
AreForHubAt air [] [] = Unit {0}
AreForHubAt air [] (datagram ∷ later) = ⊥
AreForHubAt air (place ∷ places) [] = ⊥
AreForHubAt air (place ∷ places) (datagram ∷ later) =
    IsForHubAt air place datagram × AreForHubAt air places later

-- the first of these datagrams was born by then, and is within its lifetime, after so many first sends
abbrev pub IsNextAlive : ℕ → List Datagram → Type 0
IsNextAlive sent [] = ⊥
IsNextAlive sent (datagram ∷ later) = (datagram.birth ≤ sent) × (is_alive sent datagram ≡ true)

abbrev pub behind_next : List Datagram → List Datagram
behind_next [] = []
behind_next (datagram ∷ later) = later

-- what holds of a datagram that was sent, or of one that was received
abbrev pub ByKind : Bool → Type 0 → Type 0 → Type 0
ByKind true Sent Received = Sent
ByKind false Sent Received = Received

-- Each received datagram, which is the next of these, was born and within its lifetime when it was received: as many
-- first sends were counted by then, from so many on, as stand among the datagrams that were sent before it.
abbrev pub WereAlive : ℕ → ℕ → List Datagram → List Caught → Type 0
WereAlive first sent handed [] = Unit {0}
WereAlive first sent handed (item ∷ items) = ByKind item.sent
    (WereAlive first (birth_after first sent item.bytes) handed items)
    (IsNextAlive sent handed × WereAlive first sent (behind_next handed) items)

-- how many of the datagrams before a place of an air are for the board
abbrev pub sent_before : List Datagram → ℕ → ℕ
sent_before air place = length (for_board (take place air))

-- no more of them stand before the first of these places than were sent
abbrev pub IsNextBehind : List Datagram → ℕ → List ℕ → Type 0
IsNextBehind air sent [] = ⊥
IsNextBehind air sent (place ∷ places) = sent_before air place ≤ sent

abbrev pub later_places : List ℕ → List ℕ
later_places [] = []
later_places (place ∷ places) = places

-- Each received datagram, whose place in the air is the next of these, stands behind every sent one that is before it in
-- the air, where so many were sent until then: so an answer stands behind what it answers.
abbrev pub StandBehind : List Datagram → ℕ → List ℕ → List Caught → Type 0
StandBehind air sent places [] = Unit {0}
StandBehind air sent places (item ∷ items) = ByKind item.sent
    (StandBehind air (sent + 1) places items)
    (IsNextBehind air sent places × StandBehind air sent (later_places places) items)

-- These are all datagrams of a link that tells, in the order of its calls: those that were sent are the ones for the
-- board in its air, all of them and in order; those that were received are the ones that it handed out, in order, each
-- within its lifetime then; and each that was received stands behind all those that were sent before it joined the air.
pub record IsTrafficOf (telling : Telling) (items : List Caught) : Type 0 where
  pub sent : sent_in items ≡ for_board telling.told.air
  pub heard : List Datagram
  pub handed : AreForHubAt telling.told.air telling.handed heard
  pub received : received_in items ≡ map bytes_for_board heard
  pub alive : WereAlive telling.told.board.first 0 heard items
  pub behind : StandBehind telling.told.air 0 telling.handed items

-- no datagram of an air was born after all its first sends
abbrev pub AreBorn : Told → Type 0
AreBorn told = (place : ℕ) (datagram : Datagram) → slice_get told.air place ≡ Some datagram
    → datagram.birth ≤ first_sends told

-- nothing was sent on the link yet, and nothing was handed out
pub record IsUnused (telling : Telling) : Type 0 where
  pub air : telling.told.air ≡ []
  pub handed : telling.handed ≡ []

-- what a receive that came to this adds to them
abbrev pub caught_after : Result Received LinkFault → List ℕ → List Caught
caught_after (Ok Got) bytes = received_item bytes ∷ []
caught_after (Ok Quiet) bytes = []
caught_after (Err fault) bytes = []

-- what a tap has caught, over a link that tells this, and over which this has passed
pub record HasCaught (telling : Option Telling) (passed : List Passed) (items : List Caught) : Type 0 where
  pub short : AreItems items
  pub is_traffic : items ≡ caught_in passed
  pub traffic : IfSome telling (λ t. IsTrafficOf t items)
  pub born : IfSome telling (λ t. AreBorn t.told)
