-- Lists that grow, and what was kept of an air that grows.
use Rattle.std.proofs.Common.{◌≡◌, ◌∙◌, ◌⊎◌, ℕ, zero, suc, Bool, true, false, List, [], ◌∷◌, ◌++◌, map, Option, Some, None}
use Rattle.std.proofs.Common.{ap, inl, inr, refl, if◌then◌else◌}
use Rattle.std.specs.List.{filter, slice_get}
use Rattle.std.proofs.lemmas.List.{append-nil, map-append}
use Rattle.std.proofs.lemmas.List.Elements.{filter-append}
use Rattle.world_model.specs.declared.datagram.Datagram.{Datagram}
use Rattle.world_model.specs.declared.datagram.Direction.TheVariants.{ToBoard}
use Rattle.world_model.specs.Links.{Told, then_told}
use Rattle.capture_reader.specs.declared.capture.Caught.{Caught}
use Rattle.record_command.specs.Traffic.{sent_in, received_in, for_board, is_sent, is_received, bytes_of, bytes_for_board}
use Rattle.world_model.specs.Air.{is_for_board}
use Rattle.record_command.specs.Passing.{sent_item, received_item}
use Rattle.record_command.specs.Traffic.{IsForHubAt, AreForHubAt}

pub get_front : {A : Type 0} (xs ys : List A) (k : ℕ) (x : A) → slice_get xs k ≡ Some x
    → slice_get (xs ++ ys) k ≡ Some x
get_front [] ys k x e = absurd (cc)
get_front (y ∷ xs) ys zero x e = e
get_front (y ∷ xs) ys (suc k) x e = get_front xs ys k x e

-- what stands in two lists together stands in one of them
pub get_either : {A : Type 0} (xs ys : List A) (k : ℕ) (x : A) → slice_get (xs ++ ys) k ≡ Some x
    → (slice_get xs k ≡ Some x) ⊎ ((j : ℕ) × (slice_get ys j ≡ Some x))
get_either [] ys k x e = inr (k, e)
get_either (y ∷ xs) ys zero x e = inl e
get_either (y ∷ xs) ys (suc k) x e = get_either xs ys k x e

-- ---- choices and steps that came to something

pub found_both : {A : Type 0} (one other : Bool) (x y : A)
    → (if one then (if other then Some x else None) else None) ≡ Some y → x ≡ y
found_both true true x y e = cc
found_both true false x y e = absurd (cc)
found_both false other x y e = absurd (cc)

-- one step, and those behind it
pub record Goes (step : Option Told) (later : Told → Option Told) (new : Told) : Type 0 where
  pub between : Told
  pub stepped : step ≡ Some between
  pub goes_on : later between ≡ Some new

pub goes : (step : Option Told) (later : Told → Option Told) (new : Told) → then_told step later ≡ Some new
    → Goes step later new
goes None later new e = absurd (cc)
goes (Some between) later new e = record { between = between; stepped = refl; goes_on = e }

-- ---- what was sent and what was received

sent_in-append : (xs ys : List Caught) → sent_in (xs ++ ys) ≡ sent_in xs ++ sent_in ys
sent_in-append xs ys =
    ap (map bytes_of) (filter-append is_sent xs ys) ∙ map-append bytes_of (filter is_sent xs) (filter is_sent ys)

received_in-append : (xs ys : List Caught) → received_in (xs ++ ys) ≡ received_in xs ++ received_in ys
received_in-append xs ys =
    ap (map bytes_of) (filter-append is_received xs ys)
    ∙ map-append bytes_of (filter is_received xs) (filter is_received ys)

pub one_more_sent : (items : List Caught) (bytes : List ℕ)
    → sent_in (items ++ sent_item bytes ∷ []) ≡ sent_in items ++ bytes ∷ []
one_more_sent items bytes = sent_in-append items (sent_item bytes ∷ [])

pub none_received : (items : List Caught) (bytes : List ℕ)
    → received_in (items ++ sent_item bytes ∷ []) ≡ received_in items
none_received items bytes = received_in-append items (sent_item bytes ∷ []) ∙ append-nil (received_in items)

pub one_more_received : (items : List Caught) (bytes : List ℕ)
    → received_in (items ++ received_item bytes ∷ []) ≡ received_in items ++ bytes ∷ []
one_more_received items bytes = received_in-append items (received_item bytes ∷ [])

pub none_sent : (items : List Caught) (bytes : List ℕ)
    → sent_in (items ++ received_item bytes ∷ []) ≡ sent_in items
none_sent items bytes = sent_in-append items (received_item bytes ∷ []) ∙ append-nil (sent_in items)

-- ---- the datagrams of an air for the board

pub for_board-append : (air more : List Datagram) → for_board (air ++ more) ≡ for_board air ++ for_board more
for_board-append air more =
    ap (map bytes_for_board) (filter-append is_for_board air more)
    ∙ map-append bytes_for_board (filter is_for_board air) (filter is_for_board more)

pub one_more_for_board : (air : List Datagram) (bytes : List ℕ) (birth : ℕ)
    → for_board (air ++ record { direction = ToBoard; bytes = bytes; birth = birth } ∷ []) ≡ for_board air ++ bytes ∷ []
one_more_for_board air bytes birth =
    for_board-append air (record { direction = ToBoard; bytes = bytes; birth = birth } ∷ [])

-- ---- those that were handed out

pub there_in_more : (air more : List Datagram) (places : List ℕ) (heard : List Datagram)
    → AreForHubAt air places heard → AreForHubAt (air ++ more) places heard
there_in_more air more [] [] all = tt
there_in_more air more [] (datagram ∷ heard) all = absurd all
there_in_more air more (place ∷ places) [] all = absurd all
there_in_more air more (place ∷ places) (datagram ∷ heard) all = (
  record { there = get_front air more place datagram all.0.there; for_hub = all.0.for_hub },
  there_in_more air more places heard all.1,
)

pub one_more_there : (air : List Datagram) (places : List ℕ) (heard : List Datagram) (place : ℕ) (datagram : Datagram)
    → AreForHubAt air places heard → IsForHubAt air place datagram
    → AreForHubAt air (places ++ place ∷ []) (heard ++ datagram ∷ [])
one_more_there air [] [] place datagram all is = (is, tt)
one_more_there air [] (other ∷ heard) place datagram all is = absurd all
one_more_there air (other ∷ places) [] place datagram all is = absurd all
one_more_there air (other ∷ places) (another ∷ heard) place datagram all is =
    (all.0, one_more_there air places heard place datagram all.1 is)
