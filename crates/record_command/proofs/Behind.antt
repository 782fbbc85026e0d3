-- Each received datagram stands behind those that were sent before it joined the air, through every call.
use Rattle.std.proofs.Common.{◌≡◌, ◌∙◌, ℕ, zero, suc, ◌+◌, ◌≤◌, length, Bool, true, false, List, [], ◌∷◌, ◌++◌, map, take}
use Rattle.std.proofs.Common.{Some, refl, ap, sym, arith}
use Rattle.std.specs.List.{slice_get}
use Rattle.std.proofs.lemmas.List.{length-map}
use Rattle.world_model.specs.declared.datagram.Datagram.{Datagram}
use Rattle.world_model.specs.declared.datagram.Direction.{Direction}
use Rattle.world_model.specs.declared.datagram.Direction.TheVariants.{ToBoard, ToHub}
use Rattle.capture_reader.specs.declared.capture.Caught.{Caught}
use Rattle.record_command.specs.Passing.{sent_item, received_item}
use Rattle.record_command.specs.Traffic.{sent_in, received_in, for_board, bytes_for_board}
use Rattle.record_command.specs.Traffic.{AreForHubAt, ByKind, IsNextBehind, StandBehind, later_places, sent_before}

by_kind : (kind : Bool) (A B C D : Type 0) → (A → C) → (B → D) → ByKind kind A B → ByKind kind C D
by_kind true A B C D f g x = f x
by_kind false A B C D f g x = g x

-- ---- one more that was sent

pub behind_sent : (air : List Datagram) (sent : ℕ) (places : List ℕ) (items : List Caught) (bytes : List ℕ)
    → StandBehind air sent places items → StandBehind air sent places (items ++ sent_item bytes ∷ [])
behind_sent air sent places [] bytes is = tt
behind_sent air sent places (item ∷ items) bytes is = by_kind item.sent
    (StandBehind air (sent + 1) places items)
    (IsNextBehind air sent places × StandBehind air sent (later_places places) items)
    (StandBehind air (sent + 1) places (items ++ sent_item bytes ∷ []))
    (IsNextBehind air sent places × StandBehind air sent (later_places places) (items ++ sent_item bytes ∷ []))
    (λ more. behind_sent air (sent + 1) places items bytes more)
    (λ both. (both.0, behind_sent air sent (later_places places) items bytes both.1))
    is

-- ---- an air that grows

take_front : (air more : List Datagram) (place : ℕ) (datagram : Datagram) → slice_get air place ≡ Some datagram
    → take place (air ++ more) ≡ take place air
take_front [] more place datagram there = absurd (cc)
take_front (d ∷ air) more zero datagram there = refl
take_front (d ∷ air) more (suc place) datagram there =
    ap (λ (ds : List Datagram). d ∷ ds) (take_front air more place datagram there)

next_more : (air more : List Datagram) (sent : ℕ) (places : List ℕ) (heard : List Datagram)
    → AreForHubAt air places heard → IsNextBehind air sent places → IsNextBehind (air ++ more) sent places
next_more air more sent [] heard there is = absurd is
next_more air more sent (place ∷ places) [] there is = absurd there
next_more air more sent (place ∷ places) (datagram ∷ heard) there is =
    rw (take_front air more place datagram there.0.there) is

abbrev pub GrowsWith : List Datagram → List Datagram → List Caught → Type 0
GrowsWith air more items = (sent : ℕ) (places : List ℕ) (heard : List Datagram) → AreForHubAt air places heard
    → StandBehind air sent places items → StandBehind (air ++ more) sent places items

later_more : (air more : List Datagram) (items : List Caught) (sent : ℕ) (places : List ℕ) (heard : List Datagram)
    → GrowsWith air more items → AreForHubAt air places heard → IsNextBehind air sent places
    → StandBehind air sent (later_places places) items → StandBehind (air ++ more) sent (later_places places) items
later_more air more items sent [] heard grows there next is = absurd next
later_more air more items sent (place ∷ places) [] grows there next is = absurd there
later_more air more items sent (place ∷ places) (datagram ∷ heard) grows there next is =
    grows sent places heard there.1 is

pub behind_more : (air more : List Datagram) (items : List Caught) → GrowsWith air more items
behind_more air more [] sent places heard there is = tt
behind_more air more (item ∷ items) sent places heard there is = by_kind item.sent
    (StandBehind air (sent + 1) places items)
    (IsNextBehind air sent places × StandBehind air sent (later_places places) items)
    (StandBehind (air ++ more) (sent + 1) places items)
    (IsNextBehind (air ++ more) sent places × StandBehind (air ++ more) sent (later_places places) items)
    (λ later. behind_more air more items (sent + 1) places heard there later)
    (λ both. (
      next_more air more sent places heard there both.0,
      later_more air more items sent places heard (behind_more air more items) there both.0 both.1,
    ))
    is

-- ---- one more that was received

-- a front of an air has no more datagrams for the board
few_by : (datagram : Datagram) (front air : List Datagram) (way : Direction) → datagram.direction ≡ way
    → length (for_board front) ≤ length (for_board air)
    → length (for_board (datagram ∷ front)) ≤ length (for_board (datagram ∷ air))
few_by datagram front air ToBoard e few = rw e (omega arith)
few_by datagram front air ToHub e few = rw e few

pub few_before : (air : List Datagram) (place : ℕ) → sent_before air place ≤ length (for_board air)
few_before [] zero = omega arith
few_before [] (suc place) = omega arith
few_before (datagram ∷ air) zero = omega arith
few_before (datagram ∷ air) (suc place) =
    few_by datagram (take place air) air datagram.direction refl (few_before air place)

as_many : (air : List Datagram) (places : List ℕ) (heard : List Datagram) → AreForHubAt air places heard
    → length places ≡ length heard
as_many air [] [] there = refl
as_many air [] (datagram ∷ heard) there = absurd there
as_many air (place ∷ places) [] there = absurd there
as_many air (place ∷ places) (datagram ∷ heard) there = ap suc (as_many air places heard there.1)

-- as many places as were received
pub many_places : (air : List Datagram) (places : List ℕ) (heard : List Datagram) (items : List Caught)
    → AreForHubAt air places heard → received_in items ≡ map bytes_for_board heard
    → length places ≡ length (received_in items)
many_places air places heard items there received =
    as_many air places heard there ∙ sym (ap length received ∙ length-map heard bytes_for_board)

abbrev pub ReceivesMore : List Datagram → ℕ → List ℕ → ℕ → List Caught → List ℕ → Type 0
ReceivesMore air sent places place items bytes =
    length places ≡ length (received_in items) → sent_before air place ≤ sent + length (sent_in items)
    → StandBehind air sent places items
    → StandBehind air sent (places ++ place ∷ []) (items ++ received_item bytes ∷ [])

received_one : (air : List Datagram) (sent : ℕ) (places : List ℕ) (place : ℕ) (item : Caught) (items : List Caught)
    (bytes : List ℕ) (kind : Bool) → item.sent ≡ kind
    → ((from : ℕ) (later : List ℕ) → ReceivesMore air from later place items bytes)
    → ReceivesMore air sent places place (item ∷ items) bytes
received_one air sent places place item items bytes true e more long few is =
    let l = rw e at long in
    let f = rw e at few in
    rw e (more (sent + 1) places l (omega arith) (rw e at is))
received_one air sent [] place item items bytes false e more long few is =
    let l = rw e at long in absurd (omega arith)
received_one air sent (other ∷ places) place item items bytes false e more long few is =
    let l = rw e at long in
    let f = rw e at few in
    let h = rw e at is in
    rw e (h.0, more sent places (omega arith) f h.1)

pub behind_received : (air : List Datagram) (sent : ℕ) (places : List ℕ) (place : ℕ) (items : List Caught)
    (bytes : List ℕ) → ReceivesMore air sent places place items bytes
behind_received air sent [] place [] bytes long few is = (omega arith, tt)
behind_received air sent (other ∷ places) place [] bytes long few is = absurd (omega arith)
behind_received air sent places place (item ∷ items) bytes long few is =
    received_one air sent places place item items bytes item.sent refl
    (λ from later. behind_received air from later place items bytes) long few is
