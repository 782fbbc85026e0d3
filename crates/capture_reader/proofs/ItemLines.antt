-- Lines of datagrams, and what is wrong with others.
use Rattle.std.proofs.Common.{◌≡◌, ◌≢◌, ℕ, ◌<◌, ◌≤◌, List, [], ◌∷◌, ◌++◌, length, Some, None, refl, sym, ap, ◌∙◌}
use Rattle.std.proofs.Common.{append_assoc, Bool, true, false}
use Rattle.packet_codec.specs.Packet.{AreBytes}
use Rattle.capture_reader.specs.declared.capture.TheConstants.{MAX_DATAGRAM}
use Rattle.capture_reader.specs.declared.capture.Caught.{Caught}
use Rattle.capture_reader.specs.CaptureText.{item_text, items_text, direction_text, IsItem, AreItems}
use Rattle.capture_reader.specs.Faults.{NoItemLine, HasLongLine}
use Rattle.capture_reader.specs.Reading.{item_at}
use Rattle.capture_reader.proofs.Lines.{item_again, item_found}
use Rattle.ipb_base.proofs.Fronts.{parts_of}

-- what is not read is no line of a datagram
pub no_item : (text : List ℕ) → text ≢ [] → item_at text ≡ None → NoItemLine text
no_item text some none = record {
  some = some;
  none = λ item rest are is. absurd (let e = sym none ∙ (ap item_at is ∙ item_again item rest are) in cc);
}

pub long_item : (text rest : List ℕ) (item : Caught) → item_at text ≡ Some (item, rest) → MAX_DATAGRAM < length item.bytes
    → HasLongLine text
long_item text rest item e long =
    let found = item_found text rest item e in
    record { item = item; rest = rest; bytes = found.0; long = long; begins = found.1 }

pub good_item : (text rest : List ℕ) (item : Caught) → item_at text ≡ Some (item, rest) → length item.bytes ≤ MAX_DATAGRAM
    → IsItem item × (text ≡ item_text item ++ rest)
good_item text rest item e short =
    let found = item_found text rest item e in (record { bytes = found.0; length = short }, found.1)

no_line : (sent : Bool) (text : List ℕ) → [] ≡ direction_text sent ++ text → ⊥
no_line true text e = cc
no_line false text e = cc

-- a line is not empty
pub some_line : (item : Caught) (rest : List ℕ) → [] ≡ item_text item ++ rest → ⊥
some_line item rest e = no_line item.sent _ (e ∙ append_assoc (direction_text item.sent) _ rest)

-- two readings of one text
pub same_front : (one other : Caught) (rest more : List ℕ) → AreBytes one.bytes → AreBytes other.bytes
    → item_text one ++ rest ≡ item_text other ++ more → (one ≡ other) × (rest ≡ more)
same_front one other rest more are fits e =
    parts_of one other rest more (sym (item_again one rest are) ∙ (ap item_at e ∙ item_again other more fits))

pub one_list : (xs ys : List Caught) → AreItems xs → AreItems ys → items_text xs ≡ items_text ys → xs ≡ ys
one_list [] [] are fits e = refl
one_list [] (y ∷ ys) are fits e = absurd (some_line y (items_text ys) e)
one_list (x ∷ xs) [] are fits e = absurd (some_line x (items_text xs) (sym e))
one_list (x ∷ xs) (y ∷ ys) are fits e =
    let front = same_front x y (items_text xs) (items_text ys) are.0.bytes fits.0.bytes e in
    ap (λ z. z ∷ xs) front.0 ∙ ap (λ zs. y ∷ zs) (one_list xs ys are.1 fits.1 front.1)
