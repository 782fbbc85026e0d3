-- What the worked examples rest on.
use Rattle.std.proofs.Common.{◌≡◌, ℕ, ◌<◌, ◌≤◌, ◌^◌, Bool, true, false, ◌&&◌, nat_lt, List, [], ◌∷◌, ◌++◌, length, codes}
use Rattle.std.proofs.Common.{refl, sym, ap, subst, ◌∙◌, arith, get_or}
use Rattle.std.proofs.lemmas.Bool.Decides.{nat_tests}
use Rattle.std.proofs.lemmas.List.{append_cancel_left, append_cancel_right}
use Rattle.std.specs.Fmt.{digits}
use Rattle.std.specs.List.{list_all}
use Rattle.packet_codec.specs.Packet.{AreBytes}
use Rattle.capture_reader.specs.declared.capture.Caught.{Caught}
use Rattle.capture_reader.specs.declared.capture.Capture.{Capture}
use Rattle.capture_reader.specs.CaptureText.{IsCapture, IsItem, first_text}
use Rattle.capture_reader.specs.Description.{AreTextsOf, IsDescription, proved_text}
use Rattle.capture_reader.specs.Examples.{one_empty, one_read}
use Rattle.ipb_base.specs.Fronts.{all_of}
use Rattle.capture_reader.specs.Parsing.{datagram_at}
use Rattle.capture_reader.specs.Proved.{IsProved}
use Rattle.capture_reader.specs.Reading.{first_at}
use Rattle.capture_reader.proofs.Datagrams.{described_again}
use Rattle.capture_reader.proofs.FirstLine.{first_again}
use Rattle.ipb_base.proofs.Fronts.{parts_of}
use Rattle.capture_reader.proofs.OneText.{one_description, one_place}

-- ---- the captures

all_parts : (a b : Bool) → (a && b) ≡ true → (a ≡ true) × (b ≡ true)
all_parts true b e = (refl, e)
all_parts false b e = absurd cc

is_byte : (byte : ℕ) → nat_lt byte (2 ^ 8) ≡ true → byte < 2 ^ 8
is_byte byte e = grind (arith, nat_tests)

bytes_are : (bytes : List ℕ) → list_all (λ byte. nat_lt byte (2 ^ 8)) bytes ≡ true → AreBytes bytes
bytes_are [] e = tt
bytes_are (byte ∷ bytes) e =
    let parts = all_parts (nat_lt byte (2 ^ 8)) (list_all (λ b. nat_lt b (2 ^ 8)) bytes) e in
    (is_byte byte parts.0, bytes_are bytes parts.1)

item_is : (sent : Bool) (bytes : List ℕ) → list_all (λ byte. nat_lt byte (2 ^ 8)) bytes ≡ true → length bytes ≤ 9000
    → IsItem (record { sent = sent; bytes = bytes })
item_is sent bytes e short = record { bytes = bytes_are bytes e; length = short }

pub empty_is : IsCapture one_empty
empty_is = record {
  first = record { from_one = omega arith; up_to_end = omega arith };
  items = (item_is true [] refl (omega arith), tt);
}

pub read_is : IsCapture one_read
read_is = record {
  first = record { from_one = omega arith; up_to_end = omega arith };
  items = (
    item_is true _ refl (omega arith),
    (item_is false _ refl (omega arith), (item_is true _ refl (omega arith), (item_is false _ refl (omega arith), tt))),
  );
}

-- ---- the datagrams of a description are those of one capture, whatever the last line tells

abbrev capture_of : ℕ → List Caught → Capture
capture_of first items = record { first = first; items = items }

same_datagrams : (one other : Capture) (datagrams : List ℕ) (place : ℕ) → IsCapture one → IsCapture other
    → AreTextsOf one.items datagrams
    → IsDescription other (first_text one.first ++ (datagrams ++ proved_text place)) → other ≡ one
same_datagrams one other datagrams place is_one is_other texts is =
    let parts = parts_of other.first one.first (is.datagrams ++ proved_text is.place) (datagrams ++ proved_text place)
    (sym (first_again other.first (is.datagrams ++ proved_text is.place) is_other.first)
    ∙ (ap first_at (sym is.whole) ∙ first_again one.first (datagrams ++ proved_text place) is_one.first)) in
    let items : other.items ≡ one.items =
    sym (described_again other.items is.datagrams is.place is_other.items is.said)
    ∙ (ap (λ (t : List ℕ). (all_of datagram_at t).0) parts.1
    ∙ described_again one.items datagrams place is_one.items texts) in
    ap (λ (first : ℕ). capture_of first other.items) parts.0
    ∙ ap (λ (all : List Caught). capture_of one.first all) items

-- the description of a read, with any last line
abbrev read_datagrams : List ℕ
read_datagrams = codes "> status request\n< status 1500 16 1\n> control 1 big\n  0 read 0x00000004 1\n< control 1 big\n  0 read 0 1 0x0000abcd\n"

abbrev pub read_text : ℕ → List ℕ
read_text place = first_text 1 ++ (read_datagrams ++ proved_text place)

datagrams_are : (is : IsDescription one_read (read_text 1)) → is.place ≡ 1 → is.datagrams ≡ read_datagrams
datagrams_are is place =
    let whole = append_cancel_left (first_text 1) (is.datagrams ++ proved_text is.place) (read_datagrams ++ proved_text 1)
    (sym is.whole) in
    append_cancel_right is.datagrams read_datagrams (proved_text 1)
    (subst (λ (n : ℕ). is.datagrams ++ proved_text n ≡ read_datagrams ++ proved_text 1) place whole)

apart : proved_text 1 ≡ proved_text 2 → ⊥
unfolding digits
apart e =
    let digit : 49 ≡ 50 = ap (λ (text : List ℕ). get_or text 7 0) e in omega (arith, digit)

-- no capture proves the place 2 by the datagrams of a read
pub no_second_place : IsProved one_read 1 → IsDescription one_read (read_text 1) → (capture : Capture)
    → IsCapture capture → IsDescription capture (read_text 2) → ⊥
no_second_place proves is capture is_capture of =
    let texts = subst (AreTextsOf one_read.items) (datagrams_are is (one_place one_read is.place 1 is.proved proves)) is.said in
    let same = same_datagrams one_read capture read_datagrams 2 read_is is_capture texts of in
    let both = one_description one_read (read_text 1) (read_text 2) is
    (subst (λ (c : Capture). IsDescription c (read_text 2)) same of) in
    apart (append_cancel_left read_datagrams (proved_text 1) (proved_text 2)
    (append_cancel_left (first_text 1) (read_datagrams ++ proved_text 1) (read_datagrams ++ proved_text 2) both))
