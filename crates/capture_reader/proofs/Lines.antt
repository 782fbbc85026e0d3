-- The line of a datagram is read again, and what is read is such a line.
use Rattle.std.proofs.Common.{◌≡◌, ℕ, ◌/◌, ◌^◌, ◌<◌, List, [], ◌∷◌, ◌++◌, Option, Some, None, Bool}
use Rattle.std.proofs.Common.{true, false, refl, sym, ap, ◌∙◌, subst, arith, append_assoc, codes, nat_eq, get_or, suc}
use Rattle.std.proofs.lemmas.Bool.Decides.{nat_tests}
use Rattle.packet_codec.specs.Packet.{AreBytes}
use Rattle.capture_reader.specs.declared.capture.Caught.{Caught}
use Rattle.capture_reader.specs.CaptureText.{hex_digit, hex_text, bytes_text, direction_text, item_text}
use Rattle.ipb_base.specs.Fronts.{behind, all_of}
use Rattle.capture_reader.specs.Reading.{pair_at, pairs_line, bytes_by, bytes_at, direction_by, direction_at, item_at}
use Rattle.ipb_base.proofs.FrontWords.{behind_found}
use Rattle.ipb_base.proofs.Fronts.{bound, parts_of}
use Rattle.capture_reader.proofs.WithTexts.{texted}
use Rattle.capture_reader.proofs.Pairs.{pairs_again, pairs_found, feed_stops}

-- no digit is a hyphen
no_hyphen : (n : ℕ) → n < 16 → nat_eq (hex_digit n) 45 ≡ false
no_hyphen n small = grind (arith, nat_tests)

-- bytes up to the end of their line
pub bytes_again : (bytes rest : List ℕ) → AreBytes bytes → bytes_at (bytes_text bytes ++ 10 ∷ rest) ≡ Some (bytes, rest)
unfolding bytes_at
bytes_again [] rest are = refl
bytes_again (byte ∷ bytes) rest are =
    let first = no_hyphen (byte / 16) (omega (arith, are.0)) in
    rw first (ap pairs_line (pairs_again (byte ∷ bytes) (10 ∷ rest) are (feed_stops rest)))

line_by : (text : List ℕ) (read : List ℕ × List ℕ) (bytes rest : List ℕ) → AreBytes read.0
    → text ≡ hex_text read.0 ++ read.1 → pairs_line read ≡ Some (bytes, rest)
    → AreBytes bytes × (text ≡ bytes_text bytes ++ 10 ∷ rest)
line_by text ([], after) bytes rest are is e = absurd cc
line_by text (byte ∷ more, after) bytes rest are is e =
    let parts = texted (byte ∷ more) bytes (behind (codes "\n") after) rest e in
    let feed = behind_found (codes "\n") after rest parts.1 in (
      subst AreBytes parts.0 are,
      is ∙ (ap (λ (t : List ℕ). hex_text (byte ∷ more) ++ t) feed ∙ ap (λ (bs : List ℕ). bytes_text bs ++ 10 ∷ rest) parts.0),
    )

bytes_found_by : (text : List ℕ) (r : Option (List ℕ)) (bytes rest : List ℕ) → behind (codes "-\n") text ≡ r
    → bytes_by r text ≡ Some (bytes, rest) → AreBytes bytes × (text ≡ bytes_text bytes ++ 10 ∷ rest)
bytes_found_by text (Some after) bytes rest is e =
    let parts = parts_of [] bytes after rest e in (
      subst AreBytes parts.0 tt,
      behind_found (codes "-\n") text after is
          ∙ (ap (λ (t : List ℕ). 45 ∷ 10 ∷ t) parts.1 ∙ ap (λ (bs : List ℕ). bytes_text bs ++ 10 ∷ rest) parts.0),
    )
bytes_found_by text None bytes rest is e =
    let found = pairs_found text in line_by text (all_of pair_at text) bytes rest found.0 found.1 e

pub bytes_found : (text bytes rest : List ℕ) → bytes_at text ≡ Some (bytes, rest)
    → AreBytes bytes × (text ≡ bytes_text bytes ++ 10 ∷ rest)
unfolding bytes_at
bytes_found text bytes rest e = bytes_found_by text (behind (codes "-\n") text) bytes rest refl e

pub direction_again : (sent : Bool) (rest : List ℕ) → direction_at (direction_text sent ++ rest) ≡ Some (sent, rest)
unfolding direction_at
direction_again true rest = refl
direction_again false rest = refl

direction_found_by : (text : List ℕ) (r : Option (List ℕ)) (sent : Bool) (rest : List ℕ) → behind (codes "> ") text ≡ r
    → direction_by r text ≡ Some (sent, rest) → text ≡ direction_text sent ++ rest
direction_found_by text (Some after) sent rest is e =
    let parts = parts_of true sent after rest e in
    behind_found (codes "> ") text after is
    ∙ (ap (λ (t : List ℕ). codes "> " ++ t) parts.1 ∙ ap (λ (s : Bool). direction_text s ++ rest) parts.0)
direction_found_by text None sent rest is e =
    let parts = texted false sent (behind (codes "< ") text) rest e in
    behind_found (codes "< ") text rest parts.1 ∙ ap (λ (s : Bool). direction_text s ++ rest) parts.0

pub direction_found : (text : List ℕ) (sent : Bool) (rest : List ℕ) → direction_at text ≡ Some (sent, rest)
    → text ≡ direction_text sent ++ rest
unfolding direction_at
direction_found text sent rest e = direction_found_by text (behind (codes "> ") text) sent rest refl e

-- the line of a datagram and what follows it
pub item_line : (item : Caught) (rest : List ℕ)
    → item_text item ++ rest ≡ direction_text item.sent ++ (bytes_text item.bytes ++ 10 ∷ rest)
item_line item rest =
    append_assoc (direction_text item.sent) (bytes_text item.bytes ++ codes "\n") rest
    ∙ ap (λ (t : List ℕ). direction_text item.sent ++ t) (append_assoc (bytes_text item.bytes) (codes "\n") rest)

pub item_again : (item : Caught) (rest : List ℕ) → AreBytes item.bytes → item_at (item_text item ++ rest) ≡ Some (item, rest)
unfolding item_at
item_again item rest are =
    rw (
      item_line item rest,
      direction_again item.sent (bytes_text item.bytes ++ 10 ∷ rest),
      bytes_again item.bytes rest are,
    ) refl

pub item_found : (text rest : List ℕ) (item : Caught) → item_at text ≡ Some (item, rest)
    → AreBytes item.bytes × (text ≡ item_text item ++ rest)
unfolding item_at
item_found text rest item e =
    let sent = bound (direction_at text) _ (item, rest) e in
    let bytes = bound (bytes_at sent.0.1) _ (item, rest) sent.2 in
    let line = bytes_found sent.0.1 bytes.0.0 bytes.0.1 bytes.1 in
    let parts = parts_of (record { sent = sent.0.0; bytes = bytes.0.0 }) item bytes.0.1 rest bytes.2 in (
      subst (λ (i : Caught). AreBytes i.bytes) parts.0 line.0,
      direction_found text sent.0.0 sent.0.1 sent.1
          ∙ (ap (λ (t : List ℕ). direction_text sent.0.0 ++ t) (line.1 ∙ ap (λ (t : List ℕ). bytes_text bytes.0.0 ++ 10 ∷ t) parts.1)
          ∙ (sym (item_line (record { sent = sent.0.0; bytes = bytes.0.0 }) rest)
          ∙ ap (λ (i : Caught). item_text i ++ rest) parts.0)),
    )

pub bytes_fit : (bytes : List ℕ) → ((i : ℕ) → get_or bytes i 0 < 2 ^ 8) → AreBytes bytes
bytes_fit [] fit = tt
bytes_fit (byte ∷ bytes) fit = (fit 0, bytes_fit bytes (λ i. fit (suc i)))
