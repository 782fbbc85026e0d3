-- Pairs of digits at the front of a text.
use Rattle.std.proofs.Common.{◌≡◌, ℕ, ◌+◌, ◌*◌, ◌/◌, ◌%◌, ◌^◌, ◌<◌, List, [], ◌∷◌, ◌++◌, length, Option, Some, None}
use Rattle.std.proofs.Common.{refl, sym, ap, ◌∙◌, ◌&&◌, nat_lt, cond, arith}
use Rattle.std.proofs.lemmas.Bool.Decides.{nat_tests}
use Rattle.packet_codec.specs.Packet.{AreBytes, IsByte}
use Rattle.capture_reader.specs.CaptureText.{hex_digit, byte_text, hex_text}
use Rattle.ipb_base.specs.Fronts.{all_of}
use Rattle.capture_reader.specs.Fronts.{with_rest}
use Rattle.capture_reader.specs.Reading.{digit_of, pair, pair_at}
use Rattle.ipb_base.proofs.Fronts.{Shortens, rest_of, parts_of, all_again, all_found}

short_by : (r : Option ℕ) (high low a : ℕ) (text rest : List ℕ) → with_rest r text ≡ Some (a, rest)
    → length rest < length (high ∷ low ∷ text)
short_by None high low a text rest e = absurd cc
short_by (Some byte) high low a text rest e =
    let same : text ≡ rest = ap rest_of e in rw (sym same) (omega arith)

pub pairs_shorten : Shortens pair_at
unfolding pair_at
pairs_shorten [] rest a e = absurd cc
pairs_shorten (high ∷ []) rest a e = absurd cc
pairs_shorten (high ∷ low ∷ text) rest a e = short_by (pair high low) high low a text rest e

pub digit_again : (n : ℕ) → n < 16 → digit_of (hex_digit n) ≡ n
unfolding digit_of
digit_again n small = grind (arith, nat_tests)

pub digit_found : (byte : ℕ) → digit_of byte < 16 → hex_digit (digit_of byte) ≡ byte
unfolding digit_of
digit_found byte small = grind (arith, nat_tests)

pair_again : (byte : ℕ) → byte < 2 ^ 8 → pair (hex_digit (byte / 16)) (hex_digit (byte % 16)) ≡ Some byte
unfolding pair
pair_again byte fits =
    let high = digit_again (byte / 16) (omega arith) in
    let low = digit_again (byte % 16) (omega arith) in
    rw (high, low) (grind (arith, nat_tests))

found_with : (h l byte : ℕ) → cond (nat_lt h 16 && nat_lt l 16) (Some (16 * h + l)) None ≡ Some byte
    → (h < 16) × (l < 16) × (byte ≡ 16 * h + l)
found_with h l byte e = grind (arith, nat_tests)

pair_found : (high low byte : ℕ) → pair high low ≡ Some byte
    → (byte < 2 ^ 8) × (high ≡ hex_digit (byte / 16)) × (low ≡ hex_digit (byte % 16))
unfolding pair
pair_found high low byte e =
    let is = found_with (digit_of high) (digit_of low) byte e in
    let front : byte / 16 ≡ digit_of high = omega (arith, is.0, is.1, is.2) in
    let back : byte % 16 ≡ digit_of low = omega (arith, is.0, is.1, is.2) in (
      omega (arith, is.0, is.1, is.2),
      sym (digit_found high is.0) ∙ ap hex_digit (sym front),
      sym (digit_found low is.1) ∙ ap hex_digit (sym back),
    )

pub pair_read_again : (byte : ℕ) (rest : List ℕ) → IsByte byte → pair_at (byte_text byte ++ rest) ≡ Some (byte, rest)
unfolding pair_at
pair_read_again byte rest fits = ap (λ (r : Option ℕ). with_rest r rest) (pair_again byte fits)

found_by : (r : Option ℕ) (high low byte : ℕ) (text rest : List ℕ) → pair high low ≡ r
    → with_rest r text ≡ Some (byte, rest) → IsByte byte × (high ∷ low ∷ text ≡ byte_text byte ++ rest)
found_by None high low byte text rest is e = absurd cc
found_by (Some b) high low byte text rest is e =
    let same = parts_of b byte text rest e in
    let parts = pair_found high low byte (is ∙ ap Some same.0) in
    (parts.0, rw (same.1, parts.1, parts.2) refl)

pub pair_read : (text rest : List ℕ) (byte : ℕ) → pair_at text ≡ Some (byte, rest)
    → IsByte byte × (text ≡ byte_text byte ++ rest)
unfolding pair_at
pair_read [] rest byte e = absurd cc
pair_read (high ∷ []) rest byte e = absurd cc
pair_read (high ∷ low ∷ text) rest byte e = found_by (pair high low) high low byte text rest refl e

-- digits are read up to where none stand
pub pairs_again : (bytes rest : List ℕ) → AreBytes bytes → pair_at rest ≡ None
    → all_of pair_at (hex_text bytes ++ rest) ≡ (bytes, rest)
pairs_again bytes rest are none = all_again pair_at pairs_shorten byte_text IsByte pair_read_again bytes rest are none

pub pairs_found : (text : List ℕ)
    → AreBytes (all_of pair_at text).0 × (text ≡ hex_text (all_of pair_at text).0 ++ (all_of pair_at text).1)
pairs_found text = all_found pair_at pairs_shorten byte_text IsByte pair_read text

-- the end of a line begins no pair
pub feed_stops : (rest : List ℕ) → pair_at (10 ∷ rest) ≡ None
unfolding pair_at pair digit_of
feed_stops [] = refl
feed_stops (byte ∷ rest) = refl
