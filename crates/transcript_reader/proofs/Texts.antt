-- What the reader takes off a text, and that it reads again what is written.
use Rattle.std.proofs.Common.{◌≡◌, ℕ, ◌-◌, ◌<◌, ◌≤◌, ◌^◌, nat_lt, Bool, true, false, cond, List, [], ◌∷◌, ◌++◌, length}
use Rattle.std.proofs.Common.{Some, None, ap, ◌∙◌, arith, codes, length-append}
use Rattle.ipb_base.specs.Fronts.{Front, behind, ◌>>=◌}
use Rattle.transcript_reader.specs.Reading.{number_at, below, word_at, next_word_at, place_at, next_place_at, decimal_at}
use Rattle.ipb_base.proofs.Fronts.{Shortens, bound, parts_of, rest_of}
use Rattle.transcript_reader.proofs.Numbers.{no_longer}
use Rattle.ipb_base.proofs.FrontWords.{behind_found}

same_length : (xs ys : List ℕ) → xs ≡ ys → length xs ≡ length ys
same_length xs ys e = ap length e

few_by : (b : Bool) (n m : ℕ) (text rest : List ℕ) → cond {A = Front ℕ} b (Some (n, text)) None ≡ Some (m, rest)
    → (n ≡ m) × (text ≡ rest)
few_by true n m text rest e = parts_of n m text rest e
few_by false n m text rest e = absurd cc

below_no_longer : (base most n : ℕ) (text rest : List ℕ) → below most (number_at base text) ≡ Some (n, rest)
    → length rest ≤ length text
below_no_longer base most n text rest e =
    let read = bound (number_at base text) (λ number. cond {A = Front ℕ} (nat_lt number.0 most) (Some number) None) (n, rest) e in
    let same = few_by (nat_lt read.0.0 most) read.0.0 n read.0.1 rest read.2 in
    omega (arith, no_longer base 0 read.0.0 text read.0.1 read.1, same_length read.0.1 rest same.1)

shorter_behind : (byte : ℕ) (word text rest : List ℕ) → behind (byte ∷ word) text ≡ Some rest → length rest < length text
shorter_behind byte word text rest e =
    let is = behind_found (byte ∷ word) text rest e in
    omega (arith, same_length text (byte ∷ word ++ rest) is, length-append word rest)

word_no_longer : (text rest : List ℕ) (w : ℕ) → word_at text ≡ Some (w, rest) → length rest ≤ length text
unfolding word_at
word_no_longer text rest w e =
    let x = bound (behind (codes "0x") text) _ (w, rest) e in
    omega (arith, shorter_behind 48 (codes "x") text x.0 x.1, below_no_longer 16 (2 ^ 32) w x.0 rest x.2)

pub words_shorten : Shortens next_word_at
unfolding next_word_at
words_shorten text rest w e =
    let x = bound (behind (codes " ") text) word_at (w, rest) e in
    omega (arith, shorter_behind 32 [] text x.0 x.1, word_no_longer x.0 rest w x.2)

place_no_longer : (text rest : List ℕ) (p : ℕ × ℕ) → place_at text ≡ Some (p, rest) → length rest ≤ length text
unfolding place_at
place_no_longer text rest p e =
    let x = bound (number_at 10 text) _ (p, rest) e in
    let y = bound (behind (codes ".") x.0.1) _ (p, rest) x.2 in
    let z = bound (decimal_at (2 ^ 16) y.0) _ (p, rest) y.2 in
    let last : z.0.1 ≡ rest = ap rest_of z.2 in
    omega (
      arith,
      no_longer 10 0 x.0.0 text x.0.1 x.1,
      shorter_behind 46 [] x.0.1 y.0 y.1,
      below_no_longer 10 (2 ^ 16) z.0.0 y.0 z.0.1 z.1,
      same_length z.0.1 rest last,
    )

pub places_shorten : Shortens next_place_at
unfolding next_place_at
places_shorten text rest p e =
    let x = bound (behind (codes ",") text) place_at (p, rest) e in
    omega (arith, shorter_behind 44 [] text x.0 x.1, place_no_longer x.0 rest p x.2)
