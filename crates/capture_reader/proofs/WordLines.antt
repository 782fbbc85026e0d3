-- Words in the lines of a description.
use Rattle.std.proofs.Common.{◌≡◌, ℕ, ◌<◌, ◌^◌, List, [], ◌∷◌, ◌++◌, length, Some, None, refl, sym, ap, ◌∙◌}
use Rattle.std.proofs.Common.{arith, codes, drop, ◌/◌, ◌%◌}
use Rattle.std.specs.Fmt.{decimal}
use Rattle.std.specs.Int.{w32, from_be_bytes}
use Rattle.std.proofs.lemmas.Nat.{from_be_bytes-to_be_bytes_4}
use Rattle.ipb_base.specs.Word.{IsWord, AreWords}
use Rattle.packet_codec.specs.Packet.{IsByte}
use Rattle.capture_reader.specs.CaptureText.{byte_text}
use Rattle.capture_reader.specs.Rows.{word_text, words_text}
use Rattle.ipb_base.specs.Fronts.{Front, behind, all_of, ◌>>=◌}
use Rattle.capture_reader.specs.Reading.{pair_at, number_at}
use Rattle.capture_reader.specs.Parsing.{word_at}
use Rattle.ipb_base.proofs.Fronts.{Shortens, bound, parts_of, all_again}
use Rattle.capture_reader.proofs.Pairs.{pairs_shorten, pair_read_again}
use Rattle.ipb_base.proofs.FrontWords.{behind_found, behind_none}
use Rattle.capture_reader.proofs.Numbers.{number_again}

shorter_behind : (text rest : List ℕ) → behind (codes " 0x") text ≡ Some rest → length rest < length text
shorter_behind text rest e = let is = behind_found (codes " 0x") text rest e in rw is (omega arith)

same_length : (xs ys : List ℕ) → xs ≡ ys → length xs ≡ length ys
same_length xs ys e = ap length e

pub words_shorten : Shortens word_at
unfolding word_at
words_shorten text rest w e =
    let x = bound (behind (codes " 0x") text) _ (w, rest) e in
    let a = bound (pair_at x.0) _ (w, rest) x.2 in
    let b = bound (pair_at a.0.1) _ (w, rest) a.2 in
    let c = bound (pair_at b.0.1) _ (w, rest) b.2 in
    let d = bound (pair_at c.0.1) _ (w, rest) c.2 in
    let last = parts_of _ w d.0.1 rest d.2 in
    omega (
      arith,
      shorter_behind text x.0 x.1,
      pairs_shorten x.0 a.0.1 a.0.0 a.1,
      pairs_shorten a.0.1 b.0.1 b.0.0 b.1,
      pairs_shorten b.0.1 c.0.1 c.0.0 c.1,
      pairs_shorten c.0.1 d.0.1 d.0.0 d.1,
      same_length d.0.1 rest last.1,
    )

abbrev four_at : List ℕ → Front ℕ
four_at text = do
  a ← pair_at text
  b ← pair_at a.1
  c ← pair_at b.1
  d ← pair_at c.1
  Some (from_be_bytes w32 (a.0 ∷ b.0 ∷ c.0 ∷ d.0 ∷ []), d.1)

four_again : (a b c d : ℕ) (rest : List ℕ) → IsByte a → IsByte b → IsByte c → IsByte d
    → four_at (byte_text a ++ (byte_text b ++ (byte_text c ++ (byte_text d ++ rest))))
    ≡ Some (from_be_bytes w32 (a ∷ b ∷ c ∷ d ∷ []), rest)
four_again a b c d rest fa fb fc fd =
    rw (
      pair_read_again a (byte_text b ++ (byte_text c ++ (byte_text d ++ rest))) fa,
      pair_read_again b (byte_text c ++ (byte_text d ++ rest)) fb,
      pair_read_again c (byte_text d ++ rest) fc,
      pair_read_again d rest fd,
    ) refl

-- a word is read again
pub word_again : (word : ℕ) (rest : List ℕ) → IsWord word
    → word_at ((codes " " ++ word_text word) ++ rest) ≡ Some (word, rest)
unfolding word_at
word_again word rest fits =
    four_again (word / 2 ^ 24 % 256) (word / 2 ^ 16 % 256) (word / 2 ^ 8 % 256) (word % 256) rest (omega arith)
    (omega arith) (omega arith) (omega arith)
    ∙ ap (λ (w : ℕ). Some (w, rest)) (from_be_bytes-to_be_bytes_4 word fits)

-- words are read up to where none stands
pub words_again : (words rest : List ℕ) → AreWords words → word_at rest ≡ None
    → all_of word_at (words_text words ++ rest) ≡ (words, rest)
words_again words rest are none =
    all_again word_at words_shorten (λ word. codes " " ++ word_text word) IsWord word_again words rest are none

-- neither the end of a line nor a number begins with a word
pub feed_is_no_word : (rest : List ℕ) → word_at (10 ∷ rest) ≡ None
unfolding word_at
feed_is_no_word rest = refl

no_word : (n : ℕ) (rest more : List ℕ) → n < 2 ^ 32 → codes " " ++ (decimal n ++ 10 ∷ rest) ≡ codes " 0x" ++ more → ⊥
no_word n rest more fits e =
    let read = sym (number_again n 10 rest fits (omega arith)) ∙ ap number_at (ap (drop 1) e) in
    let tails : 10 ∷ rest ≡ 120 ∷ more = (parts_of n 0 (10 ∷ rest) (120 ∷ more) read).1 in
    cc

pub count_is_no_word : (n : ℕ) (rest : List ℕ) → n < 2 ^ 32 → word_at (codes " " ++ (decimal n ++ 10 ∷ rest)) ≡ None
unfolding word_at
count_is_no_word n rest fits =
    rw (behind_none (codes " 0x") (codes " " ++ (decimal n ++ 10 ∷ rest)) (λ more e. no_word n rest more fits e)) refl
