-- Lines whose words are parted by single spaces.
use Rattle.std.proofs.Common.{◌≡◌, ℕ, suc, ◌+◌, ◌*◌, ◌^◌, ◌<◌, ◌≤◌, List, [], ◌∷◌, ◌++◌, length, Bool, true, false}
use Rattle.std.proofs.Common.{not, ◌&&◌, ◌==◌, nat_lt, nat_eq, codes, Some, refl, sym, ◌∙◌, arith}
use Rattle.std.specs.Char.{digit_value}
use Rattle.std.specs.Fmt.{decimal}
use Rattle.std.specs.List.{list_all, starts_with}
use Rattle.std.specs.Str.Parse.{AllDigits, digits_value, digits_value_after}
use Rattle.std.proofs.Math.Nat.{pow-succ'}
use Rattle.std.proofs.lemmas.Bool.{and_parts, and_from}
use Rattle.std.proofs.lemmas.Bool.Decides.{nat_tests}
use Rattle.std.proofs.lemmas.Fmt.{decimal_is_IsNumeral, length-decimal-le}
use Rattle.ipb_base.specs.Digits as ours
use Rattle.script_lang.specs.Lines.{is_blank, is_word, pieces}
use Rattle.script_lang.specs.Texts.{cut_at}
use Rattle.config_store.specs.Meanings.{is_no_colon, is_word_byte, IsOneWord}

-- a byte of a word is no blank
no_blank : (byte : ℕ) → is_word_byte byte ≡ true → is_blank byte ≡ false
no_blank byte h = not_so (is_blank byte) h
  where
    not_so : (b : Bool) → not b ≡ true → b ≡ false
    not_so true h = sym h
    not_so false h = refl

pub one_piece : (text : List ℕ) → IsOneWord text → pieces text ≡ text ∷ []
one_piece [] h = refl
one_piece (byte ∷ text) h =
    let (here, rest) = and_parts (is_word_byte byte) (list_all is_word_byte text) h in
    rw (no_blank byte here, one_piece text rest) refl

pub first_piece : (text rest : List ℕ) → IsOneWord text → pieces (text ++ 32 ∷ rest) ≡ text ∷ pieces rest
first_piece [] rest h = refl
first_piece (byte ∷ text) rest h =
    let (here, more) = and_parts (is_word_byte byte) (list_all is_word_byte text) h in
    rw (no_blank byte here, first_piece text rest more) refl

-- a board, a colon and a register are one word
pub place_word : (board name : List ℕ) → IsOneWord board → IsOneWord name → IsOneWord (board ++ (codes ":" ++ name))
place_word [] name one other = other
place_word (byte ∷ board) name one other =
    let (here, rest) = and_parts (is_word_byte byte) (list_all is_word_byte board) one in
    and_from (is_word_byte byte) (list_all is_word_byte (board ++ (codes ":" ++ name))) here
    (place_word board name rest other)

pub some_place : (board name : List ℕ) → is_word (board ++ (codes ":" ++ name)) ≡ true
some_place [] name = refl
some_place (byte ∷ board) name = refl

-- and are parted at the colon
pub cut_place : (board name : List ℕ) → list_all is_no_colon board ≡ true
    → cut_at 58 (board ++ (codes ":" ++ name)) ≡ Some (board, name)
cut_place [] name h = refl
cut_place (byte ∷ board) name h =
    let (here, rest) = and_parts (is_no_colon byte) (list_all is_no_colon board) h in
    rw (not_so (byte == 58) here, cut_place board name rest) refl
  where
    not_so : (b : Bool) → not b ≡ true → b ≡ false
    not_so true h = sym h
    not_so false h = refl

-- ---- decimal numbers

-- a decimal digit is the same digit in either definition
same_digit : (c : ℕ) → digit_value c < 10 → ours.digit_value c ≡ digit_value c
unfolding ours.digit_value
same_digit c h = grind (arith, nat_tests)

digit_range : (c : ℕ) → digit_value c < 10 → (48 ≤ c) × (c ≤ 57)
digit_range c h = (grind (arith, nat_tests), grind (arith, nat_tests))

passes : (m n : ℕ) → m < n → nat_lt m n ≡ true
passes m n low = grind (arith, nat_tests)

pub digits_pass : (ds : List ℕ) → AllDigits 10 ds → ours.are_digits 10 ds ≡ true
digits_pass [] all = refl
digits_pass (d ∷ ds) all = rw (same_digit d all.0, passes (digit_value d) 10 all.0) (digits_pass ds all.1)

-- the digits that follow a number
value_after : (n : ℕ) (ds : List ℕ) → AllDigits 10 ds
    → digits_value_after 10 n ds ≡ n * 10 ^ length ds + ours.value_of_digits 10 ds
value_after n [] all = omega arith
value_after n (d ∷ ds) all =
    let rest : digits_value_after 10 (n * 10 + digit_value d) ds
    ≡ (n * 10 + digit_value d) * 10 ^ length ds + ours.value_of_digits 10 ds
    = value_after (n * 10 + digit_value d) ds all.1 in
    rw (same_digit d all.0) (rest ∙ shifted n (digit_value d) (10 ^ length ds) (ours.value_of_digits 10 ds) (10 ^ suc (length ds)) (power (length ds)))
  where
    power : (k : ℕ) → 10 ^ suc k ≡ 10 * 10 ^ k
    power k = pow-succ' 10 k

    shifted : (n d p v q : ℕ) → q ≡ 10 * p → (n * 10 + d) * p + v ≡ n * q + (d * p + v)
    shifted n d p v q e = rw e (grind arith)

pub same_value : (ds : List ℕ) → AllDigits 10 ds → ours.value_of_digits 10 ds ≡ digits_value 10 ds
same_value ds all = let e = value_after 0 ds all in omega (arith, e)

no_prefix : (ds : List ℕ) → AllDigits 10 ds → starts_with nat_eq ds (codes "0x") ≡ false
no_prefix [] all = refl
no_prefix (c ∷ []) all = and_no (nat_eq 48 c)
  where
    and_no : (b : Bool) → (b && false) ≡ false
    and_no true = refl
    and_no false = refl
no_prefix (c ∷ d ∷ ds) all = second (nat_eq 48 c) (nat_eq 120 d) (not_x d (digit_range d all.1.0).1)
  where
    not_x : (d : ℕ) → d ≤ 57 → nat_eq 120 d ≡ false
    not_x d h = grind (arith, nat_tests)

    second : (a b : Bool) → b ≡ false → (a && (b && true)) ≡ false
    second true b h = rw h refl
    second false b h = refl

between : (low high n : ℕ) → low ≤ n → n ≤ high → ours.is_between low high n ≡ true
between low high n h k = grind (arith, nat_tests)

-- a number in decimal digits is read as itself
pub number_read : (n : ℕ) → n < 2 ^ 32 → ours.number_in_text (decimal n) ≡ Some n
number_read n small =
    let numeral = decimal_is_IsNumeral n (omega arith) in
    let some = numeral.0.0 in
    let digits = numeral.0.1 in
    let long = length-decimal-le 10 n (omega arith) (omega arith) (omega arith) in
    let value : ours.value_of_digits 10 (decimal n) ≡ n = same_value (decimal n) digits ∙ numeral.1 in
    rw (
      no_prefix (decimal n) digits,
      between 1 10 (length (decimal n)) (omega arith) long,
      digits_pass (decimal n) digits,
      value,
      passes n (2 ^ 32) small,
    )
    refl

pub digits_word : (ds : List ℕ) → AllDigits 10 ds → IsOneWord ds
digits_word [] all = refl
digits_word (d ∷ ds) all =
    and_from (is_word_byte d) (list_all is_word_byte ds) (visible d (digit_range d all.0).0) (digits_word ds all.1)
  where
    visible : (c : ℕ) → 48 ≤ c → is_word_byte c ≡ true
    visible c h = grind (arith, nat_tests)

pub decimal_word : (n : ℕ) → n < 2 ^ 32 → IsOneWord (decimal n) × (is_word (decimal n) ≡ true)
decimal_word n small =
    let numeral = decimal_is_IsNumeral n (omega arith) in
    (digits_word (decimal n) numeral.0.1, some (decimal n) numeral.0.0)
  where
    some : (ds : List ℕ) → 0 < length ds → is_word ds ≡ true
    some [] h = absurd (omega arith)
    some (d ∷ ds) h = refl
