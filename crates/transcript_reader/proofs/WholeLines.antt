-- Texts of whole lines, each with a line feed at its end alone, are cut into these lines.
use Rattle.std.proofs.Common.{◌/◌, ◌%◌, cond}
use Rattle.std.proofs.Common.{◌≡◌, ◌≢◌, ℕ, zero, suc, ◌-◌, ◌<◌, ◌≤◌, ◌^◌, List, [], ◌∷◌, ◌++◌, nat_eq, Bool, true, false}
use Rattle.std.proofs.Common.{refl, sym, ap, ◌∙◌, arith, append_assoc}
use Rattle.std.specs.Char.{digit_value}
use Rattle.std.specs.Fmt.{decimal, digit_glyph, digits, digits_onto}
use Rattle.std.specs.List.{AllByRecursion}
use Rattle.std.specs.Str.Parse.{AllDigits}
use Rattle.std.proofs.lemmas.Bool.Decides.{nat_tests}
use Rattle.transcript_reader.specs.Entries.{lines_of, onto_first}
use Rattle.transcript_reader.proofs.Found.{joined}

-- no byte is a line feed
abbrev pub NoFeed : List ℕ → Type 0
NoFeed bytes = AllByRecursion (λ (byte : ℕ). byte ≢ 10) bytes

pub record IsWholeLine (line : List ℕ) : Type 0 where
  pub front : List ℕ
  pub none : NoFeed front
  pub parts : line ≡ front ++ 10 ∷ []

is_no_feed : (b : ℕ) → b ≢ 10 → nat_eq b 10 ≡ false
is_no_feed b e = grind (arith, nat_tests)

cut_front : (front text : List ℕ) → NoFeed front → lines_of (front ++ 10 ∷ text) ≡ (front ++ 10 ∷ []) ∷ lines_of text
cut_front [] text none = refl
cut_front (b ∷ front) text none = rw (is_no_feed b none.0) (ap (onto_first b) (cut_front front text none.1))

pub lines_again : (lines : List (List ℕ)) → AllByRecursion IsWholeLine lines → lines_of (joined lines) ≡ lines
lines_again [] all = refl
lines_again (line ∷ lines) all =
    ap (λ (l : List ℕ). lines_of (l ++ joined lines)) all.0.parts
    ∙ (ap lines_of (append_assoc all.0.front (10 ∷ []) (joined lines))
    ∙ (cut_front all.0.front (joined lines) all.0.none
    ∙ (ap (λ (ls : List (List ℕ)). (all.0.front ++ 10 ∷ []) ∷ ls) (lines_again lines all.1)
    ∙ ap (λ (l : List ℕ). l ∷ lines) (sym all.0.parts))))

pub both_free : (xs ys : List ℕ) → NoFeed xs → NoFeed ys → NoFeed (xs ++ ys)
both_free [] ys one two = two
both_free (x ∷ xs) ys one two = (one.0, both_free xs ys one.1 two)

no_digit : (base byte : ℕ) → digit_value byte < base → base ≤ 36 → byte ≢ 10
no_digit base byte low few e =
    let worth : digit_value byte ≡ 36 = ap digit_value e in omega arith

pub digits_free : (base : ℕ) (ds : List ℕ) → base ≤ 36 → AllDigits base ds → NoFeed ds
digits_free base [] few all = tt
digits_free base (d ∷ ds) few all = (no_digit base d all.0 few, digits_free base ds few all.1)

glyph_free : (d : ℕ) → digit_glyph false d ≢ 10
glyph_free d e = grind (arith, nat_tests)

onto_by : (test : Bool) (here later : List ℕ) → NoFeed here → NoFeed later → NoFeed (cond test here later)
onto_by true here later one two = one
onto_by false here later one two = two

onto_free : (k base n : ℕ) (acc : List ℕ) → NoFeed acc → NoFeed (digits_onto k base false n acc)
onto_free zero base n acc none = none
onto_free (suc k) base n acc none =
    onto_by (nat_eq (n / base) 0) (digit_glyph false (n % base) ∷ acc)
    (digits_onto k base false (n / base) (digit_glyph false (n % base) ∷ acc))
    (glyph_free (n % base), none)
    (onto_free k base (n / base) (digit_glyph false (n % base) ∷ acc) (glyph_free (n % base), none))

-- no number writes a line feed, however large
pub decimal_free : (n : ℕ) → NoFeed (decimal n)
unfolding digits
decimal_free n = onto_free 64 10 n [] tt
