-- Texts cut into lines.
use Rattle.std.proofs.Common.{◌≡◌, ◌≢◌, ℕ, zero, suc, ◌+◌, ◌-◌, ◌<◌, List, [], ◌∷◌, ◌++◌, length, get_or, take, drop, nat_eq}
use Rattle.std.proofs.Common.{refl, ap, ◌∙◌, true, false, arith, add-one, length-drop, Option, Some, None}
use Rattle.std.specs.Prelude.{MatchOption}
use Rattle.std.proofs.lemmas.Bool.{eqb-true}
use Rattle.std.proofs.lemmas.Bool.Decides.{nat_tests}
use Rattle.std.proofs.lemmas.List.{take_all}
use Rattle.memchr.specs.Find.{IsFirstByte, is_byte}
use Rattle.transcript_reader.specs.Entries.{lines_of, onto_first}
use Rattle.transcript_reader.specs.Walks.{IsFirstFeed}

is_feed : (b : ℕ) → b ≡ 10 → nat_eq b 10 ≡ true
is_feed b e = grind (arith, nat_tests)

is_no_feed : (b : ℕ) → b ≢ 10 → nat_eq b 10 ≡ false
is_no_feed b e = grind (arith, nat_tests)

-- the first line feed is the first byte that is one
pub feed_is : (text : List ℕ) (found : Option ℕ) → IsFirstByte (is_byte 10) text found
    → MatchOption found ((k : ℕ) → k < length text → get_or text k 0 ≢ 10) (IsFirstFeed text)
feed_is text None none = λ k less e. none k (omega arith) less (is_feed (get_or text k 0) e)
feed_is text (Some end) (first, here) = record {
  within = first.high;
  feed = eqb-true (get_or text end 0) 10 here;
  before = λ k less e. first.before k (omega arith) less (is_feed (get_or text k 0) e);
}

cut_at : (text : List ℕ) (end : ℕ) → end < length text → get_or text end 0 ≡ 10
    → ((k : ℕ) → k < end → get_or text k 0 ≢ 10)
    → lines_of text ≡ take (suc end) text ∷ lines_of (drop (suc end) text)
cut_at [] end low is before = absurd (omega arith)
cut_at (b ∷ text) zero low is before = rw (is_feed b is) refl
cut_at (b ∷ text) (suc end) low is before =
    rw (is_no_feed b (before 0 (omega arith)))
    (ap (onto_first b) (cut_at text end (omega arith) is (λ k less. before (suc k) (omega arith))))

whole_by : (b : ℕ) (text : List ℕ) → ((k : ℕ) → k < length (b ∷ text) → get_or (b ∷ text) k 0 ≢ 10)
    → lines_of (b ∷ text) ≡ (b ∷ text) ∷ []
whole_by b [] none = rw (is_no_feed b (none 0 (omega arith))) refl
whole_by b (c ∷ text) none =
    rw (is_no_feed b (none 0 (omega arith)))
    (ap (onto_first b) (whole_by c text (λ k less. none (suc k) (omega arith))))

-- a text without a line feed is one line
pub whole : (text : List ℕ) → text ≢ [] → ((k : ℕ) → k < length text → get_or text k 0 ≢ 10) → lines_of text ≡ text ∷ []
whole [] some none = absurd (some refl)
whole (b ∷ text) some none = whole_by b text none

pub cut_behind : (text : List ℕ) (end : ℕ) → IsFirstFeed text end
    → lines_of text ≡ take (end + 1) text ∷ lines_of (take (length text - (end + 1)) (drop (end + 1) text))
cut_behind text end is =
    rw (add-one, take_all (length text - suc end) (drop (suc end) text) (omega (arith, length-drop (suc end) text)))
    (cut_at text end is.within is.feed is.before)

drop_next : {A : Type 0} (xs : List A) (n : ℕ) → drop 1 (drop n xs) ≡ drop (suc n) xs
drop_next xs zero = refl
drop_next [] (suc n) = refl
drop_next (x ∷ xs) (suc n) = drop_next xs n

pub one_fewer : {A : Type 0} (xs : List A) (n : ℕ) → drop 1 (drop n xs) ≡ drop (n + 1) xs
one_fewer xs n = rw add-one (drop_next xs n)
