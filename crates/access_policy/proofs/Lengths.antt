-- A name matches items only where it is long enough for them, and no longer unless a rest is asked for.
use Rattle.std.proofs.Common.{◌≡◌, ℕ, List, [], ◌∷◌, Bool, true, false, ◌&&◌, ◌==◌, length, zero, suc, refl, arith}
use Rattle.std.proofs.Common.{◌-◌, ◌<◌, ◌≤◌, drop, get_or, length-drop, ap, sym, ◌∙◌}
use Rattle.std.proofs.lemmas.List.{at_drop_all}
use Rattle.std.proofs.lemmas.Bool.Decides.{nat_tests}
use Rattle.access_policy.specs.Cutting.{fits}
use Rattle.access_policy.specs.Names.{NameItem}
use Rattle.access_policy.specs.Patterns.{item_matches, items_match}
use Rattle.access_policy.specs.declared.policy.ItemPattern.{ItemPattern}

pub not_both : (b c : Bool) → c ≡ false → (b && c) ≡ false
not_both true c is = is
not_both false c is = refl

one_less : (rest : Bool) (m n : ℕ) → fits rest (suc m) (suc n) ≡ false → fits rest m n ≡ false
one_less true m n h = grind (arith, nat_tests)
one_less false m n h = grind (arith, nat_tests)

pub wrong_length : (patterns : List ItemPattern) (rest : Bool) (items : List NameItem)
    → fits rest (length patterns) (length items) ≡ false → items_match patterns rest items ≡ false
wrong_length [] true [] h = refl
wrong_length [] false [] h = cc
wrong_length [] true (item ∷ items) h = grind (arith, nat_tests)
wrong_length [] false (item ∷ items) h = refl
wrong_length (pattern ∷ patterns) rest [] h = refl
wrong_length (pattern ∷ patterns) rest (item ∷ items) h =
    not_both (item_matches pattern item) (items_match patterns rest items)
    (wrong_length patterns rest items (one_less rest (length patterns) (length items) h))

none_left : (rest : Bool) (items : List NameItem) → fits rest 0 (length items) ≡ true → items_match [] rest items ≡ true
none_left true [] h = grind (arith, nat_tests)
none_left true (item ∷ items) h = refl
none_left false [] h = refl
none_left false (item ∷ items) h = grind (arith, nat_tests)

fits_left : (rest : Bool) (m n k : ℕ) → fits rest m n ≡ true → k ≡ n - m → fits rest 0 k ≡ true
fits_left true m n k h is = grind (arith, nat_tests)
fits_left false m n k h is = grind (arith, nat_tests)

-- past the last item a name matches, as far as it is long enough
pub all_matched : (patterns : List ItemPattern) (rest : Bool) (items : List NameItem) (i : ℕ)
    → fits rest (length patterns) (length items) ≡ true → i ≡ length patterns
    → items_match (drop i patterns) rest (drop i items) ≡ true
all_matched patterns rest items i h is =
    at_drop_all (λ ps. items_match ps rest (drop i items)) patterns i (omega arith)
    ∙ none_left rest (drop i items)
    (fits_left rest (length patterns) (length items) (length (drop i items)) h (omega (arith, length-drop i items)))

pub long_enough : (rest : Bool) (m n : ℕ) → fits rest m n ≡ true → m ≤ n
long_enough true m n h = grind (arith, nat_tests)
long_enough false m n h = grind (arith, nat_tests)

here_false : (first second : Bool) → first ≡ false → (first && second) ≡ false
here_false first second h = rw h refl

-- an item that does not match the id at its place
pub misfit_at : (patterns : List ItemPattern) (rest : Bool) (items : List NameItem) (i : ℕ) (pattern : ItemPattern)
    (item : NameItem) → i < length patterns → i < length items → pattern ≡ get_or patterns i pattern
    → item ≡ get_or items i item → item_matches pattern item ≡ false → items_match patterns rest items ≡ false
misfit_at [] rest items i pattern item within there is at bad = absurd (omega arith)
misfit_at (first ∷ patterns) rest [] i pattern item within there is at bad = absurd (omega arith)
misfit_at (first ∷ patterns) rest (one ∷ items) zero pattern item within there is at bad =
    here_false (item_matches first one) (items_match patterns rest items)
    (ap (item_matches first) (sym at) ∙ ap (λ p. item_matches p item) (sym is) ∙ bad)
misfit_at (first ∷ patterns) rest (one ∷ items) (suc i) pattern item within there is at bad =
    not_both (item_matches first one) (items_match patterns rest items)
    (misfit_at patterns rest items i pattern item (omega arith) (omega arith) is at bad)

pub some_items : (n : ℕ) → (n == 0) ≡ false → 0 < n
some_items n h = grind (arith, nat_tests)
