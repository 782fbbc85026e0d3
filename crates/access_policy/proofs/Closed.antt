-- A text with an index ends with a bracket.
use Rattle.std.proofs.Common.{◌≡◌, ℕ, ◌-◌, ◌<◌, List, [], ◌∷◌, ◌++◌, length, get_or, Option, Some, None}
use Rattle.std.proofs.Common.{refl, ap, subst, arith, ◌∙◌, append_assoc, length-append}
use Rattle.std.proofs.lemmas.List.{get_or-append_right}
use Rattle.access_policy.specs.Names.{NameItem, in_brackets, item_with_index}
use Rattle.access_policy.proofs.Written.{bound, bracketed_back}

abbrev IsClosed : List ℕ → Type 0
IsClosed text = (0 < length text) × (get_or text (length text - 1) 0 ≡ 93)

with_last : (front : List ℕ) → IsClosed (front ++ 93 ∷ [])
with_last front =
    let count = length-append front (93 ∷ []) in
    let at : length (front ++ 93 ∷ []) - 1 ≡ length front = omega arith in
    let none : length front - length front ≡ 0 = omega arith in (
      omega arith,
      ap (λ n. get_or (front ++ 93 ∷ []) n 0) at
          ∙ (get_or-append_right front (93 ∷ []) (length front) (length front) 0 refl (omega arith)
          ∙ ap (λ n. get_or (93 ∷ []) n 0) none),
    )

closed : (text : List ℕ) (item : NameItem) → item_with_index text ≡ Some item → IsClosed text
unfolding item_with_index
closed text item h =
    let parts = bound (in_brackets text) _ item h in
    let (id, inside) = parts.0 in
    subst IsClosed (append_assoc id (91 ∷ inside) (93 ∷ []) ∙ bracketed_back text parts.0 parts.1)
    (with_last (id ++ 91 ∷ inside))

by_found : (text : List ℕ) (found : Option NameItem) → item_with_index text ≡ found → (IsClosed text → ⊥)
    → item_with_index text ≡ None
by_found text None is open' = is
by_found text (Some item) is open' = absurd (open' (closed text item is))

-- so one that does not has none
pub no_index : (text : List ℕ) → (0 < length text → get_or text (length text - 1) 0 ≡ 93 → ⊥) → item_with_index text ≡ None
no_index text other = by_found text (item_with_index text) refl (λ is. other is.0 is.1)
