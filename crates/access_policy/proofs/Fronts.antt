-- Items match the front of a name, and what is left.
use Rattle.std.proofs.Common.{◌≡◌, ◌≤◌, List, [], ◌∷◌, ◌++◌, Bool, true, false, ◌&&◌, length, refl, ap, arith, ◌∙◌}
use Rattle.std.specs.Bool.{MatchBool}
use Rattle.std.specs.List.{AllZip}
use Rattle.access_policy.specs.Names.{NameItem}
use Rattle.access_policy.specs.Patterns.{AreItems, item_matches, items_match}
use Rattle.access_policy.specs.declared.policy.ItemPattern.{ItemPattern}

both_of : (a b : Bool) → (a && b) ≡ true → (a ≡ true) × (b ≡ true)
both_of true b h = (refl, h)
both_of false b h = cc

matched_rest : (rest : Bool) (items : List NameItem) → items_match [] rest items ≡ true
    → MatchBool rest (1 ≤ length items) (items ≡ [])
matched_rest true [] h = cc
matched_rest true (item ∷ items) h = omega arith
matched_rest false [] h = refl
matched_rest false (item ∷ items) h = cc

pub front_of_matched : (patterns : List ItemPattern) (rest : Bool) (items : List NameItem)
    → items_match patterns rest items ≡ true → AreItems patterns rest items
front_of_matched [] rest items h =
    record { front = []; behind = items; whole = refl; each = tt; more = matched_rest rest items h }
front_of_matched (pattern ∷ patterns) rest [] h = cc
front_of_matched (pattern ∷ patterns) rest (item ∷ items) h =
    let parts = both_of (item_matches pattern item) (items_match patterns rest items) h in
    let left = front_of_matched patterns rest items parts.1 in
    record {
      front = item ∷ left.front;
      behind = left.behind;
      whole = ap (λ xs. item ∷ xs) left.whole;
      each = (parts.0, left.each);
      more = left.more;
    }

rest_matches : (rest : Bool) (behind : List NameItem) → MatchBool rest (1 ≤ length behind) (behind ≡ [])
    → items_match [] rest behind ≡ true
rest_matches true [] h = absurd (omega (arith, h))
rest_matches true (item ∷ items) h = refl
rest_matches false [] h = refl
rest_matches false (item ∷ items) h = cc

front_matches : (patterns : List ItemPattern) (rest : Bool) (front behind : List NameItem)
    → AllZip (λ pattern item. item_matches pattern item ≡ true) patterns front
    → MatchBool rest (1 ≤ length behind) (behind ≡ []) → items_match patterns rest (front ++ behind) ≡ true
front_matches [] rest [] behind each more = rest_matches rest behind more
front_matches [] rest (item ∷ front) behind each more = absurd each
front_matches (pattern ∷ patterns) rest [] behind each more = absurd each
front_matches (pattern ∷ patterns) rest (item ∷ front) behind each more =
    rw each.0 (front_matches patterns rest front behind each.1 more)

pub matched_of_front : (patterns : List ItemPattern) (rest : Bool) (items : List NameItem)
    → AreItems patterns rest items → items_match patterns rest items ≡ true
matched_of_front patterns rest items are =
    ap (items_match patterns rest) are.whole ∙ front_matches patterns rest are.front are.behind are.each are.more
