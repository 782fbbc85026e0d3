-- Texts joined by dots, one after the other.
use Rattle.std.proofs.Common.{◌≡◌, ℕ, ◌+◌, ◌==◌, List, [], ◌∷◌, ◌++◌, Bool, true, false, length, map, take, get_or, refl, ap, sym}
use Rattle.std.proofs.Common.{◌∙◌, append_assoc}
use Rattle.std.proofs.Common.{zero, suc, ◌<◌, codes, arith}
use Rattle.std.proofs.lemmas.Bool.Decides.{nat_tests}
use Rattle.std.proofs.lemmas.List.{append-nil, map-append, take_more}
use Rattle.std.specs.List.{join_with_byte}
use Rattle.node_tree.specs.Names.{dot}
use Rattle.access_policy.specs.Cutting.{with_part}
use Rattle.access_policy.specs.Spelling.{item_text, item_texts}
use Rattle.access_policy.specs.declared.policy.ItemPattern.{ItemPattern}

abbrev pub is_empty : List (List ℕ) → Bool
is_empty [] = true
is_empty (text ∷ texts) = false

-- one more text behind others
pub join_more : (texts : List (List ℕ)) (text : List ℕ)
    → join_with_byte dot (texts ++ text ∷ []) ≡ with_part (is_empty texts) (join_with_byte dot texts) text
join_more [] text = refl
join_more (first ∷ []) text = refl
join_more (first ∷ second ∷ texts) text =
    ap (λ rest. first ++ dot ∷ rest) (join_more (second ∷ texts) text)
    ∙ sym (append_assoc first (dot ∷ join_with_byte dot (second ∷ texts)) (dot ∷ text))

at_first : (items : List ItemPattern) (i : ℕ) → i < length items → is_empty (map item_text (take i items)) ≡ (i == 0)
at_first [] i h = absurd (omega arith)
at_first (item ∷ items) zero h = refl
at_first (item ∷ items) (suc i) h = grind (arith, nat_tests)

-- the next item behind those so far
pub next_item : (items : List ItemPattern) (i : ℕ) (item : ItemPattern) → i < length items → item ≡ get_or items i item
    → with_part (i == 0) (join_with_byte dot (map item_text (take i items))) (item_text item)
    ≡ join_with_byte dot (map item_text (take (i + 1) items))
next_item items i item within here =
    let so_far = map item_text (take i items) in
    ap (λ first. with_part first (join_with_byte dot so_far) (item_text item)) (sym (at_first items i within))
    ∙ sym (join_more so_far (item_text item))
    ∙ ap (join_with_byte dot) (sym (map-append item_text (take i items) (item ∷ [])))
    ∙ ap (λ x. join_with_byte dot (map item_text (take i items ++ x ∷ []))) here
    ∙ ap (λ xs. join_with_byte dot (map item_text xs)) (sym (take_more items i item within))

no_items : (items : List ItemPattern) → is_empty (map item_text items) ≡ (length items == 0)
no_items [] = refl
no_items (item ∷ items) = grind (arith, nat_tests)

-- `**` behind all items
pub rest_behind : (items : List ItemPattern)
    → with_part (length items == 0) (join_with_byte dot (map item_text items)) (codes "**")
    ≡ join_with_byte dot (item_texts items true)
rest_behind items =
    ap (λ first. with_part first (join_with_byte dot (map item_text items)) (codes "**")) (sym (no_items items))
    ∙ sym (join_more (map item_text items) (codes "**"))

pub no_rest : (items : List ItemPattern)
    → join_with_byte dot (map item_text items) ≡ join_with_byte dot (item_texts items false)
no_rest items = ap (join_with_byte dot) (sym (append-nil (map item_text items)))
