-- Items of a pattern read one after the other, behind those that were read.
use Rattle.std.proofs.Common.{◌≡◌, ℕ, List, [], ◌∷◌, ◌++◌, Bool, true, false, Option, Some, None, option_map, refl, ap, sym}
use Rattle.std.proofs.Common.{append_assoc}
use Rattle.std.proofs.lemmas.List.{append-nil}
use Rattle.std.proofs.Common.{codes, bytes_eq}
use Rattle.access_policy.specs.Cutting.{behind}
use Rattle.access_policy.specs.Names.{parts_of}
use Rattle.access_policy.specs.Spelling.{is_last, is_rest, item_in, items_in_parts}
use Rattle.access_policy.specs.declared.policy.ItemPattern.{ItemPattern}
use Rattle.access_policy.proofs.Lengths.{not_both}
use Rattle.access_policy.proofs.Parts.{has_part}

pub at_rest : (items : List ItemPattern) (part : List ℕ) (left : List (List ℕ)) → is_rest part left ≡ true
    → behind items (items_in_parts (part ∷ left)) ≡ Some (items, true)
at_rest items part left is = rw is (ap (λ xs. Some (xs, true)) (append-nil items))

pub at_none : (items : List ItemPattern) (part : List ℕ) (left : List (List ℕ)) → is_rest part left ≡ false
    → item_in part ≡ None → behind items (items_in_parts (part ∷ left)) ≡ None
at_none items part left is none = rw (is, none) refl

moved : (items : List ItemPattern) (item : ItemPattern) (more : Option (List ItemPattern × Bool))
    → behind items (option_map (λ more. (item ∷ more.0, more.1)) more) ≡ behind (items ++ item ∷ []) more
moved items item None = refl
moved items item (Some more) = ap (λ xs. Some (xs, more.1)) (sym (append_assoc items (item ∷ []) more.0))

pub at_item : (items : List ItemPattern) (part : List ℕ) (left : List (List ℕ)) (item : ItemPattern)
    → is_rest part left ≡ false → item_in part ≡ Some item
    → behind items (items_in_parts (part ∷ left)) ≡ behind (items ++ item ∷ []) (items_in_parts left)
at_item items part left item is found = rw (is, found) (moved items item (items_in_parts left))

-- what has something behind it is no last part
pub not_rest : (part : List ℕ) (behind : List ℕ) → is_rest part (parts_of behind) ≡ false
not_rest part behind = not_both (bytes_eq part (codes "**")) (is_last (parts_of behind)) (has_part behind)
