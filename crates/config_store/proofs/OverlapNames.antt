-- The names of registers that overlap earlier ones, and the pairs of such registers.
use Rattle.std.proofs.Common.{◌≡◌, ◌||◌, ℕ, ◌+◌, [], ◌∷◌, ◌++◌, length, Bool, true, false, cond, Option, Some, None}
use Rattle.std.proofs.Common.{option_map, slice_get, refl, sym, ap, ◌∙◌, subst, append_assoc}
use Rattle.std.specs.List.{cons_option, filter_map, list_any, position_from}
use Rattle.std.specs.Option.{is_some}
use Rattle.std.proofs.lemmas.List.Elements.{filter_map-append}
use Rattle.node_tree.specs.Maps.{Name}
use Rattle.node_tree.specs.Overlaps.{overlap, overlapping, pair_with}
use Rattle.node_tree.specs.declared.register.Register.{Register}
use Rattle.config_store.specs.Overlaps.{name_of, overlapping_name, overlapping_names}
use Rattle.config_store.proofs.NameSearch.{Registers}

-- a register is found where there is one
found : (test : Name × Register → Bool) (k : ℕ) (es : Registers) → is_some (position_from test k es) ≡ list_any test es
found test k [] = refl
found test k (e ∷ es) = by_first (test e) (found test (k + 1) es)
  where
    by_first : (b : Bool) → is_some (position_from test (k + 1) es) ≡ list_any test es
        → is_some (cond b (Some k) (position_from test (k + 1) es)) ≡ (b || list_any test es)
    by_first true rest = refl
    by_first false rest = rest

here : (before : Registers) (e : Name × Register) (es : Registers) → slice_get (before ++ e ∷ es) (length before) ≡ Some e
here [] e es = refl
here (x ∷ before) e es = here before e es

named_pair : (all before : Registers) (e : Name × Register) (o : Option ℕ) (b : Bool) → is_some o ≡ b
    → slice_get all (length before) ≡ Some e
    → filter_map (name_of all) (pair_with (length before) o) ≡ cond b (e.0 ∷ []) []
named_pair all before e None true is at = let bad : ⊥ = cc in absurd bad
named_pair all before e None false is at = refl
named_pair all before e (Some i) false is at = let bad : ⊥ = cc in absurd bad
named_pair all before e (Some i) true is at = ap (λ o. cons_option (option_map (λ (x : Name × Register). x.0) o) []) at

from_pairs : (all before es : Registers) → all ≡ before ++ es
    → filter_map (name_of all) (overlapping before es) ≡ overlapping_names before es
from_pairs all before [] is = refl
from_pairs all before (e ∷ es) is =
    let later : all ≡ (before ++ e ∷ []) ++ es = is ∙ sym (append_assoc before (e ∷ []) es) in
    let at : slice_get all (length before) ≡ Some e = subst (λ xs. slice_get xs (length before) ≡ Some e) (sym is)
    (here before e es) in
    let first = position_from (λ a. overlap a e) 0 before in
    filter_map-append (name_of all) (pair_with (length before) first) (overlapping (before ++ e ∷ []) es)
    ∙ (ap (λ names. names ++ filter_map (name_of all) (overlapping (before ++ e ∷ []) es))
    (named_pair all before e first (list_any (λ a. overlap a e) before) (found (λ a. overlap a e) 0 before) at)
    ∙ ap (λ names. overlapping_name before e ++ names) (from_pairs all (before ++ e ∷ []) es later))

pub names_of_pairs : (es : Registers) → filter_map (name_of es) (overlapping [] es) ≡ overlapping_names [] es
names_of_pairs es = from_pairs es [] es refl
