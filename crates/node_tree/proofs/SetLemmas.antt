-- Maps by name after one more name.
use Rattle.std.proofs.Common.{◌≡◌, ◌⊎◌, inl, inr, Bool, true, false, Option, Some, is_some, cond, is_eq, Ordering, Less}
use Rattle.std.proofs.Common.{Equal, Greater, refl, ap, sym, ◌∙◌}
use Rattle.std.specs.Ordering.{eq_by_cmp}
use Rattle.std.specs.Cmp.{tied_itself}
use Rattle.std.proofs.lemmas.Bool.{false≢true}
use Rattle.std.proofs.lemmas.Cmp.{nat_list_cmp_total}
use Rattle.std.specs.FinMap.{FinMap, get, insert, empty, get-insert, get-empty, nat_cmp-IsAntisymmetric}
use Rattle.std.specs.FinMap.{slice_cmp-IsAntisymmetric}
use Rattle.node_tree.specs.Named.{Name}
use Rattle.node_tree.specs.Modules.{IsIn}
use Rattle.node_tree.proofs.NamedLemmas.{by_bytes}

pub equal_of : (o : Ordering) → is_eq o ≡ true → o ≡ Equal
equal_of Less h = absurd (false≢true h)
equal_of Equal h = refl
equal_of Greater h = absurd (false≢true h)

pub not_in_empty : (V : Type 0) (m : Name) → IsIn {V = V} empty m → ⊥
not_in_empty V m h = false≢true (sym (ap is_some (get-empty {X = V} by_bytes m)) ∙ h)

module _ {V : Type 0} where
  some_either : (v : V) (b : Bool) (o : Option V) → is_some o ≡ true → is_some (cond b (Some v) o) ≡ true
  some_either v true o h = refl
  some_either v false o h = h

  pub in-kept : (set : FinMap by_bytes V) (k : Name) (v : V) (m : Name) → IsIn set m → IsIn (insert set k v) m
  in-kept set k v m h =
      ap is_some (get-insert nat_list_cmp_total set k v m) ∙ some_either v (eq_by_cmp by_bytes m k) (get set m) h

  pub in-added : (set : FinMap by_bytes V) (k : Name) (v : V) → IsIn (insert set k v) k
  in-added set k v =
      ap is_some (get-insert nat_list_cmp_total set k v k)
      ∙ ap (λ o. is_some (cond (is_eq o) (Some v) (get set k))) (tied_itself nat_list_cmp_total k)

  either : (v : V) (b : Bool) (o : Option V) → is_some (cond b (Some v) o) ≡ true → (b ≡ true) ⊎ (is_some o ≡ true)
  either v true o h = inl refl
  either v false o h = inr h

  pub in-only : (set : FinMap by_bytes V) (k : Name) (v : V) (m : Name) → IsIn (insert set k v) m → IsIn set m ⊎ (m ≡ k)
  in-only set k v m h =
      elim (either v (eq_by_cmp by_bytes m k) (get set m)
      (sym (ap is_some (get-insert nat_list_cmp_total set k v m)) ∙ h)) [
        | inl same ↦ inr (slice_cmp-IsAntisymmetric nat_cmp-IsAntisymmetric m k (equal_of (by_bytes m k) same))
        | inr old ↦ inl old
      ]
