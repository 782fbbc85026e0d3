-- A map without names that end with a bracket has none where another name is kept.
use Rattle.std.proofs.Common.{◌≡◌, Bool, true, false, cond, Some, ap, sym, ◌∙◌, refl}
use Rattle.std.specs.FinMap.{FinMap, get, get-empty, get-insert, insert, empty}
use Rattle.std.specs.Str.{bytes_eq}
use Rattle.std.specs.Ordering.{is_eq}
use Rattle.std.proofs.lemmas.Bool.{false≢true}
use Rattle.std.proofs.lemmas.Cmp.{nat_list_cmp_total}
use Rattle.std.proofs.lemmas.Map.Text.{is_eq-slice_cmp}
use Rattle.std.proofs.lemmas.Slice.Eq.{bytes_eq-Decides}
use Rattle.node_tree.specs.Named.{Name}
use Rattle.node_tree.specs.ClosedNames.{is_closed, HasNoClosed}
use Rattle.node_tree.proofs.NamedLemmas.{by_bytes}

by_same : (name other : Name) (same : Bool) → bytes_eq name other ≡ same → is_closed name ≡ true → is_closed other ≡ false
    → same ≡ false
by_same name other false is closed open' = refl
by_same name other true is closed open' =
    absurd (false≢true (sym open' ∙ (ap is_closed (sym ((bytes_eq-Decides name other).0 is)) ∙ closed)))

apart : (name other : Name) → is_closed name ≡ true → is_closed other ≡ false → is_eq (by_bytes name other) ≡ false
apart name other closed open' =
    is_eq-slice_cmp name other ∙ by_same name other (bytes_eq name other) refl closed open'

module _ {V : Type 0} where
  pub none_closed : HasNoClosed (empty {X = V} {R = by_bytes})
  none_closed name closed = get-empty by_bytes name

  pub still_none_closed : (m : FinMap by_bytes V) (name : Name) (value : V) → is_closed name ≡ false → HasNoClosed m
      → HasNoClosed (insert m name value)
  still_none_closed m name value open' none other closed =
      get-insert nat_list_cmp_total m name value other
      ∙ (ap (λ b. cond b (Some value) (get m other)) (apart other name closed open') ∙ none other closed)
