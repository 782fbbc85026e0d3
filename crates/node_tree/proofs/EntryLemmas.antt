-- The entries of a map in their order.
use Rattle.std.proofs.Common.{◌≡◌, ◌⊎◌, inl, inr, ℕ, ◌+◌, take, drop, slice_get, List, [], ◌∷◌, ◌++◌, Bool, true, false}
use Rattle.std.proofs.Common.{◌&&◌, T, cond, Option, Some, is_eq, Ordering, Less, Equal, Greater, refl, ap, sym, ◌∙◌}
use Rattle.std.proofs.Common.{subst, append_assoc, String, Global, string_bytes}
use Rattle.std.specs.Ordering.{eq_by_cmp, is_lt, ordering_reverse}
use Rattle.std.specs.List.{AllByRecursion}
use Rattle.std.specs.Cmp.{tied_itself}
use Rattle.std.proofs.lemmas.List.{append-nil, drop_more, take-append-drop}
use Rattle.std.proofs.lemmas.Option.{slice_get_within, get_or_from_slice_get}
use Rattle.std.proofs.lemmas.Cmp.{nat_list_cmp_total}
use Rattle.std.specs.FinMap.{FinMap, get, insert, get-insert, entries, entries_sorted, get-entries, find, is_sorted}
use Rattle.std.specs.FinMap.{nat_cmp-IsAntisymmetric, slice_cmp-IsAntisymmetric}
use Rattle.std.specs.FinMap.Entries.{below_all}
use Rattle.std.specs.Option.{option_map_or}
use Rattle.address_table.specs.declared.nodes.Table.{Table}
use Rattle.node_tree.specs.Maps.{TableMap, nodes_of}
use Rattle.node_tree.specs.Named.{Name, named_entries}
use Rattle.node_tree.proofs.NamedLemmas.{by_bytes}
use Rattle.node_tree.proofs.SetLemmas.{equal_of}

pub first : (a b : Bool) → T (a && b) → T a
first true b h = tt
first false b h = absurd h

pub second : (a b : Bool) → T (a && b) → T b
second true b h = h
second false b h = absurd h

pub less_of : (o : Ordering) → T (is_lt o) → o ≡ Less
less_of Less h = refl
less_of Equal h = absurd h
less_of Greater h = absurd h

pub apart : (x k : Name) → T (is_lt (by_bytes x k)) → eq_by_cmp by_bytes k x ≡ false
apart x k h = ap is_eq (nat_list_cmp_total.antisymm k x ∙ ap ordering_reverse (less_of (by_bytes x k) h))

module _ {V : Type 0} where
  below-middle : (x k : Name) (v : V) (done rest : List (Name × V)) → T (below_all by_bytes x (done ++ (k, v) ∷ rest))
      → T (is_lt (by_bytes x k))
  below-middle x k v [] rest h = first _ _ h
  below-middle x k v (e ∷ done) rest h = below-middle x k v done rest (second _ _ h)

  find-middle : (k : Name) (v : V) (done rest : List (Name × V)) → T (is_sorted by_bytes (done ++ (k, v) ∷ rest))
      → find by_bytes k (done ++ (k, v) ∷ rest) ≡ Some v
  find-middle k v [] rest h = rw (tied_itself nat_list_cmp_total k) refl
  find-middle k v (e ∷ done) rest h =
      rw (apart e.0 k (below-middle e.0 k v done rest (first _ _ h))) (find-middle k v done rest (second _ _ h))

  -- what a map has at the key of one of its entries
  pub get-entry : (m : FinMap by_bytes V) (k : Name) (v : V) (done rest : List (Name × V))
      → entries m ≡ done ++ (k, v) ∷ rest → get m k ≡ Some v
  get-entry m k v done rest place =
      get-entries m k ∙ ap (find by_bytes k) place
      ∙ find-middle k v done rest (subst (λ es. T (is_sorted by_bytes es)) place (entries_sorted m))

  either_entry : (k q : Name) (v w : V) (o : Option V) (b : Bool) → eq_by_cmp by_bytes q k ≡ b
      → cond b (Some v) o ≡ Some w → ((k ≡ q) × (v ≡ w)) ⊎ (o ≡ Some w)
  either_entry k q v w o true tie h =
      let same : q ≡ k = slice_cmp-IsAntisymmetric nat_cmp-IsAntisymmetric q k (equal_of (by_bytes q k) tie) in
      let value : v ≡ w = cc in
      inl (sym same, value)
  either_entry k q v w o false tie h = inr h

  -- what a map has after one more entry: that entry, or what it had
  pub get-cases : (m : FinMap by_bytes V) (k q : Name) (v w : V) → get (insert m k v) q ≡ Some w
      → ((k ≡ q) × (v ≡ w)) ⊎ (get m q ≡ Some w)
  get-cases m k q v w h =
      either_entry k q v w (get m q) (eq_by_cmp by_bytes q k) refl (sym (get-insert nat_list_cmp_total m k v q) ∙ h)

  place_of : (es : List (Name × V)) (i : ℕ) (e : Name × V) → slice_get es i ≡ Some e
      → es ≡ take i es ++ e ∷ drop (i + 1) es
  place_of es i e h =
      sym (take-append-drop i es)
      ∙ ap (λ rest. take i es ++ rest)
      (drop_more es i e (slice_get_within es i e h) ∙ ap (λ x. x ∷ drop (i + 1) es) (get_or_from_slice_get es i e e h))

  -- what a map has at the key of the entry at a place
  pub get-at : (m : FinMap by_bytes V) (i : ℕ) (k : Name) (v : V) → slice_get (entries m) i ≡ Some (k, v)
      → get m k ≡ Some v
  get-at m i k v h = get-entry m k v (take i (entries m)) (drop (i + 1) (entries m)) (place_of (entries m) i (k, v) h)

  by_tie : (P : Name × V → Type 0) (q k : Name) (v w : V) (rest : Option V) (b : Bool) → eq_by_cmp by_bytes q k ≡ b
      → cond b (Some w) rest ≡ Some v → (rest ≡ Some v → P (q, v)) → P (k, w) → P (q, v)
  by_tie P q k v w rest true tie is others here =
      let same : q ≡ k = slice_cmp-IsAntisymmetric nat_cmp-IsAntisymmetric q k (equal_of (by_bytes q k) tie) in
      let value : w ≡ v = cc in
      subst (λ x. P (x, v)) (sym same) (subst (λ x. P (k, x)) value here)
  by_tie P q k v w rest false tie is others here = others is

  find-all : (P : Name × V → Type 0) (q : Name) (v : V) (es : List (Name × V)) → AllByRecursion P es
      → find by_bytes q es ≡ Some v → P (q, v)
  find-all P q v [] all is = cc
  find-all P q v (e ∷ es) all is =
      by_tie P q e.0 v e.1 (find by_bytes q es) (eq_by_cmp by_bytes q e.0) refl is (find-all P q v es all.1) all.0

  -- what holds of each entry holds of what a key has
  pub all-get : (P : Name × V → Type 0) (m : FinMap by_bytes V) (q : Name) (v : V) → AllByRecursion P (entries m)
      → get m q ≡ Some v → P (q, v)
  all-get P m q v all is = find-all P q v (entries m) all (sym (get-entries m q) ∙ is)

  pub all-push : (P : Name × V → Type 0) (done : List (Name × V)) (e : Name × V) → AllByRecursion P done → P e
      → AllByRecursion P (done ++ e ∷ [])
  all-push P [] e all here = (here, tt)
  all-push P (d ∷ done) e all here = (all.0, all-push P done e all.1 here)

  -- the next entry, and those after it
  pub next_place : (m : FinMap by_bytes V) (done : List (Name × V)) (x : String Global × V)
      (left it : List (String Global × V))
      → entries m ≡ done ++ named_entries it → it ≡ x ∷ left → entries m ≡ done ++ (string_bytes x.0, x.1) ∷ named_entries left
  next_place m done x left it place steps = place ∙ ap (λ es. done ++ named_entries es) steps

  pub past_place : (m : FinMap by_bytes V) (done : List (Name × V)) (x : String Global × V)
      (left : List (String Global × V))
      → entries m ≡ done ++ (string_bytes x.0, x.1) ∷ named_entries left
      → entries m ≡ (done ++ (string_bytes x.0, x.1) ∷ []) ++ named_entries left
  past_place m done x left place = place ∙ sym (append_assoc done ((string_bytes x.0, x.1) ∷ []) (named_entries left))

  -- all entries were visited
  pub no_more : (m : FinMap by_bytes V) (done : List (Name × V)) (it : List (String Global × V))
      → entries m ≡ done ++ named_entries it → it ≡ [] → entries m ≡ done
  no_more m done it place is = place ∙ ap (λ es. done ++ named_entries es) is ∙ append-nil done

-- the nodes of a table by its entry
pub nodes-entry : (tables : TableMap) (k : Name) (t : Table) (done rest : List (Name × Table))
    → entries tables ≡ done ++ (k, t) ∷ rest → nodes_of tables k ≡ t.nodes.items
nodes-entry tables k t done rest place =
    ap (λ o. option_map_or (λ u. u.nodes.items) o []) (get-entry tables k t done rest place)
