-- A tree of `String` keys, and the map of the bytes of its keys.
use Rattle.std.proofs.Common.{◌≡◌, ℕ, zero, suc, ◌<◌, get_or, arith, List, [], ◌∷◌, length, Bool, true, false, ◌&&◌, T}
use Rattle.std.proofs.Common.{cond, Some, slice_get, String, string_bytes, string_cmp, nat_cmp, Ordering, Less, Equal}
use Rattle.std.proofs.Common.{Greater, is_eq, refl, ap, sym, ◌∙◌, subst, Global}
use Rattle.std.specs.Ordering.{match_ordering, is_lt}
use Rattle.std.specs.Cmp.Lexicographic.{slice_cmp}
use Rattle.std.specs.List.{AllByRecursion}
use Rattle.std.specs.List.Sorted.{IsStrictlySortedBy}
use Rattle.std.specs.Map.{keys_of, lookup}
use Rattle.std.specs.BTreeMap.{insert_entry, is_at}
use Rattle.std.specs.FinMap.{FinMap, entries, entries_sorted, insert, find, put, is_sorted, from_sorted}
use Rattle.std.specs.FinMap.{entries-from_sorted, entries-insert, same_entries_map, empty, empty_of_len, len}
use Rattle.std.specs.FinMap.{len-entries}
use Rattle.std.specs.FinMap.Entries.{below_all, by_order}
use Rattle.std.proofs.lemmas.Bool.{false≢true}
use Rattle.std.proofs.lemmas.Cmp.{nat_list_cmp_total}
use Rattle.node_tree.specs.Named.{Name, named_entries, AreInOrder}

abbrev pub by_bytes : Name → Name → Ordering
by_bytes = slice_cmp nat_cmp

test_of : (b : Bool) → b ≡ true → T b
test_of true h = tt
test_of false h = absurd (false≢true h)

true_of : (b : Bool) → T b → b ≡ true
true_of true h = refl
true_of false h = absurd h

both : (a b : Bool) → T a → T b → T (a && b)
both true b h k = k
both false b h k = absurd h

less : (o : Ordering) → o ≡ Less → T (is_lt o)
less o h = rw h tt

module _ {V : Type 0} where
  same_order : (o : Ordering) (a b c d : List (Name × V)) → c ≡ d → match_ordering o a b c ≡ by_order o a b d
  same_order Less a b c d e = refl
  same_order Equal a b c d e = refl
  same_order Greater a b c d e = e

  named-match_ordering : (o : Ordering) (a b c : List (String Global × V))
      → named_entries (match_ordering o a b c) ≡ match_ordering o (named_entries a) (named_entries b) (named_entries c)
  named-match_ordering Less a b c = refl
  named-match_ordering Equal a b c = refl
  named-match_ordering Greater a b c = refl

  pub named-insert_entry : (es : List (String Global × V)) (k : String Global) (v : V)
      → named_entries (insert_entry string_cmp es k v) ≡ put by_bytes (string_bytes k) v (named_entries es)
  named-insert_entry [] k v = refl
  named-insert_entry (e ∷ es) k v =
      named-match_ordering (string_cmp k e.0) ((k, v) ∷ e ∷ es) ((e.0, v) ∷ es) (e ∷ insert_entry string_cmp es k v)
      ∙ same_order (string_cmp k e.0) (named_entries ((k, v) ∷ e ∷ es)) (named_entries ((e.0, v) ∷ es))
      (named_entries (e ∷ insert_entry string_cmp es k v))
      ((string_bytes e.0, e.1) ∷ put by_bytes (string_bytes k) v (named_entries es))
      (ap (λ fs. (string_bytes e.0, e.1) ∷ fs) (named-insert_entry es k v))

  pub lookup-named : (name : Name) (es : List (String Global × V))
      → lookup (is_at (λ k. by_bytes name (string_bytes k))) es ≡ find by_bytes name (named_entries es)
  lookup-named name [] = refl
  lookup-named name (e ∷ es) = ap (cond (is_eq (by_bytes name (string_bytes e.0))) (Some e.1)) (lookup-named name es)

  below_all-named : (k : String Global) (es : List (String Global × V))
      → AllByRecursion (λ y. string_cmp k y ≡ Less) (keys_of es) → T (below_all by_bytes (string_bytes k) (named_entries es))
  below_all-named k [] h = tt
  below_all-named k (e ∷ es) h = both _ _ (less _ h.0) (below_all-named k es h.1)

  is_sorted-named : (es : List (String Global × V)) → IsStrictlySortedBy string_cmp (keys_of es)
      → T (is_sorted by_bytes (named_entries es))
  unfolding IsStrictlySortedBy
  is_sorted-named [] h = tt
  is_sorted-named (e ∷ es) h = both _ _ (below_all-named e.0 es h.0) (is_sorted-named es h.1)

  pub tree-in_order : (es : List (String Global × V)) → IsStrictlySortedBy string_cmp (keys_of es) → AreInOrder es
  tree-in_order es h = true_of (is_sorted by_bytes (named_entries es)) (is_sorted-named es h)

  -- the order as std's lemmas take it
  pub sorted : (es : List (String Global × V)) → AreInOrder es → T (is_sorted by_bytes (named_entries es))
  sorted es h = test_of (is_sorted by_bytes (named_entries es)) h

  -- the entries of a map are in order
  pub entries-in_order : (m : FinMap by_bytes V) (es : List (String Global × V)) → named_entries es ≡ entries m → AreInOrder es
  entries-in_order m es same =
      true_of (is_sorted by_bytes (named_entries es)) (subst (λ fs. T (is_sorted by_bytes fs)) (sym same) (entries_sorted m))

  -- a tree after an insert is the map after one
  pub inserted : (old new : List (String Global × V)) (k : String Global) (v : V) → AreInOrder old → AreInOrder new
      → new ≡ insert_entry string_cmp old k v
      → from_sorted {R = by_bytes} (named_entries new) ≡ insert (from_sorted {R = by_bytes} (named_entries old)) (string_bytes k) v
  inserted old new k v was is e =
      same_entries_map _ _ (
      entries-from_sorted by_bytes (named_entries new) (sorted new is) ∙ ap named_entries e ∙ named-insert_entry old k v
      ∙ sym (entries-insert nat_list_cmp_total (from_sorted (named_entries old)) (string_bytes k) v
      ∙ ap (put by_bytes (string_bytes k) v) (entries-from_sorted by_bytes (named_entries old) (sorted old was)))
      )

  pub empty-from_sorted : from_sorted {X = V} {R = by_bytes} [] ≡ empty
  empty-from_sorted =
      empty_of_len (from_sorted []) (len-entries (from_sorted []) ∙ ap length (entries-from_sorted by_bytes [] tt))

  pub length-named : (es : List (String Global × V)) → length (named_entries es) ≡ length es
  length-named [] = refl
  length-named (e ∷ es) = ap (λ n. suc n) (length-named es)

  -- as many entries as the map has names
  pub len-named : (es : List (String Global × V)) → AreInOrder es
      → len (from_sorted {R = by_bytes} (named_entries es)) ≡ length es
  len-named es h =
      len-entries (from_sorted (named_entries es)) ∙ ap length (entries-from_sorted by_bytes (named_entries es) (sorted es h))
      ∙ length-named es

  get-named : (es : List (String Global × V)) (i : ℕ) (e : String Global × V) → i < length es → e ≡ get_or es i e
      → slice_get (named_entries es) i ≡ Some (string_bytes e.0, e.1)
  get-named [] i e h here = absurd (omega arith)
  get-named (x ∷ es) zero e h here = ap (λ y. Some (string_bytes y.0, y.1)) (sym here)
  get-named (x ∷ es) (suc i) e h here = get-named es i e (omega arith) here

  -- the entry at a place of the map
  pub at-named : (es : List (String Global × V)) (i : ℕ) (e : String Global × V) → AreInOrder es → i < length es
      → e ≡ get_or es i e
      → slice_get (entries (from_sorted {R = by_bytes} (named_entries es))) i ≡ Some (string_bytes e.0, e.1)
  at-named es i e is h here =
      ap (λ fs. slice_get fs i) (entries-from_sorted by_bytes (named_entries es) (sorted es is)) ∙ get-named es i e h here
