-- A binary search among entries in byte order of their names.
use Rattle.std.proofs.Common.{◌≡◌, ◌⊎◌, inl, inr, ℕ, zero, suc, ◌<◌, ◌≤◌, List, [], ◌∷◌, length, get_or, true, false, T}
use Rattle.std.proofs.Common.{Some, None, is_eq, Ordering, Less, Equal, Greater, String, Global, string_bytes, refl, ap}
use Rattle.std.proofs.Common.{sym, ◌∙◌, subst, arith}
use Rattle.std.specs.Ordering.{eq_by_cmp, ordering_index, ordering_reverse}
use Rattle.std.specs.List.Sorted.{IsNonDecreasingBy, IsPartitionPoint}
use Rattle.std.proofs.Math.Nat.{eq-or-lt_of_le}
use Rattle.std.proofs.lemmas.Bool.{cases_lt}
use Rattle.std.proofs.lemmas.Cmp.{nat_list_cmp_total}
use Rattle.std.specs.FinMap.{find, is_sorted}
use Rattle.std.specs.FinMap.Entries.{below_all}
use Rattle.node_tree.specs.Named.{Name, named_entries}
use Rattle.node_tree.proofs.NamedLemmas.{by_bytes}
use Rattle.node_tree.proofs.EntryLemmas.{first, second, less_of}

no_tie : (o r : Ordering) → o ≡ ordering_reverse r → (r ≡ Less) ⊎ (r ≡ Greater) → is_eq o ≡ false
no_tie o r e (inl less) = rw (e, less) refl
no_tie o r e (inr greater) = rw (e, greater) refl

at_most_two : (o : Ordering) → ordering_index o ≤ 2
at_most_two Less = omega arith
at_most_two Equal = omega arith
at_most_two Greater = omega arith

index_rises : (a b q : Name) (r : Ordering) → by_bytes b q ≡ r → by_bytes a b ≡ Less
    → ordering_index (by_bytes a q) ≤ ordering_index r
index_rises a b q Less is less = rw (nat_list_cmp_total.trans a b q less is) (omega arith)
index_rises a b q Equal is less =
    let back : by_bytes q a ≡ by_bytes b a = sym (nat_list_cmp_total.congr b q a is) in
    let same : by_bytes a q ≡ by_bytes a b =
    nat_list_cmp_total.antisymm a q ∙ ap ordering_reverse back ∙ sym (nat_list_cmp_total.antisymm a b) in
    rw (same, less) (omega arith)
index_rises a b q Greater is less = at_most_two (by_bytes a q)

tie_of : (o r : Ordering) → o ≡ ordering_reverse r → r ≡ Equal → is_eq o ≡ true
tie_of o r e equal = rw (e, equal) refl

tied_below : (x q k : Name) → by_bytes x k ≡ Less → by_bytes k q ≡ Equal → eq_by_cmp by_bytes q x ≡ false
tied_below x q k less equal =
    let back : by_bytes q x ≡ by_bytes k x = sym (nat_list_cmp_total.congr k q x equal) in
    let above : by_bytes k x ≡ Greater = nat_list_cmp_total.antisymm k x ∙ ap ordering_reverse less in
    rw (back, above) refl

module _ {V : Type 0} where
  -- how the name of an entry stands to another
  abbrev pub key_cmp : Name → String Global × V → Ordering
  key_cmp q e = by_bytes (string_bytes e.0) q

  -- where no name is the one that is sought
  find-none : (q : Name) (es : List (String Global × V))
      → ((k : ℕ) (d : String Global × V) → k < length es
      → (key_cmp q (get_or es k d) ≡ Less) ⊎ (key_cmp q (get_or es k d) ≡ Greater))
      → find by_bytes q (named_entries es) ≡ None
  find-none q [] apart_all = refl
  find-none q (e ∷ es) apart_all =
      rw (no_tie (by_bytes q (string_bytes e.0)) (key_cmp q e) (nat_list_cmp_total.antisymm q (string_bytes e.0))
      (apart_all zero e (omega arith)))
      (find-none q es (λ k d h. apart_all (suc k) d (omega arith)))

  pub find-gap : (q : Name) (es : List (String Global × V)) (i : ℕ)
      → IsPartitionPoint (λ e. key_cmp q e ≡ Less) (λ e. key_cmp q e ≡ Greater) es i → find by_bytes q (named_entries es) ≡ None
  find-gap q es i parts =
      find-none q es (λ k d h. elim
      (cases_lt k i) [ inl low ↦ inl (parts.0 k d (omega arith) low) | inr high ↦ inr (parts.1 k d high h) ])

  -- a later name is above an earlier one
  head-below : (x : Name) (es : List (String Global × V)) (j : ℕ) (d : String Global × V)
      → T (below_all by_bytes x (named_entries es)) → j < length es → by_bytes x (string_bytes (get_or es j d).0) ≡ Less
  head-below x [] j d h k = absurd (omega arith)
  head-below x (e ∷ es) zero d h k = less_of _ (first _ _ h)
  head-below x (e ∷ es) (suc j) d h k = head-below x es j d (second _ _ h) (omega arith)

  rising : (es : List (String Global × V)) (i j : ℕ) (d : String Global × V) → T (is_sorted by_bytes (named_entries es)) → i < j
      → j < length es
      → by_bytes (string_bytes (get_or es i d).0) (string_bytes (get_or es j d).0) ≡ Less
  rising [] i j d h a b = absurd (omega arith)
  rising (e ∷ es) zero zero d h a b = absurd (omega arith)
  rising (e ∷ es) zero (suc j) d h a b = head-below (string_bytes e.0) es j d (first _ _ h) (omega arith)
  rising (e ∷ es) (suc i) zero d h a b = absurd (omega arith)
  rising (e ∷ es) (suc i) (suc j) d h a b = rising es i j d (second _ _ h) (omega arith) (omega arith)

  pub rises : (q : Name) (es : List (String Global × V)) → T (is_sorted by_bytes (named_entries es))
      → IsNonDecreasingBy (λ e. ordering_index (key_cmp q e)) es
  rises q es h i j d le more =
      elim (eq-or-lt_of_le le) [
        | inl same ↦ subst (λ k. ordering_index (key_cmp q (get_or es i d)) ≤ ordering_index
            (key_cmp q (get_or es k d))) same (omega arith)
        | inr lt ↦ index_rises (string_bytes (get_or es i d).0) (string_bytes (get_or es j d).0) q
            (key_cmp q (get_or es j d)) refl (rising es i j d h lt more)
      ]

  -- the entry at a place whose name is the one that is sought
  pub find-place : (q : Name) (es : List (String Global × V)) (i : ℕ) (e : String Global × V)
      → T (is_sorted by_bytes (named_entries es)) → i < length es → e ≡ get_or es i e → key_cmp q e ≡ Equal
      → find by_bytes q (named_entries es) ≡ Some e.1
  find-place q [] i e h k here equal = absurd (omega arith)
  find-place q (x ∷ es) zero e h k here equal =
      let same : key_cmp q x ≡ Equal = subst (λ y. key_cmp q y ≡ Equal) here equal in
      rw (tie_of (by_bytes q (string_bytes x.0)) (key_cmp q x) (nat_list_cmp_total.antisymm q (string_bytes x.0)) same)
      (ap (λ y. Some y.1) (sym here))
  find-place q (x ∷ es) (suc i) e h k here equal =
      let less : by_bytes (string_bytes x.0) (string_bytes e.0) ≡ Less =
      subst (λ y. by_bytes (string_bytes x.0) (string_bytes y.0) ≡ Less) (sym here)
      (head-below (string_bytes x.0) es i e (first _ _ h) (omega arith)) in
      rw (tied_below (string_bytes x.0) q (string_bytes e.0) less equal)
      (find-place q es i e (second _ _ h) (omega arith) here equal)
