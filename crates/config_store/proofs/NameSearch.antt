-- A place that is searched among registers in byte order of their names.
use Rattle.std.proofs.Common.{◌≡◌, ℕ, ◌+◌, ◌<◌, ◌≤◌, List, [], ◌∷◌, ◌++◌, length, true, false, T}
use Rattle.std.proofs.Common.{Some, slice_get, nat_eq, codes, Ordering, Less, Equal, Greater, nat_cmp, refl, ap, sym, ◌∙◌}
use Rattle.std.proofs.Common.{subst, arith}
use Rattle.std.specs.Cmp.{both_ways, nat_cmp_is}
use Rattle.std.specs.FinMap.{is_sorted, nat_cmp-IsAntisymmetric, slice_cmp-IsAntisymmetric}
use Rattle.std.specs.List.{starts_with}
use Rattle.std.specs.Ordering.{is_lt, ordering_reverse}
use Rattle.std.proofs.lemmas.Bool.{false≢true, cases_lt, and_parts, and_from}
use Rattle.std.proofs.lemmas.Bool.Decides.{nat_tests}
use Rattle.std.proofs.lemmas.Cmp.{nat_list_cmp_total}
use Rattle.std.proofs.lemmas.List.Folds.{list_any_at}
use Rattle.std.proofs.lemmas.Option.{slice_get_within, get_or_from_slice_get}
use Rattle.node_tree.specs.Maps.{Name}
use Rattle.node_tree.specs.Overlaps.{is_dotted_prefix}
use Rattle.node_tree.specs.declared.register.Register.{Register}
use Rattle.node_tree.proofs.CycleLemmas.{either}
use Rattle.node_tree.proofs.NamedLemmas.{by_bytes}
use Rattle.node_tree.proofs.NameOrder.{Begins, between}
use Rattle.node_tree.proofs.TimelineLemmas.{rises}
use Rattle.config_store.specs.Kept.{has_below}
use Rattle.config_store.specs.Searches.{is_before, IsFirstFrom}
use Rattle.config_store.proofs.Places.{any_has, same_place}

abbrev pub Registers : Type 0
Registers = List (Name × Register)

less_of : (o : Ordering) → is_lt o ≡ true → o ≡ Less
less_of Less h = refl
less_of Equal h = absurd (false≢true h)
less_of Greater h = absurd (false≢true h)

lt_of : (o : Ordering) → o ≡ Less → is_lt o ≡ true
lt_of o h = rw h refl

not_lt : (o : Ordering) → (o ≡ Less → ⊥) → is_lt o ≡ false
not_lt Less h = absurd (h refl)
not_lt Equal h = refl
not_lt Greater h = refl

not_less : (o : Ordering) → is_lt o ≡ false → o ≡ Less → ⊥
not_less o h less = false≢true (sym h ∙ lt_of o less)

-- where the name at a place is before another, so is each before it
pub low_half : (es : Registers) (name : Name) (m : ℕ) (there : Name × Register) → T (is_sorted by_bytes es)
    → slice_get es m ≡ Some there → is_before there.0 name ≡ true
    → (k : ℕ) (e : Name × Register) → k < m + 1 → slice_get es k ≡ Some e → is_before e.0 name ≡ true
low_half es name m there order at before k e low is =
    either (cases_lt k m)
    (λ less. lt_of (by_bytes e.0 name)
    (nat_list_cmp_total.trans e.0 there.0 name (rises es k m e there order less is at) (less_of _ before)))
    (λ more. let same : k ≡ m = omega arith in
    let one : there ≡ e = same_place es m there e at (subst (λ n. slice_get es n ≡ Some e) same is) in
    subst (λ x. is_before x.0 name ≡ true) one before)

-- where it is not, neither is any behind it
pub high_half : (es : Registers) (name : Name) (m : ℕ) (there : Name × Register) → T (is_sorted by_bytes es)
    → slice_get es m ≡ Some there → is_before there.0 name ≡ false
    → (k : ℕ) (e : Name × Register) → m ≤ k → slice_get es k ≡ Some e → is_before e.0 name ≡ false
high_half es name m there order at before k e high is =
    either (cases_lt m k)
    (λ less. not_lt (by_bytes e.0 name) (λ below. not_less (by_bytes there.0 name) before
    (nat_list_cmp_total.trans there.0 e.0 name (rises es m k there e order less at is) below)))
    (λ more. let same : k ≡ m = omega arith in
    let one : there ≡ e = same_place es m there e at (subst (λ n. slice_get es n ≡ Some e) same is) in
    subst (λ x. is_before x.0 name ≡ false) one before)

-- ---- names that begin with another

same_byte : (x y : ℕ) → nat_eq x y ≡ true → x ≡ y
same_byte x y h = grind (arith, nat_tests)

byte_same : (x : ℕ) → nat_eq x x ≡ true
byte_same x = grind (arith, nat_tests)

begins_itself : (p : Name) → Begins p p
begins_itself [] = refl
begins_itself (x ∷ p) = and_from (nat_eq x x) (starts_with nat_eq p p) (byte_same x) (begins_itself p)

-- a name that begins with another is not before it
begun_later : (c p : Name) → Begins c p → by_bytes c p ≡ Less → ⊥
begun_later [] [] h less = let bad : ⊥ = cc in bad
begun_later (z ∷ c) [] h less = let bad : ⊥ = cc in bad
begun_later [] (x ∷ p) h less = false≢true h
begun_later (z ∷ c) (x ∷ p) h less =
    let (here, rest) = and_parts (nat_eq x z) (starts_with nat_eq c p) h in
    let same : x ≡ z = same_byte x z here in
    let tied : Equal ≡ nat_cmp z x = nat_cmp_is z x Equal (sym same) in
    let below : by_bytes c p ≡ Less = rw (← tied) at less in
    begun_later c p rest below

-- a name that is not before another is that one, or is behind it
at_or_behind : (there key c : Name) (o : Ordering) → by_bytes there key ≡ o → (o ≡ Less → ⊥) → by_bytes there c ≡ Less
    → Begins c key → Begins there key
at_or_behind there key c Less is not h begins = absurd (not refl)
at_or_behind there key c Equal is not h begins =
    let same : there ≡ key = slice_cmp-IsAntisymmetric nat_cmp-IsAntisymmetric there key is in
    subst (λ x. Begins x key) (sym same) (begins_itself key)
at_or_behind there key c Greater is not h begins =
    let behind : by_bytes key there ≡ Less = nat_list_cmp_total.antisymm key there ∙ ap ordering_reverse is in
    between key there c behind h begins

module _ (es : Registers) (name : Name) (place : ℕ) (order : T (is_sorted by_bytes es))
    (first : IsFirstFrom es (name ++ codes ".") place) where
  -- a name that begins with the key stands at the place or behind it
  from_place : (k : ℕ) (e : Name × Register) → slice_get es k ≡ Some e → is_dotted_prefix name e.0 ≡ true → place ≤ k
  from_place k e at begins =
      either (cases_lt k place)
      (λ low. absurd (begun_later e.0 (name ++ codes ".") begins (less_of _ (first.before k e low at))))
      (λ high. omega arith)

  pub none_below : length es ≤ place → false ≡ has_below es name
  none_below past = both_ways false (has_below es name) (λ h. absurd (false≢true h)) (λ some.
      let (k, e, at, begins) = any_has (λ x. is_dotted_prefix name x.0) es some in
      let from : place ≤ k = from_place k e at begins in
      let within : k < length es = slice_get_within es k e at in
      absurd (omega arith))

  pub some_below : (there : Name × Register) → slice_get es place ≡ Some there
      → starts_with nat_eq there.0 (name ++ codes ".") ≡ has_below es name
  some_below there here =
      both_ways (starts_with nat_eq there.0 (name ++ codes ".")) (has_below es name)
      (λ begins. list_any_at (λ x. is_dotted_prefix name x.0) es place there (slice_get_within es place there here)
      (subst (λ x. is_dotted_prefix name x.0 ≡ true) (sym (get_or_from_slice_get es place there there here)) begins))
      (λ some.
      let (k, e, at, begins) = any_has (λ x. is_dotted_prefix name x.0) es some in
      let from : place ≤ k = from_place k e at begins in
      either (cases_lt place k)
      (λ later. at_or_behind there.0 (name ++ codes ".") e.0 (by_bytes there.0 (name ++ codes ".")) refl
      (not_less _ (first.after place there (omega arith) here)) (rises es place k there e order later here at) begins)
      (λ more. let same : k ≡ place = omega arith in
      let one : e ≡ there = same_place es place e there (subst (λ n. slice_get es n ≡ Some e) same at) here in
      subst (λ x. is_dotted_prefix name x.0 ≡ true) one begins))
