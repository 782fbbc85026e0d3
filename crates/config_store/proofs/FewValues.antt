-- No more values may be written than registers are kept.
use Rattle.std.proofs.Common.{◌≡◌, ◌⊎◌, inl, inr, ℕ, zero, suc, ◌≤◌, List, [], ◌∷◌, ◌++◌, length, map, Some, slice_get}
use Rattle.std.proofs.Common.{Ordering, Less, Equal, nat_cmp, option_map, refl, sym, ap, ◌∙◌, subst, arith}
use Rattle.std.specs.Cmp.Lexicographic.{slice_cmp}
use Rattle.std.specs.List.{AllByRecursion, flat_map}
use Rattle.std.specs.List.Sorted.{IsStrictlySortedBy}
use Rattle.std.specs.Ordering.{ordering_then}
use Rattle.std.proofs.lemmas.List.{length-map}
use Rattle.std.proofs.lemmas.Option.{slice_get-map}
use Rattle.board_specs.specs.declared.spec.BoardSpec.{BoardSpec}
use Rattle.node_tree.specs.Maps.{Name, RegisterMap}
use Rattle.script_lang.specs.OwnNames.{HaveOwnNames}
use Rattle.script_lang.specs.Scripts.{script_faults}
use Rattle.config_store.specs.declared.state.StateEntry.{StateEntry}
use Rattle.config_store.specs.Kept.{indexed_boards, IndexedBoard, registers_kept, kept_of, kept_on, kept_register, KeptRegister}
use Rattle.config_store.specs.Order.{AreInOrder, entry_cmp}
use Rattle.config_store.specs.Lines.{apply_lines}
use Rattle.config_store.specs.Meanings.{HasWord, HaveWordNames}
use Rattle.config_store.specs.Refusals.{applying_faults, entry_faults, keeping_faults}
use Rattle.config_store.proofs.InOrder.{same_name}
use Rattle.config_store.proofs.KeptLines.{applying_no_fault, entries_written, entry_written, few, no_more}
use Rattle.config_store.proofs.KeptMeaning.{kept_place}

-- ---- lists without repeats

Member : {K : Type 0} → K → List K → Type 0
Member x [] = ⊥
Member x (y ∷ ys) = (y ≡ x) ⊎ Member x ys

record Without {K : Type 0} (x : K) (ys : List K) : Type 0 where
  rest : List K
  shorter : length ys ≡ suc (length rest)
  others : (y : K) → (x ≡ y → ⊥) → Member y ys → Member y rest

without : {K : Type 0} (x : K) (ys : List K) → Member x ys → Without x ys
unfolding Member
without x [] is = absurd is
without x (y ∷ ys) (inl same) = record {
  rest = ys;
  shorter = refl;
  others = λ z other is. elim is [ inl here ↦ absurd (other (sym same ∙ here)) | inr later ↦ later ];
}
without x (y ∷ ys) (inr later) =
    let found = without x ys later in
    record {
      rest = y ∷ found.rest;
      shorter = ap (λ n. suc n) found.shorter;
      others = λ z other is. elim is [ inl here ↦ inl here | inr there ↦ inr (found.others z other there) ];
    }

Differ : {K : Type 0} → List K → Type 0
Differ [] = Unit {0}
Differ (x ∷ xs) = ((y : _) → Member y xs → x ≡ y → ⊥) × Differ xs

no_more_than : {K : Type 0} (xs ys : List K) → Differ xs → ((x : K) → Member x xs → Member x ys) → length xs ≤ length ys
unfolding Member Differ
no_more_than [] ys apart all = omega arith
no_more_than (x ∷ xs) ys apart all =
    let found = without x ys (all x (inl refl)) in
    let rest : length xs ≤ length found.rest =
    no_more_than xs found.rest apart.1 (λ y is. found.others y (apart.0 y is) (all y (inr is))) in
    let shorter : length ys ≡ suc (length found.rest) = found.shorter in
    omega arith

member_at : {K : Type 0} (ys : List K) (k : ℕ) (y : K) → slice_get ys k ≡ Some y → Member y ys
unfolding Member
member_at [] k y at = let bad : ⊥ = cc in absurd bad
member_at (x ∷ ys) zero y at = inl cc
member_at (x ∷ ys) (suc k) y at = inr (member_at ys k y at)

member_front : {K : Type 0} (y : K) (xs ys : List K) → Member y xs → Member y (xs ++ ys)
unfolding Member
member_front y [] ys is = absurd is
member_front y (x ∷ xs) ys (inl here) = inl here
member_front y (x ∷ xs) ys (inr later) = inr (member_front y xs ys later)

member_back : {K : Type 0} (y : K) (xs ys : List K) → Member y ys → Member y (xs ++ ys)
unfolding Member
member_back y [] ys is = is
member_back y (x ∷ xs) ys is = inr (member_back y xs ys is)

member_map : {K L : Type 0} (f : K → L) (x : K) (xs : List K) → Member x xs → Member (f x) (map f xs)
unfolding Member
member_map f x [] is = absurd is
member_map f x (y ∷ xs) (inl here) = inl (ap f here)
member_map f x (y ∷ xs) (inr later) = inr (member_map f x xs later)

member_flat_map : {K L : Type 0} (f : K → List L) (xs : List K) (k : ℕ) (x : K) (y : L) → slice_get xs k ≡ Some x
    → Member y (f x) → Member y (flat_map f xs)
member_flat_map f [] k x y at is = let bad : ⊥ = cc in absurd bad
member_flat_map f (z ∷ xs) zero x y at is =
    let same : x ≡ z = cc in member_front y (f z) (flat_map f xs) (subst (λ w. Member y (f w)) same is)
member_flat_map f (z ∷ xs) (suc k) x y at is =
    member_back y (f z) (flat_map f xs) (member_flat_map f xs k x y at is)

-- ---- values and registers by their names

abbrev Key : Type 0
Key = Name × Name

key_of : StateEntry → Key
key_of entry = (entry.board, entry.name)

kept_key : KeptRegister → Key
kept_key register = (register.board, register.name)

key_cmp : Key → Key → Ordering
key_cmp a b = ordering_then (slice_cmp nat_cmp a.0 b.0) (slice_cmp nat_cmp a.1 b.1)

key_itself : (a : Key) → key_cmp a a ≡ Equal
unfolding key_cmp
key_itself a = rw (same_name a.0, same_name a.1) refl

not_less : (a b : Key) → key_cmp a b ≡ Less → a ≡ b → ⊥
not_less a b less same =
    let tied : key_cmp a b ≡ Equal = subst (λ x. key_cmp a x ≡ Equal) same (key_itself a) in
    let bad : ⊥ = cc in bad

differ_from : (x : StateEntry) (es : List StateEntry) → AllByRecursion (λ y. entry_cmp x y ≡ Less) es → (k : Key)
    → Member k (map key_of es) → key_of x ≡ k → ⊥
unfolding Member key_of key_cmp
differ_from x [] all k is same = is
differ_from x (y ∷ es) all k (inl here) same = not_less (key_of x) (key_of y) all.0 (same ∙ sym here)
differ_from x (y ∷ es) all k (inr later) same = differ_from x es all.1 k later same

differ : (es : List StateEntry) → AreInOrder es → Differ (map key_of es)
unfolding Differ IsStrictlySortedBy
differ [] order = tt
differ (x ∷ es) order = (differ_from x es order.0, differ es order.1)

member_place : (es : List StateEntry) (k : Key) → Member k (map key_of es)
    → (m : ℕ) × (e : StateEntry) × (slice_get es m ≡ Some e) × (key_of e ≡ k)
unfolding Member
member_place [] k is = absurd is
member_place (x ∷ es) k (inl here) = (zero, x, refl, here)
member_place (x ∷ es) k (inr later) = let (m, e, at, is) = member_place es k later in (suc m, e, at, is)

pub few_values : (boards : List IndexedBoard) (es : List StateEntry) → AreInOrder es → entry_faults boards es ≡ []
    → length es ≤ length (kept_of boards)
unfolding key_of kept_key
few_values boards es order none =
    let long = length-map es key_of in
    let wide = length-map (kept_of boards) kept_key in
    let few : length (map key_of es) ≤ length (map kept_key (kept_of boards)) =
    no_more_than (map key_of es) (map kept_key (kept_of boards)) (differ es order) (λ k is.
    let (m, e, at, same) = member_place es k is in
    let it = entry_written boards e (entries_written boards es none m e at) in
    let (i, stands) = kept_place it.board.1 e.name it.register it.is in
    let here : slice_get (kept_on it.board) i ≡ Some (kept_register it.board.0.name (e.name, it.register)) =
    slice_get-map (kept_register it.board.0.name) (registers_kept it.board.1) i
    ∙ ap (option_map (kept_register it.board.0.name)) stands in
    let register = kept_register it.board.0.name (e.name, it.register) in
    let among : Member register (kept_of boards) =
    member_flat_map kept_on boards it.place it.board register it.there (member_at (kept_on it.board) i register here) in
    let named : kept_key register ≡ k = ap (λ (name : Name). (name, e.name)) it.called ∙ same in
    subst (λ x. Member x (map kept_key (kept_of boards))) named
    (member_map kept_key register (kept_of boards) among)) in
    omega arith

-- values in order that break no rule are few enough
pub applying_in_order : (boards : List BoardSpec) (indexes : List RegisterMap) (own : HaveOwnNames boards)
    (words : HaveWordNames (indexed_boards boards indexes)) (es : List StateEntry) → AreInOrder es
    → applying_faults (indexed_boards boards indexes) es ≡ [] → AllByRecursion HasWord es
    → script_faults boards indexes (apply_lines es (kept_of (indexed_boards boards indexes)) ∷ []) ≡ []
applying_in_order boards indexes own words es order none values =
    let bs = indexed_boards boards indexes in
    let parts = no_more (keeping_faults bs) (entry_faults bs es) none in
    let fewer = few_values bs es order parts.1 in
    let small = few boards indexes own words parts.0 in
    applying_no_fault boards indexes own words es none (omega arith) values
