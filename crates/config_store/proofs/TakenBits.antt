-- The bits of words that registers take.
use Rattle.std.proofs.Common.{◌≡◌, ◌≢◌, ℕ, ◌+◌, ◌<◌, List, [], ◌∷◌, ◌++◌, length, get_or, take, drop, Bool, true, false, not}
use Rattle.std.proofs.Common.{◌&&◌, ◌||◌, ◌==◌, cond, nat_lt, min, max, bit_and, bit_or, Some, slice_get, refl, ap}
use Rattle.std.proofs.Common.{sym, ◌∙◌, arith, map}
use Rattle.std.specs.BTreeMap.{BTreeMap}
use Rattle.std.specs.Int.{bit_at}
use Rattle.std.specs.List.{list_any}
use Rattle.std.proofs.lemmas.Bool.{and_from, and_parts, false≢true}
use Rattle.std.proofs.lemmas.Bool.Decides.{nat_tests}
use Rattle.std.proofs.lemmas.List.{take_more}
use Rattle.std.proofs.lemmas.List.Folds.{list_any_more}
use Rattle.std.proofs.lemmas.Nat.Bits.{bit_at_and, bit_at_or, bit_at-zero, same_from_bits}
use Rattle.std.proofs.lemmas.Option.{slice_get_read}
use Rattle.address_table.specs.declared.kinds.Mode.{Mode}
use Rattle.address_table.specs.declared.kinds.Mode.TheVariants.{Single, Block, Port, Hierarchical}
use Rattle.node_tree.specs.Maps.{Name, RegisterMap}
use Rattle.node_tree.specs.Overlaps.{is_dotted_prefix, overlap, share_a_bit}
use Rattle.node_tree.specs.declared.register.Register.{Register}
use Rattle.config_store.specs.declared.refusal.StoreWhy.TheVariants.{Overlap}
use Rattle.config_store.specs.declared.refusal.StoreRefusal.{StoreRefusal}
use Rattle.config_store.specs.Kept.{is_single, is_rw_word, is_rw, IsKept}
use Rattle.config_store.specs.Overlaps.{overlapping_names}
use Rattle.config_store.specs.Refusals.{IsAt, TellsFirst}
use Rattle.config_store.specs.Searches.{AreTaken, AreWords, Takes, taken_at, takes_bit}
use Rattle.config_store.specs.States.{StoreFault}
use Rattle.config_store.proofs.Faults.{tells}
use Rattle.config_store.proofs.NameSearch.{Registers}
use Rattle.config_store.proofs.Places.{any_same, drop_read, take_has}

single : (m : Mode) → is_single m ≡ true → m ≡ Single
single Single h = refl
single Block h = absurd (false≢true h)
single Port h = absurd (false≢true h)
single Hierarchical h = absurd (false≢true h)

single_word : (r : Register) → is_rw_word r ≡ true → r.mode ≡ Single
single_word r h = single r.mode (and_parts (is_single r.mode) (is_rw r.permission) h).0

same_address : (x y : ℕ) → (nat_lt x (y + 1) && nat_lt y (x + 1)) ≡ (x == y)
same_address x y = grind (arith, nat_tests)

and_true : (b : Bool) → (b && true) ≡ b
and_true true = refl
and_true false = refl

-- two words whose names are apart overlap where they have one address and share a bit
overlap_of_words : (a b : Name × Register) → is_rw_word a.1 ≡ true → is_rw_word b.1 ≡ true
    → is_dotted_prefix a.0 b.0 ≡ false → is_dotted_prefix b.0 a.0 ≡ false
    → overlap a b ≡ takes_bit b.1.address b.1.mask a
overlap_of_words a b one other apart back =
    rw (single_word a.1 one, single_word b.1 other, apart, back)
    (and_true _ ∙ ap (λ same. same && share_a_bit a.1 b.1) (same_address a.1.address b.1.address))

-- those that a word overlaps are those that take a bit of it
overlapped : (es : Registers) (i : ℕ) (e : Name × Register) → AreWords es → slice_get es i ≡ Some e
    → list_any (takes_bit e.1.address e.1.mask) (take i es) ≡ list_any (λ a. overlap a e) (take i es)
overlapped es i e words at =
    any_same (takes_bit e.1.address e.1.mask) (λ a. overlap a e) (take i es) (λ k a there.
    let place = take_has es i k a there in
    sym (overlap_of_words a e (words.each k a place) (words.each i e at) (words.apart k i a e place at)
    (words.apart i k e a at place)))

-- ---- bits that are joined

or_zero_left : (p q : ℕ) → bit_or p q ≡ 0 → p ≡ 0
or_zero_left p q none = same_from_bits p 0 (λ i.
    let joined : bit_at (bit_or p q) i ≡ max (bit_at p i) (bit_at q i) = bit_at_or p q i in
    let clear : bit_at (bit_or p q) i ≡ 0 = ap (λ x. bit_at x i) none ∙ bit_at-zero i in
    let zero_bit : bit_at 0 i ≡ 0 = bit_at-zero i in
    omega arith)

or_zero_right : (p q : ℕ) → bit_or p q ≡ 0 → q ≡ 0
or_zero_right p q none = same_from_bits q 0 (λ i.
    let joined : bit_at (bit_or p q) i ≡ max (bit_at p i) (bit_at q i) = bit_at_or p q i in
    let clear : bit_at (bit_or p q) i ≡ 0 = ap (λ x. bit_at x i) none ∙ bit_at-zero i in
    let zero_bit : bit_at 0 i ≡ 0 = bit_at-zero i in
    omega arith)

some_of_joined : (p q : ℕ) (b c : Bool) → (p == 0) ≡ b → (q == 0) ≡ c
    → not (bit_or p q == 0) ≡ (not b || not c)
some_of_joined p q true true is other =
    let a : p ≡ 0 = grind (arith, nat_tests) in
    let b : q ≡ 0 = grind (arith, nat_tests) in
    rw (a, b) refl
some_of_joined p q true false is other = not_zero (bit_or p q) (λ none. absurd (nonzero q other (or_zero_right p q none)))
  where
    nonzero : (x : ℕ) → (x == 0) ≡ false → x ≡ 0 → ⊥
    nonzero x h e = grind (arith, nat_tests)

    not_zero : (x : ℕ) → (x ≡ 0 → ⊥) → not (x == 0) ≡ true
    not_zero x h = grind (arith, nat_tests, h)
some_of_joined p q false c is other = not_zero (bit_or p q) (λ none. absurd (nonzero p is (or_zero_left p q none)))
  where
    nonzero : (x : ℕ) → (x == 0) ≡ false → x ≡ 0 → ⊥
    nonzero x h e = grind (arith, nat_tests)

    not_zero : (x : ℕ) → (x ≡ 0 → ⊥) → not (x == 0) ≡ true
    not_zero x h = grind (arith, nat_tests, h)

and_of_joined : (x y mask : ℕ) → bit_and (bit_or x y) mask ≡ bit_or (bit_and x mask) (bit_and y mask)
and_of_joined x y mask = same_from_bits _ _ (λ i.
    let a : bit_at (bit_and (bit_or x y) mask) i ≡ min (bit_at (bit_or x y) i) (bit_at mask i) =
    bit_at_and (bit_or x y) mask i in
    let b : bit_at (bit_or x y) i ≡ max (bit_at x i) (bit_at y i) = bit_at_or x y i in
    let d : bit_at (bit_or (bit_and x mask) (bit_and y mask)) i ≡ max (bit_at (bit_and x mask) i) (bit_at (bit_and y mask) i) =
    bit_at_or (bit_and x mask) (bit_and y mask) i in
    let e : bit_at (bit_and x mask) i ≡ min (bit_at x i) (bit_at mask i) = bit_at_and x mask i in
    let f : bit_at (bit_and y mask) i ≡ min (bit_at y i) (bit_at mask i) = bit_at_and y mask i in
    omega arith)

joined_shares : (x y mask : ℕ)
    → not (bit_and (bit_or x y) mask == 0) ≡ (not (bit_and x mask == 0) || not (bit_and y mask == 0))
joined_shares x y mask =
    ap (λ n. not (n == 0)) (and_of_joined x y mask)
    ∙ some_of_joined (bit_and x mask) (bit_and y mask) (bit_and x mask == 0) (bit_and y mask == 0) refl refl

or_false : (b : Bool) → (b || false) ≡ b
or_false true = refl
or_false false = refl

module _ (old new : BTreeMap ℕ ℕ) (es : Registers) (i : ℕ) (e : Name × Register) (within : i < length es)
    (here : e ≡ get_or es i e) where
  one_more : AreTaken old (take i es) → Takes e.1 old new → (address mask : ℕ) (b : Bool) → (address == e.1.address) ≡ b
      → not (bit_and (taken_at new address) mask == 0)
      ≡ (list_any (takes_bit address mask) (take i es) || takes_bit address mask e)
  one_more taken takes address mask true is =
      let same : address ≡ e.1.address = grind (arith, nat_tests) in
      let back : (e.1.address == address) ≡ true = grind (arith, nat_tests) in
      rw (takes address, is, joined_shares, back)
      (ap (λ some. some || not (bit_and e.1.mask mask == 0))
      (ap (λ n. not (bit_and (taken_at old n) mask == 0)) (sym same) ∙ taken address mask))
  one_more taken takes address mask false is =
      let back : (e.1.address == address) ≡ false = grind (arith, nat_tests) in
      rw (takes address, is, back) (taken address mask ∙ sym (or_false _))

  pub taken_more : AreTaken old (take i es) → Takes e.1 old new → AreTaken new (take (i + 1) es)
  taken_more taken takes address mask =
      one_more taken takes address mask (address == e.1.address) refl
      ∙ sym (list_any_more (takes_bit address mask) es i e within
      ∙ ap (λ x. list_any (takes_bit address mask) (take i es) || takes_bit address mask x) (sym here))

  -- the names from a register on
  pub names_from : AreWords es → AreTaken old (take i es)
      → (b : Bool) → not (bit_and (taken_at old e.1.address) e.1.mask == 0) ≡ b
      → overlapping_names (take i es) (drop i es)
      ≡ cond b (e.0 ∷ []) [] ++ overlapping_names (take (i + 1) es) (drop (i + 1) es)
  names_from words taken b is =
      let at : slice_get es i ≡ Some e = slice_get_read es (length es) i e refl within here in
      let found : list_any (λ a. overlap a e) (take i es) ≡ b =
      sym (taken e.1.address e.1.mask ∙ overlapped es i e words at) ∙ is in
      let more : take (i + 1) es ≡ take i es ++ e ∷ [] =
      take_more es i e within ∙ ap (λ x. take i es ++ x ∷ []) (sym here) in
      rw (drop_read es i e within here, found, more) refl

-- the refusal that tells the first of these names
pub first_name : (board : Name) (names rest : List Name) (name : Name) (r : StoreRefusal) → names ≡ name ∷ rest
    → IsAt board name Overlap r
    → TellsFirst (map {A = Name} {B = StoreFault} (λ n. (board, n, Overlap)) names) r
first_name board names rest name r is told =
    rw is (tells board name Overlap (map {A = Name} {B = StoreFault} (λ n. (board, n, Overlap)) rest) r told)

-- ---- kept registers

kept_overlap : (index : RegisterMap) (name other : Name) (r s : Register) → IsKept index name r → IsKept index other s
    → overlap (name, r) (other, s) ≡ takes_bit s.address s.mask (name, r)
kept_overlap index name other r s one also =
    let word : is_rw_word r ≡ true = rw (one.one_word, one.both_ways) refl in
    let too : is_rw_word s ≡ true = rw (also.one_word, also.both_ways) refl in
    overlap_of_words (name, r) (other, s) word too (one.lowest other s also.found) (also.lowest name r one.found)

pub overlap_shares : (index : RegisterMap) (name other : Name) (r s : Register) → IsKept index name r
    → IsKept index other s → overlap (name, r) (other, s) ≡ true
    → (r.address ≡ s.address) × (bit_and r.mask s.mask ≢ 0)
overlap_shares index name other r s one also is =
    let (same, some) = and_parts (r.address == s.address) (not (bit_and r.mask s.mask == 0))
    (sym (kept_overlap index name other r s one also) ∙ is) in
    (equal r.address s.address same, not_none (bit_and r.mask s.mask) some)
  where
    equal : (x y : ℕ) → (x == y) ≡ true → x ≡ y
    equal x y h = grind (arith, nat_tests)

    not_none : (x : ℕ) → not (x == 0) ≡ true → x ≢ 0
    not_none x h e = false≢true (ap (λ n. not (n == 0)) (sym e) ∙ h)

pub shares_overlap : (index : RegisterMap) (name other : Name) (r s : Register) → IsKept index name r
    → IsKept index other s → r.address ≡ s.address → bit_and r.mask s.mask ≢ 0
    → overlap (name, r) (other, s) ≡ true
shares_overlap index name other r s one also same some =
    kept_overlap index name other r s one also
    ∙ and_from (r.address == s.address) (not (bit_and r.mask s.mask == 0)) (equal r.address s.address same)
    (not_none (bit_and r.mask s.mask) some)
  where
    equal : (x y : ℕ) → x ≡ y → (x == y) ≡ true
    equal x y h = grind (arith, nat_tests)

    not_none : (x : ℕ) → x ≢ 0 → not (x == 0) ≡ true
    not_none x h = grind (arith, nat_tests, h)
