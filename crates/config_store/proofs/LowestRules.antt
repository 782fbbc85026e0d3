-- The first of the faults of values: by the lowest rule that any of them breaks, at the first that breaks it.
use Rattle.std.proofs.Common.{◌≡◌, ◌∙◌, ℕ, zero, suc, ◌<◌, List, [], ◌∷◌, ◌++◌, map, Bool, true, false, cond}
use Rattle.std.proofs.Common.{Some, slice_get, refl, sym, ap, subst, arith}
use Rattle.std.specs.List.{filter, flat_map}
use Rattle.config_store.specs.declared.state.StateEntry.{StateEntry}
use Rattle.config_store.specs.declared.refusal.StoreWhy.{StoreWhy}
use Rattle.config_store.specs.Kept.{IndexedBoard}
use Rattle.config_store.specs.Refusals.{IsLowest, breaks, fault_by, faults_by}
use Rattle.config_store.specs.States.{StoreFault}

-- ---- what passes a test

pub none_pass : {A B : Type 0} (test : A → Bool) (f : A → B) (xs : List A) → map f (filter test xs) ≡ [] → (k : ℕ) (x : A)
    → slice_get xs k ≡ Some x → test x ≡ false
none_pass {A} {B} test f [] none k x at = let bad : ⊥ = cc in absurd bad
none_pass {A} {B} test f (y ∷ xs) none k x at =
    by_test (test y) refl none k at (λ none' m there. none_pass test f xs none' m x there)
  where
    by_test : (b : Bool) → test y ≡ b → map f (cond b (y ∷ filter test xs) (filter test xs)) ≡ [] → (k : ℕ)
        → slice_get (y ∷ xs) k ≡ Some x
        → (map f (filter test xs) ≡ [] → (m : ℕ) → slice_get xs m ≡ Some x → test x ≡ false) → test x ≡ false
    by_test true is none' k at later = let bad : ⊥ = cc in absurd bad
    by_test false is none' zero at later = let same : y ≡ x = cc in subst (λ z. test z ≡ false) same is
    by_test false is none' (suc k) at later = later none' k at

all_fail : {A B : Type 0} (test : A → Bool) (f : A → B) (xs : List A)
    → ((k : ℕ) (x : A) → slice_get xs k ≡ Some x → test x ≡ false) → map f (filter test xs) ≡ []
all_fail test f [] fail = refl
all_fail test f (y ∷ xs) fail =
    rw (fail zero y refl) (all_fail test f xs (λ k x at. fail (suc k) x at))

-- the first that passes
pub record IsFirstPassing {A B : Type 0} (test : A → Bool) (f : A → B) (xs : List A) (b : B) : Type 0 where
  pub place : ℕ
  pub value : A
  pub there : slice_get xs place ≡ Some value
  pub is : b ≡ f value
  pub passes : test value ≡ true
  pub earlier : (i : ℕ) (x : A) → i < place → slice_get xs i ≡ Some x → test x ≡ false

passing : {A B : Type 0} (test : A → Bool) (f : A → B) (xs : List A) (b : B)
    → slice_get (map f (filter test xs)) 0 ≡ Some b → IsFirstPassing test f xs b
passing {A} {B} test f [] b at = let bad : ⊥ = cc in absurd bad
passing {A} {B} test f (y ∷ xs) b at = by_test (test y) refl at (λ there. passing test f xs b there)
  where
    behind : test y ≡ false → (p : IsFirstPassing test f xs b) → (i : ℕ) (x : A) → i < suc p.place
        → slice_get (y ∷ xs) i ≡ Some x → test x ≡ false
    behind is p zero x less there = let same : y ≡ x = cc in subst (λ z. test z ≡ false) same is
    behind is p (suc i) x less there = p.earlier i x (omega arith) there

    by_test : (t : Bool) → test y ≡ t → slice_get (map f (cond t (y ∷ filter test xs) (filter test xs))) 0 ≡ Some b
        → (slice_get (map f (filter test xs)) 0 ≡ Some b → IsFirstPassing test f xs b)
        → IsFirstPassing test f (y ∷ xs) b
    by_test true is at' later = record {
      place = zero;
      value = y;
      there = refl;
      is = cc;
      passes = is;
      earlier = λ i x less there. absurd (omega arith);
    }
    by_test false is at' later =
        let p = later at' in
        record {
          place = suc p.place;
          value = p.value;
          there = p.there;
          is = p.is;
          passes = p.passes;
          earlier = behind is p;
        }

passed : {A B : Type 0} (test : A → Bool) (f : A → B) (xs : List A) (place : ℕ) (x : A) → slice_get xs place ≡ Some x
    → test x ≡ true → ((i : ℕ) (y : A) → i < place → slice_get xs i ≡ Some y → test y ≡ false)
    → slice_get (map f (filter test xs)) 0 ≡ Some (f x)
passed test f [] place x there passes earlier = let bad : ⊥ = cc in absurd bad
passed test f (y ∷ xs) zero x there passes earlier =
    let same : y ≡ x = cc in
    rw (ap test same ∙ passes) (ap (λ z. Some (f z)) same)
passed test f (y ∷ xs) (suc place) x there passes earlier =
    rw (earlier zero y (omega arith) refl)
    (passed test f xs place x there passes (λ i z less at. earlier (suc i) z (omega arith) at))

-- ---- rule by rule

module _ (boards : List IndexedBoard) (es : List StateEntry) where
  later_rule : (why : StoreWhy) (rules : List StoreWhy) (fault : StoreFault) → faults_by boards es why ≡ []
      → IsLowest rules boards es fault → IsLowest (why ∷ rules) boards es fault
  later_rule why rules fault none is = record {
    rule = suc is.rule;
    why = is.why;
    place = is.place;
    entry = is.entry;
    there = is.there;
    named = is.named;
    broken = is.broken;
    first = is.first;
    lowest = lower;
  }
    where
      lower : (i j : ℕ) (other : StoreWhy) (entry : StateEntry) → i < suc is.rule
          → slice_get (why ∷ rules) i ≡ Some other → slice_get es j ≡ Some entry → breaks boards other entry ≡ false
      lower zero j other entry less at there =
          let same : why ≡ other = cc in
          subst (λ w. breaks boards w entry ≡ false) same
          (none_pass (breaks boards why) (fault_by why) es none j entry there)
      lower (suc i) j other entry less at there = is.lowest i j other entry (omega arith) at there

  this_rule : (why : StoreWhy) (rules : List StoreWhy) (fault : StoreFault)
      → IsFirstPassing (breaks boards why) (fault_by why) es fault → IsLowest (why ∷ rules) boards es fault
  this_rule why rules fault p =
      let same : why ≡ fault.2 = sym (ap (λ (f : StoreFault). f.2) p.is) in
      record {
        rule = zero;
        why = ap Some same;
        place = p.place;
        entry = p.value;
        there = p.there;
        named = subst (λ w. fault ≡ fault_by w p.value) same p.is;
        broken = subst (λ w. breaks boards w p.value ≡ true) same p.passes;
        first = λ i earlier less at. subst (λ w. breaks boards w earlier ≡ false) same (p.earlier i earlier less at);
        lowest = λ i j other entry less at there. absurd (omega arith);
      }

  pub lowest_first : (rules : List StoreWhy) (fault : StoreFault)
      → slice_get (flat_map (faults_by boards es) rules) 0 ≡ Some fault → IsLowest rules boards es fault
  lowest_first [] fault at = let bad : ⊥ = cc in absurd bad
  lowest_first (why ∷ rules) fault at =
      by_faults (faults_by boards es why) refl at (λ there. lowest_first rules fault there)
    where
      by_faults : (here : List StoreFault) → faults_by boards es why ≡ here
          → slice_get (here ++ flat_map (faults_by boards es) rules) 0 ≡ Some fault
          → (slice_get (flat_map (faults_by boards es) rules) 0 ≡ Some fault → IsLowest rules boards es fault)
          → IsLowest (why ∷ rules) boards es fault
      by_faults [] is at' later = later_rule why rules fault is (later at')
      by_faults (x ∷ here) is at' later =
          let front : slice_get (faults_by boards es why) 0 ≡ Some fault = rw is at' in
          this_rule why rules fault (passing (breaks boards why) (fault_by why) es fault front)

  front_get : (xs ys : List StoreFault) (fault : StoreFault) → slice_get xs 0 ≡ Some fault
      → slice_get (xs ++ ys) 0 ≡ Some fault
  front_get [] ys fault at = let bad : ⊥ = cc in absurd bad
  front_get (x ∷ xs) ys fault at = at

  pub first_lowest : (rules : List StoreWhy) (fault : StoreFault) → IsLowest rules boards es fault
      → slice_get (flat_map (faults_by boards es) rules) 0 ≡ Some fault
  first_lowest rules fault is = at_rule rules is.rule is.why is.lowest
    where
      at_rule : (rules : List StoreWhy) (rule : ℕ) → slice_get rules rule ≡ Some fault.2
          → ((i j : ℕ) (why : StoreWhy) (other : StateEntry) → i < rule → slice_get rules i ≡ Some why
          → slice_get es j ≡ Some other → breaks boards why other ≡ false)
          → slice_get (flat_map (faults_by boards es) rules) 0 ≡ Some fault
      at_rule [] rule at lower = let bad : ⊥ = cc in absurd bad
      at_rule (why ∷ rules) zero at lower =
          let same : why ≡ fault.2 = cc in
          front_get (faults_by boards es why) (flat_map (faults_by boards es) rules) fault
          (rw same (passed (breaks boards fault.2) (fault_by fault.2) es is.place is.entry is.there is.broken is.first
          ∙ ap Some (sym is.named)))
      at_rule (why ∷ rules) (suc rule) at lower =
          let none = all_fail (breaks boards why) (fault_by why) es
          (λ j other there. lower zero j why other (omega arith) refl there) in
          rw none (at_rule rules rule at (λ i j w other less here there. lower (suc i) j w other (omega arith) here there))
