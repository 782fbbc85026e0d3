-- The lines that read kept registers and write values, at their places.
use Rattle.std.proofs.Common.{◌≡◌, ◌⊎◌, inl, inr, ℕ, zero, suc, ◌+◌, ◌≤◌, nat_le, List, [], ◌∷◌, ◌++◌, length, map, Bool, true, false, cond}
use Rattle.std.proofs.Common.{codes, Ok, Option, Some, None, option_map, slice_get, refl, sym, ap, subst, arith, ◌∙◌, not}
use Rattle.std.specs.Prelude.{is_none}
use Rattle.std.specs.FinMap.{entries, get}
use Rattle.std.specs.List.{AllByRecursion, flat_map}
use Rattle.std.specs.Option.{option_and_then, option_map_or}
use Rattle.std.specs.Str.{bytes_eq}
use Rattle.std.proofs.lemmas.Bool.Decides.{nat_tests}
use Rattle.std.proofs.lemmas.List.{length-append, length-map}
use Rattle.std.proofs.lemmas.Slice.Eq.{bytes_eq-Decides}
use Rattle.board_specs.specs.declared.spec.BoardSpec.{BoardSpec}
use Rattle.node_tree.specs.Maps.{Name, RegisterMap}
use Rattle.node_tree.specs.declared.register.Register.{Register}
use Rattle.script_lang.specs.Operations.{fits_mask, meaning}
use Rattle.script_steps.specs.declared.operation.Step.TheVariants.{Do}
use Rattle.script_lang.specs.OwnNames.{HaveOwnNames}
use Rattle.script_lang.specs.Scripts.{script_faults}
use Rattle.config_store.specs.declared.state.StateEntry.{StateEntry}
use Rattle.config_store.specs.declared.refusal.StoreWhy.TheVariants.{UnknownBoard, UnknownName, NotKept, BitsOutside, TooMany}
use Rattle.config_store.specs.Kept.{IndexedBoard, indexed_boards, is_kept, IsKept, registers_kept, kept_of, kept_on, kept_register}
use Rattle.config_store.specs.Kept.{KeptRegister}
use Rattle.config_store.specs.Limits.{most_kept}
use Rattle.config_store.specs.Lines.{apply_lines, read_line, save_lines, write_line, write_text, read_text}
use Rattle.config_store.specs.Meanings.{HasWord, HaveWordNames, read_of, write_of}
use Rattle.config_store.specs.Refusals.{applying_faults, breaks, count_faults, entry_faults, fault_by, faults_by}
use Rattle.config_store.specs.Refusals.{has_bits_outside, index_of, is_absent_in, is_not_kept, keeping_faults, overlap_faults}
use Rattle.config_store.specs.Refusals.{register_of}
use Rattle.config_store.specs.States.{StoreFault}
use Rattle.config_store.proofs.KeptMeaning.{is_kept_at, kept_is}
use Rattle.config_store.proofs.LowestRules.{none_pass}
use Rattle.config_store.proofs.LineMeanings.{read_means, write_means}
use Rattle.config_store.proofs.NoFaults.{AreFine, fine_append, fine_dispatch, fine_map, no_faults}

-- ---- lists that are put together

record IsIn {X Y : Type 0} (f : X → List Y) (xs : List X) (y : Y) : Type 0 where
  from : X
  place : ℕ
  there : slice_get xs place ≡ Some from
  at : ℕ
  has : slice_get (f from) at ≡ Some y

append_has : {Y : Type 0} (xs ys : List Y) (k : ℕ) (y : Y) → slice_get (xs ++ ys) k ≡ Some y
    → ((m : ℕ) × (slice_get xs m ≡ Some y)) ⊎ ((m : ℕ) × (slice_get ys m ≡ Some y))
append_has [] ys k y at = inr (k, at)
append_has (x ∷ xs) ys zero y at = inl (zero, at)
append_has (x ∷ xs) ys (suc k) y at = shift (append_has xs ys k y at)
  where
    shift : ((m : ℕ) × (slice_get xs m ≡ Some y)) ⊎ ((m : ℕ) × (slice_get ys m ≡ Some y))
        → ((m : ℕ) × (slice_get (x ∷ xs) m ≡ Some y)) ⊎ ((m : ℕ) × (slice_get ys m ≡ Some y))
    shift (inl (m, there)) = inl (suc m, there)
    shift (inr (m, there)) = inr (m, there)

flat_map_has : {X Y : Type 0} (f : X → List Y) (xs : List X) (k : ℕ) (y : Y) → slice_get (flat_map f xs) k ≡ Some y
    → IsIn f xs y
flat_map_has f [] k y at = let bad : ⊥ = cc in absurd bad
flat_map_has f (x ∷ xs) k y at =
    elim (append_has (f x) (flat_map f xs) k y at) [
      | inl (m, there) ↦ record { from = x; place = zero; there = refl; at = m; has = there }
      | inr (m, there) ↦ (let rest = flat_map_has f xs m y there in
          record { from = rest.from; place = suc rest.place; there = rest.there; at = rest.at; has = rest.has })
    ]

record IsImage {X Y : Type 0} (f : X → Y) (xs : List X) (k : ℕ) (y : Y) : Type 0 where
  from : X
  there : slice_get xs k ≡ Some from
  is : f from ≡ y

map_has : {X Y : Type 0} (f : X → Y) (xs : List X) (k : ℕ) (y : Y) → slice_get (map f xs) k ≡ Some y → IsImage f xs k y
map_has f [] k y at = let bad : ⊥ = cc in absurd bad
map_has f (x ∷ xs) zero y at = record { from = x; there = refl; is = cc }
map_has f (x ∷ xs) (suc k) y at =
    let rest = map_has f xs k y at in
    record { from = rest.from; there = rest.there; is = rest.is }

-- ---- kept registers

pub record IsKeptOf (boards : List IndexedBoard) (register : KeptRegister) : Type 0 where
  pub board : IndexedBoard
  pub place : ℕ
  pub there : slice_get boards place ≡ Some board
  pub called : board.0.name ≡ register.board
  pub is : IsKept board.1 register.name register.register

pub kept_of_has : (boards : List IndexedBoard) (k : ℕ) (register : KeptRegister) → slice_get (kept_of boards) k ≡ Some register
    → IsKeptOf boards register
kept_of_has boards k register at =
    let found = flat_map_has kept_on boards k register at in
    let image = map_has (kept_register found.from.0.name) (registers_kept found.from.1) found.at register found.has in
    record {
      board = found.from;
      place = found.place;
      there = found.there;
      called = ap (λ (r : KeptRegister). r.board) image.is;
      is = subst (λ (r : KeptRegister). IsKept found.from.1 r.name r.register) image.is
          (is_kept_at found.from.1 found.at image.from.0 image.from.1 image.there);
    }

-- ---- values that may be written

pub record MayBeWritten (boards : List IndexedBoard) (entry : StateEntry) : Type 0 where
  pub board : IndexedBoard
  pub place : ℕ
  pub there : slice_get boards place ≡ Some board
  pub called : board.0.name ≡ entry.board
  pub register : Register
  pub is : IsKept board.1 entry.name register
  pub fits : fits_mask register.mask entry.value ≡ true

record IsIndexAt (name : Name) (boards : List IndexedBoard) (index : RegisterMap) : Type 0 where
  board : IndexedBoard
  place : ℕ
  there : slice_get boards place ≡ Some board
  called : board.0.name ≡ name
  has : board.1 ≡ index

index_has : (name : Name) (boards : List IndexedBoard) (index : RegisterMap) → index_of name boards ≡ Some index
    → IsIndexAt name boards index
index_has name [] index is = let bad : ⊥ = cc in absurd bad
index_has name (b ∷ boards) index is = by_name (bytes_eq b.0.name name) refl is (index_has name boards index)
  where
    by_name : (t : Bool) → bytes_eq b.0.name name ≡ t → cond t (Some b.1) (index_of name boards) ≡ Some index
        → (index_of name boards ≡ Some index → IsIndexAt name boards index) → IsIndexAt name (b ∷ boards) index
    by_name true same found later = record {
      board = b;
      place = zero;
      there = refl;
      called = (bytes_eq-Decides b.0.name name).0 same;
      has = cc;
    }
    by_name false other found later =
        let rest = later found in
        record { board = rest.board; place = suc rest.place; there = rest.there; called = rest.called; has = rest.has }

-- it breaks no rule on values
pub record BreaksNone (boards : List IndexedBoard) (entry : StateEntry) : Type 0 where
  pub board : breaks boards UnknownBoard entry ≡ false
  pub name : breaks boards UnknownName entry ≡ false
  pub kept : breaks boards NotKept entry ≡ false
  pub bits : breaks boards BitsOutside entry ≡ false

negated : (b : Bool) → not b ≡ false → b ≡ true
negated true h = refl
negated false h = let bad : ⊥ = cc in absurd bad

pub entry_written : (boards : List IndexedBoard) (entry : StateEntry) → BreaksNone boards entry
    → MayBeWritten boards entry
entry_written boards entry none = by_index (index_of entry.board boards) refl
  where
    by_register : (index : RegisterMap) → index_of entry.board boards ≡ Some index → (o : Option Register)
        → get index entry.name ≡ o → MayBeWritten boards entry
    by_register index at None is =
        let known : option_map_or (is_absent_in entry) (Some index) false ≡ false =
        subst (λ o. option_map_or (is_absent_in entry) o false ≡ false) at none.name in
        let bad : ⊥ = cc in absurd bad
    by_register index at (Some r) is =
        let here = index_has entry.board boards index at in
        let found : register_of boards entry ≡ Some (index, r) =
        ap (option_and_then (λ (m : RegisterMap). option_map (λ s. (m, s)) (get m entry.name))) at
        ∙ ap (option_map (λ s. (index, s))) is in
        let kept' : is_kept (entries index) (entry.name, r) ≡ true =
        negated _ (subst (λ o. option_map_or (is_not_kept entry) o false ≡ false) found none.kept) in
        record {
          board = here.board;
          place = here.place;
          there = here.there;
          called = here.called;
          register = r;
          is = subst (λ m. IsKept m entry.name r) (sym here.has) (kept_is index entry.name r is kept');
          fits = negated _ (subst (λ o. option_map_or (has_bits_outside entry) o false ≡ false) found none.bits);
        }

    by_index : (o : Option RegisterMap) → index_of entry.board boards ≡ o → MayBeWritten boards entry
    by_index None is =
        let known : is_none {T = RegisterMap} None ≡ false = subst (λ o. is_none o ≡ false) is none.board in
        let bad : ⊥ = cc in absurd bad
    by_index (Some index) is = by_register index is (get index entry.name) refl

pub no_more : {X : Type 0} (xs ys : List X) → xs ++ ys ≡ [] → (xs ≡ []) × (ys ≡ [])
no_more [] ys h = (refl, h)
no_more (x ∷ xs) ys h = let bad : ⊥ = cc in absurd bad

pub entries_written : (boards : List IndexedBoard) (es : List StateEntry) → entry_faults boards es ≡ []
    → (k : ℕ) (e : StateEntry) → slice_get es k ≡ Some e → BreaksNone boards e
entries_written boards es none k e at =
    let one = no_more (faults_by boards es UnknownBoard) _ none in
    let two = no_more (faults_by boards es UnknownName) _ one.1 in
    let three = no_more (faults_by boards es NotKept) _ two.1 in
    let four = no_more (faults_by boards es BitsOutside) _ three.1 in
    record {
      board = none_pass (breaks boards UnknownBoard) (fault_by UnknownBoard) es one.0 k e at;
      name = none_pass (breaks boards UnknownName) (fault_by UnknownName) es two.0 k e at;
      kept = none_pass (breaks boards NotKept) (fault_by NotKept) es three.0 k e at;
      bits = none_pass (breaks boards BitsOutside) (fault_by BitsOutside) es four.0 k e at;
    }

pub all_at : (es : List StateEntry) → AllByRecursion HasWord es → (k : ℕ) (e : StateEntry) → slice_get es k ≡ Some e
    → HasWord e
all_at [] all k e at = let bad : ⊥ = cc in absurd bad
all_at (x ∷ es) all zero e at = let same : x ≡ e = cc in subst HasWord same all.0
all_at (x ∷ es) all (suc k) e at = all_at es all.1 k e at

few_kept : (n : ℕ) → count_faults n ≡ [] → n ≤ most_kept
few_kept n h = by_test (nat_le n most_kept) refl h
  where
    by_test : (b : Bool) → nat_le n most_kept ≡ b → cond {A = List StoreFault} b [] (([], [], TooMany) ∷ []) ≡ []
        → n ≤ most_kept
    by_test true is e = grind (arith, nat_tests)
    by_test false is e = let bad : ⊥ = cc in absurd bad

module _ (boards : List BoardSpec) (indexes : List RegisterMap) (own : HaveOwnNames boards)
    (words : HaveWordNames (indexed_boards boards indexes)) where
  reads_fine : AreFine boards indexes (save_lines (kept_of (indexed_boards boards indexes)))
      (length (kept_of (indexed_boards boards indexes)))
  reads_fine =
      fine_map boards indexes read_line (kept_of (indexed_boards boards indexes)) (λ k n register at.
      let it = kept_of_has (indexed_boards boards indexes) k register at in
      record {
        op = read_of n it.place register.name register.register;
        means = subst
            (λ name. meaning boards indexes n (read_text name register.name)
            ≡ Ok (Some (Do (read_of n it.place register.name register.register)))) it.called
            (read_means boards indexes own it.place n it.board it.there (words.boards' it.place it.board it.there)
            register.name register.register
            (words.registers' it.place it.board register.name register.register it.there it.is.found) it.is);
        word = refl;
      })

  writes_fine : (es : List StateEntry) → entry_faults (indexed_boards boards indexes) es ≡ [] → AllByRecursion HasWord es
      → AreFine boards indexes (map write_line es) (length es)
  writes_fine es none values =
      fine_map boards indexes write_line es (λ k n e at.
      let it = entry_written (indexed_boards boards indexes) e (entries_written (indexed_boards boards indexes) es none k e at) in
      record {
        op = write_of n it.place e.name it.register e.value;
        means = subst
            (λ name. meaning boards indexes n (write_text name e.name e.value)
            ≡ Ok (Some (Do (write_of n it.place e.name it.register e.value)))) it.called
            (write_means boards indexes own it.place n it.board it.there (words.boards' it.place it.board it.there)
            e.name it.register (words.registers' it.place it.board e.name it.register it.there it.is.found) it.is
            e.value (all_at es values k e at) it.fits);
        word = refl;
      })

  pub few : keeping_faults (indexed_boards boards indexes) ≡ [] → length (kept_of (indexed_boards boards indexes)) ≤ most_kept
  few none = few_kept (length (kept_of (indexed_boards boards indexes)))
      (no_more (flat_map overlap_faults (indexed_boards boards indexes)) _ none).1

  pub saving_no_fault : keeping_faults (indexed_boards boards indexes) ≡ []
      → script_faults boards indexes (save_lines (kept_of (indexed_boards boards indexes)) ∷ []) ≡ []
  saving_no_fault none =
      let small = few none in
      let long = length-map (kept_of (indexed_boards boards indexes)) read_line in
      no_faults boards indexes (save_lines (kept_of (indexed_boards boards indexes))) _ reads_fine (omega arith) (omega arith)

  pub applying_no_fault : (es : List StateEntry) → applying_faults (indexed_boards boards indexes) es ≡ []
      → length es ≤ most_kept → AllByRecursion HasWord es
      → script_faults boards indexes (apply_lines es (kept_of (indexed_boards boards indexes)) ∷ []) ≡ []
  applying_no_fault es none few_values values =
      let kept' = kept_of (indexed_boards boards indexes) in
      let parts = no_more (keeping_faults (indexed_boards boards indexes)) (entry_faults (indexed_boards boards indexes) es) none in
      let small = few parts.0 in
      let fine = fine_append boards indexes (map write_line es) (codes "dispatch" ∷ save_lines kept') (length es)
      (0 + length kept') (writes_fine es parts.1 values)
      (fine_append boards indexes (codes "dispatch" ∷ []) (save_lines kept') 0 (length kept')
      (fine_dispatch boards indexes) reads_fine) in
      let long = length-append (map write_line es) (codes "dispatch" ∷ save_lines kept') in
      let writes = length-map es write_line in
      let reads = length-map kept' read_line in
      no_faults boards indexes (apply_lines es kept') _ fine (omega arith) (omega arith)
