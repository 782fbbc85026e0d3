-- The steps of a configuration's script, with the registers that they read and write.
use Rattle.std.proofs.Common.{◌≡◌, ℕ, zero, suc, ◌<◌, List, [], ◌∷◌, Some, inl, inr, refl, sym, ap, ◌∙◌, subst}
use Rattle.std.proofs.Common.{arith}
use Rattle.std.specs.List.{AllZip, slice_get}
use Rattle.std.specs.FinMap.{get}
use Rattle.std.proofs.lemmas.Bool.{cases_lt, eqb-true}
use Rattle.std.proofs.lemmas.Option.{get_or_from_slice_get, same_Some, slice_get_within}
use Rattle.board_specs.specs.declared.spec.BoardSpec.{BoardSpec}
use Rattle.masked_fields.specs.Field.{FitsMask, shifted_value}
use Rattle.node_tree.specs.Maps.{RegisterMap}
use Rattle.node_tree.specs.declared.register.Register.{Register}
use Rattle.script_lang.specs.OwnNames.{HaveOwnNames}
use Rattle.script_steps.specs.declared.operation.Step.{Step}
use Rattle.script_steps.specs.declared.operation.Step.TheVariants.{Do}
use Rattle.config_store.specs.declared.state.StateEntry.{StateEntry}
use Rattle.config_store.specs.Kept.{IndexedBoard, IsKept, KeptRegister, indexed_boards, kept_of}
use Rattle.config_store.specs.Meanings.{Reads, Writes, read_of, write_of}
use Rattle.config_store.specs.Refusals.{entry_faults}
use Rattle.config_store.proofs.KeptLines.{IsKeptOf, MayBeWritten, entries_written, entry_written, kept_of_has}
use Rattle.config_laws.proofs.SavedLines.{first_of}

-- ---- boards by their names

differ : (specs : List BoardSpec) (i j : ℕ) (a b : BoardSpec) → HaveOwnNames specs → slice_get specs i ≡ Some a
    → slice_get specs j ≡ Some b → i < j → a.name ≡ b.name → ⊥
differ specs i j a b own at there less same =
    own i j a less (slice_get_within specs j b there)
    (ap (λ (x : BoardSpec). x.name) (get_or_from_slice_get specs i a a at) ∙ same
    ∙ sym (ap (λ (x : BoardSpec). x.name) (get_or_from_slice_get specs j b a there)))

-- a name is that of one board
pub one_place : (specs : List BoardSpec) (i j : ℕ) (a b : BoardSpec) → HaveOwnNames specs → slice_get specs i ≡ Some a
    → slice_get specs j ≡ Some b → a.name ≡ b.name → i ≡ j
one_place specs i j a b own at there same = elim (cases_lt i j) [
  | inl less ↦ absurd (differ specs i j a b own at there less same)
  | inr more ↦ elim (cases_lt j i) [
    | inl less ↦ absurd (differ specs j i b a own there at less (sym same))
    | inr few ↦ omega (arith, more, few)
  ]
]

-- what is at each place of a list, beside what stands there in another
pub zip_with : {A B : Type 0} (P : A → Type 0) (R S : A → B → Type 0) (xs : List A) (ys : List B)
    → ((k : ℕ) (x : A) → slice_get xs k ≡ Some x → P x) → ((x : A) (y : B) → P x → R x y → S x y) → AllZip R xs ys
    → AllZip S xs ys
zip_with P R S [] [] each leads all = tt
zip_with P R S [] (y ∷ ys) each leads all = absurd all
zip_with P R S (x ∷ xs) [] each leads all = absurd all
zip_with P R S (x ∷ xs) (y ∷ ys) each leads all =
    (leads x y (each zero x refl) all.0, zip_with P R S xs ys (λ k z at. each (suc k) z at) leads all.1)

-- ---- steps

-- a step writes a value to the kept register that it is for
pub record IsGiven (boards : List IndexedBoard) (entry : StateEntry) (step : Step) : Type 0 where
  pub line : ℕ
  pub place : ℕ
  pub board : IndexedBoard
  pub register : Register
  pub there : slice_get boards place ≡ Some board
  pub called : board.0.name ≡ entry.board
  pub kept' : IsKept board.1 entry.name register
  pub fits : FitsMask register.mask entry.value
  pub is : step ≡ Do (write_of line place entry.name register entry.value)

-- a step reads a kept register
pub record IsRead (boards : List IndexedBoard) (kept : KeptRegister) (step : Step) : Type 0 where
  pub line : ℕ
  pub place : ℕ
  pub board : IndexedBoard
  pub there : slice_get boards place ≡ Some board
  pub called : board.0.name ≡ kept.board
  pub kept' : IsKept board.1 kept.name kept.register
  pub is : step ≡ Do (read_of line place kept.name kept.register)

module _ (specs : List BoardSpec) (indexes : List RegisterMap) (own : HaveOwnNames specs) where
  -- two boards of one name are one
  pub one_board : (i j : ℕ) (a b : IndexedBoard) → slice_get (indexed_boards specs indexes) i ≡ Some a
      → slice_get (indexed_boards specs indexes) j ≡ Some b → a.0.name ≡ b.0.name → (i ≡ j) × (a ≡ b)
  one_board i j a b at there same =
      let place = one_place specs i j a.0 b.0 own (first_of specs indexes i a at) (first_of specs indexes j b there) same
      in (
        place,
        same_Some a b (sym at ∙ (ap (slice_get (indexed_boards specs indexes)) place ∙ there)),
      )

  given : (entry : StateEntry) (step : Step) → MayBeWritten (indexed_boards specs indexes) entry
      → Writes (indexed_boards specs indexes) entry step → IsGiven (indexed_boards specs indexes) entry step
  given entry step may w =
      let same = one_board may.place w.place may.board w.board may.there w.there (may.called ∙ sym w.called) in
      let found : get may.board.1 entry.name ≡ Some w.register =
      subst (λ (b : IndexedBoard). get b.1 entry.name ≡ Some w.register) (sym same.1) w.found in
      let register : may.register ≡ w.register = same_Some may.register w.register (sym may.is.found ∙ found) in
      record {
        line = w.line;
        place = w.place;
        board = w.board;
        register = may.register;
        there = w.there;
        called = w.called;
        kept' = subst (λ (b : IndexedBoard). IsKept b.1 entry.name may.register) same.1 may.is;
        fits = eqb-true _ (shifted_value may.register.mask entry.value) may.fits;
        is = w.is ∙ ap (λ (r : Register). Do (write_of w.line w.place entry.name r entry.value)) (sym register);
      }

  pub all_given : (entries : List StateEntry) (steps : List Step) → entry_faults (indexed_boards specs indexes) entries ≡ []
      → AllZip (Writes (indexed_boards specs indexes)) entries steps → AllZip (IsGiven (indexed_boards specs indexes)) entries steps
  all_given entries steps none =
      zip_with (MayBeWritten (indexed_boards specs indexes)) (Writes (indexed_boards specs indexes)) (IsGiven (indexed_boards specs indexes))
      entries steps
      (λ k e at. entry_written (indexed_boards specs indexes) e (entries_written (indexed_boards specs indexes) entries none k e at))
      given

  read : (kept : KeptRegister) (step : Step) → IsKeptOf (indexed_boards specs indexes) kept
      → Reads (indexed_boards specs indexes) kept step → IsRead (indexed_boards specs indexes) kept step
  read kept step is r =
      let same = one_board is.place r.place is.board r.board is.there r.there (is.called ∙ sym r.called) in
      record {
        line = r.line;
        place = r.place;
        board = r.board;
        there = r.there;
        called = r.called;
        kept' = subst (λ (b : IndexedBoard). IsKept b.1 kept.name kept.register) same.1 is.is;
        is = r.is;
      }

  pub all_read : (steps : List Step) → AllZip (Reads (indexed_boards specs indexes)) (kept_of (indexed_boards specs indexes)) steps
      → AllZip (IsRead (indexed_boards specs indexes)) (kept_of (indexed_boards specs indexes)) steps
  all_read steps =
      zip_with (IsKeptOf (indexed_boards specs indexes)) (Reads (indexed_boards specs indexes)) (IsRead (indexed_boards specs indexes))
      (kept_of (indexed_boards specs indexes)) steps (λ k r at. kept_of_has (indexed_boards specs indexes) k r at) read
