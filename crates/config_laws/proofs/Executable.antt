-- The scripts of configurations can be executed.
use Rattle.std.proofs.Common.{ℕ, ◌<◌, ◌^◌, ◌≤◌, List, [], ◌∷◌, ◌++◌, inl, inr, sym, subst, arith}
use Rattle.std.specs.Prelude.{bit_and}
use Rattle.std.specs.List.{AllByRecursion, AllZip}
use Rattle.std.proofs.lemmas.Bool.{cases_Bool}
use Rattle.std.proofs.lemmas.Nat.{and_le_r}
use Rattle.ipb_base.proofs.AllLemmas.{AllByRecursion-append}
use Rattle.masked_fields.specs.Field.{FitsMask, shifted_value}
use Rattle.mtu_packer.specs.Cutting.{CanBeCut, HasWords}
use Rattle.node_tree.specs.declared.register.Register.{Register}
use Rattle.script_lang.specs.Operations.{is_full, write_op}
use Rattle.script_steps.specs.Executable.{AreExecutable, CanBeDone}
use Rattle.script_steps.specs.declared.operation.Step.{Step}
use Rattle.script_steps.specs.declared.operation.Step.TheVariants.{Dispatch}
use Rattle.config_store.specs.declared.state.StateEntry.{StateEntry}
use Rattle.config_store.specs.Kept.{IndexedBoard, KeptRegister}
use Rattle.config_store.specs.Meanings.{HasWord}
use Rattle.config_laws.specs.Fields.{HasField, HaveFields}
use Rattle.config_laws.proofs.Givens.{IsGiven, IsRead}

small_shifted : (mask value : ℕ) → mask < 2 ^ 32 → FitsMask mask value → shifted_value mask value < 2 ^ 32
small_shifted mask value small fits =
    let low : bit_and (shifted_value mask value) mask ≤ mask = and_le_r (shifted_value mask value) mask in
    subst (λ n. n < 2 ^ 32) fits (omega (arith, low, small))

write_cut : (r : Register) (value : ℕ) → HasField r → CanBeCut (write_op r (value ∷ []))
write_cut r value has =
    let address = has.address' in
    elim (cases_Bool (is_full r.mask)) [
      | inl full ↦ rw full (omega arith, omega arith)
      | inr part ↦ rw part tt
    ]

write_words : (r : Register) (value : ℕ) → HasField r → value < 2 ^ 32 → FitsMask r.mask value
    → HasWords (write_op r (value ∷ []))
write_words r value has small fits =
    let or_term = small_shifted r.mask value has.mask' fits in
    elim (cases_Bool (is_full r.mask)) [
      | inl full ↦ rw full (has.address', (small, tt))
      | inr part ↦ rw part (has.address', (omega arith, (or_term, tt)))
    ]

module _ (boards : List IndexedBoard) (fields : HaveFields boards) where
  pub reads_can : (kept : List KeptRegister) (steps : List Step) → AllZip (IsRead boards) kept steps → AreExecutable steps
  reads_can [] [] reads = tt
  reads_can [] (step ∷ steps) reads = absurd reads
  reads_can (r ∷ kept) [] reads = absurd reads
  reads_can (r ∷ kept) (step ∷ steps) reads =
      let is = reads.0 in
      let has = fields is.place is.board r.name r.register is.there is.kept'.found in
      let address = has.address' in (
        subst CanBeDone (sym is.is)
            (record { cut' = (omega arith, omega arith); words' = (has.address', tt); verb' = tt }),
        reads_can kept steps reads.1,
      )

  pub writes_can : (entries : List StateEntry) (steps : List Step) → AllZip (IsGiven boards) entries steps
      → AllByRecursion HasWord entries → AreExecutable steps
  writes_can [] [] given values = tt
  writes_can [] (step ∷ steps) given values = absurd given
  writes_can (e ∷ entries) [] given values = absurd given
  writes_can (e ∷ entries) (step ∷ steps) given values =
      let is = given.0 in
      let has = fields is.place is.board e.name is.register is.there is.kept'.found in (
        subst CanBeDone (sym is.is) (record {
          cut' = write_cut is.register e.value has;
          words' = write_words is.register e.value has values.0 is.fits;
          verb' = tt;
        }),
        writes_can entries steps given.1 values.1,
      )

  pub applied_can : (entries : List StateEntry) (kept : List KeptRegister) (writes reads : List Step)
      → AllZip (IsGiven boards) entries writes → AllZip (IsRead boards) kept reads → AllByRecursion HasWord entries
      → AreExecutable (writes ++ Dispatch ∷ reads)
  applied_can entries kept writes reads given are values =
      AllByRecursion-append CanBeDone writes (Dispatch ∷ reads) (writes_can entries writes given values)
      (tt, reads_can kept reads are)
