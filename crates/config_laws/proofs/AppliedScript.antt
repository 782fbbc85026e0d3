-- The script that applies values, over links that tell.
use Rattle.std.proofs.Common.{◌≡◌, ℕ, List, [], ◌∷◌, ◌++◌, inl, inr, refl, sym, subst}
use Rattle.std.specs.List.{AllByRecursion, AllZip}
use Rattle.std.proofs.lemmas.Bool.{cases_Bool}
use Rattle.std.proofs.lemmas.List.Elements.{filter_map-append}
use Rattle.ipb_base.proofs.AllLemmas.{AllByRecursion-append}
use Rattle.transaction_codec.specs.Request.{op_count}
use Rattle.node_tree.specs.declared.register.Register.{Register}
use Rattle.script_lang.specs.Operations.{is_full, write_op}
use Rattle.script_steps.specs.declared.operation.Step.{Step}
use Rattle.script_steps.specs.declared.operation.Step.TheVariants.{Dispatch}
use Rattle.script_plans.specs.Plan.{operation_in, operations}
use Rattle.config_store.specs.declared.state.StateEntry.{StateEntry}
use Rattle.config_store.specs.Kept.{IndexedBoard, KeptRegister}
use Rattle.config_laws.specs.Turns.{AreOfOneWord, IsOfOneWord}
use Rattle.config_laws.proofs.Givens.{IsGiven, IsRead}

write_word : (r : Register) (value : ℕ) → op_count (write_op r (value ∷ [])) ≡ 1
write_word r value = elim (cases_Bool (is_full r.mask)) [
  | inl full ↦ rw full refl
  | inr part ↦ rw part refl
]

writes_word : (boards : List IndexedBoard) (entries : List StateEntry) (steps : List Step)
    → AllZip (IsGiven boards) entries steps → AreOfOneWord steps
writes_word boards [] [] given = tt
writes_word boards [] (step ∷ steps) given = absurd given
writes_word boards (e ∷ entries) [] given = absurd given
writes_word boards (e ∷ entries) (step ∷ steps) given =
    subst (λ (s : Step). AreOfOneWord (s ∷ steps)) (sym given.0.is)
    (write_word given.0.register e.value, writes_word boards entries steps given.1)

reads_word : (boards : List IndexedBoard) (kept : List KeptRegister) (steps : List Step)
    → AllZip (IsRead boards) kept steps → AreOfOneWord steps
reads_word boards [] [] reads = tt
reads_word boards [] (step ∷ steps) reads = absurd reads
reads_word boards (r ∷ kept) [] reads = absurd reads
reads_word boards (r ∷ kept) (step ∷ steps) reads =
    subst (λ (s : Step). AreOfOneWord (s ∷ steps)) (sym reads.0.is) (refl, reads_word boards kept steps reads.1)

pub applied_word : (boards : List IndexedBoard) (entries : List StateEntry) (kept : List KeptRegister)
    (writes reads : List Step) → AllZip (IsGiven boards) entries writes → AllZip (IsRead boards) kept reads
    → AreOfOneWord (writes ++ Dispatch ∷ reads)
applied_word boards entries kept writes reads given are =
    subst (AllByRecursion IsOfOneWord) (sym (filter_map-append operation_in writes (Dispatch ∷ reads)))
    (AllByRecursion-append IsOfOneWord (operations writes) (operations reads) (writes_word boards entries writes given)
    (reads_word boards kept reads are))
