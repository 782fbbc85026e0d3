-- The steps of a configuration's script are the writes of its values and the reads of its registers.
use Rattle.std.proofs.Common.{◌≡◌, ℕ, zero, suc, ◌+◌, List, [], ◌∷◌, ◌++◌, length, map, codes, Some, Ok}
use Rattle.std.proofs.Common.{slice_get, refl, sym, ap, ◌∙◌, subst}
use Rattle.std.specs.List.{AllByRecursion, AllZip, cons_option, filter_map}
use Rattle.std.proofs.lemmas.List.Elements.{filter_map-append}
use Rattle.board_specs.specs.declared.spec.BoardSpec.{BoardSpec}
use Rattle.node_tree.specs.Maps.{RegisterMap}
use Rattle.script_lang.specs.Operations.{meaning}
use Rattle.script_lang.specs.OwnNames.{HaveOwnNames}
use Rattle.script_lang.specs.Scripts.{lines_from, line_meaning, ScriptLine, step_in, steps_from}
use Rattle.script_steps.specs.declared.operation.Step.{Step}
use Rattle.script_steps.specs.declared.operation.Step.TheVariants.{Do, Dispatch}
use Rattle.config_store.specs.declared.state.StateEntry.{StateEntry}
use Rattle.config_store.specs.Kept.{indexed_boards, kept_of}
use Rattle.config_store.specs.Lines.{apply_lines, read_line, read_text, save_lines, write_line, write_text}
use Rattle.config_store.specs.Meanings.{HasWord, HaveWordNames, read_of, Reads, write_of, Writes}
use Rattle.config_store.specs.Refusals.{entry_faults}
use Rattle.config_store.proofs.KeptLines.{all_at, entries_written, entry_written, kept_of_has}
use Rattle.config_store.proofs.LineMeanings.{read_means, write_means}
use Rattle.config_store.proofs.NoFaults.{lines_append}

module _ (boards : List BoardSpec) (indexes : List RegisterMap) where
  -- a line means a step, which stands to what it was made of as it should
  record MeansAs {X : Type 0} (R : X → Step → Type 0) (x : X) (n : ℕ) (text : List ℕ) : Type 0 where
    step : Step
    means : meaning boards indexes n text ≡ Ok (Some step)
    stands : R x step

  steps_of_map : {X : Type 0} (R : X → Step → Type 0) (f : X → List ℕ) (n : ℕ) (xs : List X)
      → ((k m : ℕ) (x : X) → slice_get xs k ≡ Some x → MeansAs R x m (f x))
      → AllZip R xs (steps_from boards indexes n (map f xs))
  steps_of_map R f n [] all = tt
  steps_of_map R f n (x ∷ xs) all =
      let here = all zero n x refl in
      let rest = steps_of_map R f (n + 1) xs (λ k m y at. all (suc k) m y at) in
      let first : steps_from boards indexes n (map f (x ∷ xs)) ≡ here.step ∷ steps_from boards indexes (n + 1) (map f xs) =
      ap (λ o. cons_option (step_in boards indexes o) (steps_from boards indexes (n + 1) (map f xs))) here.means in
      subst (AllZip R (x ∷ xs)) (sym first) (here.stands, rest)

  steps_append : (n : ℕ) (xs ys : List (List ℕ))
      → steps_from boards indexes n (xs ++ ys)
      ≡ steps_from boards indexes n xs ++ steps_from boards indexes (n + length xs) ys
  steps_append n xs ys =
      ap (filter_map (λ (line : ScriptLine). step_in boards indexes (line_meaning boards indexes line))) (lines_append boards indexes n xs ys)
      ∙ filter_map-append (λ (line : ScriptLine). step_in boards indexes (line_meaning boards indexes line)) (lines_from 1 n xs)
      (lines_from 1 (n + length xs) ys)

  module _ (own : HaveOwnNames boards) (words : HaveWordNames (indexed_boards boards indexes)) where
    pub reads_of : (n : ℕ) → AllZip (Reads (indexed_boards boards indexes)) (kept_of (indexed_boards boards indexes))
        (steps_from boards indexes n (save_lines (kept_of (indexed_boards boards indexes))))
    reads_of n =
        steps_of_map (Reads (indexed_boards boards indexes)) read_line n (kept_of (indexed_boards boards indexes)) (λ k m register at.
        let it = kept_of_has (indexed_boards boards indexes) k register at in
        record {
          step = Do (read_of m it.place register.name register.register);
          means = subst
              (λ name. meaning boards indexes m (read_text name register.name)
              ≡ Ok (Some (Do (read_of m it.place register.name register.register)))) it.called
              (read_means boards indexes own it.place m it.board it.there (words.boards' it.place it.board it.there)
              register.name register.register
              (words.registers' it.place it.board register.name register.register it.there it.is.found) it.is);
          stands = record { line = m; place = it.place; board = it.board; there = it.there; called = it.called; is = refl };
        })

    writes_of : (n : ℕ) (es : List StateEntry) → entry_faults (indexed_boards boards indexes) es ≡ [] → AllByRecursion HasWord es
        → AllZip (Writes (indexed_boards boards indexes)) es (steps_from boards indexes n (map write_line es))
    writes_of n es none values =
        steps_of_map (Writes (indexed_boards boards indexes)) write_line n es (λ k m e at.
        let it = entry_written (indexed_boards boards indexes) e (entries_written (indexed_boards boards indexes) es none k e at) in
        record {
          step = Do (write_of m it.place e.name it.register e.value);
          means = subst
              (λ name. meaning boards indexes m (write_text name e.name e.value)
              ≡ Ok (Some (Do (write_of m it.place e.name it.register e.value)))) it.called
              (write_means boards indexes own it.place m it.board it.there (words.boards' it.place it.board it.there)
              e.name it.register (words.registers' it.place it.board e.name it.register it.there it.is.found) it.is
              e.value (all_at es values k e at) it.fits);
          stands = record {
            line = m;
            place = it.place;
            board = it.board;
            register = it.register;
            there = it.there;
            called = it.called;
            found = it.is.found;
            is = refl;
          };
        })

    pub applied_steps : (es : List StateEntry) → entry_faults (indexed_boards boards indexes) es ≡ [] → AllByRecursion HasWord es
        → (writes : List Step) × (reads : List Step) × AllZip (Writes (indexed_boards boards indexes)) es writes
        × AllZip (Reads (indexed_boards boards indexes)) (kept_of (indexed_boards boards indexes)) reads
        × (steps_from boards indexes 1 (apply_lines es (kept_of (indexed_boards boards indexes))) ≡ writes ++ Dispatch ∷ reads)
    applied_steps es none values =
        let from = 1 + length (map write_line es) in (
          steps_from boards indexes 1 (map write_line es),
          steps_from boards indexes (from + 1) (save_lines (kept_of (indexed_boards boards indexes))),
          writes_of 1 es none values,
          reads_of (from + 1),
          steps_append 1 (map write_line es) (codes "dispatch" ∷ save_lines (kept_of (indexed_boards boards indexes))),
        )
