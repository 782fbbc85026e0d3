-- What `save` and `apply` run can be executed.
use Rattle.std.proofs.Common.{◌≡◌, ℕ, List, [], ◌∷◌, Option}
use Rattle.std.specs.List.{AllByRecursion, AllZip}
use Rattle.access_policy.specs.Decisions.{names_of}
use Rattle.board_specs.specs.declared.spec.BoardSpec.{BoardSpec}
use Rattle.node_tree.specs.Maps.{RegisterMap}
use Rattle.node_tree.specs.Names.{IsIndexOf}
use Rattle.node_tree.specs.Refusals.{KeepsRules}
use Rattle.script_lang.specs.declared.session.Session.{Session}
use Rattle.script_lang.specs.Document.{IsSession}
use Rattle.script_lang.specs.OwnNames.{HaveOwnNames}
use Rattle.script_lang.specs.Scripts.{steps_from, steps_of}
use Rattle.script_steps.specs.Executable.{AreExecutable}
use Rattle.script_steps.specs.Rulings.{steps_under_policy}
use Rattle.script_steps.specs.declared.operation.Decision.{Decision}
use Rattle.script_steps.specs.declared.operation.Step.{Step}
use Rattle.session_input.proofs.Ruled.{all_still}
use Rattle.toml.specs.Data.{Data, Members, get_member}
use Rattle.config_laws.specs.Fields.{HaveFields}
use Rattle.config_store.specs.declared.state.StateEntry.{StateEntry}
use Rattle.config_store.specs.Kept.{indexed_boards, kept_of}
use Rattle.config_store.specs.Lines.{apply_lines, save_lines}
use Rattle.config_store.specs.Meanings.{HasWord, HaveWordNames}
use Rattle.config_store.specs.Refusals.{entry_faults, keeping_faults}
use Rattle.config_store.proofs.KeptLines.{no_more}
use Rattle.config_input.specs.Deserved.{IsApplicable, IsSavable}
use Rattle.config_input.specs.Work.{applying, entries_in, saving, state_faults, state_key}

module _
    (still : (steps : List Step) (decisions : List Decision) → AreExecutable steps → AreExecutable (steps_under_policy steps decisions))
    (own : (document : Members) (session : Session) → IsSession document session → HaveOwnNames session.boards)
    (names : (document : Members) (session : Session) (indexes : List RegisterMap) → IsSession document session
    → AllZip (λ (b : BoardSpec) (index : RegisterMap). IsIndexOf session.tables b.table index) session.boards indexes
    → HaveWordNames (indexed_boards session.boards indexes))
    (fields : (document : Members) (session : Session) (indexes : List RegisterMap) → IsSession document session
    → AllByRecursion (λ (b : BoardSpec). KeepsRules session.tables b.table) session.boards
    → AllZip (λ (b : BoardSpec) (index : RegisterMap). IsIndexOf session.tables b.table index) session.boards indexes
    → HaveFields (indexed_boards session.boards indexes)) where
  pub savable_done : ((specs : List BoardSpec) (indexes : List RegisterMap) → HaveOwnNames specs
      → HaveWordNames (indexed_boards specs indexes) → HaveFields (indexed_boards specs indexes)
      → AreExecutable (steps_from specs indexes 1 (save_lines (kept_of (indexed_boards specs indexes)))))
      → (bytes : List ℕ) (session : Session) (steps : List (List Step)) → IsSavable bytes session steps
      → AllByRecursion AreExecutable steps
  savable_done can bytes session steps is =
      let by = is.holds in
      let asks = by.asks in
      let document_is = by.stands.is_session in
      let compiled = asks.boards.compiled in
      all_still AreExecutable still by.policy (names_of session.boards)
      (steps_of session.boards asks.registers (saving.script (indexed_boards session.boards asks.registers) ∷ [])) steps
      asks.meant (
        can session.boards asks.registers (own _ session document_is)
            (names _ session asks.registers document_is compiled.each_index)
            (fields _ session asks.registers document_is compiled.compile compiled.each_index),
        tt,
      )

  pub applicable_done : ((specs : List BoardSpec) (indexes : List RegisterMap) (state : List StateEntry)
      → HaveOwnNames specs → HaveWordNames (indexed_boards specs indexes) → HaveFields (indexed_boards specs indexes)
      → entry_faults (indexed_boards specs indexes) state ≡ [] → AllByRecursion HasWord state
      → AreExecutable (steps_from specs indexes 1 (apply_lines state (kept_of (indexed_boards specs indexes)))))
      → ((value : Option Data) → AllByRecursion HasWord (entries_in value))
      → (bytes : List ℕ) (session : Session) (steps : List (List Step)) → IsApplicable bytes session steps
      → AllByRecursion AreExecutable steps
  applicable_done can small bytes session steps is =
      let by = is.holds in
      let asks = by.asks in
      let value = get_member state_key is.document in
      let document_is = by.stands.is_session in
      let compiled = asks.boards.compiled in
      let boards = indexed_boards session.boards asks.registers in
      let kept = no_more (state_faults value) _ asks.right in
      let none = no_more (keeping_faults boards) (entry_faults boards (entries_in value)) kept.1 in
      all_still AreExecutable still by.policy (names_of session.boards)
      (steps_of session.boards asks.registers ((applying value).script boards ∷ [])) steps
      asks.meant (
        can session.boards asks.registers (entries_in value) (own _ session document_is)
            (names _ session asks.registers document_is compiled.each_index)
            (fields _ session asks.registers document_is compiled.compile compiled.each_index) none.1 (small value),
        tt,
      )
