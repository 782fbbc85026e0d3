use Rattle.std.proofs.Common.{◌≡◌, ◌∙◌, [], List, ◌++◌, ap, arith}
use Rattle.std.proofs.lemmas.Grind.{common_steps}
use Rattle.config_store.specs.Kept as kept
use Rattle.config_store.specs.Refusals as fault
use Rattle.config_store.specs.States.{StoreFault}
use Rattle.config_store.proofs.Faults.{front_fault, handed_on, later_fault}
use Rattle.config_store.proofs.lines.apply_lines.Goals as goal

pub returns-in_err-saves-clause-refused : goal.returns-in_err-saves-clause-refused
returns-in_err-saves-clause-refused c =
    let boards = kept.indexed_boards c.args.session.now.boards c.args.indexes.now in
    let refusal = c.in_err-saves.field-0.0 in
    handed_on (fault.TellsFirst (fault.applying_faults boards c.args.state.now)) c.from_residual.result refusal
    c.from_residual.ensures.1 (front_fault _ _ refusal c.in_err-saves.ensures.refused)

pub returns-in_err-check_entries-clause-refused : goal.returns-in_err-check_entries-clause-refused
returns-in_err-check_entries-clause-refused c =
    let boards = kept.indexed_boards c.args.session.now.boards c.args.indexes.now in
    let refusal = c.in_err-check_entries.field-0.0 in
    let told : fault.TellsFirst (fault.entry_faults boards c.args.state.now) refusal =
    rw (← c.as_slice.ensures, ← c.as_slice-entries.ensures) c.in_err-check_entries.ensures.first in
    handed_on (fault.TellsFirst (fault.applying_faults boards c.args.state.now))
    c.from_residual-in_err-check_entries.result refusal c.from_residual-in_err-check_entries.ensures.1
    (later_fault (fault.keeping_faults boards) (fault.entry_faults boards c.args.state.now) refusal
    c.in_ok-saves.ensures.accepted told)

pub returns-clause-accepted : goal.returns-clause-accepted
returns-clause-accepted c =
    let boards = kept.indexed_boards c.args.session.now.boards c.args.indexes.now in
    let none : fault.entry_faults boards c.args.state.now ≡ [] =
    rw (← c.as_slice.ensures, ← c.as_slice-entries.ensures) c.in_ok-check_entries.ensures.none in
    ap (λ (front : List StoreFault). front ++ fault.entry_faults boards c.args.state.now) c.in_ok-saves.ensures.accepted
    ∙ none

pub returns-clause-lines : goal.returns-clause-lines
returns-clause-lines c = grind (arith, common_steps)
