use Rattle.std.proofs.Common.{arith}
use Rattle.std.proofs.lemmas.Grind.{common_steps}
use Rattle.config_store.specs.Kept as kept
use Rattle.config_store.specs.Refusals as fault
use Rattle.config_store.proofs.Faults.{front_fault, handed_on}
use Rattle.config_store.proofs.lines.save_lines.Goals as goal

pub returns-in_err-lines-clause-refused : goal.returns-in_err-lines-clause-refused
returns-in_err-lines-clause-refused c =
    let faults = fault.keeping_faults (kept.indexed_boards c.args.session.now.boards c.args.indexes.now) in
    let refusal = c.in_err-lines.field-0.0 in
    handed_on (fault.TellsFirst faults) c.from_residual.result refusal c.from_residual.ensures.1
    (rw (← c.as_slice.ensures) (front_fault _ _ refusal c.in_err-lines.ensures.first))

pub returns-then-len-gt-MAX_KEPT-clause-refused : goal.returns-then-len-gt-MAX_KEPT-clause-refused
returns-then-len-gt-MAX_KEPT-clause-refused c = grind (arith, common_steps)

pub returns-clause-accepted : goal.returns-clause-accepted
returns-clause-accepted c = grind (arith, common_steps)

pub returns-clause-lines : goal.returns-clause-lines
returns-clause-lines c = grind (arith, common_steps)
