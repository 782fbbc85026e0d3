use Rattle.std.proofs.Common.{◌∙◌, arith, append-nil}
use Rattle.std.proofs.lemmas.Grind.{common_steps}
use Rattle.std.proofs.lemmas.Option.{gets}
use Rattle.transcript.specs.Steps.{ends_on}
use Rattle.script_plans.proofs.Lookups.{same_read}
use Rattle.transcript.proofs.lines.add_line.Goals as goal

pub returns-in_default-clause-lines : goal.returns-in_default-clause-lines
returns-in_default-clause-lines c = grind (arith, common_steps, gets, append-nil)

pub bounds-ends-board : goal.bounds-ends-board
bounds-ends-board c = grind (arith, common_steps)

pub tell-requires : goal.tell-requires
tell-requires c =
    c.as_slice.ensures.value
    ∙ same_read (λ ends. ends.items) (ends_on c.args.client) c.args.ends.now c.args.runs.now c.args.op.now.board _ _
    c.requires.ends c.in-Some.ensures.lookup.3.0 c.index-ends-board.is c.in-Some.ensures.lookup.1

pub returns-clause-lines : goal.returns-clause-lines
returns-clause-lines c = grind (arith, common_steps, gets)

pub returns-in_default-clause-number : goal.returns-in_default-clause-number
returns-in_default-clause-number c = grind (arith, common_steps)

pub returns-in_default-clause-counts : goal.returns-in_default-clause-counts
returns-in_default-clause-counts c = grind (arith, common_steps)

pub returns-clause-number : goal.returns-clause-number
returns-clause-number c = grind (arith, common_steps)

pub returns-clause-counts : goal.returns-clause-counts
returns-clause-counts c = grind (arith, common_steps)
