use Rattle.std.proofs.Common.{◌∙◌, arith, length, refl}
use Rattle.std.proofs.lemmas.Grind.{common_steps}
use Rattle.std.proofs.lemmas.Option.{slice_get_past, slice_get_read}
use Rattle.transcript.specs.Steps.{ends_on}
use Rattle.script_plans.proofs.Lookups.{same_read}
use Rattle.transcript.proofs.PrintedLines.{line_printed, none_printed}
use Rattle.transcript.proofs.printing.Printer.print_next.Goals as goal

pub bounds-ends-board : goal.bounds-ends-board
bounds-ends-board c = grind (arith, common_steps)

pub print_line-requires : goal.print_line-requires
print_line-requires c =
    c.as_slice.ensures.value
    ∙ same_read (λ ends. ends.items) (ends_on c.args.client) c.args.ends.now c.args.runs.now c.args.op.now.board _ _
    c.requires.ends c.in-Some.ensures.lookup.3.0 c.index-ends-board.is c.in-Some.ensures.lookup.1

pub returns-clause-lines : goal.returns-clause-lines
returns-clause-lines c =
    let runs = c.args.runs.now in
    line_printed c.print_line.result c.args.self.now c.print_line.new.self runs c.args.client _ _ _ _ c.args.op.now
    c.in-Some.run'.now
    (slice_get_read runs (length runs) c.args.op.now.board c.in-Some.run'.now refl c.in-Some.ensures.lookup.3.0
    c.in-Some.ensures.lookup.1)
    c.in_ok-k.ensures.number c.in_ok-k.ensures.before c.print_line.ensures

pub returns-in_default-clause-lines : goal.returns-in_default-clause-lines
returns-in_default-clause-lines c =
    rw (slice_get_past c.args.runs.now c.args.op.now.board (omega (arith, c.in_default.ensures.lookup)))
    (none_printed c.args.self.now)

pub returns-in_default-clause-number : goal.returns-in_default-clause-number
returns-in_default-clause-number c = grind (arith, common_steps)

pub returns-in_default-clause-counts : goal.returns-in_default-clause-counts
returns-in_default-clause-counts c = grind (arith, common_steps)

pub returns-clause-number : goal.returns-clause-number
returns-clause-number c = grind (arith, common_steps)

pub returns-clause-counts : goal.returns-clause-counts
returns-clause-counts c = grind (arith, common_steps)
