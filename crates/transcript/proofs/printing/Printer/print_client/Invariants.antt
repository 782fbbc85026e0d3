use Rattle.std.proofs.Common.{List}
use Rattle.transcript.specs.declared.line.OpLine.{OpLine}
use Rattle.transcript.specs.Printing.{HasPrinted}
use Rattle.transcript.specs.Steps.{IsProgress}
use Rattle.transcript.proofs.printing.Printer.print_client.Given as goal

-- the lines of the steps so far were printed
abbrev pub invariant-loop-step : goal.invariant-loop-step
invariant-loop-step l =
    (made : List OpLine) × HasPrinted l.fn.self l.self made
    × IsProgress l.runs l.client l.steps l.step-index made l.counts.number l.counts.on_boards.items
