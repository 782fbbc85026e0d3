use Rattle.transcript.specs.Steps.{IsProgress}
use Rattle.transcript.proofs.lines.client_lines.Given as goal

abbrev pub invariant-loop-step : goal.invariant-loop-step
invariant-loop-step l =
    IsProgress l.runs l.client l.steps l.step-index l.progress.lines.items l.progress.counts.number
    l.progress.counts.on_boards.items
