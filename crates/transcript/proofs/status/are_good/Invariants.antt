use Rattle.std.proofs.Common.{◌≡◌, drop}
use Rattle.transcript.specs.Lines as spec
use Rattle.transcript.proofs.status.are_good.Given as goal

-- the lines so far are good
abbrev pub invariant-loop-line : goal.invariant-loop-line
invariant-loop-line l = spec.are_good (drop l.line-index l.lines) ≡ spec.are_good l.lines
