use Rattle.std.proofs.Common.{◌≡◌, sum_by, take}
use Rattle.transcript.specs.Shown.{places_told}
use Rattle.ipb_base.specs.Numbers.{in_64_bits}
use Rattle.load_run.proofs.summary.places_of.Given as goal

abbrev pub invariant-loop-line : goal.invariant-loop-line
invariant-loop-line l = l.places ≡ in_64_bits (sum_by places_told (take l.line-index l.boards))
