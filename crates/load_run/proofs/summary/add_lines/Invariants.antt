use Rattle.std.proofs.Common.{◌≡◌, ◌+◌, length, sum, take}
use Rattle.ipb_base.specs.Numbers.{in_64_bits}
use Rattle.load_run.specs.Summary as spec
use Rattle.load_run.proofs.summary.add_lines.Given as goal

abbrev pub invariant-loop-line : goal.invariant-loop-line
invariant-loop-line l = record {
  done : l.more.done ≡ in_64_bits (l.fn.tally.done + length (spec.words_of_client (take l.line-index l.lines)));
  total : l.more.total ≡ in_64_bits (l.fn.tally.total + sum (spec.words_of_client (take l.line-index l.lines)));
}
