use Rattle.std.proofs.Common.{◌≡◌, length, map, sum, take}
use Rattle.ipb_base.specs.Numbers.{in_64_bits}
use Rattle.load_run.specs.Summary as spec
use Rattle.load_run.proofs.summary.tally_of.Given as goal

abbrev pub invariant-loop-lines : goal.invariant-loop-lines
invariant-loop-lines l =
    let words = spec.words_before (map (λ client. client.items) (take l.lines-index l.clients)) in
    record {
      done : l.tally.done ≡ in_64_bits (length words);
      total : l.tally.total ≡ in_64_bits (sum words);
    }
