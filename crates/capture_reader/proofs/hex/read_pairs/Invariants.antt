use Rattle.std.proofs.Common.{◌≡◌, ◌++◌, length}
use Rattle.ipb_base.specs.Fronts.{all_of}
use Rattle.capture_reader.specs.Reading.{pair_at}
use Rattle.capture_reader.proofs.hex.read_pairs.Given as goal

-- the bytes so far, and those of the text that is left
abbrev pub invariant-pairs : goal.invariant-pairs
invariant-pairs l = record {
  bytes : l.out.items ++ (all_of pair_at l.rest).0 ≡ l.fn.out.items ++ (all_of pair_at l.text).0;
  behind : (all_of pair_at l.rest).1 ≡ (all_of pair_at l.text).1;
}

abbrev pub decreases-pairs : goal.decreases-pairs
decreases-pairs l = length l.rest
