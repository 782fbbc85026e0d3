use Rattle.std.proofs.Common.{◌≡◌, ◌++◌, length}
use Rattle.ipb_base.specs.Fronts.{all_of}
use Rattle.capture_reader.specs.Parsing.{line_at, body_of}
use Rattle.capture_reader.proofs.parsing.read_lines.Given as goal

-- the words so far, and those of the lines that are left
abbrev pub invariant-lines : goal.invariant-lines
invariant-lines l = record {
  words : l.out.items ++ body_of (all_of (line_at l.sent) l.rest).0
      ≡ l.fn.out.items ++ body_of (all_of (line_at l.sent) l.text).0;
  behind : (all_of (line_at l.sent) l.rest).1 ≡ (all_of (line_at l.sent) l.text).1;
}

abbrev pub decreases-lines : goal.decreases-lines
decreases-lines l = length l.rest
