use Rattle.std.proofs.Common.{◌≡◌, drop}
use Rattle.transcript_reader.specs.Entries.{lines_of}
use Rattle.transcript_reader.proofs.lines.skip_lines.Given as goal

abbrev pub invariant-loop-i : goal.invariant-loop-i
invariant-loop-i l = lines_of l.rest ≡ drop l._i (lines_of l.text)
