use Rattle.std.proofs.Common.{◌≡◌, ◌++◌, drop, string_bytes}
use Rattle.transcript.specs.Text as spec
use Rattle.transcript.proofs.text.push_lines.Given as goal

-- the text so far, and the lines that are left
abbrev pub invariant-loop-line : goal.invariant-loop-line
invariant-loop-line l =
    string_bytes l.text ++ spec.lines_text (drop l.line-index l.lines) ≡ string_bytes l.fn.text
    ++ spec.lines_text l.lines
