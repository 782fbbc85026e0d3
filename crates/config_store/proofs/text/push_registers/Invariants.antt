use Rattle.std.proofs.Common.{◌≡◌, ◌++◌, drop, string_bytes}
use Rattle.std.specs.List.{filter}
use Rattle.config_store.specs.Text as spec
use Rattle.config_store.proofs.text.push_registers.Given as goal

-- the text so far, and the lines that are left
abbrev pub invariant-loop-line : goal.invariant-loop-line
invariant-loop-line l =
    string_bytes l.text ++ spec.registers_text (filter (spec.is_read_on l.board) (drop l.line-index l.lines))
    ≡ string_bytes l.fn.text ++ spec.registers_text (filter (spec.is_read_on l.board) l.lines)
