use Rattle.std.proofs.Common.{◌≡◌, ◌++◌, ◌+◌, drop, string_bytes}
use Rattle.serve_command.specs.Text as spec
use Rattle.serve_command.proofs.text.push_connections.Given as goal

-- the text so far, and the lines that are left
abbrev pub invariant-loop-i : goal.invariant-loop-i
invariant-loop-i l =
    string_bytes l.text ++ spec.connections_text (l.i + 1) (drop l.i l.connections)
    ≡ string_bytes l.fn.text ++ spec.connections_text 1 l.connections
