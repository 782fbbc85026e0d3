use Rattle.std.proofs.Common.{◌≡◌, ◌+◌, ◌++◌, drop, map, string_bytes}
use Rattle.transcript.specs.Text as spec
use Rattle.transcript.proofs.text.push_clients.Given as goal

-- the text so far, and the clients that are left
abbrev pub invariant-loop-i : goal.invariant-loop-i
invariant-loop-i l =
    string_bytes l.text ++ spec.clients_text (l.i + 1) (map (λ client. client.items) (drop l.i l.clients))
    ≡ string_bytes l.fn.text ++ spec.clients_text 1 (map (λ client. client.items) l.clients)
