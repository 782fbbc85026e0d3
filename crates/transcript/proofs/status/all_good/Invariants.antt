use Rattle.std.proofs.Common.{◌≡◌, drop, map}
use Rattle.transcript.specs.Lines as spec
use Rattle.transcript.proofs.status.all_good.Given as goal

-- the clients so far have good lines
abbrev pub invariant-loop-lines : goal.invariant-loop-lines
invariant-loop-lines l =
    spec.all_good (map (λ client. client.items) (drop l.lines-index l.clients))
    ≡ spec.all_good (map (λ client. client.items) l.clients)
