use Rattle.std.proofs.Common.{◌≡◌, ◌≤◌, length, map, take, vec_len, vec_capacity}
use Rattle.session_serve.proofs.prepared.names_of.Given as goal

-- the names so far
abbrev pub invariant-loop-spec : goal.invariant-loop-spec
invariant-loop-spec l = record {
  so_far : l.names.items ≡ map (λ spec. spec.name) (take l.spec-index l.specs);
  many : vec_len l.names ≡ l.spec-index;
  room : length l.specs ≤ vec_capacity l.names;
}
