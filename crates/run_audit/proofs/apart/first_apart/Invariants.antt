use Rattle.std.proofs.Common.{◌≡◌, Some, map, take}
use Rattle.std.specs.Option.{ForSome}
use Rattle.run_audit.specs.declared.fate.Fate.{Fate}
use Rattle.run_audit.specs.Apart.{Body, body_in, fate_of}
use Rattle.run_audit.specs.Steps.{asking}
use Rattle.run_audit.proofs.ApartLines.{IsTold}
use Rattle.run_audit.proofs.apart.first_apart.Given as goal

-- what the lines so far told, of which no two tell different things of one body
abbrev pub invariant-loop-ask : goal.invariant-loop-ask
invariant-loop-ask l = record {
  told : IsTold (body_in l.runs) l.told (take l.ask-index (map asking l.asked));
  last' : ForSome l.last (λ (last : Body × Fate). fate_of l.told last.0 ≡ Some last.1);
}
