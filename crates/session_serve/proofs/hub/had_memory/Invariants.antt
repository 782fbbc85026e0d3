use Rattle.std.proofs.Common.{take}
use Rattle.std.specs.List.{AllByRecursion}
use Rattle.session_serve.specs.Serving.{HadMemory}
use Rattle.session_serve.proofs.hub.had_memory.Given as goal

abbrev pub invariant-loop-one : goal.invariant-loop-one
invariant-loop-one l = AllByRecursion HadMemory (take l.one-index l.served)
