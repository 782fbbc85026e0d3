use Rattle.std.proofs.Common.{List, ℕ, ◌++◌, drop}
use Rattle.capture_reader.specs.Description.{AreTextsOf}
use Rattle.capture_reader.specs.Describing.{AppendsAll}
use Rattle.capture_reader.proofs.describing.push_datagrams.Given as goal

-- the texts so far, and any of the datagrams that are left, are those of all
abbrev pub invariant-loop-item : goal.invariant-loop-item
invariant-loop-item l =
    (rest : List ℕ) → AreTextsOf (drop l.item-index l.items) rest
    → AppendsAll l.items l.fn.out.items (l.out.items ++ rest)
