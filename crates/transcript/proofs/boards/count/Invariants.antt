use Rattle.std.proofs.Common.{◌≡◌, ◌+◌, drop}
use Rattle.std.specs.List.{count_by}
use Rattle.script_plans.specs.Runs.{outcomes_in}
use Rattle.transcript.specs.Steps.{is_of}
use Rattle.transcript.proofs.boards.count.Given as goal

-- what was counted, and the parts that are left
abbrev pub invariant-loop-part : goal.invariant-loop-part
invariant-loop-part l =
    l.total + count_by (is_of l.kind) (outcomes_in (drop l.part-index l.parts))
    ≡ count_by (is_of l.kind) (outcomes_in l.parts)
