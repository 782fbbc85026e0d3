use Rattle.std.proofs.Common.{◌≡◌, ◌++◌, length, take, drop}
use Rattle.script_steps.specs.Rulings.{steps_under_policy}
use Rattle.script_steps.proofs.operation.Steps.rule.Given as goal

-- the steps so far are ruled, and what ruling makes of all is what it makes of the rest behind them
abbrev pub invariant-loop-i : goal.invariant-loop-i
invariant-loop-i l =
    let items = l.self-inside.items.items in
    record {
      so_far : steps_under_policy l.fn.self l.fn.decisions ≡ take l.i items ++ steps_under_policy (drop l.i items) (drop l.i l.fn.decisions);
      as_many : length items ≡ length l.fn.self;
    }
