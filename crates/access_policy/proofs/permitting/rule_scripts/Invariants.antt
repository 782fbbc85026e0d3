use Rattle.std.proofs.Common.{◌≡◌, ◌++◌, ◌+◌, length, take, drop}
use Rattle.access_policy.specs.Decisions.{names_of, ruled_from}
use Rattle.access_policy.proofs.permitting.rule_scripts.Given as goal

-- the scripts so far are ruled, and what ruling makes of all is what it makes of the rest behind them
abbrev pub invariant-loop-i : goal.invariant-loop-i
invariant-loop-i l =
    let boards = names_of l.session.boards in
    record {
      so_far : ruled_from l.policy boards 1 l.fn.scripts
          ≡ take l.i l.scripts ++ ruled_from l.policy boards (l.i + 1) (drop l.i l.scripts);
      as_many : length l.scripts ≡ length l.fn.scripts;
    }
