use Rattle.std.proofs.Common.{◌≡◌, ◌≤◌, ◌+◌, false, drop}
use Rattle.std.specs.List.{AllByRecursion}
use Rattle.script_steps.specs.Packing.{CanBePacked}
use Rattle.script_lang.specs.Scripts.{is_over}
use Rattle.script_lang.specs.Tallies.{run_from, joined_run}
use Rattle.script_lang.proofs.compile.script_steps.Given as goal

-- the steps so far, and those of the lines that are left
abbrev pub invariant-loop-i : goal.invariant-loop-i
invariant-loop-i l = record {
  run : joined_run l.steps.items (run_from l.boards l.indexes l.client l.so_far (l.i + 1) (drop l.i l.lines))
      ≡ run_from l.boards l.indexes l.client l.fn.tally 1 l.lines;
  within : is_over l.so_far ≡ false;
  counted : l.i ≤ l.so_far.lines;
  packed : AllByRecursion CanBePacked l.steps.items;
}
