use Rattle.std.proofs.Common.{◌≡◌, ◌+◌, false, drop}
use Rattle.std.specs.List.{AllByRecursion}
use Rattle.script_steps.specs.Packing.{CanBePacked}
use Rattle.script_lang.specs.Scripts.{is_over}
use Rattle.script_lang.specs.Tallies.{run_all, with_steps_before, nothing}
use Rattle.script_lang.proofs.compile.all_steps.Given as goal

-- the scripts so far, and those that are left
abbrev pub invariant-loop-i : goal.invariant-loop-i
invariant-loop-i l = record {
  run : with_steps_before l.all.items (run_all l.boards l.indexes (l.i + 1) l.tally (drop l.i l.scripts))
      ≡ run_all l.boards l.indexes 1 nothing l.scripts;
  within : is_over l.tally ≡ false;
  packed : AllByRecursion (AllByRecursion CanBePacked) l.all.items;
}
