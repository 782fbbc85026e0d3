use Rattle.std.proofs.Common.{◌≡◌, ◌++◌, drop}
use Rattle.std.specs.List.{AllByRecursion}
use Rattle.run_audit.specs.Replaying.{HasShortBodies}
use Rattle.run_audit.specs.Steps.{plans_from}
use Rattle.run_audit.proofs.plans.plans_of.Given as goal

-- the plans so far, whose bodies a bus executes, and those of the boards that are left
abbrev pub invariant-loop-board : goal.invariant-loop-board
invariant-loop-board l = record {
  plans : l.plans.items ++ plans_from l.board (drop l.board l.boards) l.scripts ≡ plans_from 0 l.boards l.scripts;
  short : AllByRecursion (AllByRecursion HasShortBodies) l.plans.items;
}
