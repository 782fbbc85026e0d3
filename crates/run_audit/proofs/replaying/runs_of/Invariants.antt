use Rattle.std.proofs.Common.{◌≡◌, ◌++◌, drop, map}
use Rattle.std.specs.List.{AllByRecursion}
use Rattle.std.specs.Vec.Iter.{into_iter_items}
use Rattle.transcript_reader.specs.Entries.{IsHere}
use Rattle.run_audit.specs.Replaying as spec
use Rattle.run_audit.proofs.replaying.runs_of.Given as goal

-- the boards so far, and those that are left
abbrev pub invariant-loop-i : goal.invariant-loop-i
invariant-loop-i l = record {
  runs : l.runs.items
      ++ spec.runs_among (drop l.i l.boards) (into_iter_items l.rest) (map spec.pieces_in (drop l.i l.pieces))
      ≡ spec.runs_among l.boards l.fn.plans.items (map spec.pieces_in l.pieces);
  here : AllByRecursion IsHere (drop l.i l.boards);
  short : AllByRecursion (AllByRecursion spec.HasShortBodies) (into_iter_items l.rest);
}
