use Rattle.std.proofs.Common.{drop}
use Rattle.std.specs.List.{AllByRecursion}
use Rattle.session_input.specs.Deserved.{HasBus, TellsFirstBus}
use Rattle.session_input.specs.declared.refusal.Refusal.{Refusal}
use Rattle.session_input.proofs.checking.check_buses.Given as goal

-- the boards so far are right, so what is told of those that are left is told of all
abbrev pub invariant-loop-board : goal.invariant-loop-board
invariant-loop-board l = record {
  right : AllByRecursion HasBus (drop l.board-index l.boards) → AllByRecursion HasBus l.boards;
  first : (refusal : Refusal) → TellsFirstBus (drop l.board-index l.boards) refusal → TellsFirstBus l.boards refusal;
}
