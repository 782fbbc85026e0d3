use Rattle.std.proofs.Common.{drop}
use Rattle.std.specs.List.{AllByRecursion}
use Rattle.session_input.specs.declared.refusal.Refusal.{Refusal}
use Rattle.audit_command.specs.Boards.{IsAuditable, TellsFirstBoard}
use Rattle.audit_command.proofs.boards.check_boards.Given as goal

-- the boards so far are taken, so what is told of those that are left is told of all
abbrev pub invariant-loop-board : goal.invariant-loop-board
invariant-loop-board l = record {
  taken : AllByRecursion IsAuditable (drop l.board-index l.boards) → AllByRecursion IsAuditable l.boards;
  first : (refusal : Refusal) → TellsFirstBoard (drop l.board-index l.boards) refusal
      → TellsFirstBoard l.boards refusal;
}
