use Rattle.std.proofs.Common.{drop, take}
use Rattle.std.specs.List.{AllByRecursion, AllZip}
use Rattle.session_input.specs.Deserved.{Compiles, HasIndex, BreaksCompiling}
use Rattle.session_input.specs.declared.refusal.Refusal.{Refusal}
use Rattle.session_input.proofs.checking.indexes_of.Given as goal

-- the boards so far have the indexes so far, so what is told of those that are left is told of all
abbrev pub invariant-loop-board : goal.invariant-loop-board
invariant-loop-board l = record {
  compile : AllByRecursion (Compiles l.tables) (drop l.board-index l.boards)
      → AllByRecursion (Compiles l.tables) l.boards;
  indexes : AllZip (HasIndex l.tables) (take l.board-index l.boards) l.indexes.items;
  first : (refusal : Refusal) → BreaksCompiling l.tables (drop l.board-index l.boards) refusal
      → BreaksCompiling l.tables l.boards refusal;
}
