use Rattle.std.proofs.Common.{◌≡◌, ◌++◌, drop}
use Rattle.std.specs.List.{AllByRecursion}
use Rattle.transcript_reader.specs.Entries.{IsHere, lines_of, told_from}
use Rattle.transcript_reader.specs.Walks.{HasRoom}
use Rattle.transcript_reader.proofs.greeting.told_boards.Given as goal

-- what was told so far, and what the lines that are left tell
abbrev pub invariant-loop-board : goal.invariant-loop-board
invariant-loop-board l = record {
  here : AllByRecursion IsHere (drop l.board-index l.boards);
  room : AllByRecursion HasRoom l.told.items;
  all : l.told.items ++ told_from 0 (drop l.board-index l.boards) (lines_of l.rest)
      ≡ told_from 0 l.boards (lines_of l.initial.rest);
}
