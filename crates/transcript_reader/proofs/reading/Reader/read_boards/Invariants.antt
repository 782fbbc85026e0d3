use Rattle.std.proofs.Common.{take}
use Rattle.transcript_reader.specs.Walks.{AreBoards}
use Rattle.transcript_reader.proofs.reading.Reader.read_boards.Given as goal

-- the lines of the boards so far were read
abbrev pub invariant-loop-board : goal.invariant-loop-board
invariant-loop-board l = AreBoards (take l.board-index l.boards) l.fn.self l.self l.shown.items
