use Rattle.std.proofs.Common.{take}
use Rattle.std.proofs.lemmas.Result.{err_from_is_err_and}
use Rattle.transcript_reader.proofs.Told.{next_item}
use Rattle.transcript_reader.proofs.Walked.{boards_more, boards_stuck, parts_at, take_next}
use Rattle.transcript_reader.proofs.reading.Reader.read_boards.Goals as goal

pub returns-in_err-read_next_board-clause-stuck : goal.returns-in_err-read_next_board-clause-stuck
returns-in_err-read_next_board-clause-stuck c =
    let p = err_from_is_err_and c.from_residual.result c.from_residual.ensures.1 in
    rw (p.1, p.2)
    (λ told. boards_stuck c.args.boards.now told c.args.boards.now (take c.loop-board.board-index c.args.boards.now) _
    c.board-item.result c.args.self.now c.loop-board.self c.loop-board.shown.items _ c.loop-board.invariant
    (parts_at c.args.boards.now c.loop-board.board-index c.board-item.result
    (next_item c.args.boards.now c.loop-board.board-index c.board-item.result c.loop-board-test.true c.board-item.is))
    (c.in_err-read_next_board.ensures.stuck c.args.boards.now told))

pub loop-board-preserved : goal.loop-board-preserved
loop-board-preserved c =
    rw (
      take_next c.args.boards.now c.loop-board.board-index c.board-item.result c.loop-board-test.true c.board-item.is,
      c.in_ok-push.ensures.items,
    )
    (boards_more (take c.loop-board.board-index c.args.boards.now) c.board-item.result c.args.self.now c.loop-board.self
    c.read_next_board.new.self c.loop-board.shown.items c.in_ok-read_next_board.field-0 c.loop-board.invariant
    c.in_ok-read_next_board.ensures.shows)
