use Rattle.std.proofs.Common.{IfErr, rules}
use Rattle.session_input.specs.Deserved.{Tells}
use Rattle.session_input.proofs.ToldFirst.{told_later, told_here, right_later}
use Rattle.session_input.proofs.Told.{told_by}
use Rattle.audit_command.specs.Boards.{IsAuditable, TellsBoard, TellsFirstBoard}
use Rattle.audit_command.proofs.boards.check_boards.Goals as goal

pub returns-in_err-check_board-clause-refused : goal.returns-in_err-check_board-clause-refused
returns-in_err-check_board-clause-refused c =
    let board = c.board-item.result in
    let told : IfErr c.from_residual.result (Tells (TellsBoard board)) = search rules in
    told_by c.from_residual.result (TellsBoard board) (TellsFirstBoard c.args.boards.now)
    (λ r here. c.loop-board.invariant.first r
    (told_here IsAuditable (λ b. TellsBoard b r) c.args.boards.now c.loop-board.board-index board c.loop-board-test.true
    c.board-item.is here))
    told

pub loop-board-preserved : goal.loop-board-preserved
loop-board-preserved c =
    let board = c.board-item.result in
    let taken : IsAuditable board = search rules in
    record {
      taken = λ later. c.loop-board.invariant.taken
          (right_later IsAuditable c.args.boards.now c.loop-board.board-index board c.loop-board-test.true
          c.board-item.is taken later);
      first = λ r later. c.loop-board.invariant.first r
          (told_later IsAuditable (λ b. TellsBoard b r) c.args.boards.now c.loop-board.board-index board
          c.loop-board-test.true c.board-item.is taken later);
    }
