use Rattle.std.proofs.Common.{IfErr, rules}
use Rattle.session_input.specs.Deserved.{HasBus, TellsBus, TellsFirstBus, Tells}
use Rattle.session_input.proofs.ToldFirst.{told_later, told_here, right_later}
use Rattle.session_input.proofs.Told.{told_by}
use Rattle.session_input.proofs.checking.check_buses.Goals as goal

pub returns-in_err-check_bus-clause-refused : goal.returns-in_err-check_bus-clause-refused
returns-in_err-check_bus-clause-refused c =
    let board = c.board-item.result in
    let told : IfErr c.from_residual.result (Tells (TellsBus board)) = search rules in
    told_by c.from_residual.result (TellsBus board) (TellsFirstBus c.args.boards.now)
    (λ r here. c.loop-board.invariant.first r
    (told_here HasBus (λ b. TellsBus b r) c.args.boards.now c.loop-board.board-index board c.loop-board-test.true
    c.board-item.is here))
    told

pub loop-board-preserved : goal.loop-board-preserved
loop-board-preserved c =
    let board = c.board-item.result in
    let right : HasBus board = search rules in
    record {
      right = λ later. c.loop-board.invariant.right
          (right_later HasBus c.args.boards.now c.loop-board.board-index board c.loop-board-test.true c.board-item.is
          right later);
      first = λ r later. c.loop-board.invariant.first r
          (told_later HasBus (λ b. TellsBus b r) c.args.boards.now c.loop-board.board-index board c.loop-board-test.true
          c.board-item.is right later);
    }
