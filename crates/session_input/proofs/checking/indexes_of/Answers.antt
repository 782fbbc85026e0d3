use Rattle.std.proofs.Common.{IfErr, rules}
use Rattle.session_input.specs.Deserved.{Compiles, HasIndex, TellsCompile, BreaksCompiling, Tells}
use Rattle.session_input.proofs.ToldFirst.{told_later, told_here, right_later, zip_more}
use Rattle.session_input.proofs.Told.{told_by}
use Rattle.session_input.proofs.checking.indexes_of.Goals as goal

pub returns-in_err-index_of-clause-refused : goal.returns-in_err-index_of-clause-refused
returns-in_err-index_of-clause-refused c =
    let board = c.board-item.result in
    let tables = c.args.tables.now in
    let told : IfErr c.from_residual-in_err-index_of.result (Tells (TellsCompile tables board.table)) = search rules in
    told_by c.from_residual-in_err-index_of.result (TellsCompile tables board.table)
    (BreaksCompiling tables c.args.boards.now)
    (λ r here. c.loop-board.invariant.first r
    (told_here (Compiles tables)
    (λ b. TellsCompile tables b.table r) c.args.boards.now c.loop-board.board-index board c.loop-board-test.true
    c.board-item.is here))
    told

pub loop-board-preserved : goal.loop-board-preserved
loop-board-preserved c =
    let board = c.board-item.result in
    let tables = c.args.tables.now in
    let right : Compiles tables board = search rules in
    let index : HasIndex tables board c.in_ok-index_of.field-0 = search rules in
    record {
      compile = λ later. c.loop-board.invariant.compile
          (right_later (Compiles tables) c.args.boards.now c.loop-board.board-index board c.loop-board-test.true
          c.board-item.is right later);
      indexes = rw c.in_ok-push.ensures.items
          (zip_more (HasIndex tables) c.args.boards.now c.loop-board.indexes.items c.loop-board.board-index board
          c.in_ok-index_of.field-0
          c.loop-board-test.true c.board-item.is c.loop-board.invariant.indexes index);
      first = λ r later. c.loop-board.invariant.first r
          (told_later (Compiles tables)
          (λ b. TellsCompile tables b.table r) c.args.boards.now c.loop-board.board-index board
          c.loop-board-test.true c.board-item.is right later);
    }
