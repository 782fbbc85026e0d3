use Rattle.std.proofs.Common.{◌≡◌, ℕ, ◌+◌, ◌++◌, [], List, ap, sym, ◌∙◌, drop, append-nil, arith}
use Rattle.std.proofs.lemmas.Grind.{common_steps}
use Rattle.std.proofs.lemmas.List.{drop_all}
use Rattle.board_specs.specs.declared.spec.BoardSpec.{BoardSpec}
use Rattle.transcript_reader.specs.Entries.{lines_of, told_from}
use Rattle.transcript_reader.specs.Walks.{HasRoom}
use Rattle.transcript_reader.proofs.Lists.{all_push}
use Rattle.transcript_reader.proofs.Told.{next_item, told_more, told_past}
use Rattle.transcript_reader.proofs.greeting.told_boards.Goals as goal

pub told_first-requires : goal.told_first-requires
told_first-requires c = grind (arith, common_steps)

pub returns-in_err-push-clause-greetings : goal.returns-in_err-push-clause-greetings
returns-in_err-push-clause-greetings c = grind (arith, common_steps)

pub returns-in_err-push-clause-room : goal.returns-in_err-push-clause-room
returns-in_err-push-clause-room c = grind (arith, common_steps)

pub loop-board-preserved : goal.loop-board-preserved
loop-board-preserved c =
    let is = next_item c.args.boards.now c.loop-board.board-index c.board-item.result c.loop-board-test.true c.board-item.is in
    record {
      here = (rw is at c.loop-board.invariant.here).1;
      room = rw c.in_ok-push.ensures.items
          (all_push HasRoom c.loop-board.told.items c.in_ok-greeting.greeting c.loop-board.invariant.room
          c.in_ok-greeting.ensures.room);
      all = rw c.in_ok-push.ensures.items
          (told_more c.loop-board.told.items _ _ c.in_ok-greeting.greeting
          (told_from 0 (drop (c.loop-board.board-index + 1) c.args.boards.now) (lines_of c.in_ok-greeting.more.now))
          c.loop-board.invariant.all
          (ap (λ (boards : List BoardSpec). told_from 0 boards (lines_of c.loop-board.rest.now)) is
          ∙ c.in_ok-greeting.ensures.greeting (drop (c.loop-board.board-index + 1) c.args.boards.now)));
    }

pub returns-clause-greetings : goal.returns-clause-greetings
returns-clause-greetings c =
    let past : drop c.loop-board.board-index c.args.boards.now ≡ [] =
    drop_all c.loop-board.board-index c.args.boards.now c.loop-board-test.false in
    sym (append-nil c.loop-board.told.items)
    ∙ (ap (λ (boards : List BoardSpec). c.loop-board.told.items ++ told_from 0 boards (lines_of c.loop-board.rest.now))
    (sym past)
    ∙ (c.loop-board.invariant.all
    ∙ (ap (λ (lines : List (List ℕ)). told_from 0 c.args.boards.now lines) c.skip_lines-rest.ensures
    ∙ (told_past c.lines_of_clients.result c.args.boards.now (lines_of c.args.text.now)
    ∙ ap (λ (at : ℕ). told_from at c.args.boards.now (lines_of c.args.text.now)) c.lines_of_clients.ensures))))
