use Rattle.std.proofs.Common.{◌∙◌, ap, ◌+◌}
use Rattle.world_model.specs.Board.{Hearing, expected_identifier, numbered_count}
use Rattle.world_core.proofs.Hearing.{status_answered, status_told}
use Rattle.world_core.proofs.world.status_of.Goals as goal

pub unreachable-requires : goal.unreachable-requires
unreachable-requires c =
    let board = c.args.board.now in
    let k = numbered_count board.log + 1 in
    c.in-Err.ensures.only board.mtu board.buffers (expected_identifier board) c.keeps_its_ranges.ensures.mtu
    c.keeps_its_ranges.ensures.buffers (c.identifiers_follow_each_other.ensures.never_zero board.first k)
    (status_answered board c.write_status_request.result c.deref.result.now c.write_status_request.ensures
    (c.deref.ensures.value ∙ c.in_ok-hear.ensures.answer)
    (c.what_is_written_is_known.ensures.reply board.mtu board.buffers (expected_identifier board)))

pub returns-clause-board : goal.returns-clause-board
returns-clause-board c = c.in_ok-hear.ensures.board
    ∙ ap (λ (h : Hearing). h.board)
    (status_told c.args.board.now c.write_status_request.result c.write_status_request.ensures)

pub returns-clause-buffers : goal.returns-clause-buffers
returns-clause-buffers c =
    let board = c.args.board.now in
    let k = numbered_count board.log + 1 in
    (c.in-Ok.ensures.only board.mtu board.buffers (expected_identifier board) c.keeps_its_ranges.ensures.mtu
    c.keeps_its_ranges.ensures.buffers (c.identifiers_follow_each_other.ensures.never_zero board.first k)
    (status_answered board c.write_status_request.result c.deref.result.now c.write_status_request.ensures
    (c.deref.ensures.value ∙ c.in_ok-hear.ensures.answer)
    (c.what_is_written_is_known.ensures.reply board.mtu board.buffers (expected_identifier board)))).1

pub returns-clause-next : goal.returns-clause-next
returns-clause-next c =
    let board = c.args.board.now in
    let k = numbered_count board.log + 1 in
    (c.in-Ok.ensures.only board.mtu board.buffers (expected_identifier board) c.keeps_its_ranges.ensures.mtu
    c.keeps_its_ranges.ensures.buffers (c.identifiers_follow_each_other.ensures.never_zero board.first k)
    (status_answered board c.write_status_request.result c.deref.result.now c.write_status_request.ensures
    (c.deref.ensures.value ∙ c.in_ok-hear.ensures.answer)
    (c.what_is_written_is_known.ensures.reply board.mtu board.buffers (expected_identifier board)))).2
