use Rattle.std.proofs.Common.{◌≡◌, ◌+◌, Some, subst, arith}
use Rattle.std.specs.List.{slice_get}
use Rattle.transcript.specs.Lines.{lines_from}
use Rattle.board_history.proofs.GoodLines.{all_are_good, all_runs}
use Rattle.board_history.proofs.LaneShown.{all_ordered}
use Rattle.board_history.proofs.runs.where_all_was_done_each_body_was_replied_to.Goals as goal

pub returns : goal.returns
returns c = λ settings specs scripts runs links is status.
    let ordered = all_ordered settings 0 specs scripts runs links is in
    let done = (c.the_status_tells_whether_all_was_done.ensures.done (lines_from runs 0 scripts)).0 status in
    all_runs c.each_body_of_a_plan_has_a_piece.ensures runs scripts 0 runs
    (λ k run at.
    let same : k ≡ 0 + k = omega arith in
    subst (λ n. slice_get runs n ≡ Some run) same at)
    ordered.planned ordered.orders (all_are_good (lines_from runs 0 scripts) done)
