use Rattle.std.proofs.Common.{subst, refl}
use Rattle.world_model.specs.Board.{Board, bodies_executed}
use Rattle.board_history.specs.Runs.{opens_with}
use Rattle.board_history.proofs.LaneShown.{some_then}
use Rattle.session_serve.specs.Boards.{states_of}
use Rattle.client_history.specs.Shown.{IsRightlyReplied, OfEach}
use Rattle.hub_session.specs.Codes.{replied_code}
use Rattle.serve_command.specs.Frames.{IsAnsweredRightly, OfEachWithCode}
use Rattle.serve_command.proofs.Asked.{all_asked}
use Rattle.serve_command.proofs.EachBoard.{all_rightly, board_at, stands_as, submitted}
use Rattle.serve_command.proofs.summary_laws.code_0_answers_what_was_executed.Goals as goal
use Rattle.board_history.specs.Links.{board_there}

pub returns : goal.returns
returns c = λ settings specs links came back connections lines is position spec link at there.
    let one = board_at settings specs is.boards links position spec link is.over_links at there in
    let states = states_of is.boards in
    let state = stands_as is.boards position one.served one.served.told one.there refl in
    let asked = all_asked states 1 is.conversations came back connections is.exchanged in
    some_then
    (λ (board : Board). OfEach (IsRightlyReplied (opens_with spec.link) (bodies_executed board)) one.served.connections)
    (λ (board : Board). OfEachWithCode replied_code position states
    (IsAnsweredRightly (opens_with spec.link) (bodies_executed board) states position) is.conversations)
    (board_there link.telling)
    (λ board right. all_rightly is.boards position (opens_with spec.link) (bodies_executed board) state.0 state.1
    is.conversations asked
    (subst (OfEach (IsRightlyReplied (opens_with spec.link) (bodies_executed board)))
    (submitted is.boards is.conversations is.asked position state.0 one.served one.there state.1) right))
    (c.a_board_that_tells_executed_what_was_replied.ensures.replied settings spec one.served link one.over)
