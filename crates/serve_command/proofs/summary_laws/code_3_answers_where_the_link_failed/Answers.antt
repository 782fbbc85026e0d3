use Rattle.std.proofs.Common.{refl, subst}
use Rattle.session_serve.specs.Boards.{states_of}
use Rattle.client_history.specs.Shown.{IsNotLostUnlessFailed, OfEach}
use Rattle.serve_command.proofs.Asked.{all_asked}
use Rattle.serve_command.proofs.EachBoard.{all_lost_with, board_at, down_failed, stands_as, submitted}
use Rattle.serve_command.proofs.summary_laws.code_3_answers_where_the_link_failed.Goals as goal

pub returns : goal.returns
returns c = λ settings specs links came back connections lines is position spec link at there.
    let one = board_at settings specs is.boards links position spec link is.over_links at there in
    let state = stands_as is.boards position one.served one.served.told one.there refl in
    let asked = all_asked (states_of is.boards) 1 is.conversations came back connections is.exchanged in
    all_lost_with is.boards position link state.0 state.1
    (down_failed is.boards position settings spec link one.served one.there one.over) is.conversations asked
    (subst (OfEach (IsNotLostUnlessFailed link))
    (submitted is.boards is.conversations is.asked position state.0 one.served one.there state.1)
    (c.a_served_board_loses_bodies_only_with_its_link.ensures.bodies settings spec one.served link one.over))
