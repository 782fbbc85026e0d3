use Rattle.std.proofs.Common.{subst, refl}
use Rattle.session_serve.specs.Boards.{states_of}
use Rattle.client_history.specs.Shown.{IsReplyCarried, OfEach}
use Rattle.serve_command.proofs.Asked.{all_asked}
use Rattle.serve_command.proofs.EachBoard.{all_as_carried, board_at, stands_as, submitted}
use Rattle.serve_command.proofs.summary_laws.code_0_answers_what_the_link_brought.Goals as goal

pub returns : goal.returns
returns c = λ settings specs links came back connections lines is position spec link at there.
    let one = board_at settings specs is.boards links position spec link is.over_links at there in
    let state = stands_as is.boards position one.served one.served.told one.there refl in
    let asked = all_asked (states_of is.boards) 1 is.conversations came back connections is.exchanged in
    all_as_carried is.boards position link state.0 state.1 is.conversations asked
    (subst (OfEach (IsReplyCarried link))
    (submitted is.boards is.conversations is.asked position state.0 one.served one.there state.1)
    (c.words_of_replies_came_over_their_link.ensures settings spec one.served link one.over))
