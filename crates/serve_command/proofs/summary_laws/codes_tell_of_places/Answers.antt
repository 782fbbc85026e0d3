use Rattle.std.proofs.Common.{refl}
use Rattle.hub_session.specs.Codes.{replied_code, timed_out_code}
use Rattle.session_serve.specs.Boards.{states_of}
use Rattle.serve_command.proofs.Asked.{all_asked}
use Rattle.serve_command.proofs.Counting.{replied_places, timed_out_places}
use Rattle.serve_command.proofs.EachBoard.{all_placed, all_unplaced, board_at, stands_as}
use Rattle.serve_command.proofs.summary_laws.codes_tell_of_places.Goals as goal

pub returns-clause-replied : goal.returns-clause-replied
returns-clause-replied c = λ settings specs links came back connections lines is position spec link at there.
    let one = board_at settings specs is.boards links position spec link is.over_links at there in
    let state = stands_as is.boards position one.served one.served.told one.there refl in
    all_placed is.boards position replied_code replied_places state.0 state.1 is.conversations
    (all_asked (states_of is.boards) 1 is.conversations came back connections is.exchanged)

pub returns-clause-timed_out : goal.returns-clause-timed_out
returns-clause-timed_out c = λ settings specs links came back connections lines is position spec link at there.
    let one = board_at settings specs is.boards links position spec link is.over_links at there in
    let state = stands_as is.boards position one.served one.served.told one.there refl in
    all_placed is.boards position timed_out_code timed_out_places state.0 state.1 is.conversations
    (all_asked (states_of is.boards) 1 is.conversations came back connections is.exchanged)

pub returns-clause-unsent : goal.returns-clause-unsent
returns-clause-unsent c = λ settings specs links came back connections lines is position spec link at there.
    let one = board_at settings specs is.boards links position spec link is.over_links at there in
    let state = stands_as is.boards position one.served one.served.told one.there refl in
    all_unplaced is.boards position state.0 state.1 is.conversations
    (all_asked (states_of is.boards) 1 is.conversations came back connections is.exchanged)
