use Rattle.std.proofs.Common.{refl, subst}
use Rattle.session_serve.specs.Boards.{states_of}
use Rattle.client_history.specs.Shown.{PlacesDiffer, PlacesRise}
use Rattle.serve_command.proofs.Asked.{all_asked}
use Rattle.serve_command.proofs.EachBoard.{all_differ, all_rise, board_at, stands_as, submitted}
use Rattle.serve_command.proofs.summary_laws.each_frame_has_a_place_of_its_own.Goals as goal

pub returns-clause-rise : goal.returns-clause-rise
returns-clause-rise c = λ settings specs links came back connections lines is position spec link at there.
    let one = board_at settings specs is.boards links position spec link is.over_links at there in
    let state = stands_as is.boards position one.served one.served.told one.there refl in
    let asked = all_asked (states_of is.boards) 1 is.conversations came back connections is.exchanged in
    all_rise is.boards position state.0 state.1 is.conversations asked
    (subst PlacesRise (submitted is.boards is.conversations is.asked position state.0 one.served one.there state.1)
    (c.each_body_has_a_place_of_its_own.ensures.rise settings spec one.served link one.over))

pub returns-clause-differ : goal.returns-clause-differ
returns-clause-differ c = λ settings specs links came back connections lines is position spec link at there.
    let one = board_at settings specs is.boards links position spec link is.over_links at there in
    let state = stands_as is.boards position one.served one.served.told one.there refl in
    let asked = all_asked (states_of is.boards) 1 is.conversations came back connections is.exchanged in
    all_differ is.boards position state.0 state.1 is.conversations asked
    (subst PlacesDiffer (submitted is.boards is.conversations is.asked position state.0 one.served one.there state.1)
    (c.each_body_has_a_place_of_its_own.ensures.differ settings spec one.served link one.over))
