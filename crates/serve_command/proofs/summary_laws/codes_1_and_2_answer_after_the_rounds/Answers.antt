use Rattle.std.proofs.Common.{subst}
use Rattle.hub_lane.specs.declared.answers.BoardState.TheVariants as stands
use Rattle.session_serve.specs.Boards.{states_of}
use Rattle.client_history.specs.Shown.{GaveUpOnlyAfterRounds}
use Rattle.serve_command.proofs.Asked.{all_asked}
use Rattle.serve_command.proofs.EachBoard.{all_waited, board_at, submitted}
use Rattle.serve_command.proofs.summary_laws.codes_1_and_2_answer_after_the_rounds.Goals as goal

pub returns : goal.returns
returns c = λ settings specs links came back connections lines is position spec link at there live.
    let one = board_at settings specs is.boards links position spec link is.over_links at there in
    let asked = all_asked (states_of is.boards) 1 is.conversations came back connections is.exchanged in
    all_waited is.boards position settings link live.0 is.conversations live.1 asked
    (subst (GaveUpOnlyAfterRounds settings link)
    (submitted is.boards is.conversations is.asked position (stands.Lane live.0) one.served one.there live.1)
    (c.a_board_waited_for_what_was_given_up.ensures.connections settings spec one.served link one.over))
