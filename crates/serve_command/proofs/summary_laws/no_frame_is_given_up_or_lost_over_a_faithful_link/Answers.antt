use Rattle.std.proofs.Common.{subst}
use Rattle.board_history.specs.Parts.{IsReplied}
use Rattle.hub_lane.specs.declared.answers.BoardState.TheVariants as stands
use Rattle.lane_record.specs.Submissions.{Submission}
use Rattle.session_serve.specs.Boards.{states_of}
use Rattle.client_history.specs.Shown.{OfEach}
use Rattle.serve_command.proofs.Asked.{all_asked}
use Rattle.serve_command.proofs.EachBoard.{board_at, faithful_lane, none_lost, submitted}
use Rattle.serve_command.proofs.summary_laws.no_frame_is_given_up_or_lost_over_a_faithful_link.Goals as goal

pub returns : goal.returns
returns c = λ settings specs links came back connections lines is some position spec link at there calm.
    let one = board_at settings specs is.boards links position spec link is.over_links at there in
    let lane = faithful_lane is.boards position settings spec link one.served one.there calm one.over
    (c.a_faithful_link_serves_all.ensures.live settings spec one.served link some calm one.over) in
    let asked = all_asked (states_of is.boards) 1 is.conversations came back connections is.exchanged in
    none_lost is.boards position lane.0 lane.1 is.conversations asked
    (subst (OfEach (λ (s : Submission). IsReplied s.outcome))
    (submitted is.boards is.conversations is.asked position (stands.Lane lane.0) one.served one.there lane.1)
    (c.a_faithful_link_serves_all.ensures.replied settings spec one.served link some calm one.over))
