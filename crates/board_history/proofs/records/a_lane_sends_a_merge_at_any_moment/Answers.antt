use Rattle.board_history.proofs.Merges.{first_asked, sent_asked}
use Rattle.board_history.proofs.LaneShown.{nothing_asked}
use Rattle.board_history.proofs.records.a_lane_sends_a_merge_at_any_moment.Goals as goal

pub returns-clause-sent : goal.returns-clause-sent
returns-clause-sent c = sent_asked

pub returns-clause-first : goal.returns-clause-first
returns-clause-first c = first_asked

pub returns-clause-nothing : goal.returns-clause-nothing
returns-clause-nothing c = nothing_asked
