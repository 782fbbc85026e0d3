use Rattle.std.proofs.Common.{[], append-nil}
use Rattle.world_model.specs.Board.{Board, bodies_executed}
use Rattle.lane_record.specs.Claims.{claims}
use Rattle.lane_record.specs.Offers.{offers_from}
use Rattle.board_history.specs.Runs.{opens_with}
use Rattle.board_history.specs.Lanes.{IsTrueOf, bodies_offered}
use Rattle.board_history.specs.Links.{board_there}
use Rattle.board_history.specs.LinkRuns.{IsMergeOfAsked}
use Rattle.board_history.proofs.LaneShown.{some_then, untouched_some}
use Rattle.board_history.proofs.records.a_lane_left_at_any_moment_executed_a_merge.Goals as goal

pub returns-clause-lane : goal.returns-clause-lane
returns-clause-lane c = λ settings spec board scripts link payload items became lates given_up packets planned
    lane.
    let law = c.a_lane_sends_a_merge_at_any_moment.ensures in
    let all : IsMergeOfAsked spec board scripts (bodies_offered (claims items) became) =
    law.sent spec board scripts payload items became (offers_from 0 (claims items) became) [] packets planned
    lane.kept.legal (append-nil (offers_from 0 (claims items) became)) in
    some_then (λ (b : Board). IsTrueOf (opens_with spec.link) (claims items) became lates (bodies_executed b))
    (λ (b : Board). IsMergeOfAsked spec board scripts (bodies_executed b)) (board_there link.telling)
    (λ b truth. law.first spec board scripts (bodies_executed b) (bodies_offered (claims items) became) truth.front all)
    lane.told

pub returns-clause-untouched : goal.returns-clause-untouched
returns-clause-untouched c = untouched_some
