use Rattle.std.proofs.Common.{◌≡◌, length}
use Rattle.lane_record.specs.Lates.{put_lates}
use Rattle.hub_lane.specs.Sends.{without_lates}
use Rattle.hub_lane.proofs.outcomes.keep_lates.Given as goal

abbrev pub invariant-loop-late : goal.invariant-loop-late
invariant-loop-late l = (put_lates l.hub.lates l.outcomes.lates ≡ put_lates l.fn.hub.lates l.fn.outcomes.lates)
    × (without_lates l.hub ≡ without_lates l.fn.hub)
    × (l.outcomes.items ≡ l.fn.outcomes.items)

abbrev pub decreases-loop-late : goal.decreases-loop-late
decreases-loop-late l = length l.hub.lates
