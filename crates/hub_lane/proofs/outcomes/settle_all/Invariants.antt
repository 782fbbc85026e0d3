use Rattle.std.proofs.Common.{◌≡◌, length}
use Rattle.lane_record.specs.Offers.{put_all}
use Rattle.hub_lane.specs.Sends.{without_fates}
use Rattle.hub_lane.proofs.outcomes.settle_all.Given as goal

abbrev pub invariant-loop-fate : goal.invariant-loop-fate
invariant-loop-fate l = (put_all l.hub.fates l.outcomes.items ≡ put_all l.fn.hub.fates l.fn.outcomes.items)
    × (without_fates l.hub ≡ without_fates l.fn.hub)
    × (l.outcomes.lates ≡ l.fn.outcomes.lates)

abbrev pub decreases-loop-fate : goal.decreases-loop-fate
decreases-loop-fate l = length l.hub.fates
