use Rattle.std.proofs.Common.{◌≡◌, ◌≤◌, length}
use Rattle.lane_record.specs.Offers.{lost_after}
use Rattle.hub_lane.proofs.LostWithLink.{lost_from}
use Rattle.hub_lane.proofs.outcomes.lose_all.Given as goal

abbrev pub invariant-loop-ask : goal.invariant-loop-ask
invariant-loop-ask l = (lost_from l.ask l.place l.sent l.outcomes.items
    ≡ lost_after 0 l.sent l.fn.outcomes.items) × (l.place ≤ l.ask) × (length l.outcomes.items
    ≡ length l.fn.outcomes.items)
    × (l.outcomes.lates ≡ l.fn.outcomes.lates)
