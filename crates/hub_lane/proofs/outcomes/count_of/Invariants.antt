use Rattle.std.proofs.Common.{◌≡◌, ◌≤◌, take}
use Rattle.std.specs.Prelude.{count_by}
use Rattle.lane_record.specs.Bounds.{has_timed_out}
use Rattle.hub_lane.specs.Calls.{is_lost_at_place, is_replied}
use Rattle.hub_lane.proofs.outcomes.count_of.Given as goal

abbrev pub invariant-loop-ask : goal.invariant-loop-ask
invariant-loop-ask l = (l.replied ≡ count_by is_replied (take l.ask l.outcomes.items))
    × (l.timed_out ≡ count_by has_timed_out (take l.ask l.outcomes.items))
    × (l.lost ≡ count_by is_lost_at_place (take l.ask l.outcomes.items))
    × (l.replied ≤ l.ask) × (l.timed_out ≤ l.ask) × (l.lost ≤ l.ask)
