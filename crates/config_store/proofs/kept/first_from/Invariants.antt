use Rattle.std.proofs.Common.{◌-◌, ◌≤◌}
use Rattle.std.specs.FinMap as map
use Rattle.config_store.specs.Searches.{IsSplitAt}
use Rattle.config_store.proofs.kept.first_from.Given as goal

-- what is before the part that is left, and what is after it
abbrev pub invariant-halving : goal.invariant-halving
invariant-halving l = record {
  rising : l.low ≤ l.high;
  within : l.high ≤ map.len l.index;
  sides : IsSplitAt (map.entries l.index) l.name l.low l.high;
}

abbrev pub decreases-halving : goal.decreases-halving
decreases-halving l = l.high - l.low
