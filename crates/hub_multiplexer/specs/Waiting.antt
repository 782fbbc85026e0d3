-- What a visit of a lane finds. No public contract cites it. Profile.
use Rattle.std.specs.Prelude.{◌≡◌, ℕ, List, Option, None, Some}
use Rattle.turn_pass.specs.Pass.{Knowledge}
use Rattle.lane_record.specs.declared.item.Item.{Item}
use Rattle.hub_multiplexer.specs.Manner.{FoundLane}
use Rattle.hub_multiplexer.specs.AnyCalls.{FindMeansAs}
use Rattle.hub_multiplexer.specs.Calls.{lane_manner}
use Rattle.hub_multiplexer.specs.Lanes.{StepsOn}
use Rattle.hub_multiplexer.specs.declared.answers.Performed.{Performed}
use Rattle.hub_multiplexer.specs.declared.answers.Performed.TheVariants as performs
use Rattle.hub_lane.specs.declared.step.Stepped.TheVariants as steps

-- what a visit of a lane came to: what was performed, or nothing became of the body yet
abbrev pub FindMeans : Knowledge → Option Performed → FoundLane → List Item → Type 0
FindMeans = FindMeansAs lane_manner

-- what that does to the entries of the lane
abbrev pub FindsOn : List Item → ℕ → Option Performed → List Item → Type 0
FindsOn items client (Some (performs.Ready outcome)) after = StepsOn items client (steps.Ready outcome) after
FindsOn items client (Some performs.Nothing) after = StepsOn items client steps.Nothing after
FindsOn items client None after = after ≡ items
