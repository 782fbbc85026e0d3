-- What clients at a hub did to its lanes. What private functions promise one another; no public clause speaks of these.
use Rattle.std.specs.Prelude.{◌≡◌, ◌⊎◌, ℕ, List, map, Option}
use Rattle.links.specs.Telling.{Telling}
use Rattle.turn_pass.specs.Pass.{first_knowledge}
use Rattle.hub_lane.specs.Lanes.{LaneState}
use Rattle.hub_multiplexer.specs.Ends.{AreEnded}
use Rattle.hub_multiplexer.specs.Lanes.{shown_record}
use Rattle.hub_multiplexer.specs.Seats.{MasterState}
use Rattle.client_history.specs.Clients.{AskAll, sealed_plans}
use Rattle.client_threads.specs.Clients.{HaveRun, WereTakenIn}
use Rattle.client_threads.specs.declared.plan.ClientPlan.{ClientPlan}
use Rattle.client_threads.specs.declared.result.ClientResult.{ClientResult}

-- all clients are planned on a lane of this number, with as many bodies as their plans ask of it
pub record HoldsAll {L : Type 0} (clients : List ClientPlan) (number : ℕ) (lane : LaneState L) : Type 0 where
  pub bodies : List (List (List ℕ))
  pub opens : lane.items ≡ sealed_plans bodies
  pub asked : AskAll number clients bodies

-- a hub's master at its beginning and at its end: lanes came to the hub, and these were handed back
pub record AtHub {L : Type 0} (tells : L → Option Telling) (olds news : List (LaneState L)) : Type 0 where
  pub before : MasterState
  pub after : MasterState
  pub opened : before.knows ≡ map first_knowledge (map (shown_record tells) olds)
  pub ended : AreEnded after.knows (map (shown_record tells) news)

-- some clients, the first ones, were given seats and were taken in
pub record WereAtHub {L : Type 0} (tells : L → Option Telling) (clients : List ClientPlan)
    (olds news : List (LaneState L)) : Type 0 where
  pub hub : AtHub tells olds news
  pub taken_in : WereTakenIn clients hub.before hub.after

-- all clients ran to their end, with these results
pub record RanAtHub {L : Type 0} (tells : L → Option Telling) (clients : List ClientPlan)
    (results : List ClientResult) (olds news : List (LaneState L)) : Type 0 where
  pub hub : AtHub tells olds news
  pub ran : HaveRun clients results hub.before hub.after

-- The lanes came back: there was no hub for want of memory, or they were at one.
abbrev pub CameBack : {L : Type 0} → (L → Option Telling) → List ClientPlan → List (LaneState L) → List (LaneState L)
    → Type 0
CameBack tells clients olds news =
    (map (shown_record tells) news ≡ map (shown_record tells) olds) ⊎ WereAtHub tells clients olds news
