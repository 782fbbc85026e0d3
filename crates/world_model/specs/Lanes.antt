-- States of runs, and states whose sends still wait: a hub that sends only before it next receives is, once its waiting
-- sends are in the air, in a state of a run. Profile.
use Rattle.std.specs.Prelude.{◌≡◌, true, List, Ok}
use Rattle.std.specs.List.{AllByRecursion}
use Rattle.world_model.specs.declared.moves.WorldMove.{WorldMove}
use Rattle.world_model.specs.Sends.{pending}
use Rattle.world_model.specs.World.{World, go_on, run_moves}
use Rattle.world_model.specs.History.{IsMove}

-- some moves lead there
pub record IsState (start w : World) : Type 0 where
  pub moves : List WorldMove
  pub sendable : AllByRecursion IsMove moves
  pub ran : run_moves 0 start moves ≡ Ok w

-- the waiting sends in the air, and fates and late answers handed out
abbrev pub caught_up : World → World
caught_up w = go_on w w.hub

-- a state of a run once its waiting sends are in the air; after a give-up none wait
pub record IsLaneState (start w : World) : Type 0 where
  pub given_up : w.hub.gave_up ≡ true → pending w.hub ≡ 0
  pub state : IsState start (caught_up w)
