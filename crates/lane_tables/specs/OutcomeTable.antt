-- What became of the asked bodies, in the order of their Asks; and what came late, by place. Profile.
use Rattle.std.specs.Prelude.{ℕ, List, Option}
use Rattle.lane_record.specs.declared.outcome.Outcome.{Outcome}

pub record TableState : Type 0 where
  pub items : List (Option Outcome)
  pub lates : List (Option (List ℕ))
