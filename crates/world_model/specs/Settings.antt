-- The settings of a session. Profile.
use Rattle.std.specs.Prelude.{ℕ, ◌≤◌}
use Rattle.world_model.specs.declared.settings.TheConstants.{MAX_WINDOW}

-- the two numbers
pub record Limits : Type 0 where
  pub rounds : ℕ
  pub window : ℕ

-- the numbers that settings can have
pub record AreLimits (s : Limits) : Type 0 where
  pub some_rounds : 1 ≤ s.rounds
  pub some_window : 1 ≤ s.window
  pub window_in_range : s.window ≤ MAX_WINDOW
