-- In which calls a count of faults rises. Profile.
use Rattle.std.specs.Prelude.{◌≡◌, ◌≤◌, ℕ}
use Rattle.ipb_base.specs.Faults.{Rose}

-- The count rose in a call that failed so, stayed in any other, and never falls. So no other answer passes over a
-- fault.
abbrev pub RisesExactlyIf : Type 0 → ℕ → ℕ → Type 0
RisesExactlyIf failed before now = (failed → Rose before now) × (before ≤ now) × (¬ failed → now ≡ before)
