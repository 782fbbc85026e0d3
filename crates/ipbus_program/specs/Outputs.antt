-- What the private functions promise one another of an output. No public clause speaks of it.
use Rattle.std.specs.Prelude.{◌≡◌, ◌⊎◌, ℕ, List, Option}
use Rattle.ipb_base.specs.Faults.{Rose}
use Rattle.ipb_outside.specs.Told.{AppendsPart}
use Rattle.command_terms.specs.Numbers.{write_fault_status}
use Rattle.ipbus_program.specs.Owed.{Wrote}

-- The text was written whole and its status answered, or the output met a fault, a part of the text was written, and
-- the status says so. `old` and `new` are what the output was given, `before` and `now` its counts of faults.
abbrev pub Delivers : ℕ → List ℕ → Option (List ℕ) → Option (List ℕ) → ℕ → ℕ → ℕ → Type 0
Delivers status text old new before now result =
    ((result ≡ status) × Wrote old new text)
    ⊎ ((result ≡ write_fault_status) × (Rose before now × AppendsPart old new text))
