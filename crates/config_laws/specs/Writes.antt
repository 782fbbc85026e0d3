-- Values that are written to registers one after another, on one bus. Profile; uHAL for masked writes.
use Rattle.std.specs.Prelude.{◌≡◌, ℕ, ◌<◌, ◌^◌, ◌==◌, if◌then◌else◌, List, [], ◌∷◌, None}
use Rattle.masked_fields.specs.Field.{FitsMask}
use Rattle.board_bus.specs.Cells.{CellMap}
use Rattle.board_bus.specs.Transactions.{Outcome, outcome}
use Rattle.node_tree.specs.declared.register.Register.{Register}
use Rattle.script_lang.specs.Operations.{write_op}

-- a value for a register
pub record ValueFor : Type 0 where
  pub register : Register
  pub value : ℕ

-- a mask of 32 bits that is not 0, and a value of 32 bits that has no bit outside it
pub record CanBeWritten (write : ValueFor) : Type 0 where
  pub some : 0 < write.register.mask
  pub mask : write.register.mask < 2 ^ 32
  pub value : write.value < 2 ^ 32
  pub fits : FitsMask write.register.mask write.value

abbrev pub write_outcome : CellMap → ValueFor → Outcome
write_outcome cells write = outcome cells (write_op write.register (write.value ∷ []))

-- the bus after all of them
abbrev pub after_writes : CellMap → List ValueFor → CellMap
after_writes cells [] = cells
after_writes cells (write ∷ writes) = after_writes (write_outcome cells write).cells writes

-- no write of them is refused
abbrev pub AreDone : CellMap → List ValueFor → Type 0
AreDone cells [] = Unit {0}
AreDone cells (write ∷ writes) = ((write_outcome cells write).fault ≡ None) × AreDone (write_outcome cells write).cells writes

-- the mask and the value of each write to this address, in order
abbrev pub puts_at : ℕ → List ValueFor → List (ℕ × ℕ)
puts_at address [] = []
puts_at address (write ∷ writes) =
    if write.register.address == address then (write.register.mask, write.value) ∷ puts_at address writes
    else puts_at address writes
