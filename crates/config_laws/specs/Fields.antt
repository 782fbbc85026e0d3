-- Registers of boards' tables whose fields can be read and written (uHAL).
use Rattle.std.specs.Prelude.{◌≡◌, ℕ, ◌<◌, ◌^◌, List, Some}
use Rattle.std.specs.List.{slice_get}
use Rattle.std.specs.FinMap.{get}
use Rattle.node_tree.specs.Maps.{Name}
use Rattle.node_tree.specs.declared.register.Register.{Register}
use Rattle.config_store.specs.Kept.{IndexedBoard}

-- the address and the mask have 32 bits, and the mask is not 0
pub record HasField (r : Register) : Type 0 where
  pub address' : r.address < 2 ^ 32
  pub some : 0 < r.mask
  pub mask' : r.mask < 2 ^ 32

-- so of each register of each board's table
abbrev pub HaveFields : List IndexedBoard → Type 0
HaveFields boards =
    (i : ℕ) (b : IndexedBoard) (name : Name) (r : Register) → slice_get boards i ≡ Some b → get b.1 name ≡ Some r
    → HasField r
