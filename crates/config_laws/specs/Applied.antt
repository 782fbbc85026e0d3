-- The configuration of boards after values were applied: each kept register has the value that is given for it, or else
-- the one that its board opens with. Profile.
use Rattle.std.specs.Prelude.{◌≡◌, ◌⊎◌, List}
use Rattle.std.specs.List.{AllByRecursion, AllZip, Contains}
use Rattle.board_specs.specs.declared.spec.BoardSpec.{BoardSpec}
use Rattle.config_store.specs.declared.state.StateEntry.{StateEntry}
use Rattle.config_store.specs.Kept.{KeptRegister}
use Rattle.config_laws.specs.Saved.{IsSaved}

-- the value is for the register: by the names of its board and its own
pub record IsFor (kept : KeptRegister) (entry : StateEntry) : Type 0 where
  pub board' : entry.board ≡ kept.board
  pub name' : entry.name ≡ kept.name

-- one value for each register, in their order
abbrev pub AreFor : List KeptRegister → List StateEntry → Type 0
AreFor kept entries = AllZip IsFor kept entries

-- The value is that of the state for the register; or the state has none for it, and it is that of the bus that its
-- board opens with.
abbrev pub IsApplied : List BoardSpec → List StateEntry → KeptRegister → StateEntry → Type 0
IsApplied specs state kept entry =
    (Contains state entry × IsFor kept entry)
    ⊎ (AllByRecursion (λ (given : StateEntry). ¬ IsFor kept given) state × IsSaved specs kept entry)

-- so of each register, in their order
abbrev pub AreApplied : List BoardSpec → List StateEntry → List KeptRegister → List StateEntry → Type 0
AreApplied specs state kept entries = AllZip (IsApplied specs state) kept entries

-- each of some values is among others
abbrev pub AreAmong : List StateEntry → List StateEntry → Type 0
AreAmong entries others = AllByRecursion (λ (entry : StateEntry). Contains others entry) entries
