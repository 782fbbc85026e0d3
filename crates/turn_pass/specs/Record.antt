-- Records of what was done to a value. Profile.
use Rattle.std.specs.Prelude.{◌≡◌, ◌==◌, ◌++◌, ℕ, List, length, drop}
use Rattle.std.specs.List.{AllByRecursion, filter}
use Rattle.ipb_base.specs.Lists.{IsPrefix}
use Rattle.turn_pass.specs.declared.chronicle.Entry.{Entry}

-- an entry with its content, which the value itself determines
pub record Recorded : Type 0 where
  pub entry : Entry
  pub content : List ℕ

-- a head, which never changes, and then the entries in the order in which they were made
pub record Record : Type 0 where
  pub head : List ℕ
  pub entries : List Recorded

-- a record begins another: the heads are equal, and the entries of the second begin with those of the first
pub record Begins (old new : Record) : Type 0 where
  pub head : new.head ≡ old.head
  pub entries : IsPrefix old.entries new.entries

-- the entries that this maker made, in order
abbrev pub made_by : ℕ → List Recorded → List Recorded
made_by maker entries = filter (λ x. x.entry.maker == maker) entries

-- this maker made them all
abbrev pub AreMadeBy : ℕ → List Recorded → Type 0
AreMadeBy maker entries = AllByRecursion (λ x. x.entry.maker ≡ maker) entries

-- the entries of a record past those of the record that it opened with
abbrev pub past : Record → Record → List Recorded
past opening now = drop (length opening.entries) now.entries

-- a record grew by entries of one maker alone
pub record GrowsBy (maker : ℕ) (old new : Record) : Type 0 where
  pub head : new.head ≡ old.head
  pub added : List Recorded
  pub entries : new.entries ≡ old.entries ++ added
  pub makers : AreMadeBy maker added
