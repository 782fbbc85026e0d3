-- What stands in the records that are handed back at the end. Profile.
use Rattle.std.specs.Prelude.{◌≡◌, ℕ, ◌+◌, ◌≤◌, ◌<◌, List, [], ◌∷◌, length, map}
use Rattle.std.specs.List.{AllByRecursion, AllZip, Contains}
use Rattle.turn_pass.specs.Record.{Record, past}
use Rattle.turn_pass.specs.Pass.{Knowledge, PassState, Told}
use Rattle.hub_multiplexer.specs.Seats.{IsFirst, IsIdle, MasterState}

-- the numbers of the passes that were taken in
abbrev pub numbers_joined : Knowledge → List ℕ
numbers_joined k = map (λ j. j.number) k.joined

-- every pass that was made beside the first was taken in
abbrev pub HasAllJoined : Knowledge → Type 0
HasAllJoined k = (n : ℕ) → 1 ≤ n → n < k.made → Contains (numbers_joined k) n

-- every pass with a number from 1 and below this one was taken in
abbrev pub HasJoinedBelow : ℕ → Knowledge → Type 0
HasJoinedBelow n k = (c : ℕ) → 1 ≤ c → c < n → Contains (numbers_joined k) c

-- the master took in all seats of the clients below this one
abbrev pub HasTakenIn : ℕ → MasterState → Type 0
HasTakenIn n master = AllByRecursion (HasJoinedBelow n) master.knows

-- each pass with one of these numbers was taken in
abbrev pub HasJoinedEach : List ℕ → Knowledge → Type 0
HasJoinedEach numbers k = (c : ℕ) → Contains numbers c → Contains (numbers_joined k) c

-- the master took in the seats of these clients, in whatever order
abbrev pub HasTakenInEach : List ℕ → MasterState → Type 0
HasTakenInEach clients master = AllByRecursion (HasJoinedEach clients) master.knows

-- What the first pass of a turn is told of the record at the end: all that a taker is told, and past the opening there
-- are only entries of passes that were taken in.
pub record Ends (k : Knowledge) (final : Record) : Type 0 where
  pub told : Told k final
  pub only_joined : AllByRecursion (λ x. Contains (numbers_joined k) x.entry.maker) (past k.opening final)

-- the same of each board, in order
abbrev pub AreEnded : List Knowledge → List Record → Type 0
AreEnded knows finals = AllZip Ends knows finals

-- a first pass that made no entry, once every other pass was taken in
pub record IsLast (pass : PassState) : Type 0 where
  pub idle : IsIdle 0 pass
  pub no_entry : pass.knows.mine ≡ []
  pub all_joined : HasAllJoined pass.knows

-- the first pass of a turn of the room for so many lanes, beside which no pass was made
pub record IsRoomPass (count : ℕ) (pass : PassState) : Type 0 where
  pub first : IsFirst 1 pass
  pub capacity : ℕ
  pub enough : count ≤ capacity
  pub opening_is : pass.knows.opening.head ≡ capacity ∷ []

-- How the code keeps a master: first passes that hold nothing and made no entry, after so many seats were made, and the
-- pass of the room.
pub record IsMaster (seats : ℕ) (passes : List PassState) (room : PassState) : Type 0 where
  pub firsts : AllByRecursion (IsFirst (seats + 1)) passes
  pub no_entries : AllByRecursion (λ pass. pass.knows.mine ≡ []) passes
  pub room_fits : IsRoomPass (length passes) room
