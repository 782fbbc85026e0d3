-- What a pass of a turn knows, and what a pass learns when it takes the value. Profile.
use Rattle.std.specs.Prelude.{◌≡◌, ℕ, ◌+◌, ◌≤◌, nat_lt, Bool, if◌then◌else◌, List, [], ◌∷◌, ◌++◌, length, drop}
use Rattle.std.specs.List.{AllByRecursion}
use Rattle.atomic_table.specs.Seated.{TableId}
use Rattle.turn_pass.specs.Record.{Record, Recorded, Begins, made_by, past}

-- which turn it is: no two turns are one
abbrev pub TurnId : Type 0
TurnId = TableId

-- a pass that another took in: its number, the record that it had seen, and its own entries
pub record Joined : Type 0 where
  pub number : ℕ
  pub seen : Record
  pub mine : List Recorded

-- What a pass knows. The opening is the record of the value when the turn was made. `mine` is the list of the entries
-- past the opening that have the number of the pass, `vain` the count of its exchanges in vain. `made` is how many
-- passes were made, which the first pass alone knows.
pub record Knowledge : Type 0 where
  pub number : ℕ
  pub opening : Record
  pub seen : Record
  pub mine : List Recorded
  pub vain : ℕ
  pub made : ℕ
  pub joined : List Joined

-- a pass: the turn that it is of, whether it holds the value, and what it knows
pub record PassState : Type 0 where
  pub turn : TurnId
  pub holds : Bool
  pub knows : Knowledge

-- the first pass of a turn, which opens with this record
abbrev pub first_knowledge : Record → Knowledge
first_knowledge record_now =
    record { number = 0; opening = record_now; seen = record_now; mine = []; vain = 0; made = 1; joined = [] }

-- after an exchange in vain
abbrev pub in_vain : Knowledge → Knowledge
in_vain k = record k { vain = k.vain + 1 }

-- after the value was taken, with this record
abbrev pub having_seen : Knowledge → Record → Knowledge
having_seen k record_now = record k { seen = record_now }

-- after the value was given back, with this record: what was added to the record seen is the pass's own
abbrev pub having_given : Knowledge → Record → Knowledge
having_given k record_now =
    record k { seen = record_now; mine = k.mine ++ drop (length k.seen.entries) record_now.entries }

-- the first pass, after one more was made
abbrev pub one_more_made : Knowledge → Knowledge
one_more_made k = record k { made = k.made + 1 }

-- the pass that was made: the next number, what the first pass had seen, and no entries of its own
abbrev pub newcomer : Knowledge → Knowledge
newcomer k = record k { number = k.made; mine = []; vain = 0; made = 0; joined = [] }

-- the record with more entries, or the first of two equally long ones
abbrev pub longer : Record → Record → Record
longer a b = if nat_lt (length a.entries) (length b.entries) then b else a

-- what is kept of a pass that was taken in
abbrev pub kept_of : Knowledge → Joined
kept_of k = record { number = k.number; seen = k.seen; mine = k.mine }

-- a pass that took in another: the longer of the records seen, and the other's number and entries
abbrev pub taking_in : Knowledge → Knowledge → Knowledge
taking_in k other =
    record k { seen = longer k.seen other.seen; joined = k.joined ++ other.joined ++ kept_of other ∷ [] }

-- a joined pass stands in a record as it was when it was joined
pub record Stands (opening now : Record) (j : Joined) : Type 0 where
  pub seen : Begins j.seen now
  pub mine : j.mine ≡ made_by j.number (past opening now)

-- What a pass is told of the record when it takes the value: it begins with the opening and with all that the pass and
-- those that it took in had seen; its own entries and theirs are those of `mine` and no others; and, of the first pass,
-- no entry past the opening has a number that was not made.
pub record Told (k : Knowledge) (now : Record) : Type 0 where
  pub opening_begins : Begins k.opening now
  pub seen_begins : Begins k.seen now
  pub own : k.mine ≡ made_by k.number (past k.opening now)
  pub joined_stand : AllByRecursion (Stands k.opening now) k.joined
  pub unmade : k.number ≡ 0 → (n : ℕ) → k.made ≤ n → made_by n (past k.opening now) ≡ []
