-- The rule of a turn. The table of a turn has one slot, for the value, and two words: word 0 is 1 while a pass holds
-- the value and else 0, and word 1 is the number of entries of the record. Profile.
use Rattle.std.specs.Prelude.{◌≡◌, ◌≢◌, ℕ, ◌≤◌, Bool, true, false, List, [], ◌∷◌, length, Option, Some, None}
use Rattle.std.specs.List.{AllByRecursion}
use mathlib.Core.Option.{none, some}
use mathlib.Core.Option as maybe
use lib.ListN.{get_elem?}
use Rattle.atomic_table.specs.Table.{State}
use Rattle.turn_pass.specs.Record.{Record, Begins, made_by, past}
use Rattle.turn_pass.specs.Pass.{Joined, Knowledge, Stands}

-- How far a pass is with the value: it has none of it; it took the slot by its exchange; it has the value, out of the
-- slot; it has stored the new number of entries and puts the value back. Each with the record that it took.
pub data Stage : Type 0 where
  Idle : Stage
  Took : Record → Stage
  Has : Record → Stage
  Stores : Record → ℕ → Stage

-- a pass among the passes of a turn. A spent one was taken in by another
pub record View : Type 0 where
  pub knows : Knowledge
  pub stage : Stage
  pub spent : Bool

-- a pass that is not spent has this number
abbrev pub IsPass : List View → ℕ → View → Type 0
IsPass views n v = (get_elem? views n ≡ some v) × (v.spent ≡ false)

-- what the slot has while the holder is at this stage
abbrev pub SlotHas : {V : Type 0} → (V → Record) → Record → Stage → List (maybe.Option (Option V)) → Type 0
SlotHas {V} entries history Idle homes = (value : V) × (homes ≡ some (Some value) ∷ []) × (entries value ≡ history)
SlotHas entries history (Took r) homes = (homes ≡ none ∷ []) × (r ≡ history)
SlotHas entries history (Has r) homes = (homes ≡ some None ∷ []) × (r ≡ history)
SlotHas entries history (Stores r n) homes = (homes ≡ none ∷ []) × (r ≡ history)

-- the two words while the holder is at this stage
abbrev pub words_at : Record → Stage → List ℕ
words_at history Idle = 0 ∷ length history.entries ∷ []
words_at history (Took r) = 1 ∷ length history.entries ∷ []
words_at history (Has r) = 1 ∷ length history.entries ∷ []
words_at history (Stores r n) = 1 ∷ n ∷ []

-- One pass holds at most. The slot has a value with the record of the last give exactly where no pass holds; else one
-- pass holds, and it took the value with that record.
pub record OneHolds {V : Type 0} (entries : V → Record) (history : Record) (holder : ℕ) (stage : Stage)
    (s : State (Option V) View) : Type 0 where
  pub slot : SlotHas entries history stage s.homes
  pub no_other : (n : ℕ) (v : View) → IsPass s.views n v → v.stage ≢ Idle → (n ≡ holder) × (v.stage ≡ stage)
  pub there : stage ≢ Idle → (v : View) × IsPass s.views holder v × (v.stage ≡ stage)

-- The word is the number of entries of the record, and, between the holder's store and its give, the number that the
-- holder will give.
abbrev pub WordCounts : {V : Type 0} → Record → Stage → State (Option V) View → Type 0
WordCounts history stage s = s.words ≡ words_at history stage

-- the record begins with the opening and with what each pass has seen
pub record AllBegin {V : Type 0} (start history : Record) (s : State (Option V) View) : Type 0 where
  pub opening_begins : Begins start history
  pub opening_known : (n : ℕ) (v : View) → IsPass s.views n v → v.knows.opening ≡ start
  pub seen_begins : (n : ℕ) (v : View) → IsPass s.views n v → Begins v.knows.seen history

-- a pass that was taken in is spent, and its entries stay as they were
pub record StaysJoined (start history : Record) (views : List View) (j : Joined) : Type 0 where
  pub stands : Stands start history j
  pub left : View
  pub at_number : get_elem? views j.number ≡ some left
  pub is_spent : left.spent ≡ true

-- what a pass calls its own
pub record Owns (start history : Record) (views : List View) (n : ℕ) (k : Knowledge) : Type 0 where
  pub number_is : k.number ≡ n
  pub mine_are : k.mine ≡ made_by n (past start history)
  pub made_are : n ≡ 0 → k.made ≡ length views
  pub joined_stay : AllByRecursion (StaysJoined start history views) k.joined

-- Each pass has a number of its own; the first pass knows how many were made, and all numbers are lower. Its entries
-- are those past the opening that have its number. No entry past the opening has a number that was not made.
pub record OwnEntries {V : Type 0} (start history : Record) (s : State (Option V) View) : Type 0 where
  pub each : (n : ℕ) (v : View) → IsPass s.views n v → Owns start history s.views n v.knows
  pub unmade : (n : ℕ) → length s.views ≤ n → made_by n (past start history) ≡ []

-- The rule of a turn whose value opened with the record `start`: there is one record, of the last give or the opening,
-- of which the four facts hold.
pub record Turning {V : Type 0} (entries : V → Record) (start : Record) (s : State (Option V) View) : Type 0 where
  pub history : Record
  pub holder : ℕ
  pub stage : Stage
  pub one_holds : OneHolds entries history holder stage s
  pub word_counts : WordCounts history stage s
  pub all_begin : AllBegin start history s
  pub own_entries : OwnEntries start history s
