-- What a pass finds in a board's turn, and the manner in which it tells of itself. Profile.
use Rattle.std.specs.Prelude.{◌≡◌, ℕ, List, ◌++◌, map, Option}
use Rattle.turn_pass.specs.Record.{Record, Recorded}
use Rattle.turn_pass.specs.Pass.{Knowledge, Told}
use Rattle.lane_record.specs.declared.outcome.Outcome.{Outcome}
use Rattle.lane_record.specs.declared.item.Item.{Item}
use Rattle.lane_record.specs.Coding.{Head, as_recorded}
use Rattle.hub_multiplexer.specs.OwnItems.{asked_by, planned_by}

-- A lane as a pass found it: its record, and what became of each Ask so far. Where a board has a lane after another, the
-- record shows these entries in front of those of the last one. A lane that stands in its turn itself has none.
pub record FoundLane : Type 0 where
  pub head : Head
  pub items : List Item
  pub outcomes : List (Option Outcome)
  pub front : List Recorded

-- with these entries behind those that it has
abbrev pub with_more : FoundLane → List Item → FoundLane
with_more lane added = record lane { items = lane.items ++ added }

-- In which manner what stands in a board's turn tells of itself.
pub record Manner (Refusal : Type 0) : Type 1 where
  -- its record, by what a pass finds
  pub shows : FoundLane → Record
  -- what holds of all that a pass finds
  pub legal : FoundLane → Type 0
  -- the entries of the pass's client by which its calls go
  pub own : Knowledge → FoundLane → List Item
  -- what it means that a body was not submitted
  pub refuses : Knowledge → List ℕ → Refusal → FoundLane → List Item → Type 0
  -- what another greeting of the board makes of what is found, by these entries
  pub begins : FoundLane → List Recorded → FoundLane → Type 0

-- More entries of the lane stand behind what the record had.
pub record ShowsMore {R : Type 0} (m : Manner R) (lane : FoundLane) (added : List Item) : Type 0 where
  pub head : (m.shows (with_more lane added)).head ≡ (m.shows lane).head
  pub entries : (m.shows (with_more lane added)).entries ≡ (m.shows lane).entries ++ map as_recorded added

-- So it is of whatever is found, and which entries are the client's does not depend on what its pass saw before, or on
-- how often it found the value taken.
pub record IsManner {R : Type 0} (m : Manner R) : Type 0 where
  pub more : (lane : FoundLane) (added : List Item) → ShowsMore m lane added
  pub own_same : (k : Knowledge) (seen : Record) (vain : ℕ) (lane : FoundLane)
      → m.own (record k { seen = seen; vain = vain }) lane ≡ m.own k lane

-- a pass of this client finds this record, and every body that was planned for the client was asked
abbrev pub IsAllAsked : ℕ → Record → Type 0
IsAllAsked client found = (k : Knowledge) × Told k found × (k.number ≡ client) × (asked_by k ≡ planned_by k)
