-- How a record is spelled: an entry is three numbers with a list of numbers as its content, and the head of a lane's
-- record is a list of numbers. Profile.
use Rattle.std.specs.Prelude.{ℕ, ◌==◌, if◌then◌else◌, List, [], ◌∷◌, map, Option, Some, None}
use Rattle.std.specs.Option.{option_map}
use Rattle.board_bus.specs.declared.kind.RangeKind.{RangeKind}
use Rattle.board_bus.specs.declared.kind.RangeKind.TheVariants.{Rw, Ro, Wo, Slow}
use Rattle.board_bus.specs.Cells.{CellMap}
use Rattle.turn_pass.specs.declared.chronicle.Entry.{Entry}
use Rattle.turn_pass.specs.Record.{Recorded, Record}
use Rattle.lane_record.specs.declared.outcome.Outcome.{Outcome}
use Rattle.lane_record.specs.declared.outcome.Outcome.TheVariants.{Replied, TimedOut, Unsent, LinkLost}
use Rattle.lane_record.specs.declared.item.Item.{Item}
use Rattle.lane_record.specs.declared.item.What.{What}
use Rattle.lane_record.specs.declared.item.What.TheVariants.{Plan, Seal, Ask, Took}

-- ---- the kinds of entries

abbrev pub PLAN : ℕ
PLAN = 1

abbrev pub SEAL : ℕ
SEAL = 2

abbrev pub ASK : ℕ
ASK = 3

abbrev pub TOOK : ℕ
TOOK = 4

-- ---- entries as numbers

-- an outcome: which kind it is, its place where it has one, and what else it tells
abbrev pub outcome_numbers : Outcome → List ℕ
outcome_numbers (Replied place words) = 0 ∷ place ∷ words
outcome_numbers (TimedOut place rounds) = 1 ∷ place ∷ rounds ∷ []
outcome_numbers Unsent = 2 ∷ []
outcome_numbers (LinkLost None) = 3 ∷ []
outcome_numbers (LinkLost (Some place)) = 4 ∷ place ∷ []

abbrev pub kind_of : What → ℕ
kind_of (Plan body) = PLAN
kind_of Seal = SEAL
kind_of (Ask give_ups) = ASK
kind_of (Took outcome give_ups) = TOOK

-- of a Plan the body, of an Ask the number of give-ups, of a Took that number and the outcome
abbrev pub content_of : What → List ℕ
content_of (Plan body) = body
content_of Seal = []
content_of (Ask give_ups) = give_ups ∷ []
content_of (Took outcome give_ups) = give_ups ∷ outcome_numbers outcome

abbrev pub entry_of : Item → Entry
entry_of x = record { maker = x.client; kind = kind_of x.what; seq = x.seq }

abbrev pub as_recorded : Item → Recorded
as_recorded x = record { entry = entry_of x; content = content_of x.what }

-- ---- numbers as entries

abbrev pub replied_in : List ℕ → Option Outcome
replied_in [] = None
replied_in (place ∷ words) = Some (Replied place words)

abbrev pub timed_out_in : List ℕ → Option Outcome
timed_out_in [] = None
timed_out_in (place ∷ []) = None
timed_out_in (place ∷ rounds ∷ []) = Some (TimedOut place rounds)
timed_out_in (place ∷ rounds ∷ more ∷ rest) = None

abbrev pub alone : Outcome → List ℕ → Option Outcome
alone outcome [] = Some outcome
alone outcome (more ∷ rest) = None

abbrev pub lost_in : List ℕ → Option Outcome
lost_in [] = None
lost_in (place ∷ []) = Some (LinkLost (Some place))
lost_in (place ∷ more ∷ rest) = None

abbrev pub outcome_with : ℕ → List ℕ → Option Outcome
outcome_with kind rest =
    if kind == 0 then replied_in rest
    else if kind == 1 then timed_out_in rest
    else if kind == 2 then alone Unsent rest
    else if kind == 3 then alone (LinkLost None) rest
    else if kind == 4 then lost_in rest
    else None

abbrev pub outcome_from : List ℕ → Option Outcome
outcome_from [] = None
outcome_from (kind ∷ rest) = outcome_with kind rest

abbrev pub seal_from : List ℕ → Option What
seal_from [] = Some Seal
seal_from (more ∷ rest) = None

abbrev pub ask_from : List ℕ → Option What
ask_from [] = None
ask_from (give_ups ∷ []) = Some (Ask give_ups)
ask_from (give_ups ∷ more ∷ rest) = None

abbrev pub took_from : List ℕ → Option What
took_from [] = None
took_from (give_ups ∷ rest) = option_map (λ outcome. Took outcome give_ups) (outcome_from rest)

abbrev pub what_from : ℕ → List ℕ → Option What
what_from kind content =
    if kind == PLAN then Some (Plan content)
    else if kind == SEAL then seal_from content
    else if kind == ASK then ask_from content
    else if kind == TOOK then took_from content
    else None

abbrev pub item_with : Entry → What → Item
item_with entry what = record { client = entry.maker; seq = entry.seq; what = what }

-- the entry that is spelled so
abbrev pub item_from : Recorded → Option Item
item_from r = option_map (item_with r.entry) (what_from r.entry.kind r.content)

-- ---- the head

-- What a lane knows from its greeting on: its settings, what the board told of itself, which of the links of its rack it
-- runs over, and over a link that tells the bus with which the board opened.
pub record Head : Type 0 where
  pub rounds : ℕ
  pub window : ℕ
  pub mtu : ℕ
  pub buffers : ℕ
  pub first : ℕ
  pub link : ℕ
  pub opening : Option CellMap

abbrev pub kind_number : RangeKind → ℕ
kind_number Rw = 0
kind_number Ro = 1
kind_number Wo = 2
kind_number Slow = 3

abbrev pub cell_numbers : CellMap → List ℕ
cell_numbers [] = []
cell_numbers (entry ∷ cells) = entry.0 ∷ kind_number entry.1.kind ∷ entry.1.word ∷ cell_numbers cells

abbrev pub opening_numbers : Option CellMap → List ℕ
opening_numbers None = 0 ∷ []
opening_numbers (Some cells) = 1 ∷ cell_numbers cells

abbrev pub head_numbers : Head → List ℕ
head_numbers h = h.rounds ∷ h.window ∷ h.mtu ∷ h.buffers ∷ h.first ∷ h.link ∷ opening_numbers h.opening

-- a lane's record as a value that is handed on shows it
abbrev pub record_of : Head → List Item → Record
record_of head items = record { head = head_numbers head; entries = map as_recorded items }
