-- The record of a berth: the greetings that were answered, one behind the other. In front of the entries of each stands
-- one entry that tells who began it, which it is, and what the board told. Profile.
use Rattle.std.specs.Prelude.{ℕ, ◌+◌, List, [], ◌∷◌, ◌++◌, map, Option}
use Rattle.turn_pass.specs.Record.{Record, Recorded}
use Rattle.world_model.specs.Settings.{Limits}
use Rattle.links.specs.Telling.{Telling}
use Rattle.lane_record.specs.declared.item.Item.{Item}
use Rattle.lane_record.specs.Coding.{Head, as_recorded, head_numbers}
use Rattle.hub_lane.specs.Records.{head_shown}
use Rattle.board_berth.specs.declared.greeting.Greeting.{Greeting}
use Rattle.board_berth.specs.declared.greeting.Greeting.TheVariants.{Answered, Silent, Down}

-- the kind of the entry in front of those of a greeting, beside the kinds of a lane's entries
abbrev pub GREETED : ℕ
GREETED = 5

-- a greeting that was answered: the client that began it, 0 for the first, what the board told, and the entries
pub record Stretch : Type 0 where
  pub by : ℕ
  pub head : Head
  pub items : List Item

abbrev pub stretch_of : {L : Type 0} → (L → Option Telling) → Greeting L → List Stretch
stretch_of tells (Answered by lane) = record { by = by; head = head_shown tells lane; items = lane.items } ∷ []
stretch_of tells (Silent link) = []
stretch_of tells (Down link) = []

abbrev pub stretches : {L : Type 0} → (L → Option Telling) → List (Greeting L) → List Stretch
stretches tells [] = []
stretches tells (greeting ∷ later) = stretch_of tells greeting ++ stretches tells later

-- the entry in front, where so many greetings were answered before
abbrev pub greeted_entry : ℕ → Stretch → Recorded
greeted_entry before s =
    record { entry = record { maker = s.by; kind = GREETED; seq = before }; content = head_numbers s.head }

abbrev pub entries_from : ℕ → List Stretch → List Recorded
entries_from before [] = []
entries_from before (s ∷ later) =
    greeted_entry before s ∷ (map as_recorded s.items ++ entries_from (before + 1) later)

-- the record of a berth with these settings, over links with this number, of which these are all greetings
abbrev pub record_of_all : {L : Type 0} → (L → Option Telling) → Limits → ℕ → List (Greeting L) → Record
record_of_all tells settings number greetings = record {
  head = settings.rounds ∷ settings.window ∷ number ∷ [];
  entries = entries_from 0 (stretches tells greetings);
}
