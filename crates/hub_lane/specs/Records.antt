-- The record of a lane as whoever hands lanes on sees it: a head and its entries, as lists of numbers. Profile.
use Rattle.std.specs.Prelude.{ℕ, List, Option}
use Rattle.turn_pass.specs.Record.{Record}
use Rattle.world_model.specs.Settings.{Limits}
use Rattle.links.specs.Telling.{Telling}
use Rattle.lane_record.specs.declared.item.Item.{Item}
use Rattle.lane_record.specs.Coding.{Head, record_of}
use Rattle.hub_lane.specs.Lanes.{BoardStatus, LaneState, opening_of}

-- what a lane knows from its greeting on, over a link with this number
abbrev pub head_of : ℕ → Limits → BoardStatus → Option Telling → Head
head_of number settings status telling = record {
  rounds = settings.rounds;
  window = settings.window;
  mtu = status.mtu;
  buffers = status.buffers;
  first = status.next;
  link = number;
  opening = opening_of telling;
}

-- the same of a lane whose link tells this
abbrev pub head_shown : {L : Type 0} → (L → Option Telling) → LaneState L → Head
head_shown tells lane = head_of lane.number lane.settings lane.status (tells lane.link)

-- its record: the head, and the entries with their contents
abbrev pub record_shown : ℕ → Limits → BoardStatus → Option Telling → List Item → Record
record_shown number settings status telling items = record_of (head_of number settings status telling) items
