-- What a link shows of itself, as the history of its board takes it. Profile.
use Rattle.std.specs.Prelude.{◌≡◌}
use Rattle.board_bus.specs.Cells.{CellMap}
use Rattle.links.specs.Telling.{Telling}
use Rattle.links.specs.declared.link.Link.{Ghosts}
use Rattle.board_history.specs.Links.{LinkReport}

-- what a link shows, by what contracts see of it: its four counts, its traffic, its number, and what it tells
abbrev pub shown_by : {L : Type 0} → Ghosts L → L → LinkReport
shown_by seen link = record {
  faults = seen.faults link;
  quiets = seen.quiets link;
  gots = seen.gots link;
  held = seen.held link;
  traffic = seen.traffic link;
  number = seen.number link;
  telling = seen.telling link;
}

-- the board opened with this bus
abbrev pub OpenedWith : CellMap → Telling → Type 0
OpenedWith opening telling = telling.told.board.opening ≡ opening
