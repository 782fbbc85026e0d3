use Rattle.board_bus.proofs.Overlaps.{apart_everywhere}
use Rattle.board_bus.proofs.laws.an_overlap_is_an_address_in_two_ranges.Goals as goal

pub returns : goal.returns
returns c = apart_everywhere
