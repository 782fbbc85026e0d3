use Rattle.board_bus.proofs.Openings.{opening-within, opening-read, opening-outside}
use Rattle.board_bus.proofs.laws.a_bus_opens_with_its_ranges.Goals as goal

pub returns-clause-within : goal.returns-clause-within
returns-clause-within c = opening-within

pub returns-clause-read : goal.returns-clause-read
returns-clause-read c = opening-read

pub returns-clause-outside : goal.returns-clause-outside
returns-clause-outside c = opening-outside
