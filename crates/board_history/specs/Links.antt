-- What a link shows after a run. Profile.
use Rattle.std.specs.Prelude.{◌≡◌, ℕ, ◌≤◌, true, List, [], map, Option, Some, None, IfSome}
use Rattle.board_bus.specs.Ranges.{opening_bus}
use Rattle.world_model.specs.Board.{Board, bodies_executed}
use Rattle.reliable_engine.specs.Traffic.{Passed}
use Rattle.links.specs.Telling.{Telling}
use Rattle.board_specs.specs.declared.spec.LinkSpec.{LinkSpec}
use Rattle.board_specs.specs.declared.spec.LinkSpec.TheVariants.{Sim, Udp}
use Rattle.board_history.specs.Runs.{RunsHere}
use Rattle.lane_record.specs.declared.outcome.Outcome.{Outcome}
use Rattle.lane_record.specs.Lists.{CountsFrom}
use Rattle.lane_record.specs.Outcomes.{is_lost}

-- Counts since the link was made, each of 64 bits: how often the network failed, how many receives were quiet and how
-- many got a datagram, and how many datagrams were lost, delayed or dropped; what passed over it, in the order of the
-- calls that did not fail; which of the links of its rack it is, in the order in which they were made, from 0; and what the
-- link tells of its board and of the datagrams that it carried, where it tells.
pub record LinkReport : Type 0 where
  pub faults : ℕ
  pub quiets : ℕ
  pub gots : ℕ
  pub held : ℕ
  pub traffic : List Passed
  pub number : ℕ
  pub telling : Option Telling

-- the numbers of links among those of their rack, in order
abbrev pub numbers_of : List LinkReport → List ℕ
numbers_of links = map (λ link. link.number) links

-- These links were made one after the other, in this order, behind so many others: the first has that number.
abbrev pub AreInOrderMade : ℕ → List LinkReport → Type 0
AreInOrderMade before links = CountsFrom before (numbers_of links)

-- the board of a link that tells
abbrev pub board_there : Option Telling → Option Board
board_there None = None
board_there (Some telling) = Some telling.told.board

abbrev pub HasFailed : LinkReport → Type 0
HasFailed link = 1 ≤ link.faults

-- The link to a simulated board tells, and its board is that of its document: it opened with the bus of its ranges, and
-- has its MTU, response buffers and first identifier. One to a UDP port does not tell.
abbrev pub IsBoardOf : LinkSpec → Option Board → Type 0
IsBoardOf (Sim mtu buffers first ranges fates) None = ⊥
IsBoardOf (Sim mtu buffers first ranges fates) (Some board) = board ≡ record {
  opening = opening_bus ranges;
  mtu = mtu;
  buffers = buffers;
  first = first;
  log = board.log;
}
IsBoardOf (Udp address port wait) None = Unit {0}
IsBoardOf (Udp address port wait) (Some board) = ⊥

-- A board in this process is within the ranges of its numbers, and its ranges open a bus; of one behind a port nothing
-- is known.
abbrev pub CanBeMade : LinkSpec → Type 0
CanBeMade (Sim mtu buffers first ranges fates) = RunsHere (Sim mtu buffers first ranges fates)
CanBeMade (Udp address port wait) = Unit {0}

-- a body is lost with the link only where the link failed
abbrev pub IsLostOnlyIfFailed : LinkReport → Outcome → Type 0
IsLostOnlyIfFailed link outcome = is_lost outcome ≡ true → HasFailed link

-- A link that tells, lost, delayed and dropped no datagram, and never failed.
pub record IsFaithful (link : LinkReport) : Type 0 where
  pub there : Board
  pub tells : board_there link.telling ≡ Some there
  pub held' : link.held ≡ 0
  pub faults' : link.faults ≡ 0

-- where the link tells, its board executed nothing
abbrev pub IsUntouched : LinkReport → Type 0
IsUntouched link = IfSome (board_there link.telling) (λ board. bodies_executed board ≡ [])
