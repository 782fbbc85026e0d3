-- Boards and bodies for worked examples: values alone.
use Rattle.std.specs.Prelude.{ℕ, List, [], ◌∷◌, map, Result, Ok, Err}
use Rattle.world_model.specs.declared.datagram.Datagram.{Datagram}
use Rattle.world_model.specs.declared.offered.Fate.{Fate}
use Rattle.world_model.specs.declared.offered.OpenPlace.{OpenPlace}
use Rattle.world_model.specs.declared.moves.WorldMove.{WorldMove}
use Rattle.world_model.specs.declared.moves.WorldEnd.{WorldEnd}
use Rattle.board_bus.specs.declared.kind.RangeKind.TheVariants.{Rw}
use Rattle.board_bus.specs.Ranges.{opening_bus}
use Rattle.world_model.specs.Board.{Board, bodies_executed}
use Rattle.world_model.specs.World.{World, run_moves, start}

-- a board of 16 words that opens with 0xabcd at address 4, as it expects its first packet
abbrev pub board_with : ℕ → ℕ → ℕ → Board
board_with mtu buffers first = record {
  opening = opening_bus (record { base = 0; size = 16; kind = Rw; init = 0 ∷ 0 ∷ 0 ∷ 0 ∷ 0xabcd ∷ [] } ∷ []);
  mtu = mtu;
  buffers = buffers;
  first = first;
  log = [];
}

-- a read of the word at address 4, and its reply
abbrev pub read_four : List ℕ
read_four = 0x2000010f ∷ 4 ∷ []

abbrev pub four_read : List ℕ
four_read = 0x20000100 ∷ 0xabcd ∷ []

-- an addition of 1 to the word at address 8
abbrev pub add_one : List ℕ
add_one = 0x2000015f ∷ 8 ∷ 1 ∷ []

abbrev pub one_added : List ℕ
one_added = 0x20000150 ∷ 0 ∷ []

-- how a world stands: the bodies that its board executed, the fates and late answers that were handed out, the places
-- that are open, and the bytes in the air
pub record Standing : Type 0 where
  pub executed_bodies : List (List ℕ)
  pub fates : List (ℕ × Fate)
  pub lates : List (ℕ × List ℕ)
  pub open_places : List OpenPlace
  pub air : List (List ℕ)

abbrev pub bytes_of : Datagram → List ℕ
bytes_of datagram = datagram.bytes

abbrev pub standing : Result World WorldEnd → Result Standing WorldEnd
standing (Ok w) = Ok (record {
  executed_bodies = bodies_executed w.board;
  fates = w.fates;
  lates = w.lates;
  open_places = w.hub.open_places;
  air = map bytes_of w.air;
})
standing (Err end) = Err end

-- where a world of this window and these rounds stands after some moves, over the empty air
abbrev pub after : ℕ → ℕ → Board → List WorldMove → Result Standing WorldEnd
after window rounds board moves = standing (run_moves 0 (start window rounds board []) moves)
