-- Values for worked examples: a bus of one register, and clients that read it.
use Rattle.std.specs.Prelude.{ℕ, List, [], ◌∷◌, Option, Some}
use Rattle.board_bus.specs.Cells.{CellMap}
use Rattle.board_bus.specs.declared.kind.RangeKind.TheVariants.{Rw}
use Rattle.board_bus.specs.Ranges.{opening_bus}
use Rattle.lane_record.specs.declared.outcome.Outcome.{Outcome}
use Rattle.lane_record.specs.declared.outcome.Outcome.TheVariants.{Replied, TimedOut}

-- a register at address 0 that opens with 7
abbrev pub seven : CellMap
seven = opening_bus (record { base = 0; size = 1; kind = Rw; init = 7 ∷ [] } ∷ [])

-- a read of it
abbrev pub read_body : List ℕ
read_body = 0x2000010f ∷ 0 ∷ []

-- which was answered by this word at this place
abbrev pub reads_at : ℕ → ℕ → Outcome
reads_at place word = Replied place (0x20000100 ∷ word ∷ [])

-- one client that reads it once, and two
abbrev pub one_client : List (List (List ℕ))
one_client = (read_body ∷ []) ∷ []

abbrev pub two_clients : List (List (List ℕ))
two_clients = (read_body ∷ []) ∷ (read_body ∷ []) ∷ []

-- what one client reads
abbrev pub one_read : List (List Outcome)
one_read = (reads_at 1 7 ∷ []) ∷ []

-- the same, where its reply comes too late
abbrev pub timed_out : List (List Outcome)
timed_out = (TimedOut 1 2 ∷ []) ∷ []

-- and this word in it
abbrev pub late_read : ℕ → List (List (Option (List ℕ)))
late_read word = (Some (0x20000100 ∷ word ∷ []) ∷ []) ∷ []
