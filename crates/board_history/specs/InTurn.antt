-- Clients one after another: the bodies of the first client are executed before those of the second, and so on.
use Rattle.std.specs.Prelude.{◌≡◌, ℕ, ◌+◌, List, [], ◌∷◌, length}
use Rattle.std.specs.List.{AllByRecursion}
use Rattle.board_bus.specs.Cells.{CellMap}
use Rattle.board_bus.specs.Bodies.{run_body, replay}
use Rattle.lane_record.specs.declared.outcome.Outcome.{Outcome}
use Rattle.lane_record.specs.declared.outcome.Outcome.TheVariants.{Replied}
use Rattle.lane_record.specs.Lists.{CountsFrom}
use Rattle.board_history.specs.Order.{all_placed, places_of}

-- What becomes of a client's bodies that are executed one after another from this place on, on this bus: each is
-- replied to, with the words that the bus gives.
abbrev pub outcomes_from : ℕ → CellMap → List (List ℕ) → List Outcome
outcomes_from place cells [] = []
outcomes_from place cells (body ∷ bodies) =
    let first = run_body cells body in
    Replied place first.reply ∷ outcomes_from (place + 1) first.cells bodies

-- the same of the clients in turn: the places go on, and so does the bus
abbrev pub in_turn : ℕ → CellMap → List (List (List ℕ)) → List (List Outcome)
in_turn place cells [] = []
in_turn place cells (bodies ∷ later) =
    outcomes_from place cells bodies ∷ in_turn (place + length bodies) (replay cells bodies).cells later

-- The places of the first client's bodies are 1, 2, .., those of the second client's go on from there, and so on.
abbrev pub AreInTurn : List (List (List ℕ)) → List (List Outcome) → Type 0
AreInTurn bodies outcomes = CountsFrom 1 (places_of (all_placed bodies outcomes))

-- one client at most asks anything of the board
abbrev pub IsUsedByOne : List (List (List ℕ)) → Type 0
IsUsedByOne [] = Unit {0}
IsUsedByOne ([] ∷ later) = IsUsedByOne later
IsUsedByOne ((body ∷ bodies) ∷ later) = AllByRecursion (λ (others : List (List ℕ)). others ≡ []) later
