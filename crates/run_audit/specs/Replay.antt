-- THE BOARDS AS THEY ARE SHOWN, AGAIN: the bodies that lines show with a place are executed in the order of these
-- places, by a bus with a single thread. Profile.
use Rattle.std.specs.Prelude.{ℕ, ◌+◌, ◌&&◌, ◌==◌, if◌then◌else◌, List, [], ◌∷◌, ◌++◌}
use Rattle.std.specs.Prelude.{Option, Some, None}
use Rattle.board_bus.specs.Cells.{CellMap}
use Rattle.board_bus.specs.Bodies.{replay}
use Rattle.board_specs.specs.declared.spec.BoardSpec.{BoardSpec}
use Rattle.lane_record.specs.declared.outcome.Outcome.{Outcome}
use Rattle.lane_record.specs.declared.outcome.Outcome.TheVariants.{Replied, Unsent}
use Rattle.script_steps.specs.declared.operation.Step.{Step}
use Rattle.script_plans.specs.declared.board_run.ClientPart.{ClientPart}
use Rattle.script_plans.specs.declared.board_run.BoardRun.{BoardRun}
use Rattle.script_plans.specs.Plan.{ClientBodies, plans_on}
use Rattle.board_history.specs.Order.{Placed, by_place, bodies_in, with_place}
use Rattle.board_history.specs.Runs.{greeting_of, opens_with}
use Rattle.run_audit.specs.AskedLines.{AskedLine, ShownPiece, pieces_shown}

-- the place of a body of a client that is shown first, where one is shown
abbrev pub place_shown : List ShownPiece → ℕ → ℕ → Option ℕ
place_shown [] client body = None
place_shown (piece ∷ pieces) client body =
    if piece.client == client && piece.body == body then Some piece.place else place_shown pieces client body

-- ---- the order that is shown

-- those bodies of a client, from a number on, that are shown with a place
abbrev pub placed_from : List ShownPiece → ℕ → ℕ → List (List ℕ) → List Placed
placed_from pieces client number [] = []
placed_from pieces client number (body ∷ bodies) =
    with_place body (place_shown pieces client number) ++ placed_from pieces client (number + 1) bodies

-- those of the clients from a number on
abbrev pub all_placed_from : List ShownPiece → ℕ → List ClientBodies → List Placed
all_placed_from pieces client [] = []
all_placed_from pieces client (plan ∷ plans) =
    placed_from pieces client 0 plan.bodies ++ all_placed_from pieces (client + 1) plans

-- The bodies that are shown with a place, by place.
abbrev pub shown_order : List ShownPiece → List ClientBodies → List Placed
shown_order pieces plans = by_place (all_placed_from pieces 0 plans)

-- ---- what became of them

-- the reply to the first body at a place
abbrev pub reply_at : List Placed → List (List ℕ) → ℕ → List ℕ
reply_at [] replies place = []
reply_at (placed ∷ order) [] place = []
reply_at (placed ∷ order) (reply ∷ replies) place =
    if placed.place == place then reply else reply_at order replies place

-- the bus that opens with these cells replies to all of them, in order
abbrev pub reply_in : CellMap → List Placed → ℕ → List ℕ
reply_in opening order place = reply_at order (replay opening (bodies_in order)).replies place

-- a body with a place was replied to in time, and one without was not sent
abbrev pub replied_at : CellMap → List Placed → Option ℕ → Outcome
replied_at opening order (Some place) = Replied place (reply_in opening order place)
replied_at opening order None = Unsent

-- the bodies of a client from a number on
abbrev pub outcomes_from : CellMap → List Placed → List ShownPiece → ℕ → ℕ → List (List ℕ) → List Outcome
outcomes_from opening order pieces client number [] = []
outcomes_from opening order pieces client number (body ∷ bodies) =
    replied_at opening order (place_shown pieces client number)
    ∷ outcomes_from opening order pieces client (number + 1) bodies

-- what the clients from a number on asked, and what became of it; nothing came late
abbrev pub parts_from : CellMap → List Placed → List ShownPiece → ℕ → List ClientBodies → List ClientPart
parts_from opening order pieces client [] = []
parts_from opening order pieces client (plan ∷ plans) =
    record { planned = plan; outcomes = outcomes_from opening order pieces client 0 plan.bodies; lates = [] }
    ∷ parts_from opening order pieces (client + 1) plans

-- The run of the board at a position: each body that these lines show with a place was replied to in time, with the words
-- that the board's bus gives where it executes these bodies by place, and no other body was sent.
abbrev pub replay_of_board : List BoardSpec → List (List Step) → List AskedLine → BoardSpec → ℕ → BoardRun
replay_of_board boards scripts lines spec board =
    let pieces = pieces_shown boards scripts board lines in
    let plans = plans_on board (greeting_of spec.link) scripts in
    record {
      name = spec.name;
      greeting = greeting_of spec.link;
      parts = parts_from (opens_with spec.link) (shown_order pieces plans) pieces 0 plans;
    }
