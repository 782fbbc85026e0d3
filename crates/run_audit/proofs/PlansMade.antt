-- The plans of boards, by board and client.
use Rattle.std.proofs.Common.{◌≡◌, ℕ, zero, suc, ◌+◌, List, [], ◌∷◌, refl, sym, ap, ◌∙◌, arith}
use Rattle.std.proofs.Common.{add-zero}
use Rattle.std.specs.List.{slice_get}
use Rattle.std.specs.Option.{unwrap_or}
use Rattle.board_specs.specs.declared.spec.BoardSpec.{BoardSpec}
use Rattle.board_history.specs.Runs.{greeting_of}
use Rattle.script_plans.specs.declared.greeting.Greeting.{Greeting}
use Rattle.script_plans.specs.declared.greeting.Greeting.TheVariants.{Live, Silent, Down}
use Rattle.script_plans.specs.declared.planned.PieceAt.{PieceAt}
use Rattle.script_plans.specs.Plan.{ClientBodies, no_bodies, planned_on, plans_on}
use Rattle.script_steps.specs.declared.operation.Step.{Step}
use Rattle.transcript_reader.specs.declared.shown.Shown.{Shown}
use Rattle.run_audit.specs.AskedLines.{AskedLine, asked_lines, greeting_at, pieces_of, pieces_shown, pieces_unless}
use Rattle.run_audit.specs.Steps.{AreOf, plan_at, planned_pieces, planned_shown, plans_from}

-- where nothing is asked there is no piece
none_planned : (board : ℕ) (told : Greeting) → (planned_on board told []).pieces ≡ []
none_planned board (Live payload) = refl
none_planned board Silent = refl
none_planned board Down = refl

-- the pieces of a client on a board, one that is not there too
pub of_client : (board : ℕ) (told : Greeting) (scripts : List (List Step)) (client : ℕ)
    → (unwrap_or (slice_get (plans_on board told scripts) client) no_bodies).pieces
    ≡ (planned_on board told (unwrap_or (slice_get scripts client) [])).pieces
of_client board told [] client = sym (none_planned board told)
of_client board told (steps ∷ scripts) zero = refl
of_client board told (steps ∷ scripts) (suc client) = of_client board told scripts client

plan_from : (first : ℕ) (boards : List BoardSpec) (scripts : List (List Step)) (board client : ℕ)
    → (plan_at (plans_from first boards scripts) board client).pieces
    ≡ (planned_on (first + board) (greeting_at boards board) (unwrap_or (slice_get scripts client) [])).pieces
plan_from first [] scripts board client = refl
plan_from first (spec ∷ specs) scripts zero client =
    of_client first (greeting_of spec.link) scripts client
    ∙ ap (λ b. (planned_on b (greeting_of spec.link) (unwrap_or (slice_get scripts client) [])).pieces)
    (sym (add-zero first))
plan_from first (spec ∷ specs) scripts (suc board) client =
    let e : first + 1 + board ≡ first + suc board = omega arith in
    plan_from (first + 1) specs scripts board client
    ∙ ap (λ b. (planned_on b (greeting_at specs board) (unwrap_or (slice_get scripts client) [])).pieces) e

-- The pieces by the plans of a session are those of the session.
pub planned_pieces_are : (boards : List BoardSpec) (scripts : List (List Step)) (asking : AskedLine)
    → planned_pieces (plans_from 0 boards scripts) asking ≡ pieces_of boards scripts asking
planned_pieces_are boards scripts asking =
    let board = asking.ask.op.board in
    let e : 0 + board ≡ board = omega arith in
    ap (λ (pieces : List (List PieceAt)). pieces_unless asking.ask.denied
    (unwrap_or (slice_get pieces asking.number) []))
    (plan_from 0 boards scripts board asking.client
    ∙ ap (λ b. (planned_on b (greeting_at boards board) (unwrap_or (slice_get scripts asking.client) [])).pieces) e)

-- the same of all that are shown on a board
pub planned_shown_are : (boards : List BoardSpec) (scripts : List (List Step)) (board : ℕ) (lines : List AskedLine)
    → planned_shown (plans_from 0 boards scripts) board lines ≡ pieces_shown boards scripts board lines
planned_shown_are boards scripts board [] = refl
planned_shown_are boards scripts board (asking ∷ lines) =
    rw (planned_pieces_are boards scripts asking, planned_shown_are boards scripts board lines) refl

pub session_pieces : (boards : List BoardSpec) (scripts : List (List Step)) (shown : Shown) (board : ℕ)
    (plans : List (List ClientBodies)) (lines : List AskedLine) → AreOf boards scripts shown plans lines
    → planned_shown plans board lines ≡ pieces_shown boards scripts board (asked_lines scripts shown)
session_pieces boards scripts shown board plans lines are =
    ap (λ (ps : List (List ClientBodies)). planned_shown ps board lines) are.plans'
    ∙ (planned_shown_are boards scripts board lines
    ∙ ap (λ (ls : List AskedLine). pieces_shown boards scripts board ls) are.lines')
