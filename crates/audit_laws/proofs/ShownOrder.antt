-- The places that pieces show are those of bodies, and so is their order.
use Rattle.std.proofs.Common.{◌≡◌, ℕ, suc, ◌+◌, ◌==◌, true, List, [], ◌∷◌, ◌++◌, length, map}
use Rattle.std.proofs.Common.{Option, Some, None, refl, sym, ap, ◌∙◌, inl, inr, arith}
use Rattle.std.specs.Prelude.{◌&&◌, option_and_then}
use Rattle.std.specs.List.{AllByRecursion, Any, slice_get}
use Rattle.std.proofs.lemmas.Bool.{and_from, and_parts, both_ways, eq-eqb, eqb-true}
use Rattle.mtu_packer.proofs.AnyLemmas.{any_cases, any_nowhere}
use Rattle.world_model.proofs.Lists.{either}
use Rattle.lane_record.specs.declared.outcome.Outcome.{Outcome}
use Rattle.lane_record.specs.Outcomes.{place_of}
use Rattle.script_plans.specs.declared.board_run.ClientPart.{ClientPart}
use Rattle.board_history.specs.Order.{Placed, all_placed, bodies_with_places, with_place}
use Rattle.run_audit.specs.AskedLines.{ShownPiece}
use Rattle.run_audit.specs.Replay.{all_placed_from, place_shown, placed_from}
use Rattle.audit_laws.proofs.LinePlaces.{IsShownIn}
use Rattle.audit_laws.proofs.ShownPieces.{place_in_parts}

-- ---- the place of one body

module _ (place_in : ℕ → ℕ → Option ℕ) where
  -- the piece is shown with the place of its body
  abbrev pub IsShownAt : ShownPiece → Type 0
  IsShownAt piece = place_in piece.client piece.body ≡ Some piece.place

  test_parts : (piece : ShownPiece) (client body : ℕ) → (piece.client == client && piece.body == body) ≡ true
      → IsShownIn client body piece
  test_parts piece client body test =
      let both = and_parts (piece.client == client) (piece.body == body) test in
      (eqb-true piece.client client both.0, eqb-true piece.body body both.1)

  place_of_piece : (piece : ShownPiece) (client body : ℕ) → IsShownAt piece → IsShownIn client body piece
      → place_in client body ≡ Some piece.place
  place_of_piece piece client body at is =
      ap (λ c. place_in c body) (sym is.0) ∙ ap (place_in piece.client) (sym is.1) ∙ at

  shown_some : (pieces : List ShownPiece) (client body place : ℕ) → AllByRecursion IsShownAt pieces
      → place_in client body ≡ Some place → Any (IsShownIn client body) pieces
      → place_shown pieces client body ≡ Some place
  shown_some [] client body place all is any = absurd (any_nowhere (IsShownIn client body) any)
  shown_some (piece ∷ pieces) client body place all is any =
      either (λ (r : Option ℕ). r ≡ Some place) (piece.client == client && piece.body == body) (Some piece.place)
      (place_shown pieces client body)
      (λ e. sym (place_of_piece piece client body all.0 (test_parts piece client body e)) ∙ is)
      (λ e. elim (any_cases (IsShownIn client body) piece pieces any) [
        | inl here ↦ absurd (both_ways (piece.client == client && piece.body == body) e
            (and_from (piece.client == client) (piece.body == body) (eq-eqb piece.client client here.0)
            (eq-eqb piece.body body here.1)))
        | inr later ↦ shown_some pieces client body place all.1 is later
      ])

  shown_none : (pieces : List ShownPiece) (client body : ℕ) → AllByRecursion IsShownAt pieces
      → place_in client body ≡ None → place_shown pieces client body ≡ None
  shown_none [] client body all is = refl
  shown_none (piece ∷ pieces) client body all is =
      either (λ (r : Option ℕ). r ≡ None) (piece.client == client && piece.body == body) (Some piece.place)
      (place_shown pieces client body)
      (λ e. sym (place_of_piece piece client body all.0 (test_parts piece client body e)) ∙ is)
      (λ _. shown_none pieces client body all.1 is)

  shown_by : (pieces : List ShownPiece) (client body : ℕ) (found : Option ℕ) → AllByRecursion IsShownAt pieces
      → place_in client body ≡ found
      → ((place : ℕ) → place_in client body ≡ Some place → Any (IsShownIn client body) pieces)
      → place_shown pieces client body ≡ found
  shown_by pieces client body None all is each = shown_none pieces client body all is
  shown_by pieces client body (Some place) all is each =
      shown_some pieces client body place all is (each place is)

  pub shown_place : (pieces : List ShownPiece) (client body : ℕ) → AllByRecursion IsShownAt pieces
      → ((place : ℕ) → place_in client body ≡ Some place → Any (IsShownIn client body) pieces)
      → place_shown pieces client body ≡ place_in client body
  shown_place pieces client body all each =
      shown_by pieces client body (place_in client body) all refl each

-- ---- the order

module _ (pieces : List ShownPiece) where
  client_order : (client number : ℕ) (bodies : List (List ℕ)) (outcomes : List Outcome)
      → length outcomes ≡ length bodies
      → ((k : ℕ) → place_shown pieces client (number + k) ≡ option_and_then place_of (slice_get outcomes k))
      → placed_from pieces client number bodies ≡ bodies_with_places bodies outcomes
  client_order client number [] outcomes long same = refl
  client_order client number (body ∷ bodies) [] long same = absurd (omega arith)
  client_order client number (body ∷ bodies) (outcome ∷ outcomes) long same =
      let none : number ≡ number + 0 = omega arith in
      let first : place_shown pieces client number ≡ place_of outcome =
      ap (place_shown pieces client) none ∙ same 0 in
      ap (λ (found : Option ℕ). with_place body found ++ placed_from pieces client (number + 1) bodies) first
      ∙ ap (λ (ps : List Placed). with_place body (place_of outcome) ++ ps)
      (client_order client (number + 1) bodies outcomes (omega arith)
      (λ k. let next : number + 1 + k ≡ number + suc k = omega arith in
      ap (place_shown pieces client) next ∙ same (suc k)))

  pub same_order : (client : ℕ) (parts : List ClientPart)
      → map length (map (λ (p : ClientPart). p.outcomes) parts)
      ≡ map length (map (λ (p : ClientPart). p.planned.bodies) parts)
      → ((i k : ℕ) → place_shown pieces (client + i) k ≡ place_in_parts parts i k)
      → all_placed_from pieces client (map (λ (p : ClientPart). p.planned) parts)
      ≡ all_placed (map (λ (p : ClientPart). p.planned.bodies) parts) (map (λ (p : ClientPart). p.outcomes) parts)
  same_order client [] shape same = refl
  same_order client (part ∷ parts) shape same =
      let here : length part.outcomes ≡ length part.planned.bodies = cc in
      let rest : map length (map (λ (p : ClientPart). p.outcomes) parts)
      ≡ map length (map (λ (p : ClientPart). p.planned.bodies) parts) = cc in
      let none : client ≡ client + 0 = omega arith in
      let first = client_order client 0 part.planned.bodies part.outcomes here
      (λ k. let zero' : 0 + k ≡ k = omega arith in
      ap (place_shown pieces client) zero' ∙ ap (λ c. place_shown pieces c k) none ∙ same 0 k) in
      let later = same_order (client + 1) parts rest
      (λ i k. let next : client + 1 + i ≡ client + suc i = omega arith in
      ap (λ c. place_shown pieces c k) next ∙ same (suc i) k) in
      ap (λ (ps : List Placed). ps ++ all_placed_from pieces (client + 1) (map (λ (p : ClientPart). p.planned) parts))
      first
      ∙ ap (λ (ps : List Placed). bodies_with_places part.planned.bodies part.outcomes ++ ps) later
