-- The pieces that are shown of a board have the places of their bodies, and each body with a place is shown.
use Rattle.std.proofs.Common.{◌≡◌, ◌⊎◌, ℕ, zero, suc, ◌+◌, ◌<◌, ◌≤◌, ◌==◌, List, [], ◌∷◌, length, map, drop, get_or}
use Rattle.std.proofs.Common.{Option, Some, None, refl, sym, ap, subst, ◌∙◌, inl, inr, arith}
use Rattle.std.specs.Prelude.{option_and_then, unwrap_or}
use Rattle.std.specs.List.{AllByRecursion, Any, flat_map, slice_get}
use Rattle.std.proofs.lemmas.Bool.{cases_lt, eq-eqb, eqb-true}
use Rattle.std.proofs.lemmas.Option.{same_Some, slice_get-get_or, slice_get_within}
use Rattle.ipb_base.proofs.AllLemmas.{AllByRecursion-append, all-map}
use Rattle.mtu_packer.proofs.AnyLemmas.{any_back, any_front, at_any}
use Rattle.world_model.proofs.Lists.{either}
use Rattle.board_specs.specs.declared.spec.BoardSpec.{BoardSpec}
use Rattle.lane_record.specs.declared.outcome.Outcome.{Outcome}
use Rattle.lane_record.specs.Outcomes.{place_of}
use Rattle.script_steps.specs.declared.operation.Step.{Step}
use Rattle.script_plans.specs.declared.greeting.Greeting.{Greeting}
use Rattle.script_plans.specs.declared.greeting.Greeting.TheVariants.{Live, Silent, Down}
use Rattle.script_plans.specs.declared.planned.PieceAt.{PieceAt}
use Rattle.script_plans.specs.declared.board_run.ClientPart.{ClientPart}
use Rattle.script_plans.specs.declared.board_run.BoardRun.{BoardRun}
use Rattle.script_plans.specs.Claims.{HasPiece}
use Rattle.script_plans.specs.Plan.{ClientBodies, all_dispatches, count_on, operations, plan, planned_on}
use Rattle.script_plans.specs.Runs.{IsPlanned}
use Rattle.script_plans.proofs.Covering.{each_has_pieces}
use Rattle.script_plans.proofs.EachBody.{BodiesHavePieces, each_body}
use Rattle.script_plans.proofs.Lookups.{all_at}
use Rattle.board_history.specs.History.{bodies_by_client, outcomes_by_client}
use Rattle.transcript.specs.declared.body_end.BodyEnd.{BodyEnd}
use Rattle.transcript.specs.Ends.{end_of, ends_of, ends_with}
use Rattle.transcript.specs.Lines.{Showing, showing}
use Rattle.transcript.specs.Results.{op_places}
use Rattle.transcript.proofs.EndsInOrder.{ends_at}
use Rattle.transcript.proofs.ShownLines.{matched}
use Rattle.run_audit.specs.AskedLines.{AskedLine, ShownPiece, asked_of, greeting_at, pieces_in, pieces_of}
use Rattle.run_audit.specs.AskedLines.{pieces_shown, pieces_unless, with_places}
use Rattle.run_audit.specs.Places.{IsPartial}
use Rattle.audit_laws.proofs.ToldLines.{IsTold, IsAskedFor, told_of, told_unless}
use Rattle.audit_laws.proofs.LinePlaces.{HasOwnPlace, IsPieceIn, IsShownIn, nothing_shown, piece_shown, places_own}

-- ---- the places of a run

abbrev pub place_in_part : ClientPart → ℕ → Option ℕ
place_in_part part body = option_and_then place_of (slice_get part.outcomes body)

-- the place of a body of a client
abbrev pub place_in_parts : List ClientPart → ℕ → ℕ → Option ℕ
place_in_parts parts client body =
    option_and_then (λ (part : ClientPart). place_in_part part body) (slice_get parts client)

abbrev pub place_in_run : BoardRun → ℕ → ℕ → Option ℕ
place_in_run run client body = place_in_parts run.parts client body

-- the piece is shown with the place of its body, and its number there, from 1; only a live board has places
pub record IsPlacedIn (run : BoardRun) (shown : ShownPiece) : Type 0 where
  pub payload : ℕ
  pub live : run.greeting ≡ Live payload
  pub placed' : place_in_run run shown.client shown.body ≡ Some shown.place
  pub transaction' : shown.transaction ≡ shown.index + 1

-- The run is of the board at this position: it has an outcome for each body that is planned, and where the board is live
-- it told the packets that its document has.
pub record IsBoardRun (boards : List BoardSpec) (scripts : List (List Step)) (board : ℕ) (run : BoardRun) : Type 0 where
  pub planned : IsPlanned board scripts run
  pub shape : map length (outcomes_by_client run) ≡ map length (bodies_by_client run)
  pub greeted : (payload : ℕ) → run.greeting ≡ Live payload → greeting_at boards board ≡ Live payload

-- ---- lists

module _ {S T : Type 0} where
  -- what holds of all that each element gives
  all_flat : (P : S → Type 0) (Q : T → Type 0) (f : S → List T) (xs : List S)
      → ((x : S) → P x → AllByRecursion Q (f x)) → AllByRecursion P xs → AllByRecursion Q (flat_map f xs)
  all_flat P Q f [] each all = tt
  all_flat P Q f (x ∷ xs) each all =
      AllByRecursion-append Q (f x) (flat_map f xs) (each x all.0) (all_flat P Q f xs each all.1)

  -- what holds of some of what one of them gives
  any_flat : (Q : T → Type 0) (f : S → List T) (xs : List S) (k : ℕ) (x : S) → slice_get xs k ≡ Some x
      → Any Q (f x) → Any Q (flat_map f xs)
  any_flat Q f [] k x at any = absurd cc
  any_flat Q f (y ∷ xs) zero x at any =
      any_front Q (f y) (flat_map f xs) (subst (λ z. Any Q (f z)) (sym (same_Some y x at)) any)
  any_flat Q f (y ∷ xs) (suc k) x at any = any_back Q (f y) (flat_map f xs) (any_flat Q f xs k x at any)

-- ---- bodies and their ends

end_place : (bodies : List (List ℕ)) (outcomes : List Outcome) (lates : List (Option (List ℕ))) (k : ℕ) (end : BodyEnd)
    → slice_get (ends_with bodies outcomes lates) k ≡ Some end
    → option_and_then place_of (slice_get outcomes k) ≡ end.place
end_place [] outcomes lates k end at = absurd cc
end_place (b ∷ bodies) [] lates k end at = absurd cc
end_place (b ∷ bodies) (o ∷ outcomes) lates zero end at =
    ap (λ (e : BodyEnd). e.place) (same_Some (end_of b o (get_or lates 0 None)) end at)
end_place (b ∷ bodies) (o ∷ outcomes) lates (suc k) end at = end_place bodies outcomes (drop 1 lates) k end at

pub shape_at : (parts : List ClientPart) (k : ℕ) (part : ClientPart)
    → map length (map (λ (p : ClientPart). p.outcomes) parts)
    ≡ map length (map (λ (p : ClientPart). p.planned.bodies) parts) → slice_get parts k ≡ Some part
    → length part.outcomes ≡ length part.planned.bodies
shape_at [] k part shape at = absurd cc
shape_at (p ∷ parts) zero part shape at =
    let here : length p.outcomes ≡ length p.planned.bodies = cc in
    subst (λ (q : ClientPart). length q.outcomes ≡ length q.planned.bodies) (same_Some p part at) here
shape_at (p ∷ parts) (suc k) part shape at =
    let rest : map length (map (λ (q : ClientPart). q.outcomes) parts)
    ≡ map length (map (λ (q : ClientPart). q.planned.bodies) parts) = cc in
    shape_at parts k part rest at

-- ---- the line of an operation on a board

module _ (boards : List BoardSpec) (scripts : List (List Step)) (runs : List BoardRun) (board : ℕ) (run : BoardRun)
    (there : slice_get runs board ≡ Some run) (is : IsBoardRun boards scripts board run) where
  -- the line tells of these pieces of what its client asked
  record TellsPieces (asking : AskedLine) (part : ClientPart) (pieces : List PieceAt) : Type 0 where
    payload : ℕ
    live : run.greeting ≡ Live payload
    part_at : slice_get run.parts asking.client ≡ Some part
    pieces' : pieces_of boards scripts asking ≡ pieces
    places' : asking.shows.1 ≡ op_places (ends_of part) pieces

  module _ (asking : AskedLine) (told : IsTold runs asking) (here : asking.ask.op.board ≡ board) where
    shows_run : asking.shows ≡ told_of run asking
    shows_run =
        let same : told.run ≡ run =
        same_Some told.run run (sym told.there ∙ ap (λ b. slice_get runs b) here ∙ there) in
        told.shows' ∙ ap (λ (r : BoardRun). told_of r asking) same

    planned_at : (payload : ℕ) (part : ClientPart) → run.greeting ≡ Live payload
        → slice_get run.parts asking.client ≡ Some part → asked_of boards scripts board asking.client ≡ part.planned
    planned_at payload part live at =
        let steps = matched (λ (p : ClientPart). p.planned) (planned_on board run.greeting) run.parts scripts
        asking.client part is.planned at in
        ap (λ (found : Option (List Step)). planned_on board (greeting_at boards board) (unwrap_or found [])) steps.1
        ∙ ap (λ g. planned_on board g steps.0) (is.greeted payload live ∙ sym live) ∙ sym steps.2

    tells_pieces : (payload : ℕ) (part : ClientPart) (pieces : List PieceAt) → asking.ask.denied ≡ None
        → run.greeting ≡ Live payload → slice_get run.parts asking.client ≡ Some part
        → slice_get part.planned.pieces asking.number ≡ Some pieces → TellsPieces asking part pieces
    tells_pieces payload part pieces allowed live at found = record {
      payload = payload;
      live = live;
      part_at = at;
      pieces' =
          ap (λ d. pieces_unless d
          (unwrap_or (slice_get (asked_of boards scripts asking.ask.op.board asking.client).pieces asking.number) []))
          allowed
          ∙ ap (λ b. unwrap_or (slice_get (asked_of boards scripts b asking.client).pieces asking.number) []) here
          ∙ ap (λ (all : ClientBodies). unwrap_or (slice_get all.pieces asking.number) [])
          (planned_at payload part live at)
          ∙ ap (λ (o : Option (List PieceAt)). unwrap_or o []) found;
      places' =
          let shows : (showing run asking.client asking.number asking.ask.op).1 ≡ op_places (ends_of part) pieces =
          rw live (rw at (rw found refl)) in
          ap (λ (s : Showing). s.1)
          (shows_run ∙ ap (λ d. told_unless d (showing run asking.client asking.number asking.ask.op)) allowed) ∙ shows;
    }

    -- ---- it tells of pieces, or it has no place

    abbrev Tells : Type 0
    Tells =
        (asking.shows.1 ≡ []) ⊎ ((part : ClientPart) × (pieces : List PieceAt) × TellsPieces asking part pieces)

    places_allowed : asking.ask.denied ≡ None
        → asking.shows.1 ≡ (showing run asking.client asking.number asking.ask.op).1
    places_allowed allowed =
        ap (λ (s : Showing). s.1)
        (shows_run ∙ ap (λ d. told_unless d (showing run asking.client asking.number asking.ask.op)) allowed)

    tells_found : (payload : ℕ) (part : ClientPart) (found : Option (List PieceAt)) → asking.ask.denied ≡ None
        → run.greeting ≡ Live payload → slice_get run.parts asking.client ≡ Some part
        → slice_get part.planned.pieces asking.number ≡ found → Tells
    tells_found payload part None allowed live at found =
        let shows : (showing run asking.client asking.number asking.ask.op).1 ≡ [] = rw live (rw at (rw found refl)) in
        inl (places_allowed allowed ∙ shows)
    tells_found payload part (Some pieces) allowed live at found =
        inr (part, pieces, tells_pieces payload part pieces allowed live at found)

    tells_part : (payload : ℕ) (found : Option ClientPart) → asking.ask.denied ≡ None → run.greeting ≡ Live payload
        → slice_get run.parts asking.client ≡ found → Tells
    tells_part payload None allowed live at =
        let shows : (showing run asking.client asking.number asking.ask.op).1 ≡ [] = rw live (rw at refl) in
        inl (places_allowed allowed ∙ shows)
    tells_part payload (Some part) allowed live at =
        tells_found payload part (slice_get part.planned.pieces asking.number) allowed live at refl

    tells_by : (greeting : Greeting) → asking.ask.denied ≡ None → run.greeting ≡ greeting → Tells
    tells_by (Live payload) allowed live =
        tells_part payload (slice_get run.parts asking.client) allowed live refl
    tells_by Silent allowed silent =
        let shows : (showing run asking.client asking.number asking.ask.op).1 ≡ [] = rw silent refl in
        inl (places_allowed allowed ∙ shows)
    tells_by Down allowed down =
        let shows : (showing run asking.client asking.number asking.ask.op).1 ≡ [] = rw down refl in
        inl (places_allowed allowed ∙ shows)

    tells_unless : (denied : Option ℕ) → asking.ask.denied ≡ denied → Tells
    tells_unless None allowed = tells_by run.greeting allowed refl
    tells_unless (Some rule) denied =
        inl (ap (λ (s : Showing). s.1)
        (shows_run ∙ ap (λ d. told_unless d (showing run asking.client asking.number asking.ask.op)) denied))

    -- ---- all places or none

    all_or_none : (IsPartial boards scripts asking → ⊥) → (places : List (ℕ × ℕ)) → asking.shows.1 ≡ places
        → (places ≡ []) ⊎ (length (pieces_of boards scripts asking) ≤ length places)
    all_or_none whole [] shows = inl refl
    all_or_none whole (at ∷ places) shows =
        elim (cases_lt (length (at ∷ places)) (length (pieces_of boards scripts asking))) [
          | inl less ↦ absurd (whole (record {
            some = λ none. (let no : at ∷ places ≡ [] = sym shows ∙ none in cc);
            not_all = subst (λ (ps : List (ℕ × ℕ)). length ps < length (pieces_of boards scripts asking)) (sym shows)
                less;
          }))
          | inr more ↦ inr more
        ]

    module _ (part : ClientPart) (pieces : List PieceAt) (tells : TellsPieces asking part pieces) where
      tells_all : (IsPartial boards scripts asking → ⊥)
          → (op_places (ends_of part) pieces ≡ []) ⊎ (length pieces ≤ length (op_places (ends_of part) pieces))
      tells_all whole = elim (all_or_none whole (op_places (ends_of part) pieces) tells.places') [
        | inl none ↦ inl none
        | inr all ↦ inr (rw tells.pieces' at all)
      ]

      -- the pieces of the line are those that it tells of
      same_pieces : with_places asking (pieces_of boards scripts asking) asking.shows.1
          ≡ with_places asking pieces (op_places (ends_of part) pieces)
      same_pieces =
          ap (λ (ps : List PieceAt). with_places asking ps asking.shows.1) tells.pieces'
          ∙ ap (λ (places : List (ℕ × ℕ)). with_places asking pieces places) tells.places'

      own_placed : (shown : ShownPiece) → HasOwnPlace (ends_of part) asking shown → IsPlacedIn run shown
      own_placed shown own = record {
        payload = tells.payload;
        live = tells.live;
        placed' =
            ap (λ c. place_in_run run c shown.body) own.client'
            ∙ ap (λ (o : Option ClientPart). option_and_then (λ (p : ClientPart). place_in_part p shown.body) o)
            tells.part_at
            ∙ end_place part.planned.bodies part.outcomes part.lates shown.body own.end own.there ∙ own.placed';
        transaction' = own.transaction';
      }

      line_shows : (IsPartial boards scripts asking → ⊥) → (body : ℕ) (end : BodyEnd) (place : ℕ)
          → slice_get (ends_of part) body ≡ Some end → end.place ≡ Some place → Any (IsPieceIn body) pieces
          → Any (IsShownIn asking.client body) (with_places asking (pieces_of boards scripts asking) asking.shows.1)
      line_shows whole body end place at has any =
          subst (Any (IsShownIn asking.client body)) (sym same_pieces)
          (piece_shown (ends_of part) asking pieces (tells_all whole) body end place at has any)

    line_placed : (IsPartial boards scripts asking → ⊥)
        → AllByRecursion (IsPlacedIn run) (with_places asking (pieces_of boards scripts asking) asking.shows.1)
    line_placed whole = elim (tells_unless asking.ask.denied refl) [
      | inl none ↦ subst (AllByRecursion (IsPlacedIn run))
          (sym (ap (with_places asking (pieces_of boards scripts asking)) none
          ∙ nothing_shown asking (pieces_of boards scripts asking))) tt
      | inr (part, pieces, tells) ↦ subst (AllByRecursion (IsPlacedIn run)) (sym (same_pieces part pieces tells))
          (all-map (HasOwnPlace (ends_of part) asking) (IsPlacedIn run) _ (own_placed part pieces tells)
          (places_own (ends_of part) asking pieces (tells_all part pieces tells whole)))
    ]

  -- ---- all lines

  -- what a line is told of, where it is not partial
  abbrev IsWhole : AskedLine → Type 0
  IsWhole asking = IsTold runs asking × (IsPartial boards scripts asking → ⊥)

  pub lines_placed : (lines : List AskedLine) → AllByRecursion IsWhole lines
      → AllByRecursion (IsPlacedIn run) (pieces_shown boards scripts board lines)
  lines_placed lines all =
      all_flat IsWhole (IsPlacedIn run) (pieces_in boards scripts board) lines
      (λ asking whole. either (AllByRecursion (IsPlacedIn run)) (asking.ask.op.board == board)
      (with_places asking (pieces_of boards scripts asking) asking.shows.1) []
      (λ e. line_placed asking whole.0 (eqb-true asking.ask.op.board board e) whole.1) (λ _. tt)) all

  lines_show : (lines : List AskedLine) (k : ℕ) (asking : AskedLine) (body : ℕ) → slice_get lines k ≡ Some asking
      → asking.ask.op.board ≡ board
      → Any (IsShownIn asking.client body) (with_places asking (pieces_of boards scripts asking) asking.shows.1)
      → Any (IsShownIn asking.client body) (pieces_shown boards scripts board lines)
  lines_show lines k asking body at here any =
      any_flat (IsShownIn asking.client body) (pieces_in boards scripts board) lines k asking at
      (rw (eq-eqb asking.ask.op.board board here) any)

  -- ---- each body with a place is shown

  module _ (law : BodiesHavePieces) (lines : List AskedLine) (all : AllByRecursion IsWhole lines)
      (each : (client : ℕ) (steps : List Step) (number : ℕ) → slice_get scripts client ≡ Some steps
      → number < count_on board (operations steps) → Any (IsAskedFor client board number) lines) where
    operation_shown : (payload client number : ℕ) (part : ClientPart) (pieces : List PieceAt) (body : ℕ)
        (end : BodyEnd) (place k : ℕ) (asking : AskedLine) → slice_get lines k ≡ Some asking
        → IsAskedFor client board number asking → run.greeting ≡ Live payload → slice_get run.parts client ≡ Some part
        → slice_get part.planned.pieces number ≡ Some pieces → slice_get (ends_of part) body ≡ Some end
        → end.place ≡ Some place → Any (IsPieceIn body) pieces
        → Any (IsShownIn client body) (pieces_shown boards scripts board lines)
    operation_shown payload client number part pieces body end place k asking line asked live at found ended has any =
        let whole : IsWhole asking = all_at IsWhole lines k asking line all in
        let tells = tells_pieces asking whole.0 asked.board' payload part pieces asked.allowed' live
        (ap (λ c. slice_get run.parts c) asked.client' ∙ at)
        (ap (λ n. slice_get part.planned.pieces n) asked.number' ∙ found) in
        subst (λ c. Any (IsShownIn c body) (pieces_shown boards scripts board lines)) asked.client'
        (lines_show lines k asking body line asked.board'
        (line_shows asking whole.0 asked.board' part pieces tells whole.1 body end place ended has any))

    pieces_are_shown : (payload client number : ℕ) (part : ClientPart) (pieces : List PieceAt) (steps : List Step)
        (body : ℕ) (end : BodyEnd) (place : ℕ) → run.greeting ≡ Live payload → slice_get run.parts client ≡ Some part
        → slice_get scripts client ≡ Some steps → part.planned ≡ all_dispatches (plan payload board steps)
        → slice_get part.planned.pieces number ≡ Some pieces → slice_get (ends_of part) body ≡ Some end
        → end.place ≡ Some place → Any (IsPieceIn body) pieces
        → Any (IsShownIn client body) (pieces_shown boards scripts board lines)
    pieces_are_shown payload client number part pieces steps body end place live at script planned found ended has any =
        let count : length part.planned.pieces ≡ count_on board (operations steps) =
        ap (λ (p : ClientBodies). length p.pieces) planned ∙ each_has_pieces payload board steps in
        let below : number < count_on board (operations steps) =
        omega (arith, count, slice_get_within part.planned.pieces number pieces found) in
        let line = at_any (IsAskedFor client board number) lines (each client steps number script below) in
        operation_shown payload client number part pieces body end place line.0 line.1 line.2 line.3 live at found ended
        has any

    live_shown : (payload client : ℕ) (part : ClientPart) (steps : List Step) (body : ℕ) (end : BodyEnd) (place : ℕ)
        → run.greeting ≡ Live payload → slice_get run.parts client ≡ Some part → slice_get scripts client ≡ Some steps
        → part.planned ≡ all_dispatches (plan payload board steps) → body < length part.planned.bodies
        → slice_get (ends_of part) body ≡ Some end → end.place ≡ Some place
        → Any (IsShownIn client body) (pieces_shown boards scripts board lines)
    live_shown payload client part steps body end place live at script planned within ended has =
        let piece : HasPiece body part.planned.pieces =
        subst (λ (p : ClientBodies). body < length p.bodies → HasPiece body p.pieces) (sym planned)
        (each_body law payload board steps body) within in
        let found = at_any (Any (IsPieceIn body)) part.planned.pieces piece in
        pieces_are_shown payload client found.0 part found.1 steps body end place live at script planned found.2 ended
        has found.3

    by_greeting : (client : ℕ) (part : ClientPart) (steps : List Step) (body : ℕ) (end : BodyEnd) (place : ℕ)
        (greeting : Greeting) → run.greeting ≡ greeting → slice_get run.parts client ≡ Some part
        → slice_get scripts client ≡ Some steps → part.planned ≡ planned_on board greeting steps
        → body < length part.planned.bodies → slice_get (ends_of part) body ≡ Some end → end.place ≡ Some place
        → Any (IsShownIn client body) (pieces_shown boards scripts board lines)
    by_greeting client part steps body end place (Live payload) live at script planned within ended has =
        live_shown payload client part steps body end place live at script planned within ended has
    by_greeting client part steps body end place Silent silent at script planned within ended has =
        absurd (omega (arith, ap (λ (p : ClientBodies). length p.bodies) planned))
    by_greeting client part steps body end place Down down at script planned within ended has =
        absurd (omega (arith, ap (λ (p : ClientBodies). length p.bodies) planned))

    outcome_shown : (client : ℕ) (part : ClientPart) (body : ℕ) (outcome : Outcome) (place : ℕ)
        → slice_get run.parts client ≡ Some part → slice_get part.outcomes body ≡ Some outcome
        → place_of outcome ≡ Some place → Any (IsShownIn client body) (pieces_shown boards scripts board lines)
    outcome_shown client part body outcome place at came has =
        let steps = matched (λ (p : ClientPart). p.planned) (planned_on board run.greeting) run.parts scripts client
        part is.planned at in
        let within : body < length part.planned.bodies =
        omega (
          arith,
          slice_get_within part.outcomes body outcome came,
          shape_at run.parts client part is.shape at,
        ) in
        by_greeting client part steps.0 body _ place run.greeting refl at steps.1 steps.2 within
        (ends_at part.planned.bodies part.outcomes part.lates body (get_or part.planned.bodies body []) outcome
        (slice_get-get_or part.planned.bodies body [] within) came) has

    part_shown : (client : ℕ) (part : ClientPart) (body : ℕ) (found : Option Outcome) (place : ℕ)
        → slice_get run.parts client ≡ Some part → slice_get part.outcomes body ≡ found
        → option_and_then place_of found ≡ Some place
        → Any (IsShownIn client body) (pieces_shown boards scripts board lines)
    part_shown client part body None place at came has = absurd cc
    part_shown client part body (Some outcome) place at came has =
        outcome_shown client part body outcome place at came has

    found_shown : (client body : ℕ) (found : Option ClientPart) (place : ℕ) → slice_get run.parts client ≡ found
        → option_and_then (λ (part : ClientPart). place_in_part part body) found ≡ Some place
        → Any (IsShownIn client body) (pieces_shown boards scripts board lines)
    found_shown client body None place at has = absurd cc
    found_shown client body (Some part) place at has =
        part_shown client part body (slice_get part.outcomes body) place at refl has

    pub placed_shown : (client body place : ℕ) → place_in_run run client body ≡ Some place
        → Any (IsShownIn client body) (pieces_shown boards scripts board lines)
    placed_shown client body place has = found_shown client body (slice_get run.parts client) place refl has
