-- THE PLACES AND THE COUNTS OF WHAT A RUN PRINTS HOLD, where no line shows some of its places and not all.
use Rattle.std.proofs.Common.{◌≡◌, ℕ, suc, zero, ◌+◌, ◌≤◌, List, [], ◌∷◌, length, map, Some}
use Rattle.std.proofs.Common.{refl, sym, ap, subst, ◌∙◌, inl, inr, arith}
use Rattle.std.specs.List.{AllByRecursion, Any, count_by, slice_get}
use Rattle.std.proofs.lemmas.Option.{same_Some}
use Rattle.ipb_base.proofs.AllLemmas.{back_of_all, front_of_all}
use Rattle.mtu_packer.proofs.AnyLemmas.{any_at, any_map, at_any}
use Rattle.script_steps.specs.declared.operation.Step.{Step}
use Rattle.script_lang.specs.declared.session.Session.{Session}
use Rattle.script_plans.specs.declared.greeting.Greeting.{Greeting}
use Rattle.script_plans.specs.declared.greeting.Greeting.TheVariants.{Live, Silent, Down}
use Rattle.script_plans.specs.declared.board_run.BoardRun.{BoardRun}
use Rattle.script_plans.specs.Runs.{outcomes_on}
use Rattle.script_plans.proofs.EachBody.{BodiesHavePieces}
use Rattle.script_plans.proofs.Lookups.{all_at}
use Rattle.lane_record.specs.declared.outcome.Outcome.{Outcome}
use Rattle.lane_record.specs.Outcomes.{is_replied, is_sent, is_timed_out}
use Rattle.transcript.specs.declared.line.BoardLine.{BoardLine}
use Rattle.transcript.specs.Lines.{board_line, is_lost, transcript_of}
use Rattle.transcript.specs.Shown.{places_told}
use Rattle.board_history.specs.History.{bodies_by_client, outcomes_by_client}
use Rattle.board_history.specs.Order.{order}
use Rattle.board_history.specs.Links.{LinkReport}
use Rattle.run_audit.specs.AskedLines.{ShownPiece}
use Rattle.run_audit.specs.Counts.{IsMiscounted, IsMiscountedAt, distinct}
use Rattle.run_audit.specs.Places.{Disagree, HasMisplaced, IsMisplaced, IsMisplacedAt, IsPartialAt}
use Rattle.audit_laws.specs.Audited.{IsToldRun, shown_of}
use Rattle.audit_laws.proofs.Distinct.{all_distinct}
use Rattle.audit_laws.proofs.LinePlaces.{IsShownIn}
use Rattle.audit_laws.proofs.Placed.{IsPlacedIn, place_in_run, is_ordered, keeps_scripts, pieces_are_placed}
use Rattle.audit_laws.proofs.Placed.{pieces_of_board, placed_is_shown}
use Rattle.audit_laws.proofs.RunPlaces.{place_between, place_found, place_once, place_rises}

-- ---- what laws of lower crates say

-- the first sends of the line of a board are the bodies of its order
abbrev pub SendsAreTheOrder : Type 0
SendsAreTheOrder =
    (run : BoardRun) → map length (outcomes_by_client run) ≡ map length (bodies_by_client run)
    → count_by is_sent (outcomes_on run) ≡ length (order (bodies_by_client run) (outcomes_by_client run))

-- and each was replied to, timed out, or lost with the link
abbrev pub SendsAddUp : Type 0
SendsAddUp =
    (outcomes : List Outcome) → count_by is_sent outcomes
    ≡ (count_by is_replied outcomes + count_by is_timed_out outcomes) + count_by is_lost outcomes

-- ---- the line of a board

-- the board of a line of a run
board_at : (runs : List BoardRun) (board : ℕ) (told : BoardLine) → slice_get (map board_line runs) board ≡ Some told
    → (run : BoardRun) × (slice_get runs board ≡ Some run) × (board_line run ≡ told)
board_at [] board told at = absurd cc
board_at (run ∷ runs) zero told at = (run, refl, same_Some (board_line run) told at)
board_at (run ∷ runs) (suc board) told at = board_at runs board told at

told_live : (run : BoardRun) (payload : ℕ) → run.greeting ≡ Live payload
    → places_told (board_line run) ≡ count_by is_sent (outcomes_on run)
told_live run payload live = rw live refl

-- a piece that is shown of a body has its place
same_place : (run : BoardRun) (piece : ShownPiece) (place client body : ℕ) → IsPlacedIn run piece
    → place_in_run run client body ≡ Some place → IsShownIn client body piece → piece.place ≡ place
same_place run piece place client body placed is shown =
    same_Some piece.place place
    (sym placed.placed' ∙ ap (λ c. place_in_run run c piece.body) shown.0
    ∙ ap (λ b. place_in_run run client b) shown.1 ∙ is)

module _ (body_law : BodiesHavePieces) (order_law : SendsAreTheOrder) (sum_law : SendsAddUp) (session : Session)
    (steps : List (List Step)) (runs : List BoardRun) (links : List LinkReport)
    (told : IsToldRun session steps runs links)
    (whole : (line : ℕ) → IsPartialAt session.boards steps (shown_of (transcript_of steps runs)) line → ⊥) where
  module _ (board : ℕ) (run : BoardRun) (there : slice_get runs board ≡ Some run) where
    abbrev sent : ℕ
    sent = count_by is_sent (outcomes_on run)

    abbrev pieces : List ShownPiece
    pieces = pieces_of_board session steps runs links told board

    sent_in_order : sent ≡ length (order (bodies_by_client run) (outcomes_by_client run))
    sent_in_order = order_law run (is_ordered session steps runs links told board run there).shape

    all_placed : AllByRecursion (IsPlacedIn run) pieces
    all_placed = pieces_are_placed session steps runs links told body_law whole board run there

    within : (client body place : ℕ) → place_in_run run client body ≡ Some place → (1 ≤ place) × (place ≤ sent)
    within client body place is =
        let ordered = is_ordered session steps runs links told board run there in
        let both = place_between run.parts ordered.shape client body place ordered.one_order is in
        (both.0, omega (arith, both.1, sent_in_order))

    -- ---- places

    well_placed : (piece : ShownPiece) → IsPlacedIn run piece → IsMisplaced (places_told (board_line run)) piece → ⊥
    well_placed piece placed (inl transaction) = transaction placed.transaction'
    well_placed piece placed (inr (inl none)) =
        omega (arith, (within piece.client piece.body piece.place placed.placed').0)
    well_placed piece placed (inr (inr high)) =
        omega (
          arith,
          (within piece.client piece.body piece.place placed.placed').1,
          told_live run placed.payload placed.live,
        )

    agree : (earlier later : ShownPiece) → IsPlacedIn run earlier → IsPlacedIn run later → Disagree earlier later → ⊥
    agree earlier later first second (inl (same, apart)) =
        apart (same_place run earlier later.place later.client later.body first second.placed' same)
    agree earlier later first second (inr (inl (apart, same))) =
        let ordered = is_ordered session steps runs links told board run there in
        apart (place_once run.parts ordered.shape earlier.client later.client earlier.body later.body later.place
        ordered.one_order (first.placed' ∙ ap (λ n. Some n) same) second.placed')
    agree earlier later first second (inr (inr (client, less, falls))) =
        let ordered = is_ordered session steps runs links told board run there in
        let rises = place_rises run.parts ordered.shape later.client earlier.body later.body earlier.place later.place
        (keeps_scripts session steps runs links told board run there first.payload first.live) less
        (ap (λ c. place_in_run run c earlier.body) (sym client) ∙ first.placed') second.placed' in
        omega (arith, rises, falls)

    none_misplaced : (line : ℕ) → HasMisplaced (places_told (board_line run)) pieces line → ⊥
    none_misplaced line has =
        let all = subst (AllByRecursion (IsPlacedIn run)) has.all all_placed in
        let front = front_of_all (IsPlacedIn run) has.before (has.piece ∷ has.behind) all in
        let here = (back_of_all (IsPlacedIn run) has.before (has.piece ∷ has.behind) all).0 in
        elim has.wrong [
          | inl misplaced ↦ well_placed has.piece here misplaced
          | inr some ↦
              let earlier = at_any (λ earlier. Disagree earlier has.piece) has.before some in
              agree earlier.1 has.piece
              (all_at (IsPlacedIn run) has.before earlier.0 earlier.1 earlier.2 front) here earlier.3
        ]

    -- ---- counts

    abbrev places : List ℕ
    places = map (λ (piece : ShownPiece). piece.place) pieces

    all_within : (ps : List ShownPiece) → AllByRecursion (IsPlacedIn run) ps
        → AllByRecursion (λ n. (1 ≤ n) × (n ≤ sent)) (map (λ (piece : ShownPiece). piece.place) ps)
    all_within [] all = tt
    all_within (p ∷ ps) all = (within p.client p.body p.place all.0.placed', all_within ps all.1)

    piece_there : (n client body : ℕ) → place_in_run run client body ≡ Some n → Any (IsShownIn client body) pieces
        → Any (λ m. m ≡ n) places
    piece_there n client body is any =
        let shown = at_any (IsShownIn client body) pieces any in
        let placed = all_at (IsPlacedIn run) pieces shown.0 shown.1 shown.2 all_placed in
        any_map (λ m. m ≡ n) (λ (piece : ShownPiece). piece.place) pieces
        (any_at (λ (piece : ShownPiece). piece.place ≡ n) pieces shown.0 shown.1 shown.2
        (same_place run shown.1 n client body placed is shown.3))

    each_shown : (n : ℕ) → 1 ≤ n → n ≤ sent → Any (λ m. m ≡ n) places
    each_shown n low high =
        let ordered = is_ordered session steps runs links told board run there in
        let body = place_found run.parts ordered.shape n ordered.one_order low (omega (arith, sent_in_order)) in
        piece_there n body.0 body.1 body.2
        (placed_is_shown session steps runs links told body_law whole board run there body.0 body.1 n body.2)

    distinct_places : distinct places ≡ sent
    distinct_places = all_distinct sent places (all_within pieces all_placed) each_shown

    counted_by : (greeting : Greeting) → run.greeting ≡ greeting → IsMiscounted pieces (board_line run) → ⊥
    counted_by (Live payload) live = rw live (λ wrong. elim wrong [
      | inl places' ↦ places' distinct_places
      | inr sum ↦ sum (sum_law (outcomes_on run))
    ])
    counted_by Silent silent = rw silent (λ wrong. wrong)
    counted_by Down down = rw down (λ wrong. wrong)

  pub places_hold : (line : ℕ) → IsMisplacedAt session.boards steps (shown_of (transcript_of steps runs)) line → ⊥
  places_hold line at =
      let run = board_at runs at.board at.told at.there in
      none_misplaced at.board run.0 run.1 line
      (subst (λ (shown : BoardLine). HasMisplaced (places_told shown)
      (pieces_of_board session steps runs links told at.board) line) (sym run.2) at.misplaced)

  pub counts_hold : (line : ℕ) → IsMiscountedAt session.boards steps (shown_of (transcript_of steps runs)) line → ⊥
  counts_hold line at =
      let run = board_at runs at.board at.told at.there in
      counted_by at.board run.0 run.1 run.0.greeting refl
      (subst (λ (shown : BoardLine). IsMiscounted (pieces_of_board session steps runs links told at.board) shown)
      (sym run.2) at.miscounted)
