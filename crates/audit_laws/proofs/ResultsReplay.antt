-- What the bodies of a client came to where its board is replayed, against what they came to.
use Rattle.std.proofs.Common.{◌≡◌, ℕ, zero, suc, ◌+◌, List, [], ◌∷◌, length, drop, get_or}
use Rattle.std.proofs.Common.{Option, Some, None, refl, sym, ap, ◌∙◌, subst, arith, eq-eqb}
use Rattle.std.specs.List.{AllByRecursion, slice_get}
use Rattle.std.proofs.lemmas.Bool.{ne_eqb}
use Rattle.std.proofs.lemmas.Option.{same_Some}
use Rattle.std.proofs.lemmas.List.{length-map}
use Rattle.board_bus.specs.Cells.{CellMap}
use Rattle.board_bus.specs.Bodies.{replay, run_body}
use Rattle.reply_join.specs.declared.answer.Answer.{Answer}
use Rattle.reply_join.specs.declared.answer.Answer.TheVariants as answer
use Rattle.reply_join.specs.ByWords.{answers}
use Rattle.lane_record.specs.declared.outcome.Outcome.{Outcome}
use Rattle.lane_record.specs.declared.outcome.Outcome.TheVariants.{Replied, TimedOut, Unsent, LinkLost}
use Rattle.lane_record.specs.Lists.{CountsFrom}
use Rattle.lane_record.specs.Outcomes.{place_of}
use Rattle.script_plans.specs.declared.planned.PieceAt.{PieceAt}
use Rattle.transcript.specs.Ends.{answer_result, ends_with, late_at, late_of, result_in, told_at, told_by, told_of}
use Rattle.board_history.specs.Order.{Placed, bodies_in, places_of}
use Rattle.board_history.specs.Parts.{AreBeside, IsLateReplyOf, IsReplyOf}
use Rattle.run_audit.specs.AskedLines.{ShownPiece}
use Rattle.run_audit.specs.Replay.{outcomes_from, place_shown, replied_at, reply_at, reply_in}
use Rattle.audit_laws.proofs.ResultsMatching.{Matches, PieceMatches}

-- ---- the reply at a place

replies_counted : (opening : CellMap) (bodies : List (List ℕ)) → length (replay opening bodies).replies ≡ length bodies
replies_counted opening [] = refl
replies_counted opening (body ∷ bodies) = ap suc (replies_counted (run_body opening body).cells bodies)

reply_found : (from place k : ℕ) (order : List Placed) (replies : List (List ℕ)) (words : List ℕ)
    → CountsFrom from (places_of order) → length replies ≡ length order → slice_get replies k ≡ Some words
    → place ≡ from + k → reply_at order replies place ≡ words
reply_found from place k [] [] words counts same there is = absurd cc
reply_found from place k [] (r ∷ replies) words counts same there is = absurd (omega (arith, same))
reply_found from place k (p ∷ order) [] words counts same there is = absurd cc
reply_found from place zero (p ∷ order) (r ∷ replies) words counts same there is =
    let here : p.place ≡ place = counts.0 ∙ omega (arith, is) in
    rw (eq-eqb p.place place here) (same_Some r words there)
reply_found from place (suc k) (p ∷ order) (r ∷ replies) words counts same there is =
    let away : p.place ≡ place → ⊥ = λ (e : p.place ≡ place). omega (arith, counts.0, is, e) in
    rw (ne_eqb p.place place away)
    (reply_found (from + 1) place k order replies words counts.1 (omega (arith, same)) there (omega (arith, is)))

-- places count from 1, so the reply to the body at a place is the reply of that number
pub reply_placed : (opening : CellMap) (order : List Placed) (place : ℕ) (words : List ℕ)
    → CountsFrom 1 (places_of order) → IsReplyOf (replay opening (bodies_in order)).replies (Replied place words)
    → reply_in opening order place ≡ words
reply_placed opening order zero words counts there = absurd cc
reply_placed opening order (suc k) words counts there =
    reply_found 1 (suc k) k order (replay opening (bodies_in order)).replies words counts
    (replies_counted opening (bodies_in order) ∙ length-map order (λ (p : Placed). p.body)) there (omega arith)

-- ---- what is told of a transaction

answered_matches : (one : Option Answer) → Matches (answer_result one) (answer_result one)
answered_matches None = refl
answered_matches (Some (answer.Values words)) = refl
answered_matches (Some answer.Done) = refl
answered_matches (Some (answer.Fault code after)) = refl
answered_matches (Some answer.Skipped) = refl

told_matches : (found : Option (List Answer)) (index : ℕ)
    → Matches (told_at (told_by found) index) (told_at (told_by found) index)
told_matches None index = refl
told_matches (Some list) index = answered_matches (slice_get list index)

late_matches : (found : Option (List Answer)) (index : ℕ) → late_at found index ≡ late_of (told_at (told_by found) index)
late_matches None index = refl
late_matches (Some list) index = refl

-- ---- a body

module _ (opening : CellMap) (order : List Placed) (counts : CountsFrom 1 (places_of order)) where
  abbrev Replies : List (List ℕ)
  Replies = (replay opening (bodies_in order)).replies

  body_matches : (body : List ℕ) (outcome : Outcome) (late : Option (List ℕ)) (index : ℕ) → IsReplyOf Replies outcome
      → IsLateReplyOf Replies outcome late
      → Matches (told_at (told_of body outcome late) index)
      (told_at (told_of body (replied_at opening order (place_of outcome)) None) index)
  body_matches body (Replied place words) late index reply right =
      subst (λ (ws : List ℕ). Matches (told_at (told_by (answers body words)) index)
      (told_at (told_by (answers body ws)) index)) (sym (reply_placed opening order place words counts reply))
      (told_matches (answers body words) index)
  body_matches body (TimedOut place rounds) None index reply right = tt
  body_matches body (TimedOut place rounds) (Some words) index reply right =
      subst (λ (ws : List ℕ). late_at (answers body words) index ≡ late_of (told_at (told_by (answers body ws)) index))
      (sym (reply_placed opening order place words counts right)) (late_matches (answers body words) index)
  body_matches body Unsent late index reply right = tt
  body_matches body (LinkLost place) late index reply right = tt

  -- what came late beside the first outcome, and beside those behind it
  late_first : (outcome : Outcome) (outcomes : List Outcome) (lates : List (Option (List ℕ)))
      → AreBeside (IsLateReplyOf Replies) (outcome ∷ outcomes) lates
      → IsLateReplyOf Replies outcome (get_or lates 0 None)
  late_first outcome outcomes [] right = tt
  late_first outcome outcomes (late ∷ lates) right = right.0

  late_rest : (outcome : Outcome) (outcomes : List Outcome) (lates : List (Option (List ℕ)))
      → AreBeside (IsLateReplyOf Replies) (outcome ∷ outcomes) lates
      → AreBeside (IsLateReplyOf Replies) outcomes (drop 1 lates)
  late_rest outcome outcomes [] right = tt
  late_rest outcome outcomes (late ∷ lates) right = right.1

  -- ---- the bodies of a client

  module _ (pieces : List ShownPiece) (client : ℕ) where
    -- the first place that is shown of each body from a number on is that of its outcome
    abbrev pub ArePlacedFrom : ℕ → List Outcome → Type 0
    ArePlacedFrom number outcomes = (j : ℕ) (outcome : Outcome) → slice_get outcomes j ≡ Some outcome
        → place_shown pieces client (number + j) ≡ place_of outcome

    end_matches : (number : ℕ) (bodies : List (List ℕ)) (outcomes : List Outcome) (lates : List (Option (List ℕ)))
        (k index : ℕ) → ArePlacedFrom number outcomes → AllByRecursion (IsReplyOf Replies) outcomes
        → AreBeside (IsLateReplyOf Replies) outcomes lates
        → Matches (result_in (slice_get (ends_with bodies outcomes lates) k) index)
        (result_in (slice_get (ends_with bodies (outcomes_from opening order pieces client number bodies) []) k) index)
    end_matches number [] outcomes lates k index placed replies right = tt
    end_matches number (body ∷ bodies) [] lates k index placed replies right = tt
    end_matches number (body ∷ bodies) (o ∷ outcomes) lates zero index placed replies right =
        let none : number + 0 ≡ number = omega arith in
        let here : place_of o ≡ place_shown pieces client number =
        sym (placed 0 o refl) ∙ ap (place_shown pieces client) none in
        subst (λ (place : Option ℕ). Matches (told_at (told_of body o (get_or lates 0 None)) index)
        (told_at (told_of body (replied_at opening order place) None) index)) here
        (body_matches body o (get_or lates 0 None) index replies.0 (late_first o outcomes lates right))
    end_matches number (body ∷ bodies) (o ∷ outcomes) lates (suc k) index placed replies right =
        end_matches (number + 1) bodies outcomes (drop 1 lates) k index
        (λ j outcome there.
        let next : number + suc j ≡ number + 1 + j = omega arith in
        ap (place_shown pieces client) (sym next) ∙ placed (suc j) outcome there)
        replies.1 (late_rest o outcomes lates right)

    -- So each piece came to what it would have come to.
    pub pieces_match : (bodies : List (List ℕ)) (outcomes : List Outcome) (lates : List (Option (List ℕ)))
        → ArePlacedFrom 0 outcomes → AllByRecursion (IsReplyOf Replies) outcomes
        → AreBeside (IsLateReplyOf Replies) outcomes lates → (at : List PieceAt)
        → AllByRecursion (PieceMatches (ends_with bodies outcomes lates)
        (ends_with bodies (outcomes_from opening order pieces client 0 bodies) [])) at
    pieces_match bodies outcomes lates placed replies right [] = tt
    pieces_match bodies outcomes lates placed replies right (p ∷ at) = (
      end_matches 0 bodies outcomes lates p.body p.index placed replies right,
      pieces_match bodies outcomes lates placed replies right at,
    )
