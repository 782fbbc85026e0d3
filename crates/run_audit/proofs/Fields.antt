-- Results that are compared.
use Rattle.std.proofs.Common.{◌≡◌, ◌≢◌, ◌↔◌, ◌<◌, ◌≤◌, ◌+◌, ◌++◌, ℕ, zero, suc, Bool, true, false, List, [], ◌∷◌, get_or, drop, length, map}
use Rattle.std.proofs.Common.{Option, Some, None, ap, arith, inl, inr, refl, sym, subst}
use Rattle.std.specs.Prelude.{◌&&◌}
use Rattle.std.specs.List.{list_all}
use Rattle.std.proofs.lemmas.List.{drop_more}
use Rattle.masked_fields.specs.Field.{field}
use Rattle.script_steps.specs.declared.operation.RegOp.{RegOp}
use Rattle.script_plans.specs.declared.planned.PieceAt.{PieceAt}
use Rattle.transcript.specs.declared.body_end.BodyEnd.{BodyEnd}
use Rattle.transcript.specs.declared.line.LateAnswer.{LateAnswer}
use Rattle.transcript.specs.declared.line.LateAnswer.TheVariants as late_answer
use Rattle.reply_join.specs.declared.answer.Answer.{Answer}
use Rattle.reply_join.specs.ByWords.{answers}
use Rattle.lane_record.specs.declared.outcome.Outcome.{Outcome}
use Rattle.lane_record.specs.declared.outcome.Outcome.TheVariants as became
use Rattle.transcript.specs.Ends.{ends_with, piece_result, told_by, told_of}
use Rattle.transcript.specs.Results.{is_good}
use Rattle.run_audit.specs.Agreeing.{AnswersOne, HaveNoLate, IsNotLate, shown_of}
use Rattle.run_audit.specs.Results.{IsLateAnswer}
use Rattle.run_audit.proofs.Replays.{all_dropped}

-- ---- fields of words

abbrev pub fields : ℕ → List ℕ → List ℕ
fields mask words = map (λ word. field word mask) words

pub all_fields : (mask : ℕ) (told words : List ℕ) → length told ≡ length words
    → ((k : ℕ) → k < length words → get_or told k 0 ≡ field (get_or words k 0) mask) → told ≡ fields mask words
all_fields mask [] [] long same = refl
all_fields mask [] (word ∷ words) long same = absurd (omega arith)
all_fields mask (first ∷ told) [] long same = absurd (omega arith)
all_fields mask (first ∷ told) (word ∷ words) long same =
    let here : first ≡ field word mask = same 0 (omega arith) in
    let rest = all_fields mask told words (omega arith) (λ k within. same (suc k) (omega arith)) in
    cc

pub field_at : (mask : ℕ) (words : List ℕ) (k : ℕ) → k < length words
    → get_or (fields mask words) k 0 ≡ field (get_or words k 0) mask
field_at mask [] k within = absurd (omega arith)
field_at mask (word ∷ words) zero within = refl
field_at mask (word ∷ words) (suc k) within = field_at mask words k (omega arith)

pub fields_long : (mask : ℕ) (words : List ℕ) → length (fields mask words) ≡ length words
fields_long mask [] = refl
fields_long mask (word ∷ words) = ap suc (fields_long mask words)

-- ---- late answers

both_true : {A : Type 0} (a b : Bool) → (a && b) ≡ true → (a ≡ true → b ≡ true → A) → A
both_true true b both f = f refl both
both_true false b both f = absurd cc

module _ (ends : List BodyEnd) (op : RegOp) (answer : LateAnswer) where
  abbrev pub Answers : List PieceAt → Type 0
  Answers pieces = AnswersOne ends op answer pieces

  pub answered_here : (pieces : List PieceAt) (i : ℕ) (d : PieceAt) → i < length pieces
      → answer ≡ shown_of op (piece_result ends (get_or pieces i d)) → Answers (drop i pieces)
  answered_here pieces i d within same = rw (drop_more pieces i d within) (inl same)

  pub stuck_here : (pieces : List PieceAt) (i : ℕ) (d : PieceAt) → i < length pieces
      → (answer ≡ shown_of op (piece_result ends (get_or pieces i d)) → ⊥)
      → is_good (piece_result ends (get_or pieces i d)) ≡ false → Answers (drop i pieces) → ⊥
  stuck_here pieces i d within other bad some =
      let all : Answers (get_or pieces i d ∷ drop (i + 1) pieces) = subst Answers (drop_more pieces i d within) some in
      elim all [ inl same ↦ other same | inr later ↦ absurd (let e = later.0 in cc) ]

  pub goes_on : (pieces : List PieceAt) (i : ℕ) (d : PieceAt) → i < length pieces
      → (answer ≡ shown_of op (piece_result ends (get_or pieces i d)) → ⊥)
      → is_good (piece_result ends (get_or pieces i d)) ≡ true → Answers (drop i pieces) ↔ Answers (drop (i + 1) pieces)
  goes_on pieces i d within other good =
      rw (drop_more pieces i d within)
      (λ some. elim some [ inl same ↦ absurd (other same) | inr later ↦ later.1 ], λ some. inr (good, some))

  pub none_left : (pieces : List PieceAt) (i : ℕ) → length pieces ≤ i → Answers (drop i pieces) → ⊥
  none_left pieces i past some = subst Answers (all_dropped pieces i past) some

  -- the answer is that of one piece behind others that are done
  split : (pieces : List PieceAt) → Answers pieces → (before : List PieceAt) × (piece : PieceAt) × (behind : List PieceAt)
      × (pieces ≡ before ++ piece ∷ behind) × (list_all is_good (map (piece_result ends) before) ≡ true)
      × (answer ≡ shown_of op (piece_result ends piece))
  split [] some = absurd some
  split (piece ∷ pieces) (inl same) = ([], piece, pieces, refl, refl, same)
  split (piece ∷ pieces) (inr (good, later)) =
      let found = split pieces later in
      (piece ∷ found.0, found.1, found.2, ap (λ rest. piece ∷ rest) found.3, rw (good, found.4), found.5)

  joined_split : (before : List PieceAt) (piece : PieceAt) (behind : List PieceAt)
      → list_all is_good (map (piece_result ends) before) ≡ true → answer ≡ shown_of op (piece_result ends piece)
      → Answers (before ++ piece ∷ behind)
  joined_split [] piece behind done same = inl same
  joined_split (first ∷ before) piece behind done same =
      inr (both_true (is_good (piece_result ends first)) (list_all is_good (map (piece_result ends) before)) done
      (λ good rest. (good, joined_split before piece behind rest same)))

  pub late_is : (pieces : List PieceAt) → answer ≢ late_answer.Garbled
      → Answers pieces ↔ IsLateAnswer ends op pieces answer
  late_is pieces joined = (
    λ some. let found = split pieces some in record {
      before = found.0;
      piece = found.1;
      behind = found.2;
      all = found.3;
      done = found.4;
      same = found.5;
      joined = joined;
    },
    λ late. subst Answers (sym late.all) (joined_split late.before late.piece late.behind late.done late.same),
  )

pub not_true : false ≡ true → ⊥
not_true e = cc

-- ---- ends

no_late_told : (found : Option (List Answer)) → IsNotLate (told_by found)
no_late_told None = tt
no_late_told (Some list) = tt

no_late_end : (body : List ℕ) (outcome : Outcome) → IsNotLate (told_of body outcome None)
no_late_end body (became.Replied place words) = no_late_told (answers body words)
no_late_end body (became.TimedOut place rounds) = tt
no_late_end body became.Unsent = tt
no_late_end body (became.LinkLost place) = tt

pub no_late : (bodies : List (List ℕ)) (outcomes : List Outcome) → HaveNoLate (ends_with bodies outcomes [])
no_late [] outcomes = tt
no_late (body ∷ bodies) [] = tt
no_late (body ∷ bodies) (outcome ∷ outcomes) = (no_late_end body outcome, no_late bodies outcomes)
