-- What an operation shows of a late answer.
use Rattle.std.proofs.Common.{◌≡◌, ℕ, true, List, [], ◌∷◌, ◌++◌, Option, Some, None, unwrap_or, refl, sym, ap, inl, inr}
use Rattle.std.proofs.Common.{append-nil}
use Rattle.std.specs.List.{flat_map, list_all, slice_get}
use Rattle.std.specs.Option.{option_map}
use Rattle.std.proofs.lemmas.Bool.{cases_Bool}
use Rattle.std.proofs.lemmas.Option.{same_Some}
use Rattle.reply_join.specs.declared.answer.Answer.{Answer}
use Rattle.reply_join.specs.declared.answer.Answer.TheVariants as answer
use Rattle.script_steps.specs.declared.operation.Verb.{Verb}
use Rattle.transcript.specs.declared.line.LateAnswer.{LateAnswer}
use Rattle.transcript.specs.declared.line.OpResult.{OpResult}
use Rattle.transcript.specs.declared.line.OpResult.TheVariants.{Late}
use Rattle.transcript.specs.Ends.{answer_result, late_at, late_of, told_at, told_by}
use Rattle.transcript.specs.Results.{combined_result, first_not_done, is_good, shown_result, shown_not_done, shown_late, values_in}
use Rattle.transcript.specs.Steps.{not_done_in}

-- a fault that came in time is shown as it is
pub in_time : (verb : Verb) (mask : ℕ) (one : Option Answer)
    → option_map (shown_not_done verb mask) (not_done_in (answer_result one)) ≡ not_done_in (answer_result one)
in_time verb mask None = refl
in_time verb mask (Some (answer.Values words)) = refl
in_time verb mask (Some answer.Done) = refl
in_time verb mask (Some (answer.Fault code after)) = refl
in_time verb mask (Some answer.Skipped) = refl

-- where the answer is a fault, and where it is none
pub late_fault : (verb : Verb) (mask : ℕ) (one : Option Answer) (fault : OpResult)
    → not_done_in (answer_result one) ≡ Some fault → late_of fault ≡ shown_late verb mask (late_of (answer_result one))
late_fault verb mask None fault is = ap late_of (sym (same_Some _ fault is))
late_fault verb mask (Some (answer.Values words)) fault is = absurd cc
late_fault verb mask (Some answer.Done) fault is = absurd cc
late_fault verb mask (Some (answer.Fault code after)) fault is = ap late_of (sym (same_Some _ fault is))
late_fault verb mask (Some answer.Skipped) fault is = ap late_of (sym (same_Some _ fault is))

pub late_words : (verb : Verb) (mask : ℕ) (one : Option Answer) → not_done_in (answer_result one) ≡ None
    → late_of (shown_result verb mask (values_in (answer_result one))) ≡ shown_late verb mask (late_of (answer_result one))
late_words verb mask None is = absurd cc
late_words verb mask (Some (answer.Values words)) is = refl
late_words verb mask (Some answer.Done) is = refl
late_words verb mask (Some (answer.Fault code after)) is = absurd cc
late_words verb mask (Some answer.Skipped) is = absurd cc

-- ---- the piece alone

alone : (verb : Verb) (mask : ℕ) (one : Option Answer)
    → shown_late verb mask (late_of (answer_result one)) ≡ late_of (combined_result verb mask (answer_result one ∷ []))
alone verb mask None = refl
alone verb mask (Some (answer.Values words)) =
    ap (λ (ws : List ℕ). late_of (shown_result verb mask ws)) (sym (append-nil words))
alone verb mask (Some answer.Done) = refl
alone verb mask (Some (answer.Fault code after)) = refl
alone verb mask (Some answer.Skipped) = refl

pub piece_alone : (verb : Verb) (mask index : ℕ) (found : Option (List Answer))
    → shown_late verb mask (late_at found index) ≡ late_of (combined_result verb mask (told_at (told_by found) index ∷ []))
piece_alone verb mask index None = refl
piece_alone verb mask index (Some list) = alone verb mask (slice_get list index)

first_late : (rounds : ℕ) (answer' : LateAnswer) (front back : List OpResult) → list_all is_good front ≡ true
    → first_not_done (front ++ Late rounds answer' ∷ back) ≡ Some (Late rounds answer')
first_late rounds answer' [] back good = refl
first_late rounds answer' (r ∷ front) back good =
    elim (cases_Bool (is_good r)) [
      | inl fine ↦ rw fine (first_late rounds answer' front back (rw fine at good))
      | inr failed ↦ (let e = rw failed at good in absurd cc)
    ]

pub shown_alone : (verb : Verb) (mask rounds : ℕ) (answer' : LateAnswer) (front back : List OpResult)
    → list_all is_good front ≡ true
    → combined_result verb mask (front ++ Late rounds answer' ∷ back) ≡ combined_result verb mask (Late rounds answer' ∷ [])
shown_alone verb mask rounds answer' front back good =
    ap (λ (first : Option OpResult). unwrap_or (option_map (shown_not_done verb mask) first)
    (shown_result verb mask (flat_map values_in (front ++ Late rounds answer' ∷ back))))
    (first_late rounds answer' front back good)
