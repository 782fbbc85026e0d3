-- What the pieces of an operation came to, against what they would have come to, had the board replied to all in time.
use Rattle.std.proofs.Common.{◌≡◌, ◌⊎◌, true, false, List, [], ◌∷◌, ◌++◌, map, Option, Some, None}
use Rattle.std.proofs.Common.{ℕ, refl, sym, ap, ◌∙◌, subst, inl, inr}
use Rattle.std.specs.Prelude.{unwrap_or}
use Rattle.std.specs.List.{AllByRecursion, list_all, flat_map}
use Rattle.std.specs.Option.{option_map}
use Rattle.std.proofs.lemmas.Bool.{cases_Bool, and_parts}
use Rattle.std.proofs.lemmas.List.{map-append}
use Rattle.board_history.specs.LinkRuns.{IsUngarbledResult, ShowsRounds}
use Rattle.script_steps.specs.declared.operation.RegOp.{RegOp}
use Rattle.script_steps.specs.declared.operation.Verb.{Verb}
use Rattle.script_steps.specs.declared.operation.Verb.TheVariants as verb
use Rattle.script_plans.specs.declared.board_run.BoardRun.{BoardRun}
use Rattle.script_plans.specs.declared.planned.PieceAt.{PieceAt}
use Rattle.transcript.specs.declared.body_end.BodyEnd.{BodyEnd}
use Rattle.transcript.specs.declared.line.LateAnswer.{LateAnswer}
use Rattle.transcript.specs.declared.line.LateAnswer.TheVariants as late_answer
use Rattle.transcript.specs.declared.line.OpResult.{OpResult}
use Rattle.transcript.specs.declared.line.OpResult.TheVariants.{Value, Done, Was, Error, Skipped, TimedOut, Late}
use Rattle.transcript.specs.declared.line.OpResult.TheVariants.{Unsent, LinkLost, Garbled, Denied}
use Rattle.transcript.specs.Ends.{late_of, piece_result}
use Rattle.transcript.specs.Results.{combined_result, first_not_done, is_good, op_result, shown_result, shown_late, shown_not_done}
use Rattle.transcript.specs.Results.{values_in, word_before}
use Rattle.transcript.specs.Steps.{ends_on}
use Rattle.run_audit.specs.AskedLines.{AskedLine}
use Rattle.run_audit.specs.Results.{Agrees, IsLateAnswer, result_in}

-- What a piece came to, and what it would have come to: the same where the board replied in time, and the late answer
-- where it replied late. Nothing is known of a piece without a reply.
abbrev pub Matches : OpResult → OpResult → Type 0
Matches (Value words) again = again ≡ Value words
Matches Done again = again ≡ Done
Matches (Was word) again = again ≡ Was word
Matches (Error code after) again = again ≡ Error code after
Matches Skipped again = again ≡ Skipped
Matches (TimedOut rounds) again = Unit {0}
Matches (Late rounds answer) again = answer ≡ late_of again
Matches Unsent again = Unit {0}
Matches LinkLost again = Unit {0}
Matches Garbled again = again ≡ Garbled
Matches (Denied rule) again = Unit {0}

abbrev pub PieceMatches : List BodyEnd → List BodyEnd → PieceAt → Type 0
PieceMatches ends again piece = Matches (piece_result ends piece) (piece_result again piece)

-- ---- pieces that were done

good_same : (r again : OpResult) → is_good r ≡ true → Matches r again → again ≡ r
good_same (Value words) again good same = same
good_same Done again good same = same
good_same (Was word) again good same = same
good_same (Error code after) again good same = absurd cc
good_same Skipped again good same = absurd cc
good_same (TimedOut rounds) again good same = absurd cc
good_same (Late rounds answer) again good same = absurd cc
good_same Unsent again good same = absurd cc
good_same LinkLost again good same = absurd cc
good_same Garbled again good same = absurd cc
good_same (Denied rule) again good same = absurd cc

all_done : (rs : List OpResult) → list_all is_good rs ≡ true → first_not_done rs ≡ None
all_done [] good = refl
all_done (r ∷ rs) good =
    let both = and_parts (is_good r) (list_all is_good rs) good in
    rw both.0 (all_done rs both.1)

not_done : (front : List OpResult) (r : OpResult) (back : List OpResult) → list_all is_good front ≡ true
    → is_good r ≡ false → first_not_done (front ++ r ∷ back) ≡ Some r
not_done [] r back good bad = rw bad refl
not_done (x ∷ front) r back good bad =
    let both = and_parts (is_good x) (list_all is_good front) good in
    rw both.0 (not_done front r back both.1 bad)

module _ (ends again : List BodyEnd) where
  same_front : (pieces : List PieceAt) → AllByRecursion (PieceMatches ends again) pieces
      → list_all is_good (map (piece_result ends) pieces) ≡ true
      → map (piece_result again) pieces ≡ map (piece_result ends) pieces
  same_front [] all good = refl
  same_front (p ∷ ps) all good =
      let both = and_parts (is_good (piece_result ends p)) (list_all is_good (map (piece_result ends) ps)) good in
      let first = good_same (piece_result ends p) (piece_result again p) both.0 all.0 in
      let rest = same_front ps all.1 both.1 in
      cc

-- ---- the first piece that was not done in time

record NotDone (ends again : List BodyEnd) (pieces : List PieceAt) : Type 0 where
  before : List PieceAt
  piece : PieceAt
  behind : List PieceAt
  all : pieces ≡ before ++ piece ∷ behind
  good : list_all is_good (map (piece_result ends) before) ≡ true
  bad : is_good (piece_result ends piece) ≡ false
  matches : AllByRecursion (PieceMatches ends again) before
  this : PieceMatches ends again piece

first_bad : (ends again : List BodyEnd) (pieces : List PieceAt) → AllByRecursion (PieceMatches ends again) pieces
    → NotDone ends again pieces ⊎ (list_all is_good (map (piece_result ends) pieces) ≡ true)
first_bad ends again [] all = inr refl
first_bad ends again (p ∷ ps) all = elim (cases_Bool (is_good (piece_result ends p))) [
  | inl good ↦ elim (first_bad ends again ps all.1) [
    | inl found ↦ inl (record {
      before = p ∷ found.before;
      piece = found.piece;
      behind = found.behind;
      all = ap (λ (qs : List PieceAt). p ∷ qs) found.all;
      good = rw good found.good;
      bad = found.bad;
      matches = (all.0, found.matches);
      this = found.this;
    })
    | inr rest ↦ inr (rw good rest)
  ]
  | inr bad ↦ inl (record {
    before = [];
    piece = p;
    behind = ps;
    all = refl;
    good = refl;
    bad = bad;
    matches = tt;
    this = all.0;
  })
]

all_combined : (verb' : Verb) (mask : ℕ) (rs : List OpResult) → list_all is_good rs ≡ true
    → combined_result verb' mask rs ≡ shown_result verb' mask (flat_map values_in rs)
all_combined verb' mask rs good =
    ap (λ (o : Option OpResult). unwrap_or (option_map (shown_not_done verb' mask) o)
    (shown_result verb' mask (flat_map values_in rs))) (all_done rs good)

fault_combined : (verb' : Verb) (mask : ℕ) (front : List OpResult) (r : OpResult) (back : List OpResult)
    → list_all is_good front ≡ true → is_good r ≡ false
    → combined_result verb' mask (front ++ r ∷ back) ≡ shown_not_done verb' mask r
fault_combined verb' mask front r back good bad =
    ap (λ (o : Option OpResult). unwrap_or (option_map (shown_not_done verb' mask) o)
    (shown_result verb' mask (flat_map values_in (front ++ r ∷ back)))) (not_done front r back good bad)

fault_result : (ends : List BodyEnd) (op : RegOp) (before : List PieceAt) (piece : PieceAt) (behind : List PieceAt)
    → list_all is_good (map (piece_result ends) before) ≡ true → is_good (piece_result ends piece) ≡ false
    → op_result ends op (before ++ piece ∷ behind) ≡ shown_not_done op.verb op.mask (piece_result ends piece)
fault_result ends op before piece behind good bad =
    ap (combined_result op.verb op.mask) (map-append (piece_result ends) before (piece ∷ behind))
    ∙ fault_combined op.verb op.mask (map (piece_result ends) before) (piece_result ends piece)
    (map (piece_result ends) behind) good bad

-- ---- the line

module _ (rounds : ℕ) (pieces : List PieceAt) (run : BoardRun) (asking : AskedLine) where
  word_agrees : (words : List ℕ) → IsUngarbledResult (word_before words) → result_in run asking ≡ word_before words
      → Agrees rounds pieces run asking (word_before words)
  word_agrees [] clear same = absurd (clear.in_time refl)
  word_agrees (word ∷ words) clear same = same

  words_agree : (verb' : Verb) (mask : ℕ) (words : List ℕ) → IsUngarbledResult (shown_result verb' mask words)
      → result_in run asking ≡ shown_result verb' mask words → Agrees rounds pieces run asking (shown_result verb' mask words)
  words_agree verb.Read mask words clear same = same
  words_agree verb.Write mask words clear same = same
  words_agree verb.ReadBlock mask words clear same = same
  words_agree verb.WriteBlock mask words clear same = same
  words_agree verb.RmwBits mask words clear same = word_agrees words clear same
  words_agree verb.RmwSum mask words clear same = word_agrees words clear same

  -- of a piece that was not done, from what it would have come to
  fault_agrees : (verb' : Verb) (mask : ℕ) (r again : OpResult) → is_good r ≡ false → Matches r again
      → IsUngarbledResult (shown_not_done verb' mask r) → ShowsRounds rounds (shown_not_done verb' mask r)
      → (is_good again ≡ false → result_in run asking ≡ shown_not_done verb' mask again)
      → ((answer : LateAnswer) → answer ≡ shown_late verb' mask (late_of again) → (answer ≡ late_answer.Garbled → ⊥)
      → IsLateAnswer (ends_on asking.client run) asking.ask.op pieces answer)
      → Agrees rounds pieces run asking (shown_not_done verb' mask r)
  fault_agrees verb' mask (Value words) again bad same clear told now late = absurd cc
  fault_agrees verb' mask Done again bad same clear told now late = absurd cc
  fault_agrees verb' mask (Was word) again bad same clear told now late = absurd cc
  fault_agrees verb' mask (Error code after) again bad same clear told now late =
      now (ap is_good same) ∙ ap (shown_not_done verb' mask) same
  fault_agrees verb' mask Skipped again bad same clear told now late =
      now (ap is_good same) ∙ ap (shown_not_done verb' mask) same
  fault_agrees verb' mask (TimedOut shown_rounds) again bad same clear told now late = told
  fault_agrees verb' mask (Late shown_rounds answer) again bad same clear told now late = (
    told,
    late (shown_late verb' mask answer) (ap (shown_late verb' mask) same)
        (λ garbled. clear.late shown_rounds (ap (Late shown_rounds) garbled)),
  )
  fault_agrees verb' mask Unsent again bad same clear told now late = tt
  fault_agrees verb' mask LinkLost again bad same clear told now late = tt
  fault_agrees verb' mask Garbled again bad same clear told now late = absurd (clear.in_time refl)
  fault_agrees verb' mask (Denied rule) again bad same clear told now late = tt

  module _ (ends again : List BodyEnd) (is : ends_on asking.client run ≡ again)
      (shows : result_in run asking ≡ op_result again asking.ask.op pieces)
      (matches : AllByRecursion (PieceMatches ends again) pieces)
      (clear : IsUngarbledResult (op_result ends asking.ask.op pieces))
      (told : ShowsRounds rounds (op_result ends asking.ask.op pieces)) where
    done_agrees : list_all is_good (map (piece_result ends) pieces) ≡ true
        → Agrees rounds pieces run asking (op_result ends asking.ask.op pieces)
    done_agrees good =
        let op = asking.ask.op in
        let rs = map (piece_result ends) pieces in
        let all = all_combined op.verb op.mask rs good in
        let same : result_in run asking ≡ shown_result op.verb op.mask (flat_map values_in rs) =
        shows ∙ ap (combined_result op.verb op.mask) (same_front ends again pieces matches good) ∙ all in
        subst (Agrees rounds pieces run asking) (sym all)
        (words_agree op.verb op.mask (flat_map values_in rs) (subst IsUngarbledResult all clear) same)

    not_done_agrees : NotDone ends again pieces → Agrees rounds pieces run asking (op_result ends asking.ask.op pieces)
    not_done_agrees found =
        let op = asking.ask.op in
        let r = piece_result ends found.piece in
        let other = piece_result again found.piece in
        let result : op_result ends op pieces ≡ shown_not_done op.verb op.mask r =
        ap (op_result ends op) found.all
        ∙ fault_result ends op found.before found.piece found.behind found.good found.bad in
        let front : list_all is_good (map (piece_result again) found.before) ≡ true =
        ap (list_all is_good) (same_front ends again found.before found.matches found.good) ∙ found.good in
        let now : is_good other ≡ false → result_in run asking ≡ shown_not_done op.verb op.mask other =
        λ bad. shows ∙ ap (op_result again op) found.all
        ∙ fault_result again op found.before found.piece found.behind front bad in
        let late : (answer : LateAnswer) → answer ≡ shown_late op.verb op.mask (late_of other)
        → (answer ≡ late_answer.Garbled → ⊥) → IsLateAnswer (ends_on asking.client run) op pieces answer =
        λ answer same joined.
        subst (λ (es : List BodyEnd). IsLateAnswer es op pieces answer) (sym is) (record {
          before = found.before;
          piece = found.piece;
          behind = found.behind;
          all = found.all;
          done = front;
          same = same;
          joined = joined;
        }) in
        subst (Agrees rounds pieces run asking) (sym result)
        (fault_agrees op.verb op.mask r other found.bad found.this (subst IsUngarbledResult result clear)
        (subst (ShowsRounds rounds) result told) now late)

    -- A line agrees with the replay where each piece does.
    pub matching_agrees : Agrees rounds pieces run asking (op_result ends asking.ask.op pieces)
    matching_agrees = elim (first_bad ends again pieces matches) [
      | inl found ↦ not_done_agrees found
      | inr good ↦ done_agrees good
    ]
