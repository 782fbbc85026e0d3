-- What is skipped stands behind a fault.
use Rattle.std.proofs.Common.{◌≡◌, ◌↔◌, ℕ, ◌<◌, List, Option, Some, None, refl, ap, ◌∙◌}
use Rattle.std.specs.List.{slice_get}
use Rattle.ipb_base.specs.Word.{AreWords}
use Rattle.reply_join.specs.declared.answer.Answer.{Answer}
use Rattle.reply_join.specs.declared.answer.Answer.TheVariants as answer
use Rattle.reply_join.specs.Joining.{IsJoined, IsBehindFault}
use Rattle.reply_join.specs.ByWords.{answers}
use Rattle.lane_record.specs.declared.outcome.Outcome.{Outcome}
use Rattle.lane_record.specs.declared.outcome.Outcome.TheVariants as became
use Rattle.transcript.specs.declared.body_end.Told.{Told}
use Rattle.transcript.specs.declared.body_end.Told.TheVariants as told
use Rattle.transcript.specs.declared.line.LateAnswer.{LateAnswer}
use Rattle.transcript.specs.declared.line.LateAnswer.TheVariants as late_answer
use Rattle.transcript.specs.declared.line.OpResult.TheVariants.{Error, Late, Skipped}
use Rattle.transcript.specs.Ends.{answer_result, late_at, late_of, told_by, told_timed_out, told_of, told_at}
use Rattle.transcript.specs.Claims.{HaveWords, HasWordsLate}

-- what reply_join promises
abbrev pub Joins : Type 0
Joins = (body reply : List ℕ) (list : List Answer) → AreWords body → AreWords reply
    → (IsJoined body reply list ↔ (answers body reply ≡ Some list))

abbrev pub Skips : Type 0
Skips = (body reply : List ℕ) (list : List Answer) (i : ℕ) (one : Answer) → IsJoined body reply list
    → slice_get list i ≡ Some one → ((one ≡ answer.Skipped) ↔ IsBehindFault list i)

skipped_answer : (one : Option Answer) → answer_result one ≡ Skipped → one ≡ Some answer.Skipped
skipped_answer None is = cc
skipped_answer (Some (answer.Values words)) is = cc
skipped_answer (Some answer.Done) is = cc
skipped_answer (Some (answer.Fault code after)) is = cc
skipped_answer (Some answer.Skipped) is = refl

skipped_late : (one : Option Answer) → late_of (answer_result one) ≡ late_answer.Skipped → one ≡ Some answer.Skipped
skipped_late None is = cc
skipped_late (Some (answer.Values words)) is = cc
skipped_late (Some answer.Done) is = cc
skipped_late (Some (answer.Fault code after)) is = cc
skipped_late (Some answer.Skipped) is = refl

-- what is told of a body shows an error before a transaction
abbrev pub IsBehindError : Told → ℕ → Type 0
IsBehindError what index = (earlier code after : ℕ) × (earlier < index) × (told_at what earlier ≡ Error code after)

-- the same in a late answer
abbrev pub IsBehindLateError : Told → ℕ → ℕ → Type 0
IsBehindLateError what rounds index = (earlier code after : ℕ) × (earlier < index)
    × (told_at what earlier ≡ Late rounds (late_answer.Error code after))

-- a fault stands before what is skipped
fault_before : Joins → Skips → (body words : List ℕ) (index : ℕ) (list : List Answer) → AreWords body → AreWords words
    → answers body words ≡ Some list → slice_get list index ≡ Some answer.Skipped → IsBehindFault list index
fault_before joins skips body words index list fits fit found at =
    let joined : IsJoined body words list = (joins body words list fits fit).1 found in
    (skips body words list index answer.Skipped joined at).0 refl

behind : Joins → Skips → (body words : List ℕ) (index : ℕ) (found : Option (List Answer)) → AreWords body
    → AreWords words
    → answers body words ≡ found → told_at (told_by found) index ≡ Skipped → IsBehindError (told_by found) index
behind joins skips body words index None fits fit none skipped = cc
behind joins skips body words index (Some list) fits fit found skipped =
    let fault = fault_before joins skips body words index list fits fit found
    (skipped_answer (slice_get list index) skipped) in
    (fault.earlier, fault.code, fault.after, fault.before, ap answer_result fault.fault)

not_in_time : (body : List ℕ) (rounds index : ℕ) (late : Option (List ℕ))
    → told_at (told_timed_out body rounds late) index ≡ Skipped → ⊥
not_in_time body rounds index None skipped = cc
not_in_time body rounds index (Some words) skipped = cc

pub behind_error : Joins → Skips → (body : List ℕ) (outcome : Outcome) (late : Option (List ℕ)) (index : ℕ)
    → AreWords body → HaveWords outcome → told_at (told_of body outcome late) index ≡ Skipped
    → IsBehindError (told_of body outcome late) index
behind_error joins skips body (became.Replied place words) late index fits fit skipped =
    behind joins skips body words index (answers body words) fits fit refl skipped
behind_error joins skips body (became.TimedOut place rounds) late index fits fit skipped =
    absurd (not_in_time body rounds index late skipped)
behind_error joins skips body became.Unsent late index fits fit skipped = cc
behind_error joins skips body (became.LinkLost place) late index fits fit skipped = cc

-- ---- late answers

answered_not_late : (one : Option Answer) (rounds : ℕ) (answer' : LateAnswer) → answer_result one ≡ Late rounds answer' → ⊥
answered_not_late None rounds answer' is = cc
answered_not_late (Some (answer.Values words)) rounds answer' is = cc
answered_not_late (Some answer.Done) rounds answer' is = cc
answered_not_late (Some (answer.Fault code after)) rounds answer' is = cc
answered_not_late (Some answer.Skipped) rounds answer' is = cc

replied_not_late : (found : Option (List Answer)) (index rounds : ℕ) (answer' : LateAnswer)
    → told_at (told_by found) index ≡ Late rounds answer' → ⊥
replied_not_late None index rounds answer' is = cc
replied_not_late (Some list) index rounds answer' is = answered_not_late (slice_get list index) rounds answer' is

behind_late : Joins → Skips → (body words : List ℕ) (index rounds shown : ℕ) (found : Option (List Answer))
    → AreWords body → AreWords words → answers body words ≡ found
    → Late rounds (late_at found index) ≡ Late shown late_answer.Skipped
    → IsBehindLateError (told.Late rounds found) shown index
behind_late joins skips body words index rounds shown None fits fit none skipped = cc
behind_late joins skips body words index rounds shown (Some list) fits fit found skipped =
    let same : rounds ≡ shown = cc in
    let is : late_of (answer_result (slice_get list index)) ≡ late_answer.Skipped = cc in
    let fault = fault_before joins skips body words index list fits fit found
    (skipped_late (slice_get list index) is) in (
      fault.earlier,
      fault.code,
      fault.after,
      fault.before,
      ap (λ (one : Option Answer). Late rounds (late_of (answer_result one))) fault.fault
          ∙ ap (λ n. Late n (late_answer.Error fault.code fault.after)) same,
    )

timed_out_late : Joins → Skips → (body : List ℕ) (rounds : ℕ) (late : Option (List ℕ)) (index shown : ℕ)
    → AreWords body → HasWordsLate late
    → told_at (told_timed_out body rounds late) index ≡ Late shown late_answer.Skipped
    → IsBehindLateError (told_timed_out body rounds late) shown index
timed_out_late joins skips body rounds None index shown fits fit skipped = cc
timed_out_late joins skips body rounds (Some words) index shown fits fit skipped =
    behind_late joins skips body words index rounds shown (answers body words) fits fit refl skipped

pub behind_late_error : Joins → Skips → (body : List ℕ) (outcome : Outcome) (late : Option (List ℕ)) (index rounds : ℕ)
    → AreWords body → HasWordsLate late
    → told_at (told_of body outcome late) index ≡ Late rounds late_answer.Skipped
    → IsBehindLateError (told_of body outcome late) rounds index
behind_late_error joins skips body (became.Replied place words) late index rounds fits fit skipped =
    absurd (replied_not_late (answers body words) index rounds late_answer.Skipped skipped)
behind_late_error joins skips body (became.TimedOut place timed) late index rounds fits fit skipped =
    timed_out_late joins skips body timed late index rounds fits fit skipped
behind_late_error joins skips body became.Unsent late index rounds fits fit skipped = cc
behind_late_error joins skips body (became.LinkLost place) late index rounds fits fit skipped = cc
