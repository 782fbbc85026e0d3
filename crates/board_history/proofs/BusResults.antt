-- What the pieces of an operation came to, and so the operation, is of an allowed kind: where nothing is lost, a code
-- of the bus at worst.
use Rattle.std.proofs.Common.{◌≡◌, ◌⊎◌, ℕ, zero, suc, ◌<◌, true, false, List, [], ◌∷◌, length, map, Option, Some}
use Rattle.std.proofs.Common.{None, refl, sym, ap, ◌∙◌, subst, inl, inr, arith, length-append, drop, get_or}
use Rattle.std.specs.Prelude.{unwrap_or}
use Rattle.std.specs.List.{AllByRecursion, slice_get, flat_map}
use Rattle.std.specs.Option.{option_map}
use Rattle.std.proofs.lemmas.Bool.{cases_Bool}
use Rattle.std.proofs.lemmas.Option.{same_Some, slice_get_cases, slice_get_within}
use Rattle.transaction_codec.specs.declared.request.Op.{Op}
use Rattle.transaction_codec.specs.declared.request.Op.TheVariants as ops
use Rattle.transaction_codec.specs.declared.request.Request.{Request}
use Rattle.transaction_codec.specs.Header.{is_write}
use Rattle.transaction_codec.specs.Request.{AreRequests, op_kind, op_count, requests_words}
use Rattle.transaction_codec.specs.Answer.{IsReplyTo}
use Rattle.reply_join.specs.declared.answer.Answer.{Answer}
use Rattle.reply_join.specs.declared.answer.Answer.TheVariants as answer
use Rattle.reply_join.specs.Joining.{IsJoined, IsAnswerTo, answers_to}
use Rattle.reply_join.specs.ByWords.{answers}
use Rattle.script_steps.specs.declared.operation.Verb.{Verb}
use Rattle.script_steps.specs.declared.operation.Verb.TheVariants as verb
use Rattle.script_plans.specs.declared.planned.PieceAt.{PieceAt}
use Rattle.transcript.specs.declared.body_end.BodyEnd.{BodyEnd}
use Rattle.lane_record.specs.declared.outcome.Outcome.{Outcome}
use Rattle.lane_record.specs.declared.outcome.Outcome.TheVariants.{TimedOut}
use Rattle.script_plans.specs.declared.board_run.ClientPart.{ClientPart}
use Rattle.transcript.specs.declared.line.LateAnswer.{LateAnswer}
use Rattle.transcript.specs.declared.line.LateAnswer.TheVariants as late_answer
use Rattle.transcript.specs.declared.line.OpResult.{OpResult}
use Rattle.transcript.specs.declared.line.OpResult.TheVariants.{Late}
use Rattle.transcript.specs.Ends.{answer_result, end_of, ends_of, ends_with, late_at, late_of, piece_result, result_in}
use Rattle.transcript.specs.Ends.{told_at, told_by, told_timed_out, told_of}
use Rattle.transcript.specs.Results.{is_good, first_not_done, values_in, word_before, shown_result, shown_not_done, shown_late}
use Rattle.transcript.specs.Results.{combined_result}
use Rattle.script_steps.specs.Executable.{IsRmw, FitsVerb}
use Rattle.board_history.specs.Lines.{IsBusResult}
use Rattle.board_history.proofs.Answering.{IsTold}
use Rattle.board_history.proofs.Lists.{BothWith}
use Rattle.board_history.proofs.Asking.{IsAsked}

-- ---- a piece

-- how the body at a place ended, of whose outcome and late answer this holds
record EndsAs (R : List ℕ → Outcome → Option (List ℕ) → Type 0) (ends : List BodyEnd) (k : ℕ) (body : List ℕ)
    : Type 0 where
  outcome : Outcome
  late : Option (List ℕ)
  at' : slice_get ends k ≡ Some (end_of body outcome late)
  holds : R body outcome late

ends_at : (R : List ℕ → Outcome → Option (List ℕ) → Type 0) (bodies : List (List ℕ)) (outcomes : List Outcome)
    (lates : List (Option (List ℕ))) (k : ℕ) (body : List ℕ) → BothWith R bodies outcomes lates
    → slice_get bodies k ≡ Some body → EndsAs R (ends_with bodies outcomes lates) k body
ends_at R [] outcomes lates k body both at = absurd cc
ends_at R (b ∷ bs) [] lates k body both at = absurd both
ends_at R (b ∷ bs) (o ∷ os) lates zero body both at = record {
  outcome = o;
  late = get_or lates 0 None;
  at' = ap (λ (x : List ℕ). Some (end_of x o (get_or lates 0 None))) (same_Some b body at);
  holds = subst (λ (x : List ℕ). R x o (get_or lates 0 None)) (same_Some b body at) both.0;
}
ends_at R (b ∷ bs) (o ∷ os) lates (suc k) body both at =
    let later = ends_at R bs os (drop 1 lates) k body both.1 at in
    record { outcome = later.outcome; late = later.late; at' = later.at'; holds = later.holds }

-- what the bus gives is allowed
abbrev pub AllowsBus : (OpResult → Type 0) → Type 0
AllowsBus P = (r : OpResult) → IsBusResult r → P r

-- a late answer that the bus gives
abbrev pub IsBusAnswer : LateAnswer → Type 0
IsBusAnswer late_answer.Garbled = ⊥
IsBusAnswer other = Unit {0}

-- what an operation shows of a result is allowed, with a word at least where an RMW was done
pub record Fits (P : OpResult → Type 0) (op : Op) (r : OpResult) : Type 0 where
  pub allowed : (v : Verb) (mask : ℕ) → FitsVerb v op → P (shown_not_done v mask r)
  pub some : IsRmw op → is_good r ≡ true → 0 < length (values_in r)

-- a body that was answered late: what the bus gives is allowed behind its timeout
pub record IsToldLate (P : OpResult → Type 0) (body : List ℕ) (outcome : Outcome) (late : Option (List ℕ)) : Type 0
  where
    pub place' : ℕ
    pub rounds : ℕ
    pub words : List ℕ
    pub list : List Answer
    pub is : outcome ≡ TimedOut place' rounds
    pub came : late ≡ Some words
    pub joined : IsJoined body words list
    pub found : answers body words ≡ Some list
    pub allowed : (one : LateAnswer) → IsBusAnswer one → P (Late rounds one)

-- a body that was not answered: what is shown of its transactions is allowed, and no good result
pub record IsUntold (P : OpResult → Type 0) (body : List ℕ) (outcome : Outcome) (late : Option (List ℕ)) : Type 0
  where
    pub allowed : (index : ℕ) (v : Verb) (mask : ℕ)
        → P (shown_not_done v mask (told_at (told_of body outcome late) index))
    pub bad : (index : ℕ) → is_good (told_at (told_of body outcome late) index) ≡ false

-- a body was told its answers, in time or late, or what is told of it is allowed
abbrev pub IsFine : (OpResult → Type 0) → List ℕ → Outcome → Option (List ℕ) → Type 0
IsFine P body outcome late =
    IsTold body outcome ⊎ (IsToldLate P body outcome late ⊎ IsUntold P body outcome late)

no_write : (op : Op) → IsRmw op → is_write (op_kind op) ≡ true → ⊥
no_write (ops.Read base count) is write = is
no_write (ops.ReadPort base count) is write = is
no_write (ops.Write base words) is write = is
no_write (ops.WritePort base words) is write = is
no_write (ops.RmwBits base and_term or_term) is write = cc
no_write (ops.RmwSum base addend) is write = cc

one_word : (op : Op) → IsRmw op → 0 < op_count op
one_word (ops.Read base count) is = absurd is
one_word (ops.ReadPort base count) is = absurd is
one_word (ops.Write base words) is = absurd is
one_word (ops.WritePort base words) is = absurd is
one_word (ops.RmwBits base and_term or_term) is = omega arith
one_word (ops.RmwSum base addend) is = omega arith

answer_fits : (P : OpResult → Type 0) → AllowsBus P → (op : Op) (request : Request) (one : Answer)
    → (IsRmw op → IsRmw request.op) → IsAnswerTo request one → Fits P op (answer_result (Some one))
answer_fits P bus op request (answer.Values words) rmw is = record {
  allowed = λ v mask fits. bus (answer_result (Some (answer.Values words))) tt;
  some = λ asks good. subst (λ (n : ℕ). 0 < n) (sym is.1) (one_word request.op (rmw asks));
}
answer_fits P bus op request answer.Done rmw is = record {
  allowed = λ v mask fits. bus (answer_result (Some answer.Done)) tt;
  some = λ asks good. absurd (no_write request.op (rmw asks) is);
}
answer_fits P bus op request (answer.Fault code after) rmw is = record {
  allowed = λ v mask fits. bus (answer_result (Some (answer.Fault code after))) tt;
  some = λ asks good. absurd cc;
}
answer_fits P bus op request answer.Skipped rmw is = record {
  allowed = λ v mask fits. bus (answer_result (Some answer.Skipped)) tt;
  some = λ asks good. absurd cc;
}

-- ---- a piece that was answered late

before_late : (words : List ℕ) → 0 < length words → IsBusAnswer (late_of (word_before words))
before_late [] some = absurd (omega arith)
before_late (word ∷ words) some = tt

shown_words : (v : Verb) (mask : ℕ) (op : Op) (words : List ℕ) → FitsVerb v op → (IsRmw op → 0 < length words)
    → IsBusAnswer (late_of (shown_result v mask words))
shown_words verb.Read mask op words fits some = tt
shown_words verb.Write mask op words fits some = tt
shown_words verb.ReadBlock mask op words fits some = tt
shown_words verb.WriteBlock mask op words fits some = tt
shown_words verb.RmwBits mask op words fits some = before_late words (some fits)
shown_words verb.RmwSum mask op words fits some = before_late words (some fits)

answer_shown : (v : Verb) (mask : ℕ) (op : Op) (request : Request) (one : Answer) → (IsRmw op → IsRmw request.op)
    → IsAnswerTo request one → FitsVerb v op → IsBusAnswer (shown_late v mask (late_of (answer_result (Some one))))
answer_shown v mask op request (answer.Values words) rmw is fits =
    shown_words v mask op words fits (λ asks. subst (λ (n : ℕ). 0 < n) (sym is.1) (one_word request.op (rmw asks)))
answer_shown v mask op request answer.Done rmw is fits =
    shown_words v mask op [] fits (λ asks. absurd (no_write request.op (rmw asks) is))
answer_shown v mask op request (answer.Fault code after) rmw is fits = tt
answer_shown v mask op request answer.Skipped rmw is fits = tt

late_fits : (P : OpResult → Type 0) (rounds : ℕ) → ((one : LateAnswer) → IsBusAnswer one → P (Late rounds one))
    → (op : Op) (request : Request) (one : Answer) → (IsRmw op → IsRmw request.op) → IsAnswerTo request one
    → Fits P op (Late rounds (late_of (answer_result (Some one))))
late_fits P rounds allowed op request one rmw is = record {
  allowed = λ v mask fits. allowed (shown_late v mask (late_of (answer_result (Some one))))
      (answer_shown v mask op request one rmw is fits);
  some = λ asks good. absurd cc;
}

-- ---- the pieces of an operation

abbrev pub OneEach : Type 0
OneEach = (body reply : List ℕ) (is : IsReplyTo body reply) → length (answers_to is.requests is.replies)
    ≡ length is.requests

abbrev pub EachIsThat : Type 0
EachIsThat = (body reply : List ℕ) (answers : List Answer) (requests : List Request) (i : ℕ) (request : Request)
    (one : Answer) → IsJoined body reply answers → AreRequests requests → body ≡ requests_words requests
    → slice_get requests i ≡ Some request → slice_get answers i ≡ Some one → IsAnswerTo request one

abbrev pub OneList : Type 0
OneList = (left right : List Request) → AreRequests left → AreRequests right
    → requests_words left ≡ requests_words right → left ≡ right

module _ (P : OpResult → Type 0) (bus : AllowsBus P) (one_each : OneEach) (each_is : EachIsThat) (one_list : OneList)
  where
    joined_length : (requests : List Request) (words : List ℕ) (list : List Answer) → AreRequests requests
        → IsJoined (requests_words requests) words list → length list ≡ length requests
    joined_length requests words list ranges joined =
        let is = joined.0 in
        ap length joined.1
        ∙ one_each (requests_words requests) words is
        ∙ ap length (one_list is.requests requests is.ranges ranges (sym is.asked))

    -- the answer to the request of a piece
    answer_at : (requests : List Request) (words : List ℕ) (list : List Answer) (index : ℕ) (request : Request)
        → AreRequests requests → IsJoined (requests_words requests) words list
        → slice_get requests index ≡ Some request
        → (one : Answer) × (slice_get list index ≡ Some one) × IsAnswerTo request one
    answer_at requests words list index request ranges joined at =
        elim (slice_get_cases list index).1 [
          | inl (one, within, there, again) ↦ (
            one,
            there,
            each_is (requests_words requests) words list requests index request one joined ranges refl at there,
          )
          | inr (past, none) ↦
              absurd (omega (
                arith,
                joined_length requests words list ranges joined,
                slice_get_within requests index request at,
              ))
        ]

    told_fits : (bodies : List (List ℕ)) (op : Op) (body index : ℕ) (asked : IsAsked bodies op body index)
        (outcome : Outcome) (late : Option (List ℕ)) → IsTold (requests_words asked.requests) outcome
        → Fits P op (told_at (told_of (requests_words asked.requests) outcome late) index)
    told_fits bodies op body index asked outcome late is =
        let words = requests_words asked.requests in
        let found = answer_at asked.requests is.words is.list index asked.request asked.ranges is.joined asked.at' in
        let fits = answer_fits P bus op asked.request found.0 asked.rmw found.2 in
        subst (λ (o : Outcome). Fits P op (told_at (told_of words o late) index)) (sym is.is)
        (subst (λ (l : Option (List Answer)). Fits P op (told_at (told_by l) index)) (sym is.found)
        (subst (λ (o : Option Answer). Fits P op (answer_result o)) (sym found.1) fits))

    told_timed_out_fits : (bodies : List (List ℕ)) (op : Op) (body index : ℕ) (asked : IsAsked bodies op body index)
        (outcome : Outcome) (late : Option (List ℕ)) → IsToldLate P (requests_words asked.requests) outcome late
        → Fits P op (told_at (told_of (requests_words asked.requests) outcome late) index)
    told_timed_out_fits bodies op body index asked outcome late is =
        let words = requests_words asked.requests in
        let found = answer_at asked.requests is.words is.list index asked.request asked.ranges is.joined asked.at' in
        let fits = late_fits P is.rounds is.allowed op asked.request found.0 asked.rmw found.2 in
        subst (λ (o : Outcome). Fits P op (told_at (told_of words o late) index)) (sym is.is)
        (subst (λ (l : Option (List ℕ)). Fits P op (told_at (told_timed_out words is.rounds l) index)) (sym is.came)
        (subst (λ (l : Option (List Answer)). Fits P op (Late is.rounds (late_at l index))) (sym is.found)
        (subst (λ (o : Option Answer). Fits P op (Late is.rounds (late_of (answer_result o)))) (sym found.1) fits)))

    piece_fits : (bodies : List (List ℕ)) (outcomes : List Outcome) (lates : List (Option (List ℕ))) (op : Op)
        (body index : ℕ) → BothWith (IsFine P) bodies outcomes lates → IsAsked bodies op body index
        → Fits P op (result_in (slice_get (ends_with bodies outcomes lates) body) index)
    piece_fits bodies outcomes lates op body index told asked =
        let words = requests_words asked.requests in
        let is = ends_at (IsFine P) bodies outcomes lates body words told asked.there in
        subst (λ (e : Option BodyEnd). Fits P op (result_in e index)) (sym is.at')
        (elim is.holds [
          | inl in_time ↦ told_fits bodies op body index asked is.outcome is.late in_time
          | inr (inl late) ↦ told_timed_out_fits bodies op body index asked is.outcome is.late late
          | inr (inr untold) ↦ record {
            allowed = λ v mask fits. untold.allowed index v mask;
            some = λ rmw good. absurd (let bad = untold.bad index in cc);
          }
        ])

    pub pieces_fit : (part : ClientPart) (op : Op) (pieces : List PieceAt)
        → BothWith (IsFine P) part.planned.bodies part.outcomes part.lates
        → AllByRecursion (λ (p : PieceAt). IsAsked part.planned.bodies op p.body p.index) pieces
        → AllByRecursion (Fits P op) (map (piece_result (ends_of part)) pieces)
    pieces_fit part op [] told asked = tt
    pieces_fit part op (p ∷ ps) told asked = (
      piece_fits part.planned.bodies part.outcomes part.lates op p.body p.index told asked.0,
      pieces_fit part op ps told asked.1,
    )

-- ---- an operation

fault_allowed : (P : OpResult → Type 0) (v : Verb) (mask : ℕ) (op : Op) (rs : List OpResult) (r : OpResult)
    → FitsVerb v op → AllByRecursion (Fits P op) rs → first_not_done rs ≡ Some r → P (shown_not_done v mask r)
fault_allowed P v mask op [] r fits all is = absurd cc
fault_allowed P v mask op (x ∷ xs) r fits all is =
    elim (cases_Bool (is_good x)) [
      | inl good ↦ fault_allowed P v mask op xs r fits all.1 (rw good at is)
      | inr bad ↦ (let same : Some x ≡ Some r = rw bad at is in
          subst (λ (y : OpResult). P (shown_not_done v mask y)) (same_Some x r same) (all.0.allowed v mask fits))
    ]

good_first : (x : OpResult) (xs : List OpResult) → first_not_done (x ∷ xs) ≡ None → is_good x ≡ true
good_first x xs is =
    elim (cases_Bool (is_good x)) [
      | inl good ↦ good
      | inr bad ↦ (let same : Some x ≡ None = rw bad at is in absurd cc)
    ]

some_values : (P : OpResult → Type 0) (op : Op) (rs : List OpResult) → IsRmw op → AllByRecursion (Fits P op) rs
    → first_not_done rs ≡ None
    → 0 < length rs
    → 0 < length (flat_map values_in rs)
some_values P op [] rmw all is some = absurd (omega arith)
some_values P op (x ∷ xs) rmw all is some =
    omega (arith, length-append (values_in x) (flat_map values_in xs), all.0.some rmw (good_first x xs is))

before_bus : (words : List ℕ) → 0 < length words → IsBusResult (word_before words)
before_bus [] some = absurd (omega arith)
before_bus (word ∷ words) some = tt

shown_bus : (v : Verb) (mask : ℕ) (op : Op) (words : List ℕ) → FitsVerb v op → (IsRmw op → 0 < length words)
    → IsBusResult (shown_result v mask words)
shown_bus verb.Read mask op words is some = tt
shown_bus verb.Write mask op words is some = tt
shown_bus verb.ReadBlock mask op words is some = tt
shown_bus verb.WriteBlock mask op words is some = tt
shown_bus verb.RmwBits mask op words is some = before_bus words (some is)
shown_bus verb.RmwSum mask op words is some = before_bus words (some is)

by_fault : (P : OpResult → Type 0) → AllowsBus P → (v : Verb) (mask : ℕ) (op : Op) (rs : List OpResult)
    (found : Option OpResult) → FitsVerb v op → AllByRecursion (Fits P op) rs → (IsRmw op → 0 < length rs)
    → first_not_done rs ≡ found
    → P (unwrap_or (option_map (shown_not_done v mask) found) (shown_result v mask (flat_map values_in rs)))
by_fault P bus v mask op rs (Some r) fits all some is = fault_allowed P v mask op rs r fits all is
by_fault P bus v mask op rs None fits all some is = bus (shown_result v mask (flat_map values_in rs))
    (shown_bus v mask op (flat_map values_in rs) fits (λ rmw. some_values P op rs rmw all is (some rmw)))

pub combined_allowed : (P : OpResult → Type 0) → AllowsBus P → (v : Verb) (mask : ℕ) (op : Op) (rs : List OpResult)
    → FitsVerb v op → AllByRecursion (Fits P op) rs → (IsRmw op → 0 < length rs) → P (combined_result v mask rs)
combined_allowed P bus v mask op rs fits all some = by_fault P bus v mask op rs (first_not_done rs) fits all some refl
