-- What each answer is to its request, and which are skipped.
use Rattle.std.proofs.lemmas.Bool.Decides.{nat_tests}
use Rattle.std.proofs.Common.{◌≢◌, Bool}
use Rattle.std.proofs.Common.{◌≡◌, inl, inr, ℕ, zero, suc, ◌-◌, ◌<◌, ◌==◌, not, if◌then◌else◌, true, false}
use Rattle.std.proofs.Common.{List, [], ◌∷◌, length, replicate, Some, None, slice_get, refl, sym, subst, ap, ◌∙◌, arith}
use Rattle.transaction_codec.specs.declared.request.Op.{Op}
use Rattle.transaction_codec.specs.declared.request.Op.TheVariants.{Read, ReadPort, Write, WritePort, RmwBits, RmwSum}
use Rattle.transaction_codec.specs.declared.request.Request.{Request}
use Rattle.transaction_codec.specs.declared.reply.Reply.{Reply}
use Rattle.transaction_codec.specs.Header.{is_write}
use Rattle.transaction_codec.specs.Request.{AreRequests, op_kind, requests_words}
use Rattle.transaction_codec.specs.Answer.{values_done, IsDone, IsFailed, Answers}
use Rattle.reply_join.specs.declared.answer.Answer.{Answer}
use Rattle.reply_join.specs.declared.answer.Answer.TheVariants.{Values, Done, Fault, Skipped}
use Rattle.reply_join.specs.Joining.{answer_of, answers_to, IsJoined, IsAnswerTo, IsBehindFault}
use Rattle.reply_join.proofs.Headers.{fault_is_no_success}
use Rattle.reply_join.proofs.Joined.{answers_more}

some_is : {T : Type 0} (x y : T) → Some x ≡ Some y → x ≡ y
some_is x y same = cc

-- ---- one answer

not_zero : (n : ℕ) → n ≢ 0 → n == 0 ≡ false
not_zero n other = grind (arith, nat_tests)

by_test : (writes : Bool) (values : List ℕ) (code after : ℕ)
    → (if writes then Done else Values values) ≡ Fault code after → ⊥
by_test true values code after same = absurd cc
by_test false values code after same = absurd cc

never_skipped : (failed writes : Bool) (code count : ℕ) (values : List ℕ)
    → (if failed then Fault code count else if writes then Done else Values values) ≡ Skipped → ⊥
never_skipped true writes code count values same = absurd cc
never_skipped false true code count values same = absurd cc
never_skipped false false code count values same = absurd cc

abbrev answer_with : ℕ → ℕ → ℕ → List ℕ → Answer
answer_with code kind count values =
    if not (code == 0) then Fault code count else if is_write kind then Done else Values values

done_answer : (tid : ℕ) (op : Op) (count : ℕ) (values : List ℕ) → length values ≡ values_done op
    → IsAnswerTo (record { tid = tid; op = op }) (answer_with 0 (op_kind op) count values)
done_answer tid (Read base asked) count values many = (refl, many)
done_answer tid (ReadPort base asked) count values many = (refl, many)
done_answer tid (Write base words) count values many = refl
done_answer tid (WritePort base words) count values many = refl
done_answer tid (RmwBits base and_term or_term) count values many = (refl, many)
done_answer tid (RmwSum base addend) count values many = (refl, many)

done_is : (request : Request) (reply : Reply) → IsDone request reply → IsAnswerTo request (answer_of reply)
done_is request reply done =
    let same : answer_of reply ≡ answer_with 0 (op_kind request.op) reply.count reply.values =
    ap (λ code. answer_with code reply.kind reply.count reply.values) done.code
    ∙ ap (λ kind. answer_with 0 kind reply.count reply.values) done.kind in
    subst (IsAnswerTo request) (sym same) (done_answer request.tid request.op reply.count reply.values done.values)

fault_of : (request : Request) (reply : Reply) → IsFailed request reply → answer_of reply ≡ Fault reply.code reply.count
fault_of request reply failed =
    let other = fault_is_no_success request reply failed in
    let test : reply.code == 0 ≡ false = not_zero reply.code other in
    ap (λ b. if not b then Fault reply.code reply.count else if is_write reply.kind then Done else Values
    reply.values) test

failed_is : (request : Request) (reply : Reply) → IsFailed request reply → IsAnswerTo request (answer_of reply)
failed_is request reply failed =
    subst (IsAnswerTo request) (sym (fault_of request reply failed)) (length reply.values, failed.fault)

-- ---- an answer that is done is no fault and not skipped

no_fault : (request : Request) (reply : Reply) (code after : ℕ) → IsDone request reply → answer_of reply
    ≡ Fault code after → ⊥
no_fault request reply code after done same =
    by_test (is_write reply.kind) reply.values code after
    (sym (ap (λ c. answer_with c reply.kind reply.count reply.values) done.code) ∙ same)

not_skipped : (reply : Reply) → answer_of reply ≡ Skipped → ⊥
not_skipped reply same = never_skipped (not (reply.code == 0)) (is_write reply.kind) reply.code reply.count
    reply.values same

-- ---- lists of answers

skipped_at : (n i : ℕ) (answer : Answer) → slice_get (replicate n Skipped) i ≡ Some answer → answer ≡ Skipped
skipped_at zero i answer here = absurd cc
skipped_at (suc n) zero answer here = sym (some_is Skipped answer here)
skipped_at (suc n) (suc i) answer here = skipped_at n i answer here

-- the answers behind a failed request
failed_more : (request : Request) (reply : Reply) (requests : List Request) (replies : List Reply) → replies ≡ []
    → answers_to (request ∷ requests) (reply ∷ replies) ≡ answer_of reply ∷ replicate (length requests) Skipped
failed_more request reply requests replies none =
    let all : length requests - 0 ≡ length requests = omega arith in
    answers_more request reply requests replies
    ∙ ap (λ rs. answer_of reply ∷ answers_to requests rs) none
    ∙ ap (λ n. answer_of reply ∷ replicate n Skipped) all

answer_at : (requests : List Request) (replies : List Reply) (i : ℕ) (request : Request) (answer : Answer)
    → Answers requests [] replies → slice_get requests i ≡ Some request
    → slice_get (answers_to requests replies) i ≡ Some answer → IsAnswerTo request answer
answer_at [] replies i request answer goes own here = absurd cc
answer_at (first ∷ requests) [] i request answer goes own here = absurd goes
answer_at (first ∷ requests) (reply ∷ replies) zero request answer (inl done) own here =
    let answer_is = some_is (answer_of reply) answer
    (sym (ap (λ xs. slice_get xs zero) (answers_more first reply requests replies)) ∙ here) in
    subst (λ r. IsAnswerTo r answer) (some_is first request own)
    (subst (IsAnswerTo first) answer_is (done_is first reply done.0))
answer_at (first ∷ requests) (reply ∷ replies) (suc i) request answer (inl done) own here =
    answer_at requests replies i request answer done.1 own
    (sym (ap (λ xs. slice_get xs (suc i)) (answers_more first reply requests replies)) ∙ here)
answer_at (first ∷ requests) (reply ∷ replies) zero request answer (inr failed) own here =
    let answer_is = some_is (answer_of reply) answer
    (sym (ap (λ xs. slice_get xs zero) (answers_more first reply requests replies)) ∙ here) in
    subst (λ r. IsAnswerTo r answer) (some_is first request own)
    (subst (IsAnswerTo first) answer_is (failed_is first reply failed.0))
answer_at (first ∷ requests) (reply ∷ replies) (suc i) request answer (inr failed) own here =
    let skipped = skipped_at (length requests) i answer
    (sym (ap (λ xs. slice_get xs (suc i)) (failed_more first reply requests replies failed.1)) ∙ here) in
    subst (IsAnswerTo request) (sym skipped) tt

pub joined_answer : ((left right : List Request) → AreRequests left → AreRequests right
    → requests_words left ≡ requests_words right → left ≡ right) → (body reply : List ℕ) (answers : List Answer)
    → (requests : List Request) (i : ℕ) (request : Request) (answer : Answer) → IsJoined body reply answers
    → AreRequests requests → body ≡ requests_words requests → slice_get requests i ≡ Some request
    → slice_get answers i ≡ Some answer → IsAnswerTo request answer
joined_answer one_list body reply answers requests i request answer joined ranges spelled own here =
    let is = joined.0 in
    let same : requests ≡ is.requests = one_list requests is.requests ranges is.ranges (sym spelled ∙ is.asked) in
    answer_at is.requests is.replies i request answer is.answers (sym (ap (λ rs. slice_get rs i) same) ∙ own)
    (sym (ap (λ xs. slice_get xs i) joined.1) ∙ here)

-- ---- which are skipped

-- one answer more at the front
behind_more : (answers : List Answer) (answer : Answer) (place : ℕ) → IsBehindFault answers place
    → IsBehindFault (answer ∷ answers) (suc place)
behind_more answers answer place is = record {
  earlier = suc is.earlier;
  code = is.code;
  after = is.after;
  before = omega (arith, is.before);
  fault = is.fault;
}

behind_first : (answers : List Answer) (answer : Answer) (code after place : ℕ) → answer ≡ Fault code after
    → IsBehindFault (answer ∷ answers) (suc place)
behind_first answers answer code after place is = record {
  earlier = zero;
  code = code;
  after = after;
  before = omega arith;
  fault = ap (λ x. Some x) is;
}

-- a skipped answer stands behind a fault
skipped_is : (requests : List Request) (replies : List Reply) (i : ℕ) → Answers requests [] replies
    → slice_get (answers_to requests replies) i ≡ Some Skipped → IsBehindFault (answers_to requests replies) i
skipped_is [] replies i goes here =
    absurd (let none : slice_get (answers_to [] replies) i ≡ None = ap (λ rs. slice_get (answers_to [] rs) i) goes in
    cc)
skipped_is (first ∷ requests) [] i goes here = absurd goes
skipped_is (first ∷ requests) (reply ∷ replies) zero goes here =
    let same = some_is (answer_of reply) Skipped
    (sym (ap (λ xs. slice_get xs zero) (answers_more first reply requests replies)) ∙ here) in
    absurd (not_skipped reply same)
skipped_is (first ∷ requests) (reply ∷ replies) (suc i) (inl done) here =
    let more = answers_more first reply requests replies in
    let later = skipped_is requests replies i done.1 (sym (ap (λ xs. slice_get xs (suc i)) more) ∙ here) in
    subst (λ xs. IsBehindFault xs (suc i)) (sym more) (behind_more (answers_to requests replies) (answer_of reply) i
    later)
skipped_is (first ∷ requests) (reply ∷ replies) (suc i) (inr failed) here =
    let more = answers_more first reply requests replies in
    subst (λ xs. IsBehindFault xs (suc i)) (sym more)
    (behind_first (answers_to requests replies) (answer_of reply) reply.code reply.count i
    (fault_of first reply failed.0))

-- an answer behind a fault is skipped
behind_is : (requests : List Request) (replies : List Reply) (i j code after : ℕ) (answer : Answer)
    → Answers requests [] replies → j < i → slice_get (answers_to requests replies) j ≡ Some (Fault code after)
    → slice_get (answers_to requests replies) i ≡ Some answer → answer ≡ Skipped
behind_is [] replies i j code after answer goes less fault here =
    absurd (let none : slice_get (answers_to [] replies) i ≡ None = ap (λ rs. slice_get (answers_to [] rs) i) goes in
    cc)
behind_is (first ∷ requests) [] i j code after answer goes less fault here = absurd goes
behind_is (first ∷ requests) (reply ∷ replies) zero j code after answer goes less fault here = absurd (omega arith)
behind_is (first ∷ requests) (reply ∷ replies) (suc i) zero code after answer (inl done) less fault here =
    let same = some_is (answer_of reply) (Fault code after)
    (sym (ap (λ xs. slice_get xs zero) (answers_more first reply requests replies)) ∙ fault) in
    absurd (no_fault first reply code after done.0 same)
behind_is (first ∷ requests) (reply ∷ replies) (suc i) (suc j) code after answer (inl done) less fault here =
    let more = answers_more first reply requests replies in
    behind_is requests replies i j code after answer done.1 (omega arith)
    (sym (ap (λ xs. slice_get xs (suc j)) more) ∙ fault) (sym (ap (λ xs. slice_get xs (suc i)) more) ∙ here)
behind_is (first ∷ requests) (reply ∷ replies) (suc i) j code after answer (inr failed) less fault here =
    skipped_at (length requests) i answer
    (sym (ap (λ xs. slice_get xs (suc i)) (failed_more first reply requests replies failed.1)) ∙ here)

pub skipped_behind : (body reply : List ℕ) (answers : List Answer) (i : ℕ) (answer : Answer) → IsJoined body reply
    answers
    → slice_get answers i ≡ Some answer → answer ≡ Skipped → IsBehindFault answers i
skipped_behind body reply answers i answer joined here skipped =
    let is = joined.0 in
    let there : slice_get (answers_to is.requests is.replies) i ≡ Some Skipped =
    sym (ap (λ xs. slice_get xs i) joined.1) ∙ here ∙ ap (λ x. Some x) skipped in
    subst (λ xs. IsBehindFault xs i) (sym joined.1) (skipped_is is.requests is.replies i is.answers there)

pub behind_skipped : (body reply : List ℕ) (answers : List Answer) (i : ℕ) (answer : Answer) → IsJoined body reply
    answers
    → slice_get answers i ≡ Some answer → IsBehindFault answers i → answer ≡ Skipped
behind_skipped body reply answers i answer joined here behind =
    let is = joined.0 in
    behind_is is.requests is.replies i behind.earlier behind.code behind.after answer is.answers behind.before
    (sym (ap (λ xs. slice_get xs behind.earlier) joined.1) ∙ behind.fault)
    (sym (ap (λ xs. slice_get xs i) joined.1) ∙ here)
