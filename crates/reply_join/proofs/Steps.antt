-- Joining step by step: what is left gives what the whole gives.
use Rattle.std.proofs.Common.{◌≡◌, ◌≢◌, ◌⊎◌, inl, inr, ℕ, ◌+◌, ◌-◌, ◌<◌, ◌≤◌, List, [], ◌∷◌, ◌++◌, length, refl, sym}
use Rattle.std.proofs.Common.{ap, subst, ◌∙◌, append_assoc, arith}
use Rattle.std.proofs.lemmas.List.{length-append, append-nil, nil_from_length}
use Rattle.transaction_codec.specs.declared.request.Request.{Request}
use Rattle.transaction_codec.specs.declared.reply.Reply.{Reply}
use Rattle.transaction_codec.specs.Request.{IsRequest, request_words}
use Rattle.transaction_codec.specs.Reply.{reply_words}
use Rattle.transaction_codec.specs.Answer.{IsDone, IsFailed, IsReplyTo}
use Rattle.reply_join.specs.declared.answer.Answer.{Answer}
use Rattle.transaction_codec.specs.Request.{SpellsRequests}
use Rattle.reply_join.specs.Joining.{IsJoined, answer_of, answers_to}
use Rattle.reply_join.specs.Garbled.{IsGarbledAt}
use Rattle.reply_join.specs.Progress.{IsReplyOf, HasNoReply, AreSkipped, fault_place}
use Rattle.reply_join.specs.declared.joining.NoReply.{NoReply}
use Rattle.reply_join.specs.declared.joining.NoReply.TheVariants.{Header, TooShort}
use Rattle.reply_join.proofs.Headers.{fault_is_no_success}
use Rattle.reply_join.proofs.Parts.{reply_to_nothing}
use Rattle.reply_join.proofs.Garbled.{no_header, ends_early, garbled_later, garbled_behind_fault, garbled_end}
use Rattle.reply_join.proofs.Joined.{joined_nothing, joined_done, joined_failed, one_answers}

-- What the requests and the words that are left give, the whole body and reply give: the answers so far stand before
-- theirs, and a fault among these words is one of the reply. Behind a request that failed none is left.
pub record Underway (body reply asked rest : List ℕ) (answers : List Answer) : Type 0 where
  pub requests : SpellsRequests asked
  pub within : length rest ≤ length reply
  pub joined : (later : List Answer) → IsJoined asked rest later → IsJoined body reply (answers ++ later)
  pub garbled : (place : ℕ) → IsGarbledAt asked rest place → IsGarbledAt body reply (length reply - length rest + place)

pub underway_at_first : (body reply : List ℕ) (answers : List Answer) → SpellsRequests body → answers ≡ []
    → Underway body reply body reply answers
underway_at_first body reply answers is none = record {
  requests = is;
  within = omega arith;
  joined = λ later joined. subst (λ (front : List Answer). IsJoined body reply (front ++ later)) (sym none) joined;
  garbled = λ place garbled. subst (IsGarbledAt body reply) (omega arith) garbled;
}

is_done : (request : Request) (reply : Reply) → IsDone request reply ⊎ IsFailed request reply → reply.code ≡ 0
    → IsDone request reply
is_done request reply (inl done) code = done
is_done request reply (inr failed) code = absurd (fault_is_no_success request reply failed code)

is_failed : (request : Request) (reply : Reply) → IsDone request reply ⊎ IsFailed request reply → reply.code ≢ 0
    → IsFailed request reply
is_failed request reply (inl done) code = absurd (code done.code)
is_failed request reply (inr failed) code = failed

only_nothing : (rest : List ℕ) (later : List Answer) → IsJoined [] rest later → (rest ≡ []) × (later ≡ [])
only_nothing rest later joined =
    let none = reply_to_nothing rest joined.0 in
    let here = subst (λ (ws : List ℕ). IsJoined [] ws later) none joined in
    (none, here.1 ∙ one_answers [] [] here.0 joined_nothing.0 ∙ sym joined_nothing.1)

pub answer_pushed : (answers new : List Answer) (pushed answer : Answer) → new ≡ answers ++ pushed ∷ [] → pushed
    ≡ answer → new ≡ answers ++ answer ∷ []
answer_pushed answers new pushed answer new_is same = new_is ∙ ap (λ (last : Answer). answers ++ last ∷ []) same

-- ---- one request and its reply

module _ (body reply asked rest asked_left rest_left : List ℕ) (answers : List Answer) (request : Request)
    (first : Reply) (under : Underway body reply asked rest answers)
    (is : IsRequest request) (answer : IsReplyOf request first) (parts : asked ≡ request_words request ++ asked_left)
    (spelled : rest ≡ reply_words first ++ rest_left) where
  moved : (place : ℕ) → IsGarbledAt (request_words request ++ asked_left) (reply_words first ++ rest_left)
      (length (reply_words first) + place)
      → IsGarbledAt body reply (length reply - length rest_left + place)
  moved place garbled =
      let here : IsGarbledAt asked rest (length (reply_words first) + place) = rw (parts, spelled) garbled in
      subst (IsGarbledAt body reply) (omega (
        arith,
        under.within,
        ap length spelled,
        length-append (reply_words first)
            rest_left,
      )) (under.garbled (length (reply_words first) + place) here)

  fewer : length rest_left ≤ length reply
  fewer = omega (arith, under.within, ap length spelled, length-append (reply_words first) rest_left)

  pushed : (middle later : List Answer) → middle ≡ answers ++ answer_of first ∷ []
      → IsJoined (request_words request ++ asked_left) (reply_words first ++ rest_left) (answer_of first ∷ later)
      → IsJoined body reply (middle ++ later)
  pushed middle later middle_is joined =
      let here : IsJoined asked rest (answer_of first ∷ later) = rw (parts, spelled) joined in
      let list : answers ++ answer_of first ∷ later ≡ middle ++ later =
      sym (append_assoc answers (answer_of first ∷ []) later) ∙ ap (λ (front : List Answer). front ++ later)
      (sym middle_is) in
      subst (IsJoined body reply) list (under.joined (answer_of first ∷ later) here)

  after_done : (middle : List Answer) → middle ≡ answers ++ answer_of first ∷ [] → SpellsRequests asked_left
      → IsDone request first → Underway body reply asked_left rest_left middle
  after_done middle middle_is left done = record {
    requests = left;
    within = fewer;
    joined = λ later joined. pushed middle later middle_is (joined_done request first asked_left rest_left later is
        answer.is done joined);
    garbled = λ place garbled. moved place (garbled_later request first asked_left is answer.is rest_left place done
        garbled);
  }

  joined_behind : (middle more later : List Answer) → middle ≡ answers ++ answer_of first ∷ [] → AreSkipped asked_left
      more → IsFailed request first → IsJoined [] rest_left later
      → IsJoined body reply ((middle ++ more) ++ later)
  joined_behind middle more later middle_is skipped failed joined =
      let none = only_nothing rest_left later joined in
      let whole = subst (λ (ws : List ℕ). IsJoined (request_words request ++ asked_left) (reply_words first ++ ws)
      (answer_of first ∷ more)) (sym none.0)
      (joined_failed request first asked_left more is answer.is failed skipped) in
      subst (IsJoined body reply) (sym (append-nil (middle ++ more)) ∙ ap (λ (back : List Answer). (middle ++ more)
      ++ back) (sym none.1)) (pushed middle more middle_is whole)

  after_failed : (middle more : List Answer) → middle ≡ answers ++ answer_of first ∷ [] → SpellsRequests asked_left
      → AreSkipped asked_left more → IsFailed request first
      → Underway body reply [] rest_left (middle ++ more)
  after_failed middle more middle_is left skipped failed = record {
    requests = ([], tt, refl);
    within = fewer;
    joined = λ later joined. joined_behind middle more later middle_is skipped failed joined;
    garbled = λ place garbled. moved place (garbled_behind_fault request first asked_left is answer.is rest_left place
        failed left garbled);
  }

  pub step : (middle new : List Answer) (left : List ℕ) → middle ≡ answers ++ answer_of first ∷ []
      → SpellsRequests asked_left
      → ((first.code ≡ 0) × (left ≡ asked_left) × (new ≡ middle)) ⊎ ((first.code ≢ 0) × (left ≡ [])
      × ((more : List Answer) × AreSkipped asked_left more × (new ≡ middle ++ more)))
      → Underway body reply left rest_left new
  step middle new left middle_is body_left (inl done) =
      rw (done.1, done.2) (after_done middle middle_is body_left (is_done request first answer.answers done.0))
  step middle new left middle_is body_left (inr failed) =
      let more = failed.2 in
      rw (failed.1, more.2) (after_failed middle more.0 middle_is body_left more.1
      (is_failed request first answer.answers failed.0))

-- ---- the ends

-- the place where no reply to the next request stands
pub none_at : (body reply asked rest asked_left : List ℕ) (why : NoReply) (answers : List Answer) (request : Request)
    → Underway body reply asked rest answers → IsRequest request
    → asked ≡ request_words request ++ asked_left → SpellsRequests asked_left → HasNoReply request rest why
    → IsGarbledAt body reply (fault_place why (length reply) (length rest))
none_at body reply asked rest asked_left Header answers request under is parts later bad =
    subst (IsGarbledAt body reply) (omega arith)
    (under.garbled 0 (rw parts (no_header request asked_left rest is (subst SpellsRequests parts under.requests) bad)))
none_at body reply asked rest asked_left TooShort answers request under is parts later short =
    subst (IsGarbledAt body reply) (omega (arith, under.within))
    (under.garbled (length rest) (rw parts (ends_early request asked_left rest is later short)))

pub words_left : (body reply asked rest : List ℕ) (answers : List Answer) → Underway body reply asked rest answers
    → length asked ≡ 0 → 0 < length rest
    → IsGarbledAt body reply (length reply - length rest)
words_left body reply asked rest answers under none some =
    subst (IsGarbledAt body reply) (omega arith)
    (under.garbled 0 (rw (nil_from_length asked none) (garbled_end rest some)))

pub all_joined : (body reply asked rest : List ℕ) (answers : List Answer) → Underway body reply asked rest answers
    → length asked ≡ 0 → length rest ≡ 0 → IsJoined body reply answers
all_joined body reply asked rest answers under none over =
    let here : IsJoined asked rest [] = rw (nil_from_length asked none, nil_from_length rest over) joined_nothing in
    subst (IsJoined body reply) (append-nil answers) (under.joined [] here)

pub joined_is : (body reply : List ℕ) (answers : List Answer) → IsJoined body reply answers
    → (is : IsReplyTo body reply) → answers ≡ answers_to is.requests is.replies
joined_is body reply answers joined is = joined.1 ∙ one_answers body reply joined.0 is
