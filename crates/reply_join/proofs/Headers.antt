-- The headers of the replies to a request.
use Rattle.std.proofs.Common.{◌≡◌, ◌⊎◌, inl, inr, ℕ, ◌-◌, ◌^◌, ◌<◌, ◌≤◌, List, [], ◌∷◌, ◌++◌, length, take, drop}
use Rattle.std.proofs.Common.{get_or, replicate, refl, subst, sym, ap, ◌∙◌, arith}
use Rattle.std.proofs.lemmas.List.{length-append, length-replicate, length-take, length-drop, take-append-drop}
use Rattle.std.proofs.lemmas.List.{take_all}
use Rattle.ipb_base.specs.Word.{AreWords}
use Rattle.transaction_codec.specs.declared.request.Op.{Op}
use Rattle.transaction_codec.specs.declared.request.Op.TheVariants.{Read, ReadPort, Write, WritePort, RmwBits, RmwSum}
use Rattle.transaction_codec.specs.declared.request.Request.{Request}
use Rattle.transaction_codec.specs.declared.reply.Reply.{Reply}
use Rattle.transaction_codec.specs.Header.{header}
use Rattle.transaction_codec.specs.Request.{op_kind, op_count, IsRequest}
use Rattle.transaction_codec.specs.Reply.{IsBusFault, Carries, values_after, reply_words}
use Rattle.transaction_codec.specs.Answer.{values_done, Fails, IsDone, IsFailed}
use Rattle.reply_join.specs.Progress.{IsOutcome, IsHeaderTo, IsReplyOf, IsShort}
use Rattle.ipb_base.proofs.WordLemmas.{AreWords-append, AreWords-take, AreWords-zeros}

-- ---- a request that was done

carries_done : (op : Op) (count carried : ℕ) → count ≡ op_count op → carried ≡ values_after (op_kind op) count
    → Carries 1 (op_kind op) count carried
carries_done (Read base all) count carried c v = inl (inl refl, v)
carries_done (ReadPort base all) count carried c v = inl (inr refl, v)
carries_done (Write base words) count carried c v = inr (inl (inl refl, v))
carries_done (WritePort base words) count carried c v = inr (inl (inr refl, v))
carries_done (RmwBits base and_term or_term) count carried c v = inr (inr (inl refl, c, v ∙ c))
carries_done (RmwSum base addend) count carried c v = inr (inr (inr refl, c, v ∙ c))

values_all : (op : Op) (count carried : ℕ) → count ≡ op_count op → carried ≡ values_after (op_kind op) count → carried
    ≡ values_done op
values_all (Read base all) count carried c v = v ∙ c
values_all (ReadPort base all) count carried c v = v ∙ c
values_all (Write base words) count carried c v = v
values_all (WritePort base words) count carried c v = v
values_all (RmwBits base and_term or_term) count carried c v = v ∙ c
values_all (RmwSum base addend) count carried c v = v ∙ c

-- ---- a request that failed

is_fault : (code low high : ℕ) → 4 ≤ low → high ≤ 7 → low ≤ high → (code ≡ low) ⊎ (code ≡ high) → IsBusFault code
is_fault code low high l h lh (inl e) = (omega arith, omega arith)
is_fault code low high l h lh (inr e) = (omega arith, omega arith)

fault_code : (op : Op) (code count carried : ℕ) → Fails op code count carried → IsBusFault code
fault_code (Read base all) code count carried fails = is_fault code 4 6 (omega arith) (omega arith) (omega arith)
    fails.0
fault_code (ReadPort base all) code count carried fails = is_fault code 4 6 (omega arith) (omega arith) (omega arith)
    fails.0
fault_code (Write base words) code count carried fails = is_fault code 5 7 (omega arith) (omega arith) (omega arith)
    fails.0
fault_code (WritePort base words) code count carried fails = is_fault code 5 7 (omega arith) (omega arith)
    (omega arith) fails.0
fault_code (RmwBits base and_term or_term) code count carried fails = fails.0
fault_code (RmwSum base addend) code count carried fails = fails.0

carries_failed : (op : Op) (code count carried : ℕ) → Fails op code count carried → Carries 0 (op_kind op) count carried
carries_failed (Read base all) code count carried fails = inl (inl refl, fails.2)
carries_failed (ReadPort base all) code count carried fails = inl (inr refl, fails.2)
carries_failed (Write base words) code count carried fails = inr (inl (inl refl, fails.2))
carries_failed (WritePort base words) code count carried fails = inr (inl (inr refl, fails.2))
carries_failed (RmwBits base and_term or_term) code count carried fails = inr (inr (inl refl, fails.1, fails.2))
carries_failed (RmwSum base addend) code count carried fails = inr (inr (inr refl, fails.1, fails.2))

failed_count : (op : Op) (code count carried : ℕ) → Fails op code count carried → op_count op < 2 ^ 8 → count < 2 ^ 8
failed_count (Read base all) code count carried fails lt = omega (arith, fails.1)
failed_count (ReadPort base all) code count carried fails lt = omega (arith, fails.1)
failed_count (Write base words) code count carried fails lt = omega (arith, fails.1)
failed_count (WritePort base words) code count carried fails lt = omega (arith, fails.1)
failed_count (RmwBits base and_term or_term) code count carried fails lt = omega (arith, fails.1)
failed_count (RmwSum base addend) code count carried fails lt = omega (arith, fails.1)

-- the header tells how many values a failed reply carries
fails_again : (op : Op) (code count carried : ℕ) → Fails op code count carried → Fails op code count
    (values_after (op_kind op) count)
fails_again (Read base all) code count carried fails = (fails.0, fails.1, refl)
fails_again (ReadPort base all) code count carried fails = (fails.0, fails.1, refl)
fails_again (Write base words) code count carried fails = (fails.0, fails.1, refl)
fails_again (WritePort base words) code count carried fails = (fails.0, fails.1, refl)
fails_again (RmwBits base and_term or_term) code count carried fails = (fails.0, fails.1, fails.1)
fails_again (RmwSum base addend) code count carried fails = (fails.0, fails.1, fails.1)

-- ---- headers and replies

-- the reply to a request with this words field, info code and values
abbrev pub reply_with : Request → ℕ → ℕ → List ℕ → Reply
reply_with request count code values = record {
  tid = request.tid;
  kind = op_kind request.op;
  count = count;
  code =
      code;
  values = values;
}

-- a header of a reply to the request and as many words as it tells are a reply to the request
pub answer_from : (request : Request) (count code : ℕ) (values : List ℕ) → IsRequest request → IsOutcome request.op
    count code → AreWords values
    → length values ≡ values_after (op_kind request.op) count → IsReplyOf request (reply_with request count code values)
answer_from request count code values is (inl done) fits len = record {
  is = record {
    tid = is.tid;
    count = omega (arith, done.1, is.count);
    form = inl (done.0, carries_done request.op count (length values) done.1 len);
    values = fits;
  };
  answers = inl (record {
    tid = refl;
    kind = refl;
    code = done.0;
    count = done.1;
    values =
        values_all request.op count (length values) done.1 len;
  });
}
answer_from request count code values is (inr fails) fits len =
    let failed : Fails request.op code count (length values) = rw len fails in
    record {
      is = record {
        tid = is.tid;
        count = failed_count request.op code count (length values) failed is.count;
        form = inr (inl (
          fault_code request.op code count (length values) failed,
          carries_failed request.op code count
              (length values) failed,
        ));
        values = fits;
      };
      answers = inr (record { tid = refl; kind = refl; fault = failed });
    }

answer_outcome : (request : Request) (reply : Reply) → IsDone request reply ⊎ IsFailed request reply
    → (reply.tid ≡ request.tid) × (reply.kind ≡ op_kind request.op) × IsOutcome request.op reply.count reply.code
answer_outcome request reply (inl done) = (done.tid, done.kind, inl (done.code, done.count))
answer_outcome request reply (inr failed) =
    (failed.tid, failed.kind, inr (fails_again request.op reply.code reply.count (length reply.values) failed.fault))

-- a reply to the request begins with a header of one
pub header_from : (request : Request) (reply : Reply) → IsReplyOf request reply → IsHeaderTo request
    (header reply.tid reply.count reply.kind reply.code) reply.count reply.code
header_from request reply is =
    let at = answer_outcome request reply is.answers in (
      ap (λ n. header n reply.count reply.kind reply.code) at.0 ∙ ap (λ n. header request.tid reply.count n reply.code)
          at.1,
      at.2,
    )

-- a reply to the request has its type
pub kind_is : (request : Request) (reply : Reply) → IsReplyOf request reply → reply.kind ≡ op_kind request.op
kind_is request reply is = (answer_outcome request reply is.answers).1

pub fault_is_no_success : (request : Request) (reply : Reply) → IsFailed request reply → reply.code ≡ 0 → ⊥
fault_is_no_success request reply failed success =
    let fault = fault_code request.op reply.code reply.count (length reply.values) failed.fault in
    omega (arith, fault.0, success)

pub done_not_failed : (request : Request) (reply : Reply) → IsDone request reply → IsFailed request reply → ⊥
done_not_failed request reply done failed = fault_is_no_success request reply failed done.code

-- ---- a header and the words behind it

-- fewer words than the header tells
pub short_of : (request : Request) (word count code : ℕ) (after : List ℕ) → IsRequest request → IsHeaderTo request
    word count code → AreWords after
    → length after < values_after (op_kind request.op) count → IsShort request (word ∷ after)
short_of request word count code after is head fits few =
    let missing : ℕ = values_after (op_kind request.op) count - length after in
    let values : List ℕ = after ++ replicate missing 0 in
    let len : length values ≡ values_after (op_kind request.op) count =
    omega (arith, few, length-append after (replicate missing 0), length-replicate {A = ℕ} missing 0) in
    record {
      reply = reply_with request count code values;
      more = replicate missing 0;
      is = answer_from request count code values is head.1 (AreWords-append after (replicate missing 0) fits
          (AreWords-zeros missing)) len;
      some = omega (arith, few, length-replicate {A = ℕ} missing 0);
      spelled = ap (λ n. n ∷ values) (sym head.0);
    }

-- as many as it tells
pub whole_of : (request : Request) (word count code : ℕ) (after : List ℕ) → IsRequest request → IsHeaderTo request
    word count code → AreWords after
    → values_after (op_kind request.op) count ≤ length after
    → IsReplyOf request (reply_with request count code (take (values_after (op_kind request.op) count) after))
    × (word ∷ after ≡ reply_words (reply_with request count code (take (values_after (op_kind request.op) count)
    after)) ++ drop (values_after (op_kind request.op) count) after)
whole_of request word count code after is head fits enough =
    let n : ℕ = values_after (op_kind request.op) count in (
      answer_from request count code (take n after) is head.1 (AreWords-take n after fits)
          (omega (arith, enough, length-take n after)),
      ap (λ w. w ∷ after) head.0 ∙ ap (λ (ws : List ℕ). header request.tid count (op_kind request.op) code ∷ ws)
          (sym (take-append-drop n after)),
    )

-- the rest of a slice to its end
pub to_its_end : (n : ℕ) (words : List ℕ) → take (length words - n) (drop n words) ≡ drop n words
to_its_end n words = take_all (length words - n) (drop n words) (omega (arith, length-drop n words))

pub first_and_rest : (words : List ℕ) → 0 < length words → words ≡ get_or words 0 0 ∷ take (length words - 1)
    (drop 1 words)
first_and_rest [] some = absurd (omega arith)
first_and_rest (word ∷ words) some = ap (λ (ws : List ℕ). word ∷ ws) (sym (to_its_end 1 (word ∷ words)))

-- the reply that was read, in the code's words
pub found_of : (request : Request) (words after rest : List ℕ) (word count code kind n : ℕ) → IsRequest request
    → AreWords words → words ≡ word ∷ after → IsHeaderTo request word count code
    → kind ≡ op_kind request.op → n ≡ values_after (op_kind request.op) count → n ≤ length after → rest ≡ drop n after
    → IsReplyOf request (record { tid = request.tid; kind = kind; count = count; code = code; values = take n after })
    × (words ≡ header request.tid count kind code ∷ (take n after ++ rest))
found_of request words after rest word count code kind n is fits parts head kind_is n_is enough rest_is =
    let words_fit : AreWords (word ∷ after) = subst AreWords parts fits in
    rw (kind_is, n_is, rest_is, parts) (rw n_is (whole_of request word count code after is head words_fit.1
    (omega (arith, enough, n_is))))

pub short_of_slice : (request : Request) (words after : List ℕ) (word count code n : ℕ) → IsRequest request
    → AreWords words → words ≡ word ∷ after → IsHeaderTo request word count code
    → n ≡ values_after (op_kind request.op) count → length after < n → IsShort request words
short_of_slice request words after word count code n is fits parts head n_is few =
    let words_fit : AreWords (word ∷ after) = subst AreWords parts fits in
    subst (IsShort request) (sym parts) (short_of request word count code after is head words_fit.1
    (omega (arith, few, n_is)))
