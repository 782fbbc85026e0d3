-- The longest answer to a body, request by request.
use Rattle.std.proofs.Common.{subst, ◌≡◌, ℕ, zero, suc, ◌+◌, ◌^◌, ◌<◌, ◌≤◌, List, [], ◌∷◌, ◌++◌, length, Result, Ok}
use Rattle.std.proofs.Common.{Err, IsErr, refl, sym, ap, ◌∙◌, append_assoc, arith, inl, inr, ◌⊎◌, replicate}
use Rattle.std.proofs.Common.{length-append, lit<}
use Rattle.std.proofs.lemmas.List.{append-nil}
use Rattle.std.proofs.lemmas.List.Concat.{flat_map-cons}
use Rattle.std.specs.Prelude.{is_err, true}
use Rattle.ipb_base.specs.Word.{AreWords}
use Rattle.transaction_codec.specs.declared.request.Op.{Op}
use Rattle.transaction_codec.specs.declared.request.Op.TheVariants.{Read, ReadPort, Write, WritePort, RmwBits, RmwSum}
use Rattle.transaction_codec.specs.declared.request.Request.{Request}
use Rattle.transaction_codec.specs.declared.reply.Reply.{Reply}
use Rattle.transaction_codec.specs.declared.refusal.Why.{Why}
use Rattle.transaction_codec.specs.Request.{op_kind, op_count, IsRequest, AreRequests, request_words, requests_words}
use Rattle.transaction_codec.specs.Request.{BreaksRequest, request_at, NoRequestAtFront}
use Rattle.transaction_codec.specs.Reply.{Carries, IsReply, AreReplies, reply_words, replies_words}
use Rattle.transaction_codec.specs.Answer.{values_done, Fails, IsDone, IsFailed, Answers, bad_header_reply, ending_of}
use Rattle.transaction_codec.specs.Answer.{IsReplyTo, CanAnswer, IsLongestAnswer, room_first, room_from, reply_room}
use Rattle.transaction_codec.proofs.Lists.{same_first}
use Rattle.transaction_codec.proofs.Formats.{requests_format}
use Rattle.transaction_codec.proofs.Transactions.{found}
use Rattle.transaction_codec.proofs.Requests.{request_again, requests_read}
use Rattle.ipb_base.proofs.WordLemmas.{AreWords-after, AreWords-zeros}

-- ---- a reply that was done

zeros : ℕ → List ℕ
zeros n = replicate n 0

zeros-len : (n : ℕ) → length (zeros n) ≡ n
unfolding zeros
zeros-len zero = refl
zeros-len (suc n) = ap suc (zeros-len n)

zeros-words : (n : ℕ) → AreWords (zeros n)
unfolding zeros
zeros-words n = AreWords-zeros n

carries_done : (op : Op) → Carries 1 (op_kind op) (op_count op) (values_done op)
carries_done (Read base count) = inl (inl refl, refl)
carries_done (ReadPort base count) = inl (inr refl, refl)
carries_done (Write base words) = inr (inl (inl refl, refl))
carries_done (WritePort base words) = inr (inl (inr refl, refl))
carries_done (RmwBits base and_term or_term) = inr (inr (inl refl, refl, refl))
carries_done (RmwSum base addend) = inr (inr (inr refl, refl, refl))

pub values_small : (op : Op) → op_count op < 2 ^ 8 → values_done op < 2 ^ 8
values_small (Read base count) lt = lt
values_small (ReadPort base count) lt = lt
values_small (Write base words) lt = lit< tt
values_small (WritePort base words) lt = lit< tt
values_small (RmwBits base and_term or_term) lt = lit< tt
values_small (RmwSum base addend) lt = lit< tt

-- a failed reply carries no more words
fewer_failed : (op : Op) (code count carried : ℕ) → Fails op code count carried → carried ≤ values_done op
fewer_failed (Read base asked) code count carried fails = omega (arith, fails.1, fails.2)
fewer_failed (ReadPort base asked) code count carried fails = omega (arith, fails.1, fails.2)
fewer_failed (Write base words) code count carried fails = omega (arith, fails.2)
fewer_failed (WritePort base words) code count carried fails = omega (arith, fails.2)
fewer_failed (RmwBits base and_term or_term) code count carried fails = omega (arith, fails.2)
fewer_failed (RmwSum base addend) code count carried fails = omega (arith, fails.2)

done_reply : Request → Reply
done_reply request = record {
  tid = request.tid;
  kind = op_kind request.op;
  count = op_count request.op;
  code =
      0;
  values = zeros (values_done request.op);
}

done_is_done : (request : Request) → IsDone request (done_reply request)
unfolding done_reply
done_is_done request = record {
  tid = refl;
  kind = refl;
  code = refl;
  count = refl;
  values =
      zeros-len (values_done request.op);
}

done_is_reply : (request : Request) → IsRequest request → IsReply (done_reply request)
unfolding done_reply
done_is_reply request is = record {
  tid = is.tid;
  count = is.count;
  form = inl (refl, rw zeros-len (carries_done request.op));
  values = zeros-words (values_done request.op);
}

-- ---- one request more at the front

-- where nothing is read no request stands
pub no_request : (words : List ℕ) → IsErr (request_at words) → NoRequestAtFront words
no_request words bad request rest is parts =
    let reads : request_at words ≡ Ok (request, rest) = ap request_at parts ∙ request_again request rest is in
    let found : Result (Request × List ℕ) Why = Ok (request, rest) in
    let clash : is_err found ≡ true = ap is_err (sym reads) ∙ bad in
    absurd cc

module _ (request : Request) (rest : List ℕ) (room : ℕ) (is : IsRequest request) (longest : (answer : List ℕ)
    → CanAnswer rest answer → length answer ≤ room) where
  -- a reply that was done is followed by an answer to the rest, and one that failed by nothing
  step_replies : (q : Request) (qs : List Request) (tail : List ℕ) (r : Reply) (rs : List Reply) → request ≡ q
      → AreRequests qs → rest ≡ requests_words qs ++ tail → NoRequestAtFront tail
      → AreReplies rs → (IsDone q r × Answers qs (ending_of tail) rs) ⊎ (IsFailed q r × (rs ≡ []))
      → length (replies_words (r ∷ rs)) ≤ 1 + values_done request.op + room
  step_replies q qs tail r rs same ranges parts bad items (inl done) =
      let can : CanAnswer rest (replies_words rs) =
      record {
        requests = qs;
        rest = tail;
        replies = rs;
        ranges = ranges;
        parts = parts;
        bad = bad;
        items =
            items;
        answers = done.1;
        spelled = refl;
      } in
      let asked : values_done request.op ≡ values_done q.op = ap (λ (x : Request). values_done x.op) same in
      omega (
        arith,
        longest (replies_words rs) can,
        done.0.values,
        asked,
        ap length (flat_map-cons reply_words r rs),
        length-append (reply_words r) (replies_words rs),
      )
  step_replies q qs tail r rs same ranges parts bad items (inr failed) =
      let asked : values_done request.op ≡ values_done q.op = ap (λ (x : Request). values_done x.op) same in
      let fewer = fewer_failed q.op r.code r.count (length r.values) failed.0.fault in
      let last : length (replies_words rs) ≡ 0 = ap (λ (xs : List Reply). length (replies_words xs)) failed.1 in
      omega (
        arith,
        fewer,
        last,
        asked,
        ap length (flat_map-cons reply_words r rs),
        length-append (reply_words r)
            (replies_words rs),
      )

  step_bound : (requests : List Request) (tail : List ℕ) (replies : List Reply) → AreRequests requests
      → request_words request ++ rest ≡ requests_words requests ++ tail
      → NoRequestAtFront tail → AreReplies replies → Answers requests (ending_of tail) replies
      → length (replies_words replies) ≤ 1 + values_done request.op + room
  step_bound [] tail replies ranges parts bad items answers = absurd (bad request rest is (sym parts))
  step_bound (q ∷ qs) tail [] ranges parts bad items answers = absurd answers
  step_bound (q ∷ qs) tail (r ∷ rs) ranges parts bad items answers =
      let spread = ap (λ (ws : List ℕ). ws ++ tail) (flat_map-cons request_words q qs)
      ∙ append_assoc (request_words q) (requests_words qs) tail in
      let same = same_first request_words IsRequest BreaksRequest request_at requests_format request q rest
      (requests_words qs ++ tail) is ranges.0 (parts ∙ spread) in
      step_replies q qs tail r rs same.0 ranges.1 same.1 bad items.1 answers

step_longest : (request : Request) (words rest : List ℕ) (room : ℕ) → IsRequest request → words
    ≡ request_words request ++ rest
    → ((answer : List ℕ) → CanAnswer rest answer → length answer ≤ room)
    → (answer : List ℕ) → CanAnswer words answer → length answer ≤ 1 + values_done request.op + room
step_longest request words rest room is parts longest answer can =
    let bound = step_bound request rest room is longest can.requests can.rest can.replies can.ranges
    (sym parts ∙ can.parts) can.bad can.items can.answers in
    omega (arith, bound, ap length can.spelled)

step_given : (request : Request) (words rest answer : List ℕ) → IsRequest request → words ≡ request_words request
    ++ rest → CanAnswer rest answer
    → CanAnswer words (reply_words (done_reply request) ++ answer)
step_given request words rest answer is parts can = record {
  requests = request ∷ can.requests;
  rest = can.rest;
  replies = done_reply request ∷ can.replies;
  ranges = (is, can.ranges);
  parts = parts ∙ ap (λ (ws : List ℕ). request_words request ++ ws) can.parts
      ∙ sym (append_assoc (request_words request) (requests_words can.requests) can.rest)
      ∙ ap (λ (ws : List ℕ). ws ++ can.rest) (sym (flat_map-cons request_words request can.requests));
  bad = can.bad;
  items = (done_is_reply request is, can.items);
  answers = inl (done_is_done request, can.answers);
  spelled = ap (λ (ws : List ℕ). reply_words (done_reply request) ++ ws) can.spelled
      ∙ sym (flat_map-cons reply_words (done_reply request) can.replies);
}

pub longest_step : (request : Request) (words rest : List ℕ) (room : ℕ) → IsRequest request → words
    ≡ request_words request ++ rest → IsLongestAnswer rest room
    → IsLongestAnswer words (1 + values_done request.op + room)
longest_step request words rest room is parts after = record {
  longest = step_longest request words rest room is parts after.longest;
  answer = reply_words (done_reply request) ++ after.answer;
  given = step_given request words rest after.answer is parts after.given;
  reached = omega (
    arith,
    after.reached,
    length-append (reply_words (done_reply request)) after.answer,
    (done_is_done request).values,
  );
}

-- ---- where no request stands

-- where no request stands the ending is the answer
ended : (words : List ℕ) (requests : List Request) (tail : List ℕ) (replies : List Reply) → NoRequestAtFront words
    → AreRequests requests → words ≡ requests_words requests ++ tail
    → Answers requests (ending_of tail) replies → replies ≡ ending_of words
ended words [] tail replies bad ranges parts answers = answers ∙ ap ending_of (sym parts)
ended words (q ∷ qs) tail replies bad ranges parts answers =
    absurd (bad q (requests_words qs ++ tail) ranges.0
    (parts ∙ ap (λ (ws : List ℕ). ws ++ tail) (flat_map-cons request_words q qs) ∙ append_assoc (request_words q)
    (requests_words qs) tail))

no_more : (words : List ℕ) (room : ℕ) → NoRequestAtFront words → length (replies_words (ending_of words)) ≡ room
    → (answer : List ℕ) → CanAnswer words answer → length answer ≤ room
no_more words room bad ending answer can =
    let last = ended words can.requests can.rest can.replies bad can.ranges can.parts can.answers in
    omega (arith, ending, ap (λ (rs : List Reply). length (replies_words rs)) last, ap length can.spelled)

-- no words do not begin with one
pub nothing_bad : NoRequestAtFront []
nothing_bad request rest is parts = absurd (omega (arith, ap length parts, length-append (request_words request) rest))

nothing_given : CanAnswer [] []
nothing_given = record {
  requests = [];
  rest = [];
  replies = [];
  ranges = tt;
  parts = refl;
  bad = nothing_bad;
  items =
      tt;
  answers = refl;
  spelled = refl;
}

pub longest_nothing : IsLongestAnswer [] 0
longest_nothing = record {
  longest = λ answer can. no_more [] 0 nothing_bad refl answer can;
  answer = [];
  given =
      nothing_given;
  reached = refl;
}

pub bad_is_reply : (word : ℕ) → IsReply (bad_header_reply word)
bad_is_reply word = record {
  tid = omega arith;
  count = lit< tt;
  form = inr (inr (refl, refl, refl, refl));
  values =
      tt;
}

longest_bad : (word : ℕ) (words : List ℕ) (why : Why) → request_at (word ∷ words) ≡ Err why → IsLongestAnswer
    (word ∷ words) 1
longest_bad word words why bad = record {
  longest = no_more (word ∷ words) 1 (no_request (word ∷ words) (ap is_err bad)) refl;
  answer = reply_words (bad_header_reply word);
  given = record {
    requests = [];
    rest = word ∷ words;
    replies = bad_header_reply word ∷ [];
    ranges = tt;
    parts = refl;
    bad = no_request (word ∷ words) (ap is_err bad);
    items = (bad_is_reply word, tt);
    answers = refl;
    spelled = refl;
  };
  reached = refl;
}

-- a slice at whose front no request stands
pub longest_at_fault : (words : List ℕ) (why : Why) → 0 < length words → request_at words ≡ Err why → IsLongestAnswer
    words 1
longest_at_fault [] why some bad = absurd (omega arith)
longest_at_fault (word ∷ words) why some bad = longest_bad word words why bad

-- ---- the room as a number

pub longest_unique : (body : List ℕ) (m n : ℕ) → IsLongestAnswer body m → IsLongestAnswer body n → m ≡ n
longest_unique body m n left right =
    omega (
      arith,
      left.reached,
      right.reached,
      right.longest left.answer left.given,
      left.longest right.answer
          right.given,
    )

room_at : (most : ℕ) (words : List ℕ) (read : Result (Request × List ℕ) Why) → AreWords words → 0 < length words
    → length words ≤ suc most → request_at words ≡ read
    → ((rest : List ℕ) → AreWords rest → length rest ≤ most → IsLongestAnswer rest (room_from most rest))
    → IsLongestAnswer words (room_first read (room_from most))
room_at most words (Ok (request, rest)) fits some short reads later =
    let found = found requests_read words (request, rest) fits reads in
    let rest_fits : AreWords rest = AreWords-after (request_words request) rest (subst AreWords found.1 fits) in
    let rest_short : length rest ≤ most =
    omega (arith, short, ap length found.1, length-append (request_words request) rest) in
    longest_step request words rest (room_from most rest) found.0 found.1 (later rest rest_fits rest_short)
room_at most words (Err why) fits some short reads later = longest_at_fault words why some reads

room_from_longest : (most : ℕ) (words : List ℕ) → AreWords words → length words ≤ most → IsLongestAnswer words
    (room_from most words)
room_from_longest zero [] fits short = longest_nothing
room_from_longest zero (word ∷ words) fits short = absurd (omega arith)
room_from_longest (suc most) [] fits short = longest_nothing
room_from_longest (suc most) (word ∷ words) fits short =
    room_at most (word ∷ words) (request_at (word ∷ words)) fits (omega arith) short refl (room_from_longest most)

pub reply_room_longest : (body : List ℕ) → AreWords body → IsLongestAnswer body (reply_room body)
reply_room_longest body fits = room_from_longest (length body) body fits (omega arith)

-- ---- a body of requests

pub reply_can_answer : (body reply : List ℕ) → IsReplyTo body reply → CanAnswer body reply
reply_can_answer body reply is = record {
  requests = is.requests;
  rest = [];
  replies = is.replies;
  ranges = is.ranges;
  parts = is.asked ∙ sym (append-nil (requests_words is.requests));
  bad = nothing_bad;
  items = is.items;
  answers = is.answers;
  spelled = is.spelled;
}

-- after requests that are all of the words nothing stands
nothing_after : (requests all : List Request) (rest : List ℕ) → AreRequests requests → AreRequests all
    → NoRequestAtFront rest → requests_words requests ++ rest ≡ requests_words all → rest ≡ []
nothing_after [] [] rest ranges all_ranges bad e = e
nothing_after [] (q ∷ qs) rest ranges all_ranges bad e =
    absurd (bad q (requests_words qs) all_ranges.0 (e ∙ flat_map-cons request_words q qs))
nothing_after (r ∷ rs) [] rest ranges all_ranges bad e =
    absurd (omega (
      arith,
      ap length e,
      length-append (requests_words (r ∷ rs)) rest,
      ap length
          (flat_map-cons request_words r rs),
      length-append (request_words r) (requests_words rs),
    ))
nothing_after (r ∷ rs) (q ∷ qs) rest ranges all_ranges bad e =
    let spread = ap (λ (ws : List ℕ). ws ++ rest) (flat_map-cons request_words r rs) ∙ append_assoc (request_words r)
    (requests_words rs) rest in
    let same = same_first request_words IsRequest BreaksRequest request_at requests_format r q (requests_words rs
    ++ rest) (requests_words qs) ranges.0 all_ranges.0
    (sym spread ∙ e ∙ flat_map-cons request_words q qs) in
    nothing_after rs qs rest ranges.1 all_ranges.1 bad same.1

pub answer_is_reply : (requests : List Request) (body answer : List ℕ) → AreRequests requests → body
    ≡ requests_words requests → CanAnswer body answer → IsReplyTo body answer
answer_is_reply requests body answer ranges whole can =
    let none = nothing_after can.requests requests can.rest can.ranges ranges can.bad (sym can.parts ∙ whole) in
    record {
      requests = can.requests;
      replies = can.replies;
      ranges = can.ranges;
      asked = can.parts ∙ ap (λ (rest : List ℕ). requests_words can.requests ++ rest) none
          ∙ append-nil (requests_words can.requests);
      items = can.items;
      answers = subst (λ (rest : List ℕ). Answers can.requests (ending_of rest) can.replies) none can.answers;
      spelled = can.spelled;
    }
