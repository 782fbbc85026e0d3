-- A reply to a body is a reply to its first request and, where that was done, one to the rest.
use Rattle.std.proofs.Common.{◌≡◌, ◌⊎◌, inl, inr, ℕ, ◌+◌, ◌<◌, List, [], ◌∷◌, ◌++◌, length, true, false, Result, Err}
use Rattle.std.proofs.Common.{IsOk, refl, sym, ap, subst, ◌∙◌, arith}
use Rattle.std.proofs.lemmas.List.{length-append}
use Rattle.std.proofs.lemmas.List.Concat.{flat_map-cons}
use Rattle.transaction_codec.specs.declared.request.Request.{Request}
use Rattle.transaction_codec.specs.declared.reply.Reply.{Reply}
use Rattle.transaction_codec.specs.declared.refusal.Why.{Why}
use Rattle.transaction_codec.specs.Request.{IsRequest, AreRequests, request_words, requests_words, BreaksRequest}
use Rattle.transaction_codec.specs.Request.{request_at}
use Rattle.transaction_codec.specs.Reply.{IsReply, AreReplies, reply_words, replies_words, BreaksReply, reply_at}
use Rattle.transaction_codec.specs.Answer.{values_done, IsDone, IsFailed, Answers, IsReplyTo, IsLongestAnswer}
use Rattle.transaction_codec.proofs.Lists.{same_first}
use Rattle.transaction_codec.proofs.Formats.{requests_format, replies_format}
use Rattle.transaction_codec.proofs.Requests.{request_again}
use Rattle.transaction_codec.proofs.Longest.{longest_nothing, longest_step, answer_is_reply}
use Rattle.transaction_codec.specs.Request.{SpellsRequests}
use Rattle.reply_join.specs.Progress.{IsReplyOf, IsShort}

pub same_request : (left right : Request) (x y : List ℕ) → IsRequest left → IsRequest right → request_words left ++ x
    ≡ request_words right ++ y → (left ≡ right) × (x ≡ y)
same_request = same_first request_words IsRequest BreaksRequest request_at requests_format

pub same_reply : (left right : Reply) (x y : List ℕ) → IsReply left → IsReply right → reply_words left ++ x
    ≡ reply_words right ++ y → (left ≡ right) × (x ≡ y)
same_reply = same_first reply_words IsReply BreaksReply reply_at replies_format

-- ---- taking a reply apart

pub record Parts (request : Request) (asked whole : List ℕ) : Type 0 where
  pub reply : Reply
  pub rest : List ℕ
  pub is : IsReply reply
  pub spelled : whole ≡ reply_words reply ++ rest
  pub goes : (IsDone request reply × IsReplyTo asked rest) ⊎ (IsFailed request reply × (rest ≡ []))

goes_on : (request other : Request) (asked : List ℕ) (requests : List Request) (reply : Reply) (replies : List Reply)
    → request ≡ other → AreRequests requests → asked ≡ requests_words requests
    → AreReplies replies → (IsDone other reply × Answers requests [] replies) ⊎ (IsFailed other reply × (replies ≡ []))
    → (IsDone request reply × IsReplyTo asked (replies_words replies))
    ⊎ (IsFailed request reply × (replies_words replies ≡ []))
goes_on request other asked requests reply replies same ranges parts items (inl done) =
    inl (
      subst (λ (r : Request). IsDone r reply) (sym same) done.0,
      record {
        requests = requests;
        replies = replies;
        ranges = ranges;
        asked = parts;
        items = items;
        answers =
            done.1;
        spelled = refl;
      },
    )
goes_on request other asked requests reply replies same ranges parts items (inr failed) =
    inr (subst (λ (r : Request). IsFailed r reply) (sym same) failed.0, ap replies_words failed.1)

parts_of : (request : Request) (asked whole : List ℕ) (requests : List Request) (replies : List Reply)
    → IsRequest request → AreRequests requests
    → request_words request ++ asked ≡ requests_words requests → AreReplies replies → Answers requests [] replies
    → whole ≡ replies_words replies → Parts request asked whole
parts_of request asked whole [] replies is ranges parts items answers spelled =
    absurd (omega (arith, ap length parts, length-append (request_words request) asked))
parts_of request asked whole (other ∷ requests) [] is ranges parts items answers spelled = absurd answers
parts_of request asked whole (other ∷ requests) (reply ∷ replies) is ranges parts items answers spelled =
    let same = same_request request other asked (requests_words requests) is ranges.0
    (parts ∙ flat_map-cons request_words other requests) in
    record {
      reply = reply;
      rest = replies_words replies;
      is = items.0;
      spelled = spelled ∙ flat_map-cons reply_words reply replies;
      goes = goes_on request other asked requests reply replies same.0 ranges.1 same.1 items.1 answers;
    }

pub reply_parts : (request : Request) (asked whole : List ℕ) → IsRequest request → IsReplyTo (request_words request
    ++ asked) whole → Parts request asked whole
reply_parts request asked whole is to = parts_of request asked whole to.requests to.replies is to.ranges to.asked
    to.items to.answers to.spelled

-- a body without requests has the empty reply
nothing_of : (whole : List ℕ) (requests : List Request) (replies : List Reply) → [] ≡ requests_words requests
    → Answers requests [] replies → whole ≡ replies_words replies → whole ≡ []
nothing_of whole [] replies parts answers spelled = spelled ∙ ap replies_words answers
nothing_of whole (request ∷ requests) replies parts answers spelled =
    absurd (omega (
      arith,
      ap length (parts ∙ flat_map-cons request_words request requests),
      length-append
          (request_words request) (requests_words requests),
    ))

pub reply_to_nothing : (whole : List ℕ) → IsReplyTo [] whole → whole ≡ []
reply_to_nothing whole to = nothing_of whole to.requests to.replies to.asked to.answers to.spelled

unfoldable pub nothing_replied : IsReplyTo [] []
nothing_replied = record {
  requests = [];
  replies = [];
  ranges = tt;
  asked = refl;
  items = tt;
  answers =
      refl;
  spelled = refl;
}

-- ---- putting a reply together

unfoldable pub done_then : (request : Request) (reply : Reply) (asked rest : List ℕ) → IsRequest request
    → IsReply reply → IsDone request reply → IsReplyTo asked rest
    → IsReplyTo (request_words request ++ asked) (reply_words reply ++ rest)
done_then request reply asked rest is is_reply done to = record {
  requests = request ∷ to.requests;
  replies = reply ∷ to.replies;
  ranges = (is, to.ranges);
  asked = ap (λ (ws : List ℕ). request_words request ++ ws) to.asked
      ∙ sym (flat_map-cons request_words request to.requests);
  items = (is_reply, to.items);
  answers = inl (done, to.answers);
  spelled = ap (λ (ws : List ℕ). reply_words reply ++ ws) to.spelled ∙ sym (flat_map-cons reply_words reply to.replies);
}

unfoldable pub failed_last : (request : Request) (reply : Reply) (asked : List ℕ) → IsRequest request → IsReply reply
    → IsFailed request reply → SpellsRequests asked
    → IsReplyTo (request_words request ++ asked) (reply_words reply ++ [])
failed_last request reply asked is is_reply failed body = record {
  requests = request ∷ body.0;
  replies = reply ∷ [];
  ranges = (is, body.1);
  asked = ap (λ (ws : List ℕ). request_words request ++ ws) body.2 ∙ sym (flat_map-cons request_words request body.0);
  items = (is_reply, tt);
  answers = inr (failed, refl);
  spelled = sym (flat_map-cons reply_words reply []);
}

-- ---- every body has a reply

longest_of : (requests : List Request) → AreRequests requests → (room : ℕ) × IsLongestAnswer (requests_words requests)
    room
longest_of [] ranges = (0, longest_nothing)
longest_of (request ∷ requests) ranges =
    let later = longest_of requests ranges.1 in (
      1 + values_done request.op + later.0,
      longest_step request (requests_words (request ∷ requests)) (requests_words requests) later.0 ranges.0
          (flat_map-cons request_words request requests) later.1,
    )

pub some_reply : (body : List ℕ) → SpellsRequests body → (whole : List ℕ) × IsReplyTo body whole
some_reply body is =
    let longest = (longest_of is.0 is.1).1 in (
      longest.answer,
      subst (λ (ws : List ℕ). IsReplyTo ws longest.answer) (sym is.2)
          (answer_is_reply is.0 (requests_words is.0) longest.answer is.1 refl longest.given),
    )

-- a reply to the first request goes on to one to the body
reply_from : (request : Request) (reply : Reply) (asked : List ℕ) → IsRequest request → IsReply reply
    → SpellsRequests asked → IsDone request reply ⊎ IsFailed request reply
    → (rest : List ℕ) × IsReplyTo (request_words request ++ asked) (reply_words reply ++ rest)
reply_from request reply asked is is_reply body (inl done) =
    let later = some_reply asked body in
    (later.0, done_then request reply asked later.0 is is_reply done later.1)
reply_from request reply asked is is_reply body (inr failed) =
    ([], failed_last request reply asked is is_reply failed body)

pub answer_goes_on : (request : Request) (reply : Reply) (asked : List ℕ) → IsRequest request → IsReplyOf request
    reply → SpellsRequests asked
    → (rest : List ℕ) × IsReplyTo (request_words request ++ asked) (reply_words reply ++ rest)
answer_goes_on request reply asked is answer body = reply_from request reply asked is answer.is body answer.answers

part_answers : (request : Request) (asked rest : List ℕ) (reply : Reply)
    → (IsDone request reply × IsReplyTo asked rest) ⊎ (IsFailed request reply × (rest ≡ []))
    → IsDone request reply ⊎ IsFailed request reply
part_answers request asked rest reply (inl done) = inl done.0
part_answers request asked rest reply (inr failed) = inr failed.0

pub first_answer : (request : Request) (asked whole : List ℕ) (parts : Parts request asked whole) → IsReplyOf request
    parts.reply
first_answer request asked whole parts = record {
  is = parts.is;
  answers =
      part_answers request asked parts.rest parts.reply parts.goes;
}

body_of : (request : Request) → IsRequest request → SpellsRequests (request_words request ++ [])
body_of request is = (request ∷ [], (is, tt), sym (flat_map-cons request_words request []))

-- every request has a reply
pub some_answer : (request : Request) → IsRequest request → (reply : Reply) × IsReplyOf request reply
some_answer request is =
    let some = some_reply (request_words request ++ []) (body_of request is) in
    let parts = reply_parts request [] some.0 is some.1 in
    (parts.reply, first_answer request [] some.0 parts)

-- ---- the first request of a body

module _ (body : List ℕ) (is : SpellsRequests body) where
  reads_one : (requests : List Request) → AreRequests requests → body ≡ requests_words requests → 0 < length body
      → (x : Result (Request × List ℕ) Why) → request_at body ≡ x → IsOk x
  reads_one [] ranges spelled some x reads = absurd (omega (arith, some, ap length spelled))
  reads_one (request ∷ requests) ranges spelled some x reads =
      let again = sym reads ∙ ap request_at (spelled ∙ flat_map-cons request_words request requests)
      ∙ request_again request (requests_words requests) ranges.0 in
      subst IsOk (sym again) refl

  pub has_request : (why : Why) → 0 < length body → request_at body ≡ Err why → ⊥
  has_request why some reads = let clash : false ≡ true = reads_one is.0 is.1 is.2 some (Err why) reads in absurd cc

  rest_of : (requests : List Request) → AreRequests requests → body ≡ requests_words requests → (x : Request × List ℕ)
      → IsRequest x.0 → body ≡ request_words x.0 ++ x.1 → SpellsRequests x.1
  rest_of [] ranges spelled x is_request parts =
      absurd (omega (arith, ap length (sym spelled ∙ parts), length-append (request_words x.0) x.1))
  rest_of (request ∷ requests) ranges spelled x is_request parts =
      let same = same_request request x.0 (requests_words requests) x.1 ranges.0 is_request
      (sym (flat_map-cons request_words request requests) ∙ sym spelled ∙ parts) in
      (requests, ranges.1, sym same.1)

  pub rest_is_body : (request : Request) (rest : List ℕ) → IsRequest request → body ≡ request_words request ++ rest
      → SpellsRequests rest
  rest_is_body request rest is_request parts = rest_of is.0 is.1 is.2 (request, rest) is_request parts

-- no words begin every reply
pub no_words_short : (request : Request) (words : List ℕ) → IsRequest request → length words < 1 → IsShort request words
no_words_short request [] is none =
    let some = some_answer request is in
    record { reply = some.0; more = reply_words some.0; is = some.1; some = omega arith; spelled = refl }
no_words_short request (word ∷ words) is none = absurd (omega arith)
