-- The answers of a body and its reply, request by request.
use Rattle.std.proofs.Common.{◌≡◌, inl, inr, ℕ, ◌-◌, ◌≤◌, List, [], ◌∷◌, ◌++◌, length, map, replicate, refl, sym, ap}
use Rattle.std.proofs.Common.{◌∙◌, arith}
use Rattle.std.proofs.lemmas.List.{length-append, length-map, length-replicate}
use Rattle.std.proofs.lemmas.List.Concat.{flat_map-cons}
use Rattle.transaction_codec.specs.declared.request.Request.{Request}
use Rattle.transaction_codec.specs.declared.reply.Reply.{Reply}
use Rattle.transaction_codec.specs.Request.{IsRequest, request_words, BreaksRequest, request_at}
use Rattle.transaction_codec.specs.Reply.{IsReply, reply_words, BreaksReply, reply_at}
use Rattle.transaction_codec.specs.Answer.{IsDone, IsFailed, Answers, IsReplyTo}
use Rattle.transaction_codec.proofs.Lists.{one_list}
use Rattle.transaction_codec.proofs.Formats.{requests_format, replies_format}
use Rattle.reply_join.specs.declared.answer.Answer.{Answer}
use Rattle.reply_join.specs.declared.answer.Answer.TheVariants.{Skipped}
use Rattle.reply_join.specs.Joining.{IsJoined, answer_of, answers_to}
use Rattle.reply_join.specs.Progress.{AreSkipped}
use Rattle.reply_join.proofs.Parts.{done_then, failed_last, nothing_replied}

pub joined_nothing : IsJoined [] [] []
unfolding nothing_replied
joined_nothing = (nothing_replied, refl)

-- a request and a reply more at the front
pub answers_more : (request : Request) (reply : Reply) (requests : List Request) (replies : List Reply)
    → answers_to (request ∷ requests) (reply ∷ replies) ≡ answer_of reply ∷ answers_to requests replies
answers_more request reply requests replies =
    let fewer : length (request ∷ requests) - length (reply ∷ replies) ≡ length requests - length replies =
    omega arith in
    ap (λ n. answer_of reply ∷ (map answer_of replies ++ replicate n Skipped)) fewer

pub joined_done : (request : Request) (reply : Reply) (asked rest : List ℕ) (answers : List Answer)
    → IsRequest request → IsReply reply → IsDone request reply → IsJoined asked rest answers
    → IsJoined (request_words request ++ asked) (reply_words reply ++ rest) (answer_of reply ∷ answers)
unfolding done_then
joined_done request reply asked rest answers is is_reply done joined = (
  done_then request reply asked rest is is_reply done joined.0,
  ap (λ (more : List Answer). answer_of reply ∷ more)
      joined.1 ∙ sym (answers_more request reply joined.0.requests joined.0.replies),
)

pub joined_failed : (request : Request) (reply : Reply) (asked : List ℕ) (answers : List Answer) → IsRequest request
    → IsReply reply → IsFailed request reply → AreSkipped asked answers
    → IsJoined (request_words request ++ asked) (reply_words reply ++ []) (answer_of reply ∷ answers)
unfolding failed_last
joined_failed request reply asked answers is is_reply failed skipped =
    let requests = skipped.spells.0 in
    let none : replicate (length requests) Skipped ≡ answers_to requests [] = let all : length requests
    ≡ length requests - 0 = omega arith in ap (λ n. replicate n Skipped) all in (
      failed_last request reply asked is is_reply failed skipped.spells,
      ap (λ (more : List Answer). answer_of reply ∷ more) (skipped.skipped ∙ none)
          ∙ sym (answers_more request reply requests []),
    )

same_answers : (requests others : List Request) (replies another : List Reply) → requests ≡ others → replies ≡ another
    → answers_to requests replies ≡ answers_to others another
same_answers requests others replies another e f = ap (λ (rs : List Request). answers_to rs replies) e
    ∙ ap (λ (rs : List Reply). answers_to others rs) f

pub one_answers : (body reply : List ℕ) (left right : IsReplyTo body reply) → answers_to left.requests left.replies
    ≡ answers_to right.requests right.replies
one_answers body reply left right =
    same_answers left.requests right.requests left.replies right.replies
    (one_list request_words IsRequest BreaksRequest request_at requests_format left.requests right.requests
    left.ranges right.ranges (sym left.asked ∙ right.asked))
    (one_list reply_words IsReply BreaksReply reply_at replies_format left.replies right.replies left.items
    right.items (sym left.spelled ∙ right.spelled))

-- there are no more replies than requests
pub no_more_replies : (requests : List Request) (replies : List Reply) → Answers requests [] replies → length replies ≤
    length requests
no_more_replies [] replies answers = omega (arith, ap length answers)
no_more_replies (request ∷ requests) [] answers = omega arith
no_more_replies (request ∷ requests) (reply ∷ replies) (inl done) =
    omega (arith, no_more_replies requests replies done.1)
no_more_replies (request ∷ requests) (reply ∷ replies) (inr failed) = omega (arith, ap length failed.1)

pub answers_length : (body reply : List ℕ) (is : IsReplyTo body reply) → length (answers_to is.requests is.replies)
    ≡ length is.requests
answers_length body reply is =
    omega (
      arith,
      no_more_replies is.requests is.replies is.answers,
      length-append (map answer_of is.replies) (replicate (length is.requests - length is.replies) Skipped),
      length-map is.replies answer_of,
      length-replicate (length is.requests - length is.replies) Skipped,
    )

-- ---- steps of joining

pub skipped_more : (request : Request) (body rest : List ℕ) (later : List Answer) → IsRequest request → body
    ≡ request_words request ++ rest → AreSkipped rest later → AreSkipped body (Skipped ∷ later)
skipped_more request body rest later is parts skipped =
    let spells = skipped.spells in
    record {
      spells = (
        request ∷ spells.0,
        (is, spells.1),
        parts ∙ ap (λ (ws : List ℕ). request_words request ++ ws) spells.2
            ∙ sym (flat_map-cons request_words request spells.0),
      );
      skipped = ap (λ (more : List Answer). Skipped ∷ more) skipped.skipped;
    }

pub none_skipped : (rest : List ℕ) → length rest ≤ 0 → AreSkipped rest []
none_skipped [] none = record { spells = ([], tt, refl); skipped = refl }
none_skipped (word ∷ rest) none = absurd (omega arith)
