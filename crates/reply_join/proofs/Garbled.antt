-- Where a reply stops being one to a body, request by request.
use Rattle.std.proofs.Common.{◌≡◌, ◌⊎◌, inl, inr, ℕ, ◌+◌, ◌<◌, ◌≤◌, List, [], ◌∷◌, ◌++◌, length, take, drop, refl, sym}
use Rattle.std.proofs.Common.{ap, subst, ◌∙◌, append_assoc, arith}
use Rattle.std.proofs.lemmas.Bool.{cases_lt}
use Rattle.std.proofs.lemmas.List.{length-append, append-nil, take_at, take-append-drop, length-take}
use Rattle.ipb_base.specs.Lists.{IsPrefix}
use Rattle.transaction_codec.specs.declared.request.Request.{Request}
use Rattle.transaction_codec.specs.declared.reply.Reply.{Reply}
use Rattle.transaction_codec.specs.Header.{header}
use Rattle.transaction_codec.specs.Request.{IsRequest, request_words}
use Rattle.transaction_codec.specs.Reply.{IsReply, reply_words}
use Rattle.transaction_codec.specs.Answer.{IsDone, IsFailed, IsReplyTo}
use Rattle.transaction_codec.specs.Request.{SpellsRequests}
use Rattle.reply_join.specs.Garbled.{BeginsReply, IsGarbledAt}
use Rattle.reply_join.specs.Progress.{HasNoHeader, IsShort}
use Rattle.reply_join.proofs.Lists.{beyond, take_past, no_words}
use Rattle.reply_join.proofs.Headers.{header_from, done_not_failed}
use Rattle.reply_join.proofs.Parts.{Parts, same_reply, reply_parts, reply_to_nothing, nothing_replied, some_reply}
use Rattle.reply_join.proofs.Parts.{answer_goes_on, first_answer, done_then, failed_last}

whole_begins : (body reply : List ℕ) → IsReplyTo body reply → BeginsReply body reply
whole_begins body reply to = (reply, to, ([], sym (append-nil reply)))

whole_is_prefix : (reply : List ℕ) → IsPrefix reply reply
whole_is_prefix reply = ([], sym (append-nil reply))

-- the longest common front of words that end beyond it is none of a reply
ends_beyond : (body reply : List ℕ) (place : ℕ) → place < length reply → ((front : List ℕ) → IsPrefix front reply
    → BeginsReply body front → length front ≤ place) → IsReplyTo body reply → ⊥
ends_beyond body reply place lt longest to =
    omega (arith, longest reply (whole_is_prefix reply) (whole_begins body reply to))

-- ---- the first word is no header

no_front : (request : Request) (asked words front : List ℕ) → IsRequest request → HasNoHeader request words
    → IsPrefix front words → BeginsReply (request_words request ++ asked) front → length front ≤ 0
no_front request asked words [] is bad prefix begins = omega arith
no_front request asked words (word ∷ front) is bad prefix begins =
    let parts = reply_parts request asked begins.0 is begins.1 in
    let reply = parts.reply in
    let head = header_from request reply (first_answer request asked begins.0 parts) in
    let first : bad.word ∷ bad.after ≡ word ∷ (front ++ prefix.0) = sym bad.parts ∙ prefix.1 in
    let other : header reply.tid reply.count reply.kind reply.code ∷ (reply.values ++ parts.rest)
    ≡ word ∷ (front ++ begins.2.0) = sym parts.spelled ∙ begins.2.1 in
    let same : bad.word ≡ header reply.tid reply.count reply.kind reply.code = cc in
    absurd (bad.none reply.count reply.code (same ∙ head.0, head.1))

begins_nothing : (body reply : List ℕ) → SpellsRequests body → BeginsReply body (take 0 reply)
begins_nothing body reply is =
    let some = some_reply body is in
    (some.0, some.1, (some.0, refl))

pub no_header : (request : Request) (asked words : List ℕ) → IsRequest request → SpellsRequests (request_words request
    ++ asked) → HasNoHeader request words → IsGarbledAt (request_words request ++ asked) words 0
no_header request asked words is body bad =
    let longest : (front : List ℕ) → IsPrefix front words → BeginsReply (request_words request ++ asked) front
    → length front ≤ 0 =
    λ front prefix begins. no_front request asked words front is bad prefix begins in
    record {
      is_none = ends_beyond (request_words request ++ asked) words 0 (omega (arith, ap length bad.parts)) longest;
      within = omega arith;
      begins = begins_nothing (request_words request ++ asked) words body;
      longest = longest;
    }

-- ---- the words end within a reply

prefix_length : (front whole : List ℕ) → IsPrefix front whole → length front ≤ length whole
prefix_length front whole prefix = omega (arith, ap length prefix.1, length-append front prefix.0)

short_is_none : (request : Request) (asked words : List ℕ) → IsRequest request → (short : IsShort request words)
    → Parts request asked words → ⊥
short_is_none request asked words is short parts =
    let joined : reply_words short.reply ++ [] ≡ reply_words parts.reply ++ (parts.rest ++ short.more) =
    append-nil (reply_words short.reply) ∙ short.spelled ∙ ap (λ (ws : List ℕ). ws ++ short.more) parts.spelled
    ∙ append_assoc (reply_words parts.reply) parts.rest short.more in
    let same = same_reply short.reply parts.reply [] (parts.rest ++ short.more) short.is.is parts.is joined in
    omega (arith, short.some, ap length same.1, length-append parts.rest short.more)

pub ends_early : (request : Request) (asked words : List ℕ) → IsRequest request → SpellsRequests asked
    → IsShort request words → IsGarbledAt (request_words request ++ asked) words (length words)
ends_early request asked words is body short =
    let goes = answer_goes_on request short.reply asked is short.is body in
    let all : take (length words) words ≡ words = ap (take (length words)) (sym (append-nil words)) ∙ take_at words []
    (length words) refl in
    let spread : reply_words short.reply ++ goes.0 ≡ words ++ (short.more ++ goes.0) =
    ap (λ (ws : List ℕ). ws ++ goes.0) short.spelled ∙ append_assoc words short.more goes.0 in
    record {
      is_none = λ to. short_is_none request asked words is short (reply_parts request asked words is to);
      within = omega arith;
      begins = (
        reply_words short.reply ++ goes.0,
        goes.1,
        (
          short.more ++ goes.0,
          spread
              ∙ ap (λ (ws : List ℕ). ws ++ (short.more ++ goes.0)) (sym all),
        ),
      );
      longest = λ front prefix begins. prefix_length front words prefix;
    }

-- ---- the words behind a reply to the first request

module _ (request : Request) (reply : Reply) (asked : List ℕ) (is : IsRequest request) (is_reply : IsReply reply) where
  -- a reply to the body that begins with this one
  pub same_parts : (whole rest : List ℕ) → IsReplyTo (request_words request ++ asked) whole → whole
      ≡ reply_words reply ++ rest
      → (IsDone request reply × IsReplyTo asked rest) ⊎ (IsFailed request reply × (rest ≡ []))
  same_parts whole rest to e =
      let parts = reply_parts request asked whole is to in
      let same = same_reply parts.reply reply parts.rest rest parts.is is_reply (sym parts.spelled ∙ e) in
      subst (λ (r : Reply). (IsDone request r × IsReplyTo asked rest) ⊎ (IsFailed request r × (rest ≡ []))) same.0
      (subst (λ (ws : List ℕ). (IsDone request parts.reply × IsReplyTo asked ws) ⊎ (IsFailed request parts.reply
      × (ws ≡ []))) same.1 parts.goes)

  -- what begins a reply beyond this one begins one to the rest
  longest_later : (rest more later : List ℕ) (place : ℕ) → ((front : List ℕ) → IsPrefix front rest → BeginsReply asked
      front → length front ≤ place)
      → IsPrefix more rest → (IsDone request reply × IsReplyTo asked (more ++ later))
      ⊎ (IsFailed request reply × (more ++ later ≡ [])) → length more ≤ place
  longest_later rest more later place longest prefix (inl done) =
      longest more prefix (more ++ later, done.1, (later, refl))
  longest_later rest more later place longest prefix (inr failed) =
      let none = (no_words more later failed.1).0 in
      omega (arith, ap length none)

  longest_behind : (rest front : List ℕ) (place : ℕ)
      → ((more later : List ℕ) → IsPrefix more rest → (IsDone request reply × IsReplyTo asked (more ++ later))
      ⊎ (IsFailed request reply × (more ++ later ≡ [])) → length more ≤ place)
      → IsPrefix front (reply_words reply ++ rest) → BeginsReply (request_words request ++ asked) front
      → length front ≤ length (reply_words reply) + place
  longest_behind rest front place few prefix begins =
      elim (cases_lt (length front) (length (reply_words reply))) [
        | inl lt ↦ omega (arith, lt)
        | inr le ↦
            let more = beyond (reply_words reply) rest front prefix.0 prefix.1 le in
            let whole : begins.0 ≡ reply_words reply ++ (more.0 ++ begins.2.0) =
            begins.2.1 ∙ ap (λ (ws : List ℕ). ws ++ begins.2.0) more.1 ∙ append_assoc (reply_words reply) more.0
            begins.2.0 in
            let goes = same_parts begins.0 (more.0 ++ begins.2.0) begins.1 whole in
            omega (
              arith,
              few more.0 begins.2.0 (prefix.0, more.2) goes,
              ap length more.1,
              length-append
                  (reply_words reply) more.0,
            )
      ]

  -- a reply that was done is followed by a fault of the rest
  pub garbled_later : (rest : List ℕ) (place : ℕ) → IsDone request reply → IsGarbledAt asked rest place
      → IsGarbledAt (request_words request ++ asked) (reply_words reply ++ rest) (length (reply_words reply) + place)
  garbled_later rest place done garbled =
      let whole = garbled.begins.0 in
      let front_is : take (length (reply_words reply) + place) (reply_words reply ++ rest) ≡ reply_words reply
      ++ take place rest =
      take_past (reply_words reply) rest (length (reply_words reply) + place) place refl in
      let spread : reply_words reply ++ whole ≡ (reply_words reply ++ take place rest) ++ garbled.begins.2.0 =
      ap (λ (ws : List ℕ). reply_words reply ++ ws) garbled.begins.2.1
      ∙ sym (append_assoc (reply_words reply) (take place rest) garbled.begins.2.0) in
      record {
        is_none = λ to. elim (same_parts (reply_words reply ++ rest) rest to refl) [
          | inl both ↦ garbled.is_none both.1
          | inr failed ↦ done_not_failed request reply done failed.0
        ];
        within = omega (arith, garbled.within, length-append (reply_words reply) rest);
        begins = (
          reply_words reply ++ whole,
          done_then request reply asked whole is is_reply done garbled.begins.1,
          (garbled.begins.2.0, spread ∙ ap (λ (ws : List ℕ). ws ++ garbled.begins.2.0) (sym front_is)),
        );
        longest = λ front prefix begins. longest_behind rest front place (λ more later. longest_later rest more later
            place garbled.longest) prefix begins;
      }

  -- behind one that failed nothing may follow
  pub garbled_behind_fault : (rest : List ℕ) (place : ℕ) → IsFailed request reply → SpellsRequests asked
      → IsGarbledAt [] rest place
      → IsGarbledAt (request_words request ++ asked) (reply_words reply ++ rest) (length (reply_words reply) + place)
  garbled_behind_fault rest place failed body garbled =
      let whole_is : garbled.begins.0 ≡ [] = reply_to_nothing garbled.begins.0 garbled.begins.1 in
      let taken : take place rest ≡ [] =
      (no_words (take place rest) garbled.begins.2.0 (sym garbled.begins.2.1 ∙ whole_is)).0 in
      let front_is : take (length (reply_words reply) + place) (reply_words reply ++ rest) ≡ reply_words reply ++ [] =
      take_past (reply_words reply) rest (length (reply_words reply) + place) place refl
      ∙ ap (λ (ws : List ℕ). reply_words reply ++ ws) taken in
      let only : (more later : List ℕ) → (IsDone request reply × IsReplyTo asked (more ++ later))
      ⊎ (IsFailed request reply × (more ++ later ≡ [])) → length more ≤ place =
      λ more later goes. elim goes [
        | inl done ↦ absurd (done_not_failed request reply done.0 failed)
        | inr last ↦ omega (arith, ap length (no_words more later last.1).0)
      ] in
      record {
        is_none = λ to. elim (same_parts (reply_words reply ++ rest) rest to refl) [
          | inl both ↦ done_not_failed request reply both.0 failed
          | inr last ↦ garbled.is_none (subst (λ (ws : List ℕ). IsReplyTo [] ws) (sym last.1) nothing_replied)
        ];
        within = omega (arith, garbled.within, length-append (reply_words reply) rest);
        begins = (
          reply_words reply ++ [],
          failed_last request reply asked is is_reply failed body,
          ([], sym (append-nil (reply_words reply ++ [])) ∙ ap (λ (ws : List ℕ). ws ++ []) (sym front_is)),
        );
        longest = λ front prefix begins. longest_behind rest front place (λ more later within. only more later) prefix
            begins;
      }

-- ---- the end of the body

-- words behind the last reply
pub garbled_end : (rest : List ℕ) → 0 < length rest → IsGarbledAt [] rest 0
garbled_end rest some = record {
  is_none = λ to. omega (arith, some, ap length (reply_to_nothing rest to));
  within = omega arith;
  begins = ([], nothing_replied, ([], refl));
  longest = λ front prefix begins.
      let none = (no_words front begins.2.0 (sym begins.2.1 ∙ reply_to_nothing begins.0 begins.1)).0 in
      omega (arith, ap length none);
}

-- the place is the only one
at_most : (body reply : List ℕ) (one other : ℕ) → IsGarbledAt body reply one → IsGarbledAt body reply other
    → one ≤ other
at_most body reply one other left right =
    let prefix : IsPrefix (take one reply) reply = (drop one reply, sym (take-append-drop one reply)) in
    omega (arith, right.longest (take one reply) prefix left.begins, length-take one reply, left.within)

pub one_place : (body reply : List ℕ) (one other : ℕ) → IsGarbledAt body reply one → IsGarbledAt body reply other
    → one ≡ other
one_place body reply one other left right = omega (
  arith,
  at_most body reply one other left right,
  at_most body reply
      other one right left,
)
