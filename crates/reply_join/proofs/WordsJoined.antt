-- The answers of a body and its reply are what reading both gives.
use Rattle.std.proofs.lemmas.Bool.Decides.{nat_tests}
use Rattle.std.proofs.lemmas.List.{length-append}
use Rattle.std.proofs.lemmas.List.Concat.{flat_map-cons}
use Rattle.std.proofs.Common.{◌≡◌, ◌⊎◌, inl, inr, ℕ, zero, suc, ◌<◌, ◌≤◌, Bool, true, false, ◌&&◌, ◌||◌, if◌then◌else◌}
use Rattle.std.proofs.Common.{List, [], ◌∷◌, ◌++◌, length, Option, Some, None, Result, Ok, Err, refl, sym, subst, ap}
use Rattle.std.proofs.Common.{◌∙◌, arith}
use Rattle.std.specs.List.{AllByRecursion, flat_map}
use Rattle.std.specs.Option.{option_map, option_and_then}
use Rattle.ipb_base.specs.Word.{AreWords}
use Rattle.ipb_base.proofs.WordLemmas.{AreWords-after}
use Rattle.transaction_codec.specs.declared.request.Op.{Op}
use Rattle.transaction_codec.specs.declared.request.Op.TheVariants.{Read, ReadPort, Write, WritePort, RmwBits, RmwSum}
use Rattle.transaction_codec.specs.declared.request.Request.{Request}
use Rattle.transaction_codec.specs.declared.reply.Reply.{Reply}
use Rattle.transaction_codec.specs.declared.refusal.Why.{Why}
use Rattle.transaction_codec.specs.Request.{IsRequest, request_words, request_at}
use Rattle.transaction_codec.specs.Reply.{IsReply, reply_words, reply_at}
use Rattle.transaction_codec.specs.Answer.{Fails, IsDone, IsFailed, Answers, IsReplyTo}
use Rattle.reply_join.specs.declared.answer.Answer.{Answer}
use Rattle.reply_join.specs.Joining.{IsJoined, answers_to}
use Rattle.reply_join.specs.ByWords.{read_then, read_all, requests_in, replies_in, is_named, is_done, fails, is_failed}
use Rattle.reply_join.specs.ByWords.{is_last, do_answer, answers_where, answers}

-- ---- reading all items of a format

-- a reader of one item: what is spelled so is read, and what is read is spelled so
pub record IsReader {Item : Type 0} (item_words : Item → List ℕ) (IsItem : Item → Type 0)
    (item_at : List ℕ → Result (Item × List ℕ) Why) : Type 0 where
  pub again : (item : Item) (rest : List ℕ) → IsItem item → item_at (item_words item ++ rest) ≡ Ok (item, rest)
  pub found : (words rest : List ℕ) (item : Item) → AreWords words → item_at words ≡ Ok (item, rest)
      → IsItem item × (words ≡ item_words item ++ rest)
  pub has_words : (item : Item) → 0 < length (item_words item)

module _ {Item : Type 0} (item_words : Item → List ℕ) (IsItem : Item → Type 0)
    (item_at : List ℕ → Result (Item × List ℕ) Why) (reader : IsReader item_words IsItem item_at) where
  abbrev spelled : List Item → List ℕ
  spelled items = flat_map item_words items

  -- one item more, of words that are not empty
  one_more : (most : ℕ) (words rest : List ℕ) (item : Item) (items : List Item) → 0 < length words
      → item_at words ≡ Ok (item, rest) → read_all item_at most rest ≡ Some items
      → read_all item_at (suc most) words ≡ Some (item ∷ items)
  one_more most [] rest item items some reads later = absurd (omega arith)
  one_more most (word ∷ words) rest item items some reads later =
      ap (λ r. read_then r (read_all item_at most)) reads
      ∙ ap (λ o. option_map (λ (is : List Item). item ∷ is) o) later

  read_again : (most : ℕ) (items : List Item) → AllByRecursion IsItem items → length items ≤ most
      → read_all item_at most (spelled items) ≡ Some items
  read_again most [] is few = refl
  read_again zero (item ∷ items) is few = absurd (omega arith)
  read_again (suc most) (item ∷ items) is few =
      let words = flat_map-cons item_words item items in
      one_more most (spelled (item ∷ items)) (spelled items) item items
      (omega (arith, reader.has_words item, ap length words, length-append (item_words item) (spelled items)))
      (ap item_at words ∙ reader.again item (spelled items) is.0) (read_again most items is.1 (omega arith))

  no_more_items : (items : List Item) → length items ≤ length (spelled items)
  no_more_items [] = omega arith
  no_more_items (item ∷ items) =
      omega (
        arith,
        no_more_items items,
        reader.has_words item,
        ap length (flat_map-cons item_words item items),
        length-append (item_words item) (spelled items),
      )

  pub all_again : (words : List ℕ) (items : List Item) → AllByRecursion IsItem items → words ≡ spelled items
      → read_all item_at (length words) words ≡ Some items
  all_again words items is e =
      ap (λ ws. read_all item_at (length ws) ws) e
      ∙ read_again (length (spelled items)) items is (no_more_items items)

  some_is : (xs ys : List Item) → Some xs ≡ Some ys → xs ≡ ys
  some_is xs ys same = cc

  found_more : (words rest : List ℕ) (item : Item) (items : List Item) (o : Option (List Item)) → AreWords words
      → IsItem item × (words ≡ item_words item ++ rest) → AreWords rest
      → ((later : List Item) → o ≡ Some later → AllByRecursion IsItem later × (rest ≡ spelled later))
      → option_map (λ is. item ∷ is) o ≡ Some items → AllByRecursion IsItem items × (words ≡ spelled items)
  found_more words rest item items None fits first rest_fits later all = absurd cc
  found_more words rest item items (Some xs) fits first rest_fits later all =
      let behind = later xs refl in
      let same : item ∷ xs ≡ items = some_is (item ∷ xs) items all in
      let parts : words ≡ spelled (item ∷ xs) =
      first.1 ∙ ap (λ ws. item_words item ++ ws) behind.1 ∙ sym (flat_map-cons item_words item xs) in
      let ranges : AllByRecursion IsItem (item ∷ xs) = (first.0, behind.0) in
      (subst (AllByRecursion IsItem) same ranges, parts ∙ ap (λ is. spelled is) same)

  -- what reading the first item and the words after it says
  found_then : (words : List ℕ) (r : Result (Item × List ℕ) Why) (items : List Item) (more : List ℕ
      → Option (List Item))
      → AreWords words → item_at words ≡ r
      → ((rest : List ℕ) (later : List Item) → AreWords rest → more rest ≡ Some later
      → AllByRecursion IsItem later × (rest ≡ spelled later))
      → read_then r more ≡ Some items → AllByRecursion IsItem items × (words ≡ spelled items)
  found_then words (Err why) items more fits reads later all = absurd cc
  found_then words (Ok (item, rest)) items more fits reads later all =
      let first = reader.found words rest item fits reads in
      let rest_fits = AreWords-after (item_words item) rest (subst AreWords first.1 fits) in
      found_more words rest item items (more rest) fits first rest_fits (λ xs. later rest xs rest_fits) all

  pub all_found : (most : ℕ) (words : List ℕ) (items : List Item) → AreWords words
      → read_all item_at most words ≡ Some items → AllByRecursion IsItem items × (words ≡ spelled items)
  all_found most [] items fits all =
      let same : [] ≡ items = some_is [] items all in
      (subst (AllByRecursion IsItem) same tt, ap (λ is. spelled is) same)
  all_found zero (word ∷ words) items fits all = absurd cc
  all_found (suc most) (word ∷ words) items fits all =
      found_then (word ∷ words) (item_at (word ∷ words)) items (read_all item_at most) fits refl
      (λ rest later rest_fits more. all_found most rest later rest_fits more) all

-- ---- the tests of replies

done_found : (request : Request) (reply : Reply) → is_done request reply ≡ true → IsDone request reply
done_found request reply test = record {
  tid = grind (arith, nat_tests);
  kind = grind (arith, nat_tests);
  code = grind (arith, nat_tests);
  count = grind (arith, nat_tests);
  values = grind (arith, nat_tests);
}

done_again : (request : Request) (reply : Reply) → IsDone request reply → is_done request reply ≡ true
done_again request reply done = grind (arith, nat_tests, done.tid, done.kind, done.code, done.count, done.values)

fails_found : (op : Op) (code count values : ℕ) → fails op code count values ≡ true → Fails op code count values
fails_found (Read base asked) code count values test = grind (arith, nat_tests)
fails_found (ReadPort base asked) code count values test = grind (arith, nat_tests)
fails_found (Write base words) code count values test = grind (arith, nat_tests)
fails_found (WritePort base words) code count values test = grind (arith, nat_tests)
fails_found (RmwBits base and_term or_term) code count values test = grind (arith, nat_tests)
fails_found (RmwSum base addend) code count values test = grind (arith, nat_tests)

fails_again : (op : Op) (code count values : ℕ) → Fails op code count values → fails op code count values ≡ true
fails_again (Read base asked) code count values is = grind (arith, nat_tests)
fails_again (ReadPort base asked) code count values is = grind (arith, nat_tests)
fails_again (Write base words) code count values is = grind (arith, nat_tests)
fails_again (WritePort base words) code count values is = grind (arith, nat_tests)
fails_again (RmwBits base and_term or_term) code count values is = grind (arith, nat_tests)
fails_again (RmwSum base addend) code count values is = grind (arith, nat_tests)

both : (a b : Bool) → a && b ≡ true → (a ≡ true) × (b ≡ true)
both true b test = (refl, test)
both false b test = absurd cc

both_again : (a b : Bool) → a ≡ true → b ≡ true → a && b ≡ true
both_again a b left right = ap (λ x. x && b) left ∙ right

failed_found : (request : Request) (reply : Reply) → is_failed request reply ≡ true → IsFailed request reply
failed_found request reply test =
    let parts = both (is_named request reply) (fails request.op reply.code reply.count (length reply.values)) test in
    let named : is_named request reply ≡ true = parts.0 in
    record {
      tid = grind (arith, nat_tests);
      kind = grind (arith, nat_tests);
      fault = fails_found request.op reply.code reply.count (length reply.values) parts.1;
    }

failed_again : (request : Request) (reply : Reply) → IsFailed request reply → is_failed request reply ≡ true
failed_again request reply failed =
    let named : is_named request reply ≡ true = grind (arith, nat_tests, failed.tid, failed.kind) in
    both_again (is_named request reply) (fails request.op reply.code reply.count (length reply.values)) named
    (fails_again request.op reply.code reply.count (length reply.values) failed.fault)

-- ---- replies that answer requests

either_both : (a b c d : Bool) → (a && b) || (c && d) ≡ true → ((a ≡ true) × (b ≡ true)) ⊎ ((c ≡ true) × (d ≡ true))
either_both true true c d test = inl (refl, refl)
either_both true false c d test = inr (both c d test)
either_both false b c d test = inr (both c d test)

last_is : (replies : List Reply) → is_last replies ≡ true → replies ≡ []
last_is [] test = refl
last_is (reply ∷ replies) test = absurd cc

left_true : (a b c d : Bool) → a ≡ true → b ≡ true → (a && b) || (c && d) ≡ true
left_true a b c d left right = ap (λ x. x || (c && d)) (both_again a b left right)

right_true : (a b c d : Bool) → c ≡ true → d ≡ true → (a && b) || (c && d) ≡ true
right_true true true c d left right = refl
right_true true false c d left right = both_again c d left right
right_true false b c d left right = both_again c d left right

answers_found : (requests : List Request) (replies : List Reply) → do_answer requests replies ≡ true
    → Answers requests [] replies
answers_found [] [] test = refl
answers_found [] (reply ∷ replies) test = absurd cc
answers_found (request ∷ requests) [] test = absurd cc
answers_found (request ∷ requests) (reply ∷ replies) test = elim
    (either_both (is_done request reply) (do_answer requests replies) (is_failed request reply) (is_last replies)
    test) [
      | inl done ↦ inl (done_found request reply done.0, answers_found requests replies done.1)
      | inr failed ↦ inr (failed_found request reply failed.0, last_is replies failed.1)
    ]

answers_again : (requests : List Request) (replies : List Reply) → Answers requests [] replies
    → do_answer requests replies ≡ true
answers_again [] replies goes = ap (do_answer []) goes
answers_again (request ∷ requests) [] goes = absurd goes
answers_again (request ∷ requests) (reply ∷ replies) (inl done) =
    left_true (is_done request reply) (do_answer requests replies) (is_failed request reply) (is_last replies)
    (done_again request reply done.0) (answers_again requests replies done.1)
answers_again (request ∷ requests) (reply ∷ replies) (inr failed) =
    right_true (is_done request reply) (do_answer requests replies) (is_failed request reply) (is_last replies)
    (failed_again request reply failed.0) (ap is_last failed.1)

-- ---- the function

module _ (requests_read : IsReader request_words IsRequest request_at) (replies_read : IsReader reply_words IsReply
    reply_at)
    (body reply : List ℕ) where
  pub joined_given : (list : List Answer) → IsJoined body reply list → answers body reply ≡ Some list
  joined_given list joined =
      let is = joined.0 in
      let asked : requests_in body ≡ Some is.requests =
      all_again request_words IsRequest request_at requests_read body is.requests is.ranges is.asked in
      let replied : replies_in reply ≡ Some is.replies =
      all_again reply_words IsReply reply_at replies_read reply is.replies is.items is.spelled in
      ap (λ o. option_and_then (λ requests. option_and_then (answers_where requests) (replies_in reply)) o) asked
      ∙ ap (λ o. option_and_then (answers_where is.requests) o) replied
      ∙ ap (λ b. if b then Some (answers_to is.requests is.replies) else None) (answers_again is.requests is.replies
      is.answers)
      ∙ ap (λ xs. Some xs) (sym joined.1)

  answers_are : (xs ys : List Answer) → Some xs ≡ Some ys → xs ≡ ys
  answers_are xs ys same = cc

  given_where : (list : List Answer) (requests : List Request) (replies : List Reply) (b : Bool) → AreWords body
      → AreWords reply → requests_in body ≡ Some requests → replies_in reply ≡ Some replies
      → do_answer requests replies ≡ b → (if b then Some (answers_to requests replies) else None) ≡ Some list
      → IsJoined body reply list
  given_where list requests replies false body_fits reply_fits asked replied test given = absurd cc
  given_where list requests replies true body_fits reply_fits asked replied test given =
      let own = all_found request_words IsRequest request_at requests_read (length body) body requests body_fits asked
      in
      let others = all_found reply_words IsReply reply_at replies_read (length reply) reply replies reply_fits
      replied in (
        record {
          requests = requests;
          replies = replies;
          ranges = own.0;
          asked = own.1;
          items = others.0;
          answers = answers_found requests replies test;
          spelled = others.1;
        },
        sym (answers_are (answers_to requests replies) list given),
      )

  given_by : (list : List Answer) (o : Option (List Request)) (p : Option (List Reply)) → AreWords body → AreWords reply
      → requests_in body ≡ o → replies_in reply ≡ p
      → option_and_then (λ requests. option_and_then (answers_where requests) p) o ≡ Some list → IsJoined body reply
      list
  given_by list None p body_fits reply_fits asked replied given = absurd cc
  given_by list (Some requests) None body_fits reply_fits asked replied given = absurd cc
  given_by list (Some requests) (Some replies) body_fits reply_fits asked replied given =
      given_where list requests replies (do_answer requests replies) body_fits reply_fits asked replied refl given

  pub given_joined : (list : List Answer) → AreWords body → AreWords reply → answers body reply ≡ Some list
      → IsJoined body reply list
  given_joined list body_fits reply_fits given =
      given_by list (requests_in body) (replies_in reply) body_fits reply_fits refl refl given

  pub none_given : answers body reply ≡ None → IsReplyTo body reply → ⊥
  none_given none is =
      let given = joined_given (answers_to is.requests is.replies) (is, refl) in
      absurd cc

  none_by : (o : Option (List Answer)) → answers body reply ≡ o → AreWords body → AreWords reply
      → (IsReplyTo body reply → ⊥) → o ≡ None
  none_by None given body_fits reply_fits is_none = refl
  none_by (Some list) given body_fits reply_fits is_none =
      absurd (is_none (given_joined list body_fits reply_fits given).0)

  pub gives_none : AreWords body → AreWords reply → (IsReplyTo body reply → ⊥) → answers body reply ≡ None
  gives_none body_fits reply_fits is_none = none_by (answers body reply) refl body_fits reply_fits is_none

pub requests_reader : ((request : Request) (rest : List ℕ) → IsRequest request → request_at (request_words request
    ++ rest) ≡ Ok (request, rest))
    → ((words rest : List ℕ) (request : Request) → AreWords words → request_at words ≡ Ok (request, rest)
    → IsRequest request × (words ≡ request_words request ++ rest))
    → IsReader request_words IsRequest request_at
requests_reader again found = record { again = again; found = found; has_words = λ request. omega arith }

pub replies_reader : ((reply : Reply) (rest : List ℕ) → IsReply reply → reply_at (reply_words reply ++ rest)
    ≡ Ok (reply, rest))
    → ((words rest : List ℕ) (reply : Reply) → AreWords words → reply_at words ≡ Ok (reply, rest) → IsReply reply
    × (words ≡ reply_words reply ++ rest))
    → IsReader reply_words IsReply reply_at
replies_reader again found = record { again = again; found = found; has_words = λ reply. omega arith }
