-- Lines of requests and replies are read again.
use Rattle.std.proofs.Common.{◌≡◌, ℕ, zero, suc, ◌-◌, ◌<◌, ◌≤◌, ◌^◌, List, [], ◌∷◌, ◌++◌, length, Some, None}
use Rattle.std.proofs.Common.{refl, ap, ◌∙◌, inl, inr, arith, append_assoc, codes, Bool, true, false, nat_lt, nat_le}
use Rattle.std.proofs.Common.{length-append, map, drop}
use Rattle.std.specs.List.{flat_map}
use Rattle.std.specs.Fmt.{decimal}
use Rattle.std.proofs.lemmas.Bool.Decides.{nat_tests}
use Rattle.ipb_base.specs.Word.{AreWords}
use Rattle.transaction_codec.specs.declared.request.Op.{Op}
use Rattle.transaction_codec.specs.declared.request.Op.TheVariants.{Read, ReadPort, Write, WritePort, RmwBits, RmwSum}
use Rattle.transaction_codec.specs.declared.request.Request.{Request}
use Rattle.transaction_codec.specs.declared.reply.Reply.{Reply}
use Rattle.transaction_codec.specs.declared.info_code.TheConstants.{REQUEST}
use Rattle.transaction_codec.specs.Header.{header}
use Rattle.transaction_codec.specs.Request.{op_kind, op_count, op_words, request_words, IsRequest, AreRequests}
use Rattle.transaction_codec.specs.Reply.{reply_words, HasForm, Carries, IsReply, AreReplies}
use Rattle.capture_reader.specs.Rows.{verb_text, line_start, words_text, asked_text, request_text, reply_text}
use Rattle.ipb_base.specs.Fronts.{Front, behind, all_of, in_front, ◌>>=◌}
use Rattle.capture_reader.specs.Fronts.{shorter}
use Rattle.capture_reader.specs.Reading.{number_at}
use Rattle.capture_reader.specs.Parsing.{word_at, count_at, verb_at, start_at, asked_at, line_with, request_line_at}
use Rattle.capture_reader.specs.Parsing.{reply_line_at, line_at, body_of}
use Rattle.ipb_base.proofs.Fronts.{all_step, all_stop}
use Rattle.capture_reader.proofs.Numbers.{number_again}
use Rattle.capture_reader.proofs.WordLines.{words_again, feed_is_no_word, count_is_no_word}
use Rattle.capture_reader.proofs.LineLaws.{shorter_again, lines_shorten}

pub is_less : (m n : ℕ) → m < n → nat_lt m n ≡ true
is_less m n l = grind (arith, nat_tests)

pub is_at_most : (m n : ℕ) → m ≤ n → nat_le m n ≡ true
is_at_most m n l = grind (arith, nat_tests)

verb_again : (kind : ℕ) (rest : List ℕ) → kind ≤ 5 → verb_at (verb_text kind ++ 32 ∷ rest) ≡ Some (kind, 32 ∷ rest)
unfolding verb_at
verb_again zero rest k = refl
verb_again (suc zero) rest k = refl
verb_again (suc (suc zero)) rest k = refl
verb_again (suc (suc (suc zero))) rest k = refl
verb_again (suc (suc (suc (suc zero)))) rest k = refl
verb_again (suc (suc (suc (suc (suc zero))))) rest k = refl
verb_again (suc (suc (suc (suc (suc (suc kind)))))) rest k = absurd (omega arith)

start_again : (tid kind : ℕ) (rest : List ℕ) → tid < 2 ^ 12 → kind ≤ 5
    → start_at (line_start tid kind ++ 32 ∷ rest) ≡ Some ((tid, kind), 32 ∷ rest)
unfolding start_at
start_again tid kind rest fits k =
    let more = verb_text kind ++ 32 ∷ rest in
    ap (λ (t : List ℕ). start_at (codes "  " ++ t)) (append_assoc (decimal tid) (codes " " ++ verb_text kind) (32 ∷ rest))
    ∙ rw (number_again tid 32 more (omega arith) (omega arith), verb_again kind rest k, is_less tid (2 ^ 12) fits) refl

-- what follows a start that was read
after_start : List ℕ → Front (ℕ × ℕ) → Front (List ℕ)
after_start text read =
    read >>= (λ start. asked_at start.0.1 (all_of word_at start.1) >>= (λ asked.
    line_with start.0.0 asked.0 start.0.1 REQUEST (all_of word_at start.1).0 (behind (codes "\n") asked.1)))

with_words : ℕ → ℕ → List ℕ × List ℕ → Front (List ℕ)
with_words tid kind read =
    asked_at kind read >>= (λ asked. line_with tid asked.0 kind REQUEST read.0 (behind (codes "\n") asked.1))

line_by : (tid kind base : ℕ) (words tail : List ℕ) → tid < 2 ^ 12 → kind ≤ 5 → AreWords (base ∷ words)
    → word_at tail ≡ None
    → request_line_at (line_start tid kind ++ (words_text (base ∷ words) ++ tail)) ≡ with_words tid kind (base ∷ words, tail)
unfolding request_line_at after_start with_words
line_by tid kind base words tail fits k are none =
    ap (after_start []) (start_again tid kind _ fits k)
    ∙ ap (with_words tid kind) (words_again (base ∷ words) tail are none)

line_is : (start words asked rest : List ℕ)
    → (start ++ (words ++ (asked ++ codes "\n"))) ++ rest ≡ start ++ (words ++ (asked ++ 10 ∷ rest))
line_is start words asked rest =
    append_assoc start (words ++ (asked ++ codes "\n")) rest
    ∙ ap (λ (t : List ℕ). start ++ t) (append_assoc words (asked ++ codes "\n") rest
    ∙ ap (λ (t : List ℕ). words ++ t) (append_assoc asked (codes "\n") rest))

counted : (tid kind count : ℕ) (words rest : List ℕ) → count < 2 ^ 8 → asked_at kind (words, 32 ∷ (decimal count ++ 10 ∷ rest))
    ≡ count_at (32 ∷ (decimal count ++ 10 ∷ rest))
    → with_words tid kind (words, 32 ∷ (decimal count ++ 10 ∷ rest))
    ≡ Some (header tid count kind REQUEST ∷ words, rest)
unfolding count_at with_words
counted tid kind count words rest fits is =
    rw is (rw (number_again count 10 rest (omega arith) (omega arith), is_less count (2 ^ 8) fits) refl)

written : (tid kind count : ℕ) (words rest : List ℕ) → count < 2 ^ 8 → asked_at kind (words, 10 ∷ rest)
    ≡ Some (count, 10 ∷ rest)
    → with_words tid kind (words, 10 ∷ rest)
    ≡ Some (header tid count kind REQUEST ∷ words, rest)
unfolding with_words
written tid kind count words rest fits is = rw is (rw (is_less count (2 ^ 8) fits) refl)

behind_base : (base : ℕ) (words rest : List ℕ)
    → ◌≡◌ {A = Front ℕ} (Some (length (base ∷ words) - 1, 10 ∷ rest)) (Some (length words, 10 ∷ rest))
behind_base base words rest =
    let e : length (base ∷ words) - 1 ≡ length words = omega arith in ap (λ (n : ℕ). Some (n, 10 ∷ rest)) e

op_again : (tid : ℕ) (op : Op) (rest : List ℕ) → tid < 2 ^ 12 → op_count op < 2 ^ 8 → AreWords (op_words op)
    → request_line_at (line_start tid (op_kind op) ++ (words_text (op_words op) ++ (asked_text op ++ 10 ∷ rest)))
    ≡ Some (request_words (record { tid = tid; op = op }), rest)
op_again tid (Read base count) rest fits few are =
    line_by tid 0 base [] (32 ∷ (decimal count ++ 10 ∷ rest)) fits (omega arith) are
    (count_is_no_word count rest (omega arith))
    ∙ counted tid 0 count (base ∷ []) rest few refl
op_again tid (ReadPort base count) rest fits few are =
    line_by tid 2 base [] (32 ∷ (decimal count ++ 10 ∷ rest)) fits (omega arith) are
    (count_is_no_word count rest (omega arith))
    ∙ counted tid 2 count (base ∷ []) rest few refl
op_again tid (Write base words) rest fits few are =
    line_by tid 1 base words (10 ∷ rest) fits (omega arith) are (feed_is_no_word rest)
    ∙ written tid 1 (length words) (base ∷ words) rest few (behind_base base words rest)
op_again tid (WritePort base words) rest fits few are =
    line_by tid 3 base words (10 ∷ rest) fits (omega arith) are (feed_is_no_word rest)
    ∙ written tid 3 (length words) (base ∷ words) rest few (behind_base base words rest)
op_again tid (RmwBits base and_term or_term) rest fits few are =
    line_by tid 4 base (and_term ∷ or_term ∷ []) (10 ∷ rest) fits (omega arith) are (feed_is_no_word rest)
    ∙ written tid 4 1 (base ∷ and_term ∷ or_term ∷ []) rest (omega arith) refl
op_again tid (RmwSum base addend) rest fits few are =
    line_by tid 5 base (addend ∷ []) (10 ∷ rest) fits (omega arith) are (feed_is_no_word rest)
    ∙ written tid 5 1 (base ∷ addend ∷ []) rest (omega arith) refl

request_again : (request : Request) (rest : List ℕ) → IsRequest request
    → request_line_at (request_text request ++ rest) ≡ Some (request_words request, rest)
request_again request rest is =
    ap request_line_at (line_is (line_start request.tid (op_kind request.op)) (words_text (op_words request.op))
    (asked_text request.op) rest)
    ∙ op_again request.tid request.op rest is.tid is.count is.words

-- ---- replies

carried_small : (done kind count carried : ℕ) → Carries done kind count carried → kind ≤ 5
carried_small done kind count carried (inl (inl read, n)) = omega arith
carried_small done kind count carried (inl (inr read, n)) = omega arith
carried_small done kind count carried (inr (inl (inl write, n))) = omega arith
carried_small done kind count carried (inr (inl (inr write, n))) = omega arith
carried_small done kind count carried (inr (inr (inl rmw, c, n))) = omega arith
carried_small done kind count carried (inr (inr (inr rmw, c, n))) = omega arith

form_small : (kind code count carried : ℕ) → HasForm kind code count carried → (kind ≤ 5) × (code < 2 ^ 4)
form_small kind code count carried (inl (success, is)) = (carried_small 1 kind count carried is, omega arith)
form_small kind code count carried (inr (inl (fault, is))) =
    (carried_small 0 kind count carried is, omega (arith, fault.1))
form_small kind code count carried (inr (inr (bad, read, c, n))) = (omega arith, omega arith)

count_before : (count : ℕ) (values rest : List ℕ) → count < 2 ^ 8
    → number_at (decimal count ++ (words_text values ++ 10 ∷ rest)) ≡ Some (count, words_text values ++ 10 ∷ rest)
count_before count [] rest fits = number_again count 10 rest (omega arith) (omega arith)
count_before count (value ∷ values) rest fits = number_again count 32 _ (omega arith) (omega arith)

reply_is : (start code count values rest : List ℕ)
    → (start ++ (codes " " ++ (code ++ (codes " " ++ (count ++ (values ++ codes "\n")))))) ++ rest
    ≡ start ++ 32 ∷ (code ++ 32 ∷ (count ++ (values ++ 10 ∷ rest)))
reply_is start code count values rest =
    append_assoc start (codes " " ++ (code ++ (codes " " ++ (count ++ (values ++ codes "\n"))))) rest
    ∙ ap (λ (t : List ℕ). start ++ 32 ∷ t)
    (append_assoc code (codes " " ++ (count ++ (values ++ codes "\n"))) rest
    ∙ ap (λ (t : List ℕ). code ++ 32 ∷ t) (append_assoc count (values ++ codes "\n") rest
    ∙ ap (λ (t : List ℕ). count ++ t) (append_assoc values (codes "\n") rest)))

fields_again : (tid kind code count : ℕ) (values rest : List ℕ) → tid < 2 ^ 12 → kind ≤ 5 → code < 2 ^ 4 → count < 2 ^ 8
    → AreWords values
    → reply_line_at (line_start tid kind ++ 32 ∷ (decimal code ++ 32 ∷ (decimal count ++ (words_text values ++ 10 ∷ rest))))
    ≡ Some (header tid count kind code ∷ values, rest)
unfolding reply_line_at count_at
fields_again tid kind code count values rest fits k c few are =
    let counts = decimal count ++ (words_text values ++ 10 ∷ rest) in
    rw (
      start_again tid kind (decimal code ++ 32 ∷ counts) fits k,
      number_again code 32 counts (omega arith) (omega arith),
      count_before count values rest few,
      words_again values (10 ∷ rest) are (feed_is_no_word rest),
      is_less count (2 ^ 8) few,
      is_less code (2 ^ 4) c,
    ) refl

reply_again : (reply : Reply) (rest : List ℕ) → IsReply reply
    → reply_line_at (reply_text reply ++ rest) ≡ Some (reply_words reply, rest)
reply_again reply rest is =
    let small = form_small reply.kind reply.code reply.count (length reply.values) is.form in
    ap reply_line_at (reply_is (line_start reply.tid reply.kind) (decimal reply.code) (decimal reply.count)
    (words_text reply.values) rest)
    ∙ fields_again reply.tid reply.kind reply.code reply.count reply.values rest is.tid small.0 small.1 is.count is.values

-- ---- lists of lines

some_more : (byte : ℕ) (text rest : List ℕ) → length rest < length ((byte ∷ text) ++ rest)
some_more byte text rest = omega (arith, length-append text rest)

stops : (rest : List ℕ) → behind (codes "  ") rest ≡ None → start_at rest ≡ None
unfolding start_at
stops rest none = rw none refl

pub lines_stop : (sent : Bool) (rest : List ℕ) → behind (codes "  ") rest ≡ None → line_at sent rest ≡ None
unfolding request_line_at reply_line_at
lines_stop true rest none = rw (stops rest none) refl
lines_stop false rest none = rw (stops rest none) refl

pub requests_again : (requests : List Request) (rest : List ℕ) → AreRequests requests → behind (codes "  ") rest ≡ None
    → all_of (line_at true) (flat_map request_text requests ++ rest) ≡ (map request_words requests, rest)
requests_again [] rest are none = all_stop (line_at true) (lines_shorten true) rest (lines_stop true rest none)
requests_again (request ∷ requests) rest are none =
    let tail = flat_map request_text requests ++ rest in
    let text = request_text request ++ tail in
    let one : line_at true text ≡ Some (request_words request, tail) =
    ap (shorter text) (request_again request tail are.0)
    ∙ shorter_again text tail (request_words request) (some_more 32 (drop 1 (request_text request)) tail) in
    ap (all_of (line_at true)) (append_assoc (request_text request) (flat_map request_text requests) rest)
    ∙ (all_step (line_at true) (lines_shorten true) text tail (request_words request) one
    ∙ ap (in_front (request_words request)) (requests_again requests rest are.1 none))

pub replies_again : (replies : List Reply) (rest : List ℕ) → AreReplies replies → behind (codes "  ") rest ≡ None
    → all_of (line_at false) (flat_map reply_text replies ++ rest) ≡ (map reply_words replies, rest)
replies_again [] rest are none = all_stop (line_at false) (lines_shorten false) rest (lines_stop false rest none)
replies_again (reply ∷ replies) rest are none =
    let tail = flat_map reply_text replies ++ rest in
    let text = reply_text reply ++ tail in
    let one : line_at false text ≡ Some (reply_words reply, tail) =
    ap (shorter text) (reply_again reply tail are.0)
    ∙ shorter_again text tail (reply_words reply) (some_more 32 (drop 1 (reply_text reply)) tail) in
    ap (all_of (line_at false)) (append_assoc (reply_text reply) (flat_map reply_text replies) rest)
    ∙ (all_step (line_at false) (lines_shorten false) text tail (reply_words reply) one
    ∙ ap (in_front (reply_words reply)) (replies_again replies rest are.1 none))

pub body_is : {A : Type 0} (words : A → List ℕ) (items : List A) → body_of (map words items) ≡ flat_map words items
body_is words [] = refl
body_is words (item ∷ items) = ap (λ (t : List ℕ). words item ++ t) (body_is words items)
