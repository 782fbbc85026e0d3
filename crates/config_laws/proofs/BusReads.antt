-- A body of reads of one word on a bus.
use Rattle.std.proofs.Common.{◌≡◌, ◌≢◌, ℕ, zero, suc, ◌+◌, ◌-◌, ◌^◌, ◌<◌, true, false, List, [], ◌∷◌, ◌++◌, length, map}
use Rattle.std.proofs.Common.{replicate, Option, Some, None, Result, Ok, Err, inl, inr, refl, sym, ap, ◌∙◌, subst, arith}
use Rattle.std.proofs.Common.{append-nil}
use Rattle.std.specs.Prelude.{IfSome}
use Rattle.std.specs.List.{AllByRecursion, slice_get}
use Rattle.std.specs.Result.{ok_prefix}
use Rattle.std.proofs.lemmas.Option.{same_Some}
use Rattle.ipb_base.specs.Word.{IsWord}
use Rattle.transaction_codec.specs.declared.request.Op.{Op}
use Rattle.transaction_codec.specs.declared.request.Op.TheVariants.{Read, ReadPort, Write, WritePort, RmwBits, RmwSum}
use Rattle.transaction_codec.specs.declared.request.Request.{Request}
use Rattle.transaction_codec.specs.declared.reply.Reply.{Reply}
use Rattle.transaction_codec.specs.declared.refusal.Why.{Why}
use Rattle.transaction_codec.specs.declared.info_code.TheConstants.{SUCCESS}
use Rattle.transaction_codec.specs.declared.transaction_type.TheConstants.{READ}
use Rattle.transaction_codec.specs.Request.{IsRequest, AreRequests, request_words, requests_words}
use Rattle.transaction_codec.specs.Reply.{IsReply, AreReplies, reply_at, reply_words, replies_words}
use Rattle.mtu_packer.specs.Packing.{requests_from, body_requests, body_words}
use Rattle.board_bus.specs.declared.fault.BusFault.{BusFault}
use Rattle.board_bus.specs.declared.fault.BusFault.TheVariants.{ReadError, WriteError, ReadTimeout, WriteTimeout}
use Rattle.board_bus.specs.Fault.{fault_code, info_code}
use Rattle.board_bus.specs.Cells.{Cell, CellMap, HoldsWords, cell_at, read_cell, read_fault, read_word, unless}
use Rattle.board_bus.specs.Transactions.{first_fault, transact}
use Rattle.board_bus.specs.Bodies.{Executed, run_body}
use Rattle.reply_join.specs.declared.answer.Answer.{Answer}
use Rattle.reply_join.specs.declared.answer.Answer.TheVariants.{Skipped}
use Rattle.reply_join.specs.Joining.{IsJoined, answer_of, answers_to}
use Rattle.transcript.specs.declared.line.OpResult.{OpResult}
use Rattle.transcript.specs.declared.line.OpResult.TheVariants.{Value}
use Rattle.transcript.specs.Ends.{answer_result}
use Rattle.transcript.specs.Results.{is_good}
use Rattle.config_laws.specs.Reads.{IsWordRead, base_of}

-- ---- the reply to one read

-- by what reading the word gives
abbrev pub reply_by : ℕ → Result ℕ BusFault → Reply
reply_by tid read = record {
  tid = tid;
  kind = READ;
  count = length (ok_prefix (read ∷ []));
  code = info_code (first_fault (read ∷ []));
  values = ok_prefix (read ∷ []);
}

abbrev read_of : ℕ → ℕ → ℕ → Request
read_of tid base count = record { tid = tid; op = Read base count }

reply_is : (cells : CellMap) (tid base count : ℕ) → count ≡ 1
    → (transact cells (read_of tid base count)).reply ≡ reply_by tid (read_word cells base)
reply_is cells tid base count one =
    subst (λ n. (transact cells (read_of tid base n)).reply ≡ reply_by tid (read_word cells base)) (sym one) refl

fault_is_no_success : (f : BusFault) → fault_code f ≢ SUCCESS
fault_is_no_success ReadError e = omega (arith, e)
fault_is_no_success WriteError e = omega (arith, e)
fault_is_no_success ReadTimeout e = omega (arith, e)
fault_is_no_success WriteTimeout e = omega (arith, e)

-- ---- they are replies

word_is_reply : (tid word : ℕ) → tid < 2 ^ 12 → IsWord word → IsReply (reply_by tid (Ok word))
word_is_reply tid word small is =
    record { tid = small; count = omega arith; form = inl (refl, inl (inl refl, refl)); values = (is, tt) }

fault_is_reply : (tid : ℕ) (f : BusFault) → tid < 2 ^ 12 → IsReply (reply_by tid (Err f))
fault_is_reply tid ReadError small = record {
  tid = small;
  count = omega arith;
  form = inr (inl ((omega arith, omega arith), inl (inl refl, refl)));
  values = tt;
}
fault_is_reply tid WriteError small = record {
  tid = small;
  count = omega arith;
  form = inr (inl ((omega arith, omega arith), inl (inl refl, refl)));
  values = tt;
}
fault_is_reply tid ReadTimeout small = record {
  tid = small;
  count = omega arith;
  form = inr (inl ((omega arith, omega arith), inl (inl refl, refl)));
  values = tt;
}
fault_is_reply tid WriteTimeout small = record {
  tid = small;
  count = omega arith;
  form = inr (inl ((omega arith, omega arith), inl (inl refl, refl)));
  values = tt;
}

unless_ok : (found : Option BusFault) (x y : ℕ) → unless found x ≡ Ok y → x ≡ y
unless_ok None x y e = cc
unless_ok (Some f) x y e = absurd cc

cell_word : (cells : CellMap) (base word : ℕ) (found : Option Cell) → cell_at cells base ≡ found → HoldsWords cells
    → read_cell found ≡ Ok word → IsWord word
cell_word cells base word None at holds read = absurd cc
cell_word cells base word (Some cell) at holds read =
    subst IsWord (unless_ok (read_fault cell.kind) cell.word word read)
    (subst (λ (o : Option Cell). IfSome o (λ c. IsWord c.word)) at (holds base))

-- ---- what was skipped, or failed

skipped_bad : (n j : ℕ) → is_good (answer_result (slice_get (replicate n Skipped) j)) ≡ false
skipped_bad zero j = refl
skipped_bad (suc n) zero = refl
skipped_bad (suc n) (suc j) = skipped_bad n j

fault_bad : (tid : ℕ) (f : BusFault) → is_good (answer_result (Some (answer_of (reply_by tid (Err f))))) ≡ false
fault_bad tid ReadError = refl
fault_bad tid WriteError = refl
fault_bad tid ReadTimeout = refl
fault_bad tid WriteTimeout = refl

-- ---- laws of what is below

abbrev executed_as : CellMap → List ℕ → Executed
executed_as cells reply = record { cells = cells; reply = reply }

abbrev pub Successes : Type 0
Successes = (cells : CellMap) (request : Request) (rest : List ℕ) → IsRequest request
    → (transact cells request).reply.code ≡ SUCCESS
    → run_body cells (request_words request ++ rest) ≡ record {
      cells = (run_body (transact cells request).cells rest).cells;
      reply = reply_words (transact cells request).reply ++ (run_body (transact cells request).cells rest).reply;
    }

abbrev pub Failures : Type 0
Failures = (cells : CellMap) (request : Request) (rest : List ℕ) → IsRequest request
    → (transact cells request).reply.code ≢ SUCCESS
    → run_body cells (request_words request ++ rest)
    ≡ record { cells = (transact cells request).cells; reply = reply_words (transact cells request).reply }

abbrev pub RepliesAgain : Type 0
RepliesAgain = (reply : Reply) (rest : List ℕ) → IsReply reply → reply_at (reply_words reply ++ rest) ≡ Ok (reply, rest)

abbrev pub OneList : Type 0
OneList = (left right : List Request) → AreRequests left → AreRequests right
    → requests_words left ≡ requests_words right → left ≡ right

-- what is good of a read is the word that is there
abbrev pub IsThere : CellMap → Op → OpResult → Type 0
IsThere cells op r =
    is_good r ≡ true → (word : ℕ) × (read_word cells (base_of op) ≡ Ok word) × (r ≡ Value (word ∷ []))

bad_is_there : (cells : CellMap) (op : Op) (r : OpResult) → is_good r ≡ false → IsThere cells op r
bad_is_there cells op r bad good = let both : true ≡ false = sym good ∙ bad in absurd cc

-- what was read, where it was
abbrev value_in : Reply × List ℕ → Result (Reply × List ℕ) Why → Reply × List ℕ
value_in otherwise (Ok x) = x
value_in otherwise (Err why) = otherwise

record SameFront (first other : Reply) (rest later : List ℕ) : Type 0 where
  reply : first ≡ other
  words : rest ≡ later

module _ (success : Successes) (failure : Failures) where
  after_word : (cells : CellMap) (tid base count word : ℕ) (rest : List ℕ) → count ≡ 1
      → IsRequest (read_of tid base count) → read_word cells base ≡ Ok word
      → run_body cells (request_words (read_of tid base count) ++ rest)
      ≡ executed_as (run_body cells rest).cells (reply_words (reply_by tid (Ok word)) ++ (run_body cells rest).reply)
  after_word cells tid base count word rest one ranges is =
      let same : (transact cells (read_of tid base count)).reply ≡ reply_by tid (Ok word) =
      reply_is cells tid base count one ∙ ap (reply_by tid) is in
      success cells (read_of tid base count) rest ranges (ap (λ (p : Reply). p.code) same)
      ∙ ap (λ (p : Reply). executed_as (run_body cells rest).cells (reply_words p ++ (run_body cells rest).reply)) same

  after_fault : (cells : CellMap) (tid base count : ℕ) (f : BusFault) (rest : List ℕ) → count ≡ 1
      → IsRequest (read_of tid base count) → read_word cells base ≡ Err f
      → run_body cells (request_words (read_of tid base count) ++ rest)
      ≡ executed_as cells (reply_words (reply_by tid (Err f)))
  after_fault cells tid base count f rest one ranges is =
      let same : (transact cells (read_of tid base count)).reply ≡ reply_by tid (Err f) =
      reply_is cells tid base count one ∙ ap (reply_by tid) is in
      failure cells (read_of tid base count) rest ranges
      (λ e. fault_is_no_success f (sym (ap (λ (p : Reply). p.code) same) ∙ e))
      ∙ ap (λ (p : Reply). executed_as cells (reply_words p)) same

  -- ---- the bus

  pub bus_left : (cells : CellMap) (first : ℕ) (part : List Op) → AreRequests (requests_from first part)
      → AllByRecursion IsWordRead part → (run_body cells (requests_words (requests_from first part))).cells ≡ cells
  bus_left cells first [] ranges reads = refl
  bus_left cells first (Read base count ∷ part) ranges reads =
      let rest = requests_words (requests_from (first + 1) part) in
      elim (read_word cells base) as (λ r. read_word cells base ≡ r
      → (run_body cells (request_words (read_of first base count) ++ rest)).cells ≡ cells) [
        | Ok word ↦ λ is.
            ap (λ (e : Executed). e.cells) (after_word cells first base count word rest reads.0 ranges.0 is)
            ∙ bus_left cells (first + 1) part ranges.1 reads.1
        | Err f ↦ λ is.
            ap (λ (e : Executed). e.cells) (after_fault cells first base count f rest reads.0 ranges.0 is)
      ] refl
  bus_left cells first (ReadPort base count ∷ part) ranges reads = absurd reads.0
  bus_left cells first (Write base words ∷ part) ranges reads = absurd reads.0
  bus_left cells first (WritePort base words ∷ part) ranges reads = absurd reads.0
  bus_left cells first (RmwBits base and_term or_term ∷ part) ranges reads = absurd reads.0
  bus_left cells first (RmwSum base addend ∷ part) ranges reads = absurd reads.0

  -- ---- the answers

  module _ (again : RepliesAgain) where
    same_front : (first other : Reply) (rest later : List ℕ) → IsReply first → IsReply other
        → reply_words first ++ rest ≡ reply_words other ++ later → SameFront first other rest later
    same_front first other rest later is also same =
        let both = sym (again first rest is) ∙ (ap reply_at same ∙ again other later also) in
        let pair : (first, rest) ≡ (other, later) = ap (value_in (first, rest)) both in
        record {
          reply = ap (λ (x : Reply × List ℕ). x.0) pair;
          words = ap (λ (x : Reply × List ℕ). x.1) pair;
        }

    none_left : (replies : List Reply) → [] ≡ replies_words replies → replies ≡ []
    none_left [] same = refl
    none_left (p ∷ ps) same = absurd cc

    module _ (cells : CellMap) (holds : HoldsWords cells) where
      behind : (tid : ℕ) (op : Op) (part : List Op) (p : Reply) (ps : List Reply) (j : ℕ) (next : Op)
          → IsThere cells next (answer_result (slice_get (answers_to (requests_from (tid + 1) part) ps) j))
          → IsThere cells next
          (answer_result (slice_get (answers_to (requests_from tid (op ∷ part)) (p ∷ ps)) (suc j)))
      behind tid op part p ps j next there =
          let asked = requests_from (tid + 1) part in
          let left : length asked - length ps ≡ length (requests_from tid (op ∷ part)) - length (p ∷ ps) =
          omega arith in
          subst (λ n. IsThere cells next (answer_result (slice_get (map answer_of ps ++ replicate n Skipped) j))) left there

      failed : (tid : ℕ) (f : BusFault) (op next : Op) (p : Reply) (ps : List Reply) (n i : ℕ)
          → reply_by tid (Err f) ≡ p → ps ≡ []
          → IsThere cells next (answer_result (slice_get (map answer_of (p ∷ ps) ++ replicate n Skipped) i))
      failed tid f op next p ps n zero same none =
          bad_is_there cells next (answer_result (Some (answer_of p)))
          (subst (λ (q : Reply). is_good (answer_result (Some (answer_of q))) ≡ false) same (fault_bad tid f))
      failed tid f op next p ps n (suc j) same none =
          subst (λ (qs : List Reply). IsThere cells next
          (answer_result (slice_get (map answer_of qs ++ replicate n Skipped) j))) (sym none)
          (bad_is_there cells next (answer_result (slice_get (replicate n Skipped) j)) (skipped_bad n j))

      -- where the first read gave its word
      word_first : (tid base count word : ℕ) (part : List Op) (p : Reply) (ps : List Reply) (i : ℕ) (op : Op)
          → read_word cells base ≡ Ok word → reply_by tid (Ok word) ≡ p
          → slice_get (Read base count ∷ part) i ≡ Some op
          → ((j : ℕ) → slice_get part j ≡ Some op
          → IsThere cells op (answer_result (slice_get (answers_to (requests_from (tid + 1) part) ps) j)))
          → IsThere cells op
          (answer_result (slice_get (answers_to (requests_from tid (Read base count ∷ part)) (p ∷ ps)) i))
      word_first tid base count word part p ps zero op is same at later =
          subst (λ (x : Op). IsThere cells x (answer_result (Some (answer_of p)))) (same_Some (Read base count) op at)
          (subst (λ (q : Reply). IsThere cells (Read base count) (answer_result (Some (answer_of q)))) same
          (λ good. (word, is, refl)))
      word_first tid base count word part p ps (suc j) op is same at later =
          behind tid (Read base count) part p ps j op (later j at)

      with_first : (first base count : ℕ) (part : List Op) (replies : List Reply) (read : Result ℕ BusFault)
          → read_word cells base ≡ read → AreRequests (requests_from first (Read base count ∷ part)) → count ≡ 1
          → AreReplies replies
          → (run_body cells (requests_words (requests_from first (Read base count ∷ part)))).reply
          ≡ replies_words replies → (i : ℕ) (op : Op) → slice_get (Read base count ∷ part) i ≡ Some op
          → ((ps : List Reply) → AreReplies ps
          → (run_body cells (requests_words (requests_from (first + 1) part))).reply ≡ replies_words ps → (j : ℕ)
          → slice_get part j ≡ Some op
          → IsThere cells op (answer_result (slice_get (answers_to (requests_from (first + 1) part) ps) j)))
          → IsThere cells op
          (answer_result (slice_get (answers_to (requests_from first (Read base count ∷ part)) replies) i))
      with_first first base count part [] (Ok word) is ranges one items spelled i op at later =
          let rest = requests_words (requests_from (first + 1) part) in
          let same = sym (ap (λ (e : Executed). e.reply)
          (after_word cells first base count word rest one ranges.0 is)) ∙ spelled in
          absurd cc
      with_first first base count part (p ∷ ps) (Ok word) is ranges one items spelled i op at later =
          let rest = requests_words (requests_from (first + 1) part) in
          let same = sym (ap (λ (e : Executed). e.reply)
          (after_word cells first base count word rest one ranges.0 is)) ∙ spelled in
          let front = same_front (reply_by first (Ok word)) p (run_body cells rest).reply (replies_words ps)
          (word_is_reply first word (ranges.0).tid
          (cell_word cells base word (cell_at cells base) refl holds is)) items.0 same in
          word_first first base count word part p ps i op is front.reply at
          (λ j there. later ps items.1 front.words j there)
      with_first first base count part [] (Err f) is ranges one items spelled i op at later =
          let rest = requests_words (requests_from (first + 1) part) in
          let same = sym (ap (λ (e : Executed). e.reply)
          (after_fault cells first base count f rest one ranges.0 is)) ∙ spelled in
          absurd cc
      with_first first base count part (p ∷ ps) (Err f) is ranges one items spelled i op at later =
          let rest = requests_words (requests_from (first + 1) part) in
          let same = sym (ap (λ (e : Executed). e.reply)
          (after_fault cells first base count f rest one ranges.0 is)) ∙ spelled in
          let front = same_front (reply_by first (Err f)) p [] (replies_words ps)
          (fault_is_reply first f (ranges.0).tid) items.0
          (append-nil (reply_words (reply_by first (Err f))) ∙ same) in
          failed first f (Read base count) op p ps
          (length (requests_from first (Read base count ∷ part)) - length (p ∷ ps)) i front.reply
          (none_left ps front.words)

      answers_there : (first : ℕ) (part : List Op) (replies : List Reply) → AreRequests (requests_from first part)
          → AllByRecursion IsWordRead part → AreReplies replies
          → (run_body cells (requests_words (requests_from first part))).reply ≡ replies_words replies → (i : ℕ)
          (op : Op) → slice_get part i ≡ Some op
          → IsThere cells op (answer_result (slice_get (answers_to (requests_from first part) replies) i))
      answers_there first [] replies ranges reads items spelled i op at = absurd cc
      answers_there first (Read base count ∷ part) replies ranges reads items spelled i op at =
          with_first first base count part replies (read_word cells base) refl ranges reads.0 items spelled i op at
          (λ ps is same j there. answers_there (first + 1) part ps ranges.1 reads.1 is same j op there)
      answers_there first (ReadPort base count ∷ part) replies ranges reads items spelled i op at = absurd reads.0
      answers_there first (Write base words ∷ part) replies ranges reads items spelled i op at = absurd reads.0
      answers_there first (WritePort base words ∷ part) replies ranges reads items spelled i op at = absurd reads.0
      answers_there first (RmwBits base and_term or_term ∷ part) replies ranges reads items spelled i op at =
          absurd reads.0
      answers_there first (RmwSum base addend ∷ part) replies ranges reads items spelled i op at = absurd reads.0

    pub joined_there : OneList → (cells : CellMap) (part : List Op) (answers : List Answer) (i : ℕ) (op : Op)
        → HoldsWords cells → AreRequests (body_requests part) → AllByRecursion IsWordRead part
        → IsJoined (body_words part) (run_body cells (body_words part)).reply answers → slice_get part i ≡ Some op
        → IsThere cells op (answer_result (slice_get answers i))
    joined_there one_list cells part answers i op holds ranges reads joined at =
        let is = joined.0 in
        let same : is.requests ≡ body_requests part =
        one_list is.requests (body_requests part) is.ranges ranges (sym is.asked) in
        let there = answers_there cells holds 0 part is.replies ranges reads is.items is.spelled i op at in
        subst (λ (list : List Answer). IsThere cells op (answer_result (slice_get list i)))
        (sym (joined.1 ∙ ap (λ (rs : List Request). answers_to rs is.replies) same)) there
