-- A body of operations on a bus, where each of them was done.
use Rattle.std.proofs.Common.{◌≡◌, ℕ, suc, ◌+◌, ◌-◌, ◌≤◌, true, false, List, [], ◌∷◌, ◌++◌, length, map}
use Rattle.std.proofs.Common.{replicate, Some, inl, inr, refl, sym, ap, ◌∙◌, subst, arith, append-nil, eq-eqb}
use Rattle.std.specs.List.{AllByRecursion}
use Rattle.std.proofs.lemmas.List.{length-replicate}
use Rattle.transaction_codec.specs.declared.request.Op.{Op}
use Rattle.transaction_codec.specs.declared.request.Request.{Request}
use Rattle.transaction_codec.specs.declared.reply.Reply.{Reply}
use Rattle.transaction_codec.specs.declared.info_code.TheConstants.{SUCCESS}
use Rattle.transaction_codec.specs.Request.{IsRequest, AreRequests, op_count, requests_words}
use Rattle.transaction_codec.specs.Reply.{IsReply, AreReplies, reply_words, replies_words}
use Rattle.transaction_codec.specs.Answer.{Answers, IsReplyTo}
use Rattle.mtu_packer.specs.Packing.{body_requests, body_words, requests_from}
use Rattle.board_bus.specs.Cells.{CellMap, HoldsWords}
use Rattle.board_bus.specs.Transactions.{outcome, transact}
use Rattle.board_bus.specs.Bodies.{Executed, run_body}
use Rattle.board_bus.proofs.Shapes.{OpDone, OpFailed, shape_of}
use Rattle.board_bus.proofs.WordsKept.{outcome-words}
use Rattle.reply_join.specs.declared.answer.Answer.{Answer}
use Rattle.reply_join.specs.declared.answer.Answer.TheVariants.{Skipped}
use Rattle.reply_join.specs.Joining.{IsJoined, answer_of, answers_to}
use Rattle.transcript.specs.declared.line.OpResult.{OpResult}
use Rattle.transcript.specs.Ends.{answer_result}
use Rattle.transcript.specs.Results.{is_good}
use Rattle.config_laws.specs.Turns.{after_ops}
use Rattle.config_laws.proofs.BusReads.{Failures, Successes}
use Rattle.config_laws.proofs.TurnOps.{AreAllDone, no_fault, told_turn, turns}

-- each was executed without a fault
abbrev pub AllGood : List OpResult → Type 0
AllGood results = AllByRecursion (λ (r : OpResult). is_good r ≡ true) results

abbrev pub told_answer : Answer → OpResult
told_answer a = answer_result (Some a)

abbrev pub told_answers : List Answer → List OpResult
told_answers list = map told_answer list

-- what a body did whose operations were done
pub record GoesOn (cells : CellMap) (tid : ℕ) (part : List Op) (list : List Answer) : Type 0 where
  pub done : AreAllDone cells part
  pub bus : (run_body cells (requests_words (requests_from tid part))).cells ≡ after_ops cells part
  pub told : told_answers list ≡ turns cells part

-- the replies to a body
record IsRun (cells : CellMap) (tid : ℕ) (part : List Op) : Type 0 where
  replies : List Reply
  items : AreReplies replies
  answers' : Answers (requests_from tid part) [] replies
  spelled : (run_body cells (requests_words (requests_from tid part))).reply ≡ replies_words replies
  count : length (answers_to (requests_from tid part) replies) ≡ length part
  good : AllGood (told_answers (answers_to (requests_from tid part) replies))
      → GoesOn cells tid part (answers_to (requests_from tid part) replies)

reply_is_reply : (cells : CellMap) (request : Request) → HoldsWords cells → IsRequest request
    → IsReply (transact cells request).reply
reply_is_reply cells request holds is =
    let shape = shape_of cells request.op in
    let small : (transact cells request).reply.count ≤ op_count request.op =
    elim shape.outcome [ inl done ↦ omega (arith, done.full) | inr failed ↦ failed.small ] in
    record {
      tid = is.tid;
      count = omega (arith, small, is.count);
      form = shape.form;
      values = (outcome-words cells request.op holds is.words).carried;
    }

-- one request more, and its reply
answers_more : (request : Request) (requests : List Request) (p : Reply) (ps : List Reply)
    → answers_to (request ∷ requests) (p ∷ ps) ≡ answer_of p ∷ answers_to requests ps
answers_more request requests p ps =
    let left : length (request ∷ requests) - length (p ∷ ps) ≡ length requests - length ps = omega arith in
    ap (λ n. answer_of p ∷ (map answer_of ps ++ replicate n Skipped)) left

-- ---- the answers to a body

abbrev pub OneAnswer : Type 0
OneAnswer = (body reply : List ℕ) (one other : List Answer) → IsJoined body reply one → IsJoined body reply other
    → one ≡ other

pub record IsAnswered (cells : CellMap) (part : List Op) (list : List Answer) : Type 0 where
  pub count : length list ≡ length part
  pub good : AllGood (told_answers list) → GoesOn cells 0 part list

module _ (success : Successes) (failure : Failures) where
  run_more : (cells : CellMap) (tid : ℕ) (op : Op) (part : List Op) → HoldsWords cells
      → IsRequest (record { tid = tid; op = op })
      → OpDone op (transact cells (record { tid = tid; op = op })).reply.code (outcome cells op).count
      (length (outcome cells op).values)
      → IsRun (outcome cells op).cells (tid + 1) part → IsRun cells tid (op ∷ part)
  run_more cells tid op part holds is done later =
      let request : Request = record { tid = tid; op = op } in
      let first = transact cells request in
      let rest = requests_words (requests_from (tid + 1) part) in
      let step = success cells request rest is done.success in
      let more = answers_more request (requests_from (tid + 1) part) first.reply later.replies in
      record {
        replies = first.reply ∷ later.replies;
        items = (reply_is_reply cells request holds is, later.items);
        answers' = inl (
          record {
            tid = refl;
            kind = refl;
            code = done.success;
            count = done.full;
            values = done.carried;
          },
          later.answers',
        );
        spelled = ap (λ (e : Executed). e.reply) step ∙ ap (λ (ws : List ℕ). reply_words first.reply ++ ws) later.spelled;
        count = ap length more ∙ ap suc later.count;
        good = λ all.
            let each = subst (λ (list : List Answer). AllGood (told_answers list)) more all in
            let on = later.good each.1 in
            record {
              done = (no_fault (outcome cells op).fault done.success, on.done);
              bus = ap (λ (e : Executed). e.cells) step ∙ on.bus;
              told = ap told_answers more ∙ ap (λ (rs : List OpResult). told_turn cells op ∷ rs) on.told;
            };
      }

  run_failed : (cells : CellMap) (tid : ℕ) (op : Op) (part : List Op) → HoldsWords cells
      → IsRequest (record { tid = tid; op = op })
      → OpFailed op (transact cells (record { tid = tid; op = op })).reply.code (outcome cells op).count
      (length (outcome cells op).values)
      → IsRun cells tid (op ∷ part)
  run_failed cells tid op part holds is failed =
      let request : Request = record { tid = tid; op = op } in
      let first = transact cells request in
      let rest = requests_words (requests_from (tid + 1) part) in
      let step = failure cells request rest is
      (λ e. let both : true ≡ false = sym (eq-eqb first.reply.code SUCCESS e) ∙ failed.failed in absurd cc) in
      let more = answers_more request (requests_from (tid + 1) part) first.reply [] in
      record {
        replies = first.reply ∷ [];
        items = (reply_is_reply cells request holds is, tt);
        answers' = inr (record { tid = refl; kind = refl; fault = failed.fault }, refl);
        spelled = ap (λ (e : Executed). e.reply) step ∙ sym (append-nil (reply_words first.reply));
        count = ap length more ∙ ap suc (skipped_count (requests_from (tid + 1) part) ∙ requests_count (tid + 1) part);
        good = λ all.
            let bad : is_good (told_answer (answer_of first.reply)) ≡ false = rw failed.failed refl in
            let both : true ≡ false = sym (all.0) ∙ bad in absurd cc;
      } where
        skipped_count : (requests : List Request) → length (answers_to requests []) ≡ length requests
        skipped_count requests =
            let all : length requests - 0 ≡ length requests = omega arith in
            ap (λ n. length (replicate n Skipped)) all ∙ length-replicate (length requests) Skipped

        requests_count : (first : ℕ) (ops : List Op) → length (requests_from first ops) ≡ length ops
        requests_count first [] = refl
        requests_count first (o ∷ os) = ap suc (requests_count (first + 1) os)

  is_run : (cells : CellMap) (tid : ℕ) (part : List Op) → HoldsWords cells → AreRequests (requests_from tid part)
      → IsRun cells tid part
  is_run cells tid [] holds are = record {
    replies = [];
    items = tt;
    answers' = refl;
    spelled = refl;
    count = refl;
    good = λ all. record { done = tt; bus = refl; told = refl };
  }
  is_run cells tid (op ∷ part) holds are = elim (shape_of cells op).outcome [
    | inl done ↦
        run_more cells tid op part holds are.0 done
        (is_run (outcome cells op).cells (tid + 1) part (outcome-words cells op holds (are.0).words).bus are.1)
    | inr failed ↦ run_failed cells tid op part holds are.0 failed
  ]

  pub joined_on : OneAnswer → (cells : CellMap) (part : List Op) (list : List Answer) → HoldsWords cells
      → AreRequests (body_requests part) → IsJoined (body_words part) (run_body cells (body_words part)).reply list
      → IsAnswered cells part list
  joined_on only cells part list holds are joined =
      let run = is_run cells 0 part holds are in
      let reply : IsReplyTo (body_words part) (run_body cells (body_words part)).reply = record {
        requests = body_requests part;
        replies = run.replies;
        ranges = are;
        asked = refl;
        items = run.items;
        answers = run.answers';
        spelled = run.spelled;
      } in
      let same : answers_to (body_requests part) run.replies ≡ list =
      only (body_words part) (run_body cells (body_words part)).reply (answers_to (body_requests part) run.replies) list
      (reply, refl) joined in
      subst (IsAnswered cells part) same (record { count = run.count; good = run.good })
