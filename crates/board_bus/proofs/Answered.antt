-- The reply to a body is one that a device can give to it.
use Rattle.std.proofs.Common.{◌≡◌, ℕ, ◌≤◌, inl, inr, Bool, eq-eqb, List, [], ◌∷◌, ◌++◌, length, length-append}
use Rattle.std.proofs.Common.{append_assoc}
use Rattle.std.proofs.Common.{append-nil, refl, sym, ap, ◌∙◌, subst, arith, lit<}
use Rattle.std.specs.List.{AllByRecursion, AllZip}
use Rattle.ipb_base.specs.Word.{AreWords}
use Rattle.ipb_base.proofs.WordLemmas.{AreWords-after}
use Rattle.transaction_codec.specs.declared.request.Request.{Request}
use Rattle.transaction_codec.specs.declared.reply.Reply.{Reply}
use Rattle.transaction_codec.specs.declared.info_code.TheConstants.{SUCCESS}
use Rattle.transaction_codec.specs.Request.{op_count, IsRequest, AreRequests, NoRequestAtFront, request_words}
use Rattle.transaction_codec.specs.Request.{requests_words}
use Rattle.transaction_codec.specs.Reply.{IsReply, AreReplies, reply_words, replies_words}
use Rattle.transaction_codec.specs.Answer.{IsDone, IsFailed, Answers, ending_of, bad_header_reply, CanAnswer, IsReplyTo}
use Rattle.board_bus.specs.Cells.{CellMap, HoldsWords}
use Rattle.board_bus.specs.Transactions.{transact}
use Rattle.board_bus.specs.Reading.{ReadsRequests}
use Rattle.board_bus.specs.Bodies.{Executed, run_on, run_body, replay}
use Rattle.board_bus.proofs.Bodies.{run_body-bad_header, run_body-words}
use Rattle.board_bus.proofs.Requests.{followed, run_body-request}
use Rattle.board_bus.proofs.Shapes.{shape_of, OpDone, OpFailed}
use Rattle.board_bus.proofs.WordsKept.{outcome-words}

-- the replies that a body of these requests, and what stands after them, is answered by
pub record HasReplies (cells : CellMap) (requests : List Request) (rest : List ℕ) : Type 0 where
  pub replies : List Reply
  pub items : AreReplies replies
  pub answers : Answers requests (ending_of rest) replies
  pub spelled : (run_body cells (requests_words requests ++ rest)).reply ≡ replies_words replies

bad_header_is_reply : (word : ℕ) → IsReply (bad_header_reply word)
bad_header_is_reply word =
    record { tid = omega arith; count = lit< tt; form = inr (inr (refl, refl, refl, refl)); values = tt }

-- nothing begins with a request
nothing_bad : NoRequestAtFront []
nothing_bad request rest is parts = absurd (omega (arith, ap length parts, length-append (request_words request) rest))

module _ (cells : CellMap) (request : Request) (holds : HoldsWords cells) (is : IsRequest request) where
  reply_is_reply : IsReply (transact cells request).reply
  reply_is_reply =
      let shape = shape_of cells request.op in
      let small : (transact cells request).reply.count ≤ op_count request.op =
      elim shape.outcome [ inl done ↦ omega (arith, done.full) | inr failed ↦ failed.small ] in
      record {
        tid = is.tid;
        count = omega (arith, small, is.count);
        form = shape.form;
        values = (outcome-words cells request.op holds is.words).carried;
      }

  done_is : OpDone request.op (transact cells request).reply.code (transact cells request).reply.count
      (length (transact cells request).reply.values) → IsDone request (transact cells request).reply
  done_is done = record { tid = refl; kind = refl; code = done.success; count = done.full; values = done.carried }

  failed_is : OpFailed request.op (transact cells request).reply.code (transact cells request).reply.count
      (length (transact cells request).reply.values) → IsFailed request (transact cells request).reply
  failed_is failed = record { tid = refl; kind = refl; fault = failed.fault }

module _ (reads : ReadsRequests) where
  at_end : (cells : CellMap) (rest : List ℕ) → AreWords rest → NoRequestAtFront rest → HasReplies cells [] rest
  at_end cells [] fits bad = record { replies = []; items = tt; answers = refl; spelled = refl }
  at_end cells (word ∷ after) fits bad = record {
    replies = bad_header_reply word ∷ [];
    items = (bad_header_is_reply word, tt);
    answers = refl;
    spelled = ap (λ (e : Executed). e.reply) (run_body-bad_header reads cells word after fits bad);
  }

  pub first_request_is : (cells : CellMap) (request : Request) (requests : List Request) (rest : List ℕ)
      → IsRequest request
      → run_body cells (requests_words (request ∷ requests) ++ rest) ≡ run_on (transact cells request)
      (λ left. run_body left (requests_words requests ++ rest))
  first_request_is cells request requests rest is =
      ap (run_body cells) (append_assoc (request_words request) (requests_words requests) rest)
      ∙ run_body-request cells _ _ request (requests_words requests ++ rest)
      (reads.again request (requests_words requests ++ rest) is)

  pub replies_of : (cells : CellMap) (requests : List Request) (rest : List ℕ) → HoldsWords cells → AreRequests requests
      → AreWords rest → NoRequestAtFront rest
      → HasReplies cells requests rest
  replies_of cells [] rest holds are fits bad = at_end cells rest fits bad
  replies_of cells (request ∷ requests) rest holds are fits bad =
      let first = transact cells request in
      let after : List ℕ = requests_words requests ++ rest in
      let step = first_request_is cells request requests rest are.0 in
      let reply : Bool → List ℕ = λ done. (followed first (run_body first.cells after) done).reply in
      elim ((shape_of cells request.op).outcome) [
        | inl done ↦
            let later = replies_of first.cells requests rest (outcome-words cells request.op holds (are.0).words).bus
            are.1 fits bad in
            record {
              replies = first.reply ∷ later.replies;
              items = (reply_is_reply cells request holds are.0, later.items);
              answers = inl (done_is cells request holds are.0 done, later.answers);
              spelled = ap (λ (e : Executed). e.reply) step ∙ ap reply (eq-eqb first.reply.code SUCCESS done.success)
                  ∙ ap (λ (ws : List ℕ). reply_words first.reply ++ ws) later.spelled;
            }
        | inr failed ↦ record {
          replies = first.reply ∷ [];
          items = (reply_is_reply cells request holds are.0, tt);
          answers = inr (failed_is cells request holds are.0 failed, refl);
          spelled = ap (λ (e : Executed). e.reply) step ∙ ap reply failed.failed
              ∙ sym (append-nil (reply_words first.reply));
        }
      ]

  -- what a bus answers to requests, and a bad header after them, is what a device can answer
  pub can_answer : (cells : CellMap) (requests : List Request) (rest : List ℕ) → HoldsWords cells → AreRequests requests
      → AreWords rest → NoRequestAtFront rest
      → CanAnswer (requests_words requests ++ rest) (run_body cells (requests_words requests ++ rest)).reply
  can_answer cells requests rest holds are fits bad =
      let has = replies_of cells requests rest holds are fits bad in
      record {
        requests = requests;
        rest = rest;
        replies = has.replies;
        ranges = are;
        parts = refl;
        bad = bad;
        items = has.items;
        answers = has.answers;
        spelled = has.spelled;
      }

  pub is_reply_to : (cells : CellMap) (requests : List Request) → HoldsWords cells → AreRequests requests
      → IsReplyTo (requests_words requests) (run_body cells (requests_words requests)).reply
  is_reply_to cells requests holds are =
      let whole : requests_words requests ++ [] ≡ requests_words requests = append-nil (requests_words requests) in
      reads.answers requests (requests_words requests) (run_body cells (requests_words requests)).reply are refl
      (subst (λ (ws : List ℕ). CanAnswer ws (run_body cells ws).reply) whole
      (can_answer cells requests [] holds are tt nothing_bad))

  -- Any body of words is requests and then nothing, or a bad header.
  pub answers_any : (cells : CellMap) (body : List ℕ) → HoldsWords cells → AreWords body
      → CanAnswer body (run_body cells body).reply
  answers_any cells body holds fits =
      let cut = (reads.longest body fits).given in
      let rest : AreWords cut.rest =
      AreWords-after (requests_words cut.requests) cut.rest (subst AreWords cut.parts fits) in
      subst (λ (ws : List ℕ). CanAnswer ws (run_body cells ws).reply) (sym cut.parts)
      (can_answer cells cut.requests cut.rest holds cut.ranges rest cut.bad)

  -- Bodies of words one after another: each reply can be given to its body.
  pub replay-answers : (cells : CellMap) (bodies : List (List ℕ)) → HoldsWords cells → AllByRecursion AreWords bodies
      → AllZip CanAnswer bodies (replay cells bodies).replies
  replay-answers cells [] holds fits = tt
  replay-answers cells (body ∷ bodies) holds fits = (
    answers_any cells body holds fits.0,
    replay-answers (run_body cells body).cells bodies (run_body-words reads cells body holds fits.0) fits.1,
  )
