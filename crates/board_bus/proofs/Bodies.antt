-- Bodies one after another, and the words that a bus holds after them.
use Rattle.std.proofs.Common.{◌≡◌, ◌≢◌, ℕ, suc, zero, List, [], ◌∷◌, ◌++◌, length, take, Some, Ok, Err, inl, inr, refl}
use Rattle.std.proofs.Common.{ap, ◌∙◌, subst, arith}
use Rattle.std.specs.List.{AllByRecursion, slice_get}
use Rattle.std.proofs.lemmas.Bool.Decides.{eqb_tells}
use Rattle.ipb_base.specs.Word.{AreWords}
use Rattle.ipb_base.proofs.WordLemmas.{AreWords-after}
use Rattle.transaction_codec.specs.declared.request.Request.{Request}
use Rattle.transaction_codec.specs.declared.info_code.TheConstants.{SUCCESS}
use Rattle.transaction_codec.specs.Request.{IsRequest, NoRequestAtFront, request_at, request_words}
use Rattle.transaction_codec.specs.Reply.{reply_words}
use Rattle.transaction_codec.specs.Answer.{bad_header_reply}
use Rattle.board_bus.specs.Cells.{CellMap, HoldsWords}
use Rattle.board_bus.specs.Transactions.{Transacted, transact}
use Rattle.board_bus.specs.Reading.{ReadsRequests}
use Rattle.board_bus.specs.Bodies.{Executed, after_reply, run_on, run_first, run_requests, run_body, replay}
use Rattle.board_bus.proofs.Requests.{followed, run_on-either, run_body-request, run_body-success, run_body-fault}
use Rattle.board_bus.proofs.WordsKept.{outcome-words}

-- the bus after bodies and then others
pub replay-append-cells : (cells : CellMap) (front back : List (List ℕ))
    → (replay cells (front ++ back)).cells ≡ (replay (replay cells front).cells back).cells
replay-append-cells cells [] back = refl
replay-append-cells cells (body ∷ bodies) back = replay-append-cells (run_body cells body).cells bodies back

pub replay-append-replies : (cells : CellMap) (front back : List (List ℕ))
    → (replay cells (front ++ back)).replies
    ≡ (replay cells front).replies ++ (replay (replay cells front).cells back).replies
replay-append-replies cells [] back = refl
replay-append-replies cells (body ∷ bodies) back =
    ap (λ (rs : List (List ℕ)). (run_body cells body).reply ∷ rs)
    (replay-append-replies (run_body cells body).cells bodies back)

pub replay-length : (cells : CellMap) (bodies : List (List ℕ)) → length (replay cells bodies).replies ≡ length bodies
replay-length cells [] = refl
replay-length cells (body ∷ bodies) = ap suc (replay-length (run_body cells body).cells bodies)

-- the reply at a place is that of the body there, on the bus that those before it left
pub replay-place : (cells : CellMap) (bodies : List (List ℕ)) (place : ℕ) (body : List ℕ)
    → slice_get bodies place ≡ Some body
    → slice_get (replay cells bodies).replies place
    ≡ Some (run_body (replay cells (take place bodies)).cells body).reply
replay-place cells [] place body is = absurd cc
replay-place cells (first ∷ bodies) zero body is =
    let same : first ≡ body = cc in ap (λ (b : List ℕ). Some (run_body cells b).reply) same
replay-place cells (first ∷ bodies) (suc place) body is = replay-place (run_body cells first).cells bodies place body is

run_on-words : (first : Transacted) (later : CellMap → Executed) → HoldsWords first.cells
    → HoldsWords (later first.cells).cells → HoldsWords (run_on first later).cells
run_on-words first later here after =
    run_on-either (λ e. HoldsWords e.cells) first later after here

module _ (reads : ReadsRequests) where
  run_requests-words : (most : ℕ) (words : List ℕ) (cells : CellMap) → AreWords words → HoldsWords cells
      → HoldsWords (run_requests most words cells).cells
  run_requests-words zero words cells fits holds = holds
  run_requests-words (suc most) [] cells fits holds = holds
  run_requests-words (suc most) (word ∷ after) cells fits holds =
      elim (request_at (word ∷ after)) as (λ r. request_at (word ∷ after) ≡ r
      → HoldsWords (run_first cells word r (run_requests most)).cells) [
        | Ok x ↦ λ is.
            let found = reads.found (word ∷ after) x.1 x.0 fits is in
            let bus : HoldsWords (transact cells x.0).cells =
            (outcome-words cells (x.0).op holds (found.0).words).bus in
            let rest : AreWords x.1 = AreWords-after (request_words x.0) x.1 (subst AreWords found.1 fits) in
            run_on-words (transact cells x.0) (run_requests most x.1) bus
            (run_requests-words most x.1 (transact cells x.0).cells rest bus)
        | Err why ↦ λ _. holds
      ] refl

  -- words stay words
  pub run_body-words : (cells : CellMap) (body : List ℕ) → HoldsWords cells → AreWords body
      → HoldsWords (run_body cells body).cells
  run_body-words cells body holds fits = run_requests-words (length body) body cells fits holds

  pub replay-words : (cells : CellMap) (bodies : List (List ℕ)) → HoldsWords cells → AllByRecursion AreWords bodies
      → HoldsWords (replay cells bodies).cells
  replay-words cells [] holds fits = holds
  replay-words cells (body ∷ bodies) holds fits =
      replay-words (run_body cells body).cells bodies (run_body-words cells body holds fits.0) fits.1

  pub run_body-done : (cells : CellMap) (request : Request) (rest : List ℕ) → IsRequest request
      → (transact cells request).reply.code ≡ SUCCESS
      → run_body cells (request_words request ++ rest) ≡ after_reply (reply_words (transact cells request).reply)
      (run_body (transact cells request).cells rest)
  run_body-done cells request rest is success =
      run_body-success cells (request_words request ++ rest) request rest (omega arith) (reads.again request rest is)
      success

  pub run_body-failed : (cells : CellMap) (request : Request) (rest : List ℕ) → IsRequest request
      → (transact cells request).reply.code ≢ SUCCESS
      → run_body cells (request_words request ++ rest) ≡ record {
        cells = (transact cells request).cells;
        reply = reply_words (transact cells request).reply;
      }
  run_body-failed cells request rest is failed =
      let first = transact cells request in
      run_body-request cells _ _ request rest (reads.again request rest is)
      ∙ elim (eqb_tells first.reply.code SUCCESS) [
        | inl same ↦ absurd (failed same.1)
        | inr differ ↦ ap (followed first (run_body first.cells rest)) differ.0
      ]

  pub run_body-bad_header : (cells : CellMap) (word : ℕ) (after : List ℕ) → AreWords (word ∷ after)
      → NoRequestAtFront (word ∷ after)
      → run_body cells (word ∷ after) ≡ record { cells = cells; reply = reply_words (bad_header_reply word) }
  run_body-bad_header cells word after fits bad =
      elim (request_at (word ∷ after)) as (λ r. request_at (word ∷ after) ≡ r
      → run_body cells (word ∷ after) ≡ record { cells = cells; reply = reply_words (bad_header_reply word) }) [
        | Ok x ↦ λ is. let found = reads.found (word ∷ after) x.1 x.0 fits is in absurd (bad x.0 x.1 found.0 found.1)
        | Err why ↦ λ is. run_body-fault cells word after why is
      ] refl
