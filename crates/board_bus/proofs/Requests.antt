-- One request of a body, and the rest of it.
use Rattle.std.proofs.Common.{◌≡◌, ℕ, ◌+◌, ◌<◌, ◌≤◌, suc, zero, Bool, true, false, cond, eqb, List, [], ◌∷◌, ◌++◌}
use Rattle.std.proofs.Common.{length, length-append, append_assoc, drop, length-drop, Result, Ok, Err, refl, eq-eqb}
use Rattle.std.proofs.Common.{sym, ap, ◌∙◌, subst, arith}
use Rattle.ipb_base.specs.declared.version.TheConstants.{VERSION}
use Rattle.transaction_codec.specs.declared.request.Request.{Request}
use Rattle.transaction_codec.specs.declared.refusal.Why.{Why}
use Rattle.transaction_codec.specs.declared.info_code.TheConstants.{SUCCESS}
use Rattle.std.specs.Prelude.{◌==◌, ◌&&◌, not, nat_lt}
use Rattle.transaction_codec.specs.declared.refusal.Why.TheVariants.{Version, Kind, Code, Count, Short}
use Rattle.transaction_codec.specs.declared.info_code.TheConstants.{REQUEST}
use Rattle.transaction_codec.specs.declared.transaction_type.TheConstants.{RMW_SUM}
use Rattle.transaction_codec.specs.Header.{version_of, tid_of, kind_of, code_of, count_of, is_rmw}
use Rattle.transaction_codec.specs.Request.{request_at, op_at, words_after}
use Rattle.transaction_codec.specs.Reply.{reply_words}
use Rattle.transaction_codec.specs.Answer.{bad_header_reply}
use Rattle.board_bus.specs.Cells.{CellMap}
use Rattle.board_bus.specs.Transactions.{Transacted, transact}
use Rattle.board_bus.specs.Bodies.{Executed, after_reply, run_on, run_first, run_requests, run_body}

-- a rule that is not broken
passed : {A : Type 0} (broken : Bool) (why : Why) (then : Result A Why) (x : A) → cond broken (Err why) then ≡ Ok x
    → (broken ≡ false) × (then ≡ Ok x)
passed true why then x e = absurd cc
passed false why then x e = (refl, e)

same_ok : {A : Type 0} (x y : A) → ◌≡◌ {A = Result A Why} (Ok x) (Ok y) → x ≡ y
same_ok x y is = cc

-- what stands after a request is shorter than what stands after its header
pub rest_shorter : (word : ℕ) (after : List ℕ) (x : Request × List ℕ) → request_at (word ∷ after) ≡ Ok x
    → length x.1 ≤ length after
unfolding request_at
rest_shorter word after x is =
    let version = passed (not (version_of word == VERSION)) Version _ x is in
    let kind = passed (nat_lt RMW_SUM (kind_of word)) Kind _ x version.1 in
    let code = passed (not (code_of word == REQUEST)) Code _ x kind.1 in
    let count = passed (is_rmw (kind_of word) && not (count_of word == 1)) Count _ x code.1 in
    let len = words_after (kind_of word) (count_of word) in
    let whole = passed (nat_lt (length after) len) Short _ x count.1 in
    let made : Request × List ℕ =
    (record { tid = tid_of word; op = op_at (kind_of word) (count_of word) after }, drop len after) in
    let rest : drop len after ≡ x.1 = ap (λ (y : Request × List ℕ). y.1) (same_ok made x whole.1) in
    omega (arith, ap length rest, length-drop len after)

-- what follows a first transaction, by whether it succeeded
abbrev pub followed : Transacted → Executed → Bool → Executed
followed first later done =
    cond done (after_reply (reply_words first.reply) later) (record
    { cells = first.cells; reply = reply_words first.reply })

-- what holds whether or not anything follows holds of both
pub run_on-either : (P : Executed → Type 0) (first : Transacted) (later : CellMap → Executed)
    → P (followed first (later first.cells) true) → P (followed first (later first.cells) false)
    → P (run_on first later)
run_on-either P first later more last =
    elim (eqb first.reply.code SUCCESS) as (λ b. P (followed first (later first.cells) b))
    [ true ↦ more | false ↦ last ]

run_on_alike : (first : Transacted) (f g : CellMap → Executed) → f first.cells ≡ g first.cells
    → run_on first f ≡ run_on first g
run_on_alike first f g h = ap (λ (e : Executed). followed first e (eqb first.reply.code SUCCESS)) h

-- Enough is enough: a body may be given more steps than it has words.
mutual
  run_alike : (n m : ℕ) (words : List ℕ) (cells : CellMap) → length words ≤ n → length words ≤ m
      → run_requests n words cells ≡ run_requests m words cells
  run_alike zero zero words cells h k = refl
  run_alike zero (suc m) [] cells h k = refl
  run_alike zero (suc m) (w ∷ ws) cells h k = absurd (omega arith)
  run_alike (suc n) zero [] cells h k = refl
  run_alike (suc n) zero (w ∷ ws) cells h k = absurd (omega arith)
  run_alike (suc n) (suc m) [] cells h k = refl
  run_alike (suc n) (suc m) (w ∷ ws) cells h k =
      elim (request_at (w ∷ ws)) as (λ r. request_at (w ∷ ws) ≡ r
      → run_first cells w r (run_requests n) ≡ run_first cells w r (run_requests m)) [
        | Ok x ↦ λ is. let shorter = rest_shorter w ws x is in
            run_on_alike (transact cells x.0) (run_requests n x.1) (run_requests m x.1)
            (run_alike n m x.1 (transact cells x.0).cells (omega arith) (omega arith))
        | Err why ↦ λ _. refl
      ] refl

-- A body that begins with a request executes it, and then the rest as a body of its own.
pub run_body-request : (cells : CellMap) (word : ℕ) (after : List ℕ) (request : Request) (rest : List ℕ)
    → request_at (word ∷ after) ≡ Ok (request, rest)
    → run_body cells (word ∷ after) ≡ run_on (transact cells request) (λ left. run_body left rest)
run_body-request cells word after request rest is =
    ap (λ (r : Result (Request × List ℕ) Why). run_first cells word r (run_requests (length after))) is
    ∙ run_on_alike (transact cells request) (run_requests (length after) rest) (λ left. run_body left rest)
    (run_alike (length after) (length rest) rest (transact cells request).cells
    (rest_shorter word after (request, rest) is) (omega arith))

pub run_body-fault : (cells : CellMap) (word : ℕ) (after : List ℕ) (why : Why) → request_at (word ∷ after) ≡ Err why
    → run_body cells (word ∷ after) ≡ record { cells = cells; reply = reply_words (bad_header_reply word) }
run_body-fault cells word after why is =
    ap (λ (r : Result (Request × List ℕ) Why). run_first cells word r (run_requests (length after))) is

run_on-reply : (first : Transacted) (later : CellMap → Executed)
    → length (reply_words first.reply) ≤ length (run_on first later).reply
run_on-reply first later =
    run_on-either (λ e. length (reply_words first.reply) ≤ length e.reply) first later
    (omega (arith, length-append (reply_words first.reply) (later first.cells).reply)) (omega arith)

-- The reply to the first request is a part of the reply to the body.
pub first_reply_fits : (cells : CellMap) (words : List ℕ) (request : Request) (rest : List ℕ) → 0 < length words
    → request_at words ≡ Ok (request, rest)
    → length (reply_words (transact cells request).reply) ≤ length (run_body cells words).reply
first_reply_fits cells [] request rest some is = absurd (omega arith)
first_reply_fits cells (word ∷ after) request rest some is =
    subst (λ (e : Executed). length (reply_words (transact cells request).reply) ≤ length e.reply)
    (sym (run_body-request cells word after request rest is))
    (run_on-reply (transact cells request) (λ left. run_body left rest))

-- After a first request that succeeded the rest is a body of its own.
pub run_body-success : (cells : CellMap) (words : List ℕ) (request : Request) (rest : List ℕ) → 0 < length words
    → request_at words ≡ Ok (request, rest)
    → (transact cells request).reply.code ≡ SUCCESS
    → run_body cells words ≡ after_reply (reply_words (transact cells request).reply)
    (run_body (transact cells request).cells rest)
run_body-success cells [] request rest some is success = absurd (omega arith)
run_body-success cells (word ∷ after) request rest some is success =
    let first = transact cells request in
    let test : eqb first.reply.code SUCCESS ≡ true = eq-eqb first.reply.code SUCCESS success in
    run_body-request cells word after request rest is
    ∙ ap (followed first (run_body first.cells rest)) test

-- How far the execution of a body has come: what was answered so far and what the rest does are what the whole body
-- does.
pub record RunsOn (cells_before cells : CellMap) (before out : List ℕ) (room_before room_now : ℕ)
    (body left : List ℕ) : Type 0 where
  pub bus : (run_body cells left).cells ≡ (run_body cells_before body).cells
  pub reply : out ++ (run_body cells left).reply ≡ before ++ (run_body cells_before body).reply
  pub room : room_before ≤ room_now

pub runs_more : (cells_before cells : CellMap) (before out : List ℕ) (room_before room_now room_later : ℕ)
    (body left : List ℕ) (request : Request) (rest : List ℕ)
    → RunsOn cells_before cells before out room_before room_now body left → 0 < length left
    → request_at left ≡ Ok (request, rest)
    → (transact cells request).reply.code ≡ SUCCESS → room_now ≤ room_later
    → RunsOn cells_before (transact cells request).cells before (out ++ reply_words (transact cells request).reply)
    room_before room_later body rest
runs_more cells_before cells before out room_before room_now room_later body left request rest on some is success room =
    let step : run_body cells left ≡ after_reply (reply_words (transact cells request).reply)
    (run_body (transact cells request).cells rest) =
    run_body-success cells left request rest some is success in
    record {
      bus = sym (ap (λ (e : Executed). e.cells) step) ∙ on.bus;
      reply = append_assoc out (reply_words (transact cells request).reply)
          (run_body (transact cells request).cells rest).reply
          ∙ sym (ap (λ (e : Executed). out ++ e.reply) step) ∙ on.reply;
      room = omega (arith, on.room);
    }

-- what is still to be answered fits
pub runs_fit : (cells_before cells : CellMap) (before out : List ℕ) (room_before room_now : ℕ) (body left : List ℕ)
    → RunsOn cells_before cells before out room_before room_now body left
    → length before + length (run_body cells_before body).reply ≤ room_before
    → length out + length (run_body cells left).reply ≤ room_now
runs_fit cells_before cells before out room_before room_now body left on fits =
    omega (
      arith,
      on.room,
      ap length on.reply,
      length-append out (run_body cells left).reply,
      length-append before (run_body cells_before body).reply,
    )
