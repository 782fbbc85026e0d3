-- The bodies of control packets on a bus: one, and one after another. IPbus 2.0, control packet; that a failed
-- transaction and a bad header end the body is the profile's.
use Rattle.std.specs.Prelude.{ℕ, zero, suc, ◌==◌, if◌then◌else◌, List, [], ◌∷◌, ◌++◌, length, Result, Ok, Err}
use Rattle.transaction_codec.specs.declared.request.Request.{Request}
use Rattle.transaction_codec.specs.declared.refusal.Why.{Why}
use Rattle.transaction_codec.specs.declared.info_code.TheConstants.{SUCCESS}
use Rattle.transaction_codec.specs.Request.{request_at}
use Rattle.transaction_codec.specs.Reply.{reply_words}
use Rattle.transaction_codec.specs.Answer.{bad_header_reply}
use Rattle.board_bus.specs.Cells.{CellMap}
use Rattle.board_bus.specs.Transactions.{Transacted, transact}

-- a bus, and the words that it answered
pub record Executed : Type 0 where
  pub cells : CellMap
  pub reply : List ℕ

-- a first reply, and then what came later
abbrev pub after_reply : List ℕ → Executed → Executed
after_reply words later = record later { reply = words ++ later.reply }

-- After a transaction that succeeded the rest is executed; after one that failed nothing follows. Profile.
abbrev pub run_on : Transacted → (CellMap → Executed) → Executed
run_on first later =
    if first.reply.code == SUCCESS then after_reply (reply_words first.reply) (later first.cells)
    else record { cells = first.cells; reply = reply_words first.reply }

-- Where the words begin with no request, one header with info code 1 answers the word there and nothing follows.
-- Profile.
abbrev pub run_first : CellMap → ℕ → Result (Request × List ℕ) Why → (List ℕ → CellMap → Executed) → Executed
run_first cells word (Ok (request, rest)) later = run_on (transact cells request) (later rest)
run_first cells word (Err why) later = record { cells = cells; reply = reply_words (bad_header_reply word) }

-- at most this many requests of a body
abbrev pub run_requests : ℕ → List ℕ → CellMap → Executed
run_requests zero words cells = record { cells = cells; reply = [] }
run_requests (suc most) [] cells = record { cells = cells; reply = [] }
run_requests (suc most) (word ∷ after) cells = run_first cells word (request_at (word ∷ after)) (run_requests most)

-- One body: its requests in order while each succeeds. It has no more requests than words. IPbus 2.0, control packet.
abbrev pub run_body : CellMap → List ℕ → Executed
run_body cells words = run_requests (length words) words cells

-- a bus, and the replies that it gave, in order
pub record Replayed : Type 0 where
  pub cells : CellMap
  pub replies : List (List ℕ)

abbrev pub after_body : List ℕ → Replayed → Replayed
after_body reply later = record later { replies = reply ∷ later.replies }

-- Bodies one after another, each on the bus that those before it left: the reply to each, and the bus after all.
abbrev pub replay : CellMap → List (List ℕ) → Replayed
replay cells [] = record { cells = cells; replies = [] }
replay cells (body ∷ bodies) =
    let first = run_body cells body in
    after_body first.reply (replay first.cells bodies)
