-- A reply is never longer than the room that its body has.
use Rattle.std.proofs.Common.{ℕ, ◌+◌, ◌≤◌, suc, zero, List, [], ◌∷◌, length, length-append, replicate, Result, Ok, Err}
use Rattle.std.proofs.Common.{arith, lit≤}
use Rattle.std.specs.List.{range_with_len}
use Rattle.std.proofs.lemmas.List.{length-replicate}
use Rattle.std.proofs.lemmas.List.FromFn.{length-range_with_len}
use Rattle.transaction_codec.specs.declared.request.Op.{Op}
use Rattle.transaction_codec.specs.declared.request.Op.TheVariants.{Read, ReadPort, Write, WritePort, RmwBits, RmwSum}
use Rattle.transaction_codec.specs.Request.{request_at}
use Rattle.transaction_codec.specs.Reply.{reply_words}
use Rattle.transaction_codec.specs.Answer.{values_done, room_first, room_from, reply_room}
use Rattle.board_bus.specs.declared.fault.BusFault.{BusFault}
use Rattle.board_bus.specs.Cells.{CellMap}
use Rattle.board_bus.specs.Transactions.{Modified, of_modifying, modify, masked_word, sum_word, outcome, Transacted, transact}
use Rattle.board_bus.specs.Bodies.{Executed, run_on, run_first, run_requests, run_body}
use Rattle.board_bus.proofs.Progress.{words_read-length}
use Rattle.board_bus.proofs.Requests.{run_on-either}

modified_values : (cells : CellMap) (r : Result Modified BusFault) → length (of_modifying cells r).values ≤ 1
modified_values cells (Ok modified) = lit≤ tt
modified_values cells (Err fault) = lit≤ tt

pub values_bound : (cells : CellMap) (op : Op) → length (outcome cells op).values ≤ values_done op
values_bound cells (Read base count) =
    omega (arith, words_read-length cells (range_with_len base count), length-range_with_len base count)
values_bound cells (ReadPort base count) =
    omega (arith, words_read-length cells (replicate count base), length-replicate count base)
values_bound cells (Write base words) = lit≤ tt
values_bound cells (WritePort base words) = lit≤ tt
values_bound cells (RmwBits base and_term or_term) = modified_values cells (modify cells base (masked_word and_term or_term))
values_bound cells (RmwSum base addend) = modified_values cells (modify cells base (sum_word addend))

run_on-length : (first : Transacted) (later : CellMap → Executed) (room more : ℕ) → length first.reply.values ≤ room
    → length (later first.cells).reply ≤ more
    → length (run_on first later).reply ≤ 1 + room + more
run_on-length first later room more fits rest =
    run_on-either (λ e. length e.reply ≤ 1 + room + more) first later
    (omega (arith, length-append (reply_words first.reply) (later first.cells).reply)) (omega arith)

run_requests-length : (most : ℕ) (words : List ℕ) (cells : CellMap)
    → length (run_requests most words cells).reply ≤ room_from most words
run_requests-length zero words cells = lit≤ tt
run_requests-length (suc most) [] cells = lit≤ tt
run_requests-length (suc most) (word ∷ after) cells =
    elim (request_at (word ∷ after)) as (λ r. length (run_first cells word r (run_requests most)).reply
    ≤ room_first r (room_from most)) [
      | Ok x ↦ run_on-length (transact cells x.0) (run_requests most x.1) (values_done x.0.op) (room_from most x.1)
          (values_bound cells x.0.op)
          (run_requests-length most x.1 (transact cells x.0).cells)
      | Err why ↦ lit≤ tt
    ]

pub run_body-length : (cells : CellMap) (body : List ℕ) → length (run_body cells body).reply ≤ reply_room body
run_body-length cells body = run_requests-length (length body) body cells
