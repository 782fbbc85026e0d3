-- A bus keeps its entries by rising address.
use Rattle.std.proofs.Common.{◌≡◌, ℕ, suc, zero, Bool, true, false, List, [], ◌∷◌, map, Result, Ok, Err, refl, sym}
use Rattle.std.proofs.Common.{subst, T}
use Rattle.std.specs.Ordering.{nat_cmp}
use Rattle.std.specs.Cmp.{nat_cmp_total}
use Rattle.std.specs.FinMap.Entries.{find, is_sorted-put}
use Rattle.std.specs.List.{enumerate_from}
use Rattle.transaction_codec.specs.declared.request.Op.{Op}
use Rattle.transaction_codec.specs.declared.request.Op.TheVariants.{Read, ReadPort, Write, WritePort, RmwBits, RmwSum}
use Rattle.transaction_codec.specs.Request.{request_at}
use Rattle.board_bus.specs.declared.fault.BusFault.{BusFault}
use Rattle.board_bus.specs.declared.range.Range.{Range}
use Rattle.board_bus.specs.Cells.{CellMap, IsInOrder, read_word, write_word}
use Rattle.board_bus.specs.Ranges.{range_cells, opening_bus}
use Rattle.std.specs.List.{flat_map}
use Rattle.board_bus.specs.Transactions.{◌>>=◌, write_on, write_words, Modified, modify, of_modifying, masked_word, sum_word}
use Rattle.board_bus.specs.Transactions.{outcome, Transacted, transact}
use Rattle.board_bus.specs.Bodies.{Executed, run_on, run_first, run_requests, run_body}
use Rattle.board_bus.proofs.Lookups.{cell_map-in_order, same_cells}
use Rattle.board_bus.proofs.WordsKept.{write-was}
use Rattle.board_bus.proofs.Requests.{run_on-either}

from_test : (b : Bool) → T b → b ≡ true
from_test true h = refl
from_test false h = absurd h

to_test : (b : Bool) → b ≡ true → T b
to_test b h = subst T (sym h) tt

write-in_order : (cells after : CellMap) (address word : ℕ) → IsInOrder cells → write_word cells address word ≡ Ok after
    → IsInOrder after
write-in_order cells after address word order is =
    let was = write-was cells after address word is in
    subst IsInOrder (sym was.2)
    (from_test _ (is_sorted-put nat_cmp nat_cmp_total address (record was.0 { word = word }) cells (to_test _ order)))

writes-in_order : (cells : CellMap) (entries : List (ℕ × ℕ)) → IsInOrder cells
    → IsInOrder (write_words cells entries).cells
writes-in_order cells [] order = order
writes-in_order cells (e ∷ es) order =
    elim (write_word cells e.0 e.1) as (λ (r : Result CellMap BusFault). write_word cells e.0 e.1 ≡ r
    → IsInOrder (write_on cells r (λ after. write_words after es)).cells) [
      | Ok after ↦ λ is. writes-in_order after es (write-in_order cells after e.0 e.1 order is)
      | Err fault ↦ λ _. order
    ] refl

modify-in_order : (cells : CellMap) (address : ℕ) (change : ℕ → ℕ) → IsInOrder cells
    → IsInOrder (of_modifying cells (modify cells address change)).cells
modify-in_order cells address change order =
    let written : ℕ → CellMap → Result Modified BusFault =
    λ before after. Ok (record { before = before; cells = after }) in
    elim (read_word cells address) as (λ (r : Result ℕ BusFault).
    IsInOrder (of_modifying cells (r >>= λ before.
    (write_word cells address (change before) >>= written before))).cells) [
      | Err fault ↦ order
      | Ok before ↦ elim (write_word cells address (change before)) as (λ (r : Result CellMap BusFault).
          write_word cells address (change before) ≡ r
          → IsInOrder (of_modifying cells (r >>= written before)).cells) [
            | Err fault ↦ λ _. order
            | Ok after ↦ λ is. write-in_order cells after address (change before) order is
          ] refl
    ]

outcome-in_order : (cells : CellMap) (op : Op) → IsInOrder cells → IsInOrder (outcome cells op).cells
outcome-in_order cells (Read base count) order = order
outcome-in_order cells (ReadPort base count) order = order
outcome-in_order cells (Write base words) order = writes-in_order cells (enumerate_from base words) order
outcome-in_order cells (WritePort base words) order = writes-in_order cells (map (λ word. (base, word)) words) order
outcome-in_order cells (RmwBits base and_term or_term) order =
    modify-in_order cells base (masked_word and_term or_term) order
outcome-in_order cells (RmwSum base addend) order = modify-in_order cells base (sum_word addend) order

run_on-in_order : (first : Transacted) (later : CellMap → Executed) → IsInOrder first.cells
    → IsInOrder (later first.cells).cells → IsInOrder (run_on first later).cells
run_on-in_order first later here after =
    run_on-either (λ e. IsInOrder e.cells) first later after here

run_requests-in_order : (most : ℕ) (words : List ℕ) (cells : CellMap) → IsInOrder cells
    → IsInOrder (run_requests most words cells).cells
run_requests-in_order zero words cells order = order
run_requests-in_order (suc most) [] cells order = order
run_requests-in_order (suc most) (word ∷ after) cells order =
    elim (request_at (word ∷ after)) as (λ r. IsInOrder (run_first cells word r (run_requests most)).cells) [
      | Ok x ↦ let now = outcome-in_order cells x.0.op order in
          run_on-in_order (transact cells x.0) (run_requests most x.1) now
          (run_requests-in_order most x.1 (transact cells x.0).cells now)
      | Err why ↦ order
    ]

pub opening-in_order : (ranges : List Range) → IsInOrder (opening_bus ranges)
opening-in_order ranges = from_test _ (cell_map-in_order (flat_map range_cells ranges))

pub run_body-in_order : (cells : CellMap) (body : List ℕ) → IsInOrder cells → IsInOrder (run_body cells body).cells
run_body-in_order cells body order = run_requests-in_order _ body cells order

pub same_bus : (cells other : CellMap) → IsInOrder cells → IsInOrder other
    → ((address : ℕ) → find nat_cmp address cells ≡ find nat_cmp address other) → cells ≡ other
same_bus cells other order order' same = same_cells cells other (to_test _ order) (to_test _ order') same
