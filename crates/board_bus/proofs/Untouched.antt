-- What a body does not write, it does not change.
use Rattle.std.proofs.Common.{◌≡◌, ◌≢◌, ℕ, ◌+◌, ◌<◌, ◌⊎◌, inl, inr, List, [], ◌∷◌, ◌++◌, length, map, replicate, Result}
use Rattle.std.proofs.Common.{Ok, Err, refl, sym, ap, ◌∙◌}
use Rattle.std.specs.List.{AllByRecursion, enumerate_from, range_with_len}
use Rattle.std.proofs.lemmas.Bool.{cases_order}
use Rattle.ipb_base.specs.Word.{AreWords}
use Rattle.transaction_codec.specs.declared.request.Op.{Op}
use Rattle.transaction_codec.specs.declared.request.Op.TheVariants.{Read, ReadPort, Write, WritePort, RmwBits, RmwSum}
use Rattle.transaction_codec.specs.declared.request.Request.{Request}
use Rattle.transaction_codec.specs.Request.{AreRequests, NoRequestAtFront, requests_words}
use Rattle.board_bus.specs.declared.fault.BusFault.{BusFault}
use Rattle.board_bus.specs.Cells.{CellMap, cell_at, read_word, write_word}
use Rattle.board_bus.specs.Transactions.{◌>>=◌, write_on, write_words, Modified, modify, of_modifying, masked_word, sum_word}
use Rattle.board_bus.specs.Transactions.{outcome, written_by, Transacted, transact}
use Rattle.board_bus.specs.Reading.{ReadsRequests}
use Rattle.board_bus.specs.Bodies.{Executed, run_on, run_body}
use Rattle.board_bus.proofs.WordsKept.{write-elsewhere}
use Rattle.board_bus.proofs.Answered.{first_request_is}
use Rattle.board_bus.proofs.Bodies.{run_body-bad_header}
use Rattle.board_bus.proofs.Requests.{run_on-either}

apart : (written q : ℕ) → written ≢ q → (q < written) ⊎ (written < q)
apart written q differ = elim (cases_order q written) [ inl same ↦ absurd (differ (sym same)) | inr h ↦ h ]

writes-untouched : (cells : CellMap) (entries : List (ℕ × ℕ)) (q : ℕ) → AllByRecursion (λ e. e.0 ≢ q) entries
    → cell_at (write_words cells entries).cells q ≡ cell_at cells q
writes-untouched cells [] q differ = refl
writes-untouched cells (e ∷ es) q differ =
    elim (write_word cells e.0 e.1) as (λ (r : Result CellMap BusFault). write_word cells e.0 e.1 ≡ r
    → cell_at (write_on cells r (λ after. write_words after es)).cells q ≡ cell_at cells q) [
      | Ok after ↦ λ is. writes-untouched after es q differ.1
          ∙ write-elsewhere cells after e.0 q e.1 is (apart e.0 q differ.0)
      | Err fault ↦ λ _. refl
    ] refl

-- the addresses of a block and of a port, beside their words
block-differs : (base q : ℕ) (words : List ℕ) → AllByRecursion (λ a. a ≢ q) (range_with_len base (length words))
    → AllByRecursion (λ (e : ℕ × ℕ). e.0 ≢ q) (enumerate_from base words)
block-differs base q [] differ = tt
block-differs base q (w ∷ ws) differ = (differ.0, block-differs (base + 1) q ws differ.1)

port-differs : (base q : ℕ) (words : List ℕ) → AllByRecursion (λ a. a ≢ q) (replicate (length words) base)
    → AllByRecursion (λ (e : ℕ × ℕ). e.0 ≢ q) (map (λ word. (base, word)) words)
port-differs base q [] differ = tt
port-differs base q (w ∷ ws) differ = (differ.0, port-differs base q ws differ.1)

modify-untouched : (cells : CellMap) (address q : ℕ) (change : ℕ → ℕ) → address ≢ q
    → cell_at (of_modifying cells (modify cells address change)).cells q ≡ cell_at cells q
modify-untouched cells address q change differ =
    let written : ℕ → CellMap → Result Modified BusFault =
    λ before after. Ok (record { before = before; cells = after }) in
    elim (read_word cells address) as (λ (r : Result ℕ BusFault).
    cell_at (of_modifying cells (r >>= λ before. (write_word cells address (change before) >>= written before))).cells q
    ≡ cell_at cells q) [
      | Err fault ↦ refl
      | Ok before ↦ elim (write_word cells address (change before)) as (λ (r : Result CellMap BusFault).
          write_word cells address (change before) ≡ r
          → cell_at (of_modifying cells (r >>= written before)).cells q ≡ cell_at cells q) [
            | Err fault ↦ λ _. refl
            | Ok after ↦ λ is. write-elsewhere cells after address q (change before) is (apart address q differ)
          ] refl
    ]

outcome-untouched : (cells : CellMap) (op : Op) (q : ℕ) → AllByRecursion (λ a. a ≢ q) (written_by op)
    → cell_at (outcome cells op).cells q ≡ cell_at cells q
outcome-untouched cells (Read base count) q differ = refl
outcome-untouched cells (ReadPort base count) q differ = refl
outcome-untouched cells (Write base words) q differ =
    writes-untouched cells (enumerate_from base words) q (block-differs base q words differ)
outcome-untouched cells (WritePort base words) q differ =
    writes-untouched cells (map (λ word. (base, word)) words) q (port-differs base q words differ)
outcome-untouched cells (RmwBits base and_term or_term) q differ =
    modify-untouched cells base q (masked_word and_term or_term) differ.0
outcome-untouched cells (RmwSum base addend) q differ = modify-untouched cells base q (sum_word addend) differ.0

run_on-untouched : (first : Transacted) (later : CellMap → Executed) (q : ℕ)
    → cell_at (later first.cells).cells q ≡ cell_at first.cells q
    → cell_at (run_on first later).cells q ≡ cell_at first.cells q
run_on-untouched first later q same =
    run_on-either (λ e. cell_at e.cells q ≡ cell_at first.cells q) first later same refl

module _ (reads : ReadsRequests) where
  -- what begins with no request leaves all
  bad-untouched : (cells : CellMap) (rest : List ℕ) (q : ℕ) → AreWords rest → NoRequestAtFront rest
      → cell_at (run_body cells rest).cells q ≡ cell_at cells q
  bad-untouched cells [] q fits bad = refl
  bad-untouched cells (word ∷ after) q fits bad =
      ap (λ (e : Executed). cell_at e.cells q) (run_body-bad_header reads cells word after fits bad)

  pub untouched : (cells : CellMap) (requests : List Request) (rest : List ℕ) (q : ℕ) → AreRequests requests
      → AreWords rest
      → NoRequestAtFront rest → AllByRecursion (λ (r : Request). AllByRecursion (λ a. a ≢ q) (written_by r.op)) requests
      → cell_at (run_body cells (requests_words requests ++ rest)).cells q ≡ cell_at cells q
  untouched cells [] rest q are fits bad differ = bad-untouched cells rest q fits bad
  untouched cells (request ∷ requests) rest q are fits bad differ =
      ap (λ (e : Executed). cell_at e.cells q) (first_request_is reads cells request requests rest are.0)
      ∙ run_on-untouched (transact cells request) (λ left. run_body left (requests_words requests ++ rest)) q
      (untouched (transact cells request).cells requests rest q are.1 fits bad differ.1)
      ∙ outcome-untouched cells request.op q differ.0
