-- What a read of many words gives, address by address, and what a read gives after a write.
use Rattle.std.proofs.Common.{◌≡◌, ℕ, ◌+◌, ◌<◌, ◌⊎◌, inl, inr, suc, zero, List, [], ◌∷◌, length, map, get_or, replicate}
use Rattle.std.proofs.Common.{None, Some, Result, Ok, Err, refl, sym, ap, ◌∙◌, subst, arith}
use Rattle.std.specs.List.{range_with_len}
use Rattle.std.specs.Result.{IsOk, ok_prefix}
use Rattle.std.proofs.lemmas.List.{length-replicate}
use Rattle.board_bus.specs.declared.kind.RangeKind.{RangeKind}
use Rattle.board_bus.specs.declared.kind.RangeKind.TheVariants.{Rw, Ro, Wo, Slow}
use Rattle.board_bus.specs.declared.fault.BusFault.{BusFault}
use Rattle.board_bus.specs.Cells.{Cell, CellMap, read_cell, read_word, write_word}
use Rattle.board_bus.specs.Transactions.{Outcome, EndsAtRefusal, first_fault, words_read, fault_of_reading, of_reading}
use Rattle.board_bus.proofs.WordsKept.{write-was, write-here, write-elsewhere}

-- what reading a block gives
pub record BlockRead (cells : CellMap) (base count : ℕ) (done : Outcome) : Type 0 where
  pub words : (place at : ℕ) → at ≡ base + place → place < length done.values
      → read_word cells at ≡ Ok (get_or done.values place 0)
  pub counted : done.count ≡ length done.values
  pub ends : EndsAtRefusal (λ place. read_word cells (base + place)) count done

-- what reads give, done in order
abbrev outcome_of : CellMap → List (Result ℕ BusFault) → Outcome
outcome_of cells reads =
    record { cells = cells; count = length (ok_prefix reads); fault = first_fault reads; values = ok_prefix reads }

module _ (cells : CellMap) (base count word : ℕ) (is : read_word cells base ≡ Ok word)
    (rest : BlockRead cells (base + 1) count (of_reading cells (range_with_len (base + 1) count))) where
  abbrev later : List (Result ℕ BusFault)
  later = map (read_word cells) (range_with_len (base + 1) count)

  more-words : (place at : ℕ) → at ≡ base + place → place < suc (length (ok_prefix later))
      → read_word cells at ≡ Ok (get_or (word ∷ ok_prefix later) place 0)
  more-words zero at e below = let same : at ≡ base = omega (arith, e) in ap (read_word cells) same ∙ is
  more-words (suc place) at e below = rest.words place at (omega (arith, e)) (omega (arith, below))

  more-ends : EndsAtRefusal (λ place. read_word cells (base + 1 + place)) count
      (of_reading cells (range_with_len (base + 1) count))
      → EndsAtRefusal (λ place. read_word cells (base + place)) (suc count) (outcome_of cells (Ok word ∷ later))
  more-ends (inl all) = inl (ap suc all.0, all.1)
  more-ends (inr stop) =
      let next : base + 1 + length (ok_prefix later) ≡ base + suc (length (ok_prefix later)) = omega arith in
      inr (stop.0, omega (arith, stop.1), ap (read_word cells) (sym next) ∙ stop.2, stop.3)

pub block_read : (count : ℕ) (cells : CellMap) (base : ℕ)
    → BlockRead cells base count (of_reading cells (range_with_len base count))
block_read zero cells base =
    record { words = λ place at e below. absurd (omega (arith, below)); counted = refl; ends = inl (refl, refl) }
block_read (suc count) cells base =
    let later : List (Result ℕ BusFault) = map (read_word cells) (range_with_len (base + 1) count) in
    elim (read_word cells base) as (λ (r : Result ℕ BusFault). read_word cells base ≡ r
    → BlockRead cells base (suc count) (outcome_of cells (r ∷ later))) [
      | Ok word ↦ λ is. let rest = block_read count cells (base + 1) in record {
        words = more-words cells base count word is rest;
        counted = refl;
        ends = more-ends cells base count word is rest rest.ends;
      }
      | Err fault ↦ λ is. let first : base + 0 ≡ base = omega arith in record {
        words = λ place at e below. absurd (omega (arith, below));
        counted = refl;
        ends = inr (fault, omega arith, ap (read_word cells) first ∙ is, refl);
      }
    ] refl

-- a port that allows it gives its word each time
port_words : (count : ℕ) (cells : CellMap) (base word : ℕ) → read_word cells base ≡ Ok word
    → map (read_word cells) (replicate count base) ≡ replicate count (Ok word)
port_words zero cells base word is = refl
port_words (suc count) cells base word is = ap (λ r. r ∷ map (read_word cells) (replicate count base)) is
    ∙ ap (λ rs. Ok word ∷ rs) (port_words count cells base word is)

words_of-replicate : (count word : ℕ)
    → ok_prefix {T = ℕ} {E = BusFault} (replicate count (Ok word)) ≡ replicate count word
words_of-replicate zero word = refl
words_of-replicate (suc count) word = ap (λ ws. word ∷ ws) (words_of-replicate count word)

fault_of-replicate : (count word : ℕ) → first_fault {A = ℕ} (replicate count (Ok word)) ≡ None
fault_of-replicate zero word = refl
fault_of-replicate (suc count) word = fault_of-replicate count word

pub port_read : (cells : CellMap) (base count word : ℕ) → read_word cells base ≡ Ok word
    → of_reading cells (replicate count base) ≡ record {
      cells = cells;
      count = count;
      fault = None;
      values = replicate count word;
    }
port_read cells base count word is =
    let reads = port_words count cells base word is in
    let words : words_read cells (replicate count base) ≡ replicate count word = ap ok_prefix reads
    ∙ words_of-replicate count word in
    let fault : fault_of_reading cells (replicate count base) ≡ None = ap first_fault reads
    ∙ fault_of-replicate count word in
    let many : length (words_read cells (replicate count base)) ≡ count = ap length words
    ∙ length-replicate count word in
    λ i. record { cells = cells; count = many i; fault = fault i; values = words i }

pub port_read_refused : (cells : CellMap) (base count : ℕ) (fault : BusFault) → read_word cells base ≡ Err fault
    → 0 < count
    → of_reading cells (replicate count base) ≡ record { cells = cells; count = 0; fault = Some fault; values = [] }
port_read_refused cells base zero fault is some = absurd (omega (arith, some))
port_read_refused cells base (suc count) fault is some =
    let later : List (Result ℕ BusFault) = map (read_word cells) (replicate count base) in
    ap (outcome_of cells) (ap (λ (r : Result ℕ BusFault). r ∷ later) is)

-- Whether a cell may be read is seen in its kind.
readable : (kind : RangeKind) (before word : ℕ) → IsOk (read_cell (Some (record { kind = kind; word = before })))
    → read_cell (Some (record { kind = kind; word = word })) ≡ Ok word
readable Rw before word is = refl
readable Ro before word is = refl
readable Wo before word is = absurd cc
readable Slow before word is = absurd cc

pub written-read : (cells after : CellMap) (address word : ℕ) → write_word cells address word ≡ Ok after
    → IsOk (read_word cells address) → read_word after address ≡ Ok word
written-read cells after address word is allowed =
    let was = write-was cells after address word is in
    let cell : Cell = was.0 in
    let before : IsOk (read_cell (Some cell)) = subst (λ o. IsOk (read_cell o)) was.1 allowed in
    ap read_cell (write-here cells after address word cell is was.1) ∙ readable cell.kind cell.word word before

pub written-read_elsewhere : (cells after : CellMap) (address other word : ℕ) → write_word cells address word ≡ Ok after
    → (other < address) ⊎ (address < other)
    → read_word after other ≡ read_word cells other
written-read_elsewhere cells after address other word is apart =
    ap read_cell (write-elsewhere cells after address other word is apart)
