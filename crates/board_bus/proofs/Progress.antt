-- How far a read or a write has come: one step of it, and its ends.
use Rattle.std.proofs.Common.{◌≡◌, ℕ, ◌+◌, ◌-◌, ◌<◌, ◌≤◌, lit≤, set, suc, List, [], ◌∷◌, ◌++◌, length, length-append}
use Rattle.std.proofs.Common.{append_assoc, append-nil, drop, map, replicate, Some, Result, Ok, Err, refl, sym, ap, ◌∙◌}
use Rattle.std.proofs.Common.{arith}
use Rattle.std.specs.List.{range_with_len}
use Rattle.std.specs.Result.{ok_prefix}
use Rattle.std.proofs.lemmas.List.{length-replicate}
use Rattle.std.proofs.lemmas.List.FromFn.{length-range_with_len}
use Rattle.board_bus.specs.declared.addressing.Addressing.{Addressing}
use Rattle.board_bus.specs.declared.addressing.Addressing.TheVariants.{Block, Port}
use Rattle.board_bus.specs.declared.fault.BusFault.{BusFault}
use Rattle.board_bus.specs.Cells.{CellMap, read_word}
use Rattle.board_bus.specs.Transactions.{Writing, first_fault, words_read, fault_of_reading, write_words}
use Rattle.board_bus.specs.Answering.{step_of, addresses, with_addresses}

-- the first address, and those that are left
addresses-more : (addressing : Addressing) (address step count : ℕ) → step ≡ step_of addressing
    → addresses addressing address (suc count) ≡ address ∷ addresses addressing (address + step) count
addresses-more Block address step count is = ap (λ n. address ∷ range_with_len (address + n) count) (sym is)
addresses-more Port address step count is = let same : address ≡ address + step = omega (arith, is) in
    ap (λ n. address ∷ replicate count n) same

-- What was appended so far and what reading the addresses that are left gives are what reading all gives.
pub record ReadsOn (cells : CellMap) (before out : List ℕ) (addressing : Addressing)
    (base address count left : ℕ) : Type 0 where
  pub words : out ++ words_read cells (addresses addressing address left)
      ≡ before ++ words_read cells (addresses addressing base count)
  pub fault : fault_of_reading cells (addresses addressing address left)
      ≡ fault_of_reading cells (addresses addressing base count)

module _ (cells : CellMap) (before out : List ℕ) (addressing : Addressing) (base address count left : ℕ)
    (on : ReadsOn cells before out addressing base address count left) where
  module _ (step rest : ℕ) (apart : step ≡ step_of addressing) (more : left ≡ suc rest) where
    abbrev later : List (Result ℕ BusFault)
    later = map (read_word cells) (addresses addressing (address + step) rest)

    -- what the reads that are left give, by what the first of them gives
    now : (r : Result ℕ BusFault) → read_word cells address ≡ r
        → map (read_word cells) (addresses addressing address left) ≡ r ∷ later
    now r is = ap (λ n. map (read_word cells) (addresses addressing address n)) more
        ∙ ap (map (read_word cells)) (addresses-more addressing address step rest apart) ∙ ap (λ x. x ∷ later) is

    pub reads_more : (word : ℕ) → read_word cells address ≡ Ok word
        → ReadsOn cells before (out ++ word ∷ []) addressing base (address + step) count rest
    reads_more word is = record {
      words = append_assoc out (word ∷ []) _ ∙ ap (λ rs. out ++ ok_prefix rs) (sym (now (Ok word) is)) ∙ on.words;
      fault = ap first_fault (sym (now (Ok word) is)) ∙ on.fault;
    }

    -- the room that is left for a word that was read
    pub reads_fit : (word : ℕ) → read_word cells address ≡ Ok word
        → length out < length before + length (words_read cells (addresses addressing base count))
    reads_fit word is =
        let all : out ++ (word ∷ ok_prefix later) ≡ before ++ words_read cells (addresses addressing base count) =
        ap (λ rs. out ++ ok_prefix rs) (sym (now (Ok word) is)) ∙ on.words in
        omega (
          arith,
          ap length all,
          length-append out (word ∷ ok_prefix later),
          length-append before (words_read cells (addresses addressing base count)),
        )

    pub reads_stop : (fault : BusFault) → read_word cells address ≡ Err fault
        → (out ≡ before ++ words_read cells (addresses addressing base count))
        × (Some fault ≡ fault_of_reading cells (addresses addressing base count))
    reads_stop fault is = (
      sym (append-nil out) ∙ ap (λ rs. out ++ ok_prefix rs) (sym (now (Err fault) is)) ∙ on.words,
      ap first_fault (sym (now (Err fault) is)) ∙ on.fault,
    )

-- a number of words written, and then what came later
abbrev pub after_writing : ℕ → Writing → Writing
after_writing done later = record later { done = done + later.done }

-- What was written so far and what writing the words that are left does are what writing all does.
pub record WritesOn (before now : CellMap) (addressing : Addressing) (base address done : ℕ)
    (words left : List ℕ) : Type 0 where
  pub all : after_writing done (write_words now (with_addresses addressing address left))
      ≡ write_words before (with_addresses addressing base words)

-- how far a loop that reads has come: the room did not shrink, and the address is as far as the words read
pub record ReadingLoop (cells : CellMap) (before out : List ℕ) (room_before room_now : ℕ) (addressing : Addressing)
    (base address count done : ℕ) : Type 0 where
  pub on : ReadsOn cells before out addressing base address count (count - done)
  pub room : room_before ≤ room_now
  pub near : address ≤ base + done

-- how far a loop that writes has come
pub record WritingLoop (before now : CellMap) (addressing : Addressing) (base address done at : ℕ)
    (words : List ℕ) : Type 0 where
  pub on : WritesOn before now addressing base address done words (drop at words)
  pub count : done ≡ at
  pub near : address ≤ base + at

-- no more words are read than there are addresses
pub words_read-length : (cells : CellMap) (addresses : List ℕ) → length (words_read cells addresses) ≤ length addresses
words_read-length cells [] = lit≤ tt
words_read-length cells (address ∷ later) =
    elim (read_word cells address) as (λ (r : Result ℕ BusFault). length (ok_prefix (r ∷ map (read_word cells) later))
    ≤ suc (length later)) [
      | Ok word ↦ let more = words_read-length cells later in omega arith
      | Err fault ↦ omega arith
    ]

pub length-addresses : (addressing : Addressing) (base count : ℕ) → length (addresses addressing base count) ≡ count
length-addresses Block base count = length-range_with_len base count
length-addresses Port base count = length-replicate count base

-- a header is put in the place that was kept for it
pub header_filled_in : (front words : List ℕ) (header : ℕ)
    → set ((front ++ 0 ∷ []) ++ words) (length front) header ≡ front ++ header ∷ words
header_filled_in [] words header = refl
header_filled_in (x ∷ xs) words header = ap (λ (ys : List ℕ). x ∷ ys) (header_filled_in xs words header)
