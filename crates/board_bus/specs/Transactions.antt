-- What one transaction does to a bus, and the reply to it. IPbus 2.0, transactions; that a failed one keeps what it
-- did, and how many words its reply counts and carries, is the profile's.
use Rattle.std.specs.Prelude.{◌≡◌, ℕ, ◌+◌, ◌%◌, ◌^◌, ◌<◌, ◌⊎◌, bit_and, bit_or, List, [], ◌∷◌, map, length, replicate}
use Rattle.std.specs.Prelude.{Option, Some, None, Result, Ok, Err}
use Rattle.std.specs.List.{enumerate_from, range_with_len}
use Rattle.std.specs.Result.{ok_prefix}
use Rattle.transaction_codec.specs.declared.request.Op.{Op}
use Rattle.transaction_codec.specs.declared.request.Op.TheVariants.{Read, ReadPort, Write, WritePort, RmwBits, RmwSum}
use Rattle.transaction_codec.specs.declared.request.Request.{Request}
use Rattle.transaction_codec.specs.declared.reply.Reply.{Reply}
use Rattle.transaction_codec.specs.Request.{op_kind}
use Rattle.board_bus.specs.declared.fault.BusFault.{BusFault}
use Rattle.board_bus.specs.Fault.{info_code}
use Rattle.board_bus.specs.Cells.{CellMap, read_word, write_word}

-- what follows an access that was not refused
infixl 10 ◌>>=◌
abbrev pub ◌>>=◌ : {A B : Type 0} → Result A BusFault → (A → Result B BusFault) → Result B BusFault
(Ok x) >>= f = f x
(Err fault) >>= f = Err fault

-- the first refusal of accesses in order, if there is one
abbrev pub first_fault : {A : Type 0} → List (Result A BusFault) → Option BusFault
first_fault [] = None
first_fault (Ok x ∷ later) = first_fault later
first_fault (Err fault ∷ later) = Some fault

-- What reading these addresses in order gives: the words up to the first that is refused, and that refusal. IPbus
-- 2.0, read and non-incrementing read; that the words before a refusal are answered is the profile's.
abbrev pub words_read : CellMap → List ℕ → List ℕ
words_read cells addresses = ok_prefix (map (read_word cells) addresses)

abbrev pub fault_of_reading : CellMap → List ℕ → Option BusFault
fault_of_reading cells addresses = first_fault (map (read_word cells) addresses)

-- What writing did: the bus after it, how many words were written, and the refusal that ended it. IPbus 2.0, write
-- and non-incrementing write.
pub record Writing : Type 0 where
  pub cells : CellMap
  pub done : ℕ
  pub fault : Option BusFault

-- the same with one word more before it
abbrev pub one_more : Writing → Writing
one_more writing = record writing { done = writing.done + 1 }

-- A word is written and then the others, or it is refused and ends the write.
abbrev pub write_on : CellMap → Result CellMap BusFault → (CellMap → Writing) → Writing
write_on before (Ok after) later = one_more (later after)
write_on before (Err fault) later = record { cells = before; done = 0; fault = Some fault }

-- Writing words at addresses, in order, up to the first that is refused. What was written before it stays (profile).
abbrev pub write_words : CellMap → List (ℕ × ℕ) → Writing
write_words cells [] = record { cells = cells; done = 0; fault = None }
write_words cells (entry ∷ rest) = write_on cells (write_word cells entry.0 entry.1) (λ after. write_words after rest)

-- The word before a change of one word, and the bus after it. IPbus 2.0, RMW bits and RMW sum.
pub record Modified : Type 0 where
  pub before : ℕ
  pub cells : CellMap

-- Reads a word and writes what it is changed to. The first access that is refused gives the fault (profile).
abbrev pub modify : CellMap → ℕ → (ℕ → ℕ) → Result Modified BusFault
modify cells address change = do
  before ← read_word cells address
  after ← write_word cells address (change before)
  Ok (record { before = before; cells = after })

-- (X AND A) OR B. IPbus 2.0, RMW bits.
abbrev pub masked_word : ℕ → ℕ → ℕ → ℕ
masked_word and_term or_term word = bit_or (bit_and word and_term) or_term

-- X plus the addend modulo 2^32. IPbus 2.0, RMW sum.
abbrev pub sum_word : ℕ → ℕ → ℕ
sum_word addend word = (word + addend) % 2 ^ 32

-- A transaction done: the bus after it, the words done, the refusal that ended it and the words that the reply
-- carries. IPbus 2.0, transaction header.
pub record Outcome : Type 0 where
  pub cells : CellMap
  pub count : ℕ
  pub fault : Option BusFault
  pub values : List ℕ

-- A read carries the words that were read and counts them.
abbrev pub of_reading : CellMap → List ℕ → Outcome
of_reading cells addresses =
    let words = words_read cells addresses in
    record { cells = cells; count = length words; fault = fault_of_reading cells addresses; values = words }

-- A write carries no words and counts those that were written.
abbrev pub of_writing : Writing → Outcome
of_writing writing = record { cells = writing.cells; count = writing.done; fault = writing.fault; values = [] }

-- A change of one word carries the word before and counts 1. A refused one carries nothing and counts 0 (profile).
abbrev pub of_modifying : CellMap → Result Modified BusFault → Outcome
of_modifying cells (Ok modified) =
    record { cells = modified.cells; count = 1; fault = None; values = modified.before ∷ [] }
of_modifying cells (Err fault) = record { cells = cells; count = 0; fault = Some fault; values = [] }

-- What each of the six operations does. IPbus 2.0, transaction types. A block is read and written at base, base + 1,
-- .., a port at base each time. Addresses are not cut to 32 bits: a block may run past the end, where nothing is
-- there (profile).
abbrev pub outcome : CellMap → Op → Outcome
outcome cells (Read base count) = of_reading cells (range_with_len base count)
outcome cells (ReadPort base count) = of_reading cells (replicate count base)
outcome cells (Write base words) = of_writing (write_words cells (enumerate_from base words))
outcome cells (WritePort base words) = of_writing (write_words cells (map (λ word. (base, word)) words))
outcome cells (RmwBits base and_term or_term) = of_modifying cells (modify cells base (masked_word and_term or_term))
outcome cells (RmwSum base addend) = of_modifying cells (modify cells base (sum_word addend))

-- How an operation on a block ends: all the words asked for are done, or the first one that is left is refused, and
-- that refusal is the fault. `access` is what the bus before it gives at each place.
abbrev pub EndsAtRefusal : {A : Type 0} → (ℕ → Result A BusFault) → ℕ → Outcome → Type 0
EndsAtRefusal access asked done =
    ((done.count ≡ asked) × (done.fault ≡ None))
    ⊎ ((fault : BusFault) × (done.count < asked) × (access done.count ≡ Err fault) × (done.fault ≡ Some fault))

-- a bus, and the reply that it gave
pub record Transacted : Type 0 where
  pub cells : CellMap
  pub reply : Reply

-- One transaction: the bus after it, and the reply with the identifier and the type of the request. IPbus 2.0,
-- transaction header.
abbrev pub transact : CellMap → Request → Transacted
transact cells request =
    let done = outcome cells request.op in
    record {
      cells = done.cells;
      reply = record {
        tid = request.tid;
        kind = op_kind request.op;
        count = done.count;
        code = info_code done.fault;
        values = done.values;
      };
    }

-- The addresses of the words that an operation asks to write. None behind a refused one is written.
abbrev pub written_by : Op → List ℕ
written_by (Read base count) = []
written_by (ReadPort base count) = []
written_by (Write base words) = range_with_len base (length words)
written_by (WritePort base words) = replicate (length words) base
written_by (RmwBits base and_term or_term) = base ∷ []
written_by (RmwSum base addend) = base ∷ []
