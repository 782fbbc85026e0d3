-- How the code answers a transaction: no public clause speaks of it. IPbus 2.0, transaction header.
use Rattle.std.specs.Prelude.{◌≡◌, ℕ, List, [], ◌∷◌, map, replicate, None, Some, Result, Ok, Err}
use Rattle.std.specs.List.{enumerate_from, range_with_len}
use Rattle.transaction_codec.specs.declared.transaction_type.TheConstants.{READ, WRITE, READ_PORT, WRITE_PORT}
use Rattle.transaction_codec.specs.Header.{header}
use Rattle.board_bus.specs.declared.addressing.Addressing.{Addressing}
use Rattle.board_bus.specs.declared.addressing.Addressing.TheVariants.{Block, Port}
use Rattle.board_bus.specs.declared.fault.BusFault.{BusFault}
use Rattle.board_bus.specs.Fault.{info_code}
use Rattle.board_bus.specs.Cells.{CellMap}
use Rattle.board_bus.specs.Transactions.{Modified, Outcome}

-- how far each address is from the one before it
abbrev pub step_of : Addressing → ℕ
step_of Block = 1
step_of Port = 0

-- the addresses of a read
abbrev pub addresses : Addressing → ℕ → ℕ → List ℕ
addresses Block base count = range_with_len base count
addresses Port base count = replicate count base

-- the words of a write, each beside its address
abbrev pub with_addresses : Addressing → ℕ → List ℕ → List (ℕ × ℕ)
with_addresses Block base words = enumerate_from base words
with_addresses Port base words = map (λ word. (base, word)) words

-- the types of such a read and of such a write
abbrev pub read_type : Addressing → ℕ
read_type Block = READ
read_type Port = READ_PORT

abbrev pub write_type : Addressing → ℕ
write_type Block = WRITE
write_type Port = WRITE_PORT

-- the words of a reply with this identifier and type
abbrev pub outcome_words : ℕ → ℕ → Outcome → List ℕ
outcome_words tid kind done = header tid done.count kind (info_code done.fault) ∷ done.values

-- the code did what a change of one word is to do, and left the bus as it was where that is refused
abbrev pub IsModified : CellMap → CellMap → Result ℕ BusFault → Result Modified BusFault → Type 0
IsModified old new (Ok before) wanted = wanted ≡ Ok (record { before = before; cells = new })
IsModified old new (Err fault) wanted = (wanted ≡ Err fault) × (new ≡ old)

-- the words of the reply to a change of one word
abbrev pub modified_words : ℕ → ℕ → Result ℕ BusFault → List ℕ
modified_words tid kind (Ok before) = header tid 1 kind (info_code None) ∷ before ∷ []
modified_words tid kind (Err fault) = header tid 0 kind (info_code (Some fault)) ∷ []
