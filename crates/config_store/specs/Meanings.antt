-- What the lines of a configuration's script mean, where each name is one word of a line. Profile; uHAL for the
-- operations.
use Rattle.std.specs.Prelude.{◌≡◌, ℕ, ◌<◌, ◌^◌, Bool, true, not, ◌==◌, List, [], ◌∷◌, Some}
use Rattle.std.specs.List.{list_all, slice_get}
use Rattle.std.specs.FinMap.{get}
use Rattle.node_tree.specs.Maps.{Name}
use Rattle.node_tree.specs.declared.register.Register.{Register}
use Rattle.transaction_codec.specs.declared.request.Op.TheVariants as ops
use Rattle.script_lang.specs.Lines.{is_blank}
use Rattle.script_lang.specs.Operations.{write_op}
use Rattle.script_steps.specs.declared.operation.RegOp.{RegOp}
use Rattle.script_steps.specs.declared.operation.Step.{Step}
use Rattle.script_steps.specs.declared.operation.Step.TheVariants.{Do}
use Rattle.script_steps.specs.declared.operation.Verb.TheVariants as verb
use Rattle.config_store.specs.declared.state.StateEntry.{StateEntry}
use Rattle.config_store.specs.Kept.{IndexedBoard, KeptRegister}

abbrev pub is_word_byte : ℕ → Bool
is_word_byte byte = not (is_blank byte)

-- one word of a line
abbrev pub IsOneWord : List ℕ → Type 0
IsOneWord text = list_all is_word_byte text ≡ true

abbrev pub is_no_colon : ℕ → Bool
is_no_colon byte = not (byte == 58)

-- what stands before the first colon of a word
abbrev pub IsBoardWord : List ℕ → Type 0
IsBoardWord text = IsOneWord text × (list_all is_no_colon text ≡ true)

-- every id is such a name, and every dotted name
pub record HaveWordNames (boards : List IndexedBoard) : Type 0 where
  pub boards' : (i : ℕ) (b : IndexedBoard) → slice_get boards i ≡ Some b → IsBoardWord b.0.name
  pub registers' : (i : ℕ) (b : IndexedBoard) (name : Name) (r : Register) → slice_get boards i ≡ Some b
      → get b.1 name ≡ Some r → IsOneWord name

-- one word is read at the register's address, and its field is shown
abbrev pub read_of : ℕ → ℕ → Name → Register → RegOp
read_of line board name r =
    record { line = line; verb = verb.Read; board = board; name = name; mask = r.mask; op = ops.Read r.address 1 }

-- the value is put into the register's field
abbrev pub write_of : ℕ → ℕ → Name → Register → ℕ → RegOp
write_of line board name r value =
    record { line = line; verb = verb.Write; board = board; name = name; mask = r.mask; op = write_op r (value ∷ []) }

-- the value has 32 bits
abbrev pub HasWord : StateEntry → Type 0
HasWord entry = entry.value < 2 ^ 32

-- ---- steps

-- a step reads a kept register on the board of its name
pub record Reads (boards : List IndexedBoard) (register : KeptRegister) (step : Step) : Type 0 where
  pub line : ℕ
  pub place : ℕ
  pub board : IndexedBoard
  pub there : slice_get boards place ≡ Some board
  pub called : board.0.name ≡ register.board
  pub is : step ≡ Do (read_of line place register.name register.register)

-- a step writes a value to the register of its name on the board of its name
pub record Writes (boards : List IndexedBoard) (entry : StateEntry) (step : Step) : Type 0 where
  pub line : ℕ
  pub place : ℕ
  pub board : IndexedBoard
  pub register : Register
  pub there : slice_get boards place ≡ Some board
  pub called : board.0.name ≡ entry.board
  pub found : get board.1 entry.name ≡ Some register
  pub is : step ≡ Do (write_of line place entry.name register entry.value)
