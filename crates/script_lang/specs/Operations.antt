-- What a line of a script means: the rules that it keeps, and the operation on the bus. uHAL; the limits are the
-- profile's.
use Rattle.std.specs.Prelude.{ℕ, ◌+◌, Bool, true, false, not, ◌&&◌, ◌||◌, ◌==◌, nat_le, bit_and, if◌then◌else◌, List}
use Rattle.std.specs.Prelude.{[], ◌∷◌, length, slice_index, Option, Some, None, Result, Ok, Err}
use Rattle.std.specs.Int.{w32, bit_not}
use Rattle.std.specs.List.{slice_get}
use Rattle.std.specs.Option.{option_and_then}
use Rattle.std.specs.FinMap.{get}
use Rattle.std.specs.Str.{bytes_eq}
use Rattle.address_table.specs.Rules.{first_broken}
use Rattle.address_table.specs.declared.kinds.Permission.{Permission}
use Rattle.address_table.specs.declared.kinds.Permission.TheVariants.{R, W, Rw}
use Rattle.address_table.specs.declared.kinds.Mode.{Mode}
use Rattle.address_table.specs.declared.kinds.Mode.TheVariants.{Port, Hierarchical}
use Rattle.board_specs.specs.declared.spec.BoardSpec.{BoardSpec}
use Rattle.masked_fields.specs.Field.{shifted_value}
use Rattle.node_tree.specs.Maps.{RegisterMap}
use Rattle.node_tree.specs.declared.register.Register.{Register}
use Rattle.transaction_codec.specs.declared.request.Op.{Op}
use Rattle.transaction_codec.specs.declared.request.Op.TheVariants as ops
use Rattle.script_lang.specs.declared.call.Call.{Call}
use Rattle.script_lang.specs.declared.call.Command.{Command}
use Rattle.script_lang.specs.declared.call.Command.TheVariants as says
use Rattle.script_steps.specs.declared.operation.RegOp.{RegOp}
use Rattle.script_steps.specs.declared.operation.Step.{Step}
use Rattle.script_steps.specs.declared.operation.Step.TheVariants.{Do, Dispatch}
use Rattle.script_steps.specs.declared.operation.Verb.{Verb}
use Rattle.script_steps.specs.declared.operation.Verb.TheVariants.{Read, Write, ReadBlock, WriteBlock, RmwBits, RmwSum}
use Rattle.script_lang.specs.declared.script_refusal.ScriptWhy.{ScriptWhy}
use Rattle.script_lang.specs.declared.script_refusal.ScriptWhy.TheVariants.{BadLine, UnknownBoard, UnknownName}
use Rattle.script_lang.specs.declared.script_refusal.ScriptWhy.TheVariants.{NoPermission, WrongMode, PastSize}
use Rattle.script_lang.specs.declared.script_refusal.ScriptWhy.TheVariants.{BitsOutside, NotWhole}
use Rattle.script_lang.specs.Lines.{words, command_of}

abbrev pub may_read : Permission → Bool
may_read R = true
may_read W = false
may_read Rw = true

abbrev pub may_write : Permission → Bool
may_write R = false
may_write W = true
may_write Rw = true

-- what each operation needs
abbrev pub allows : Permission → Verb → Bool
allows permission Read = may_read permission
allows permission Write = may_write permission
allows permission ReadBlock = may_read permission
allows permission WriteBlock = may_write permission
allows permission RmwBits = may_read permission && may_write permission
allows permission RmwSum = may_read permission && may_write permission

abbrev pub is_hierarchical : Mode → Bool
is_hierarchical Hierarchical = true
is_hierarchical _ = false

abbrev pub is_port : Mode → Bool
is_port Port = true
is_port _ = false

-- the words of a block operation; the others have none
abbrev pub block_words : Verb → List ℕ → ℕ
block_words ReadBlock numbers = slice_index numbers 0
block_words WriteBlock numbers = length numbers
block_words _ numbers = 0

-- a port of size 1 takes any number of words
abbrev pub fits_size : Register → ℕ → Bool
fits_size r count = nat_le count r.size || (is_port r.mode && (r.size == 1))

-- the value has no bit outside the mask
abbrev pub fits_mask : ℕ → ℕ → Bool
fits_mask mask value = bit_and (shifted_value mask value) mask == shifted_value mask value

-- only a single value is written under a mask
abbrev pub fits_field : Register → Verb → List ℕ → Bool
fits_field r Write numbers = fits_mask r.mask (slice_index numbers 0)
fits_field r _ numbers = true

abbrev pub is_full : ℕ → Bool
is_full mask = mask == 0xffffffff

-- only single values are read and written under a mask
abbrev pub is_whole : Register → Verb → Bool
is_whole r Read = true
is_whole r Write = true
is_whole r _ = is_full r.mask

-- the rules on a register and what is asked of it, in order
abbrev pub use_rules : Register → Call → List (ScriptWhy × Bool)
use_rules r call =
    (NoPermission, allows r.permission call.verb)
    ∷ (WrongMode, not (is_hierarchical r.mode))
    ∷ (PastSize, fits_size r (block_words call.verb call.numbers))
    ∷ (BitsOutside, fits_field r call.verb call.numbers)
    ∷ (NotWhole, is_whole r call.verb)
    ∷ []

-- one read-modify-write, which puts the value under the mask and leaves the other bits as they are
abbrev pub masked_write : ℕ → ℕ → ℕ → Op
masked_write base mask value = ops.RmwBits base (bit_not w32 mask) (shifted_value mask value)

-- a single value is written as it is under the full mask
abbrev pub write_op : Register → List ℕ → Op
write_op r numbers =
    if is_full r.mask then ops.Write r.address numbers else masked_write r.address r.mask (slice_index numbers 0)

-- blocks go on from address to address, but on ports
abbrev pub read_block_op : Register → ℕ → Op
read_block_op r count = if is_port r.mode then ops.ReadPort r.address count else ops.Read r.address count

abbrev pub write_block_op : Register → List ℕ → Op
write_block_op r words = if is_port r.mode then ops.WritePort r.address words else ops.Write r.address words

-- the operation on the bus
abbrev pub op_on : Register → Verb → List ℕ → Op
op_on r Read numbers = ops.Read r.address 1
op_on r Write numbers = write_op r numbers
op_on r ReadBlock numbers = read_block_op r (slice_index numbers 0)
op_on r WriteBlock numbers = write_block_op r numbers
op_on r RmwBits numbers = ops.RmwBits r.address (slice_index numbers 0) (slice_index numbers 1)
op_on r RmwSum numbers = ops.RmwSum r.address (slice_index numbers 0)

abbrev pub by_rules : Option ScriptWhy → RegOp → Result RegOp ScriptWhy
by_rules None op = Ok op
by_rules (Some why) op = Err why

-- what is asked of a register, by the line of this number
abbrev pub use_of : ℕ → ℕ → Call → Register → Result RegOp ScriptWhy
use_of line board call r =
    by_rules (first_broken (use_rules r call)) (record {
      line = line;
      verb = call.verb;
      board = board;
      name = call.name;
      mask = r.mask;
      op = op_on r call.verb call.numbers;
    })

-- the position of the first board of this name, counted from i
abbrev pub board_from : ℕ → List ℕ → List BoardSpec → Option ℕ
board_from i name [] = None
board_from i name (board ∷ boards) = if bytes_eq board.name name then Some i else board_from (i + 1) name boards

-- the register of a name, in the index of the board at a position
abbrev pub register_at : List RegisterMap → ℕ → List ℕ → Option Register
register_at indexes board name = option_and_then (λ index. get index name) (slice_get indexes board)

abbrev pub use_at : ℕ → ℕ → Call → Option Register → Result RegOp ScriptWhy
use_at line board call None = Err UnknownName
use_at line board call (Some r) = use_of line board call r

abbrev pub use_on : List RegisterMap → ℕ → Call → Option ℕ → Result RegOp ScriptWhy
use_on indexes line call None = Err UnknownBoard
use_on indexes line call (Some board) = use_at line board call (register_at indexes board call.name)

abbrev pub as_step : Result RegOp ScriptWhy → Result (Option Step) ScriptWhy
as_step (Ok op) = Ok (Some (Do op))
as_step (Err why) = Err why

abbrev pub step_asked : List BoardSpec → List RegisterMap → ℕ → Call → Result (Option Step) ScriptWhy
step_asked boards indexes line call = as_step (use_on indexes line call (board_from 0 call.board boards))

-- what a line means that says this
abbrev pub step_of : List BoardSpec → List RegisterMap → ℕ → Option Command → Result (Option Step) ScriptWhy
step_of boards indexes line None = Err BadLine
step_of boards indexes line (Some says.Nothing) = Ok None
step_of boards indexes line (Some says.Dispatch) = Ok (Some Dispatch)
step_of boards indexes line (Some (says.Ask call)) = step_asked boards indexes line call

-- What a line means: nothing, a dispatch or an operation, or the first of the rules on single lines that it breaks.
abbrev pub meaning : List BoardSpec → List RegisterMap → ℕ → List ℕ → Result (Option Step) ScriptWhy
meaning boards indexes line text = step_of boards indexes line (command_of (words text))
