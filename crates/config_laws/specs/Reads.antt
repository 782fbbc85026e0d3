-- Reads of one word, and lines that show the words that boards open with. Profile; uHAL for masked reads.
use Rattle.std.specs.Prelude.{◌≡◌, ℕ, ◌+◌, List, [], ◌∷◌, Some, Ok}
use Rattle.std.specs.List.{AllByRecursion, slice_get}
use Rattle.transaction_codec.specs.declared.request.Op.{Op}
use Rattle.transaction_codec.specs.declared.request.Op.TheVariants.{Read, ReadPort, Write, WritePort, RmwBits, RmwSum}
use Rattle.masked_fields.specs.Field.{field}
use Rattle.board_bus.specs.Cells.{read_word}
use Rattle.board_specs.specs.declared.spec.BoardSpec.{BoardSpec}
use Rattle.script_steps.specs.declared.operation.RegOp.{RegOp}
use Rattle.script_steps.specs.declared.operation.Step.{Step}
use Rattle.script_steps.specs.declared.operation.Step.TheVariants as step
use Rattle.script_steps.specs.declared.operation.Verb.TheVariants as verb
use Rattle.script_steps.specs.Rulings.{Asked, asked_operations}
use Rattle.transcript.specs.declared.line.OpLine.{OpLine}
use Rattle.transcript.specs.declared.line.OpResult.TheVariants.{Value}
use Rattle.board_history.specs.Runs.{opens_with}

-- ---- what is asked

-- one word of a block is read
abbrev pub IsWordRead : Op → Type 0
IsWordRead (Read base count) = count ≡ 1
IsWordRead (ReadPort base count) = ⊥
IsWordRead (Write base words) = ⊥
IsWordRead (WritePort base words) = ⊥
IsWordRead (RmwBits base and_term or_term) = ⊥
IsWordRead (RmwSum base addend) = ⊥

-- where an operation begins
abbrev pub base_of : Op → ℕ
base_of (Read base count) = base
base_of (ReadPort base count) = base
base_of (Write base words) = base
base_of (WritePort base words) = base
base_of (RmwBits base and_term or_term) = base
base_of (RmwSum base addend) = base

-- a masked read of one word, or nothing: no dispatch, and nothing that is denied
pub record IsMaskedRead (op : RegOp) : Type 0 where
  pub verb' : op.verb ≡ verb.Read
  pub one_word : IsWordRead op.op

abbrev pub ReadsOneWord : Step → Type 0
ReadsOneWord (step.Do op) = IsMaskedRead op
ReadsOneWord (step.Denied rule op) = ⊥
ReadsOneWord step.Dispatch = ⊥

-- a client that reads single words, in one dispatch
abbrev pub ReadSingleWords : List Step → Type 0
ReadSingleWords steps = AllByRecursion ReadsOneWord steps

-- ---- what is shown

-- The line of an operation of these shows, under the operation's mask, the word that its board opens with at its
-- address.
pub record ShowsOpeningWord (specs : List BoardSpec) (steps : List Step) (line : OpLine) : Type 0 where
  pub place : ℕ
  pub number' : line.number ≡ place + 1
  pub ask : Asked
  pub asked' : slice_get (asked_operations steps) place ≡ Some ask
  pub spec : BoardSpec
  pub on : slice_get specs ask.op.board ≡ Some spec
  pub word : ℕ
  pub opened : read_word (opens_with spec.link) (base_of ask.op.op) ≡ Ok word
  pub shown : line.result ≡ Value (field word ask.op.mask ∷ [])
