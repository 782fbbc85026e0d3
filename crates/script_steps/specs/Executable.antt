-- What holds of everything that the scripts of a session ask. Profile.
use Rattle.std.specs.Prelude.{List}
use Rattle.std.specs.List.{AllByRecursion}
use Rattle.transaction_codec.specs.declared.request.Op.{Op}
use Rattle.transaction_codec.specs.declared.request.Op.TheVariants as ops
use Rattle.mtu_packer.specs.Cutting.{CanBeCut, HasWords}
use Rattle.script_steps.specs.declared.operation.RegOp.{RegOp}
use Rattle.script_steps.specs.declared.operation.Step.{Step}
use Rattle.script_steps.specs.declared.operation.Step.TheVariants.{Do, Denied, Dispatch}
use Rattle.script_steps.specs.declared.operation.Verb.{Verb}
use Rattle.script_steps.specs.declared.operation.Verb.TheVariants.{Read, Write, ReadBlock, WriteBlock, RmwBits, RmwSum}

-- a read-modify-write
abbrev pub IsRmw : Op → Type 0
IsRmw (ops.Read base count) = ⊥
IsRmw (ops.ReadPort base count) = ⊥
IsRmw (ops.Write base words) = ⊥
IsRmw (ops.WritePort base words) = ⊥
IsRmw (ops.RmwBits base and_term or_term) = Unit {0}
IsRmw (ops.RmwSum base addend) = Unit {0}

-- what a line that shows the word before asks of the bus is a read-modify-write
abbrev pub FitsVerb : Verb → Op → Type 0
FitsVerb Read op = Unit {0}
FitsVerb Write op = Unit {0}
FitsVerb ReadBlock op = Unit {0}
FitsVerb WriteBlock op = Unit {0}
FitsVerb RmwBits op = IsRmw op
FitsVerb RmwSum op = IsRmw op

-- An operation can be packed for any board, its address and its words have 32 bits, and it is one that its verb asks
-- for.
pub record CanBeAsked (op : RegOp) : Type 0 where
  pub cut' : CanBeCut op.op
  pub words' : HasWords op.op
  pub verb' : FitsVerb op.verb op.op

abbrev pub CanBeDone : Step → Type 0
CanBeDone (Do op) = CanBeAsked op
CanBeDone (Denied rule op) = Unit {0}
CanBeDone Dispatch = Unit {0}

-- so can each operation of a client
abbrev pub AreExecutable : List Step → Type 0
AreExecutable steps = AllByRecursion CanBeDone steps
