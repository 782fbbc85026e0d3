-- What a line shows where nothing is lost. Profile.
use Rattle.transcript.specs.declared.line.OpResult.{OpResult}
use Rattle.transcript.specs.declared.line.OpResult.TheVariants.{Value, Done, Was, Error, Skipped, TimedOut, Late}
use Rattle.transcript.specs.declared.line.OpResult.TheVariants.{Unsent, LinkLost, Garbled, Denied}
use Rattle.transcript.specs.declared.line.OpLine.{OpLine}

-- The board answered in time: the operation was done, failed by a code of the bus, or stands behind one that did. Or
-- nothing was asked of it, as a policy denies the operation.
abbrev pub IsBusResult : OpResult → Type 0
IsBusResult (Value words) = Unit {0}
IsBusResult Done = Unit {0}
IsBusResult (Was word) = Unit {0}
IsBusResult (Error code after) = Unit {0}
IsBusResult Skipped = Unit {0}
IsBusResult (TimedOut rounds) = ⊥
IsBusResult (Late rounds answer) = ⊥
IsBusResult Unsent = ⊥
IsBusResult LinkLost = ⊥
IsBusResult Garbled = ⊥
IsBusResult (Denied rule) = Unit {0}

abbrev pub IsBusLine : OpLine → Type 0
IsBusLine line = IsBusResult line.result
