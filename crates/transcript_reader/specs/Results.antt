-- What the line of an operation can show, by its verb and by the pieces that it is cut into on its board. Profile.
use Rattle.std.specs.Prelude.{◌≡◌, ◌≢◌, ◌⊎◌, ℕ, ◌≤◌, [], length, Option, Some, None}
use Rattle.std.specs.List.{AllByRecursion, Any}
use Rattle.ipb_base.specs.Word.{IsWord}
use Rattle.masked_fields.specs.Field.{field}
use Rattle.transaction_codec.specs.declared.request.Op.{Op}
use Rattle.transaction_codec.specs.Answer.{Fails, values_done}
use Rattle.mtu_packer.specs.Cutting.{cut_pieces, piece_count}
use Rattle.script_steps.specs.declared.operation.RegOp.{RegOp}
use Rattle.script_steps.specs.declared.operation.Verb.{Verb}
use Rattle.script_steps.specs.declared.operation.Verb.TheVariants.{Read, Write, ReadBlock, WriteBlock, RmwBits, RmwSum}
use Rattle.script_steps.specs.Rulings.{Asked}
use Rattle.script_plans.specs.declared.greeting.Greeting.{Greeting}
use Rattle.script_plans.specs.declared.greeting.Greeting.TheVariants.{Live, Silent, Down}
use Rattle.transcript.specs.declared.line.LateAnswer.{LateAnswer}
use Rattle.transcript.specs.declared.line.LateAnswer.TheVariants as late_answer
use Rattle.transcript.specs.declared.line.OpResult.{OpResult}
use Rattle.transcript.specs.declared.line.OpResult.TheVariants.{Value, Done, Was, Error, Skipped, TimedOut, Late}
use Rattle.transcript.specs.declared.line.OpResult.TheVariants.{Unsent, LinkLost, Garbled, Denied}
use Rattle.transcript.specs.Claims.{IsPrinted, IsPrintedPlace}
use Rattle.transcript.specs.Lines.{Showing, never_sent, denied_by}

-- What the lines of a verb show where all is done: words that were read, under a mask the field of some word; `done`; or
-- the word before.
abbrev pub ShowsWord : Verb → ℕ → ℕ → Type 0
ShowsWord Read mask shown = (word : ℕ) × IsWord word × (shown ≡ field word mask)
ShowsWord ReadBlock mask shown = IsWord shown
ShowsWord Write mask shown = ⊥
ShowsWord WriteBlock mask shown = ⊥
ShowsWord RmwBits mask shown = ⊥
ShowsWord RmwSum mask shown = ⊥

abbrev pub ReadsWords : Verb → Type 0
ReadsWords Read = Unit {0}
ReadsWords ReadBlock = Unit {0}
ReadsWords Write = ⊥
ReadsWords WriteBlock = ⊥
ReadsWords RmwBits = ⊥
ReadsWords RmwSum = ⊥

abbrev pub ShowsDone : Verb → Type 0
ShowsDone Read = ⊥
ShowsDone ReadBlock = ⊥
ShowsDone Write = Unit {0}
ShowsDone WriteBlock = Unit {0}
ShowsDone RmwBits = ⊥
ShowsDone RmwSum = ⊥

abbrev pub ShowsBefore : Verb → Type 0
ShowsBefore Read = ⊥
ShowsBefore ReadBlock = ⊥
ShowsBefore Write = ⊥
ShowsBefore WriteBlock = ⊥
ShowsBefore RmwBits = Unit {0}
ShowsBefore RmwSum = Unit {0}

-- a reply to some piece of the operation, in packets of `payload` words, can tell this info code after so many words
abbrev pub CanFail : ℕ → Op → ℕ → ℕ → Type 0
CanFail payload op code after = Any (λ (piece : Op). (carried : ℕ) × Fails piece code after carried) (cut_pieces payload op)

-- a reply to some piece has so many words
abbrev pub CanRead : ℕ → Op → ℕ → Type 0
CanRead payload op count = Any (λ (piece : Op). count ≡ values_done piece) (cut_pieces payload op)

-- A late answer is that of one piece alone.
abbrev pub CanBeLate : ℕ → RegOp → LateAnswer → Type 0
CanBeLate payload op (late_answer.Value words) =
    ReadsWords op.verb × CanRead payload op.op (length words) × AllByRecursion (ShowsWord op.verb op.mask) words
CanBeLate payload op late_answer.Done = ShowsDone op.verb
CanBeLate payload op (late_answer.Was word) = ShowsBefore op.verb
CanBeLate payload op (late_answer.Error code after) = CanFail payload op.op code after
CanBeLate payload op late_answer.Skipped = Unit {0}
CanBeLate payload op late_answer.Garbled = Unit {0}

-- An operation that is sent can come to this. Where all is done it shows the words of all of its pieces, and else what
-- became of one of them.
abbrev pub CanComeTo : ℕ → RegOp → OpResult → Type 0
CanComeTo payload op (Value words) =
    ReadsWords op.verb × (length words ≡ values_done op.op) × AllByRecursion (ShowsWord op.verb op.mask) words
CanComeTo payload op Done = ShowsDone op.verb
CanComeTo payload op (Was word) = ShowsBefore op.verb
CanComeTo payload op (Error code after) = CanFail payload op.op code after
CanComeTo payload op Skipped = Unit {0}
CanComeTo payload op (TimedOut rounds) = Unit {0}
CanComeTo payload op (Late rounds answer) = CanBeLate payload op answer
CanComeTo payload op Unsent = Unit {0}
CanComeTo payload op LinkLost = Unit {0}
CanComeTo payload op Garbled = Unit {0}
CanComeTo payload op (Denied rule) = ⊥

-- what can be shown without a place: that it was never sent, or lost with the link before it was
abbrev pub IsPlaceless : OpResult → Type 0
IsPlaceless result = (result ≡ Unsent) ⊎ (result ≡ LinkLost)

-- An operation on a live board that takes packets of `payload` words can show this result and these places.
pub record CanShowLive (payload : ℕ) (op : RegOp) (shows : Showing) : Type 0 where
  pub comes_to : CanComeTo payload op shows.0
  pub printed : IsPrinted shows.0
  pub places' : AllByRecursion IsPrintedPlace shows.1
  -- no more places than it has pieces
  pub few : length shows.1 ≤ piece_count payload op.op
  -- without a place nothing became of it; with the places of all its pieces it was sent
  pub placeless : shows.1 ≡ [] → IsPlaceless shows.0
  pub sent : length shows.1 ≡ piece_count payload op.op → shows.0 ≢ Unsent

-- the same by what the line of its board tells of the greeting
abbrev pub CanShowOn : Greeting → RegOp → Showing → Type 0
CanShowOn (Live payload) op shows = CanShowLive payload op shows
CanShowOn Silent op shows = shows ≡ never_sent
CanShowOn Down op shows = shows ≡ (LinkLost, [])

-- and by whether a rule denies it
abbrev pub CanShowUnless : Option ℕ → Greeting → RegOp → Showing → Type 0
CanShowUnless None told op shows = CanShowOn told op shows
CanShowUnless (Some rule) told op shows = shows ≡ denied_by rule

abbrev pub CanShow : Greeting → Asked → Showing → Type 0
CanShow told ask shows = CanShowUnless ask.denied told ask.op shows
