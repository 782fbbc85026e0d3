-- How the code goes over the lines of a text: what private functions promise one another. No public clause speaks of
-- these.
use Rattle.std.specs.Prelude.{◌≡◌, ◌≢◌, ◌⊎◌, ℕ, ◌+◌, ◌<◌, ◌≤◌, slice_index, List, [], ◌∷◌, ◌++◌, length, map, codes, Option, Some, None}
use Rattle.std.specs.List.{AllByRecursion, AllZip}
use Rattle.mtu_packer.specs.Cutting.{CanBeCut}
use Rattle.mtu_packer.specs.declared.packing.TheConstants.{MIN_PAYLOAD}
use Rattle.transaction_codec.specs.declared.request.Op.{Op}
use Rattle.transaction_codec.specs.declared.request.Op.TheVariants.{Read, ReadPort, Write, WritePort, RmwBits, RmwSum}
use Rattle.transaction_codec.specs.declared.info_code.TheConstants.{READ_ERROR, READ_TIMEOUT, WRITE_ERROR}
use Rattle.transaction_codec.specs.declared.info_code.TheConstants.{WRITE_TIMEOUT}
use Rattle.transaction_codec.specs.Reply.{IsBusFault}
use Rattle.board_specs.specs.declared.spec.BoardSpec.{BoardSpec}
use Rattle.script_steps.specs.declared.operation.Step.{Step}
use Rattle.script_steps.specs.Rulings.{Asked, asked_operations}
use Rattle.script_plans.specs.declared.greeting.Greeting.{Greeting}
use Rattle.script_plans.specs.declared.greeting.Greeting.TheVariants.{Live, Silent, Down}
use Rattle.transcript.specs.declared.line.OpLine.{OpLine}
use Rattle.transcript.specs.declared.line.BoardLine.{BoardLine}
use Rattle.transcript.specs.Lines.{Showing, never_sent, denied_by}
use Rattle.transcript.specs.declared.line.OpResult.TheVariants as came_to
use Rattle.transcript.specs.Text.{board_text, heading, line_text, live_text, places_text, result_text}
use Rattle.transcript_reader.specs.Entries.{CanShowIn, Entry, IsCount, IsLineOf, MayStand, clients_from}
use Rattle.transcript_reader.specs.Entries.{line_under, lines_of}
use Rattle.transcript_reader.specs.Shown.{CanShowAll, clients_under, lines_under}
use Rattle.transcript_reader.specs.declared.reading.Reader.{Reader}
use Rattle.transcript_reader.specs.declared.shown.Unshown.{Unshown}
use Rattle.transcript_reader.specs.declared.shown.Unshown.TheVariants.{At, NoMemory}
use Rattle.transcript.specs.Claims.{IsPrinted, IsPrintedPlace}
use Rattle.script_steps.specs.declared.operation.RegOp.{RegOp}
use Rattle.transcript_reader.specs.Reading.{showing_at}
use Rattle.transcript_reader.specs.Results.{CanShowLive, CanShowUnless}

-- ---- the line of an operation

-- what a line shows behind its register, up to its end
abbrev pub shows_text : Showing → List ℕ
shows_text shows = result_text shows.0 ++ (places_text shows.1 ++ codes "\n")

-- what alone the text behind a register can show: what a rule or a greeting says, and else what is read of it
abbrev pub candidate : Option ℕ → Greeting → List ℕ → Option Showing
candidate (Some rule) told text = Some (denied_by rule)
candidate None (Live payload) text = showing_at text
candidate None Silent text = Some never_sent
candidate None Down text = Some (came_to.LinkLost, [])

-- what a live board is to be asked of it beside
abbrev pub HoldsLive : Option ℕ → Greeting → RegOp → Showing → Type 0
HoldsLive (Some rule) told op shows = Unit {0}
HoldsLive None (Live payload) op shows = CanShowLive payload op shows
HoldsLive None Silent op shows = Unit {0}
HoldsLive None Down op shows = Unit {0}

-- packets of a live board have room for what packing asks
abbrev pub HasRoom : Greeting → Type 0
HasRoom (Live payload) = MIN_PAYLOAD ≤ payload
HasRoom Silent = Unit {0}
HasRoom Down = Unit {0}

-- an operation that no rule denies can be cut into pieces
abbrev pub CanBeSent : Option ℕ → RegOp → Type 0
CanBeSent None op = CanBeCut op.op
CanBeSent (Some rule) op = Unit {0}

-- its numbers have the ranges of their fields
abbrev pub IsPrintedShowing : Showing → Type 0
IsPrintedShowing shows = IsPrinted shows.0 × AllByRecursion IsPrintedPlace shows.1

-- what the text behind a register was found to show
abbrev pub ReadsShown : Option ℕ → Greeting → RegOp → List ℕ → Option Showing → Type 0
ReadsShown denied told op text None = (shows : Showing) → CanShowUnless denied told op shows → text ≢ shows_text shows
ReadsShown denied told op text (Some shows) = CanShowUnless denied told op shows × (text ≡ shows_text shows)

-- what a line was found to show
abbrev pub ReadsOperation : List BoardSpec → List Greeting → ℕ → Asked → List ℕ → Option Showing → Type 0
ReadsOperation boards told number ask line None =
    (shows : Showing) → CanShowIn told ask shows → line ≢ line_text (line_under boards number ask shows)
ReadsOperation boards told number ask line (Some shows) =
    CanShowIn told ask shows × (line ≡ line_text (line_under boards number ask shows))

-- a transaction of the operation fails with this code, where it fails
abbrev pub FailsWith : Op → ℕ → Type 0
FailsWith (Read base count) code = (code ≡ READ_ERROR) ⊎ (code ≡ READ_TIMEOUT)
FailsWith (ReadPort base count) code = (code ≡ READ_ERROR) ⊎ (code ≡ READ_TIMEOUT)
FailsWith (Write base words) code = (code ≡ WRITE_ERROR) ⊎ (code ≡ WRITE_TIMEOUT)
FailsWith (WritePort base words) code = (code ≡ WRITE_ERROR) ⊎ (code ≡ WRITE_TIMEOUT)
FailsWith (RmwBits base and_term or_term) code = IsBusFault code
FailsWith (RmwSum base addend) code = IsBusFault code

-- ---- lines

-- the first line feed of a text stands here
pub record IsFirstFeed (text : List ℕ) (end : ℕ) : Type 0 where
  pub within : end < length text
  pub feed : slice_index text end ≡ 10
  pub before : (k : ℕ) → k < end → slice_index text k ≢ 10

-- ---- the line of a board

-- what stands before the counts of a live board
abbrev pub board_front : List ℕ → List ℕ
board_front name = codes "board " ++ name

-- what a line was found to show of a board that is live
abbrev pub ReadsLive : BoardSpec → List ℕ → Option BoardLine → Type 0
ReadsLive spec line None =
    (sent replied timed_out lost : ℕ) → IsCount sent → IsCount replied → IsCount timed_out → IsCount lost
    → line ≢ live_text spec.name sent replied timed_out lost
ReadsLive spec line (Some shown) = IsLineOf spec shown × (line ≡ board_text shown)

-- what a line was found to show of a board
abbrev pub ReadsBoard : BoardSpec → List ℕ → Option BoardLine → Type 0
ReadsBoard spec line None = (shown : BoardLine) → IsLineOf spec shown → line ≢ board_text shown
ReadsBoard spec line (Some shown) = IsLineOf spec shown × (line ≡ board_text shown)

-- ---- lines one after another

-- Line `n`, from 0, is the first of these that does not stand in its place: it is missing, or another may stand there.
abbrev pub IsStuck : List BoardSpec → List Greeting → List Entry → List (List ℕ) → ℕ → Type 0
IsStuck boards told [] lines n = ⊥
IsStuck boards told (entry ∷ entries) [] n = n ≡ 0
IsStuck boards told (entry ∷ entries) (line ∷ lines) n =
    ((n ≡ 0) × (MayStand boards told entry line → ⊥))
    ⊎ ((later : ℕ) × (n ≡ later + 1) × MayStand boards told entry line × IsStuck boards told entries lines later)

-- the line that is told is the first of these that does not stand in its place, behind so many others
abbrev pub IsStuckBehind : List BoardSpec → List Greeting → List Entry → List (List ℕ) → ℕ → Unshown → Type 0
IsStuckBehind boards told entries lines before (At line) =
    (n : ℕ) × (line ≡ before + n + 1) × IsStuck boards told entries lines n
IsStuckBehind boards told entries lines before NoMemory = Unit {0}

-- the next line was taken
pub record IsTaken (old new : Reader) (line : List ℕ) : Type 0 where
  pub cut : lines_of old.text.now ≡ line ∷ lines_of new.text.now
  pub counted : new.line ≡ old.line + 1

-- no line is left, and the one that is told is the next
abbrev pub IsMissing : Reader → Unshown → Type 0
IsMissing old (At line) = (lines_of old.text.now ≡ []) × (line ≡ old.line + 1)
IsMissing old NoMemory = Unit {0}

-- a line is left, and the one that is told is the next
abbrev pub IsLeftOver : Reader → Unshown → Type 0
IsLeftOver reader (At line) = (0 < length (lines_of reader.text.now)) × (line ≡ reader.line + 1)
IsLeftOver reader NoMemory = Unit {0}

abbrev pub asking : Option ℕ → RegOp → Asked
asking denied op = record { op = op; denied = denied }

-- the line of a board was taken, which shows this
pub record IsNextBoard (spec : BoardSpec) (old new : Reader) (shown : BoardLine) : Type 0 where
  pub can : IsLineOf spec shown
  pub spelled : lines_of old.text.now ≡ board_text shown ∷ lines_of new.text.now
  pub counted : new.line ≡ old.line + 1

-- the line of an operation was taken, which shows this
pub record IsNextOperation (boards : List BoardSpec) (told : List Greeting) (number : ℕ) (ask : Asked)
    (old new : Reader) (shows : Showing) : Type 0 where
  pub can : CanShowIn told ask shows
  pub spelled : lines_of old.text.now ≡ line_text (line_under boards number ask shows) ∷ lines_of new.text.now
  pub counted : new.line ≡ old.line + 1

-- lines were taken that show this of the operations of a client
pub record AreOperations (boards : List BoardSpec) (told : List Greeting) (asks : List Asked) (old new : Reader)
    (shows : List Showing) : Type 0 where
  pub can : AllZip (CanShowIn told) asks shows
  pub spelled : lines_of old.text.now ≡ map line_text (lines_under boards 1 asks shows) ++ lines_of new.text.now
  pub counted : new.line ≡ old.line + length asks

-- a heading, and lines that show this of the operations of a client
pub record IsClient (boards : List BoardSpec) (told : List Greeting) (client : ℕ) (steps : List Step) (old new : Reader)
    (shows : List Showing) : Type 0 where
  pub can : CanShowAll told steps shows
  pub spelled : lines_of old.text.now
      ≡ heading client ∷ (map line_text (lines_under boards 1 (asked_operations steps) shows) ++ lines_of new.text.now)
  pub counted : new.line ≡ old.line + (1 + length (asked_operations steps))

-- the lines of the clients from a number on
abbrev pub client_texts : ℕ → List (List OpLine) → List (List ℕ)
client_texts client [] = []
client_texts client (lines ∷ clients) = heading client ∷ (map line_text lines ++ client_texts (client + 1) clients)

-- lines were taken that show this of clients
pub record AreClients (boards : List BoardSpec) (told : List Greeting) (scripts : List (List Step)) (old new : Reader)
    (clients : List (List Showing)) : Type 0 where
  pub can : AllZip (CanShowAll told) scripts clients
  pub spelled : lines_of old.text.now
      ≡ client_texts 1 (clients_under boards scripts clients) ++ lines_of new.text.now
  pub counted : new.line ≡ old.line + length (clients_from 1 scripts)

-- lines were taken that show this of boards
pub record AreBoards (boards : List BoardSpec) (old new : Reader) (shown : List BoardLine) : Type 0 where
  pub can : AllZip IsLineOf boards shown
  pub spelled : lines_of old.text.now ≡ map board_text shown ++ lines_of new.text.now
  pub counted : new.line ≡ old.line + length boards
