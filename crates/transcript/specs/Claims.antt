-- What the laws say of lines and outcomes.
use Rattle.std.specs.Prelude.{◌≡◌, ◌≢◌, ◌⊎◌, ℕ, ◌<◌, ◌^◌, ◌==◌, Bool, true, not, List, [], Option, Some, None}
use Rattle.std.specs.Prelude.{IfSome, length, map}
use Rattle.std.specs.List.{AllByRecursion, list_all, slice_get}
use Rattle.ipb_base.specs.Word.{IsWord, AreWords}
use Rattle.script_steps.specs.Rulings.{Asked, asked_operations}
use Rattle.script_steps.specs.declared.operation.Step.{Step}
use Rattle.script_plans.specs.declared.board_run.BoardRun.{BoardRun}
use Rattle.script_plans.specs.declared.board_run.ClientPart.{ClientPart}
use Rattle.script_plans.specs.Plan.{IsWithinBody}
use Rattle.lane_record.specs.declared.outcome.Outcome.{Outcome}
use Rattle.lane_record.specs.declared.outcome.Outcome.TheVariants as became
use Rattle.transcript.specs.declared.line.LateAnswer.{LateAnswer}
use Rattle.transcript.specs.declared.line.LateAnswer.TheVariants as late_answer
use Rattle.transcript.specs.declared.line.OpResult.{OpResult}
use Rattle.transcript.specs.declared.line.OpResult.TheVariants.{Value, Done, Was, Error, Skipped, TimedOut, Late}
use Rattle.transcript.specs.declared.line.OpResult.TheVariants.{Unsent, LinkLost, Garbled, Denied}
use Rattle.transcript.specs.declared.line.OpLine.{OpLine}
use Rattle.transcript.specs.declared.body_end.BodyEnd.{BodyEnd}

-- the result is a value, `done` or `was`
abbrev pub IsDoneResult : OpResult → Type 0
IsDoneResult r = ((words : List ℕ) × (r ≡ Value words)) ⊎ ((r ≡ Done) ⊎ ((word : ℕ) × (r ≡ Was word)))

abbrev pub IsDone : OpLine → Type 0
IsDone line = IsDoneResult line.result

-- what a board replied are words of 32 bits
abbrev pub HaveWords : Outcome → Type 0
HaveWords (became.Replied place words) = AreWords words
HaveWords (became.TimedOut place rounds) = Unit {0}
HaveWords became.Unsent = Unit {0}
HaveWords (became.LinkLost place) = Unit {0}

-- so are those of a late answer
abbrev pub HasWordsLate : Option (List ℕ) → Type 0
HasWordsLate late = IfSome late AreWords

-- ---- what is printed

abbrev pub IsByte : ℕ → Type 0
IsByte n = n < 2 ^ 8

-- what a late answer shows has its range
abbrev pub IsPrintedLate : LateAnswer → Type 0
IsPrintedLate (late_answer.Value words) = AreWords words
IsPrintedLate late_answer.Done = Unit {0}
IsPrintedLate (late_answer.Was word) = IsWord word
IsPrintedLate (late_answer.Error code after) = IsByte code × IsByte after
IsPrintedLate late_answer.Skipped = Unit {0}
IsPrintedLate late_answer.Garbled = Unit {0}

-- what a result shows has its range
abbrev pub IsPrinted : OpResult → Type 0
IsPrinted (Value words) = AreWords words
IsPrinted Done = Unit {0}
IsPrinted (Was word) = IsWord word
IsPrinted (Error code after) = IsByte code × IsByte after
IsPrinted Skipped = Unit {0}
IsPrinted (TimedOut rounds) = IsByte rounds
IsPrinted (Late rounds answer) = IsByte rounds × IsPrintedLate answer
IsPrinted Unsent = Unit {0}
IsPrinted LinkLost = Unit {0}
IsPrinted Garbled = Unit {0}
IsPrinted (Denied rule) = rule < 2 ^ 32

abbrev pub IsPrintedPlace : ℕ × ℕ → Type 0
IsPrintedPlace place = (place.0 < 2 ^ 64) × (place.1 < 2 ^ 16)

abbrev pub is_no_colon : ℕ → Bool
is_no_colon byte = not (byte == 58)

abbrev pub is_no_space : ℕ → Bool
is_no_space byte = not (byte == 32)

-- The line has numbers of its fields' ranges, a board's name without a colon and a register's name without a space, as
-- every id and every dotted name is.
pub record IsPrintedLine (line : OpLine) : Type 0 where
  pub number' : line.number < 2 ^ 32
  pub board' : list_all is_no_colon line.board ≡ true
  pub name' : list_all is_no_space line.name ≡ true
  pub result' : IsPrinted line.result
  pub places' : AllByRecursion IsPrintedPlace line.places

-- ---- the order of pieces

abbrev pub IsOther : ℕ × ℕ → ℕ × ℕ → Type 0
IsOther place other = place ≢ other

-- no two bodies have one place
abbrev pub HaveOwnPlaces : List BodyEnd → Type 0
HaveOwnPlaces ends =
    (i j : ℕ) (one other : BodyEnd) (place : ℕ) → slice_get ends i ≡ Some one → slice_get ends j ≡ Some other
    → one.place ≡ Some place → other.place ≡ Some place → i ≡ j

-- ---- every operation

abbrev pub IsOnBoard : List BoardRun → Asked → Type 0
IsOnBoard runs ask = ask.op.board < length runs

-- each operation, denied or not, is on a board of the run
abbrev pub AreOnBoards : List BoardRun → List Step → Type 0
AreOnBoards runs steps = AllByRecursion (IsOnBoard runs) (asked_operations steps)

-- ---- denied operations

-- the rule that denied the operation of a result, where one did
abbrev pub rule_in : OpResult → Option ℕ
rule_in (Value words) = None
rule_in Done = None
rule_in (Was word) = None
rule_in (Error code after) = None
rule_in Skipped = None
rule_in (TimedOut rounds) = None
rule_in (Late rounds answer) = None
rule_in Unsent = None
rule_in LinkLost = None
rule_in Garbled = None
rule_in (Denied rule) = Some rule

-- so line by line
abbrev pub rules_shown : List OpLine → List (Option ℕ)
rules_shown lines = map (λ (line : OpLine). rule_in line.result) lines

-- the rule that denies each operation of a client, where one does, operation by operation
abbrev pub rules_of : List Step → List (Option ℕ)
rules_of steps = map (λ (ask : Asked). ask.denied) (asked_operations steps)

-- the line of a denied operation shows no place
abbrev pub HasNoPlaceIfDenied : OpLine → Type 0
HasNoPlaceIfDenied line = IfSome (rule_in line.result) (λ _. line.places ≡ [])

-- ---- runs whose numbers have the ranges of their fields

abbrev pub IsInRange : Outcome → Type 0
IsInRange (became.Replied place words) = (place < 2 ^ 64) × AreWords words
IsInRange (became.TimedOut place rounds) = (place < 2 ^ 64) × IsByte rounds
IsInRange became.Unsent = Unit {0}
IsInRange (became.LinkLost None) = Unit {0}
IsInRange (became.LinkLost (Some place)) = place < 2 ^ 64

pub record IsPartInRange (part : ClientPart) : Type 0 where
  pub bodies' : AllByRecursion AreWords part.planned.bodies
  pub within' : AllByRecursion (AllByRecursion IsWithinBody) part.planned.pieces
  pub outcomes' : AllByRecursion IsInRange part.outcomes
  pub lates' : AllByRecursion HasWordsLate part.lates

-- and whose board's name has no colon
pub record IsRunInRange (run : BoardRun) : Type 0 where
  pub name' : list_all is_no_colon run.name ≡ true
  pub parts' : AllByRecursion IsPartInRange run.parts

-- The register's name has no space, and the number of the rule that denies the operation has 32 bits.
pub record CanBeTold (ask : Asked) : Type 0 where
  pub name' : list_all is_no_space ask.op.name ≡ true
  pub rule' : IfSome ask.denied (λ rule. rule < 2 ^ 32)
