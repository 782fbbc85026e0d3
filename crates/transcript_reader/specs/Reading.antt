-- How the code reads what a line shows, more leniently than it is written: what it read is written again and compared.
-- The private functions speak of it and no public clause does.
use Rattle.std.specs.Prelude.{◌≡◌, ℕ, ◌+◌, ◌*◌, ◌^◌, nat_lt, if◌then◌else◌, List, [], ◌∷◌, codes, Option, Some, None}
use Rattle.std.specs.Char.{digit_value}
use Rattle.transcript.specs.declared.line.LateAnswer.{LateAnswer}
use Rattle.transcript.specs.declared.line.LateAnswer.TheVariants as late_answer
use Rattle.transcript.specs.declared.line.OpResult.{OpResult}
use Rattle.transcript.specs.declared.line.OpResult.TheVariants.{Value, Done, Was, Error, Skipped, TimedOut, Late}
use Rattle.transcript.specs.declared.line.OpResult.TheVariants.{Unsent, LinkLost, Garbled}
use Rattle.transcript.specs.Lines.{Showing}
use Rattle.ipb_base.specs.Fronts.{Front, ◌>>=◌, behind, all_of}

-- ---- numbers

-- the value of the digit of a base at the front
unfoldable pub digit_at : ℕ → List ℕ → Front ℕ
digit_at base [] = None
digit_at base (byte ∷ rest) = if nat_lt (digit_value byte) base then Some (digit_value byte, rest) else None

-- one digit more, where the number still has 64 bits
abbrev pub with_digit : ℕ → ℕ → ℕ → Option ℕ
with_digit base value digit = if nat_lt (value * base + digit) (2 ^ 64) then Some (value * base + digit) else None

-- the value so far and the digits at the front, up to a byte that is none; no digits are 0
abbrev pub number_from : ℕ → ℕ → List ℕ → Front ℕ
number_from base value [] = Some (value, [])
number_from base value (byte ∷ rest) =
    if nat_lt (digit_value byte) base
    then with_digit base value (digit_value byte) >>= (λ more. number_from base more rest)
    else Some (value, byte ∷ rest)

-- the number of the digits of a base at the front
abbrev pub number_at : ℕ → List ℕ → Front ℕ
number_at base text = number_from base 0 text

-- a number that is small enough
abbrev pub below : ℕ → Front ℕ → Front ℕ
below most read = read >>= (λ number. if nat_lt number.0 most then Some number else None)

-- a decimal number below another
abbrev pub decimal_at : ℕ → List ℕ → Front ℕ
decimal_at most text = below most (number_at 10 text)

-- ---- words

-- a word, in as many digits as there are
unfoldable pub word_at : List ℕ → Front ℕ
word_at text = behind (codes "0x") text >>= (λ rest. below (2 ^ 32) (number_at 16 rest))

-- a space and a word
unfoldable pub next_word_at : List ℕ → Front ℕ
next_word_at text = behind (codes " ") text >>= word_at

-- ---- results

-- what stands behind a word, where the text begins with it, and else others
abbrev pub said_by : {A : Type 0} → Option (List ℕ) → (List ℕ → Front A) → Front A → Front A
said_by (Some rest) at others = at rest
said_by None at others = others

-- a code and how many words were done
unfoldable pub fault_at : List ℕ → Front (ℕ × ℕ)
fault_at text = do
  code ← decimal_at (2 ^ 8) text
  rest ← behind (codes " after ") code.1
  after ← decimal_at (2 ^ 8) rest
  Some ((code.0, after.0), after.1)

abbrev pub was_by : Front ℕ → Front LateAnswer
was_by read = read >>= (λ word. Some (late_answer.Was word.0, word.1))

abbrev pub error_by : Front (ℕ × ℕ) → Front LateAnswer
error_by read = read >>= (λ fault. Some (late_answer.Error fault.0.0 fault.0.1, fault.1))

-- what a late answer shows beside words that were read
unfoldable pub plain_at : List ℕ → Front LateAnswer
plain_at text =
    said_by (behind (codes "done") text) (λ rest. Some (late_answer.Done, rest))
    (said_by (behind (codes "skipped") text) (λ rest. Some (late_answer.Skipped, rest))
    (said_by (behind (codes "garbled") text) (λ rest. Some (late_answer.Garbled, rest))
    (said_by (behind (codes "was ") text) (λ rest. was_by (word_at rest))
    (said_by (behind (codes "error ") text) (λ rest. error_by (fault_at rest)) None))))

abbrev pub value_by : List ℕ × List ℕ → Front LateAnswer
value_by read = Some (late_answer.Value read.0, read.1)

-- what a late answer shows
unfoldable pub answer_at : List ℕ → Front LateAnswer
answer_at text = said_by (behind (codes "=") text) (λ rest. value_by (all_of next_word_at rest)) (plain_at text)

-- what came in time and is shown so
abbrev pub in_time : LateAnswer → OpResult
in_time (late_answer.Value words) = Value words
in_time late_answer.Done = Done
in_time (late_answer.Was word) = Was word
in_time (late_answer.Error code after) = Error code after
in_time late_answer.Skipped = Skipped
in_time late_answer.Garbled = Garbled

abbrev pub answered_by : Front LateAnswer → Front OpResult
answered_by read = read >>= (λ answer. Some (in_time answer.0, answer.1))

abbrev pub late_by : ℕ → Front LateAnswer → Front OpResult
late_by rounds read = read >>= (λ answer. Some (Late rounds answer.0, answer.1))

-- the rounds of a timeout, up to what tells whether an answer came
unfoldable pub rounds_at : List ℕ → Front ℕ
rounds_at text = do
  rounds ← decimal_at (2 ^ 8) text
  rest ← behind (codes " rounds, ") rounds.1
  Some (rounds.0, rest)

-- a timeout behind its first words
abbrev pub ended_at : ℕ × List ℕ → Front OpResult
ended_at (rounds, text) =
    said_by (behind (codes "execution unknown") text) (λ rest. Some (TimedOut rounds, rest))
    (said_by (behind (codes "answered late: ") text) (λ rest. late_by rounds (answer_at rest)) None)

unfoldable pub timeout_at : List ℕ → Front OpResult
timeout_at text = rounds_at text >>= ended_at

-- what an operation came to that no rule denies
unfoldable pub result_at : List ℕ → Front OpResult
result_at text =
    said_by (behind (codes "timeout after ") text) timeout_at
    (said_by (behind (codes "unsent") text) (λ rest. Some (Unsent, rest))
    (said_by (behind (codes "link lost") text) (λ rest. Some (LinkLost, rest)) (answered_by (answer_at text))))

-- ---- places

unfoldable pub place_at : List ℕ → Front (ℕ × ℕ)
place_at text = do
  place ← number_at 10 text
  rest ← behind (codes ".") place.1
  number ← decimal_at (2 ^ 16) rest
  Some ((place.0, number.0), number.1)

-- a comma and a place
unfoldable pub next_place_at : List ℕ → Front (ℕ × ℕ)
next_place_at text = behind (codes ",") text >>= place_at

abbrev pub places_by : Front (ℕ × ℕ) → Option (List (ℕ × ℕ))
places_by read = read >>= (λ first. Some (first.0 ∷ (all_of next_place_at first.1).0))

-- the places of an operation, where it has any
abbrev pub places_of : Option (List ℕ) → Option (List (ℕ × ℕ))
places_of None = Some []
places_of (Some rest) = places_by (place_at rest)

abbrev pub shown_by : OpResult → Option (List (ℕ × ℕ)) → Option Showing
shown_by came_to None = None
shown_by came_to (Some places) = Some (came_to, places)

-- what a line shows behind its register
unfoldable pub showing_at : List ℕ → Option Showing
showing_at text = result_at text >>= (λ read. shown_by read.0 (places_of (behind (codes " @") read.1)))

-- ---- boards

-- the four counts of a live board, behind its name
unfoldable pub counts_at : List ℕ → Option (ℕ × ℕ × ℕ × ℕ)
counts_at text = do
  one ← behind (codes " places ") text
  sent ← number_at 10 one
  two ← behind (codes " replied ") sent.1
  replied ← number_at 10 two
  three ← behind (codes " timeout ") replied.1
  timed_out ← number_at 10 three
  four ← behind (codes " lost ") timed_out.1
  lost ← number_at 10 four
  Some (sent.0, replied.0, timed_out.0, lost.0)
