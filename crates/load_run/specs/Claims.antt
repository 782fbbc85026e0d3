-- What the numbers of a summary are. Profile; IPbus 2.0, RMW sum.
use Rattle.std.specs.Prelude.{◌≡◌, ℕ, ◌-◌, ◌*◌, ◌/◌, ◌==◌, Bool, false, List, [], ◌∷◌, length, count_by, sum_by}
use Rattle.std.specs.Prelude.{◌<◌, Option, Some, None}
use Rattle.std.specs.List.{Contains}
use Rattle.transaction_codec.specs.declared.info_code.TheConstants.{SUCCESS}
use Rattle.transaction_codec.specs.Header.{code_of}
use Rattle.board_bus.specs.Bodies.{replay}
use Rattle.lane_record.specs.declared.outcome.Outcome.{Outcome}
use Rattle.lane_record.specs.declared.outcome.Outcome.TheVariants.{Replied, TimedOut, Unsent, LinkLost}
use Rattle.world_model.specs.Places.{at_place}
use Rattle.script_plans.specs.declared.board_run.BoardRun.{BoardRun}
use Rattle.script_plans.specs.Runs.{outcomes_on}
use Rattle.board_history.specs.Order.{Placed, order, bodies_in}
use Rattle.board_history.specs.History.{bodies_by_client, outcomes_by_client}
use Rattle.board_history.specs.Runs.{opens_with}
use Rattle.load_run.specs.declared.summary.Summary.{Summary}
use Rattle.load_run.specs.Generated.{link}

-- the words are a reply whose first transaction succeeded
abbrev pub has_succeeded : List ℕ → Bool
has_succeeded [] = false
has_succeeded (header ∷ words) = code_of header == SUCCESS

-- the body was replied to with code 0
abbrev pub is_done : Outcome → Bool
is_done (Replied place words) = has_succeeded words
is_done (TimedOut place rounds) = false
is_done Unsent = false
is_done (LinkLost place) = false

-- the word behind the header of a reply
abbrev pub word_in : List ℕ → ℕ
word_in (header ∷ (word ∷ words)) = word
word_in words = 0

abbrev pub word_in_reply : Option (List ℕ) → ℕ
word_in_reply (Some words) = word_in words
word_in_reply None = 0

-- of a body that was replied to, the word in the reply that stands at its place among these
abbrev pub word_at_place : List (List ℕ) → Outcome → ℕ
word_at_place replies (Replied place words) = word_in_reply (at_place replies place)
word_at_place replies (TimedOut place rounds) = 0
word_at_place replies Unsent = 0
word_at_place replies (LinkLost place) = 0

-- the order of the board of a generated session
abbrev pub order_on : BoardRun → List Placed
order_on run = order (bodies_by_client run) (outcomes_by_client run)

-- What a summary tells of the run of a generated session, which has one board:
pub record TellsRuns (count : ℕ) (runs : List BoardRun) (summary : Summary) : Type 0 where
  pub run : BoardRun
  pub one : runs ≡ run ∷ []
  -- how many bodies were replied to with code 0
  pub done : summary.done ≡ count_by is_done (outcomes_on run)
  -- the sum of the words that a bus with a single thread answers to these bodies at their places
  pub total : summary.total
      ≡ sum_by (word_at_place (replay (opens_with (link count)) (bodies_in (order_on run))).replies) (outcomes_on run)
  -- how many bodies the order of the board has
  pub places : summary.places ≡ length (order_on run)

-- each number below this one stands among these
abbrev pub HasEachBelow : ℕ → List ℕ → Type 0
HasEachBelow count words = (n : ℕ) → n < count → Contains words n

-- 0 + 1 + .. + (count - 1)
abbrev pub sum_below : ℕ → ℕ
sum_below count = count * (count - 1) / 2
