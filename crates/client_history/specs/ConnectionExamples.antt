-- Values for worked examples: two connections at one board.
use Rattle.std.specs.Prelude.{ℕ, List, [], ◌∷◌}
use Rattle.lane_record.specs.declared.outcome.Outcome.{Outcome}
use Rattle.lane_record.specs.declared.outcome.Outcome.TheVariants.{Replied, TimedOut}
use Rattle.lane_record.specs.declared.item.Item.{Item}
use Rattle.lane_record.specs.NextEntry.{ask_of, plan_of, took_of}
use Rattle.lane_record.specs.Submissions.{Submission}

abbrev pub submission_of : List ℕ → Outcome → Submission
submission_of body outcome = record { body = body; outcome = outcome }

-- connection 1 submits two bodies, and connection 2 one
abbrev pub two_connections : List ℕ → List ℕ → List ℕ → Outcome → Outcome → Outcome → List (List Submission)
two_connections a b c first second other =
    (submission_of a first ∷ submission_of b second ∷ []) ∷ (submission_of c other ∷ []) ∷ []

-- their entries alternate: connection 2 submits while connection 1 waits for its first body, and takes its outcome
-- after connection 1 planned its second one
abbrev pub alternating : List ℕ → List ℕ → List ℕ → Outcome → Outcome → Outcome → List Item
alternating a b c first second other =
    plan_of 1 0 a ∷ ask_of 1 0 0 ∷ plan_of 2 0 c ∷ ask_of 2 0 0 ∷ took_of 1 0 first 0 ∷ plan_of 1 1 b
    ∷ took_of 2 0 other 0 ∷ ask_of 1 1 0 ∷ took_of 1 1 second 0 ∷ []

-- ---- on a board

-- one connection that was answered by this word at place 1, and one whose body was timed out at a place
abbrev pub one_timed_out_at : ℕ → List ℕ → ℕ → List (List Submission)
one_timed_out_at place body word =
    (submission_of body (Replied 1 (0x20000100 ∷ word ∷ [])) ∷ []) ∷ (submission_of body (TimedOut place 3) ∷ []) ∷ []
