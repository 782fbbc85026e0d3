-- Values for worked examples: two clients at one lane, each with one body in one dispatch.
use Rattle.std.specs.Prelude.{ℕ, List, [], ◌∷◌}
use Rattle.lane_record.specs.declared.outcome.Outcome.{Outcome}
use Rattle.lane_record.specs.declared.item.Item.{Item}
use Rattle.lane_record.specs.NextEntry.{ask_of, took_of}
use Rattle.client_threads.specs.declared.plan.ClientPlan.{ClientPlan}
use Rattle.client_threads.specs.declared.result.ClientResult.{ClientResult}

-- one body of a client on lane 0
abbrev pub one_body_of : ℕ → ClientPlan
one_body_of client = record { client = client; dispatches = record { asks = (0, 1) ∷ [] } ∷ [] }

abbrev pub two_plans : List ClientPlan
two_plans = one_body_of 1 ∷ one_body_of 2 ∷ []

-- what they show of the bodies
abbrev pub two_results : Outcome → Outcome → List ClientResult
two_results one other =
    record { client = 1; lanes = (one ∷ []) ∷ [] } ∷ record { client = 2; lanes = (other ∷ []) ∷ [] } ∷ []

abbrev pub two_bodies : List ℕ → List ℕ → List (List (List ℕ))
two_bodies one other = (one ∷ []) ∷ (other ∷ []) ∷ []

-- client 2 runs as a whole between the Ask and the Took of client 1
abbrev pub side_by_side : Outcome → Outcome → List Item
side_by_side one other =
    ask_of 1 0 0 ∷ ask_of 2 0 0 ∷ took_of 2 0 other 0 ∷ took_of 1 0 one 0 ∷ []

-- client 1 runs first, and then client 2
abbrev pub one_after_another : Outcome → Outcome → List Item
one_after_another one other =
    ask_of 1 0 0 ∷ took_of 1 0 one 0 ∷ ask_of 2 0 0 ∷ took_of 2 0 other 0 ∷ []

-- client 2 left no entry
abbrev pub client_1_alone : Outcome → List Item
client_1_alone one = ask_of 1 0 0 ∷ took_of 1 0 one 0 ∷ []
