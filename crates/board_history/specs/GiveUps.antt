-- What bodies that were given up have cost: a hub waits before it gives up. Profile.
use Rattle.std.specs.Prelude.{ℕ, ◌*◌, ◌-◌, ◌^◌, ◌<◌, ◌≤◌, Bool, List}
use Rattle.std.specs.List.{AllByRecursion, count_by, flat_map, list_any}
use Rattle.lane_record.specs.declared.outcome.Outcome.{Outcome}
use Rattle.lane_record.specs.Outcomes.{is_given_up, is_timed_out}
use Rattle.lane_record.specs.Dispatches.{outcomes_in_order}

-- how many bodies of all clients were timed out
abbrev pub time_outs : List (List (List Outcome)) → ℕ
time_outs clients = count_by is_timed_out (flat_map outcomes_in_order clients)

-- a dispatch of which a body was timed out or never sent, the link having not failed
abbrev pub was_given_up : List Outcome → Bool
was_given_up outcomes = list_any is_given_up outcomes

-- how many dispatches of a client were
abbrev pub times_given_up : List (List Outcome) → ℕ
times_given_up dispatches = count_by was_given_up dispatches

-- a count of 64 bits that does not stand at its end, so that it counted each
abbrev pub IsExact : ℕ → Type 0
IsExact count = count < 2 ^ 64 - 1

-- Each give-up costs so much, and ends at most `window` bodies that were sent; `paid` is counted in 64 bits. The
-- outcomes stand client by client and dispatch by dispatch.
pub record GaveUpOnlyAfter (window cost paid : ℕ) (outcomes : List (List (List Outcome))) : Type 0 where
  -- bodies are timed out only at that cost
  pub bodies : IsExact paid → cost * time_outs outcomes ≤ window * paid
  -- a client finds so many dispatches given up only at that cost
  pub dispatches : IsExact paid → AllByRecursion (λ client. cost * times_given_up client ≤ paid) outcomes
