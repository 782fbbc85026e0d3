-- What became of the clients' bodies, put beside what each planned on each board. Profile.
use Rattle.std.specs.Prelude.{◌≡◌, ℕ, ◌+◌, ◌<◌, List, [], ◌∷◌, length, map, Option}
use Rattle.std.specs.List.{slice_index_or}
use Rattle.lane_record.specs.declared.outcome.Outcome.{Outcome}
use Rattle.client_threads.specs.declared.result.ClientResult.{ClientResult}
use Rattle.board_history.specs.Runs.{parts_with}
use Rattle.board_history.specs.Lates.{lates_of}
use Rattle.script_plans.specs.declared.board_run.ClientPart.{ClientPart}
use Rattle.script_plans.specs.Plan.{ClientBodies}

-- the result has outcomes on so many lanes
abbrev pub HasLanes : ℕ → ClientResult → Type 0
HasLanes many result = length result.lanes ≡ many

-- there is a plan for each of so many clients
abbrev pub HasClients : ℕ → List ClientBodies → Type 0
HasClients many planned = length planned ≡ many

-- what became of each client's bodies on a lane
abbrev pub outcomes_on_lane : ℕ → List ClientResult → List (List Outcome)
outcomes_on_lane lane results = map (λ (r : ClientResult). slice_index_or r.lanes lane []) results

-- the parts of the clients on each board, the first of which has the lane of this number
abbrev pub parts_from : ℕ → List (List ClientBodies) → List ClientResult → List (List ClientPart)
parts_from lane [] results = []
parts_from lane (planned ∷ boards) results =
    parts_with planned (outcomes_on_lane lane results) [] ∷ parts_from (lane + 1) boards results

-- the part of a client with what came late for its bodies, by what came late at each place of its lane
abbrev pub with_lates : List (Option (List ℕ)) → ClientPart → ClientPart
with_lates lates part =
    record { planned = part.planned; outcomes = part.outcomes; lates = lates_of lates part.outcomes }

-- ---- how they come about

-- the outcomes on the next lane, and those on the lanes behind it
abbrev pub next_of : List (List Outcome) → List Outcome
next_of [] = []
next_of (outcomes ∷ others) = outcomes

abbrev pub others_of : List (List Outcome) → List (List Outcome)
others_of [] = []
others_of (outcomes ∷ others) = others

abbrev pub HasNext : List (List Outcome) → Type 0
HasNext lanes = 0 < length lanes
