-- The one order of a board: the bodies that were sent, by place. A place is the number of a body, from 1, among the
-- first sends to its board. Profile.
use Rattle.std.specs.Prelude.{ℕ, ◌+◌, ◌≤◌, nat_le, if◌then◌else◌, List, [], ◌∷◌, ◌++◌, map, Option, Some, None}
use Rattle.lane_record.specs.declared.outcome.Outcome.{Outcome}
use Rattle.lane_record.specs.Outcomes.{place_of}

-- a body at its place
pub record Placed : Type 0 where
  pub place : ℕ
  pub body : List ℕ

-- a body is there where it has a place
abbrev pub with_place : List ℕ → Option ℕ → List Placed
with_place body None = []
with_place body (Some place) = record { place = place; body = body } ∷ []

-- those bodies of one client that have a place, in the client's order
abbrev pub bodies_with_places : List (List ℕ) → List Outcome → List Placed
bodies_with_places [] outcomes = []
bodies_with_places (body ∷ bodies) [] = []
bodies_with_places (body ∷ bodies) (outcome ∷ outcomes) = with_place body (place_of outcome) ++ bodies_with_places bodies outcomes

-- those of all clients, client by client
abbrev pub all_placed : List (List (List ℕ)) → List (List Outcome) → List Placed
all_placed [] outcomes = []
all_placed (bodies ∷ later) [] = []
all_placed (bodies ∷ later) (outcomes ∷ others) = bodies_with_places bodies outcomes ++ all_placed later others

-- one more among bodies that stand by place
abbrev pub insert : Placed → List Placed → List Placed
insert x [] = x ∷ []
insert x (y ∷ ys) = if nat_le x.place y.place then x ∷ y ∷ ys else y ∷ insert x ys

abbrev pub by_place : List Placed → List Placed
by_place [] = []
by_place (x ∷ xs) = insert x (by_place xs)

-- The order of a board, from the bodies of each client and what became of them.
abbrev pub order : List (List (List ℕ)) → List (List Outcome) → List Placed
order bodies outcomes = by_place (all_placed bodies outcomes)

abbrev pub places_of : List Placed → List ℕ
places_of order = map (λ (p : Placed). p.place) order

abbrev pub bodies_in : List Placed → List (List ℕ)
bodies_in order = map (λ (p : Placed). p.body) order

-- each is greater than the one before, and the first is at least k
abbrev pub RisesFrom : ℕ → List ℕ → Type 0
RisesFrom k [] = Unit {0}
RisesFrom k (n ∷ ns) = (k ≤ n) × RisesFrom (n + 1) ns
