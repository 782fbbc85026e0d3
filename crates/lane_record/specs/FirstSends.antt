-- The bodies that were sent to the board, by place: a place is the number of a body, from 1, among the first sends.
-- Profile.
use Rattle.std.specs.Prelude.{◌≡◌, ℕ, ◌+◌, Bool, true, if◌then◌else◌, List, [], ◌∷◌, ◌++◌, map, length}
use Rattle.std.specs.Prelude.{Option, Some, None}
use Rattle.lane_record.specs.declared.outcome.Outcome.{Outcome}
use Rattle.lane_record.specs.declared.item.Item.{Item}
use Rattle.lane_record.specs.Outcomes.{place_of, is_sent}
use Rattle.lane_record.specs.Claims.{Claim, claims, taken_outcomes, IsAskOf, outcome_taken}

-- a body without an outcome was sent, or may still be
abbrev pub may_have_place : Option Outcome → Bool
may_have_place None = true
may_have_place (Some outcome) = is_sent outcome

-- a body that was sent has the place after so many others
abbrev pub HasPlaceAfter : ℕ → Option Outcome → Type 0
HasPlaceAfter others None = Unit {0}
HasPlaceAfter others (Some outcome) = is_sent outcome ≡ true → place_of outcome ≡ Some (others + 1)

abbrev pub HavePlacesAfter : ℕ → List (Option Outcome) → Type 0
HavePlacesAfter others [] = Unit {0}
HavePlacesAfter others (o ∷ os) =
    HasPlaceAfter others o × HavePlacesAfter (if may_have_place o then others + 1 else others) os

-- how many of these bodies were sent, or may still be
abbrev pub places_given : List (Option Outcome) → ℕ
places_given [] = 0
places_given (o ∷ os) = if may_have_place o then 1 + places_given os else places_given os

-- The places are 1, 2, 3, .. in the order of the Asks; an Ask that never got a place is left out. There is an outcome,
-- or the lack of one, for each Ask.
pub record PlacesCount (claims : List Claim) (outcomes : List (Option Outcome)) : Type 0 where
  pub each : length outcomes ≡ length claims
  pub places : HavePlacesAfter 0 outcomes

-- a body that was sent, and what became of it
pub record Sent : Type 0 where
  pub place : ℕ
  pub client : ℕ
  pub seq : ℕ
  pub body : List ℕ
  pub outcome : Outcome

abbrev pub sent_at : Claim → Outcome → Option ℕ → List Sent
sent_at claim outcome None = []
sent_at claim outcome (Some place) =
    record {
      place = place;
      client = claim.client;
      seq = claim.seq;
      body = claim.body;
      outcome = outcome;
    } ∷ []

abbrev pub sent_as : Claim → Option Outcome → List Sent
sent_as claim None = []
sent_as claim (Some outcome) = sent_at claim outcome (place_of outcome)

abbrev pub sent_of : List Claim → List (Option Outcome) → List Sent
sent_of [] os = []
sent_of (c ∷ cs) [] = []
sent_of (c ∷ cs) (o ∷ os) = sent_as c o ++ sent_of cs os

-- What a record alone tells of the bodies that were sent and taken. Of a finished record these are the first sends.
abbrev pub first_sends : List Item → List Sent
first_sends items = sent_of (claims items) (taken_outcomes items)

-- a body that was sent is that of an Ask, with what was taken for it
pub record IsOfAsk (items : List Item) (s : Sent) : Type 0 where
  pub k : ℕ
  pub claim : Claim
  pub ask : IsAskOf items k s.client s.seq claim
  pub same_body : claim.body ≡ s.body
  pub took : outcome_taken items claim ≡ Some s.outcome
  pub at : place_of s.outcome ≡ Some s.place

abbrev pub places_of : List Sent → List ℕ
places_of sends = map (λ (s : Sent). s.place) sends

abbrev pub bodies_sent : List Sent → List (List ℕ)
bodies_sent sends = map (λ (s : Sent). s.body) sends
