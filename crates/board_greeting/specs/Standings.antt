-- What stands in the place of each board of a document. Profile.
use Rattle.std.specs.Prelude.{ℕ, ◌+◌, List, [], ◌∷◌, ◌++◌, map, Bool, true, false}
use Rattle.hub_lane.specs.Lanes.{LaneState}
use Rattle.hub_lane.specs.declared.greeting.Greeted.{Greeted}
use Rattle.hub_lane.specs.declared.greeting.Greeted.TheVariants as greeted
use Rattle.hub_lane.specs.declared.answers.BoardState.{BoardState}
use Rattle.hub_lane.specs.declared.answers.BoardState.TheVariants as stands
use Rattle.board_greeting.specs.declared.standing.Standing.{Standing}
use Rattle.board_greeting.specs.declared.standing.Standing.TheVariants.{Live, AtHub, Silent, Down}

-- how a board stands by what its greeting came to
abbrev pub standing_of : {L : Type 0} → Greeted L → Standing L
standing_of (greeted.Ready lane) = Live lane
standing_of (greeted.Silent link rounds) = Silent link
standing_of (greeted.Down link) = Down link
standing_of (greeted.NoMemory link) = Down link

-- the lane that stands in its place, if any
abbrev pub lane_in : {L : Type 0} → Standing L → List (LaneState L)
lane_in (Live lane) = lane ∷ []
lane_in AtHub = []
lane_in (Silent link) = []
lane_in (Down link) = []

-- the link that stands there, alone or with the lane
abbrev pub link_in : {L : Type 0} → Standing L → List L
link_in (Live lane) = lane.link ∷ []
link_in AtHub = []
link_in (Silent link) = link ∷ []
link_in (Down link) = link ∷ []

-- those of all boards, in order
abbrev pub lanes_in : {L : Type 0} → List (Standing L) → List (LaneState L)
lanes_in [] = []
lanes_in (one ∷ boards) = lane_in one ++ lanes_in boards

abbrev pub links_in : {L : Type 0} → List (Standing L) → List L
links_in [] = []
links_in (one ∷ boards) = link_in one ++ links_in boards

-- the number of that link among those of its rack, as the lane has it where there is one
abbrev pub number_in : {L : Type 0} → (L → ℕ) → Standing L → List ℕ
number_in number (Live lane) = lane.number ∷ []
number_in number AtHub = []
number_in number (Silent link) = number link ∷ []
number_in number (Down link) = number link ∷ []

abbrev pub numbers_in : {L : Type 0} → (L → ℕ) → List (Standing L) → List ℕ
numbers_in number [] = []
numbers_in number (one ∷ boards) = number_in number one ++ numbers_in number boards

-- ---- lanes at a hub

abbrev pub is_at_hub : {L : Type 0} → Standing L → Bool
is_at_hub (Live lane) = false
is_at_hub AtHub = true
is_at_hub (Silent link) = false
is_at_hub (Down link) = false

-- a board once its lane, if it has one, was taken
abbrev pub at_hub : {L : Type 0} → Standing L → Standing L
at_hub (Live lane) = AtHub
at_hub AtHub = AtHub
at_hub (Silent link) = Silent link
at_hub (Down link) = Down link

abbrev pub all_at_hub : {L : Type 0} → List (Standing L) → List (Standing L)
all_at_hub boards = map (λ one. at_hub one) boards

-- The positions of the boards whose lanes are at a hub, where the first board has this one. The hub has the lanes in
-- this order: its index of a lane is that of the board's position here.
abbrev pub positions_at_hub : {L : Type 0} → ℕ → List (Standing L) → List ℕ
positions_at_hub position [] = []
positions_at_hub position (Live lane ∷ boards) = positions_at_hub (position + 1) boards
positions_at_hub position (AtHub ∷ boards) = position ∷ positions_at_hub (position + 1) boards
positions_at_hub position (Silent link ∷ boards) = positions_at_hub (position + 1) boards
positions_at_hub position (Down link ∷ boards) = positions_at_hub (position + 1) boards

-- lanes that came back: each board at a hub has the next of them again, as long as there are any
abbrev pub with_lanes : {L : Type 0} → List (Standing L) → List (LaneState L) → List (Standing L)
with_lanes [] lanes = []
with_lanes (Live own ∷ boards) lanes = Live own ∷ with_lanes boards lanes
with_lanes (AtHub ∷ boards) [] = AtHub ∷ with_lanes boards []
with_lanes (AtHub ∷ boards) (lane ∷ lanes) = Live lane ∷ with_lanes boards lanes
with_lanes (Silent link ∷ boards) lanes = Silent link ∷ with_lanes boards lanes
with_lanes (Down link ∷ boards) lanes = Down link ∷ with_lanes boards lanes

-- ---- how boards stand to clients

-- if the hub's next lane has this index; and the index of the lane after it
abbrev pub state_at : {L : Type 0} → ℕ → Standing L → BoardState
state_at lane (Live own) = stands.Lane lane
state_at lane AtHub = stands.Lane lane
state_at lane (Silent link) = stands.Silent
state_at lane (Down link) = stands.Down

abbrev pub lane_after : {L : Type 0} → ℕ → Standing L → ℕ
lane_after lane (Live own) = lane + 1
lane_after lane AtHub = lane + 1
lane_after lane (Silent link) = lane
lane_after lane (Down link) = lane

abbrev pub states_at : {L : Type 0} → ℕ → List (Standing L) → List BoardState
states_at lane [] = []
states_at lane (one ∷ boards) = state_at lane one ∷ states_at (lane_after lane one) boards
