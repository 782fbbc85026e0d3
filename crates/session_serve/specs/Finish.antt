-- The boards once their lanes came back. What private functions promise one another; no public clause speaks of these.
use Rattle.std.specs.Prelude.{◌≡◌, ℕ, List, [], ◌∷◌, length, count_by}
use Rattle.links.specs.declared.link.Link.{Ghosts}
use Rattle.world_model.specs.Settings.{Limits}
use Rattle.board_specs.specs.declared.spec.BoardSpec.{BoardSpec}
use Rattle.lane_record.specs.Bounds.{timeouts}
use Rattle.hub_lane.specs.Calls.{is_lost_at_place, is_replied}
use Rattle.hub_lane.specs.Lanes.{IsLane, LaneState}
use Rattle.transcript.specs.declared.line.BoardLine.{BoardLine}
use Rattle.transcript.specs.declared.line.BoardLine.TheVariants as line
use Rattle.board_greeting.specs.Boards.{IsEndedLane, IsLaneTo}
use Rattle.board_greeting.specs.Reports.{shown_by}
use Rattle.board_greeting.specs.declared.standing.Standing.{Standing}
use Rattle.board_greeting.specs.declared.standing.Standing.TheVariants.{Live, AtHub, Silent, Down}

-- the lane of a live board is in its place
abbrev pub IsHere : {L : Type 0} → Standing L → Type 0
IsHere (Live lane) = Unit {0}
IsHere AtHub = ⊥
IsHere (Silent link) = Unit {0}
IsHere (Down link) = Unit {0}

-- the line of a board: for a live one the numbers that its lane tells
abbrev pub lane_line : {L : Type 0} → List ℕ → LaneState L → BoardLine
lane_line name lane = line.Live name (length lane.hub.sent) (count_by is_replied lane.outcomes) (timeouts lane.outcomes)
    (count_by is_lost_at_place lane.outcomes)

abbrev pub line_in : {L : Type 0} → List ℕ → Standing L → BoardLine
line_in name (Live lane) = lane_line name lane
line_in name AtHub = line.Down name
line_in name (Silent link) = line.Silent name
line_in name (Down link) = line.Down name

abbrev pub lines_in : {L : Type 0} → List (List ℕ) → List (Standing L) → List BoardLine
lines_in [] boards = []
lines_in (name ∷ names) [] = []
lines_in (name ∷ names) (one ∷ boards) = line_in name one ∷ lines_in names boards

-- Of a live board: its lane keeps what a lane keeps, has all that the history of its board rests on, and is over the link
-- with its number.
abbrev pub IsSound : {L : Type 0} → Ghosts L → Standing L → Type 0
IsSound seen (Live lane) =
    IsLane lane.settings lane.status lane.hub lane.items lane.outcomes lane.lates lane.give_ups lane.down lane.spent
    (seen.telling lane.link) (seen.faults lane.link) (seen.quiets lane.link)
    × ((settings : Limits) (spec : BoardSpec) → IsLaneTo settings spec (seen.telling lane.link) lane
    → IsEndedLane settings spec lane (shown_by seen lane.link))
    × (seen.number lane.link ≡ lane.number)
IsSound seen AtHub = Unit {0}
IsSound seen (Silent link) = Unit {0}
IsSound seen (Down link) = Unit {0}
