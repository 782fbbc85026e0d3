-- Which places of their boards the lines of a transcript show. Profile.
use Rattle.std.specs.Prelude.{◌≡◌, ◌↔◌, ℕ, ◌≤◌, List, Some}
use Rattle.std.specs.List.{AllByRecursion, Any}
use Rattle.transcript.specs.declared.body_end.BodyEnd.{BodyEnd}
use Rattle.script_plans.specs.declared.board_run.ClientPart.{ClientPart}
use Rattle.script_plans.specs.declared.board_run.BoardRun.{BoardRun}
use Rattle.transcript.specs.declared.line.OpLine.{OpLine}
use Rattle.transcript.specs.declared.line.BoardLine.{BoardLine}
use Rattle.transcript.specs.declared.line.BoardLine.TheVariants.{Live, Silent, Down}
use Rattle.transcript.specs.Ends.{ends_of}
use Rattle.transcript.specs.Lines.{Transcript}

-- ---- what lines show

-- the line is of the board of this name, and one of the places that it shows is this one
pub record ShowsPlace (name : List ℕ) (place : ℕ) (line : OpLine) : Type 0 where
  pub board' : line.board ≡ name
  pub shown : Any (λ (at : ℕ × ℕ). at.0 ≡ place) line.places

-- some line of some client does
abbrev pub IsShown : List ℕ → ℕ → List (List OpLine) → Type 0
IsShown name place clients = Any (Any (ShowsPlace name place)) clients

-- the name in the line of a board
abbrev pub name_in : BoardLine → List ℕ
name_in (Live name sent replied timed_out lost) = name
name_in (Silent name) = name
name_in (Down name) = name

-- how many places the line of a board tells; one that was not live has none
abbrev pub places_told : BoardLine → ℕ
places_told (Live name sent replied timed_out lost) = sent
places_told (Silent name) = 0
places_told (Down name) = 0

-- the lines show, of the board of this line, the places 1, 2, .. up to the number that it tells, and no other
abbrev pub ShowPlacesOf : List (List OpLine) → BoardLine → Type 0
ShowPlacesOf clients board =
    (place : ℕ) → IsShown (name_in board) place clients ↔ ((1 ≤ place) × (place ≤ places_told board))

-- The lines of a transcript show so the places of each of its boards.
abbrev pub ShowsAllPlaces : Transcript → Type 0
ShowsAllPlaces transcript = AllByRecursion (ShowPlacesOf transcript.clients) transcript.boards

-- ---- what became of bodies

-- the body has this place
abbrev pub EndsAt : ℕ → BodyEnd → Type 0
EndsAt place end = end.place ≡ Some place

-- some body of a client has it
abbrev pub HasBodyAt : ℕ → ClientPart → Type 0
HasBodyAt place part = Any (EndsAt place) (ends_of part)

-- some body of some client has this place on the board
abbrev pub IsPlaceOn : BoardRun → ℕ → Type 0
IsPlaceOn run place = Any (HasBodyAt place) run.parts
