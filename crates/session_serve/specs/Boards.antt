-- How the boards of a document stand to the connections that are served. Profile.
use Rattle.std.specs.Prelude.{◌≡◌, ℕ, ◌+◌, List, [], ◌∷◌, map, Some}
use Rattle.std.specs.List.{slice_get}
use Rattle.board_specs.specs.declared.spec.BoardSpec.{BoardSpec}
use Rattle.hub_lane.specs.declared.answers.BoardState.{BoardState}
use Rattle.hub_lane.specs.declared.answers.BoardState.TheVariants as stands
use Rattle.script_plans.specs.declared.greeting.Greeting.{Greeting}
use Rattle.script_plans.specs.declared.greeting.Greeting.TheVariants.{Live, Silent, Down}
use Rattle.transcript.specs.declared.line.BoardLine.{BoardLine}
use Rattle.transcript.specs.Lines.{board_line}
use Rattle.board_history.specs.Links.{LinkReport, IsBoardOf, board_there}
use Rattle.client_history.specs.Boards.{ServedBoard, run_of}

-- How boards stand by what their greetings came to: the lanes of the live ones are numbered in order, the first of them
-- with this number.
abbrev pub states_from : ℕ → List Greeting → List BoardState
states_from lane [] = []
states_from lane (Live payload ∷ told) = stands.Lane lane ∷ states_from (lane + 1) told
states_from lane (Silent ∷ told) = stands.Silent ∷ states_from lane told
states_from lane (Down ∷ told) = stands.Down ∷ states_from lane told

abbrev pub states_of : List ServedBoard → List BoardState
states_of boards = states_from 0 (map (λ (b : ServedBoard). b.told) boards)

-- The board at this position is live: it told this payload at its greeting, and this is the number of its lane.
pub record IsLiveAt (boards : List ServedBoard) (position payload lane : ℕ) (board : ServedBoard) : Type 0 where
  pub there : slice_get boards position ≡ Some board
  pub told' : board.told ≡ Live payload
  pub lane' : slice_get (states_of boards) position ≡ Some (stands.Lane lane)

-- the lines of boards that were served, in order, each under the name of its entry in the document
abbrev pub lines_of : List BoardSpec → List ServedBoard → List BoardLine
lines_of [] boards = []
lines_of (spec ∷ specs) [] = []
lines_of (spec ∷ specs) (served ∷ boards) = board_line (run_of spec served) ∷ lines_of specs boards

-- the links are those of the first boards, in order; there may be fewer links than boards
abbrev pub AreLinksTo : List BoardSpec → List LinkReport → Type 0
AreLinksTo specs [] = Unit {0}
AreLinksTo [] (link ∷ links) = ⊥
AreLinksTo (spec ∷ specs) (link ∷ links) = IsBoardOf spec.link (board_there link.telling) × AreLinksTo specs links
