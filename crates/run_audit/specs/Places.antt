-- Which places lines may show. Profile.
use Rattle.std.specs.Prelude.{◌≡◌, ◌≢◌, ◌⊎◌, ℕ, ◌+◌, ◌<◌, ◌≤◌, List, [], ◌∷◌, ◌++◌, length, slice_get, Some}
use Rattle.std.specs.List.{Any}
use Rattle.board_specs.specs.declared.spec.BoardSpec.{BoardSpec}
use Rattle.script_steps.specs.declared.operation.Step.{Step}
use Rattle.transcript.specs.declared.line.BoardLine.{BoardLine}
use Rattle.transcript.specs.Shown.{places_told}
use Rattle.transcript_reader.specs.declared.shown.Shown.{Shown}
use Rattle.run_audit.specs.AskedLines.{AskedLine, ShownPiece, asked_lines, pieces_of, pieces_shown}

-- ---- some places, and not all

-- the line shows a place for some of the pieces of its operation, and not for all
pub record IsPartial (boards : List BoardSpec) (scripts : List (List Step)) (asking : AskedLine) : Type 0 where
  pub some : asking.shows.1 ≢ []
  pub not_all : length asking.shows.1 < length (pieces_of boards scripts asking)

pub record IsPartialAt (boards : List BoardSpec) (scripts : List (List Step)) (shown : Shown) (line : ℕ) : Type 0 where
  pub at : ℕ
  pub asking : AskedLine
  pub there : slice_get (asked_lines scripts shown) at ≡ Some asking
  pub here : asking.line ≡ line
  pub is_partial : IsPartial boards scripts asking

-- ---- places that cannot be

-- the transaction is not the one that the piece is, or the board's line does not count the place
abbrev pub IsMisplaced : ℕ → ShownPiece → Type 0
IsMisplaced sent piece =
    (piece.transaction ≢ piece.index + 1) ⊎ (piece.place ≡ 0) ⊎ (sent < piece.place)

-- both stand in one body
abbrev pub AreOfOneBody : ShownPiece → ShownPiece → Type 0
AreOfOneBody one other = (one.client ≡ other.client) × (one.body ≡ other.body)

-- Pieces of one board do not stand so, of which the first is shown before the second: one body at two places; two
-- bodies at one place; or bodies of one client whose places do not rise.
abbrev pub Disagree : ShownPiece → ShownPiece → Type 0
Disagree earlier later =
    (AreOfOneBody earlier later × (earlier.place ≢ later.place))
    ⊎ (¬ AreOfOneBody earlier later × (earlier.place ≡ later.place))
    ⊎ ((earlier.client ≡ later.client) × (earlier.body < later.body) × (later.place ≤ earlier.place))

-- a piece of this line is misplaced, or disagrees with one that is shown before it
pub record HasMisplaced (sent : ℕ) (pieces : List ShownPiece) (line : ℕ) : Type 0 where
  pub before : List ShownPiece
  pub piece : ShownPiece
  pub behind : List ShownPiece
  pub all : pieces ≡ before ++ piece ∷ behind
  pub here : piece.line ≡ line
  pub wrong : IsMisplaced sent piece ⊎ Any (λ earlier. Disagree earlier piece) before

-- on some board
pub record IsMisplacedAt (boards : List BoardSpec) (scripts : List (List Step)) (shown : Shown) (line : ℕ) : Type 0
  where
    pub board : ℕ
    pub told : BoardLine
    pub there : slice_get shown.boards board ≡ Some told
    pub misplaced : HasMisplaced (places_told told) (pieces_shown boards scripts board (asked_lines scripts shown)) line
