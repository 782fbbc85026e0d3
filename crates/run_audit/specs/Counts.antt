-- What the lines of boards may count. Profile.
use Rattle.std.specs.Prelude.{◌≡◌, ◌≢◌, ◌⊎◌, ℕ, ◌+◌, eqb, if◌then◌else◌, List, [], ◌∷◌, length, map, slice_get}
use Rattle.std.specs.Prelude.{Some}
use Rattle.std.specs.List.{list_any}
use Rattle.board_specs.specs.declared.spec.BoardSpec.{BoardSpec}
use Rattle.script_steps.specs.declared.operation.Step.{Step}
use Rattle.transcript.specs.declared.line.BoardLine.{BoardLine}
use Rattle.transcript.specs.declared.line.BoardLine.TheVariants.{Live, Silent, Down}
use Rattle.transcript_reader.specs.declared.shown.Shown.{Shown}
use Rattle.transcript_reader.specs.Entries.{clients_from}
use Rattle.run_audit.specs.AskedLines.{ShownPiece, asked_lines, pieces_shown}

-- how many different numbers a list has
abbrev pub distinct : List ℕ → ℕ
distinct [] = 0
distinct (n ∷ ns) = if list_any (eqb n) ns then distinct ns else distinct ns + 1

-- the line of a live board counts other places than are shown, or what became of them is another number
abbrev pub IsMiscounted : List ShownPiece → BoardLine → Type 0
IsMiscounted pieces (Live name sent replied timed_out lost) =
    (distinct (map (λ (piece : ShownPiece). piece.place) pieces) ≢ sent) ⊎ (sent ≢ replied + timed_out + lost)
IsMiscounted pieces (Silent name) = ⊥
IsMiscounted pieces (Down name) = ⊥

-- the board of this line
pub record IsMiscountedAt (boards : List BoardSpec) (scripts : List (List Step)) (shown : Shown) (line : ℕ) : Type 0
  where
    pub board : ℕ
    pub told : BoardLine
    pub there : slice_get shown.boards board ≡ Some told
    pub here : line ≡ length (clients_from 1 scripts) + board + 1
    pub miscounted : IsMiscounted (pieces_shown boards scripts board (asked_lines scripts shown)) told
