-- The first line at which a text is no transcript of a session. Profile.
use Rattle.std.specs.Prelude.{◌≡◌, ◌⊎◌, ℕ, ◌+◌, ◌<◌, List, length, slice_get, Some}
use Rattle.board_specs.specs.declared.spec.BoardSpec.{BoardSpec}
use Rattle.script_steps.specs.declared.operation.Step.{Step}
use Rattle.transcript_reader.specs.declared.shown.Unshown.{Unshown}
use Rattle.transcript_reader.specs.declared.shown.Unshown.TheVariants.{At, NoMemory}
use Rattle.transcript_reader.specs.Entries.{Entry, MayStand, entries, lines_of, told_boards}

-- the text has a line at a position, from 0, and it may stand there
pub record IsRightAt (boards : List BoardSpec) (scripts : List (List Step)) (lines : List (List ℕ)) (at : ℕ) : Type 0
  where
    pub entry : Entry
    pub line : List ℕ
    pub expected : slice_get (entries boards scripts) at ≡ Some entry
    pub there : slice_get lines at ≡ Some line
    pub stands : MayStand boards (told_boards boards scripts lines) entry line

-- Line `line`, from 1, is the first that is at fault: one that may not stand there, one that is missing, or one that is
-- left over.
pub record IsFaultAt (boards : List BoardSpec) (scripts : List (List Step)) (text : List ℕ) (line : ℕ) : Type 0 where
  pub at : ℕ
  pub counted : line ≡ at + 1
  pub before : (i : ℕ) → i < at → IsRightAt boards scripts (lines_of text) i
  pub within : (at < length (entries boards scripts)) ⊎ (at < length (lines_of text))
  pub wrong : ¬ IsRightAt boards scripts (lines_of text) at

-- a line is told that is the first at fault, or memory ran out
abbrev pub IsUnshown : List BoardSpec → List (List Step) → List ℕ → Unshown → Type 0
IsUnshown boards scripts text (At line) = IsFaultAt boards scripts text line
IsUnshown boards scripts text NoMemory = Unit {0}
