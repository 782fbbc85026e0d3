-- WHETHER A TRANSCRIPT FITS A SESSION, and else the first rule that it breaks, at its first line. Profile.
use Rattle.std.specs.Prelude.{ℕ, ◌+◌, ◌<◌, ◌^◌, List, length}
use Rattle.std.specs.List.{AllByRecursion}
use Rattle.script_steps.specs.declared.operation.Step.{Step}
use Rattle.script_steps.specs.Executable.{AreExecutable}
use Rattle.script_steps.specs.Packing.{CanBePacked, HaveFewPieces}
use Rattle.script_lang.specs.declared.session.Session.{Session}
use Rattle.transcript_reader.specs.declared.shown.Shown.{Shown}
use Rattle.transcript_reader.specs.Entries.{IsHere, entries}
use Rattle.transcript_reader.specs.Faults.{IsFaultAt}
use Rattle.transcript_reader.specs.Shown.{IsShownBy}
use Rattle.run_audit.specs.declared.verdict.AuditWhy.{AuditWhy}
use Rattle.run_audit.specs.declared.verdict.AuditWhy.TheVariants.{Form, Partial, Place, Result, Count}
use Rattle.run_audit.specs.declared.verdict.Verdict.{Verdict}
use Rattle.run_audit.specs.declared.verdict.Verdict.TheVariants.{Yes, No}
use Rattle.run_audit.specs.Counts.{IsMiscountedAt}
use Rattle.run_audit.specs.Places.{IsMisplacedAt, IsPartialAt}
use Rattle.run_audit.specs.Results.{IsWrongAt}

-- What a text shows breaks this rule at this line. A text that shows something is a transcript, so its form is right.
abbrev pub Breaks : AuditWhy → Session → List (List Step) → Shown → ℕ → Type 0
Breaks Form session scripts shown line = ⊥
Breaks Partial session scripts shown line = IsPartialAt session.boards scripts shown line
Breaks Place session scripts shown line = IsMisplacedAt session.boards scripts shown line
Breaks Result session scripts shown line =
    IsWrongAt session.settings.rounds session.boards scripts shown line
Breaks Count session scripts shown line = IsMiscountedAt session.boards scripts shown line

-- THE TRANSCRIPT FITS: it is one of this session, each operation shows all of its places or none, and what the lines
-- show could have come of one order of bodies on each board.
pub record Fits (session : Session) (scripts : List (List Step)) (text : List ℕ) : Type 0 where
  pub shown : Shown
  pub is_shown : IsShownBy session.boards scripts text shown
  pub whole : (why : AuditWhy) (line : ℕ) → ¬ Breaks why session scripts shown line

-- the number of a rule
abbrev pub rule_number : AuditWhy → ℕ
rule_number Form = 1
rule_number Partial = 2
rule_number Place = 3
rule_number Result = 4
rule_number Count = 5

-- What the text shows breaks this rule at this line, not before it, and no rule of a lower number.
pub record BreaksFirst (session : Session) (scripts : List (List Step)) (text : List ℕ) (line : ℕ) (why : AuditWhy)
    : Type 0 where
  pub shown : Shown
  pub is_shown : IsShownBy session.boards scripts text shown
  pub broken : Breaks why session scripts shown line
  pub first : (earlier : ℕ) → earlier < line → ¬ Breaks why session scripts shown earlier
  pub lowest : (other : AuditWhy) (at : ℕ) → rule_number other < rule_number why → ¬ Breaks other session scripts shown at

-- The text is no transcript of the session at this line, or it is one and breaks this rule first.
abbrev pub IsBrokenAt : Session → List (List Step) → List ℕ → ℕ → AuditWhy → Type 0
IsBrokenAt session scripts text line Form = IsFaultAt session.boards scripts text line
IsBrokenAt session scripts text line Partial = BreaksFirst session scripts text line Partial
IsBrokenAt session scripts text line Place = BreaksFirst session scripts text line Place
IsBrokenAt session scripts text line Result = BreaksFirst session scripts text line Result
IsBrokenAt session scripts text line Count = BreaksFirst session scripts text line Count

-- This is the verdict on a text.
abbrev pub IsVerdict : Session → List (List Step) → List ℕ → Verdict → Type 0
IsVerdict session scripts text Yes = Fits session scripts text
IsVerdict session scripts text (No line why) = IsBrokenAt session scripts text line why

-- What an audit rests on: boards of this process, steps that can be executed and packed, as those of every session that can
-- be run, and no more lines, denied operations included, than 32 bits count.
pub record CanBeAudited (session : Session) (scripts : List (List Step)) : Type 0 where
  pub boards' : AllByRecursion IsHere session.boards
  pub packed : AllByRecursion (AllByRecursion CanBePacked) scripts
  pub few : AllByRecursion HaveFewPieces scripts
  pub executable : AllByRecursion AreExecutable scripts
  pub lines' : length (entries session.boards scripts) + 1 < 2 ^ 32
