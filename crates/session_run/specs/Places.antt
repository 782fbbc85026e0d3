-- What came of each board of a session. What private functions promise one another; no public clause speaks of these.
use Rattle.std.specs.Prelude.{ℕ, ◌+◌, List, [], ◌∷◌, Option, Some, None, IfSome}
use Rattle.world_model.specs.Settings.{Limits}
use Rattle.board_specs.specs.declared.spec.BoardSpec.{BoardSpec}
use Rattle.script_steps.specs.declared.operation.Step.{Step}
use Rattle.script_plans.specs.declared.board_run.ClientPart.{ClientPart}
use Rattle.script_plans.specs.declared.greeting.Greeting.TheVariants as greeting
use Rattle.board_history.specs.Links.{LinkReport}
use Rattle.board_greeting.specs.Boards.{IsIdleBoard}
use Rattle.board_greeting.specs.declared.standing.Standing.{Standing}
use Rattle.board_greeting.specs.declared.standing.Standing.TheVariants.{Live, AtHub, Silent, Down}
use Rattle.session_run.specs.Lanes.{IsRunOn, IsStoppedLane}

-- the parts of a live board are the next ones, if there are any; and those of the boards behind it
abbrev pub parts_at : {L P : Type 0} → Standing L → List P → Option P
parts_at (Live lane) [] = None
parts_at (Live lane) (p ∷ parts) = Some p
parts_at AtHub parts = None
parts_at (Silent link) parts = None
parts_at (Down link) parts = None

abbrev pub parts_after : {L P : Type 0} → Standing L → List P → List P
parts_after (Live lane) [] = []
parts_after (Live lane) (p ∷ parts) = parts
parts_after AtHub parts = parts
parts_after (Silent link) parts = parts
parts_after (Down link) parts = parts

-- what its clients left if they ran to the end
abbrev pub IsCameOf : {L : Type 0} → (L → LinkReport) → Limits → List (List Step) → ℕ → BoardSpec → Standing L
    → Option (List ClientPart) → Type 0
IsCameOf shows settings scripts position spec (Live lane) parts =
    IsStoppedLane settings scripts position spec (shows lane.link).telling lane
    × IfSome parts (λ there. IsRunOn scripts position lane there)
IsCameOf shows settings scripts position spec AtHub parts = ⊥
IsCameOf shows settings scripts position spec (Silent link) parts =
    IsIdleBoard settings spec greeting.Silent (shows link)
IsCameOf shows settings scripts position spec (Down link) parts = IsIdleBoard settings spec greeting.Down (shows link)

-- the same of each board, the first of which has this position
abbrev pub AreCameOf : {L : Type 0} → (L → LinkReport) → Limits → List (List Step) → ℕ → List BoardSpec
    → List (Standing L) → List (List ClientPart) → Type 0
AreCameOf shows settings scripts position [] [] parts = Unit {0}
AreCameOf shows settings scripts position [] (one ∷ boards) parts = ⊥
AreCameOf shows settings scripts position (spec ∷ specs) [] parts = ⊥
AreCameOf shows settings scripts position (spec ∷ specs) (one ∷ boards) parts =
    IsCameOf shows settings scripts position spec one (parts_at one parts)
    × AreCameOf shows settings scripts (position + 1) specs boards (parts_after one parts)
