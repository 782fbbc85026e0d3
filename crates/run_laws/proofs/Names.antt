-- Runs over links have the names of their boards, and there is one for each.
use Rattle.std.proofs.Common.{◌≡◌, ℕ, zero, suc, ◌+◌, ◌<◌, List, [], ◌∷◌, length, get_or, sym, ap, refl, subst, ◌∙◌, arith}
use Rattle.board_specs.specs.declared.spec.BoardSpec.{BoardSpec}
use Rattle.world_model.specs.Settings.{Limits}
use Rattle.script_steps.specs.declared.operation.Step.{Step}
use Rattle.script_lang.specs.OwnNames as boards
use Rattle.script_plans.specs.declared.board_run.BoardRun.{BoardRun}
use Rattle.script_plans.specs.Runs.{HaveOwnNames}
use Rattle.board_history.specs.Links.{LinkReport}
use Rattle.board_history.specs.LinkRuns.{AreRunsOver}
use Rattle.session_input.specs.Deserved as input
use Rattle.std.specs.List.{AllByRecursion}
use Rattle.transcript.specs.Claims.{AreOnBoards}

name_at : (settings : Limits) (board : ℕ) (specs : List BoardSpec) (scripts : List (List Step)) (runs : List BoardRun)
    (links : List LinkReport) → AreRunsOver settings board specs scripts runs links
    → (k : ℕ) (d : BoardRun) (e : BoardSpec)
    → k < length runs → (k < length specs) × ((get_or runs k d).name ≡ (get_or specs k e).name)
name_at settings board specs scripts [] links is k d e within = absurd (omega arith)
name_at settings board [] scripts (run ∷ runs) links is k d e within = absurd is
name_at settings board (spec ∷ specs) scripts (run ∷ runs) [] is k d e within = absurd is
name_at settings board (spec ∷ specs) scripts (run ∷ runs) (link ∷ links) is zero d e within =
    (omega arith, is.0.scripts'.name)
name_at settings board (spec ∷ specs) scripts (run ∷ runs) (link ∷ links) is (suc k) d e within =
    let later = name_at settings (board + 1) specs scripts runs links is.1 k d e (omega arith) in
    (omega (arith, later.0), later.1)

pub own_names : (settings : Limits) (board : ℕ) (specs : List BoardSpec) (scripts : List (List Step))
    (runs : List BoardRun) (links : List LinkReport) → AreRunsOver settings board specs scripts runs links
    → boards.HaveOwnNames specs → HaveOwnNames runs
own_names settings board [] scripts [] links is own i j d less within = absurd (omega arith)
own_names settings board [] scripts (run ∷ runs) links is own i j d less within = absurd is
own_names settings board (spec ∷ specs) scripts runs links is own i j d less within =
    let one = name_at settings board (spec ∷ specs) scripts runs links is i d spec (omega arith) in
    let other = name_at settings board (spec ∷ specs) scripts runs links is j d spec within in
    λ same. own i j spec less other.0 (sym one.1 ∙ same ∙ other.1)

pub runs_of_boards : (settings : Limits) (board : ℕ) (specs : List BoardSpec) (scripts : List (List Step))
    (runs : List BoardRun) (links : List LinkReport) → AreRunsOver settings board specs scripts runs links
    → length specs ≡ length runs
runs_of_boards settings board [] scripts [] [] is = refl
runs_of_boards settings board [] scripts [] (link ∷ links) is = absurd is
runs_of_boards settings board [] scripts (run ∷ runs) links is = absurd is
runs_of_boards settings board (spec ∷ specs) scripts [] links is = absurd is
runs_of_boards settings board (spec ∷ specs) scripts (run ∷ runs) [] is = absurd is
runs_of_boards settings board (spec ∷ specs) scripts (run ∷ runs) (link ∷ links) is =
    ap suc (runs_of_boards settings (board + 1) specs scripts runs links is.1)

-- operations on the boards of a session are on those of its runs
pub on_these : (specs : List BoardSpec) (runs : List BoardRun) → length specs ≡ length runs
    → (scripts : List (List Step)) → AllByRecursion (input.AreOnBoards (length specs)) scripts
    → AllByRecursion (AreOnBoards runs) scripts
on_these specs runs many scripts on =
    subst (λ boards. AllByRecursion (input.AreOnBoards boards) scripts) many on
