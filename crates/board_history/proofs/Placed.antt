-- Runs of a session are planned, have an order on each board, and names of their own.
use Rattle.std.proofs.Common.{◌≡◌, ℕ, zero, suc, ◌+◌, ◌<◌, List, [], ◌∷◌, length, get_or, sym, ◌∙◌, arith}
use Rattle.std.specs.List.{AllByRecursion}
use Rattle.board_specs.specs.declared.spec.BoardSpec.{BoardSpec}
use Rattle.script_steps.specs.declared.operation.Step.{Step}
use Rattle.script_lang.specs.OwnNames as boards
use Rattle.script_plans.specs.declared.board_run.BoardRun.{BoardRun}
use Rattle.script_plans.specs.Runs.{ArePlanned, HaveOwnNames}
use Rattle.board_history.specs.History.{IsOrdered}
use Rattle.board_history.specs.Runs.{AreRuns}

pub are_planned : (board : ℕ) (specs : List BoardSpec) (scripts : List (List Step)) (runs : List BoardRun)
    → AreRuns board specs scripts runs → ArePlanned board scripts runs
are_planned board [] scripts [] is = tt
are_planned board [] scripts (run ∷ runs) is = absurd is
are_planned board (spec ∷ specs) scripts [] is = absurd is
are_planned board (spec ∷ specs) scripts (run ∷ runs) is =
    (is.0.plans, are_planned (board + 1) specs scripts runs is.1)

pub are_ordered : (board : ℕ) (specs : List BoardSpec) (scripts : List (List Step)) (runs : List BoardRun)
    → AreRuns board specs scripts runs → AllByRecursion IsOrdered runs
are_ordered board [] scripts [] is = tt
are_ordered board [] scripts (run ∷ runs) is = absurd is
are_ordered board (spec ∷ specs) scripts [] is = absurd is
are_ordered board (spec ∷ specs) scripts (run ∷ runs) is = (
  record { shape = is.0.history.shape; one_order = is.0.history.one_order },
  are_ordered (board + 1) specs scripts runs is.1,
)

-- a run has the name of its board
name_at : (board : ℕ) (specs : List BoardSpec) (scripts : List (List Step)) (runs : List BoardRun)
    → AreRuns board specs scripts runs → (k : ℕ) (d : BoardRun) (e : BoardSpec) → k < length runs
    → (k < length specs) × ((get_or runs k d).name ≡ (get_or specs k e).name)
name_at board [] scripts [] is k d e within = absurd (omega arith)
name_at board [] scripts (run ∷ runs) is k d e within = absurd is
name_at board (spec ∷ specs) scripts [] is k d e within = absurd is
name_at board (spec ∷ specs) scripts (run ∷ runs) is zero d e within = (omega arith, is.0.name)
name_at board (spec ∷ specs) scripts (run ∷ runs) is (suc k) d e within =
    let later = name_at (board + 1) specs scripts runs is.1 k d e (omega arith) in
    (omega (arith, later.0), later.1)

pub own_names : (board : ℕ) (specs : List BoardSpec) (scripts : List (List Step)) (runs : List BoardRun)
    → AreRuns board specs scripts runs → boards.HaveOwnNames specs → HaveOwnNames runs
own_names board [] scripts [] is own i j d less within = absurd (omega arith)
own_names board [] scripts (run ∷ runs) is own i j d less within = absurd is
own_names board (spec ∷ specs) scripts runs is own i j d less within =
    let one = name_at board (spec ∷ specs) scripts runs is i d spec (omega arith) in
    let other = name_at board (spec ∷ specs) scripts runs is j d spec within in
    λ same. own i j spec less other.0 (sym one.1 ∙ same ∙ other.1)
