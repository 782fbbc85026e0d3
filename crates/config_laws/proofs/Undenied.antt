-- Where all was done, nothing was denied.
use Rattle.std.proofs.Common.{◌≡◌, ℕ, suc, ◌+◌, ◌<◌, List, [], ◌∷◌, length, map, Option, Some, None, inl, inr, refl, ap}
use Rattle.std.proofs.Common.{◌∙◌, subst}
use Rattle.std.specs.List.{AllByRecursion}
use Rattle.ipb_base.proofs.AllLemmas.{all-map}
use Rattle.access_policy.specs.Decisions.{decisions, names_of, ruled_from, ruled_scripts}
use Rattle.access_policy.specs.declared.policy.Rule.{Rule}
use Rattle.board_specs.specs.declared.spec.BoardSpec.{BoardSpec}
use Rattle.world_model.specs.Settings.{Limits}
use Rattle.script_steps.specs.Rulings.{Asked, asked_operations, steps_under_policy}
use Rattle.script_steps.specs.declared.operation.Decision.{Decision}
use Rattle.script_steps.specs.declared.operation.Decision.TheVariants as decision
use Rattle.script_steps.specs.declared.operation.Step.{Step}
use Rattle.script_steps.specs.declared.operation.Step.TheVariants.{Do, Denied, Dispatch}
use Rattle.script_lang.specs.OnBoards.{StepsAreOn}
use Rattle.script_plans.specs.declared.board_run.BoardRun.{BoardRun}
use Rattle.transcript.specs.declared.line.OpLine.{OpLine}
use Rattle.transcript.specs.declared.line.OpResult.{OpResult}
use Rattle.transcript.specs.Claims.{AreOnBoards, IsDone, IsDoneResult, rule_in, rules_of, rules_shown}
use Rattle.transcript.specs.Lines.{lines_from}
use Rattle.board_history.specs.Links.{LinkReport}
use Rattle.board_history.specs.LinkRuns.{AreRunsOver}

abbrev IsNone : Option ℕ → Type 0
IsNone found = found ≡ None

abbrev AreNone : List (Option ℕ) → Type 0
AreNone found = AllByRecursion IsNone found

-- ---- what good lines show

no_rule : (r : OpResult) → IsDoneResult r → rule_in r ≡ None
no_rule r (inl (words, is)) = ap rule_in is
no_rule r (inr (inl is)) = ap rule_in is
no_rule r (inr (inr (word, is))) = ap rule_in is

no_rules : (lines : List OpLine) → AllByRecursion IsDone lines → AreNone (rules_shown lines)
no_rules [] done = tt
no_rules (line ∷ lines) done = (no_rule line.result done.0, no_rules lines done.1)

none_shown : (clients : List (List OpLine)) → AllByRecursion (AllByRecursion IsDone) clients
    → AllByRecursion AreNone (map rules_shown clients)
none_shown [] done = tt
none_shown (lines ∷ clients) done = (no_rules lines done.0, none_shown clients done.1)

-- ---- steps under a policy

none_denied : (steps : List Step) (said : List Decision) → AreNone (rules_of (steps_under_policy steps said)) → steps_under_policy steps said ≡ steps
none_denied [] said none = refl
none_denied (step ∷ steps) [] none = refl
none_denied (Do op ∷ steps) (decision.Allowed ∷ said) none =
    ap (λ (rest : List Step). Do op ∷ rest) (none_denied steps said none.1)
none_denied (Do op ∷ steps) (decision.Denied rule ∷ said) none = let bad : Some rule ≡ None = none.0 in absurd cc
none_denied (Denied rule op ∷ steps) (d ∷ said) none = let bad : Some rule ≡ None = none.0 in absurd cc
none_denied (Dispatch ∷ steps) (d ∷ said) none =
    ap (λ (rest : List Step). Dispatch ∷ rest) (none_denied steps said none)

scripts_undenied : (policy : List Rule) (names : List (List ℕ)) (client : ℕ) (scripts : List (List Step))
    → AllByRecursion AreNone (map rules_of (ruled_from policy names client scripts))
    → ruled_from policy names client scripts ≡ scripts
scripts_undenied policy names client [] none = refl
scripts_undenied policy names client (steps ∷ scripts) none =
    ap (λ (first : List Step). first ∷ ruled_from policy names (client + 1) scripts)
    (none_denied steps (decisions policy client names steps) none.0)
    ∙ ap (λ (rest : List (List Step)). steps ∷ rest) (scripts_undenied policy names (client + 1) scripts none.1)

undenied : (policy : Option (List Rule)) (names : List (List ℕ)) (scripts : List (List Step))
    → AllByRecursion AreNone (map rules_of (ruled_scripts policy names scripts))
    → ruled_scripts policy names scripts ≡ scripts
undenied None names scripts none = refl
undenied (Some policy) names scripts none = scripts_undenied policy names 1 scripts none

-- ---- the boards of the operations

abbrev IsBelow : ℕ → Asked → Type 0
IsBelow most ask = ask.op.board < most

steps_on : (most : ℕ) (steps : List Step) → StepsAreOn most steps → AllByRecursion (IsBelow most) (asked_operations steps)
steps_on most [] on = tt
steps_on most (Do op ∷ steps) on = (on.0, steps_on most steps on.1)
steps_on most (Denied rule op ∷ steps) on = (on.0, steps_on most steps on.1)
steps_on most (Dispatch ∷ steps) on = steps_on most steps on.1

ruled_on : (most : ℕ) (steps : List Step) (said : List Decision) → StepsAreOn most steps
    → AllByRecursion (IsBelow most) (asked_operations (steps_under_policy steps said))
ruled_on most [] said on = tt
ruled_on most (step ∷ steps) [] on = steps_on most (step ∷ steps) on
ruled_on most (Do op ∷ steps) (decision.Allowed ∷ said) on = (on.0, ruled_on most steps said on.1)
ruled_on most (Do op ∷ steps) (decision.Denied rule ∷ said) on = (on.0, ruled_on most steps said on.1)
ruled_on most (Denied rule op ∷ steps) (d ∷ said) on = (on.0, ruled_on most steps said on.1)
ruled_on most (Dispatch ∷ steps) (d ∷ said) on = ruled_on most steps said on.1

abbrev AreBelow : ℕ → List Step → Type 0
AreBelow most steps = AllByRecursion (IsBelow most) (asked_operations steps)

scripts_on : (most : ℕ) (policy : List Rule) (names : List (List ℕ)) (client : ℕ) (scripts : List (List Step))
    → AllByRecursion (StepsAreOn most) scripts
    → AllByRecursion (AreBelow most) (ruled_from policy names client scripts)
scripts_on most policy names client [] on = tt
scripts_on most policy names client (steps ∷ scripts) on =
    (ruled_on most steps (decisions policy client names steps) on.0, scripts_on most policy names (client + 1) scripts on.1)

all_on : (most : ℕ) (policy : Option (List Rule)) (names : List (List ℕ)) (scripts : List (List Step))
    → AllByRecursion (StepsAreOn most) scripts → AllByRecursion (AreBelow most) (ruled_scripts policy names scripts)
all_on most None names scripts on = all-map (StepsAreOn most) (AreBelow most) scripts (steps_on most) on
all_on most (Some policy) names scripts on = scripts_on most policy names 1 scripts on

pub as_many_runs : (settings : Limits) (first : ℕ) (specs : List BoardSpec) (scripts : List (List Step))
    (runs : List BoardRun) (links : List LinkReport) → AreRunsOver settings first specs scripts runs links
    → length specs ≡ length runs
as_many_runs settings first [] scripts [] links is = refl
as_many_runs settings first [] scripts (r ∷ runs) links is = absurd is
as_many_runs settings first (s ∷ specs) scripts [] links is = absurd is
as_many_runs settings first (s ∷ specs) scripts (r ∷ runs) [] is = absurd is
as_many_runs settings first (s ∷ specs) scripts (r ∷ runs) (l ∷ links) is =
    ap suc (as_many_runs settings (first + 1) specs scripts runs links is.1)

abbrev pub TellsRules : Type 0
TellsRules = (scripts : List (List Step)) (runs : List BoardRun) → AllByRecursion (AreOnBoards runs) scripts
    → map rules_shown (lines_from runs 0 scripts) ≡ map rules_of scripts

pub nothing_denied : TellsRules → (settings : Limits) (specs : List BoardSpec) (policy : Option (List Rule))
    (scripts : List (List Step)) (runs : List BoardRun) (links : List LinkReport)
    → AllByRecursion (StepsAreOn (length specs)) scripts
    → AreRunsOver settings 0 specs (ruled_scripts policy (names_of specs) scripts) runs links
    → AllByRecursion (AllByRecursion IsDone) (lines_from runs 0 (ruled_scripts policy (names_of specs) scripts))
    → ruled_scripts policy (names_of specs) scripts ≡ scripts
nothing_denied tells settings specs policy scripts runs links on is done =
    let permitted = ruled_scripts policy (names_of specs) scripts in
    let count = as_many_runs settings 0 specs permitted runs links is in
    let boards : AllByRecursion (AreOnBoards runs) permitted =
    subst (λ n. AllByRecursion (AreBelow n) permitted) count (all_on (length specs) policy (names_of specs) scripts on) in
    undenied policy (names_of specs) scripts
    (subst (AllByRecursion AreNone) (tells permitted runs boards) (none_shown (lines_from runs 0 permitted) done))
