-- The run of a board that was asked nothing.
use Rattle.std.proofs.Common.{◌≡◌, ℕ, ◌∙◌, List, [], ◌∷◌, length, map, Option, Some, None, refl, sym, ap, subst}
use Rattle.std.specs.Prelude.{IfOk, IfSome, Result, Ok, Err}
use Rattle.std.specs.List.{AllByRecursion}
use Rattle.ipb_base.proofs.AllLemmas.{all-map}
use Rattle.links.specs.Telling.{Telling}
use Rattle.world_model.specs.Settings.{Limits}
use Rattle.board_specs.specs.declared.spec.BoardSpec.{BoardSpec}
use Rattle.lane_record.specs.declared.outcome.Outcome.{Outcome}
use Rattle.script_steps.specs.declared.operation.Step.{Step}
use Rattle.script_plans.specs.declared.board_run.ClientPart.{ClientPart}
use Rattle.script_plans.specs.declared.board_run.BoardRun.{BoardRun}
use Rattle.script_plans.specs.declared.greeting.Greeting.{Greeting}
use Rattle.script_plans.specs.declared.greeting.Greeting.TheVariants.{Live, Silent, Down}
use Rattle.script_plans.specs.Plan.{plans_on}
use Rattle.board_history.specs.Lates.{AreLateExactly, AreLateOnlyIfTimedOut}
use Rattle.board_history.specs.Links.{LinkReport}
use Rattle.board_history.specs.LinkRuns.{IsAsTold, IsRunOver, ShowsLates, ShowsScripts}
use Rattle.board_greeting.specs.Boards.{IsIdleAs, IsIdleBoard}
use Rattle.session_run.proofs.DispatchParts.{plan_in_part}

-- a client that asked nothing
pub record HasNothing (part : ClientPart) : Type 0 where
  pub no_bodies : part.planned.bodies ≡ []
  pub no_outcomes : part.outcomes ≡ []
  pub no_lates : part.lates ≡ []

idle_shape : (parts : List ClientPart) → AllByRecursion HasNothing parts
    → map (λ (l : List Outcome). length l) (map (λ (p : ClientPart). p.outcomes) parts)
    ≡ map (λ (b : List (List ℕ)). length b) (map (λ (p : ClientPart). p.planned.bodies) parts)
idle_shape [] none = refl
idle_shape (p ∷ parts) none =
    ap (λ (n : ℕ). n ∷ map (λ (l : List Outcome). length l) (map (λ (q : ClientPart). q.outcomes) parts))
    (ap (λ (l : List Outcome). length l) none.0.no_outcomes
    ∙ sym (ap (λ (l : List (List ℕ)). length l) none.0.no_bodies))
    ∙ ap (λ (l : List ℕ). length p.planned.bodies ∷ l) (idle_shape parts none.1)

pub idle_shows : (spec : BoardSpec) (board : ℕ) (told : Greeting) (scripts : List (List Step)) (run : BoardRun)
    → run.name ≡ spec.name → run.greeting ≡ told → map plan_in_part run.parts ≡ plans_on board told scripts
    → AllByRecursion HasNothing run.parts → ShowsScripts spec board scripts run
idle_shows spec board told scripts run name greeting planned none = record {
  name = name;
  plans = planned ∙ ap (λ (t : Greeting). plans_on board t scripts) (sym greeting);
  shape = idle_shape run.parts none;
}

-- ---- nothing came late

none_exactly : (t : Telling) (part : ClientPart) → HasNothing part → AreLateExactly t part.outcomes part.lates
none_exactly t part none = subst (λ (os : List Outcome). AreLateExactly t os part.lates) (sym none.no_outcomes)
    (λ k place rounds at. absurd cc)

none_late : (part : ClientPart) → HasNothing part → AreLateOnlyIfTimedOut part.outcomes part.lates
none_late part none = subst (AreLateOnlyIfTimedOut part.outcomes) (sym none.no_lates)
    (record { timed_out = tt; no_list = λ _. refl })

on_telling : (telling : Option Telling) (P : Telling → Type 0) → ((t : Telling) → P t) → IfSome telling P
on_telling None P f = tt
on_telling (Some t) P f = f t

pub idle_lates : (run : BoardRun) → AllByRecursion HasNothing run.parts → (link : LinkReport) → ShowsLates run link
idle_lates run none link = record {
  timed_out = all-map HasNothing (λ (p : ClientPart). AreLateOnlyIfTimedOut p.outcomes p.lates) run.parts none_late none;
  exactly = on_telling link.telling
      (λ t. AllByRecursion (λ (p : ClientPart). AreLateExactly t p.outcomes p.lates) run.parts)
      (λ t. all-map HasNothing (λ (p : ClientPart). AreLateExactly t p.outcomes p.lates) run.parts (none_exactly t)
      none);
}

-- ---- a board that was not live

as_idle : (settings : Limits) (spec : BoardSpec) (run : BoardRun) (link : LinkReport) (told : Greeting)
    → IsIdleAs settings told link → IsAsTold settings spec run link told
as_idle settings spec run link (Live payload) is = absurd is
as_idle settings spec run link Silent is = is
as_idle settings spec run link Down is = is

pub idle_over : (settings : Limits) (spec : BoardSpec) (board : ℕ) (scripts : List (List Step)) (run : BoardRun)
    (link : LinkReport) (told : Greeting) → IsIdleBoard settings spec told link → ShowsScripts spec board scripts run
    → run.greeting ≡ told → ShowsLates run link → IsRunOver settings spec board scripts run link
idle_over settings spec board scripts run link told idle shows greeted lates = record {
  scripts' = shows;
  board' = idle.fresh.board';
  as_told = subst (IsAsTold settings spec run link) (sym greeted) (as_idle settings spec run link told idle.as_told);
  lates = lates;
  each_late = λ payload live.
      absurd (subst (λ (g : Greeting). IsIdleAs settings g link) (sym greeted ∙ live) idle.as_told);
}

-- what three facts tell of a result
pub of_three : {X E : Type 0} (r : Result X E) (P Q R S : X → Type 0) → ((x : X) → P x → Q x → R x → S x)
    → IfOk r P → IfOk r Q → IfOk r R → IfOk r S
of_three (Ok x) P Q R S leads p q r = leads x p q r
of_three (Err e) P Q R S leads p q r = tt
