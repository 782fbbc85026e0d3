-- What became of a board whose clients ran on its lane.
use Rattle.std.proofs.Common.{◌≡◌, ℕ, ◌∙◌, List, map, Option, Some, None}
use Rattle.std.proofs.Common.{sym, ap, subst}
use Rattle.std.specs.Prelude.{IfSome}
use Rattle.std.specs.Option.{IsSomeAnd}
use Rattle.ipb_base.specs.Numbers.{payload_of}
use Rattle.links.specs.Telling.{Telling}
use Rattle.world_model.specs.Settings.{Limits}
use Rattle.board_specs.specs.declared.spec.BoardSpec.{BoardSpec}
use Rattle.script_steps.specs.declared.operation.Step.{Step}
use Rattle.script_plans.specs.declared.board_run.ClientPart.{ClientPart}
use Rattle.script_plans.specs.declared.board_run.BoardRun.{BoardRun}
use Rattle.script_plans.specs.declared.greeting.Greeting.{Greeting}
use Rattle.script_plans.specs.declared.greeting.Greeting.TheVariants.{Live}
use Rattle.script_plans.specs.Plan.{plans_on}
use Rattle.board_history.specs.History.{lates_by_client, outcomes_by_client}
use Rattle.board_history.specs.Lates.{lates_of}
use Rattle.board_history.specs.LinkRuns.{ShowsScripts}
use Rattle.board_history.proofs.LaneShown.{at_some}
use Rattle.hub_lane.specs.Lanes.{LaneState}
use Rattle.board_greeting.specs.Boards.{IsLaneTo}
use Rattle.session_run.specs.Boards.{IsNamed}
use Rattle.session_run.specs.Lanes.{IsRunOn, IsStoppedLane}
use Rattle.session_run.specs.Parts.{with_lates}
use Rattle.session_run.proofs.LaneRuns.{shows_scripts}
use Rattle.session_run.proofs.LateAnswers.{lates_are, still_ran}

pub stopped_at : {L : Type 0} (settings : Limits) (scripts : List (List Step)) (position : ℕ) (spec : BoardSpec)
    (lane : LaneState L) (told : Option Telling) → IsStoppedLane settings scripts position spec told lane
    → IsLaneTo settings spec told lane
stopped_at settings scripts position spec lane told stopped =
    record { settings' = stopped.settings'; board' = stopped.board' }

-- the run of a lane's clients, by its name and its parts
pub record RunsLive {L : Type 0} (spec : BoardSpec) (board : ℕ) (scripts : List (List Step)) (lane : LaneState L)
    (run : BoardRun) : Type 0 where
  pub scripts' : ShowsScripts spec board scripts run
  pub greeting' : run.greeting ≡ Live (payload_of lane.status.mtu)
  pub ran : IsRunOn scripts board lane run.parts
  pub lates' : lates_by_client run ≡ map (lates_of lane.lates) (outcomes_by_client run)

-- the parts of a lane's clients, with what came late
abbrev pub AreWhole : {L : Type 0} → LaneState L → Option (List ClientPart) → List ClientPart → Type 0
AreWhole lane parts whole =
    IsSomeAnd parts (λ (old : List ClientPart). whole ≡ map (with_lates lane.lates) old)

whole_ran : {L : Type 0} (scripts : List (List Step)) (board : ℕ) (lane : LaneState L)
    (parts : Option (List ClientPart)) (whole : List ClientPart)
    → IfSome parts (λ (there : List ClientPart). IsRunOn scripts board lane there) → AreWhole lane parts whole
    → IsRunOn scripts board lane whole
whole_ran scripts board lane None whole ran are = absurd are
whole_ran scripts board lane (Some old) whole ran are =
    subst (λ (ps : List ClientPart). IsRunOn scripts board lane ps) (sym are)
    (still_ran lane.lates scripts board lane old ran)

whole_lates : {L : Type 0} (lane : LaneState L) (parts : Option (List ClientPart)) (whole : List ClientPart)
    → AreWhole lane parts whole → map (λ (p : ClientPart). p.lates) whole
    ≡ map (lates_of lane.lates) (map (λ (p : ClientPart). p.outcomes) whole)
whole_lates lane None whole are = absurd are
whole_lates lane (Some old) whole are =
    subst (λ (ps : List ClientPart). map (λ (p : ClientPart). p.lates) ps
    ≡ map (lates_of lane.lates) (map (λ (p : ClientPart). p.outcomes) ps)) (sym are) (lates_are lane.lates old)

pub runs_live : {L : Type 0} (spec : BoardSpec) (board payload : ℕ) (scripts : List (List Step)) (lane : LaneState L)
    (parts whole : Option (List ClientPart)) (run : BoardRun) → payload ≡ payload_of lane.status.mtu
    → IfSome parts (λ (there : List ClientPart). IsRunOn scripts board lane there)
    → IfSome whole (AreWhole lane parts) → IsNamed spec (Live payload) whole run
    → RunsLive spec board scripts lane run
runs_live {L} spec board payload scripts lane parts whole run same ran are named =
    let greeting = named.greeting' ∙ ap Live same in
    let here = at_some (AreWhole lane parts) whole run.parts named.parts' are in
    let alone = whole_ran scripts board lane parts run.parts ran here in
    record {
      scripts' = shows_scripts spec board scripts run named.name'
          (alone.planned ∙ ap (λ (told : Greeting). plans_on board told scripts) (sym greeting)) alone.whole;
      greeting' = greeting;
      ran = alone;
      lates' = whole_lates lane parts run.parts here;
    }
