-- What came late on a lane, in the parts of its clients.
use Rattle.std.proofs.Common.{◌≡◌, ◌||◌, ℕ, ◌∙◌, Bool, true, false, List, [], ◌∷◌, map, Option, refl, sym, ap, subst}
use Rattle.std.specs.Prelude.{is_some}
use Rattle.std.specs.List.{AllByRecursion, list_any}
use Rattle.lane_record.specs.declared.outcome.Outcome.{Outcome}
use Rattle.script_steps.specs.declared.operation.Step.{Step}
use Rattle.script_plans.specs.declared.board_run.ClientPart.{ClientPart}
use Rattle.board_history.specs.History.{dispatches_of}
use Rattle.board_history.specs.Lates.{late_for, lates_of}
use Rattle.board_history.specs.Records.{IsClientsRecord}
use Rattle.hub_lane.specs.Lanes.{LaneState}
use Rattle.session_run.specs.Clients.{IsWholePart}
use Rattle.session_run.specs.Lanes.{IsRunOn}
use Rattle.session_run.specs.Parts.{with_lates}

-- ---- the list of a client

abbrev pub came_late : List (Option (List ℕ)) → List Outcome → Bool
came_late lates outcomes = list_any (λ (outcome : Outcome). is_some (late_for lates outcome)) outcomes

any_mapped : (lates : List (Option (List ℕ))) (outcomes : List Outcome)
    → list_any is_some (map (late_for lates) outcomes) ≡ came_late lates outcomes
any_mapped lates [] = refl
any_mapped lates (o ∷ os) = ap (λ (b : Bool). is_some (late_for lates o) || b) (any_mapped lates os)

pub some_came : (lates : List (Option (List ℕ))) (outcomes : List Outcome) → came_late lates outcomes ≡ true
    → map (late_for lates) outcomes ≡ lates_of lates outcomes
some_came lates outcomes some =
    let any : list_any is_some (map (late_for lates) outcomes) ≡ true = any_mapped lates outcomes ∙ some in rw any refl

pub none_came : (lates : List (Option (List ℕ))) (outcomes : List Outcome) → came_late lates outcomes ≡ false
    → [] ≡ lates_of lates outcomes
none_came lates outcomes none =
    let any : list_any is_some (map (late_for lates) outcomes) ≡ false = any_mapped lates outcomes ∙ none in rw any refl

-- ---- the parts of all clients

module _ (lates : List (Option (List ℕ))) where
  same_plans : (parts : List ClientPart) → map (λ (p : ClientPart). p.planned) (map (with_lates lates) parts)
      ≡ map (λ (p : ClientPart). p.planned) parts
  same_plans [] = refl
  same_plans (p ∷ parts) = ap (λ (l : List _). p.planned ∷ l) (same_plans parts)

  same_bodies : (parts : List ClientPart) → map (λ (p : ClientPart). p.planned.bodies) (map (with_lates lates) parts)
      ≡ map (λ (p : ClientPart). p.planned.bodies) parts
  same_bodies [] = refl
  same_bodies (p ∷ parts) = ap (λ (l : List _). p.planned.bodies ∷ l) (same_bodies parts)

  same_dispatches : (parts : List ClientPart) → map dispatches_of (map (with_lates lates) parts)
      ≡ map dispatches_of parts
  same_dispatches [] = refl
  same_dispatches (p ∷ parts) = ap (λ (l : List _). dispatches_of p ∷ l) (same_dispatches parts)

  still_whole : (parts : List ClientPart) → AllByRecursion IsWholePart parts
      → AllByRecursion IsWholePart (map (with_lates lates) parts)
  still_whole [] whole = tt
  still_whole (p ∷ parts) whole =
      (record { each = whole.0.each; cut = whole.0.cut }, still_whole parts whole.1)

  -- clients that ran to their end on a lane did so whatever came late
  pub still_ran : {L : Type 0} (scripts : List (List Step)) (position : ℕ) (lane : LaneState L)
      (parts : List ClientPart) → IsRunOn scripts position lane parts
      → IsRunOn scripts position lane (map (with_lates lates) parts)
  still_ran scripts position lane parts ran = record {
    planned = same_plans parts ∙ ran.planned;
    whole = still_whole parts ran.whole;
    left = subst (λ (bodies : List (List (List ℕ))).
        IsClientsRecord bodies (map dispatches_of (map (with_lates lates) parts)) lane.items) (sym (same_bodies parts))
        (subst (λ (ds : List (List (List Outcome))).
        IsClientsRecord (map (λ (p : ClientPart). p.planned.bodies) parts) ds lane.items) (sym (same_dispatches parts))
        ran.left);
  }

  -- the late answers of each client are those of the lane
  pub lates_are : (parts : List ClientPart) → map (λ (p : ClientPart). p.lates) (map (with_lates lates) parts)
      ≡ map (lates_of lates) (map (λ (p : ClientPart). p.outcomes) (map (with_lates lates) parts))
  lates_are [] = refl
  lates_are (p ∷ parts) = ap (λ (l : List _). lates_of lates p.outcomes ∷ l) (lates_are parts)
