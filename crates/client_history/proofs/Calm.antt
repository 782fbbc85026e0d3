-- Where nothing was held and nothing failed, every body was replied to.
use Rattle.std.proofs.Common.{◌≡◌, ℕ, ◌≤◌, List, map, subst, sym, arith}
use Rattle.std.specs.List.{AllByRecursion}
use Rattle.board_specs.specs.declared.spec.BoardSpec.{BoardSpec}
use Rattle.world_model.specs.Settings.{Limits}
use Rattle.lane_record.specs.Dispatches.{outcomes_in_order}
use Rattle.lane_record.specs.Submissions.{Submission}
use Rattle.script_plans.specs.declared.greeting.Greeting.{Greeting}
use Rattle.script_plans.specs.declared.greeting.Greeting.TheVariants.{Live, Silent, Down}
use Rattle.board_history.specs.GiveUps.{GaveUpOnlyAfter}
use Rattle.board_history.specs.History.{dispatches_by_client, outcomes_by_client}
use Rattle.board_history.specs.Parts.{AllReplied, IsReplied}
use Rattle.board_history.specs.Runs.{greeting_of, opens_with}
use Rattle.board_history.specs.Links.{IsBoardOf, IsFaithful, LinkReport, board_there}
use Rattle.board_history.specs.LinkRuns.{IsAsTold, IsLiveRun, IsTrueRun}
use Rattle.board_history.proofs.Calm.{IsNotLost, all_calm}
use Rattle.board_history.proofs.LaneShown.{at_some, not_lost, told_greeting}
use Rattle.client_history.specs.Boards.{IsServedOver, ServedBoard, run_of}
use Rattle.client_history.specs.Shown.{OfEach}
use Rattle.client_history.proofs.Lines.{of_each}
use Rattle.client_history.proofs.Parts.{same_joined}
use Rattle.board_history.proofs.Told.{if_told}

abbrev pub EachIsReplied : List (List Submission) → Type 0
EachIsReplied connections = OfEach (λ (s : Submission). IsReplied s.outcome) connections

live_replied : (settings : Limits) (spec : BoardSpec) (served : ServedBoard) (link : LinkReport) (payload : ℕ)
    → 1 ≤ settings.rounds → IsFaithful link → IsLiveRun settings spec payload (run_of spec served) link
    → EachIsReplied served.connections
live_replied settings spec served link payload some calm live =
    let run = run_of spec served in
    let true' = at_some (IsTrueRun settings (opens_with spec.link) run link.held) (board_there link.telling)
    calm.there calm.tells live.told in
    let same = same_joined served.connections in
    let patient : GaveUpOnlyAfter settings.window settings.rounds 0 (dispatches_by_client run) =
    subst (λ (n : ℕ). GaveUpOnlyAfter settings.window settings.rounds n (dispatches_by_client run)) calm.held'
    true'.held' in
    let kept : AllByRecursion (AllByRecursion IsNotLost) (map outcomes_in_order (dispatches_by_client run)) =
    subst (AllByRecursion (AllByRecursion IsNotLost)) (sym same)
    (not_lost link (outcomes_by_client run) calm.faults' live.any_link.lost) in
    let replied : AllReplied (outcomes_by_client run) =
    subst AllReplied same (all_calm settings.window settings.rounds (dispatches_by_client run) some patient kept) in
    of_each IsReplied served.connections replied

-- such a board is live
pub record IsCalm (spec : BoardSpec) (served : ServedBoard) (told : Greeting) : Type 0 where
  pub live : told ≡ greeting_of spec.link
  pub replied : EachIsReplied served.connections

calm_as : (settings : Limits) (spec : BoardSpec) (served : ServedBoard) (link : LinkReport) (told : Greeting)
    → 1 ≤ settings.rounds → IsFaithful link → IsBoardOf spec.link (board_there link.telling)
    → IsAsTold settings spec (run_of spec served) link told → IsCalm spec served told
calm_as settings spec served link (Live payload) some calm of is = record {
  live = told_greeting spec.link (board_there link.telling) calm.there payload calm.tells of is.any_link.packets;
  replied = live_replied settings spec served link payload some calm is;
}
calm_as settings spec served link Silent some calm of is =
    let held = if_told (settings.rounds ≤ link.held) link.telling calm.there calm.tells is.held in
    absurd (omega (arith, some, held, calm.held'))
calm_as settings spec served link Down some calm of is =
    let failed = is.failed in absurd (omega (arith, failed, calm.faults'))

pub calm_board : (settings : Limits) (spec : BoardSpec) (served : ServedBoard) (link : LinkReport)
    → 1 ≤ settings.rounds → IsFaithful link → IsServedOver settings spec served link
    → IsCalm spec served served.told
calm_board settings spec served link some calm is =
    calm_as settings spec served link served.told some calm is.board' is.as_told
