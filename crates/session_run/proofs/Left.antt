-- How a hub stood to the link of a board that a session leaves.
use Rattle.std.proofs.Common.{◌≡◌, ℕ, zero, suc, Bool, false, List, [], min, Option, Some, None}
use Rattle.std.specs.Prelude.{IfSome}
use Rattle.ipb_base.specs.Lists.{IsPrefix}
use Rattle.world_model.specs.declared.datagram.Datagram.{Datagram}
use Rattle.world_model.specs.Board.{Board, bodies_executed}
use Rattle.world_model.specs.Facts.{IsStart, bodies_of}
use Rattle.world_model.specs.Hub.{Hub, new_hub, none_handed_out}
use Rattle.world_model.specs.Settings.{Limits}
use Rattle.world_model.specs.World.{start}
use Rattle.links.specs.States.{IsReached}
use Rattle.links.specs.Telling.{Telling}
use Rattle.board_specs.specs.declared.spec.BoardSpec.{BoardSpec}
use Rattle.lane_record.specs.declared.outcome.Outcome.{Outcome}
use Rattle.lane_record.specs.Lates.{late_in}
use Rattle.script_steps.specs.declared.operation.Step.{Step}
use Rattle.hub_lane.specs.Greeting.{CanBegin}
use Rattle.hub_lane.specs.Standing.{IsStanding}
use Rattle.hub_lane.specs.Truth.{IsTrueTo}
use Rattle.board_history.specs.Links.{board_there}
use Rattle.board_history.specs.LinkRuns.{IsMergeOfAsked}
use Rattle.session_run.specs.Links.{HasStood}

-- ---- a link on which nothing but a greeting was sent

abbrev pub BeginLaw : Type 0
BeginLaw = (window rounds : ℕ) (board : Board) (air : List Datagram) → IsStart window board air
    → IsReached (start window rounds board air) none_handed_out
    (new_hub board.first (min window board.buffers) rounds) (record { board = board; air = air })

none_came : (place : ℕ) (words : List ℕ) → late_in [] place ≡ Some words → ⊥
none_came zero words came = cc
none_came (suc k) words came = cc

pub fresh_stood : BeginLaw → (settings : Limits) (spec : BoardSpec) (board : ℕ) (scripts : List (List Step))
    (t : Telling) → CanBegin settings t → IsMergeOfAsked spec board scripts [] → HasStood spec board scripts t
fresh_stood law settings spec board scripts t begins nothing =
    let there = t.told.board in
    record {
      stopped = false;
      limits = settings;
      hub = new_hub there.first (min settings.window there.buffers) settings.rounds;
      outcomes = [];
      lates = [];
      standing = record {
        board = there;
        air = t.told.air;
        begins = begins.start;
        out = none_handed_out;
        reached = law settings.window settings.rounds there t.told.air begins.start;
        told = λ k o at. absurd cc;
        late = λ place words came. absurd (none_came place words came);
        handed = record { fates = tt; lates = tt };
      };
      sent = nothing;
    }

-- ---- what the board executed

abbrev pub TrueLaw : Type 0
TrueLaw = (stopped : Bool) (limits : Limits) (hub : Hub) (outcomes : List (Option Outcome))
    (lates : List (Option (List ℕ))) (t : Telling) → IsStanding stopped limits hub outcomes lates t
    → IsTrueTo t (bodies_of hub.sent) outcomes lates

abbrev pub FirstLaw : Type 0
FirstLaw = (spec : BoardSpec) (board : ℕ) (scripts : List (List Step)) (first bodies : List (List ℕ))
    → IsPrefix first bodies → IsMergeOfAsked spec board scripts bodies → IsMergeOfAsked spec board scripts first

pub executed_asked : TrueLaw → FirstLaw → (spec : BoardSpec) (board : ℕ) (scripts : List (List Step))
    (telling : Option Telling) → IfSome telling (HasStood spec board scripts)
    → IfSome (board_there telling) (λ there. IsMergeOfAsked spec board scripts (bodies_executed there))
executed_asked true_law first_law spec board scripts None stood = tt
executed_asked true_law first_law spec board scripts (Some t) stood =
    first_law spec board scripts (bodies_executed t.told.board) (bodies_of stood.hub.sent)
    (true_law stood.stopped stood.limits stood.hub stood.outcomes stood.lates t stood.standing).in_order stood.sent
