-- What is known of boards before the door listens. What private functions promise one another; no public clause speaks
-- of these.
use Rattle.std.specs.Prelude.{◌≡◌, ◌≤◌, List, [], length, map}
use Rattle.std.specs.Vec.{vec_capacity}
use Rattle.ipb_base.specs.Numbers.{payload_of}
use Rattle.board_specs.specs.declared.spec.BoardSpec.{BoardSpec}
use Rattle.world_model.specs.Settings.{Limits}
use Rattle.board_history.specs.Links.{LinkReport}
use Rattle.board_greeting.specs.Boards.{AreReached}
use Rattle.board_greeting.specs.Standings.{all_at_hub, lanes_in, states_at}
use Rattle.board_greeting.specs.declared.standing.Standing.{Standing}
use Rattle.board_greeting.specs.declared.standing.Standing.TheVariants.{Live, AtHub, Silent, Down}
use Rattle.script_plans.specs.declared.greeting.Greeting.{Greeting}
use Rattle.script_plans.specs.declared.greeting.Greeting.TheVariants as greeting
use Rattle.session_serve.specs.declared.prepared.Prepared.{Prepared}

-- What a board told at its greeting. One whose lane is at a hub is live; its payload is not here.
abbrev pub told_by : {L : Type 0} → Standing L → Greeting
told_by (Live lane) = greeting.Live (payload_of lane.status.mtu)
told_by AtHub = greeting.Live 0
told_by (Silent link) = greeting.Silent
told_by (Down link) = greeting.Down

-- the names of boards that were greeted, room for their lines, how they stand, and their lanes
pub record IsPrepared {L : Type 0} (specs : List BoardSpec) (boards : List (Standing L)) (prepared : Prepared L)
    : Type 0 where
  pub names' : prepared.names.items ≡ map (λ (spec : BoardSpec). spec.name) specs
  pub no_lines : prepared.lines.items ≡ []
  pub room : length specs ≤ vec_capacity prepared.lines
  pub states' : prepared.states ≡ states_at 0 boards
  pub lanes' : prepared.lanes.items ≡ lanes_in boards

-- Boards that were greeted, each that of its document, what was prepared for them, and what is left in their places.
pub record IsReady {L : Type 0} (shows : L → LinkReport) (settings : Limits) (specs : List BoardSpec)
    (left : List (Standing L)) (prepared : Prepared L) : Type 0 where
  pub boards : List (Standing L)
  pub left' : left ≡ all_at_hub boards
  pub all : length boards ≡ length specs
  pub reached : AreReached shows settings specs boards
  pub prepared' : IsPrepared specs boards prepared
