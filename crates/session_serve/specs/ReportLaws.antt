-- What laws of lower crates say of boards whose connections were served, for the proofs here: no public clause speaks
-- of it.
use Rattle.std.specs.Prelude.{◌≡◌, ℕ, Bool, List, [], map, length, count_by, Option}
use Rattle.ipb_base.specs.Lists.{IsPrefix}
use Rattle.turn_pass.specs.Pass.{Knowledge}
use Rattle.turn_pass.specs.Record.{Record}
use Rattle.links.specs.Telling.{Telling}
use Rattle.world_model.specs.Hub.{Hub}
use Rattle.world_model.specs.Settings.{Limits}
use Rattle.board_specs.specs.declared.spec.BoardSpec.{BoardSpec}
use Rattle.lane_record.specs.declared.outcome.Outcome.{Outcome}
use Rattle.lane_record.specs.declared.item.Item.{Item}
use Rattle.lane_record.specs.Bounds.{timeouts}
use Rattle.lane_record.specs.Claims.{claims}
use Rattle.lane_record.specs.Coding.{Head, record_of}
use Rattle.lane_record.specs.Legal.{IsLegal}
use Rattle.lane_record.specs.Submissions.{Submission}
use Rattle.hub_lane.specs.Calls.{is_lost_at_place, is_replied}
use Rattle.hub_lane.specs.Lanes.{BoardStatus, IsLane}
use Rattle.hub_multiplexer.specs.Ends.{Ends}
use Rattle.script_plans.specs.declared.greeting.Greeting.TheVariants as greeting
use Rattle.transcript.specs.declared.line.BoardLine.TheVariants as line
use Rattle.transcript.specs.Lines.{board_line}
use Rattle.board_history.specs.Merges.{IsMergeOfSome}
use Rattle.board_history.specs.Runs.{opens_with}
use Rattle.board_history.specs.Lanes.{IsSoundLane, bodies_offered}
use Rattle.board_history.specs.Links.{IsBoardOf, LinkReport, board_there}
use Rattle.board_history.specs.Records.{IsPartlyPlanned, IsRecordOf}
use Rattle.board_history.specs.LinkRuns.{TellsPayload}
use Rattle.client_history.specs.Clients.{came_with}
use Rattle.client_history.specs.Boards.{IsServedOver, run_of}
use Rattle.client_history.specs.Connections.{WereServedOn, submitted_bodies, dispatches_of}

pub record ReportLaws : Type 0 where
  -- the record of a lane that came back
  pub left : (connections : List (List Submission)) (head head_now : Head) (items : List Item) (after : Knowledge)
      (final : Record) → WereServedOn connections (came_with head []) after → Ends after final
      → final ≡ record_of head_now items
      → IsRecordOf (map submitted_bodies connections) (map dispatches_of connections) items
  -- what may be shown of its board, and its line
  pub served : (settings : Limits) (spec : BoardSpec) (link : LinkReport) (payload : ℕ)
      (connections : List (List Submission)) (items : List Item) (outcomes : List (Option Outcome))
      (lates : List (Option (List ℕ))) (give_ups : ℕ) → IsBoardOf spec.link (board_there link.telling)
      → TellsPayload spec.link payload
      → IsRecordOf (map submitted_bodies connections) (map dispatches_of connections) items
      → IsSoundLane settings (opens_with spec.link) payload link items outcomes lates give_ups
      → IsServedOver settings spec (record { told = greeting.Live payload; connections = connections }) link
  pub line : (settings : Limits) (status : BoardStatus) (hub : Hub) (items : List Item)
      (outcomes : List (Option Outcome)) (lates : List (Option (List ℕ))) (give_ups : ℕ) (down spent : Bool)
      (telling : Option Telling) (faults quiets : ℕ) (spec : BoardSpec) (payload : ℕ)
      (connections : List (List Submission))
      → IsLane settings status hub items outcomes lates give_ups down spent telling faults quiets
      → IsRecordOf (map submitted_bodies connections) (map dispatches_of connections) items
      → board_line (run_of spec (record { told = greeting.Live payload; connections = connections }))
      ≡ line.Live spec.name (length hub.sent) (count_by is_replied outcomes) (timeouts outcomes)
      (count_by is_lost_at_place outcomes)
  -- what its board executed
  pub merge : (bodies : List (List (List ℕ))) (items : List Item) (became : List (Option Outcome))
      (done : List (List ℕ)) → IsLegal items became → IsPartlyPlanned bodies items
      → IsPrefix done (bodies_offered (claims items) became) → IsMergeOfSome bodies done
