-- What connections planned on the lanes of a hub, whatever came of them. What private functions promise one another; no
-- public clause speaks of these.
use Rattle.std.specs.Prelude.{◌≡◌, ℕ, List, map, Some}
use Rattle.std.specs.List.{AllZip}
use Rattle.ipb_outside.specs.Pairs.{PairReport}
use Rattle.board_history.specs.Merges.{IsSubsequence}
use Rattle.lane_record.specs.declared.item.Item.{Item}
use Rattle.board_history.specs.Records.{IsPartlyPlanned}
use Rattle.hub_framing.specs.Frames.{RequestFrame}
use Rattle.hub_lane.specs.Lanes.{LaneState}
use Rattle.hub_lane.specs.declared.answers.BoardState.{BoardState}
use Rattle.hub_session.specs.Exchanges.{request_of}
use Rattle.client_threads.specs.Running.{AtEach}
use Rattle.session_serve.specs.Executed.{HaveSent, bodies_for, body_for}

-- a frame that has a body for this lane, where the boards stand so, has it for the board at this position
abbrev pub IsLaneAt : List BoardState → ℕ → ℕ → Type 0
IsLaneAt boards lane position = (frame : RequestFrame) (body : List ℕ)
    → request_of boards frame ≡ Some (record { lane = lane; body = body }) → body_for position frame ≡ Some body

-- The bodies that each connection planned by these entries are some of those that its frames have for the board at this
-- position, in order, and nobody else planned any.
pub record PlansFrames (position : ℕ) (connections : List (List RequestFrame)) (items : List Item) : Type 0 where
  pub planned : List (List (List ℕ))
  pub partly : IsPartlyPlanned planned items
  pub of_frames : AllZip IsSubsequence planned (map (bodies_for position) connections)

-- So it is of each lane that came back from the hub, by frames that came from the connections.
pub record ArePlannedAt {L : Type 0} (boards : List BoardState) (olds news : List (LaneState L))
    (came back : List PairReport) : Type 0 where
  pub connections : List (List RequestFrame)
  pub sent : HaveSent connections came back
  pub lanes : AtEach olds news (λ lane old new. (position : ℕ) → IsLaneAt boards lane position
      → PlansFrames position connections new.items)
