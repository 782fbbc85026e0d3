-- What the frames for a live board are refused for, by the codes of their reply frames. Profile.
use Rattle.std.specs.Prelude.{◌≡◌, ◌↔◌, ℕ, ◌+◌, ◌<◌, ◌≤◌, List, length, Some}
use Rattle.packet_codec.specs.declared.packet.Packet.{Packet}
use Rattle.transaction_codec.specs.Answer.{reply_room}
use Rattle.lane_record.specs.Submissions.{Submission}
use Rattle.hub_lane.specs.Lanes.{FitsBoard}
use Rattle.hub_lane.specs.declared.answers.BoardState.{BoardState}
use Rattle.hub_session.specs.Answers.{control_packet}
use Rattle.hub_session.specs.Codes.{body_too_long_code, reply_too_long_code, overfull_code}
use Rattle.hub_session.specs.Exchanges.{Exchange}
use Rattle.client_history.specs.Boards.{ServedBoard}
use Rattle.client_history.specs.Planned.{HaveFilledLane}
use Rattle.session_serve.specs.Boards.{IsLiveAt, states_of}
use Rattle.session_serve.specs.Connections.{Conversation}
use Rattle.serve_command.specs.Answers.{HasCode}
use Rattle.serve_command.specs.Frames.{OfEachFrame}

-- The codes of a frame with this body for a live board, which takes packets of so many words. `connections` are all
-- bodies that each connection submitted to the board, before this frame or after it.
pub record HasRuledCodes (payload : ℕ) (connections : List (List Submission)) (boards : List BoardState)
    (body : List ℕ) (e : Exchange) : Type 0 where
  -- code 6 exactly where the body with its header is longer than a packet of the board
  pub body_too_long : HasCode body_too_long_code boards e ↔ (payload < length body + 1)
  -- code 7 exactly where it is not, and its longest reply with its header is
  pub reply_too_long : HasCode reply_too_long_code boards e
      ↔ ((length body + 1 ≤ payload) × (payload < reply_room body + 1))
  -- code 8 only where both fit, and the connections filled the lane of the board
  pub overfull : HasCode overfull_code boards e → FitsBoard payload body × HaveFilledLane connections body

-- so of a frame for the board at this position that has a control packet
abbrev pub IsCodedByRules : ℕ → List (List Submission) → ℕ → List BoardState → Exchange → Type 0
IsCodedByRules payload connections position boards e = (request : Packet) → e.frame.board ≡ position
    → control_packet e.frame.packet ≡ Some request → HasRuledCodes payload connections boards request.body e

-- so of all frames for the board at this position, where it is live
abbrev pub AreCodedByRules : List ServedBoard → List Conversation → ℕ → Type 0
AreCodedByRules boards conversations position =
    (payload lane : ℕ) (board : ServedBoard) → IsLiveAt boards position payload lane board
    → OfEachFrame (IsCodedByRules payload board.connections position (states_of boards)) conversations
