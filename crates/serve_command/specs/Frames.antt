-- What the frames of connections for one board are answered: where its packets were executed, when it was given up, and
-- when it was lost. A frame counts whether its reply frame was written whole or not. Profile.
use Rattle.std.specs.Prelude.{◌≡◌, ◌≢◌, ◌↔◌, ◌==◌, ◌||◌, ℕ, ◌+◌, ◌*◌, ◌≤◌, Bool, true, if◌then◌else◌}
use Rattle.std.specs.Prelude.{List, count_by, Option, Some, None, IfSome, is_some}
use Rattle.std.specs.List.{AllByRecursion, filter_map, flat_map, slice_get}
use Rattle.packet_codec.specs.declared.packet.Packet.{Packet}
use Rattle.packet_codec.specs.Packet.{packet_bytes}
use Rattle.board_bus.specs.Cells.{CellMap}
use Rattle.board_specs.specs.declared.spec.BoardSpec.{BoardSpec}
use Rattle.world_model.specs.Settings.{Limits}
use Rattle.lane_record.specs.Outcomes.{place_of}
use Rattle.script_plans.specs.Claims.{Rises}
use Rattle.board_history.specs.Order.{RisesFrom}
use Rattle.board_history.specs.GiveUps.{IsExact}
use Rattle.board_history.specs.Links.{HasFailed, LinkReport}
use Rattle.board_history.specs.Receives.{HasBroughtReply, quiets_since_status}
use Rattle.hub_lane.specs.declared.answers.BoardState.{BoardState}
use Rattle.hub_lane.specs.declared.answers.BoardState.TheVariants.{Lane, Silent, Down}
use Rattle.client_history.specs.Shown.{IsReplyAt}
use Rattle.hub_session.specs.declared.got.Got.{Got}
use Rattle.hub_session.specs.declared.got.Got.TheVariants.{NotAsked, Refused, Came}
use Rattle.hub_session.specs.Answers.{control_packet, reply_packet, reply_to}
use Rattle.hub_session.specs.Codes.{replied_code, timed_out_code, unsent_code, link_lost_code}
use Rattle.hub_session.specs.Codes.{bad_packet_code, no_board_code}
use Rattle.hub_session.specs.Exchanges.{Exchange}
use Rattle.session_serve.specs.Connections.{Conversation, exchanges_of}
use Rattle.serve_command.specs.Answers.{HasCode, has_code_at}

-- ---- the frames for a board

-- so much holds of each frame of each connection
abbrev pub OfEachFrame : (Exchange → Type 0) → List Conversation → Type 0
OfEachFrame holds conversations =
    AllByRecursion (λ (c : Conversation). AllByRecursion holds (exchanges_of c)) conversations

-- of each frame for the board at this position whose reply frame has this code
abbrev pub OfEachWithCode : ℕ → ℕ → List BoardState → (Exchange → Type 0) → List Conversation → Type 0
OfEachWithCode code position boards holds conversations =
    OfEachFrame (λ e. has_code_at code position boards e ≡ true → holds e) conversations

-- there is none
abbrev pub NoneWithCode : ℕ → ℕ → List BoardState → List Conversation → Type 0
NoneWithCode code position boards conversations =
    OfEachWithCode code position boards (λ e. ⊥) conversations

-- of the board at each position, its entry in the document, and its link
abbrev pub OfEachBoard : (ℕ → BoardSpec → LinkReport → Type 0) → List BoardSpec → List LinkReport → Type 0
OfEachBoard holds specs links = (position : ℕ) (spec : BoardSpec) (link : LinkReport)
    → slice_get specs position ≡ Some spec → slice_get links position ≡ Some link → holds position spec link

-- the board at this position is live: it has a lane
abbrev pub HasLane : ℕ → List BoardState → Type 0
HasLane position boards = (lane : ℕ) × (slice_get boards position ≡ Some (Lane lane))

-- ---- places

abbrev pub place_in : Got → Option ℕ
place_in NotAsked = None
place_in (Refused why) = None
place_in (Came outcome) = place_of outcome

-- the place of a frame for the board at this position: the number of the packet with its body among the first sends to
-- this board, if it was sent
abbrev pub place_on : ℕ → Exchange → Option ℕ
place_on position e = if e.frame.board == position then place_in e.got else None

-- whether it has one
abbrev pub IsPlaced : ℕ → Exchange → Type 0
IsPlaced position e = is_some (place_on position e) ≡ true

-- the places of a connection's frames, in the order of the frames
abbrev pub places_on : ℕ → Conversation → List ℕ
places_on position c = filter_map (place_on position) (exchanges_of c)

-- those of each connection rise
abbrev pub PlacesOfFramesRise : ℕ → List Conversation → Type 0
PlacesOfFramesRise position conversations =
    AllByRecursion (λ (c : Conversation). RisesFrom 1 (places_on position c)) conversations

-- no two frames, of one connection or of two, have one place
abbrev pub PlacesOfFramesDiffer : ℕ → List Conversation → Type 0
PlacesOfFramesDiffer position conversations =
    Rises (λ (one other : ℕ). one ≢ other) (flat_map (places_on position) conversations)

-- ---- code 0

-- The frame was answered by what the board did. It has a place, where the board executed the body of its packet. The
-- packet of the reply frame has the byte order and the identifier of the request, and the words that a bus with a
-- single thread gives at that place, which opens like this and executes what the board executed.
pub record IsAnsweredRightly (opening : CellMap) (done : List (List ℕ)) (boards : List BoardState) (position : ℕ)
    (e : Exchange) : Type 0 where
  pub place : ℕ
  pub place' : place_on position e ≡ Some place
  pub request : Packet
  pub request' : control_packet e.frame.packet ≡ Some request
  pub words : List ℕ
  pub executed_there : IsReplyAt opening done request.body place words
  pub reply : reply_to boards e.frame e.got ≡ record {
    board = position;
    code = replied_code;
    packet = packet_bytes (reply_packet request.order request.id words);
  }

-- Whether the link tells or not, the frame was answered with what the link brought. It has a place, and the link
-- brought the reply to the packet of this place behind the greeting: a control packet with its identifier. The packet
-- of the reply frame has the words of that one, and the byte order and the identifier of the request.
pub record IsAnsweredAsCarried (link : LinkReport) (boards : List BoardState) (position : ℕ) (e : Exchange) : Type 0
  where
    pub place : ℕ
    pub place' : place_on position e ≡ Some place
    pub request : Packet
    pub request' : control_packet e.frame.packet ≡ Some request
    pub words : List ℕ
    pub carried : HasBroughtReply link place words
    pub reply : reply_to boards e.frame e.got ≡ record {
      board = position;
      code = replied_code;
      packet = packet_bytes (reply_packet request.order request.id words);
    }

-- ---- codes 1 and 2

-- the frame is for the board at this position, and its reply frame has code 1 or code 2
abbrev pub is_given_up_at : ℕ → List BoardState → Exchange → Bool
is_given_up_at position boards e =
    has_code_at timed_out_code position boards e || has_code_at unsent_code position boards e

-- how many frames of a connection are
abbrev pub frames_given_up : ℕ → List BoardState → Conversation → ℕ
frames_given_up position boards c = count_by (is_given_up_at position boards) (exchanges_of c)

-- Each such frame of a connection took the rounds of the settings and one more, each with a quiet receive, which came
-- behind the greeting, and where the link tells a datagram was held in each of the rounds. A count that stands at its
-- end tells nothing.
pub record FramesGivenUpOnlyAfterRounds (settings : Limits) (link : LinkReport) (position : ℕ)
    (boards : List BoardState) (conversations : List Conversation) : Type 0 where
  pub quiets' : IsExact link.quiets → AllByRecursion
      (λ (c : Conversation). (settings.rounds + 1) * frames_given_up position boards c ≤ link.quiets) conversations
  pub since : AllByRecursion (λ (c : Conversation).
      (settings.rounds + 1) * frames_given_up position boards c ≤ quiets_since_status link) conversations
  pub held' : IfSome link.telling (λ _. IsExact link.held → AllByRecursion
      (λ (c : Conversation). settings.rounds * frames_given_up position boards c ≤ link.held) conversations)

-- ---- code 3

-- a frame for the board at this position has code 3 only where the link of the board failed, at the greeting or later
abbrev pub IsLostOnlyWithLink : LinkReport → ℕ → List BoardState → List Conversation → Type 0
IsLostOnlyWithLink link position boards conversations =
    OfEachWithCode link_lost_code position boards (λ e. HasFailed link) conversations

-- ---- codes for which the hub is not asked

-- A frame has code 4 exactly where its bytes are no control packet, and code 5 exactly where they are one and the
-- document has no board at its position. A control packet for a board that was silent has code 2, and one for a board
-- whose link was down at the greeting code 3.
pub record HasUnaskedCodes (specs : List BoardSpec) (boards : List BoardState) (e : Exchange) : Type 0 where
  pub bad_packet : HasCode bad_packet_code boards e ↔ (control_packet e.frame.packet ≡ None)
  pub no_board : HasCode no_board_code boards e
      ↔ ((is_some (control_packet e.frame.packet) ≡ true) × (slice_get specs e.frame.board ≡ None))
  pub silent : is_some (control_packet e.frame.packet) ≡ true → slice_get boards e.frame.board ≡ Some Silent
      → HasCode unsent_code boards e
  pub down : is_some (control_packet e.frame.packet) ≡ true → slice_get boards e.frame.board ≡ Some Down
      → HasCode link_lost_code boards e

-- ---- where nothing was held and nothing failed

-- no frame for the board at this position is given up, or lost
pub record NoneIsGivenUpOrLost (position : ℕ) (boards : List BoardState) (conversations : List Conversation) : Type 0
  where
    pub timed_out : NoneWithCode timed_out_code position boards conversations
    pub unsent : NoneWithCode unsent_code position boards conversations
    pub link_lost : NoneWithCode link_lost_code position boards conversations
