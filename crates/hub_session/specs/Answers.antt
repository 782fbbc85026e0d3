-- The reply frame that answers a request frame. Profile.
use Rattle.std.specs.Prelude.{ℕ, List, [], Option, Some, None, Result, Ok, Err}
use Rattle.std.specs.List.{slice_get}
use Rattle.packet_codec.specs.declared.packet.Order.{Order}
use Rattle.packet_codec.specs.declared.packet.PacketKind.{PacketKind}
use Rattle.packet_codec.specs.declared.packet.PacketKind.TheVariants.{Control, Status, Resend}
use Rattle.packet_codec.specs.declared.packet.BadPacket.{BadPacket}
use Rattle.packet_codec.specs.declared.packet.Packet.{Packet}
use Rattle.packet_codec.specs.Packet.{packet_bytes}
use Rattle.packet_codec.specs.Reading.{packet_of}
use Rattle.lane_record.specs.declared.outcome.Outcome.{Outcome}
use Rattle.lane_record.specs.declared.outcome.Outcome.TheVariants.{Replied, TimedOut, Unsent, LinkLost}
use Rattle.hub_lane.specs.declared.answers.BoardState.{BoardState}
use Rattle.hub_lane.specs.declared.answers.BoardState.TheVariants.{Lane, Silent, Down}
use Rattle.hub_framing.specs.Frames.{ReplyFrame, RequestFrame, reply_bytes}
use Rattle.hub_session.specs.declared.got.BodyRefusal.{BodyRefusal}
use Rattle.hub_session.specs.declared.got.BodyRefusal.TheVariants.{Sealed, TooLong, ReplyTooLong, Overfull}
use Rattle.hub_session.specs.declared.got.Got.{Got}
use Rattle.hub_session.specs.declared.got.Got.TheVariants.{NotAsked, Refused, Came}
use Rattle.hub_session.specs.Codes.{replied_code, timed_out_code, unsent_code, link_lost_code, bad_packet_code}
use Rattle.hub_session.specs.Codes.{no_board_code, body_too_long_code, reply_too_long_code, overfull_code}

-- ---- what a frame asks

abbrev pub if_control : Packet → PacketKind → Option Packet
if_control packet Control = Some packet
if_control packet Status = None
if_control packet Resend = None

abbrev pub control_in : Result Packet BadPacket → Option Packet
control_in (Ok packet) = if_control packet packet.kind
control_in (Err why) = None

-- the control packet that bytes spell, if they spell one
abbrev pub control_packet : List ℕ → Option Packet
control_packet bytes = control_in (packet_of bytes)

-- ---- the reply frame, by the first code that applies: the rules are tried from the last of these functions upwards

-- a reply frame without a packet
abbrev pub code_alone : ℕ → ℕ → ReplyFrame
code_alone board code = record { board = board; code = code; packet = [] }

-- the packet of a reply: a control packet in the byte order, and with the identifier, of the request
abbrev pub reply_packet : Order → ℕ → List ℕ → Packet
reply_packet order id words = record { order = order; id = id; kind = Control; body = words }

-- by what became of the body; `order` and `id` are those of the request
abbrev pub reply_of_outcome : ℕ → Order → ℕ → Outcome → ReplyFrame
reply_of_outcome board order id Unsent = code_alone board unsent_code
reply_of_outcome board order id (LinkLost place) = code_alone board link_lost_code
reply_of_outcome board order id (TimedOut place rounds) = code_alone board timed_out_code
reply_of_outcome board order id (Replied place words) =
    record { board = board; code = replied_code; packet = packet_bytes (reply_packet order id words) }

-- That planning was closed does not come where no lane was sealed before, as where a session is served. It stands here
-- with the refusal of a full lane.
abbrev pub refusal_code : BodyRefusal → ℕ
refusal_code TooLong = body_too_long_code
refusal_code ReplyTooLong = reply_too_long_code
refusal_code Overfull = overfull_code
refusal_code Sealed = overfull_code

-- A board with a lane is always asked, so that the first line does not come.
abbrev pub reply_of_lane : ℕ → Order → ℕ → Got → ReplyFrame
reply_of_lane board order id NotAsked = code_alone board unsent_code
reply_of_lane board order id (Refused why) = code_alone board (refusal_code why)
reply_of_lane board order id (Came outcome) = reply_of_outcome board order id outcome

abbrev pub reply_of_board : ℕ → Order → ℕ → Option BoardState → Got → ReplyFrame
reply_of_board board order id None got = code_alone board no_board_code
reply_of_board board order id (Some Silent) got = code_alone board unsent_code
reply_of_board board order id (Some Down) got = code_alone board link_lost_code
reply_of_board board order id (Some (Lane lane)) got = reply_of_lane board order id got

abbrev pub reply_of_packet : ℕ → Option Packet → Option BoardState → Got → ReplyFrame
reply_of_packet board None state got = code_alone board bad_packet_code
reply_of_packet board (Some request) state got = reply_of_board board request.order request.id state got

-- the reply frame to a request frame, where the boards stand so and the hub came to this for it
abbrev pub reply_to : List BoardState → RequestFrame → Got → ReplyFrame
reply_to boards frame got =
    reply_of_packet frame.board (control_packet frame.packet) (slice_get boards frame.board) got

-- its spelling
abbrev pub answer : List BoardState → RequestFrame → Got → List ℕ
answer boards frame got = reply_bytes (reply_to boards frame got)
