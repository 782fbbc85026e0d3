-- Each answer is a reply frame.
use Rattle.std.proofs.Common.{ℕ, ◌<◌, ◌^◌, Option, Some, None, arith}
use Rattle.ipb_base.specs.Word.{IsWord}
use Rattle.packet_codec.specs.declared.packet.Order.{Order}
use Rattle.packet_codec.specs.declared.packet.Packet.{Packet}
use Rattle.lane_record.specs.declared.outcome.Outcome.{Outcome}
use Rattle.lane_record.specs.declared.outcome.Outcome.TheVariants.{Replied, TimedOut, Unsent, LinkLost}
use Rattle.hub_lane.specs.declared.answers.BoardState.{BoardState}
use Rattle.hub_lane.specs.declared.answers.BoardState.TheVariants.{Lane, Silent, Down}
use Rattle.hub_framing.specs.Frames.{IsReplyFrame}
use Rattle.hub_session.specs.declared.got.BodyRefusal.{BodyRefusal}
use Rattle.hub_session.specs.declared.got.BodyRefusal.TheVariants.{Sealed, TooLong, ReplyTooLong, Overfull}
use Rattle.hub_session.specs.declared.got.Got.{Got}
use Rattle.hub_session.specs.declared.got.Got.TheVariants.{NotAsked, Refused, Came}
use Rattle.hub_session.specs.Answers.{code_alone, refusal_code, reply_of_board, reply_of_outcome}
use Rattle.hub_session.specs.Answers.{reply_of_packet, reply_packet}
use Rattle.hub_session.specs.Exchanges.{IsGotFor, request_in}
use Rattle.hub_session.proofs.Packets.{packet_fits}
use Rattle.lane_record.specs.Outcomes.{IsShort}

alone : (board code : ℕ) → IsWord board → code < 2 ^ 16 → IsReplyFrame (code_alone board code)
alone board code word low = record { board = word; code = low; longest = omega arith }

of_outcome : (board : ℕ) (order : Order) (id : ℕ) (outcome : Outcome) → IsWord board → IsShort outcome
    → IsReplyFrame (reply_of_outcome board order id outcome)
of_outcome board order id Unsent word short = alone board 2 word (omega arith)
of_outcome board order id (LinkLost place) word short = alone board 3 word (omega arith)
of_outcome board order id (TimedOut place rounds) word short = alone board 1 word (omega arith)
of_outcome board order id (Replied place words) word short =
    record { board = word; code = omega arith; longest = packet_fits (reply_packet order id words) short }

of_refusal : (board : ℕ) (why : BodyRefusal) → IsWord board → IsReplyFrame (code_alone board (refusal_code why))
of_refusal board TooLong word = alone board 6 word (omega arith)
of_refusal board ReplyTooLong word = alone board 7 word (omega arith)
of_refusal board Overfull word = alone board 8 word (omega arith)
of_refusal board Sealed word = alone board 8 word (omega arith)

of_board : (board : ℕ) (request : Packet) (state : Option BoardState) (got : Got) → IsWord board
    → IsGotFor (request_in (Some request) state) got
    → IsReplyFrame (reply_of_board board request.order request.id state got)
of_board board request None got word is = alone board 5 word (omega arith)
of_board board request (Some Silent) got word is = alone board 2 word (omega arith)
of_board board request (Some Down) got word is = alone board 3 word (omega arith)
of_board board request (Some (Lane lane)) NotAsked word is = absurd is
of_board board request (Some (Lane lane)) (Refused why) word is = of_refusal board why word
of_board board request (Some (Lane lane)) (Came outcome) word is =
    of_outcome board request.order request.id outcome word is

pub is_reply : (board : ℕ) (packet : Option Packet) (state : Option BoardState) (got : Got) → IsWord board
    → IsGotFor (request_in packet state) got → IsReplyFrame (reply_of_packet board packet state got)
is_reply board None state got word is = alone board 4 word (omega arith)
is_reply board (Some request) state got word is = of_board board request state got word is
