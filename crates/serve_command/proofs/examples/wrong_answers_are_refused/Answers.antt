use Rattle.std.proofs.Common.{◌≡◌, ℕ, List, [], ◌∷◌, Option, Some, refl, sym, ap, ap₂, ◌∙◌, subst, arith}
use Rattle.std.specs.List.{slice_get}
use Rattle.std.proofs.lemmas.Option.{same_Some}
use Rattle.packet_codec.specs.declared.packet.Order.TheVariants.{Big}
use Rattle.packet_codec.specs.declared.packet.PacketKind.TheVariants.{Control}
use Rattle.packet_codec.specs.declared.packet.Packet.{Packet}
use Rattle.packet_codec.specs.Packet.{packet_bytes}
use Rattle.packet_codec.specs.Reading.{packet_of, start_of}
use Rattle.board_bus.specs.Bodies.{replay}
use Rattle.world_model.specs.Places.{at_place}
use Rattle.board_history.specs.Examples.{read_body, seven}
use Rattle.board_history.proofs.OneRead.{answered}
use Rattle.hub_framing.specs.Frames.{ReplyFrame}
use Rattle.hub_session.specs.Answers.{control_packet, reply_packet, reply_to}
use Rattle.hub_session.specs.Examples.{three_boards}
use Rattle.serve_command.specs.Examples.{read_at}
use Rattle.serve_command.proofs.examples.wrong_answers_are_refused.Goals as goal

asks : control_packet (read_at 1 8).frame.packet
    ≡ Some (record { order = Big; id = 0; kind = Control; body = read_body })
unfolding packet_of start_of
asks = refl

last_byte : ReplyFrame → Option ℕ
last_byte frame = slice_get frame.packet 11

told : last_byte (reply_to three_boards (read_at 1 8).frame (read_at 1 8).got) ≡ Some 8
unfolding packet_of start_of last_byte
told = refl

word_told : Packet → List ℕ → Option ℕ
word_told request words = last_byte (record {
  board = 0;
  code = 0;
  packet = packet_bytes (reply_packet request.order request.id words);
})

owed : (request : Packet) (words : List ℕ)
    → request ≡ record { order = Big; id = 0; kind = Control; body = read_body } → words ≡ 0x20000100 ∷ 7 ∷ []
    → word_told request words ≡ Some 7
unfolding last_byte word_told
owed request words asked replied = ap₂ word_told asked replied

same_value : (a b : ℕ) → Some a ≡ Some b → a ≡ b
same_value a b e = same_Some a b e

pub returns-clause-another_word : goal.returns-clause-another_word
unfolding word_told
returns-clause-another_word c = λ is.
    let first = same_Some 1 is.place is.place' in
    let there = subst (λ (n : ℕ). at_place (replay seven (read_body ∷ [])).replies n ≡ Some is.words) (sym first)
    is.executed_there.words' in
    let words = same_Some is.words (0x20000100 ∷ 7 ∷ []) (sym there ∙ answered) in
    let request = same_Some is.request (record { order = Big; id = 0; kind = Control; body = read_body })
    (sym is.request' ∙ asks) in
    let e = same_value 8 7 (sym told ∙ ap last_byte is.reply ∙ owed is.request is.words request words) in
    absurd (omega (arith, e))

pub returns-clause-no_datagram : goal.returns-clause-no_datagram
returns-clause-no_datagram c = λ is. let never = is.carried.status in absurd cc
