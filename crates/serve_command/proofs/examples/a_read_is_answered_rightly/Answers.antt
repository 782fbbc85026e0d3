use Rattle.std.proofs.Common.{[], ◌∷◌, refl}
use Rattle.transaction_codec.specs.Request.{request_at}
use Rattle.packet_codec.specs.declared.packet.Order.TheVariants.{Big}
use Rattle.packet_codec.specs.declared.packet.PacketKind.TheVariants.{Control}
use Rattle.packet_codec.specs.Reading.{packet_of, start_of}
use Rattle.board_history.specs.Examples.{read_body}
use Rattle.serve_command.proofs.examples.a_read_is_answered_rightly.Goals as goal

pub returns : goal.returns
unfolding packet_of start_of request_at
returns c = record {
  place = 1;
  place' = refl;
  request = record { order = Big; id = 0; kind = Control; body = read_body };
  request' = refl;
  words = 0x20000100 ∷ 7 ∷ [];
  executed_there = record { body' = refl; words' = refl };
  reply = refl;
}
