use Rattle.std.proofs.Common.{refl, arith}
use Rattle.packet_codec.specs.Reading.{packet_of, start_of}
use Rattle.world_model.specs.Messages.{to_hub}
use Rattle.board_history.specs.LaneExamples.{reply_datagram}
use Rattle.board_history.proofs.lane_examples.a_reply_came_behind_the_status.Goals as goal

pub returns-clause-payload : goal.returns-clause-payload
unfolding to_hub packet_of start_of
returns-clause-payload c = record { mtu = 1500; buffers = 4; first = 1; status = refl; packets = refl }

pub returns-clause-reply : goal.returns-clause-reply
unfolding to_hub packet_of start_of
returns-clause-reply c = record {
  mtu = 1500;
  buffers = 4;
  first = 1;
  status = refl;
  among = record { datagram = reply_datagram; among = (0, omega arith, refl); reply = refl };
}

pub returns-clause-quiets : goal.returns-clause-quiets
unfolding to_hub packet_of start_of
returns-clause-quiets c = refl
