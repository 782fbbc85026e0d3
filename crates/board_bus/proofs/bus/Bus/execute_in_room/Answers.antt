use Rattle.std.proofs.Common.{arith}
use Rattle.board_bus.proofs.ReplyLength.{run_body-length}
use Rattle.board_bus.proofs.bus.Bus.execute_in_room.Goals as goal

pub run-requires : goal.run-requires
run-requires c = record { room = omega (arith, run_body-length c.args.self.now c.args.body.now, c.requires.room) }
