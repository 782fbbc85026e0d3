use Rattle.std.proofs.Common.{arith, ap, length, length-append}
use Rattle.board_bus.specs.Bodies.{run_body}
use Rattle.ipb_base.proofs.WordLemmas.{AreWords-at}
use Rattle.board_bus.proofs.ReplyLength.{run_body-length}
use Rattle.board_bus.proofs.bus.Bus.execute.Goals as goal

pub run-requires : goal.run-requires
run-requires c = record {
  room = omega (
    arith,
    run_body-length c.args.self.now c.args.body.now,
    c.reply_room.ensures.value,
    c.in_ok-reserve.ensures.ok,
    c.in_ok-reserve.ensures.len,
  );
}

pub returns-clause-room : goal.returns-clause-room
returns-clause-room c =
    let reply = (run_body c.args.self.now c.args.body.now).reply in
    let most = run_body-length c.args.self.now c.args.body.now in
    omega (
      arith,
      ap length c.run.ensures.reply,
      ap length c.in_ok-reserve.ensures.items,
      length-append c.reserve.new.self.items reply,
      most,
    )

pub returns-clause-answer : goal.returns-clause-answer
returns-clause-answer c =
    c.answers_bodies.ensures.reply c.args.body.now (AreWords-at c.args.body.now (λ i. omega (arith, c.type_inv.body i)))
