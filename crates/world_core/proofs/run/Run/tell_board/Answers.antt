use Rattle.std.proofs.lemmas.Result.{IfOk-weaker}
use Rattle.world_core.specs.Steps.{world_of}
use Rattle.world_core.proofs.Hearing.{board_heard}
use Rattle.world_core.proofs.run.Run.tell_board.Goals as goal

pub returns : goal.returns
returns c = IfOk-weaker c.hear_at.result _ _ (λ _ heard. board_heard (world_of c.args.self.now) c.sent-sent.result
    c.args.place c.hear_at.new.board c.hear_at.new.self c.sent-sent.ensures heard) c.hear_at.ensures.heard
