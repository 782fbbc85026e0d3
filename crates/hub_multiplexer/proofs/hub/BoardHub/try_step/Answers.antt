use Rattle.std.proofs.Common.{arith}
use Rattle.std.proofs.lemmas.Grind.{common_steps}
use Rattle.std.proofs.lemmas.Result.{IfOk-weaker, on_err_weaker}
use Rattle.hub_multiplexer.specs.AnyCalls.{IsNone, MadeAs, StepTriedAs}
use Rattle.hub_multiplexer.proofs.Boards.{changes_at}
use Rattle.hub_multiplexer.proofs.hub.BoardHub.try_step.Goals as goal

pub returns-clause-tried : goal.returns-clause-tried
returns-clause-tried g c =
    IfOk-weaker c.try_step.result _ _ (λ answer relation. changes_at c.seat.inside.client c.seat.inside.passes.items
    c.args.seat.now c.args.self.now.turns c.args.board c.index_mut.result.now c.try_step.new.pass
    (λ k. StepTriedAs g.V.AtHub.manner k answer)
    c.seat.view_is c.requires.seat c.requires.board c.index_mut.ensures.value c.try_step.ensures.same relation)
    c.try_step.ensures.tried

pub returns-clause-looked : goal.returns-clause-looked
returns-clause-looked g c =
    on_err_weaker c.try_step.result (λ relation. changes_at c.seat.inside.client c.seat.inside.passes.items
    c.args.seat.now c.args.self.now.turns c.args.board c.index_mut.result.now c.try_step.new.pass
    (λ k. MadeAs g.V.AtHub.manner k IsNone)
    c.seat.view_is c.requires.seat c.requires.board c.index_mut.ensures.value c.try_step.ensures.same relation)
    c.try_step.ensures.looked

pub index_mut-requires : goal.index_mut-requires
index_mut-requires g c = grind (arith, common_steps)

pub try_step-requires : goal.try_step-requires
try_step-requires g c = grind (arith, common_steps)
