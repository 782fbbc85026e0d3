use Rattle.std.proofs.Common.{arith}
use Rattle.std.proofs.lemmas.Grind.{common_steps}
use Rattle.std.proofs.lemmas.Result.{IfOk-weaker, on_err_weaker}
use Rattle.hub_multiplexer.specs.AnyCalls.{AskTriedAs, IsNone, MadeAs}
use Rattle.hub_multiplexer.proofs.Boards.{changes_at}
use Rattle.hub_multiplexer.proofs.hub.BoardHub.try_ask.Goals as goal

pub returns-clause-tried : goal.returns-clause-tried
returns-clause-tried g c =
    IfOk-weaker c.try_ask.result _ _ (λ answer relation. changes_at c.seat.inside.client c.seat.inside.passes.items
    c.args.seat.now c.args.self.now.turns c.args.board c.index_mut.result.now c.try_ask.new.pass
    (λ k. AskTriedAs g.V.AtHub.manner k answer)
    c.seat.view_is c.requires.seat c.requires.board c.index_mut.ensures.value c.try_ask.ensures.same relation)
    c.try_ask.ensures.tried

pub returns-clause-looked : goal.returns-clause-looked
returns-clause-looked g c =
    on_err_weaker c.try_ask.result (λ relation. changes_at c.seat.inside.client c.seat.inside.passes.items
    c.args.seat.now c.args.self.now.turns c.args.board c.index_mut.result.now c.try_ask.new.pass
    (λ k. MadeAs g.V.AtHub.manner k IsNone)
    c.seat.view_is c.requires.seat c.requires.board c.index_mut.ensures.value c.try_ask.ensures.same relation)
    c.try_ask.ensures.looked

pub index_mut-requires : goal.index_mut-requires
index_mut-requires g c = grind (arith, common_steps)

pub try_ask-requires : goal.try_ask-requires
try_ask-requires g c = grind (arith, common_steps)

pub invariant_of-seat : goal.invariant_of-seat
invariant_of-seat g c = grind (arith, common_steps)
