use Rattle.std.proofs.Common.{arith}
use Rattle.std.proofs.lemmas.Grind.{common_steps}
use Rattle.std.proofs.lemmas.Result.{IfOk-weaker, on_err_weaker}
use Rattle.hub_multiplexer.specs.AnyCalls.{AskMeansAs, IsNone, MadeInTimeAs}
use Rattle.hub_multiplexer.proofs.Boards.{changes_at}
use Rattle.hub_multiplexer.proofs.hub.BoardHub.ask.Goals as goal

pub returns-clause-asked : goal.returns-clause-asked
returns-clause-asked g c =
    IfOk-weaker c.ask.result _ _ (λ answer relation. changes_at c.seat.inside.client c.seat.inside.passes.items
    c.args.seat.now c.args.self.now.turns c.args.board c.index_mut.result.now c.ask.new.pass
    (λ k. MadeInTimeAs g.V.AtHub.manner k (AskMeansAs g.V.AtHub.manner k answer))
    c.seat.view_is c.requires.seat c.requires.board c.index_mut.ensures.value c.ask.ensures.same relation)
    c.ask.ensures.asked

pub returns-clause-looked : goal.returns-clause-looked
returns-clause-looked g c =
    on_err_weaker c.ask.result (λ relation. changes_at c.seat.inside.client c.seat.inside.passes.items c.args.seat.now
    c.args.self.now.turns c.args.board c.index_mut.result.now c.ask.new.pass (λ k. MadeInTimeAs g.V.AtHub.manner k IsNone)
    c.seat.view_is c.requires.seat c.requires.board c.index_mut.ensures.value c.ask.ensures.same relation)
    c.ask.ensures.looked

pub index-requires : goal.index-requires
index-requires g c = grind (arith, common_steps)

pub index_mut-requires : goal.index_mut-requires
index_mut-requires g c = grind (arith, common_steps)

pub ask-requires : goal.ask-requires
ask-requires g c = grind (arith, common_steps)

pub invariant_of-seat : goal.invariant_of-seat
invariant_of-seat g c = grind (arith, common_steps)
