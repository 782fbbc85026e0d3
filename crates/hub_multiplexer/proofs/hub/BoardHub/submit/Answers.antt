use Rattle.std.proofs.Common.{arith}
use Rattle.std.proofs.lemmas.Grind.{common_steps}
use Rattle.std.proofs.lemmas.Result.{IfOk-weaker, IfErr-weaker}
use Rattle.hub_multiplexer.specs.AnyCalls.{HasSubmittedAs, MadeInTimeAs}
use Rattle.hub_multiplexer.proofs.Boards.{changes_at}
use Rattle.hub_multiplexer.proofs.hub.BoardHub.submit.Goals as goal

pub returns-clause-submitted : goal.returns-clause-submitted
returns-clause-submitted g c =
    IfOk-weaker c.submit.result _ _ (λ answer relation. changes_at c.seat.inside.client c.seat.inside.passes.items
    c.args.seat.now c.args.self.now.turns c.args.board c.index_mut.result.now c.submit.new.pass
    (λ k. MadeInTimeAs g.V.AtHub.manner k (HasSubmittedAs g.V.AtHub.manner k c.args.body answer))
    c.seat.view_is c.requires.seat c.requires.board c.index_mut.ensures.value c.submit.ensures.same relation)
    c.submit.ensures.submitted

pub returns-clause-refused : goal.returns-clause-refused
returns-clause-refused g c =
    IfErr-weaker c.submit.result _ _ (λ why relation. changes_at c.seat.inside.client c.seat.inside.passes.items
    c.args.seat.now c.args.self.now.turns c.args.board c.index_mut.result.now c.submit.new.pass
    (λ k. MadeInTimeAs g.V.AtHub.manner k (g.V.AtHub.manner.refuses k c.args.body why))
    c.seat.view_is c.requires.seat c.requires.board c.index_mut.ensures.value c.submit.ensures.same relation)
    c.submit.ensures.refused

pub index_mut-requires : goal.index_mut-requires
index_mut-requires g c = grind (arith, common_steps)

pub invariant_of-seat : goal.invariant_of-seat
invariant_of-seat g c = grind (arith, common_steps)
