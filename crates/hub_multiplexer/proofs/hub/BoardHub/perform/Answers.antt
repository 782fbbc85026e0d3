use Rattle.std.proofs.Common.{arith}
use Rattle.std.proofs.lemmas.Grind.{common_steps}
use Rattle.std.proofs.lemmas.Result.{IfOk-weaker, on_err_weaker}
use Rattle.hub_multiplexer.specs.AnyCalls.{IsNone, MadeInTimeAs, PerformMeansAs}
use Rattle.hub_multiplexer.proofs.Boards.{changes_at}
use Rattle.hub_multiplexer.proofs.hub.BoardHub.perform.Goals as goal

pub returns-clause-performed : goal.returns-clause-performed
returns-clause-performed g c =
    IfOk-weaker c.perform.result _ _ (λ answer relation. changes_at c.seat.inside.client c.seat.inside.passes.items
    c.args.seat.now c.args.self.now.turns c.args.board c.index_mut.result.now c.perform.new.pass
    (λ k. MadeInTimeAs g.V.AtHub.manner k (PerformMeansAs g.V.AtHub.manner k answer))
    c.seat.view_is c.requires.seat c.requires.board c.index_mut.ensures.value c.perform.ensures.same relation)
    c.perform.ensures.performed

pub returns-clause-looked : goal.returns-clause-looked
returns-clause-looked g c =
    on_err_weaker c.perform.result (λ relation. changes_at c.seat.inside.client c.seat.inside.passes.items
    c.args.seat.now c.args.self.now.turns c.args.board c.index_mut.result.now c.perform.new.pass
    (λ k. MadeInTimeAs g.V.AtHub.manner k IsNone)
    c.seat.view_is c.requires.seat c.requires.board c.index_mut.ensures.value c.perform.ensures.same relation)
    c.perform.ensures.looked

pub index_mut-requires : goal.index_mut-requires
index_mut-requires g c = grind (arith, common_steps)

pub perform-requires : goal.perform-requires
perform-requires g c = grind (arith, common_steps)

pub invariant_of-seat : goal.invariant_of-seat
invariant_of-seat g c = grind (arith, common_steps)
