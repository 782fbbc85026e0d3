use Rattle.std.proofs.Common.{IfSome, subst}
use Rattle.hub_lane.specs.Calls.{WasAsked}
use Rattle.hub_lane.proofs.Steps.{each_asked}
use Rattle.hub_lane.proofs.lane.Lane.oldest.Goals as goal

pub returns-clause-asked : goal.returns-clause-asked
returns-clause-asked g c =
    subst (λ lane. IfSome c.oldest.result (λ seq. WasAsked lane.items c.args.client seq)) c.self.view_is
    (each_asked c.self.inside.book.items _ c.args.client c.oldest.result c.self.invariant.0.kept.legal
    c.oldest.ensures.some)
