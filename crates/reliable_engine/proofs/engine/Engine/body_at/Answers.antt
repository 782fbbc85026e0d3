use Rattle.std.proofs.Common.{ap, sym, ◌∙◌, arith}
use Rattle.world_model.specs.declared.offered.Offered.{Offered}
use Rattle.world_model.specs.Places.{at_place}
use Rattle.world_model.specs.Hub.{Hub, words_of}
use Rattle.reliable_engine.proofs.Hubs.{open_of, at_front_of}
use Rattle.reliable_engine.proofs.engine.Engine.body_at.Goals as goal

pub overflow_sub-place : goal.overflow_sub-place
overflow_sub-place c = (open_of c.self.inside c.args.self.now c.args.place c.self.view_is c.self.invariant c.requires).0

pub index-requires : goal.index-requires
index-requires c =
    let at = open_of c.self.inside c.args.self.now c.args.place c.self.view_is c.self.invariant c.requires in
    omega (arith, at.0, at.1, c.self.invariant.within)

pub returns : goal.returns
returns c =
    let i = c.self.inside in
    let place = open_of i c.args.self.now c.args.place c.self.view_is c.self.invariant c.requires in
    let at = at_front_of i.bodies.items i.sent c.args.place c.index.result.now place.0 place.1
    c.self.invariant.within in
    c.as_slice.ensures
    ∙ (ap (λ (o : Offered). o.body) c.index.ensures
    ∙ sym (ap (λ (h : Hub). words_of (at_place h.sent c.args.place)) (sym c.self.view_is) ∙ ap words_of at))
