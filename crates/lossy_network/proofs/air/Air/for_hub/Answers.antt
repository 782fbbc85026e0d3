use Rattle.std.proofs.Common.{◌≡◌, ◌∙◌, sym, ap, subst, Some, true}
use Rattle.std.specs.List.{slice_get}
use Rattle.world_model.specs.declared.datagram.Direction.TheVariants.{ToHub}
use Rattle.world_model.specs.Links.{IsHandedAt, Told}
use Rattle.lossy_network.specs.Airs.{may_hear, told_of}
use Rattle.lossy_network.specs.Store.{datagram_of, lent_datagram}
use Rattle.lossy_network.proofs.Airs.{handed_at}
use Rattle.lossy_network.proofs.air.Air.for_hub.Goals as goal

pub returns-clause-some : goal.returns-clause-some
returns-clause-some c =
    let i = c.self.inside in
    let place = c.args.place in
    let datagram = datagram_of c.in-Some.datagram in
    let there : slice_get i.datagrams place ≡ Some datagram = sym c.get.ensures ∙ ap lent_datagram c.in-Some.is in
    let may : may_hear ToHub i.sent (slice_get i.datagrams place) ≡ true =
    ap (may_hear ToHub i.sent) there ∙ (sym c.may_hear.ensures ∙ c.if-not-may_hear.false) in
    subst (λ (told : Told). IsHandedAt told datagram.bytes place) c.self.view_is
    (handed_at (told_of i) place i.sent datagram c.self.invariant.sent there may)
