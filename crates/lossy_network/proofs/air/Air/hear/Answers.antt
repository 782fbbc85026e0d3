use Rattle.std.proofs.Common.{◌≡◌, ◌∙◌, sym, ap, true}
use Rattle.std.specs.List.{slice_get}
use Rattle.world_model.specs.declared.datagram.Direction.TheVariants.{ToBoard}
use Rattle.world_model.specs.Links.{Told, heard_by}
use Rattle.lossy_network.specs.Airs.{may_hear, told_of}
use Rattle.lossy_network.proofs.AirHearing.{heard_count, heard_now, same_first}
use Rattle.lossy_network.proofs.air.Air.hear.Goals as goal

pub invariant_of-self-2 : goal.invariant_of-self-2
invariant_of-self-2 c =
    let i = c.self.inside in
    let told = told_of i in
    let board = c.hear_at.new.board in
    let air = c.hear_at.new.self in
    let heard = c.in_ok-hear_at.ensures.heard in
    let may : may_hear ToBoard i.sent (slice_get i.datagrams c.args.place) ≡ true =
    sym c.is_for.ensures.may ∙ c.if-not-is_for.false in
    let same = same_first told (record { board = board; air = air }) c.args.place c.a_link_forgets_nothing.ensures.board
    (heard_now told c.args.place i.sent board air c.self.invariant.sent may heard) in
    record {
      first = c.self.invariant.first ∙ sym same;
      sent = c.self.invariant.sent ∙ heard_count told i.sent c.args.place board air same heard;
    }

pub returns-clause-heard : goal.returns-clause-heard
returns-clause-heard c =
    let i = c.self.inside in
    let told = told_of i in
    let board = c.hear_at.new.board in
    let air = c.hear_at.new.self in
    let may : may_hear ToBoard i.sent (slice_get i.datagrams c.args.place) ≡ true =
    sym c.is_for.ensures.may ∙ c.if-not-is_for.false in
    ap (λ (t : Told). heard_by t (slice_get t.air c.args.place)) (sym c.self.view_is)
    ∙ heard_now told c.args.place i.sent board air c.self.invariant.sent may c.in_ok-hear_at.ensures.heard
