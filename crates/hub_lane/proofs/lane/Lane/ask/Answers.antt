use Rattle.std.proofs.Common.{◌≡◌, ap, arith, subst}
use Rattle.hub_lane.specs.Calls.{Offers, OffersAs}
use Rattle.hub_lane.specs.Lanes.{board_of}
use Rattle.hub_lane.proofs.Asking.{asked_put}
use Rattle.hub_lane.proofs.InRounds.{asked_round}
use Rattle.hub_lane.proofs.lane.Lane.ask.Goals as goal

pub returns-in-Asked-clause-asked : goal.returns-in-Asked-clause-asked
returns-in-Asked-clause-asked g c = record {
  asked = c.offer_next.new.self;
  offers = subst (λ a. OffersAs c.args.self.now c.args.client c.offer_next.new.self a) c.in-Asked.is
      c.in_ok-seq.ensures.asked;
  sends = c.send_wanted.ensures.sends;
  same = c.send_wanted.ensures.same;
}

pub returns-in-Asked-clause-link : goal.returns-in-Asked-clause-link
returns-in-Asked-clause-link g c =
    let offers : Offers c.args.self.now c.args.client c.in-Asked.seq c.offer_next.new.self =
    subst (λ a. OffersAs c.args.self.now c.args.client c.offer_next.new.self a) c.in-Asked.is
    c.in_ok-seq.ensures.asked in
    let telling = g.L.Link.telling in
    asked_put telling c.args.self.now c.offer_next.new.self c.send_wanted.new.self c.args.client c.in-Asked.seq offers
    c.send_wanted.ensures.sends c.offer_next.ensures.link
    (subst (λ link. board_of (telling c.send_wanted.new.self.link) ≡ board_of (telling link)) c.offer_next.ensures.link
    c.send_wanted.ensures.unreceived.board) c.send_wanted.ensures.link

pub returns-in-Asked-clause-round : goal.returns-in-Asked-clause-round
returns-in-Asked-clause-round g c =
    let held = g.L.Link.held in
    asked_round g.L.Link c.args.self.now c.offer_next.new.self c.send_wanted.new.self
    (let same = ap held c.offer_next.ensures.link in omega (arith, same)) c.send_wanted.ensures.unreceived.held
    c.send_wanted.ensures.sends c.offer_next.ensures.round c.send_wanted.ensures.round
