use Rattle.std.proofs.Common.{◌≡◌, ◌<◌, ◌∙◌, sym, ap, arith, subst}
use Rattle.reliable_engine.specs.Answers.{body_count}
use Rattle.world_model.specs.Sends.{pending}
use Rattle.world_model.specs.World.{World, flush}
use Rattle.world_core.specs.Steps.{HasSpellings, world_of}
use Rattle.world_core.proofs.Flushes.{all_flushed, put_flushed, put_smaller, sent_spelled}
use Rattle.links.proofs.Sends.{writable}
use Rattle.world_core.proofs.run.Run.flush.Goals as goal

pub put-requires : goal.put-requires
put-requires c =
    let spelled = sent_spelled c.only_an_offer_makes_more_bodies.ensures.sent c.loop-send.self.hub c.next_send.new.self
    c.next_send.ensures.hub c.loop-send.invariant.spellings in
    writable c.next_send.new.self c.in-Some.send c.in-Some.ensures.open_place spelled.sent

pub loop-send-smaller : goal.loop-send-smaller
loop-send-smaller c =
    let hub : c.put.new.self.hub ≡ c.next_send.new.self = ap (λ (w : World). w.hub) c.in_ok-put.ensures in
    let same : pending c.put.new.self.hub ≡ pending c.next_send.new.self = ap pending hub in
    let fewer : pending c.next_send.new.self < pending c.loop-send.self.hub =
    put_smaller c.sends_go_one_by_one.ensures.fewer c.loop-send.self.hub c.next_send.new.self c.in-Some.send
    c.in-Some.ensures.send c.next_send.ensures.hub in
    rw same fewer

pub loop-send-preserved : goal.loop-send-preserved
loop-send-preserved c =
    let w = world_of c.loop-send.self in
    let before = c.loop-send.invariant in
    let put = c.in_ok-put.ensures in
    let hub : c.put.new.self.hub ≡ c.next_send.new.self = ap (λ (v : World). v.hub) put in
    record {
      flushed = ap (λ (v : World). flush (pending v.hub) v) put
          ∙ (put_flushed c.sends_go_one_by_one.ensures.step w c.next_send.new.self c.in-Some.send
          c.in-Some.ensures.send c.next_send.ensures.hub ∙ before.flushed);
      spellings = subst HasSpellings (sym hub) (sent_spelled c.only_an_offer_makes_more_bodies.ensures.sent
          c.loop-send.self.hub c.next_send.new.self c.next_send.ensures.hub before.spellings);
      counted = let same : body_count c.put.new.self.hub ≡ body_count c.next_send.new.self = ap body_count hub in
          omega (arith, same, c.next_send.ensures.counted, before.counted);
    }

pub returns-clause-flushed : goal.returns-clause-flushed
returns-clause-flushed c =
    all_flushed c.sends_go_one_by_one.ensures.end (world_of c.loop-send.self) c.next_send.new.self
    c.in_default.ensures.send c.next_send.ensures.hub ∙ c.loop-send.invariant.flushed
