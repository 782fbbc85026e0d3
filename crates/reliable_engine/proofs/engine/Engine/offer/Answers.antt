use Rattle.std.proofs.Common.{◌≡◌, ◌≤◌, ◌+◌, ◌-◌, ◌∙◌, length, ap, arith}
use Rattle.std.proofs.lemmas.List.{length_push}
use Rattle.reliable_engine.proofs.Keeping.{keeps_offer}
use Rattle.reliable_engine.proofs.Hubs.{few_bodies}
use Rattle.reliable_engine.proofs.engine.Engine.offer.Goals as goal

pub invariant_of-self-2 : goal.invariant_of-self-2
invariant_of-self-2 c =
    let i = c.self.inside in
    let is = c.self.invariant in
    let all = i.bodies.items in
    let few = few_bodies i c.args.self.now c.self.view_is c.requires.few in
    let more : length c.push.new.self.items ≡ length all + 1 =
    ap length c.in_default-push.ensures.items ∙ length_push all _ in
    let queue : c.len.result - i.sent ≡ length all - i.sent = omega (arith, c.len.ensures) in
    let room : i.fates.len + (i.window + (length all - i.sent) + 1) ≤ c.reserve.new.self.cap =
    omega (arith, c.in-Ok.ensures.ok, c.reserve.ensures.len) in
    let late : i.lates.len + (i.window + (length all - i.sent) + 1) ≤ c.reserve-2.new.self.cap =
    omega (arith, c.in-Ok-reserve.ensures.ok, c.reserve-2.ensures.len) in
    rw (c.reserve.ensures.len, c.reserve-2.ensures.len)
    (keeps_offer i.first i.window i.sent (length all) i.open_places i.fates.len i.fates.cap
    i.lates.len i.lates.cap _ _ _ is more few room late)
