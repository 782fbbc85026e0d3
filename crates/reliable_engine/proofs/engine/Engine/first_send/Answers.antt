use Rattle.std.proofs.Common.{◌+◌, ◌∙◌, ℕ, Some, length, ap, sym, arith}
use Rattle.world_model.specs.declared.sending.Sending.TheVariants as sends
use Rattle.reliable_engine.specs.Answers.{sent_next, hub_next}
use Rattle.reliable_engine.proofs.Keeping.{keeps_push}
use Rattle.reliable_engine.proofs.Hubs.{low_of, first_sent, last_open}
use Rattle.reliable_engine.proofs.engine.Engine.first_send.Goals as goal

pub open-requires : goal.open-requires
open-requires c =
    let i = c.self.inside in
    let is = c.self.invariant in
    let low = low_of i c.args.self.now c.self.view_is is in
    record {
      from_one = omega arith;
      up_to_end = omega (arith, is.few, is.within, c.len.ensures, c.if-self-len.false);
      above = is.in_window.rising;
      near = omega (arith, c.if-place-self.false, c.low.ensures.low, low, is.in_window.few);
    }

pub invariant_of-self : goal.invariant_of-self
invariant_of-self c =
    let i = c.self.inside in
    let is = c.self.invariant in
    let low = low_of i c.args.self.now c.self.view_is is in
    rw c.open.ensures
    (keeps_push i.first i.window i.sent (length i.bodies.items) i.open_places i.fates.len i.fates.cap
    i.lates.len i.lates.cap is
    (omega (arith, c.len.ensures, is.within, c.if-self-len.false))
    (omega (arith, c.if-place-self.false, c.low.ensures.low, low)))

pub returns-clause-send : goal.returns-clause-send
returns-clause-send c =
    let i = c.self.inside in
    let is = c.self.invariant in
    let sent = first_sent i c.args.self.now c.open.new.self c.self.view_is is
    (omega (arith, c.len.ensures, is.within, c.if-self-len.false))
    (omega (arith, c.if-place-self.false, c.low.ensures.low)) c.open.ensures in
    ap (λ (n : ℕ). Some (sends.Control (i.sent + 1) n)) c.id_at.ensures.identifier ∙ sym (ap sent_next sent)

pub returns-clause-hub : goal.returns-clause-hub
returns-clause-hub c =
    let i = c.self.inside in
    let is = c.self.invariant in
    let sent = first_sent i c.args.self.now c.open.new.self c.self.view_is is
    (omega (arith, c.len.ensures, is.within, c.if-self-len.false))
    (omega (arith, c.if-place-self.false, c.low.ensures.low)) c.open.ensures in
    sym (ap (hub_next c.args.self.now) sent)

pub returns-clause-open_place : goal.returns-clause-open_place
returns-clause-open_place c =
    last_open c.self.inside.open_places c.open.new.self
    (c.self.inside.sent + 1) c.open.ensures
