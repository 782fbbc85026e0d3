use Rattle.std.proofs.Common.{◌<◌, ◌+◌, ◌-◌, ℕ, ap, sym, subst, ◌∙◌, arith}
use Rattle.packet_ids.specs.Identifier.{IsPlaceOf}
use Rattle.world_model.specs.Hub.{Hub}
use Rattle.reliable_engine.proofs.Hubs.{sent_of, told_none, told_some}
use Rattle.reliable_engine.proofs.engine.Engine.told_place.Goals as goal

pub returns-in_err-ahead : goal.returns-in_err-ahead
returns-in_err-ahead c =
    let i = c.self.inside in
    let h = c.args.self.now in
    let low = c.low-low.result in
    let none = told_none h i.first low i.sent c.args.next (ap (λ (x : Hub). x.first) (sym c.self.view_is))
    c.low-low.ensures.low (sent_of i h c.self.view_is c.self.invariant) c.self.invariant.identifier
    c.low-low.ensures.from_one
    (subst (λ (first : ℕ). (k : ℕ) → IsPlaceOf first 1 (i.sent + 2 - low) c.args.next k → ⊥)
    c.id_at.ensures.identifier c.in_err-ahead.ensures.none) in
    c.from_residual.ensures ∙ sym none

pub returns : goal.returns
returns c =
    let i = c.self.inside in
    let h = c.args.self.now in
    let low = c.low-low.result in
    let sent = sent_of i h c.self.view_is c.self.invariant in
    let few : i.sent + 2 - low < 65535 = omega (arith, c.low-low.ensures.near, sent) in
    sym (told_some h i.first low i.sent c.args.next c.in_ok-ahead.ahead (ap (λ (x : Hub). x.first) (sym c.self.view_is))
    c.low-low.ensures.low sent c.self.invariant.identifier c.low-low.ensures.from_one few
    (subst (λ (first : ℕ). IsPlaceOf first 1 (i.sent + 2 - low) c.args.next c.in_ok-ahead.ahead)
    c.id_at.ensures.identifier c.in_ok-ahead.ensures.found))
