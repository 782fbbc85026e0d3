-- Sends one by one into the air of a world, and the bodies that a hub keeps meanwhile.
use Rattle.std.proofs.Common.{◌≡◌, ℕ, ◌<◌, Option, Some, None, refl, sym, ap, ◌∙◌, subst, arith}
use Rattle.reliable_engine.specs.Answers.{body_count, hub_next, sent_next}
use Rattle.world_model.specs.declared.sending.Sending.{Sending}
use Rattle.world_model.specs.Hub.{Hub}
use Rattle.world_model.specs.Sends.{Next, next_send, pending}
use Rattle.world_model.specs.World.{World, flush, with_hub}
use Rattle.world_model.specs.Facts.{HasBodies}
use Rattle.links.proofs.Sends.{EndsThere, Fewer, OneByOne, next_is, none_by}
use Rattle.world_core.specs.Steps.{HasSpellings, put_into}

pub put_flushed : OneByOne → (w : World) (hub : Hub) (send : Sending) → Some send ≡ sent_next (next_send w.hub)
    → hub ≡ hub_next w.hub (next_send w.hub)
    → flush (pending hub) (put_into (with_hub w hub) send) ≡ flush (pending w.hub) w
put_flushed law w hub send told after =
    sym (law w (record { send = send; hub = hub }) (next_is w.hub hub send told after))

pub put_smaller : Fewer → (old new : Hub) (send : Sending) → Some send ≡ sent_next (next_send old)
    → new ≡ hub_next old (next_send old) → pending new < pending old
put_smaller law old new send told after =
    law old (record { send = send; hub = new }) (next_is old new send told after)

pub all_flushed : EndsThere → (w : World) (hub : Hub) → None ≡ sent_next (next_send w.hub)
    → hub ≡ hub_next w.hub (next_send w.hub) → with_hub w hub ≡ flush (pending w.hub) w
all_flushed law w hub told after =
    let none = none_by (next_send w.hub) told in
    ap (with_hub w) (after ∙ ap (hub_next w.hub) none) ∙ sym (law w none)

-- what a law says of the bodies of a hub before and after an event
abbrev pub KeepsBodies : Hub → Hub → Type 0
KeepsBodies old new = (most : ℕ) → HasBodies most old → HasBodies most new

pub still_spelled : (old new : Hub) → KeepsBodies old new → HasSpellings old → HasSpellings new
still_spelled old new law is =
    let after = law (body_count old) (record { few = omega arith; sent = is.sent; queue = is.queue }) in
    record { sent = after.sent; queue = after.queue }

abbrev pub SendKeepsBodies : Type 0
SendKeepsBodies = (most : ℕ) (hub : Hub) (next : Next) → next_send hub ≡ Some next → HasBodies most hub
    → HasBodies most next.hub

spelled_by : SendKeepsBodies → (old new : Hub) (r : Option Next) → next_send old ≡ r → new ≡ hub_next old r
    → HasSpellings old → HasSpellings new
spelled_by law old new None is after spelled = subst HasSpellings (sym after) spelled
spelled_by law old new (Some next) is after spelled =
    subst HasSpellings (sym after) (still_spelled old next.hub (λ most. law most old next is) spelled)

pub sent_spelled : SendKeepsBodies → (old new : Hub) → new ≡ hub_next old (next_send old) → HasSpellings old
    → HasSpellings new
sent_spelled law old new after spelled = spelled_by law old new (next_send old) refl after spelled
