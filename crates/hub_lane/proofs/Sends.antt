-- Sends of a hub, one after another.
use Rattle.std.proofs.Common.{◌≡◌, ℕ, zero, suc, ◌≤◌, Option, Some, None}
use Rattle.std.proofs.Common.{refl, sym, ap, ◌∙◌, subst, arith}
use Rattle.world_model.specs.Hub.{Hub}
use Rattle.world_model.specs.Sends.{Next, next_send, pending}
use Rattle.reliable_engine.specs.Answers.{hub_next, sent_next}
use Rattle.links.proofs.Sends.{Fewer}
use Rattle.links.proofs.Sends.{none_by}
use Rattle.hub_lane.specs.Sends.{HasSent, after_sends, all_sent}

pub none_is : (old : Hub) → None ≡ sent_next (next_send old) → next_send old ≡ None
none_is old told = none_by (next_send old) told

pub same_hub : (old new : Hub) → None ≡ sent_next (next_send old) → new ≡ hub_next old (next_send old) → new ≡ old
same_hub old new told after = after ∙ ap (hub_next old) (none_is old told)

-- ---- counts of sends

no_more : (hub : Hub) (count : ℕ) → next_send hub ≡ None → after_sends count hub ≡ hub
no_more hub zero none = refl
no_more hub (suc count) none = ap (λ (r : Option Next). after_sends count (hub_next hub r)) none
    ∙ no_more hub count none

same_end_by : Fewer → (a b : ℕ) (hub : Hub) (r : Option Next) → next_send hub ≡ r → pending hub ≤ suc a
    → pending hub ≤ suc b
    → ((h : Hub) → pending h ≤ a → pending h ≤ b → after_sends a h ≡ after_sends b h)
    → after_sends a (hub_next hub r) ≡ after_sends b (hub_next hub r)
same_end_by law a b hub None is few less later = no_more hub a is ∙ sym (no_more hub b is)
same_end_by law a b hub (Some next) is few less later =
    let falls = law hub next is in
    later next.hub (omega arith) (omega arith)

none_pending : Fewer → (hub : Hub) (r : Option Next) → next_send hub ≡ r → pending hub ≤ 0 → next_send hub ≡ None
none_pending law hub None is few = is
none_pending law hub (Some next) is few = let falls = law hub next is in absurd (omega arith)

same_end : Fewer → (a b : ℕ) (hub : Hub) → pending hub ≤ a → pending hub ≤ b → after_sends a hub ≡ after_sends b hub
same_end law zero zero hub few less = refl
same_end law zero (suc b) hub few less = sym (no_more hub (suc b) (none_pending law hub (next_send hub) refl few))
same_end law (suc a) zero hub few less = no_more hub (suc a) (none_pending law hub (next_send hub) refl less)
same_end law (suc a) (suc b) hub few less =
    same_end_by law a b hub (next_send hub) refl few less (same_end law a b)

pub one_less : Fewer → (hub : Hub) (next : Next) → next_send hub ≡ Some next → all_sent next.hub ≡ all_sent hub
one_less law hub next is =
    let falls = law hub next is in
    same_end law (pending next.hub) (pending hub) next.hub (omega arith) (omega arith)
    ∙ (ap (λ (r : Option Next). after_sends (pending hub) (hub_next hub r)) (sym is)
    ∙ same_end law (suc (pending hub)) (pending hub) hub (omega arith) (omega arith))

pub all_out : (hub : Hub) → next_send hub ≡ None → all_sent hub ≡ hub
all_out hub none = no_more hub (pending hub) none

-- ---- some sends

pub one_after : (count : ℕ) (hub : Hub) → hub_next (after_sends count hub) (next_send (after_sends count hub))
    ≡ after_sends (suc count) hub
one_after zero hub = refl
one_after (suc count) hub = one_after count (hub_next hub (next_send hub))

pub sent_more : (begin old new : Hub) → new ≡ hub_next old (next_send old) → HasSent begin old → HasSent begin new
sent_more begin old new after is = record {
  count = suc is.count;
  sends = after ∙ (ap (λ (h : Hub). hub_next h (next_send h)) is.sends ∙ one_after is.count begin);
}

-- what each send keeps, some sends keep
kept_by : (Q : Hub → Type 0) → ((hub : Hub) (next : Next) → next_send hub ≡ Some next → Q hub → Q next.hub)
    → (hub : Hub) (r : Option Next) → next_send hub ≡ r → Q hub → Q (hub_next hub r)
kept_by Q law hub None is holds = holds
kept_by Q law hub (Some next) is holds = law hub next is holds

pub sends_keep : (Q : Hub → Type 0) → ((hub : Hub) (next : Next) → next_send hub ≡ Some next → Q hub → Q next.hub)
    → (count : ℕ) (hub : Hub) → Q hub → Q (after_sends count hub)
sends_keep Q law zero hub holds = holds
sends_keep Q law (suc count) hub holds =
    sends_keep Q law count (hub_next hub (next_send hub)) (kept_by Q law hub (next_send hub) refl holds)

pub sent_keeps : (Q : Hub → Type 0) → ((hub : Hub) (next : Next) → next_send hub ≡ Some next → Q hub → Q next.hub)
    → (old new : Hub) → HasSent old new → Q old → Q new
sent_keeps Q law old new is holds = subst Q (sym is.sends) (sends_keep Q law is.count old holds)

pub one_sent : (hub : Hub) (next : Next) → next_send hub ≡ Some next → HasSent hub next.hub
one_sent hub next is = record { count = 1; sends = ap (hub_next hub) (sym is) }
