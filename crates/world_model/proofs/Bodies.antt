-- What each event leaves of the bodies of a hub.
use Rattle.std.proofs.Common.{◌≡◌, ℕ, ◌+◌, List, [], ◌∷◌, ◌++◌, length, Option, Some, refl, sym, ap, subst}
use Rattle.std.proofs.Common.{arith, length-append}
use Rattle.std.specs.Prelude.{IfSome}
use Rattle.ipb_base.proofs.AllLemmas.{AllByRecursion-append}
use Rattle.world_model.specs.declared.offered.Offered.{Offered}
use Rattle.world_model.specs.Messages.{ToHub}
use Rattle.world_model.specs.Hub.{Hub, offer, take_message, hear_quiet}
use Rattle.world_model.specs.Sends.{Next, next_send}
use Rattle.world_model.specs.Facts.{HasBodies, IsSendable, AreSendable}
use Rattle.world_model.proofs.Flushing.{send_cases, message_cases, quiet_cases}

-- the same bodies
same_bodies : (most : ℕ) (h n : Hub) → n.sent ≡ h.sent → n.queue ≡ h.queue → HasBodies most h → HasBodies most n
same_bodies most h n sent queue is = record {
  few = omega (
    arith,
    is.few,
    ap (λ (xs : List Offered). length xs) sent,
    ap
        (λ (xs : List Offered). length xs) queue,
  );
  sent = subst AreSendable (sym sent) is.sent;
  queue = subst AreSendable (sym queue) is.queue;
}

first_sent : (most : ℕ) (h n : Hub) (o : Offered) (later : List Offered) → h.queue ≡ o ∷ later
    → n.sent ≡ h.sent ++ o ∷ [] → n.queue ≡ later
    → HasBodies most h → HasBodies most n
first_sent most h n o later front sent queue is =
    let all = subst AreSendable front is.queue in
    record {
      few = omega (
        arith,
        is.few,
        length-append h.sent (o ∷ []),
        ap (λ (xs : List Offered). length xs) front,
        ap
            (λ (xs : List Offered). length xs) sent,
        ap (λ (xs : List Offered). length xs) queue,
      );
      sent = subst AreSendable (sym sent) (AllByRecursion-append _ h.sent (o ∷ []) is.sent (all.0, tt));
      queue = subst AreSendable (sym queue) all.1;
    }

sent_by : (most : ℕ) (h : Hub) → HasBodies most h → IfSome (next_send h) (λ (n : Next). HasBodies most n.hub)
sent_by most h is = send_cases (λ (n : Next). HasBodies most n.hub) h
    (same_bodies most h _ refl refl is)
    (λ w _. same_bodies most h _ refl refl is)
    (λ o later front _. first_sent most h _ o later front refl refl is)

pub sent_bodies : (most : ℕ) (h : Hub) (n : Next) → next_send h ≡ Some n → HasBodies most h → HasBodies most n.hub
sent_bodies most h n e is = subst (λ (r : Option Next). IfSome r (λ (x : Next). HasBodies most x.hub)) e
    (sent_by most h is)

pub message_bodies : (most : ℕ) (h : Hub) (m : Option ToHub) → HasBodies most h → HasBodies most (take_message h m)
message_bodies most h m is = message_cases (HasBodies most) h m is
    (λ told. same_bodies most h _ refl refl is)
    (λ id words o found. same_bodies most h _ refl refl is)

pub quiet_bodies : (most : ℕ) (h : Hub) → HasBodies most h → HasBodies most (hear_quiet h)
quiet_bodies most h is = quiet_cases (HasBodies most) h
    (λ _. same_bodies most h _ refl refl is)
    (λ _. record { few = (let f = is.few in omega arith); sent = is.sent; queue = tt })

pub offered_bodies : (most : ℕ) (h : Hub) (o : Offered) → IsSendable o.body → HasBodies most h
    → HasBodies (most + 1) (offer h o)
offered_bodies most h o can is = record {
  few = omega (arith, is.few, length-append h.queue (o ∷ []));
  sent = is.sent;
  queue = AllByRecursion-append _ h.queue (o ∷ []) is.queue (can, tt);
}
