-- Lemmas on what a hub sends: a first send takes the front of the queue to the next place, others change flags alone.
use Rattle.std.proofs.Common.{◌≡◌, ℕ, ◌+◌, Bool, true, false, ◌||◌, List, [], ◌∷◌, ◌++◌, length, Option, Some, None}
use Rattle.std.proofs.Common.{refl, sym, ap, ◌∙◌, subst, if◌then◌else◌}
use Rattle.std.specs.Prelude.{nat_le}
use Rattle.std.specs.List.{AllByRecursion}
use Rattle.packet_ids.specs.Identifier.{identifier_at}
use Rattle.world_model.specs.declared.offered.Offered.{Offered}
use Rattle.world_model.specs.declared.offered.OpenPlace.{OpenPlace}
use Rattle.world_model.specs.declared.sending.Sending.TheVariants as sends
use Rattle.world_model.specs.Hub.{Hub, is_waiting, some_waited, some_queued, low, places}
use Rattle.world_model.specs.Sends.{Next, Wanted, next_send, first_wanted, wanted_or_first, first_send, after_open, opened_place}
use Rattle.world_model.specs.Facts.{IsWindow}
use Rattle.world_model.proofs.Lists.{either}
use Rattle.lane_record.specs.declared.outcome.Outcome.{Outcome}
use Rattle.lane_record.specs.Claims.{Claim}
use Rattle.lane_record.specs.Offers.{awaited_tags, tag_at, tags, Agrees}
use Rattle.lane_record.proofs.Events.{IsOpened, window_opened, first_agrees}

-- the hub after a send agrees with the same outcomes, and somebody waits as before
pub record IsSameSent (hub after : Hub) (cs : List Claim) (outs : List (Option Outcome)) : Type 0 where
  pub agrees : Agrees after.sent after.queue after.open_places cs outs
  pub waits : is_waiting after ≡ is_waiting hub

abbrev pub AfterSend : Hub → List Claim → List (Option Outcome) → Option Next → Type 0
AfterSend hub cs outs None = Unit {0}
AfterSend hub cs outs (Some next) = IsSameSent hub next.hub cs outs

or_append : (os ps : List OpenPlace) → some_waited (os ++ ps) ≡ (some_waited os || some_waited ps)
or_append [] ps = refl
or_append (o ∷ os) ps = elim o.waited as (λ b. (b || some_waited (os ++ ps))
    ≡ ((b || some_waited os) || some_waited ps)) [ true ↦ refl | false ↦ or_append os ps ]

or_true : (b : Bool) → (b || true) ≡ true
or_true true = refl
or_true false = refl

first_waits : (queue : List Offered) (os : List OpenPlace) (place : ℕ)
    → (some_queued queue || some_waited (os ++ opened_place place ∷ [])) ≡ true
first_waits queue os place = ap (λ (b : Bool). some_queued queue || b)
    (or_append os (opened_place place ∷ []) ∙ or_true (some_waited os)) ∙ or_true (some_queued queue)

after_first : (hub : Hub) (queue : List Offered) (cs : List Claim) (outs : List (Option Outcome)) → hub.queue ≡ queue
    → AllByRecursion (IsOpened (length hub.sent)) hub.open_places
    → Agrees hub.sent hub.queue hub.open_places cs outs → AfterSend hub cs outs (first_send hub queue)
after_first hub [] cs outs e opens is = tt
after_first hub (o ∷ later) cs outs e opens is =
    let place = length hub.sent + 1 in
    either (AfterSend hub cs outs) (nat_le (place + 1) (hub.window + low hub))
    (Some (record {
      send = sends.Control place (identifier_at hub.first place);
      hub = record hub
          { sent = hub.sent ++ o ∷ []; queue = later; open_places = hub.open_places ++ opened_place place ∷ [] };
    }))
    None
    (λ _. record {
      agrees = first_agrees hub.sent later o hub.open_places cs outs opens
          (subst (λ (q : List Offered). Agrees hub.sent q hub.open_places cs outs) e is);
      waits = first_waits later hub.open_places place ∙ sym (ap
          (λ (q : List Offered). some_queued q || some_waited hub.open_places) e);
    })
    (λ _. tt)

-- a wanted send changes flags alone
pub record SameWaits (os ps : List OpenPlace) : Type 0 where
  pub same : (sent : List Offered) → awaited_tags sent ps ≡ awaited_tags sent os
  pub some : some_waited ps ≡ some_waited os

abbrev pub SameWaitsOr : List OpenPlace → Option Wanted → Type 0
SameWaitsOr os None = Unit {0}
SameWaitsOr os (Some w) = SameWaits os w.open_places

after_waits : (o : OpenPlace) (os : List OpenPlace) (r : Option Wanted) → SameWaitsOr os r
    → SameWaitsOr (o ∷ os) (after_open o r)
after_waits o os None f = tt
after_waits o os (Some w) f = record {
  same = λ sent. ap (λ (l : List ℕ). if o.waited then tag_at sent o.place ∷ l else l) (f.same sent);
  some = ap (λ (b : Bool). o.waited || b) f.some;
}

wanted_waits : (first : ℕ) (os : List OpenPlace) → SameWaitsOr os (first_wanted first os)
wanted_waits first [] = tt
wanted_waits first (o ∷ os) =
    let later = after_open o (first_wanted first os) in
    let control = Some (record {
      send = sends.Control o.place
          (identifier_at first o.place);
      open_places = record o { control = false } ∷ os;
    }) in
    either (SameWaitsOr (o ∷ os)) o.resend (Some (record {
      send = sends.Resend
          (identifier_at first o.place);
      open_places = record o { resend = false } ∷ os;
    }))
    (if o.control then control else later)
    (λ _. record { same = λ sent. refl; some = refl })
    (λ _. either (SameWaitsOr (o ∷ os)) o.control control later
    (λ _. record { same = λ sent. refl; some = refl })
    (λ _. after_waits o os (first_wanted first os) (wanted_waits first os)))

after_wanted : (hub : Hub) (r : Option Wanted) (cs : List Claim) (outs : List (Option Outcome))
    → SameWaitsOr hub.open_places r → AllByRecursion (IsOpened (length hub.sent)) hub.open_places
    → Agrees hub.sent hub.queue hub.open_places cs outs → AfterSend hub cs outs (wanted_or_first hub r)
after_wanted hub None cs outs f opens is = after_first hub hub.queue cs outs refl opens is
after_wanted hub (Some w) cs outs f opens is = record {
  agrees = record {
    counts = is.counts;
    offered = is.offered;
    waits = ap (λ (l : List ℕ). l ++ tags hub.queue)
        (f.same hub.sent) ∙ is.waits;
  };
  waits = ap (λ (b : Bool). some_queued hub.queue || b) f.some;
}

pub after_send : (hub : Hub) (cs : List Claim) (outs : List (Option Outcome))
    → IsWindow hub.window (length hub.sent) (places hub.open_places) → Agrees hub.sent hub.queue hub.open_places cs outs
    → AfterSend hub cs outs (next_send hub)
after_send hub cs outs window is =
    either (AfterSend hub cs outs) hub.status_wanted (Some (record
    { send = sends.Status; hub = record hub { status_wanted = false } }))
    (wanted_or_first hub (first_wanted hub.first hub.open_places))
    (λ _. record { agrees = is; waits = refl })
    (λ _. after_wanted hub (first_wanted hub.first hub.open_places) cs outs (wanted_waits hub.first hub.open_places)
    (window_opened hub.window (length hub.sent) hub.open_places window) is)
