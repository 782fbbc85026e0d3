-- What the hub of a lane keeps, whatever the link does: its window, and bodies that can be sent.
use Rattle.std.proofs.Common.{◌≡◌, ℕ, ◌+◌, ◌≤◌, Bool, true, false, List, [], ◌∷◌, ◌++◌, length}
use Rattle.std.proofs.Common.{Option, Some, None, refl, sym, ap, ◌∙◌, subst, arith, length-append}
use Rattle.std.proofs.Math.Bool.{or-true}
use Rattle.std.specs.Prelude.{IfSome, ◌||◌}
use Rattle.std.proofs.lemmas.List.{map-append}
use Rattle.world_model.specs.declared.offered.Offered.{Offered}
use Rattle.world_model.specs.declared.offered.OpenPlace.{OpenPlace}
use Rattle.world_model.specs.Messages.{ToHub}
use Rattle.world_model.specs.Hub.{Hub, abandoned_place, hear_quiet, new_hub, offer, place_of, places, recover, take_message}
use Rattle.world_model.specs.Hub.{is_waiting, some_queued, some_waited, want_control}
use Rattle.world_model.specs.Sends.{Next, Wanted, after_open, next_send, opened_place, first_wanted}
use Rattle.world_model.specs.Facts.{IsWindow}
use Rattle.world_model.proofs.Lists.{either}
use Rattle.world_model.proofs.Places.{window_less, window_push}
use Rattle.world_model.proofs.Hubs.{IsWantedOr, places_map, places_without, recover_place, wanted_is}
use Rattle.world_model.proofs.Flushing.{message_cases, quiet_cases, send_cases}

-- the window of a hub
abbrev pub IsWindowed : Hub → Type 0
IsWindowed hub = IsWindow hub.window (length hub.sent) (places hub.open_places)

same_places : (hub : Hub) (os : List OpenPlace) → places os ≡ places hub.open_places → IsWindowed hub
    → IsWindow hub.window (length hub.sent) (places os)
same_places hub os same is = subst (IsWindow hub.window (length hub.sent)) (sym same) is

pub message_windowed : (hub : Hub) (message : Option ToHub) → IsWindowed hub → IsWindowed (take_message hub message)
message_windowed hub message is = message_cases IsWindowed hub message is
    (λ told. same_places hub _ (places_map (recover told) hub.open_places (recover_place told)) is)
    (λ id words o found. subst (IsWindow hub.window (length hub.sent)) (sym (places_without o.place hub.open_places))
    (window_less hub.window (length hub.sent) o.place (places hub.open_places) is))

pub quiet_windowed : (hub : Hub) → IsWindowed hub → IsWindowed (hear_quiet hub)
quiet_windowed hub is = quiet_cases IsWindowed hub (λ _. is)
    (λ _. same_places hub _ (places_map abandoned_place hub.open_places (λ _. refl)) is)

pub offer_windowed : (hub : Hub) (offered : Offered) → IsWindowed hub → IsWindowed (offer hub offered)
offer_windowed hub offered is = same_places hub _
    (either (λ (os : List OpenPlace). places os ≡ places hub.open_places) hub.gave_up _ _
    (λ _. places_map want_control hub.open_places (λ _. refl)) (λ _. refl)) is

wanted_same : (first : ℕ) (os : List OpenPlace) (r : Option Wanted) (w : Wanted) → r ≡ Some w → IsWantedOr first os r
    → places w.open_places ≡ places os
wanted_same first os None w e is = absurd cc
wanted_same first os (Some v) w e is = let same : v ≡ w = cc in subst (λ (x : Wanted). places x.open_places ≡ places os)
    same is.same

some_is : (Q : Next → Type 0) (r : Option Next) (next : Next) → r ≡ Some next → IfSome r Q → Q next
some_is Q r next e is = subst (λ (x : Option Next). IfSome x Q) e is

pub send_windowed : (hub : Hub) (next : Next) → next_send hub ≡ Some next → IsWindowed hub → IsWindowed next.hub
send_windowed hub next e is = some_is (λ (n : Next). IsWindowed n.hub) (next_send hub) next e
    (send_cases (λ (n : Next). IsWindowed n.hub) hub is
    (λ w wanted. same_places hub w.open_places
    (wanted_same hub.first hub.open_places _ w wanted (wanted_is hub.first hub.open_places)) is)
    (λ o later queue room.
    let longer : length (hub.sent ++ o ∷ []) ≡ length hub.sent + 1 = length-append hub.sent (o ∷ []) in
    let pushed : places (hub.open_places ++ opened_place (length hub.sent + 1) ∷ [])
    ≡ places hub.open_places ++ (length hub.sent + 1) ∷ [] =
    map-append place_of hub.open_places (opened_place (length hub.sent + 1) ∷ []) in
    rw (longer, pushed) (window_push hub.window (length hub.sent) (places hub.open_places) is (omega arith))))

pub new_windowed : (first window rounds : ℕ) → window ≤ 16 → 1 ≤ window → IsWindowed (new_hub first window rounds)
new_windowed first window rounds few one =
    record { few = few; rising = omega arith; from_one = omega arith; within = omega arith }

-- ---- what a send leaves

or_append : (os ps : List OpenPlace) → some_waited (os ++ ps) ≡ (some_waited os || some_waited ps)
or_append [] ps = refl
or_append (o ∷ os) ps = elim o.waited
    as (λ b. (b || some_waited (os ++ ps)) ≡ ((b || some_waited os) || some_waited ps)) [
      | true ↦ refl
      | false ↦ or_append os ps
    ]

abbrev pub SameWaits : List OpenPlace → Option Wanted → Type 0
SameWaits os None = Unit {0}
SameWaits os (Some w) = some_waited w.open_places ≡ some_waited os

after_waits : (o : OpenPlace) (os : List OpenPlace) (r : Option Wanted) → SameWaits os r
    → SameWaits (o ∷ os) (after_open o r)
after_waits o os None same = tt
after_waits o os (Some w) same = ap (λ (b : Bool). o.waited || b) same

wanted_waits : (first : ℕ) (os : List OpenPlace) → SameWaits os (first_wanted first os)
wanted_waits first [] = tt
wanted_waits first (o ∷ os) = either (SameWaits (o ∷ os)) o.resend _ _ (λ _. refl)
    (λ _. either (SameWaits (o ∷ os)) o.control _ _ (λ _. refl)
    (λ _. after_waits o os (first_wanted first os) (wanted_waits first os)))

-- the numbers that no send changes, and whether somebody waits
pub record IsSameBut (hub after : Hub) : Type 0 where
  pub first : after.first ≡ hub.first
  pub window : after.window ≡ hub.window
  pub rounds : after.rounds ≡ hub.rounds
  pub status_requests : after.status_requests ≡ hub.status_requests
  pub waits : is_waiting after ≡ is_waiting hub

pub send_same : (hub : Hub) (next : Next) → next_send hub ≡ Some next → IsSameBut hub next.hub
send_same hub next e = some_is (λ (n : Next). IsSameBut hub n.hub) (next_send hub) next e
    (send_cases (λ (n : Next). IsSameBut hub n.hub) hub
    (record { first = refl; window = refl; rounds = refl; status_requests = refl; waits = refl })
    (λ w is. record {
      first = refl;
      window = refl;
      rounds = refl;
      status_requests = refl;
      waits = ap (λ (b : Bool). some_queued hub.queue || b)
          (subst (SameWaits hub.open_places) is (wanted_waits hub.first hub.open_places));
    })
    (λ o later queue room. record {
      first = refl;
      window = refl;
      rounds = refl;
      status_requests = refl;
      waits = ap (λ (b : Bool). some_queued later || b)
          (or_append hub.open_places (opened_place (length hub.sent + 1) ∷ []) ∙ or-true (some_waited hub.open_places))
          ∙ (or-true (some_queued later)
          ∙ sym (ap (λ (queue_is : List Offered). some_queued queue_is || some_waited hub.open_places) queue));
    }))

pub same_on : (begin hub : Hub) (next : Next) → next_send hub ≡ Some next → IsSameBut begin hub
    → IsSameBut begin next.hub
same_on begin hub next e is =
    let one = send_same hub next e in
    record {
      first = one.first ∙ is.first;
      window = one.window ∙ is.window;
      rounds = one.rounds ∙ is.rounds;
      status_requests = one.status_requests ∙ is.status_requests;
      waits = one.waits ∙ is.waits;
    }

pub same_here : (hub : Hub) → IsSameBut hub hub
same_here hub = record { first = refl; window = refl; rounds = refl; status_requests = refl; waits = refl }
