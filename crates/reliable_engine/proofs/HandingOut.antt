-- A hub that hands out what it has goes on as it would have: fates and late answers that wait change nothing else.
use Rattle.std.proofs.Common.{◌≡◌, ◌⊎◌, ℕ, ◌+◌, true, false, cond, List, [], ◌∷◌, ◌++◌, length, map, Option, Some, None}
use Rattle.std.proofs.Common.{refl, sym, ap, ◌∙◌, subst, inl, inr}
use Rattle.std.specs.Prelude.{◌↔◌, nat_le, nat_lt}
use Rattle.world_model.specs.declared.offered.Offered.{Offered}
use Rattle.world_model.specs.declared.offered.OpenPlace.{OpenPlace}
use Rattle.world_model.specs.declared.offered.Fate.{Fate}
use Rattle.world_model.specs.declared.offered.Fate.TheVariants.{Replied}
use Rattle.world_model.specs.declared.sending.Sending.{Sending}
use Rattle.world_model.specs.declared.sending.Sending.TheVariants as sends
use Rattle.world_model.specs.Places.{at_place}
use Rattle.world_model.specs.Messages.{ToHub, StatusReply, Reply, to_hub}
use Rattle.world_model.specs.Hub.{Hub, after_handing_out, after_recovery, give_up, hear_quiet, hear_status}
use Rattle.world_model.specs.Hub.{insert_fate, insert_late, low, open_with, settle, tag_of, take_message, time_out}
use Rattle.world_model.specs.Hub.{told_place, unsent_fate, want_status}
use Rattle.world_model.specs.Sends.{Next, Wanted, bytes_to_send, first_send, first_wanted, next_send, wanted_or_first}
use Rattle.reliable_engine.specs.Answers.{hub_next}
use Rattle.reliable_engine.specs.Events.{IsAmong}
use Rattle.reliable_engine.specs.MachineRuns.{HasLate, RunEvent, Offer, Send, Heard, Quiet, passed_in, passed_next, run_event}
use Rattle.reliable_engine.specs.Traffic.{Passed}
use Rattle.reliable_engine.specs.Traffic as passed
use Rattle.reliable_engine.proofs.AllFates.{insert_stands, stands_among, time_out_stands}
use Rattle.reliable_engine.proofs.Cases.{after_send}
use Rattle.packet_ids.specs.Identifier.{identifier_at}
use Rattle.world_model.specs.Sends.{opened_place}
use Rattle.reliable_engine.proofs.RunFates.{among_back, among_front, among_or, inserted_or, inserted_there}
use Rattle.reliable_engine.proofs.RunLates as lates
use Rattle.reliable_engine.proofs.RunFates.{timed_out_or, timed_out_there}

-- ---- what it sends

abbrev pub drained_next : Option Next → Option Next
drained_next None = None
drained_next (Some n) = Some (record { send = n.send; hub = after_handing_out n.hub })

first_same : (h : Hub) (queue : List Offered)
    → first_send (after_handing_out h) queue ≡ drained_next (first_send h queue)
first_same h [] = refl
first_same h (x ∷ later) =
    elim (nat_le (length h.sent + 1 + 1) (h.window + low h)) as (λ b. cond b
    (Some (record {
      send = sends.Control (length h.sent + 1) (identifier_at h.first (length h.sent + 1));
      hub = record (after_handing_out h) {
        sent = h.sent ++ x ∷ [];
        queue = later;
        open_places = h.open_places ++ opened_place (length h.sent + 1) ∷ [];
      };
    })) None ≡ drained_next (cond b (Some (record {
      send = sends.Control (length h.sent + 1) (identifier_at h.first (length h.sent + 1));
      hub = record h {
        sent = h.sent ++ x ∷ [];
        queue = later;
        open_places = h.open_places ++ opened_place (length h.sent + 1) ∷ [];
      };
    })) None)) [ true ↦ refl | false ↦ refl ]

wanted_same : (h : Hub) (r : Option Wanted)
    → wanted_or_first (after_handing_out h) r ≡ drained_next (wanted_or_first h r)
wanted_same h None = first_same h h.queue
wanted_same h (Some w) = refl

pub next_same : (h : Hub) → next_send (after_handing_out h) ≡ drained_next (next_send h)
next_same h =
    let r = first_wanted h.first h.open_places in
    elim h.status_wanted as (λ b. cond b
    (Some (record { send = sends.Status; hub = record (after_handing_out h) { status_wanted = false } }))
    (wanted_or_first (after_handing_out h) r)
    ≡ drained_next (cond b (Some (record { send = sends.Status; hub = record h { status_wanted = false } }))
    (wanted_or_first h r))) [ true ↦ refl | false ↦ wanted_same h r ]

bytes_same : (h : Hub) (s : Sending) → bytes_to_send (after_handing_out h) s ≡ bytes_to_send h s
bytes_same h sends.Status = refl
bytes_same h (sends.Resend id) = refl
bytes_same h (sends.Control place id) = refl

passed_same : (r : Option Next) → passed_next (drained_next r) ≡ passed_next r
passed_same None = refl
passed_same (Some n) = ap (λ (bytes : List ℕ). passed.Sent bytes ∷ []) (bytes_same n.hub n.send)

pub passes_same : (h : Hub) (event : RunEvent) → passed_in (after_handing_out h) event ≡ passed_in h event
passes_same h (Offer tag body) = refl
passes_same h Send = ap passed_next (next_same h) ∙ passed_same (next_send h)
passes_same h (Heard bytes) = refl
passes_same h Quiet = refl

-- ---- the hub after an event, but for what waits

abbrev pub IsSameBut : Hub → Hub → Type 0
IsSameBut drained hub = after_handing_out drained ≡ after_handing_out hub

sent_same : (h : Hub) (r : Option Next) → IsSameBut (hub_next (after_handing_out h) (drained_next r)) (hub_next h r)
sent_same h None = refl
sent_same h (Some n) = refl

settle_same : (h : Hub) (words : List ℕ) (r : Option OpenPlace)
    → IsSameBut (settle (after_handing_out h) words r) (settle h words r)
settle_same h words None = refl
settle_same h words (Some o) = refl

recovery_same : (h : Hub) (r : Option ℕ) → IsSameBut (after_recovery (after_handing_out h) r) (after_recovery h r)
recovery_same h None = refl
recovery_same h (Some told) = refl

status_same : (h : Hub) (next : ℕ) → IsSameBut (hear_status (after_handing_out h) next) (hear_status h next)
status_same h next =
    let r = told_place h next in
    elim (nat_lt 0 h.status_requests) as (λ b. IsSameBut
    (cond b (after_recovery (after_handing_out h) r) (after_handing_out h)) (cond b (after_recovery h r) h)) [
      | true ↦ recovery_same h r
      | false ↦ refl
    ]

message_same : (h : Hub) (m : Option ToHub) → IsSameBut (take_message (after_handing_out h) m) (take_message h m)
message_same h None = refl
message_same h (Some (StatusReply mtu buffers next)) = status_same h next
message_same h (Some (Reply id words)) = settle_same h words (open_with h.first id h.open_places)

quiet_same : (h : Hub) → IsSameBut (hear_quiet (after_handing_out h)) (hear_quiet h)
quiet_same h = elim (nat_lt h.status_requests h.rounds) as (λ b. IsSameBut
    (cond b (want_status (after_handing_out h)) (give_up (after_handing_out h))) (cond b (want_status h) (give_up h))) [
      | true ↦ refl
      | false ↦ refl
    ]

pub event_same : (h : Hub) (event : RunEvent) → IsSameBut (run_event (after_handing_out h) event) (run_event h event)
event_same h (Offer tag body) = refl
event_same h Send =
    ap (λ (r : Option Next). after_handing_out (hub_next (after_handing_out h) r)) (next_same h)
    ∙ sent_same h (next_send h)
event_same h (Heard bytes) = message_same h (to_hub bytes)
event_same h Quiet = quiet_same h

-- ---- the fates

-- among the fates are those that waited, and those that come where none waited
abbrev pub IsJoined : ℕ × Fate → List (ℕ × Fate) → Hub → Hub → Type 0
IsJoined fate waiting hub drained = IsAmong fate hub.fates ↔ (IsAmong fate waiting ⊎ IsAmong fate drained.fates)

none_new : (fate : ℕ × Fate) (waiting : List (ℕ × Fate)) → IsAmong fate waiting ↔ (IsAmong fate waiting ⊎ ⊥)
none_new fate waiting = (λ is. inl is, λ is. elim is [ inl old ↦ old | inr none ↦ absurd none ])

settle_joins : (fate : ℕ × Fate) (h : Hub) (words : List ℕ) (r : Option OpenPlace)
    → IsJoined fate h.fates (settle h words r) (settle (after_handing_out h) words r)
settle_joins fate h words None = none_new fate h.fates
settle_joins fate h words (Some o) =
    let new : ℕ × Fate = (tag_of (at_place h.sent o.place), Replied o.place words) in
    elim o.waited as (λ b. IsAmong fate (cond b (insert_fate o.place new h.fates) h.fates)
    ↔ (IsAmong fate h.fates ⊎ IsAmong fate (cond b (insert_fate o.place new []) []))) [
      | true ↦ (
        λ is. elim (inserted_or fate o.place new h.fates is) [
          | inl here ↦ inr (inl here)
          | inr old ↦ inl old
        ],
        λ is. elim is [
          | inl old ↦ stands_among fate h.fates (insert_fate o.place new h.fates) (insert_stands o.place new h.fates) old
          | inr come ↦ elim come [
            | inl here ↦ subst (λ (f : ℕ × Fate). IsAmong f (insert_fate o.place new h.fates)) (sym here)
                (inserted_there o.place new h.fates)
            | inr none ↦ absurd none
          ]
        ],
      )
      | false ↦ none_new fate h.fates
    ]

recovery_joins : (fate : ℕ × Fate) (h : Hub) (r : Option ℕ)
    → IsJoined fate h.fates (after_recovery h r) (after_recovery (after_handing_out h) r)
recovery_joins fate h None = none_new fate h.fates
recovery_joins fate h (Some told) = none_new fate h.fates

message_joins : (fate : ℕ × Fate) (h : Hub) (m : Option ToHub)
    → IsJoined fate h.fates (take_message h m) (take_message (after_handing_out h) m)
message_joins fate h None = none_new fate h.fates
message_joins fate h (Some (StatusReply mtu buffers next)) =
    let r = told_place h next in
    elim (nat_lt 0 h.status_requests) as (λ b. IsJoined fate h.fates (cond b (after_recovery h r) h)
    (cond b (after_recovery (after_handing_out h) r) (after_handing_out h))) [
      | true ↦ recovery_joins fate h r
      | false ↦ none_new fate h.fates
    ]
message_joins fate h (Some (Reply id words)) = settle_joins fate h words (open_with h.first id h.open_places)

end_joins : (fate : ℕ × Fate) (h : Hub) → IsJoined fate h.fates (give_up h) (give_up (after_handing_out h))
end_joins fate h =
    let timed = time_out h.rounds h.sent h.open_places in
    let unsent = map unsent_fate h.queue in (
      λ is. elim (among_or fate (timed h.fates) unsent is) [
        | inl come ↦ elim (timed_out_or h.rounds h.sent h.open_places h.fates fate come) [
          | inl old ↦ inl old
          | inr new ↦ inr (among_front fate (timed []) unsent
              (subst (λ (f : ℕ × Fate). IsAmong f (timed [])) (sym new.fate_is)
              (timed_out_there h.rounds h.sent h.open_places [] new.place new.waited)))
        ]
        | inr late ↦ inr (among_back fate (timed []) unsent late)
      ],
      λ is. elim is [
        | inl old ↦ among_front fate (timed h.fates) unsent
            (stands_among fate h.fates (timed h.fates) (time_out_stands h.rounds h.sent h.open_places h.fates) old)
        | inr come ↦ elim (among_or fate (timed []) unsent come) [
          | inl first ↦ elim (timed_out_or h.rounds h.sent h.open_places [] fate first) [
            | inl none ↦ absurd none
            | inr new ↦ among_front fate (timed h.fates) unsent
                (subst (λ (f : ℕ × Fate). IsAmong f (timed h.fates)) (sym new.fate_is)
                (timed_out_there h.rounds h.sent h.open_places h.fates new.place new.waited))
          ]
          | inr late ↦ among_back fate (timed h.fates) unsent late
        ]
      ],
    )

send_leaves : (h : Hub) → (hub_next h (next_send h)).fates ≡ h.fates
send_leaves h = after_send (λ (x : Hub). x.fates ≡ h.fates) h refl refl (λ w e. refl) (λ x later e room. refl)

pub event_joins : (fate : ℕ × Fate) (h : Hub) (event : RunEvent)
    → IsJoined fate h.fates (run_event h event) (run_event (after_handing_out h) event)
event_joins fate h (Offer tag body) = none_new fate h.fates
event_joins fate h Send =
    rw (send_leaves h, send_leaves (after_handing_out h)) (none_new fate h.fates)
event_joins fate h (Heard bytes) = message_joins fate h (to_hub bytes)
event_joins fate h Quiet = elim (nat_lt h.status_requests h.rounds) as (λ b. IsJoined fate h.fates
    (cond b (want_status h) (give_up h)) (cond b (want_status (after_handing_out h)) (give_up (after_handing_out h)))) [
      | true ↦ none_new fate h.fates
      | false ↦ end_joins fate h
    ]

-- ---- the late answers

abbrev pub IsJoinedLate : ℕ → List ℕ → List (ℕ × List ℕ) → Hub → Hub → Type 0
IsJoinedLate place words waiting hub drained =
    HasLate place words hub.lates ↔ (HasLate place words waiting ⊎ HasLate place words drained.lates)

no_late : (place : ℕ) (words : List ℕ) (waiting : List (ℕ × List ℕ))
    → HasLate place words waiting ↔ (HasLate place words waiting ⊎ ⊥)
no_late place words waiting = (λ is. inl is, λ is. elim is [ inl old ↦ old | inr none ↦ absurd none ])

settle_late : (place : ℕ) (words : List ℕ) (h : Hub) (told : List ℕ) (r : Option OpenPlace)
    → IsJoinedLate place words h.lates (settle h told r) (settle (after_handing_out h) told r)
settle_late place words h told None = no_late place words h.lates
settle_late place words h told (Some o) =
    let new : ℕ × List ℕ = (o.place, told) in
    elim o.waited as (λ b. HasLate place words (cond b h.lates (insert_late new h.lates))
    ↔ (HasLate place words h.lates ⊎ HasLate place words (cond b [] (insert_late new [])))) [
      | true ↦ no_late place words h.lates
      | false ↦ (
        λ is. elim (lates.inserted_or place words new h.lates is) [
          | inl here ↦ inr (inl here)
          | inr old ↦ inl old
        ],
        λ is. elim is [
          | inl old ↦ lates.stays_late place words new h.lates old
          | inr come ↦ elim come [
            | inl here ↦ subst (λ (x : ℕ × List ℕ). HasLate place words (insert_late x h.lates)) here
                (lates.inserted_there place words h.lates)
            | inr none ↦ absurd none
          ]
        ],
      )
    ]

recovery_late : (place : ℕ) (words : List ℕ) (h : Hub) (r : Option ℕ)
    → IsJoinedLate place words h.lates (after_recovery h r) (after_recovery (after_handing_out h) r)
recovery_late place words h None = no_late place words h.lates
recovery_late place words h (Some told) = no_late place words h.lates

message_late : (place : ℕ) (words : List ℕ) (h : Hub) (m : Option ToHub)
    → IsJoinedLate place words h.lates (take_message h m) (take_message (after_handing_out h) m)
message_late place words h None = no_late place words h.lates
message_late place words h (Some (StatusReply mtu buffers next)) =
    let r = told_place h next in
    elim (nat_lt 0 h.status_requests) as (λ b. IsJoinedLate place words h.lates (cond b (after_recovery h r) h)
    (cond b (after_recovery (after_handing_out h) r) (after_handing_out h))) [
      | true ↦ recovery_late place words h r
      | false ↦ no_late place words h.lates
    ]
message_late place words h (Some (Reply id told)) = settle_late place words h told (open_with h.first id h.open_places)

send_leaves_late : (h : Hub) → (hub_next h (next_send h)).lates ≡ h.lates
send_leaves_late h = after_send (λ (x : Hub). x.lates ≡ h.lates) h refl refl (λ w e. refl) (λ x later e room. refl)

pub event_late : (place : ℕ) (words : List ℕ) (h : Hub) (event : RunEvent)
    → IsJoinedLate place words h.lates (run_event h event) (run_event (after_handing_out h) event)
event_late place words h (Offer tag body) = no_late place words h.lates
event_late place words h Send =
    rw (send_leaves_late h, send_leaves_late (after_handing_out h)) (no_late place words h.lates)
event_late place words h (Heard bytes) = message_late place words h (to_hub bytes)
event_late place words h Quiet = elim (nat_lt h.status_requests h.rounds)
    as (λ b. IsJoinedLate place words h.lates (cond b (want_status h) (give_up h))
    (cond b (want_status (after_handing_out h)) (give_up (after_handing_out h)))) [
      | true ↦ no_late place words h.lates
      | false ↦ no_late place words h.lates
    ]
