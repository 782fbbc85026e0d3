-- Which events of a run bring which late answers.
use Rattle.std.proofs.Common.{◌≡◌, ◌⊎◌, ℕ, Bool, true, false, cond, List, [], ◌∷◌, length, Option, Some, None}
use Rattle.std.proofs.Common.{refl, sym, ap, ◌∙◌, subst, inl, inr}
use Rattle.std.specs.Prelude.{nat_lt}
use Rattle.packet_ids.specs.Identifier.{identifier_at}
use Rattle.world_model.specs.declared.offered.OpenPlace.{OpenPlace}
use Rattle.world_model.specs.Messages.{ToHub, StatusReply, Reply, to_hub}
use Rattle.world_model.specs.Hub.{Hub, insert_late, open_with, places, settle, take_message}
use Rattle.world_model.specs.Facts.{AreSendable}
use Rattle.world_model.proofs.Flushing.{message_cases, quiet_cases, reply_cases, status_cases}
use Rattle.world_model.proofs.Lists.{either}
use Rattle.reliable_engine.specs.Answers.{IsOpen}
use Rattle.reliable_engine.specs.MachineRuns.{BringsLate, HasLate, HearsLate, IsBroughtLate, IsWaited, RunEvent, Offer}
use Rattle.reliable_engine.specs.MachineRuns.{Send, Heard, Quiet, offers_in, run_event, run_events}
use Rattle.reliable_engine.proofs.Cases.{after_send}
use Rattle.reliable_engine.proofs.Hubs.{names_none}
use Rattle.reliable_engine.proofs.Keeping.{found}
use Rattle.reliable_engine.proofs.MachineRuns.{IsAtWork, offers_cons, works_on}
use Rattle.reliable_engine.proofs.Places.{open_once}
use Rattle.reliable_engine.proofs.RunFates.{found_waited, hub_waits}
use Rattle.reliable_engine.proofs.Runs.{not_open}

-- ---- late answers among others

pub inserted_or : (place : ℕ) (words : List ℕ) (new : ℕ × List ℕ) (lates : List (ℕ × List ℕ))
    → HasLate place words (insert_late new lates) → ((place, words) ≡ new) ⊎ HasLate place words lates
inserted_or place words new [] (inl here) = inl here
inserted_or place words new [] (inr later) = absurd later
inserted_or place words new (l ∷ ls) is =
    either (λ (xs : List (ℕ × List ℕ)). HasLate place words xs → ((place, words) ≡ new) ⊎ HasLate place words (l ∷ ls))
    (nat_lt new.0 l.0) (new ∷ l ∷ ls) (l ∷ insert_late new ls)
    (λ _. λ among. elim among [ inl here ↦ inl here | inr later ↦ inr later ])
    (λ _. λ among. elim among [
      | inl here ↦ inr (inl here)
      | inr later ↦ elim (inserted_or place words new ls later) [ inl same ↦ inl same | inr old ↦ inr (inr old) ]
    ]) is

pub inserted_there : (place : ℕ) (words : List ℕ) (lates : List (ℕ × List ℕ))
    → HasLate place words (insert_late (place, words) lates)
inserted_there place words [] = inl refl
inserted_there place words (l ∷ ls) =
    either (HasLate place words) (nat_lt place l.0) ((place, words) ∷ l ∷ ls) (l ∷ insert_late (place, words) ls)
    (λ _. inl refl) (λ _. inr (inserted_there place words ls))

pub stays_late : (place : ℕ) (words : List ℕ) (new : ℕ × List ℕ) (lates : List (ℕ × List ℕ)) → HasLate place words lates
    → HasLate place words (insert_late new lates)
stays_late place words new [] is = absurd is
stays_late place words new (l ∷ ls) is =
    either (HasLate place words) (nat_lt new.0 l.0) (new ∷ l ∷ ls) (l ∷ insert_late new ls)
    (λ _. inr is)
    (λ _. elim is [ inl here ↦ inl here | inr later ↦ inr (stays_late place words new ls later) ])

-- ---- what a reply brings

not_waited : (h : Hub) (id : ℕ) (o : OpenPlace) → IsAtWork h → open_with h.first id h.open_places ≡ Some o
    → o.waited ≡ false → IsWaited h o.place → ⊥
not_waited h id o is told gone there =
    let at = hub_waits h o.place is there in
    let named = (found h.first id h.open_places o told).named in
    let same : Some at.entry ≡ Some o =
    sym at.found ∙ (ap (λ (k : ℕ). open_with h.first k h.open_places) named ∙ told) in
    let entry : at.entry ≡ o = cc in
    let bad : true ≡ false = sym at.waited ∙ (ap (λ (x : OpenPlace). x.waited) entry ∙ gone) in
    absurd (cc)

abbrev LateOr : Hub → List ℕ → ℕ → List ℕ → Type 0
LateOr h bytes place words = HasLate place words h.lates ⊎ HearsLate h bytes place words

reply_brings : (h : Hub) (bytes : List ℕ) (id : ℕ) (told : List ℕ) (o : OpenPlace) (place : ℕ) (words : List ℕ)
    → IsAtWork h → to_hub bytes ≡ Some (Reply id told) → open_with h.first id h.open_places ≡ Some o
    → HasLate place words (settle h told (Some o)).lates → LateOr h bytes place words
reply_brings h bytes id told o place words is read at among =
    let f = found h.first id h.open_places o at in
    either (λ (xs : List (ℕ × List ℕ)). HasLate place words xs → LateOr h bytes place words) o.waited h.lates
    (insert_late (o.place, told) h.lates)
    (λ _. λ there. inl there)
    (λ gone. λ there. elim (inserted_or place words (o.place, told) h.lates there) [
      | inl same ↦
          let hears : HearsLate h bytes o.place told = record {
            reply = read ∙ ap (λ (k : ℕ). Some (Reply k told)) (sym f.named);
            still_open = f.gone.there;
            has_fate = not_waited h id o is at gone;
          } in
          inr (subst (λ (x : ℕ × List ℕ). HearsLate h bytes x.0 x.1) (sym same) hears)
      | inr old ↦ inl old
    ]) among

message_brings : (h : Hub) (bytes : List ℕ) (m : Option ToHub) (place : ℕ) (words : List ℕ) → IsAtWork h
    → to_hub bytes ≡ m → HasLate place words (take_message h m).lates → LateOr h bytes place words
message_brings h bytes None place words is read among = inl among
message_brings h bytes (Some (StatusReply mtu buffers next)) place words is read among =
    status_cases (λ (x : Hub). HasLate place words x.lates → LateOr h bytes place words) h next
    (λ there. inl there) (λ told. λ there. inl there) among
message_brings h bytes (Some (Reply id told)) place words is read among =
    reply_cases (λ (x : Hub). HasLate place words x.lates → LateOr h bytes place words) h id told
    (λ there. inl there) (λ o at. λ there. reply_brings h bytes id told o place words is read at there) among

-- the open place with the identifier of an open place
pub record IsOpenFor (h : Hub) (place : ℕ) : Type 0 where
  pub entry : OpenPlace
  pub found : open_with h.first (identifier_at h.first place) h.open_places ≡ Some entry
  pub place_is : entry.place ≡ place

open_for : (h : Hub) (place : ℕ) → IsAtWork h → IsOpen h place → IsOpenFor h place
open_for h place is there =
    let id = identifier_at h.first place in
    let at = open_with h.first id h.open_places in
    elim at as (λ r. at ≡ r → IsOpenFor h place) [
      | None ↦ λ none. absurd (names_none h id none (record { place = place; open_there = there; identifier = refl }))
      | Some o ↦ λ told.
          let f = found h.first id h.open_places o told in
          record {
            entry = o;
            found = told;
            place_is = open_once h.first h.window (length h.sent) o.place place (places h.open_places) is.identifier
                is.window f.gone.there there f.named;
          }
    ] refl

late_there : (h : Hub) (bytes : List ℕ) (place : ℕ) (words : List ℕ) → IsAtWork h → HearsLate h bytes place words
    → HasLate place words (take_message h (to_hub bytes)).lates
late_there h bytes place words is hears =
    let at = open_for h place is hears.still_open in
    let o = at.entry in
    let gone : o.waited ≡ false = not_open o.waited (λ waited.
    hears.has_fate (subst (IsWaited h) at.place_is
    (found_waited h.first (identifier_at h.first place) h.open_places o at.found waited))) in
    let inserted : (settle h words (Some o)).lates ≡ insert_late (o.place, words) h.lates =
    ap (λ (b : Bool). cond b h.lates (insert_late (o.place, words) h.lates)) gone in
    let after : (take_message h (to_hub bytes)).lates ≡ insert_late (place, words) h.lates =
    ap (λ (m : Option ToHub). (take_message h m).lates) hears.reply
    ∙ (ap (λ (r : Option OpenPlace). (settle h words r).lates) at.found
    ∙ (inserted ∙ ap (λ (k : ℕ). insert_late (k, words) h.lates) at.place_is)) in
    subst (HasLate place words) (sym after) (inserted_there place words h.lates)

-- ---- one event

event_brings : (h : Hub) (event : RunEvent) (place : ℕ) (words : List ℕ) → IsAtWork h
    → HasLate place words (run_event h event).lates → HasLate place words h.lates ⊎ BringsLate h event place words
event_brings h (Offer tag body) place words is among = inl among
event_brings h Send place words is among =
    after_send (λ (x : Hub). HasLate place words x.lates → HasLate place words h.lates ⊎ ⊥) h (λ there. inl there)
    (λ there. inl there) (λ w e. λ there. inl there) (λ x later e room. λ there. inl there) among
event_brings h (Heard bytes) place words is among = message_brings h bytes (to_hub bytes) place words is refl among
event_brings h Quiet place words is among =
    quiet_cases (λ (x : Hub). HasLate place words x.lates → HasLate place words h.lates ⊎ ⊥) h
    (λ _. λ there. inl there) (λ _. λ there. inl there) among

brought_there : (h : Hub) (event : RunEvent) (place : ℕ) (words : List ℕ) → IsAtWork h → BringsLate h event place words
    → HasLate place words (run_event h event).lates
brought_there h (Offer tag body) place words is brings = absurd brings
brought_there h Send place words is brings = absurd brings
brought_there h (Heard bytes) place words is brings = late_there h bytes place words is brings
brought_there h Quiet place words is brings = absurd brings

message_keeps : (h : Hub) (m : Option ToHub) (place : ℕ) (words : List ℕ) → HasLate place words h.lates
    → HasLate place words (take_message h m).lates
message_keeps h m place words is =
    message_cases (λ (x : Hub). HasLate place words x.lates) h m is (λ _. is) (λ id told o e.
    either (HasLate place words) o.waited h.lates (insert_late (o.place, told) h.lates) (λ _. is)
    (λ _. stays_late place words (o.place, told) h.lates is))

event_keeps : (h : Hub) (event : RunEvent) (place : ℕ) (words : List ℕ) → HasLate place words h.lates
    → HasLate place words (run_event h event).lates
event_keeps h (Offer tag body) place words is = is
event_keeps h Send place words is =
    after_send (λ (x : Hub). HasLate place words x.lates) h is is (λ w e. is) (λ x later e room. is)
event_keeps h (Heard bytes) place words is = message_keeps h (to_hub bytes) place words is
event_keeps h Quiet place words is = quiet_cases (λ (x : Hub). HasLate place words x.lates) h (λ _. is) (λ _. is)

-- ---- a run

keeps_on : (h : Hub) (events : List RunEvent) (place : ℕ) (words : List ℕ) → HasLate place words h.lates
    → HasLate place words (run_events h events).lates
keeps_on h [] place words is = is
keeps_on h (event ∷ events) place words is =
    keeps_on (run_event h event) events place words (event_keeps h event place words is)

pub each_is_brought_late : (h : Hub) (events : List RunEvent) (place : ℕ) (words : List ℕ) → IsAtWork h
    → AreSendable (offers_in events) → HasLate place words (run_events h events).lates
    → HasLate place words h.lates ⊎ IsBroughtLate h events place words
each_is_brought_late h [] place words is can among = inl among
each_is_brought_late h (event ∷ events) place words is can among =
    let parts = offers_cons event events can in
    elim (each_is_brought_late (run_event h event) events place words (works_on h event parts.0 is) parts.1 among) [
      | inl there ↦ elim (event_brings h event place words is there) [
        | inl old ↦ inl old
        | inr new ↦ inr (inl new)
      ]
      | inr later ↦ inr (inr later)
    ]

pub each_late_is_there : (h : Hub) (events : List RunEvent) (place : ℕ) (words : List ℕ) → IsAtWork h
    → AreSendable (offers_in events) → IsBroughtLate h events place words
    → HasLate place words (run_events h events).lates
each_late_is_there h [] place words is can brought = absurd brought
each_late_is_there h (event ∷ events) place words is can (inl new) =
    keeps_on (run_event h event) events place words (brought_there h event place words is new)
each_late_is_there h (event ∷ events) place words is can (inr later) =
    let parts = offers_cons event events can in
    each_late_is_there (run_event h event) events place words (works_on h event parts.0 is) parts.1 later
