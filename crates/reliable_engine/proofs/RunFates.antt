-- Which events of a run bring which fates.
use Rattle.std.proofs.Common.{◌≡◌, ◌⊎◌, ℕ, ◌+◌, ◌≤◌, ◌<◌, ◌==◌, ◌||◌, Bool, true, false, cond, List, [], ◌∷◌, ◌++◌, map}
use Rattle.std.proofs.Common.{length, Option, Some, None, refl, sym, ap, ◌∙◌, subst, inl, inr, arith}
use Rattle.std.proofs.lemmas.Bool.{eq-eqb}
use Rattle.std.proofs.lemmas.Bool.Decides.{eqb_tells}
use Rattle.packet_ids.specs.Identifier.{IsIdentifier, identifier_at}
use Rattle.world_model.specs.declared.offered.Offered.{Offered}
use Rattle.world_model.specs.declared.offered.OpenPlace.{OpenPlace}
use Rattle.world_model.specs.declared.offered.Fate.{Fate}
use Rattle.world_model.specs.declared.offered.Fate.TheVariants.{Replied, TimedOut, Unsent}
use Rattle.world_model.specs.Places.{at_place}
use Rattle.world_model.specs.Messages.{ToHub, StatusReply, Reply, to_hub}
use Rattle.world_model.specs.Hub.{Hub, give_up, goes_before, hear_quiet, insert_fate, least, open_with, places, settle, tag_of}
use Rattle.world_model.specs.Hub.{take_message, time_out, unsent_fate}
use Rattle.world_model.specs.Facts.{AreRising, AreSendable, IsTagged, has}
use Rattle.world_model.proofs.Flushing.{quiet_cases, reply_cases, status_cases}
use Rattle.world_model.proofs.Hubs.{has_first, has_later, tagged}
use Rattle.world_model.proofs.Lists.{differ, either}
use Rattle.world_model.proofs.Places.{has_below, has_from, one_place}
use Rattle.reliable_engine.specs.Events.{IsAmong, IsOutOfRounds}
use Rattle.reliable_engine.specs.MachineRuns.{Brings, EndsUnsent, EndsWaiting, HasTag, HearsReply, IsBrought, IsWaited}
use Rattle.reliable_engine.specs.MachineRuns.{QuietBrings, ReplyBrings, RunEvent, Offer, Send, Heard, Quiet, engine_events}
use Rattle.reliable_engine.specs.MachineRuns.{offers_in, run_event, run_events}
use Rattle.reliable_engine.specs.ToldFates.{waited_places}
use Rattle.reliable_engine.proofs.AllFates.{fate_waits, stands_among, time_out_stands}
use Rattle.reliable_engine.proofs.Cases.{after_send}
use Rattle.reliable_engine.proofs.Keeping.{found}
use Rattle.reliable_engine.proofs.MachineRuns.{IsAtWork, hands_none, offers_cons, run_is, works_on}
use Rattle.reliable_engine.proofs.Places.{open_sent}
use Rattle.reliable_engine.proofs.Rests.{quiet_ends}

-- ---- places that are waited for

waited_open : (place : ℕ) (os : List OpenPlace) → has place (waited_places os) ≡ true → has place (places os) ≡ true
waited_open place [] there = there
waited_open place (o ∷ os) there = elim o.waited as (λ b. has place (cond b (o.place ∷ waited_places os) (waited_places os))
    ≡ true → has place (o.place ∷ places os) ≡ true) [
      | true ↦ elim (o.place == place) as (λ b. (b || has place (waited_places os)) ≡ true
          → (b || has place (places os)) ≡ true) [
            | true ↦ λ _. refl
            | false ↦ λ is. waited_open place os is
          ]
      | false ↦ λ is. has_later place o.place (places os) (waited_open place os is)
    ] there

waited_later : (place : ℕ) (o : OpenPlace) (os : List OpenPlace) → has place (waited_places os) ≡ true
    → has place (waited_places (o ∷ os)) ≡ true
waited_later place o os is =
    either (λ (ps : List ℕ). has place ps ≡ true) o.waited (o.place ∷ waited_places os) (waited_places os)
    (λ _. has_later place o.place (waited_places os) is) (λ _. is)

waited_first : (o : OpenPlace) (os : List OpenPlace) → o.waited ≡ true → has o.place (waited_places (o ∷ os)) ≡ true
waited_first o os waited =
    either (λ (ps : List ℕ). has o.place ps ≡ true) o.waited (o.place ∷ waited_places os) (waited_places os)
    (λ _. has_first o.place (waited_places os)) (λ e. absurd (let bad = sym waited ∙ e in cc))

-- the open place that has an identifier, if it is waited for
pub found_waited : (first id : ℕ) (os : List OpenPlace) (o : OpenPlace) → open_with first id os ≡ Some o → o.waited ≡ true
    → has o.place (waited_places os) ≡ true
found_waited first id [] o e waited = absurd (cc)
found_waited first id (x ∷ os) o e waited =
    elim (identifier_at first x.place == id) as (λ b. cond b (Some x) (open_with first id os) ≡ Some o
    → has o.place (waited_places (x ∷ os)) ≡ true) [
      | true ↦ λ here.
          let same : x ≡ o = cc in
          subst (λ (y : OpenPlace). has y.place (waited_places (x ∷ os)) ≡ true) same
          (waited_first x os (ap (λ (y : OpenPlace). y.waited) same ∙ waited))
      | false ↦ λ later. waited_later o.place x os (found_waited first id os o later waited)
    ] e

-- the place that is waited for has its identifier alone
pub record IsWaitedFor (first place : ℕ) (os : List OpenPlace) : Type 0 where
  pub entry : OpenPlace
  pub found : open_with first (identifier_at first place) os ≡ Some entry
  pub waited : entry.waited ≡ true
  pub place_is : entry.place ≡ place

waited_here : (first place from past : ℕ) (o : OpenPlace) (os : List OpenPlace) → AreRising from past (places (o ∷ os))
    → o.place ≡ place → has place (waited_places (o ∷ os)) ≡ true → IsWaitedFor first place (o ∷ os)
waited_here first place from past o os rising here there =
    let named : open_with first (identifier_at first place) (o ∷ os) ≡ Some o =
    rw (eq-eqb _ _ (ap (identifier_at first) here)) refl in
    record {
      entry = o;
      found = named;
      waited = elim o.waited as (λ b. has place (cond b (o.place ∷ waited_places os) (waited_places os)) ≡ true
          → b ≡ true) [
            | true ↦ λ _. refl
            | false ↦ λ is.
                let later = has_from place (o.place + 1) past (places os) rising.1 (waited_open place os is) in
                absurd (omega (arith, here))
          ] there;
      place_is = here;
    }

waited_not_here : (place : ℕ) (o : OpenPlace) (os : List OpenPlace) → (o.place == place) ≡ false
    → has place (waited_places (o ∷ os)) ≡ true → has place (waited_places os) ≡ true
waited_not_here place o os apart there = elim o.waited
    as (λ b. has place (cond b (o.place ∷ waited_places os) (waited_places os)) ≡ true
    → has place (waited_places os) ≡ true) [
      | true ↦ λ is. (let e : has place (o.place ∷ waited_places os) ≡ has place (waited_places os) =
          rw apart refl in sym e ∙ is)
      | false ↦ λ is. is
    ] there

waited_for : (first place from past : ℕ) (os : List OpenPlace) → IsIdentifier first → 1 ≤ from → past < from + 65535
    → AreRising from past (places os) → has place (waited_places os) ≡ true → IsWaitedFor first place os
waited_for first place from past [] id one near rising there = absurd (cc)
waited_for first place from past (o ∷ os) id one near rising there = elim (eqb_tells o.place place) [
  | inl here ↦ waited_here first place from past o os rising here.1 there
  | inr apart ↦
      let later = waited_not_here place o os apart.0 there in
      let is = waited_for first place (o.place + 1) past os id (omega arith) (omega (arith, rising.0)) rising.1 later in
      let at = has_from place (o.place + 1) past (places os) rising.1 (waited_open place os later) in
      let below = has_below place (o.place + 1) past (places os) rising.1 (waited_open place os later) in
      let other : (identifier_at first o.place == identifier_at first place) ≡ false = differ _ _ (λ same.
      let e = one_place first o.place place id (omega (arith, rising.0)) (omega arith) (omega arith)
      (omega (arith, rising.0)) same in absurd (omega arith)) in
      let named : open_with first (identifier_at first place) (o ∷ os)
      ≡ open_with first (identifier_at first place) os = rw other refl in
      record { entry = is.entry; found = named ∙ is.found; waited = is.waited; place_is = is.place_is }
]

pub hub_waits : (h : Hub) (place : ℕ) → IsAtWork h → IsWaited h place → IsWaitedFor h.first place h.open_places
hub_waits h place is there =
    let ps = places h.open_places in
    waited_for h.first place (least ps (length h.sent + 1)) (length h.sent + 1) h.open_places is.identifier
    is.window.from_one (omega (arith, is.window.within, is.window.few)) is.window.rising there

-- the body at a place that is waited for
waited_tagged : (h : Hub) (place : ℕ) → IsAtWork h → IsWaited h place
    → IsTagged h.sent (tag_of (at_place h.sent place)) place
waited_tagged h place is there =
    let at = open_sent h.window (length h.sent) place (places h.open_places) is.window
    (waited_open place h.open_places there) in
    tagged h.sent place at.0 at.1

tag_at : (sent : List Offered) (tag place : ℕ) → IsTagged sent tag place → tag_of (at_place sent place) ≡ tag
tag_at sent tag place is = ap tag_of is.at ∙ is.tag_is

-- ---- fates among others

pub inserted_or : (fate : ℕ × Fate) (place : ℕ) (new : ℕ × Fate) (fates : List (ℕ × Fate))
    → IsAmong fate (insert_fate place new fates) → (fate ≡ new) ⊎ IsAmong fate fates
inserted_or fate place new [] (inl here) = inl here
inserted_or fate place new [] (inr later) = absurd later
inserted_or fate place new (f ∷ fs) is =
    either (λ (xs : List (ℕ × Fate)). IsAmong fate xs → (fate ≡ new) ⊎ IsAmong fate (f ∷ fs)) (goes_before place f.1)
    (new ∷ f ∷ fs) (f ∷ insert_fate place new fs)
    (λ _. λ among. elim among [ inl here ↦ inl here | inr later ↦ inr later ])
    (λ _. λ among. elim among [
      | inl here ↦ inr (inl here)
      | inr later ↦ elim (inserted_or fate place new fs later) [ inl same ↦ inl same | inr old ↦ inr (inr old) ]
    ]) is

pub inserted_there : (place : ℕ) (new : ℕ × Fate) (fates : List (ℕ × Fate)) → IsAmong new (insert_fate place new fates)
inserted_there place new [] = inl refl
inserted_there place new (f ∷ fs) =
    either (IsAmong new) (goes_before place f.1) (new ∷ f ∷ fs) (f ∷ insert_fate place new fs)
    (λ _. inl refl) (λ _. inr (inserted_there place new fs))

pub among_or : (fate : ℕ × Fate) (xs ys : List (ℕ × Fate)) → IsAmong fate (xs ++ ys) → IsAmong fate xs ⊎ IsAmong fate ys
among_or fate [] ys is = inr is
among_or fate (x ∷ xs) ys (inl here) = inl (inl here)
among_or fate (x ∷ xs) ys (inr later) = elim (among_or fate xs ys later) [
  | inl front ↦ inl (inr front)
  | inr back ↦ inr back
]

pub among_front : (fate : ℕ × Fate) (xs ys : List (ℕ × Fate)) → IsAmong fate xs → IsAmong fate (xs ++ ys)
among_front fate [] ys is = absurd is
among_front fate (x ∷ xs) ys (inl here) = inl here
among_front fate (x ∷ xs) ys (inr later) = inr (among_front fate xs ys later)

pub among_back : (fate : ℕ × Fate) (xs ys : List (ℕ × Fate)) → IsAmong fate ys → IsAmong fate (xs ++ ys)
among_back fate [] ys is = is
among_back fate (x ∷ xs) ys is = inr (among_back fate xs ys is)

-- ---- time-outs

pub record IsTimeOut (rounds : ℕ) (sent : List Offered) (os : List OpenPlace) (fate : ℕ × Fate) : Type 0 where
  pub place : ℕ
  pub waited : has place (waited_places os) ≡ true
  pub fate_is : fate ≡ (tag_of (at_place sent place), TimedOut place rounds)

pub timed_out_or : (rounds : ℕ) (sent : List Offered) (os : List OpenPlace) (fates : List (ℕ × Fate)) (fate : ℕ × Fate)
    → IsAmong fate (time_out rounds sent os fates) → IsAmong fate fates ⊎ IsTimeOut rounds sent os fate
timed_out_or rounds sent [] fates fate is = inl is
timed_out_or rounds sent (o ∷ os) fates fate is =
    let new : ℕ × Fate = (tag_of (at_place sent o.place), TimedOut o.place rounds) in
    let further : IsTimeOut rounds sent os fate → IsTimeOut rounds sent (o ∷ os) fate =
    λ later. record { place = later.place; waited = waited_later later.place o os later.waited; fate_is = later.fate_is } in
    either (λ (xs : List (ℕ × Fate)). IsAmong fate (time_out rounds sent os xs)
    → IsAmong fate fates ⊎ IsTimeOut rounds sent (o ∷ os) fate) o.waited (insert_fate o.place new fates) fates
    (λ waited. λ among. elim (timed_out_or rounds sent os (insert_fate o.place new fates) fate among) [
      | inl inserted ↦ elim (inserted_or fate o.place new fates inserted) [
        | inl same ↦ inr (record { place = o.place; waited = waited_first o os waited; fate_is = same })
        | inr old ↦ inl old
      ]
      | inr later ↦ inr (further later)
    ])
    (λ _. λ among. elim (timed_out_or rounds sent os fates fate among) [
      | inl old ↦ inl old
      | inr later ↦ inr (further later)
    ]) is

pub timed_out_there : (rounds : ℕ) (sent : List Offered) (os : List OpenPlace) (fates : List (ℕ × Fate)) (place : ℕ)
    → has place (waited_places os) ≡ true
    → IsAmong (tag_of (at_place sent place), TimedOut place rounds) (time_out rounds sent os fates)
timed_out_there rounds sent [] fates place there = absurd (cc)
timed_out_there rounds sent (o ∷ os) fates place there =
    let new : ℕ × Fate = (tag_of (at_place sent o.place), TimedOut o.place rounds) in
    let fate : ℕ × Fate = (tag_of (at_place sent place), TimedOut place rounds) in
    elim o.waited as (λ b. has place (cond b (o.place ∷ waited_places os) (waited_places os)) ≡ true
    → IsAmong fate (time_out rounds sent os (cond b (insert_fate o.place new fates) fates))) [
      | true ↦ λ is. elim (eqb_tells o.place place) [
        | inl here ↦
            stands_among fate (insert_fate o.place new fates) _ (time_out_stands rounds sent os (insert_fate o.place new fates))
            (subst (λ (k : ℕ). IsAmong (tag_of (at_place sent k), TimedOut k rounds) (insert_fate o.place new fates))
            here.1 (inserted_there o.place new fates))
        | inr apart ↦
            let e : has place (o.place ∷ waited_places os) ≡ has place (waited_places os) = rw apart.0 refl in
            timed_out_there rounds sent os (insert_fate o.place new fates) place (sym e ∙ is)
      ]
      | false ↦ λ is. timed_out_there rounds sent os fates place is
    ] there

-- ---- bodies that were never sent

pub record IsUnsent (queue : List Offered) (fate : ℕ × Fate) : Type 0 where
  pub tag : ℕ
  pub queued : HasTag tag queue
  pub fate_is : fate ≡ (tag, Unsent)

unsent_is : (queue : List Offered) (fate : ℕ × Fate) → IsAmong fate (map unsent_fate queue) → IsUnsent queue fate
unsent_is [] fate is = absurd is
unsent_is (x ∷ queue) fate (inl here) = record { tag = x.tag; queued = inl refl; fate_is = here }
unsent_is (x ∷ queue) fate (inr later) =
    let is = unsent_is queue fate later in
    record { tag = is.tag; queued = inr is.queued; fate_is = is.fate_is }

unsent_there : (queue : List Offered) (tag : ℕ) → HasTag tag queue → IsAmong (tag, Unsent) (map unsent_fate queue)
unsent_there [] tag is = absurd is
unsent_there (x ∷ queue) tag (inl here) = inl (ap (λ (k : ℕ). (k, Unsent)) (sym here))
unsent_there (x ∷ queue) tag (inr later) = inr (unsent_there queue tag later)

-- ---- what a reply brings

reply_brings : (h : Hub) (bytes : List ℕ) (id : ℕ) (words : List ℕ) (o : OpenPlace) (fate : ℕ × Fate) → IsAtWork h
    → to_hub bytes ≡ Some (Reply id words) → open_with h.first id h.open_places ≡ Some o
    → IsAmong fate (settle h words (Some o)).fates → IsAmong fate h.fates ⊎ ReplyBrings h bytes fate
reply_brings h bytes id words o fate is read told among =
    let new : ℕ × Fate = (tag_of (at_place h.sent o.place), Replied o.place words) in
    let named : identifier_at h.first o.place ≡ id = (found h.first id h.open_places o told).named in
    either (λ (xs : List (ℕ × Fate)). IsAmong fate xs → IsAmong fate h.fates ⊎ ReplyBrings h bytes fate) o.waited
    (insert_fate o.place new h.fates) h.fates
    (λ waited. λ there. elim (inserted_or fate o.place new h.fates there) [
      | inl same ↦
          let here : IsWaited h o.place = found_waited h.first id h.open_places o told waited in
          inr (subst (ReplyBrings h bytes) (sym same) (record {
            reply = read ∙ ap (λ (k : ℕ). Some (Reply k words)) (sym named);
            waited = here;
            body = waited_tagged h o.place is here;
          }))
      | inr old ↦ inl old
    ])
    (λ _. λ there. inl there) among

message_brings : (h : Hub) (bytes : List ℕ) (m : Option ToHub) (fate : ℕ × Fate) → IsAtWork h → to_hub bytes ≡ m
    → IsAmong fate (take_message h m).fates → IsAmong fate h.fates ⊎ ReplyBrings h bytes fate
message_brings h bytes None fate is read among = inl among
message_brings h bytes (Some (StatusReply mtu buffers next)) fate is read among =
    status_cases (λ (x : Hub). IsAmong fate x.fates → IsAmong fate h.fates ⊎ ReplyBrings h bytes fate) h next
    (λ there. inl there) (λ told. λ there. inl there) among
message_brings h bytes (Some (Reply id words)) fate is read among =
    reply_cases (λ (x : Hub). IsAmong fate x.fates → IsAmong fate h.fates ⊎ ReplyBrings h bytes fate) h id words
    (λ there. inl there) (λ o told. λ there. reply_brings h bytes id words o fate is read told there) among

reply_there : (h : Hub) (bytes : List ℕ) (tag place : ℕ) (words : List ℕ) → IsAtWork h
    → HearsReply h bytes tag place words → IsAmong (tag, Replied place words) (take_message h (to_hub bytes)).fates
reply_there h bytes tag place words is hears =
    let at = hub_waits h place is hears.waited in
    let o = at.entry in
    let new : ℕ × Fate = (tag_of (at_place h.sent o.place), Replied o.place words) in
    let inserted : (settle h words (Some o)).fates ≡ insert_fate o.place new h.fates =
    ap (λ (b : Bool). cond b (insert_fate o.place new h.fates) h.fates) at.waited in
    let same : new ≡ (tag, Replied place words) =
    ap (λ (k : ℕ). (tag_of (at_place h.sent k), Replied k words)) at.place_is
    ∙ ap (λ (k : ℕ). (k, Replied place words)) (tag_at h.sent tag place hears.body) in
    let after : (take_message h (to_hub bytes)).fates ≡ insert_fate o.place new h.fates =
    ap (λ (m : Option ToHub). (take_message h m).fates) hears.reply
    ∙ (ap (λ (r : Option OpenPlace). (settle h words r).fates) at.found ∙ inserted) in
    subst (λ (xs : List (ℕ × Fate)). IsAmong (tag, Replied place words) xs) (sym after)
    (subst (λ (f : ℕ × Fate). IsAmong f (insert_fate o.place new h.fates)) same (inserted_there o.place new h.fates))

-- ---- what the end of the last round brings

end_brings : (h : Hub) (fate : ℕ × Fate) → IsAtWork h → IsOutOfRounds h → IsAmong fate (give_up h).fates
    → IsAmong fate h.fates ⊎ QuietBrings h fate
end_brings h fate is out among =
    elim (among_or fate (time_out h.rounds h.sent h.open_places h.fates) (map unsent_fate h.queue) among) [
      | inl timed ↦ elim (timed_out_or h.rounds h.sent h.open_places h.fates fate timed) [
        | inl old ↦ inl old
        | inr new ↦ inr (subst (QuietBrings h) (sym new.fate_is) (record {
          out = out;
          rounds_are = refl;
          waited = new.waited;
          body = waited_tagged h new.place is new.waited;
        }))
      ]
      | inr unsent ↦
          let new = unsent_is h.queue fate unsent in
          inr (subst (QuietBrings h) (sym new.fate_is) (record { out = out; queued = new.queued }))
    ]

time_out_there : (h : Hub) (tag place rounds : ℕ) → EndsWaiting h tag place rounds
    → IsAmong (tag, TimedOut place rounds) (hear_quiet h).fates
time_out_there h tag place rounds is =
    let same : (tag_of (at_place h.sent place), TimedOut place h.rounds) ≡ (tag, TimedOut place rounds) =
    ap (λ (k : ℕ). (k, TimedOut place h.rounds)) (tag_at h.sent tag place is.body)
    ∙ ap (λ (k : ℕ). (tag, TimedOut place k)) (sym is.rounds_are) in
    subst (λ (x : Hub). IsAmong (tag, TimedOut place rounds) x.fates) (sym (quiet_ends h is.out))
    (among_front _ (time_out h.rounds h.sent h.open_places h.fates) (map unsent_fate h.queue)
    (subst (λ (f : ℕ × Fate). IsAmong f (time_out h.rounds h.sent h.open_places h.fates)) same
    (timed_out_there h.rounds h.sent h.open_places h.fates place is.waited)))

never_sent_there : (h : Hub) (tag : ℕ) → EndsUnsent h tag → IsAmong (tag, Unsent) (hear_quiet h).fates
never_sent_there h tag is =
    subst (λ (x : Hub). IsAmong (tag, Unsent) x.fates) (sym (quiet_ends h is.out))
    (among_back _ (time_out h.rounds h.sent h.open_places h.fates) (map unsent_fate h.queue)
    (unsent_there h.queue tag is.queued))

-- ---- one event

event_brings : (h : Hub) (event : RunEvent) (fate : ℕ × Fate) → IsAtWork h → IsAmong fate (run_event h event).fates
    → IsAmong fate h.fates ⊎ Brings h event fate
event_brings h (Offer tag body) fate is among = inl among
event_brings h Send fate is among =
    after_send (λ (x : Hub). IsAmong fate x.fates → IsAmong fate h.fates ⊎ ⊥) h (λ there. inl there) (λ there. inl there)
    (λ w e. λ there. inl there) (λ x later e room. λ there. inl there) among
event_brings h (Heard bytes) fate is among = message_brings h bytes (to_hub bytes) fate is refl among
event_brings h Quiet fate is among =
    quiet_cases (λ (x : Hub). IsAmong fate x.fates → IsAmong fate h.fates ⊎ QuietBrings h fate) h
    (λ _. λ there. inl there) (λ out. λ there. end_brings h fate is out there) among

brought_there : (h : Hub) (event : RunEvent) (fate : ℕ × Fate) → IsAtWork h → Brings h event fate
    → IsAmong fate (run_event h event).fates
brought_there h (Offer tag body) fate is brings = absurd brings
brought_there h Send fate is brings = absurd brings
brought_there h (Heard bytes) (tag, Replied place words) is brings = reply_there h bytes tag place words is brings
brought_there h (Heard bytes) (tag, TimedOut place rounds) is brings = absurd brings
brought_there h (Heard bytes) (tag, Unsent) is brings = absurd brings
brought_there h Quiet (tag, Replied place words) is brings = absurd brings
brought_there h Quiet (tag, TimedOut place rounds) is brings = time_out_there h tag place rounds brings
brought_there h Quiet (tag, Unsent) is brings = never_sent_there h tag brings

-- ---- a run

waits_on : (h : Hub) (events : List RunEvent) (fate : ℕ × Fate) → IsAmong fate h.fates
    → IsAmong fate (run_events h events).fates
waits_on h events fate is =
    subst (λ (x : Hub). IsAmong fate x.fates) (sym (run_is h events))
    (fate_waits h (engine_events events) fate (hands_none events) is)

pub each_is_brought : (h : Hub) (events : List RunEvent) (fate : ℕ × Fate) → IsAtWork h → AreSendable (offers_in events)
    → IsAmong fate (run_events h events).fates → IsAmong fate h.fates ⊎ IsBrought h events fate
each_is_brought h [] fate is can among = inl among
each_is_brought h (event ∷ events) fate is can among =
    let parts = offers_cons event events can in
    elim (each_is_brought (run_event h event) events fate (works_on h event parts.0 is) parts.1 among) [
      | inl there ↦ elim (event_brings h event fate is there) [
        | inl old ↦ inl old
        | inr new ↦ inr (inl new)
      ]
      | inr later ↦ inr (inr later)
    ]

pub each_is_there : (h : Hub) (events : List RunEvent) (fate : ℕ × Fate) → IsAtWork h → AreSendable (offers_in events)
    → IsBrought h events fate → IsAmong fate (run_events h events).fates
each_is_there h [] fate is can brought = absurd brought
each_is_there h (event ∷ events) fate is can (inl new) =
    waits_on (run_event h event) events fate (brought_there h event fate is new)
each_is_there h (event ∷ events) fate is can (inr later) =
    let parts = offers_cons event events can in
    each_is_there (run_event h event) events fate (works_on h event parts.0 is) parts.1 later
