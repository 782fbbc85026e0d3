-- What a lane heard in its receives, call by call.
use Rattle.std.proofs.Common.{◌≡◌, ◌⊎◌, ℕ, zero, suc, ◌+◌, ◌*◌, ◌<◌, ◌≤◌, Bool, true, false, cond, List, [], ◌∷◌, ◌++◌}
use Rattle.std.proofs.Common.{Option, Some, None, inl, inr, refl, sym, ap, subst, arith, ◌∙◌}
use Rattle.std.specs.List.{AllByRecursion, slice_get}
use Rattle.std.proofs.lemmas.List.{append-nil}
use Rattle.std.proofs.lemmas.List.Elements.{Contains-append_left, Contains-append_right}
use Rattle.std.proofs.lemmas.List.Sums.{sum_by_push, sum_by-append}
use Rattle.ipb_base.specs.Lists.{IsPrefix}
use Rattle.std.specs.Prelude.{Ok, get_or, is_none}
use Rattle.packet_codec.specs.Packet.{AreBytes}
use Rattle.packet_ids.specs.Identifier.{identifier_at}
use Rattle.world_model.specs.declared.offered.Fate.{Fate}
use Rattle.world_model.specs.declared.offered.Fate.TheVariants as fate
use Rattle.world_model.specs.Messages.{ToHub, Reply, StatusReply, to_hub}
use Rattle.world_model.specs.declared.offered.Offered.{Offered}
use Rattle.world_model.specs.Hub.{Hub, IsDrained, after_handing_out, give_up, hear_quiet, is_waiting, offer, take_message}
use Rattle.world_model.proofs.Flushing.{quiet_cases}
use Rattle.links.specs.declared.link.Received.{Received}
use Rattle.links.specs.declared.link.Received.TheVariants.{Got, Quiet}
use Rattle.links.specs.Receives.{IsReplyAmong, first_status, quiets_in, receives_after, since_status, tells_status}
use Rattle.lane_record.specs.declared.outcome.Outcome.{Outcome}
use Rattle.lane_record.specs.declared.outcome.Outcome.TheVariants as became
use Rattle.lane_record.specs.Lates.{late_in, put_lates}
use Rattle.lane_record.specs.Offers.{AddsOnly, all_lost, outcome_of, put, put_all}
use Rattle.lane_record.specs.Outcomes.{is_lost}
use Rattle.lane_record.proofs.Lates.{came, none_added, none_late}
use Rattle.hub_lane.proofs.RoundsPaid.{mul_more}
use Rattle.hub_lane.specs.declared.answers.Pumped.{Pumped}
use Rattle.hub_lane.specs.declared.answers.Pumped.TheVariants as pumps
use Rattle.hub_lane.specs.declared.greeting.Answer.{Answer}
use Rattle.hub_lane.specs.declared.greeting.Answer.TheVariants as answer
use Rattle.hub_lane.specs.Greeting.{IsSaid, status_in}
use Rattle.hub_lane.specs.Hearing.{IsEventAs, give_ups_of, hub_after, receives_of}
use Rattle.hub_lane.specs.Heard.{AreHeard, EndWith, EndsWithStatus, HasListened, HasWaitedIn}
use Rattle.hub_lane.specs.Lanes.{BoardStatus, status_of}
use Rattle.hub_lane.specs.Sends.{HasSent}
use Rattle.hub_lane.proofs.Exchanges.{message_leaves}
use Rattle.hub_lane.proofs.LateAnswers.{each}
use Rattle.hub_lane.proofs.Ready.{same_sent}
use Rattle.hub_lane.proofs.Rounds.{none_wait}
use Rattle.hub_lane.proofs.Standing.{IsLateOfReply, IsOfReply, message_brings, quiet_are, quiet_lates}

-- ---- more receives

-- where none of the first ones told a status, the status is the first of those behind
pub first_behind : (xs ys : List (Option (List ℕ))) → first_status xs ≡ None
    → first_status (xs ++ ys) ≡ first_status ys
first_behind [] ys e = refl
first_behind (None ∷ xs) ys e = first_behind xs ys e
first_behind (Some bytes ∷ xs) ys e = by (first_behind xs ys) (tells_status (to_hub bytes)) refl e
  where
    by : (first_status xs ≡ None → first_status (xs ++ ys) ≡ first_status ys) → (b : Bool)
        → tells_status (to_hub bytes) ≡ b → cond b (to_hub bytes) (first_status xs) ≡ None
        → cond b (to_hub bytes) (first_status (xs ++ ys)) ≡ first_status ys
    by later true is e = (let none : true ≡ false = sym is ∙ ap tells_status e in absurd cc)
    by later false is e = later e

pub since_behind : (xs ys : List (Option (List ℕ))) → first_status xs ≡ None
    → since_status (xs ++ ys) ≡ since_status ys
since_behind [] ys e = refl
since_behind (None ∷ xs) ys e = since_behind xs ys e
since_behind (Some bytes ∷ xs) ys e = by (since_behind xs ys) (tells_status (to_hub bytes)) refl e
  where
    by : (first_status xs ≡ None → since_status (xs ++ ys) ≡ since_status ys) → (b : Bool)
        → tells_status (to_hub bytes) ≡ b → cond b (to_hub bytes) (first_status xs) ≡ None
        → cond b (xs ++ ys) (since_status (xs ++ ys)) ≡ since_status ys
    by later true is e = (let none : true ≡ false = sym is ∙ ap tells_status e in absurd cc)
    by later false is e = later e

-- a greeting goes on, or ends with the status that was told
told_end : (bytes : List ℕ) (told : Answer) (before now : List (Option (List ℕ))) → first_status before ≡ None
    → IsSaid (to_hub bytes) told → now ≡ before ++ Some bytes ∷ [] → EndWith (status_in told) now
told_end bytes (answer.Told status) before now none said are =
    subst (EndsWithStatus (status_of status)) (sym are) (record {
      told = first_behind before (Some bytes ∷ []) none
          ∙ ap (λ (m : Option ToHub). cond (tells_status m) m None) said;
      last = since_behind before (Some bytes ∷ []) none
          ∙ ap (λ (m : Option ToHub). cond {A = List (Option (List ℕ))} (tells_status m) [] []) said;
    })
told_end bytes answer.Nothing before now none said are = absurd said
told_end bytes answer.Other before now none said are =
    subst (λ (xs : List (Option (List ℕ))). first_status xs ≡ None) (sym are)
    (first_behind before (Some bytes ∷ []) none ∙ ap (λ (b : Bool). cond b (to_hub bytes) None) said)

pub got_end : {received : Received} (bytes : List ℕ) (told : Answer) (before : List (Option (List ℕ)))
    {now : List (Option (List ℕ))} → received ≡ Got → first_status before ≡ None → IsSaid (to_hub bytes) told
    → now ≡ receives_after (Ok received) bytes before → EndWith (status_in told) now
got_end bytes told before {now} e none said are =
    told_end bytes told before now none said
    (subst (λ (r : Received). now ≡ receives_after (Ok r) bytes before) e are)

pub quiet_end : {received : Received} (bytes : List ℕ) (before : List (Option (List ℕ)))
    {now : List (Option (List ℕ))} → received ≡ Quiet → first_status before ≡ None
    → now ≡ receives_after (Ok received) bytes before → first_status now ≡ None
quiet_end bytes before {now} e none are =
    subst (λ (xs : List (Option (List ℕ))). first_status xs ≡ None)
    (sym (subst (λ (r : Received). now ≡ receives_after (Ok r) bytes before) e are))
    (first_behind before (None ∷ []) none)

-- bytes that are no status reply tell no status
pub says_none : (said : Option ToHub) → ((mtu buffers next : ℕ) → said ≡ Some (StatusReply mtu buffers next) → ⊥)
    → tells_status said ≡ false
says_none None other = refl
says_none (Some (StatusReply mtu buffers next)) other = absurd (other mtu buffers next refl)
says_none (Some (Reply id words)) other = refl

pub are_bytes : (bytes : List ℕ) → ((i : ℕ) → get_or bytes i 0 < 256) → AreBytes bytes
are_bytes [] fits = tt
are_bytes (byte ∷ bytes) fits = (fits 0, are_bytes bytes (λ i. fits (suc i)))

-- where one told a status, it stays the first, and the others come behind it
first_stays : (xs ys : List (Option (List ℕ))) (said : ToHub) → first_status xs ≡ Some said
    → first_status (xs ++ ys) ≡ Some said
first_stays [] ys said e = absurd cc
first_stays (None ∷ xs) ys said e = first_stays xs ys said e
first_stays (Some bytes ∷ xs) ys said e = by (first_stays xs ys said) (tells_status (to_hub bytes)) e
  where
    by : (first_status xs ≡ Some said → first_status (xs ++ ys) ≡ Some said) → (b : Bool)
        → cond b (to_hub bytes) (first_status xs) ≡ Some said
        → cond b (to_hub bytes) (first_status (xs ++ ys)) ≡ Some said
    by later true e = e
    by later false e = later e

since_grows : (xs ys : List (Option (List ℕ))) (said : ToHub) → first_status xs ≡ Some said
    → since_status (xs ++ ys) ≡ since_status xs ++ ys
since_grows [] ys said e = absurd cc
since_grows (None ∷ xs) ys said e = since_grows xs ys said e
since_grows (Some bytes ∷ xs) ys said e = by (since_grows xs ys said) (tells_status (to_hub bytes)) e
  where
    by : (first_status xs ≡ Some said → since_status (xs ++ ys) ≡ since_status xs ++ ys) → (b : Bool)
        → cond b (to_hub bytes) (first_status xs) ≡ Some said
        → cond b (xs ++ ys) (since_status (xs ++ ys)) ≡ cond b xs (since_status xs) ++ ys
    by later true e = refl
    by later false e = later e

quiets_more : (xs ys : List (Option (List ℕ))) → quiets_in xs ≤ quiets_in (xs ++ ys)
quiets_more xs ys = omega (arith, sum_by-append (λ (r : Option (List ℕ)). cond (is_none r) 1 0) xs ys)

quiet_more : (xs : List (Option (List ℕ))) → quiets_in (xs ++ None ∷ []) ≡ quiets_in xs + 1
quiet_more xs = sum_by_push (λ (r : Option (List ℕ)). cond (is_none r) 1 0) xs None

among_more : (first place : ℕ) (words : List ℕ) (xs ys : List (Option (List ℕ))) → IsReplyAmong first place words xs
    → IsReplyAmong first place words (xs ++ ys)
among_more first place words xs ys is = record {
  datagram = is.datagram;
  among = Contains-append_left xs ys (Some is.datagram) is.among;
  reply = is.reply;
}

among_last : (first place : ℕ) (words bytes : List ℕ) (xs : List (Option (List ℕ)))
    → to_hub bytes ≡ Some (Reply (identifier_at first place) words)
    → IsReplyAmong first place words (xs ++ Some bytes ∷ [])
among_last first place words bytes xs is = record {
  datagram = bytes;
  among = Contains-append_right xs (Some bytes ∷ []) (Some bytes) (0, omega arith, refl);
  reply = is;
}

-- ---- what stays heard

-- all replies and late answers are as before, or fewer
pub record AreNoMore (old new : List (Option Outcome)) (lates lates_now : List (Option (List ℕ))) : Type 0 where
  pub replied : (k place : ℕ) (words : List ℕ) → slice_get new k ≡ Some (Some (became.Replied place words))
      → slice_get old k ≡ Some (Some (became.Replied place words))
  pub late : (place : ℕ) (words : List ℕ) → late_in lates_now place ≡ Some words → late_in lates place ≡ Some words

still_heard : (first : ℕ) (old new : List (Option Outcome)) (lates lates_now xs ys : List (Option (List ℕ)))
    → AreNoMore old new lates lates_now → AreHeard first old lates xs → AreHeard first new lates_now (xs ++ ys)
still_heard first old new lates lates_now xs ys fewer is = record {
  replied = λ k place words there.
      among_more first place words xs ys (is.replied k place words (fewer.replied k place words there));
  late = λ place words there. among_more first place words xs ys (is.late place words (fewer.late place words there));
}

waited_more : (rounds give_ups requests : ℕ) (xs ys : List (Option (List ℕ))) → HasWaitedIn rounds give_ups requests xs
    → HasWaitedIn rounds give_ups requests (xs ++ ys)
waited_more rounds give_ups requests xs ys is = omega (arith, is, quiets_more xs ys)

-- nothing was heard, or what was heard is not kept
pub listened_on : (status : BoardStatus) (hub after : Hub) (old new : List (Option Outcome))
    (lates lates_now : List (Option (List ℕ))) (give_ups give_ups_now : ℕ) (receives now : List (Option (List ℕ)))
    → after.rounds ≡ hub.rounds → after.status_requests ≡ hub.status_requests → give_ups_now ≡ give_ups
    → AreNoMore old new lates lates_now → IsPrefix receives now
    → HasListened status hub old lates give_ups receives → HasListened status after new lates_now give_ups_now now
listened_on status hub after old new lates lates_now give_ups give_ups_now receives now same_rounds same_requests
    same_give_ups fewer grows is =
    let ys = grows.0 in
    subst (HasListened status after new lates_now give_ups_now) (sym grows.1) (record {
      greeting = first_stays receives ys _ is.greeting;
      heard = subst (AreHeard status.next new lates_now) (sym (since_grows receives ys _ is.greeting))
          (still_heard status.next old new lates lates_now (since_status receives) ys fewer is.heard);
      waited = subst (HasWaitedIn after.rounds give_ups_now after.status_requests)
          (sym (since_grows receives ys _ is.greeting))
          (rw (same_rounds, same_requests, same_give_ups)
          (waited_more hub.rounds give_ups hub.status_requests (since_status receives) ys is.waited));
    })

pub listened_sent : {status : BoardStatus} {hub after : Hub} {old new : List (Option Outcome)}
    {lates lates_now : List (Option (List ℕ))} {give_ups give_ups_now : ℕ} {receives now : List (Option (List ℕ))}
    → HasSent hub after → give_ups_now ≡ give_ups → AreNoMore old new lates lates_now → IsPrefix receives now
    → HasListened status hub old lates give_ups receives → HasListened status after new lates_now give_ups_now now
listened_sent {status} {hub} {after} {old} {new} {lates} {lates_now} {give_ups} {give_ups_now} {receives} {now} sent
    same_give_ups fewer grows is =
    let same = same_sent hub after sent in
    listened_on status hub after old new lates lates_now give_ups give_ups_now receives now same.rounds
    same.status_requests same_give_ups fewer grows is

pub same_prefix : {xs ys : List (Option (List ℕ))} → ys ≡ xs → IsPrefix xs ys
same_prefix {xs} same = ([], same ∙ sym (append-nil xs))

-- no outcome and no late answer is new
pub same_answers : {old new : List (Option Outcome)} {lates lates_now : List (Option (List ℕ))} → new ≡ old
    → lates_now ≡ lates → AreNoMore old new lates lates_now
same_answers outs ls = record {
  replied = λ k place words there. ap (λ (os : List (Option Outcome)). slice_get os k) (sym outs) ∙ there;
  late = λ place words there. ap (λ (xs : List (Option (List ℕ))). late_in xs place) (sym ls) ∙ there;
}

-- the link failed
pub lost_answers : ((sent : ℕ) (outs : List (Option Outcome)) → AddsOnly is_lost outs (all_lost sent outs))
    → (sent : ℕ) {old before new : List (Option Outcome)} {lates lates_now : List (Option (List ℕ))} → before ≡ old
    → new ≡ all_lost sent before → lates_now ≡ lates → AreNoMore old new lates lates_now
lost_answers adds sent {old} {lates} {lates_now} same lost ls =
    subst (λ (os : List (Option Outcome)). AreNoMore old os lates lates_now) (sym (lost ∙ ap (all_lost sent) same))
    (record {
      replied = λ k place words there. elim (adds sent old k (became.Replied place words) there) [
        | inl before ↦ before
        | inr is ↦ absurd (let clash : false ≡ true = is in cc)
      ];
      late = λ place words there. ap (λ (xs : List (Option (List ℕ))). late_in xs place) (sym ls) ∙ there;
    })

-- a body was asked
pushed_before : (os : List (Option Outcome)) (o : Option Outcome) (k place : ℕ) (words : List ℕ)
    → ((at : ℕ) (ws : List ℕ) → o ≡ Some (became.Replied at ws) → ⊥)
    → slice_get (os ++ o ∷ []) k ≡ Some (Some (became.Replied place words))
    → slice_get os k ≡ Some (Some (became.Replied place words))
pushed_before [] o zero place words none there = absurd (none place words (cc there))
pushed_before [] o (suc k) place words none there = absurd cc
pushed_before (x ∷ os) o zero place words none there = there
pushed_before (x ∷ os) o (suc k) place words none there = pushed_before os o k place words none there

pub asked_none : (down : Bool) (place : ℕ) (words : List ℕ)
    → cond down (Some (became.LinkLost None)) None ≡ Some (became.Replied place words) → ⊥
asked_none true place words e = cc
asked_none false place words e = cc

pub asked_answers : (o : Option Outcome) (old new : List (Option Outcome)) (lates lates_now : List (Option (List ℕ)))
    → ((place : ℕ) (words : List ℕ) → o ≡ Some (became.Replied place words) → ⊥) → new ≡ old ++ o ∷ []
    → lates_now ≡ lates ++ None ∷ [] → AreNoMore old new lates lates_now
asked_answers o old new lates lates_now none outs ls =
    subst (λ (os : List (Option Outcome)). AreNoMore old os lates lates_now) (sym outs)
    (subst (λ (xs : List (Option (List ℕ))). AreNoMore old (old ++ o ∷ []) lates xs) (sym ls) (record {
      replied = λ k place words there. pushed_before old o k place words none there;
      late = λ place words there. sym (none_added lates place) ∙ there;
    }))

offered_same : (down : Bool) (hub new : Hub) (o : Offered) → new ≡ cond down hub (offer hub o)
    → (new.rounds ≡ hub.rounds) × (new.status_requests ≡ hub.status_requests)
offered_same true hub new o is = (ap (λ (h : Hub). h.rounds) is, ap (λ (h : Hub). h.status_requests) is)
offered_same false hub new o is = (ap (λ (h : Hub). h.rounds) is, ap (λ (h : Hub). h.status_requests) is)

pub listened_asked : (status : BoardStatus) (down : Bool) (hub after : Hub) (o : Offered)
    (old new : List (Option Outcome)) (lates lates_now : List (Option (List ℕ))) (give_ups : ℕ)
    (receives : List (Option (List ℕ))) → after ≡ cond down hub (offer hub o)
    → new ≡ old ++ cond down (Some (became.LinkLost None)) None ∷ [] → lates_now ≡ lates ++ None ∷ []
    → HasListened status hub old lates give_ups receives → HasListened status after new lates_now give_ups receives
listened_asked status down hub after o old new lates lates_now give_ups receives hub_is outs ls is =
    let same = offered_same down hub after o hub_is in
    listened_on status hub after old new lates lates_now give_ups give_ups receives receives same.0 same.1 refl
    (asked_answers (cond down (Some (became.LinkLost None)) None) old new lates lates_now (asked_none down) outs ls)
    (same_prefix refl) is

-- ---- what one event of the hub brings

put_cases : (k : ℕ) (o : Outcome) (os : List (Option Outcome)) (j : ℕ) (p : Outcome)
    → slice_get (put k o os) j ≡ Some (Some p) → (slice_get os j ≡ Some (Some p)) ⊎ (o ≡ p)
put_cases k o [] j p e = inl e
put_cases zero o (x ∷ os) zero p e = inr (cc e)
put_cases zero o (x ∷ os) (suc j) p e = inl e
put_cases (suc k) o (x ∷ os) zero p e = inl e
put_cases (suc k) o (x ∷ os) (suc j) p e = put_cases k o os j p e

-- what holds of each reply among fates
abbrev pub IfReplied : (ℕ → List ℕ → Type 0) → ℕ × Fate → Type 0
IfReplied P (tag, fate.Replied place words) = P place words
IfReplied P (tag, fate.TimedOut place rounds) = Unit {0}
IfReplied P (tag, fate.Unsent) = Unit {0}

replied_fate : (P : ℕ → List ℕ → Type 0) (tag : ℕ) (f : Fate) (place : ℕ) (words : List ℕ) → IfReplied P (tag, f)
    → outcome_of f ≡ became.Replied place words → P place words
replied_fate P tag (fate.Replied at ws) place words is e =
    let same_place : at ≡ place = cc in
    let same_words : ws ≡ words = cc in
    rw (← same_place, ← same_words) is
replied_fate P tag (fate.TimedOut at rounds) place words is e = absurd cc
replied_fate P tag fate.Unsent place words is e = absurd cc

-- a reply among the outcomes stood there before, or is of a fate
replied_cases : (P : ℕ → List ℕ → Type 0) (fates : List (ℕ × Fate)) (os : List (Option Outcome)) (k place : ℕ)
    (words : List ℕ) → AllByRecursion (IfReplied P) fates
    → slice_get (put_all fates os) k ≡ Some (Some (became.Replied place words))
    → (slice_get os k ≡ Some (Some (became.Replied place words))) ⊎ P place words
replied_cases P [] os k place words all e = inl e
replied_cases P (f ∷ fs) os k place words all e =
    elim (replied_cases P fs (put f.0 (outcome_of f.1) os) k place words all.1 e) [
      | inl before ↦ elim (put_cases f.0 (outcome_of f.1) os k (became.Replied place words) before) [
        | inl there ↦ inl there
        | inr same ↦ inr (replied_fate P f.0 f.1 place words all.0 same)
      ]
      | inr is ↦ inr is
    ]

said_of : (hub : Hub) (message : Option ToHub) (fates : List (ℕ × Fate)) → AllByRecursion (IsOfReply hub message) fates
    → AllByRecursion (IfReplied (λ place words. message ≡ Some (Reply (identifier_at hub.first place) words))) fates
said_of hub message [] all = tt
said_of hub message ((tag, fate.Replied place words) ∷ fs) all = (all.0.1, said_of hub message fs all.1)
said_of hub message ((tag, fate.TimedOut place rounds) ∷ fs) all = (tt, said_of hub message fs all.1)
said_of hub message ((tag, fate.Unsent) ∷ fs) all = (tt, said_of hub message fs all.1)

message_heard : (mid : Hub) (bytes : List ℕ) (outcomes : List (Option Outcome)) (lates xs : List (Option (List ℕ)))
    → IsDrained mid → AreHeard mid.first outcomes lates xs
    → AreHeard mid.first (put_all (take_message mid (to_hub bytes)).fates outcomes)
    (put_lates (take_message mid (to_hub bytes)).lates lates) (xs ++ Some bytes ∷ [])
message_heard mid bytes outcomes lates xs none is =
    let event = take_message mid (to_hub bytes) in
    let brings = message_brings mid (to_hub bytes) none in
    record {
      replied = λ k place words there. elim (replied_cases
          (λ at ws. to_hub bytes ≡ Some (Reply (identifier_at mid.first at) ws)) event.fates outcomes k place words
          (said_of mid (to_hub bytes) event.fates brings.fates) there) [
            | inl before ↦ among_more mid.first place words xs (Some bytes ∷ []) (is.replied k place words before)
            | inr said ↦ among_last mid.first place words bytes xs said
          ];
      late = λ place words there. elim (came event.lates lates place words there) [
        | inl new ↦ among_last mid.first place words bytes xs
            (each (IsLateOfReply mid (to_hub bytes)) event.lates (place, words) brings.lates new).1
        | inr before ↦ among_more mid.first place words xs (Some bytes ∷ []) (is.late place words before)
      ];
    }

-- nothing is heard in a quiet receive
quiet_heard : (mid : Hub) (outcomes : List (Option Outcome)) (lates xs : List (Option (List ℕ))) → IsDrained mid
    → AreHeard mid.first outcomes lates xs
    → AreHeard mid.first (put_all (hear_quiet mid).fates outcomes) (put_lates (hear_quiet mid).lates lates)
    (xs ++ None ∷ [])
quiet_heard mid outcomes lates xs none is =
    let event = hear_quiet mid in
    let no_lates = ap (λ ls. put_lates ls lates) (quiet_lates mid ∙ none.lates) in
    record {
      replied = λ k place words there. elim (replied_cases (λ at ws. ⊥) event.fates outcomes k place words
          (quiet_are (IfReplied (λ at ws. ⊥)) (λ tag at rounds. tt) (λ tag. tt) mid none.fates) there) [
            | inl before ↦ among_more mid.first place words xs (None ∷ []) (is.replied k place words before)
            | inr none ↦ absurd none
          ];
      late = λ place words there. among_more mid.first place words xs (None ∷ [])
          (is.late place words (ap (λ (ls : List (Option (List ℕ))). late_in ls place) (sym no_lates) ∙ there));
    }

-- and what it costs is counted
quiet_waited : (mid : Hub) (give_ups quiets : ℕ) → is_waiting mid ≡ true
    → (mid.rounds + 1) * give_ups + mid.status_requests ≤ quiets
    → ((hear_quiet mid).rounds + 1) * give_ups_of pumps.Quiet (hear_quiet mid) give_ups
    + (hear_quiet mid).status_requests ≤ quiets + 1
quiet_waited mid give_ups quiets waiting is =
    quiet_cases (λ (event : Hub). (event.rounds + 1) * cond (is_waiting event) give_ups (give_ups + 1)
    + event.status_requests ≤ quiets + 1) mid
    (λ less.
    let count : ◌≡◌ {A = ℕ} (cond (is_waiting mid) give_ups (give_ups + 1)) give_ups =
    ap (λ (b : Bool). cond b give_ups (give_ups + 1)) waiting in
    subst (λ (g : ℕ). (mid.rounds + 1) * g + (mid.status_requests + 1) ≤ quiets + 1) (sym count)
    (omega (arith, is)))
    (λ more.
    let count : ◌≡◌ {A = ℕ} (cond (is_waiting (give_up mid)) give_ups (give_ups + 1)) (give_ups + 1) =
    ap (λ (b : Bool). cond b give_ups (give_ups + 1)) (none_wait mid.open_places) in
    let paid = mul_more (mid.rounds + 1) give_ups in
    subst (λ (g : ℕ). (mid.rounds + 1) * g + 0 ≤ quiets + 1) (sym count) (omega (arith, is, paid, more)))

-- ---- one event

message_listened : (status : BoardStatus) (mid : Hub) (bytes : List ℕ) (outcomes : List (Option Outcome))
    (lates : List (Option (List ℕ))) (give_ups : ℕ) (receives : List (Option (List ℕ))) → mid.first ≡ status.next
    → IsDrained mid → HasListened status mid outcomes lates give_ups receives
    → HasListened status (after_handing_out (take_message mid (to_hub bytes)))
    (put_all (take_message mid (to_hub bytes)).fates outcomes)
    (put_lates (take_message mid (to_hub bytes)).lates lates) give_ups (receives ++ Some bytes ∷ [])
message_listened status mid bytes outcomes lates give_ups receives first none is =
    let event = take_message mid (to_hub bytes) in
    let since = since_grows receives (Some bytes ∷ []) _ is.greeting in
    let l = message_leaves mid (to_hub bytes) in
    record {
      greeting = first_stays receives (Some bytes ∷ []) _ is.greeting;
      heard = subst (AreHeard status.next (put_all event.fates outcomes) (put_lates event.lates lates)) (sym since)
          (subst (λ (n : ℕ). AreHeard n (put_all event.fates outcomes) (put_lates event.lates lates)
          (since_status receives ++ Some bytes ∷ [])) first
          (message_heard mid bytes outcomes lates (since_status receives) none
          (subst (λ (n : ℕ). AreHeard n outcomes lates (since_status receives)) (sym first) is.heard)));
      waited = subst (HasWaitedIn event.rounds give_ups event.status_requests) (sym since)
          (let rounds = l.rounds in let requests = l.requests in
          let before = waited_more mid.rounds give_ups mid.status_requests (since_status receives) (Some bytes ∷ [])
          is.waited in
          rw rounds (omega (arith, before, requests)));
    }

quiet_listened : (status : BoardStatus) (mid : Hub) (outcomes : List (Option Outcome))
    (lates : List (Option (List ℕ))) (give_ups : ℕ) (receives : List (Option (List ℕ))) → mid.first ≡ status.next
    → IsDrained mid → is_waiting mid ≡ true → HasListened status mid outcomes lates give_ups receives
    → HasListened status (after_handing_out (hear_quiet mid)) (put_all (hear_quiet mid).fates outcomes)
    (put_lates (hear_quiet mid).lates lates) (give_ups_of pumps.Quiet (hear_quiet mid) give_ups)
    (receives ++ None ∷ [])
quiet_listened status mid outcomes lates give_ups receives first none waiting is =
    let event = hear_quiet mid in
    let since = since_grows receives (None ∷ []) _ is.greeting in
    record {
      greeting = first_stays receives (None ∷ []) _ is.greeting;
      heard = subst (AreHeard status.next (put_all event.fates outcomes) (put_lates event.lates lates)) (sym since)
          (subst (λ (n : ℕ). AreHeard n (put_all event.fates outcomes) (put_lates event.lates lates)
          (since_status receives ++ None ∷ [])) first
          (quiet_heard mid outcomes lates (since_status receives) none
          (subst (λ (n : ℕ). AreHeard n outcomes lates (since_status receives)) (sym first) is.heard)));
      waited = subst (HasWaitedIn event.rounds (give_ups_of pumps.Quiet event give_ups) event.status_requests)
          (sym since)
          (subst (λ (n : ℕ). (event.rounds + 1) * give_ups_of pumps.Quiet event give_ups + event.status_requests ≤ n)
          (sym (quiet_more (since_status receives)))
          (quiet_waited mid give_ups (quiets_in (since_status receives)) waiting is.waited));
    }

pub event_listened : (status : BoardStatus) (mid : Hub) (bytes : List ℕ) (pumped : Pumped)
    (outcomes : List (Option Outcome)) (lates : List (Option (List ℕ))) (give_ups : ℕ)
    (receives : List (Option (List ℕ))) → mid.first ≡ status.next → IsDrained mid → is_waiting mid ≡ true
    → IsEventAs mid bytes pumped → HasListened status mid outcomes lates give_ups receives
    → HasListened status (after_handing_out (hub_after pumped bytes mid)) (put_all (hub_after pumped bytes mid).fates outcomes)
    (put_lates (hub_after pumped bytes mid).lates lates) (give_ups_of pumped (hub_after pumped bytes mid) give_ups)
    (receives_of pumped bytes receives)
event_listened status mid bytes (pumps.Reply place) outcomes lates give_ups receives first none waiting event is =
    message_listened status mid bytes outcomes lates give_ups receives first none is
event_listened status mid bytes pumps.Status outcomes lates give_ups receives first none waiting event is =
    message_listened status mid bytes outcomes lates give_ups receives first none is
event_listened status mid bytes pumps.Stray outcomes lates give_ups receives first none waiting event is =
    message_listened status mid bytes outcomes lates give_ups receives first none is
event_listened status mid bytes pumps.Quiet outcomes lates give_ups receives first none waiting event is =
    quiet_listened status mid outcomes lates give_ups receives first none waiting is
event_listened status mid bytes pumps.Idle outcomes lates give_ups receives first none waiting event is = absurd event
event_listened status mid bytes pumps.LinkDown outcomes lates give_ups receives first none waiting event is =
    absurd event

-- a lane begins where the greeting ended
pub listened_first : (status : BoardStatus) (hub : Hub) (outcomes : List (Option Outcome))
    (lates receives : List (Option (List ℕ))) → hub.status_requests ≡ 0 → outcomes ≡ [] → lates ≡ []
    → EndsWithStatus status receives → HasListened status hub outcomes lates 0 receives
listened_first status hub outcomes lates receives none_wanted no_outcomes no_lates ends = record {
  greeting = ends.told;
  heard = subst (λ (os : List (Option Outcome)). AreHeard status.next os lates (since_status receives))
      (sym no_outcomes) (subst (λ (ls : List (Option (List ℕ))). AreHeard status.next [] ls (since_status receives))
      (sym no_lates) (record {
        replied = λ k place words there. absurd cc;
        late = λ place words there. absurd (let h : None ≡ Some words = sym (none_late place) ∙ there in cc);
      }));
  waited = omega (arith, none_wanted);
}
