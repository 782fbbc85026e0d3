-- What a lane heard, call by call.
use Rattle.std.proofs.Common.{◌≡◌, ◌⊎◌, ℕ, zero, suc, ◌+◌, ◌≤◌, Bool, true, false, cond, List, [], ◌∷◌, ◌++◌, length}
use Rattle.std.proofs.Common.{if◌then◌else◌, Option, Some, None, inl, inr, refl, sym, ap, subst, arith, ◌∙◌}
use Rattle.std.specs.Prelude.{nat_lt, count_by}
use Rattle.std.proofs.lemmas.List.Sums.{sum_by-cons}
use Rattle.ipb_base.specs.Faults.{one_more}
use Rattle.world_model.specs.declared.offered.Fate.{Fate}
use Rattle.world_model.specs.declared.offered.Fate.TheVariants as fate
use Rattle.world_model.specs.declared.offered.OpenPlace.{OpenPlace}
use Rattle.world_model.specs.Messages.{ToHub, StatusReply, Reply, to_hub}
use Rattle.world_model.specs.Hub.{Hub, hear_quiet, after_recovery, settle, take_message, told_place}
use Rattle.world_model.specs.Hub.{insert_fate, open_with, tag_of}
use Rattle.world_model.specs.Places.{at_place}
use Rattle.lane_record.specs.declared.outcome.Outcome.{Outcome}
use Rattle.lane_record.specs.declared.outcome.Outcome.TheVariants as became
use Rattle.world_model.proofs.Lists.{either}
use Rattle.lane_record.specs.Bounds.{HasReached}
use Rattle.lane_record.specs.Offers.{AddsOnly, all_lost, lost_after, outcome_of, put, put_all}
use Rattle.lane_record.specs.Outcomes.{is_given_up, is_sent}
use Rattle.hub_lane.specs.declared.answers.Pumped.{Pumped}
use Rattle.hub_lane.specs.declared.answers.Pumped.TheVariants as pumps
use Rattle.hub_lane.specs.Calls.{is_replied}
use Rattle.hub_lane.specs.Hearing.{IsEventAs, gots_of, hub_after}
use Rattle.hub_lane.specs.Heard.{HasHeard}

-- ---- how many bodies were replied to

replied_cons : (o : Option Outcome) (os : List (Option Outcome))
    → count_by is_replied (o ∷ os) ≡ cond (is_replied o) 1 0 + count_by is_replied os
replied_cons o os = sum_by-cons (λ p. cond (is_replied p) 1 0) o os

pub at_most_one : (b : Bool) → cond b 1 0 ≤ 1
at_most_one true = omega arith
at_most_one false = omega arith

replied_put : (k : ℕ) (outcome : Outcome) (os : List (Option Outcome))
    → count_by is_replied (put k outcome os) ≤ count_by is_replied os + 1
replied_put k outcome [] = omega arith
replied_put zero outcome (o ∷ os) = omega (
  arith,
  replied_cons (Some outcome) os,
  replied_cons o os,
  at_most_one (is_replied (Some outcome)),
)
replied_put (suc k) outcome (o ∷ os) = omega (
  arith,
  replied_cons o (put k outcome os),
  replied_cons o os,
  replied_put k outcome os,
)

replied_put_all : (fates : List (ℕ × Fate)) (os : List (Option Outcome))
    → count_by is_replied (put_all fates os) ≤ count_by is_replied os + length fates
replied_put_all [] os = omega arith
replied_put_all (f ∷ fs) os = omega (
  arith,
  replied_put f.0 (outcome_of f.1) os,
  replied_put_all fs (put f.0 (outcome_of f.1) os),
)

replied_append : (o : Option Outcome) (os : List (Option Outcome)) → is_replied o ≡ false
    → count_by is_replied (os ++ o ∷ []) ≡ count_by is_replied os
replied_append o [] none = replied_cons o [] ∙ ap (λ (b : Bool). cond b 1 0 + 0) none
replied_append o (p ∷ os) none = replied_cons p (os ++ o ∷ [])
    ∙ ap (λ (n : ℕ). cond (is_replied p) 1 0 + n) (replied_append o os none) ∙ sym (replied_cons p os)

replied_lost : (others sent : ℕ) (os : List (Option Outcome))
    → count_by is_replied (lost_after others sent os) ≡ count_by is_replied os
replied_lost others sent [] = refl
replied_lost others sent (Some outcome ∷ os) =
    let later = if is_sent outcome then others + 1 else others in
    replied_cons (Some outcome) (lost_after later sent os)
    ∙ ap (λ (n : ℕ). cond (is_replied (Some outcome)) 1 0 + n) (replied_lost later sent os)
    ∙ sym (replied_cons (Some outcome) os)
replied_lost others sent (None ∷ os) =
    either (λ (xs : List (Option Outcome)). count_by is_replied xs ≡ count_by is_replied (None ∷ os))
    (nat_lt others sent)
    (Some (became.LinkLost (Some (others + 1))) ∷ lost_after (others + 1) sent os)
    (Some (became.LinkLost None) ∷ lost_after others sent os)
    (λ _. omega (
      arith,
      replied_cons (Some (became.LinkLost (Some (others + 1)))) (lost_after (others + 1) sent os),
      replied_lost (others + 1) sent os,
      replied_cons None os,
    ))
    (λ _. omega (
      arith,
      replied_cons (Some (became.LinkLost None)) (lost_after others sent os),
      replied_lost others sent os,
      replied_cons None os,
    ))

-- where nothing new is a reply, there are no more replies
abbrev pub IsNoReply : (Outcome → Bool) → Type 0
IsNoReply kind = (place : ℕ) (words : List ℕ) → kind (became.Replied place words) ≡ true → ⊥

no_more_here : (kind : Outcome → Bool) → IsNoReply kind → (o n : Option Outcome)
    → ((outcome : Outcome) → n ≡ Some outcome → (o ≡ Some outcome) ⊎ (kind outcome ≡ true))
    → cond (is_replied n) 1 0 ≤ cond (is_replied o) 1 0
no_more_here kind none o None adds = omega arith
no_more_here kind none o (Some (became.TimedOut place rounds)) adds = omega arith
no_more_here kind none o (Some became.Unsent) adds = omega arith
no_more_here kind none o (Some (became.LinkLost place)) adds = omega arith
no_more_here kind none o (Some (became.Replied place words)) adds =
    elim (adds (became.Replied place words) refl) as (λ _. 1 ≤ cond (is_replied o) 1 0) [
      | inl same ↦ subst (λ (p : Option Outcome). 1 ≤ cond (is_replied p) 1 0) (sym same) (omega arith)
      | inr is ↦ absurd (none place words is)
    ]

first_added : (kind : Outcome → Bool) (o n : Option Outcome) (os ns : List (Option Outcome))
    → AddsOnly kind (o ∷ os) (n ∷ ns)
    → (outcome : Outcome) → n ≡ Some outcome → (o ≡ Some outcome) ⊎ (kind outcome ≡ true)
first_added kind o n os ns adds outcome is = elim (adds 0 outcome (ap (λ (p : Option Outcome). Some p) is)) [
  | inl same ↦ inl (cc same)
  | inr kind_is ↦ inr kind_is
]

no_more : (kind : Outcome → Bool) → IsNoReply kind → (old new : List (Option Outcome)) → length new ≡ length old
    → AddsOnly kind old new → count_by is_replied new ≤ count_by is_replied old
no_more kind none [] [] same adds = omega arith
no_more kind none [] (n ∷ ns) same adds = absurd (omega (arith, same))
no_more kind none (o ∷ os) [] same adds = absurd (omega (arith, same))
no_more kind none (o ∷ os) (n ∷ ns) same adds =
    let here = no_more_here kind none o n (first_added kind o n os ns adds) in
    let rest = no_more kind none os ns (omega (arith, same)) (λ k outcome there. adds (suc k) outcome there) in
    omega (arith, replied_cons n ns, replied_cons o os, here, rest)

given_up_is_no_reply : IsNoReply is_given_up
given_up_is_no_reply place words is = absurd cc

-- ---- the fates of a datagram

found_fates : (hub : Hub) (words : List ℕ) (found : Option OpenPlace) → hub.fates ≡ []
    → length (settle hub words found).fates ≤ 1
found_fates hub words None none = rw none (omega arith)
found_fates hub words (Some o) none = either (λ (fs : List (ℕ × Fate)). length fs ≤ 1) o.waited
    (insert_fate o.place (tag_of (at_place hub.sent o.place), fate.Replied o.place words) hub.fates) hub.fates
    (λ _. rw none (omega arith)) (λ _. rw none (omega arith))

recovered_fates : (hub : Hub) (told : Option ℕ) → hub.fates ≡ [] → length (after_recovery hub told).fates ≤ 1
recovered_fates hub None none = rw none (omega arith)
recovered_fates hub (Some place) none = rw none (omega arith)

-- a datagram settles one place at most
message_fates : (hub : Hub) (message : Option ToHub) → hub.fates ≡ []
    → length (take_message hub message).fates ≤ 1
message_fates hub None none = rw none (omega arith)
message_fates hub (Some (StatusReply mtu buffers next)) none = either (λ (h : Hub). length h.fates ≤ 1)
    (nat_lt 0 hub.status_requests) (after_recovery hub (told_place hub next)) hub
    (λ _. recovered_fates hub (told_place hub next) none) (λ _. rw none (omega arith))
message_fates hub (Some (Reply id words)) none =
    found_fates hub words (open_with hub.first id hub.open_places) none

-- ---- each call

-- one datagram more, and one reply more at most
one_heard : (old new gots gots_now : ℕ) → gots_now ≡ one_more gots → new ≤ old + 1 → HasReached (old + 1) gots
    → HasReached (new + 1) gots_now
one_heard old new gots gots_now rose few is = omega (arith, rose, few, is)

no_fewer : (old new : ℕ) (gots gots_now : ℕ) → gots ≤ gots_now → new ≤ old → HasReached (old + 1) gots
    → HasReached (new + 1) gots_now
no_fewer old new gots gots_now more few is = omega (arith, more, few, is)

message_heard : (mid : Hub) (message : Option ToHub) (old : List (Option Outcome)) (gots gots_now : ℕ)
    → mid.fates ≡ [] → gots_now ≡ one_more gots → HasHeard old gots
    → HasHeard (put_all (take_message mid message).fates old) gots_now
message_heard mid message old gots gots_now none rose is =
    let fates = (take_message mid message).fates in
    one_heard (count_by is_replied old) (count_by is_replied (put_all fates old)) gots gots_now rose
    (omega (arith, replied_put_all fates old, message_fates mid message none)) is

pub heard_after : (mid : Hub) (bytes : List ℕ) (pumped : Pumped) (old : List (Option Outcome)) (gots gots_now : ℕ)
    → mid.fates ≡ [] → length (put_all (hear_quiet mid).fates old) ≡ length old
    → AddsOnly is_given_up old (put_all (hear_quiet mid).fates old)
    → IsEventAs mid bytes pumped → gots_now ≡ gots_of pumped gots → HasHeard old gots
    → HasHeard (put_all (hub_after pumped bytes mid).fates old) gots_now
heard_after mid bytes (pumps.Reply place) old gots gots_now none same adds event rose is =
    message_heard mid (to_hub bytes) old gots gots_now none rose is
heard_after mid bytes pumps.Status old gots gots_now none same adds event rose is =
    message_heard mid (to_hub bytes) old gots gots_now none rose is
heard_after mid bytes pumps.Stray old gots gots_now none same adds event rose is =
    message_heard mid (to_hub bytes) old gots gots_now none rose is
heard_after mid bytes pumps.Quiet old gots gots_now none same adds event rose is =
    let new = put_all (hear_quiet mid).fates old in
    no_fewer (count_by is_replied old) (count_by is_replied new) gots gots_now (omega (arith, rose))
    (no_more is_given_up given_up_is_no_reply old new same adds) is
heard_after mid bytes pumps.Idle old gots gots_now none same adds event rose is = absurd event
heard_after mid bytes pumps.LinkDown old gots gots_now none same adds event rose is = absurd event

-- a greeting ended with a datagram, and nothing was asked yet
pub heard_first : (outcomes : List (Option Outcome)) (gots : ℕ) → outcomes ≡ [] → 1 ≤ gots → HasHeard outcomes gots
heard_first outcomes gots none some = subst (λ (os : List (Option Outcome)). HasHeard os gots) (sym none)
    (omega (arith, some))

-- an Ask is replied to later
pub heard_asked : (o : Option Outcome) (old new : List (Option Outcome)) (gots : ℕ) → is_replied o ≡ false
    → new ≡ old ++ o ∷ [] → HasHeard old gots → HasHeard new gots
heard_asked o old new gots none are is = subst (λ (os : List (Option Outcome)). HasHeard os gots) (sym are)
    (no_fewer (count_by is_replied old) (count_by is_replied (old ++ o ∷ [])) gots gots (omega arith)
    (omega (arith, replied_append o old none)) is)

-- the link failed
pub heard_down : (sent : ℕ) {old before new : List (Option Outcome)} {gots gots_now : ℕ} → gots_now ≡ gots
    → before ≡ old → new ≡ all_lost sent before → HasHeard old gots → HasHeard new gots_now
heard_down sent {old} {gots} {gots_now} same_gots same are is =
    subst (λ (os : List (Option Outcome)). HasHeard os gots_now) (sym (are ∙ ap (λ (os : List (Option Outcome)).
    all_lost sent os) same))
    (no_fewer (count_by is_replied old) (count_by is_replied (all_lost sent old)) gots gots_now (omega (arith, same_gots))
    (omega (arith, replied_lost 0 sent old)) is)

-- memory ran out
pub heard_still : (old : List (Option Outcome)) {new : List (Option Outcome)} (gots gots_now : ℕ)
    → gots ≤ gots_now → new ≡ old → HasHeard old gots → HasHeard new gots_now
heard_still old gots gots_now more same is = subst (λ (os : List (Option Outcome)). HasHeard os gots_now) (sym same)
    (no_fewer (count_by is_replied old) (count_by is_replied old) gots gots_now more (omega arith) is)

-- what a new Ask came to so far
pub asked_unheard : (down : Bool) → is_replied (if down then Some (became.LinkLost None) else None) ≡ false
asked_unheard true = refl
asked_unheard false = refl
