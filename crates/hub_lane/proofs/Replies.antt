-- The reply at a place stands under the tag that the hub has for that place.
use Rattle.std.proofs.Common.{◌≡◌, ℕ, zero, suc, ◌+◌, Bool, true, false, cond, List, [], ◌∷◌, ◌++◌, length, ◌⊎◌, inl}
use Rattle.std.proofs.Common.{inr}
use Rattle.std.proofs.Common.{Option, Some, None, refl, sym, ap, ◌∙◌, subst, arith, append_assoc}
use Rattle.std.specs.Prelude.{IfNone}
use Rattle.std.specs.List.{slice_get}
use Rattle.world_model.specs.declared.offered.Offered.{Offered}
use Rattle.world_model.specs.declared.offered.OpenPlace.{OpenPlace}
use Rattle.world_model.specs.Places.{at_place}
use Rattle.lane_record.specs.declared.outcome.Outcome.{Outcome}
use Rattle.lane_record.specs.declared.outcome.Outcome.TheVariants.{Replied}
use Rattle.lane_record.specs.Outcomes.{is_sent, place_of}
use Rattle.lane_record.specs.Claims.{Claim}
use Rattle.lane_record.specs.FirstSends.{HasPlaceAfter, HavePlacesAfter, may_have_place}
use Rattle.lane_record.specs.Offers.{Agrees, awaited_tags, offers_from, tags}
use Rattle.lane_record.proofs.Offers.{unsettled_none}
use Rattle.reliable_engine.specs.Answers.{tag_there}
use Rattle.hub_lane.specs.Calls.{IsReplyAt}

-- ---- an outcome with a place, among the bodies that were offered

record StandsIn (others tag : ℕ) (offers : List Offered) (o : Outcome) : Type 0 where
  j : ℕ
  place_is : place_of o ≡ Some (others + j + 1)
  body : List ℕ
  there : slice_get offers j ≡ Some (record { tag = tag; body = body })

later : (others tag : ℕ) (first : Offered) (offers : List Offered) (o : Outcome) → StandsIn (others + 1) tag offers o
    → StandsIn others tag (first ∷ offers) o
later others tag first offers o is =
    let n : others + 1 + is.j + 1 ≡ others + suc is.j + 1 = omega arith in
    record {
      j = suc is.j;
      place_is = is.place_is ∙ ap (λ (m : ℕ). Some m) n;
      body = is.body;
      there = is.there;
    }

one_sent : (n others : ℕ) (claim : Claim) (rest : List Offered) (o : Outcome) → is_sent o ≡ true
    → HasPlaceAfter others (Some o)
    → StandsIn others n (cond (is_sent o) (record { tag = n; body = claim.body } ∷ rest) rest) o
one_sent n others claim rest o sent has =
    let first : Offered = record { tag = n; body = claim.body } in
    let z : others + 1 ≡ others + 0 + 1 = omega arith in
    subst (λ (b : Bool). StandsIn others n (cond b (first ∷ rest) rest) o) (sym sent) (record {
      j = 0;
      place_is = has sent ∙ ap (λ (m : ℕ). Some m) z;
      body = claim.body;
      there = refl;
    })

stands : (n others : ℕ) (cs : List Claim) (os : List (Option Outcome)) (k : ℕ) (o : Outcome) → length os ≡ length cs
    → HavePlacesAfter others os → slice_get os k ≡ Some (Some o) → is_sent o ≡ true
    → StandsIn others (n + k) (offers_from n cs os) o
stands n others cs [] k o same has e sent = absurd cc
stands n others [] (x ∷ os) k o same has e sent = absurd cc
stands n others (c ∷ cs) (None ∷ os) zero o same has e sent = absurd cc
stands n others (c ∷ cs) (Some y ∷ os) zero o same has e sent =
    let is : y ≡ o = (let there : Some (Some y) ≡ Some (Some o) = e in cc) in
    let z : n ≡ n + 0 = omega arith in
    subst (λ (m : ℕ). StandsIn others m (offers_from n (c ∷ cs) (Some y ∷ os)) o) z
    (subst (λ (w : Outcome). StandsIn others n (offers_from n (c ∷ cs) (Some y ∷ os)) w) is
    (one_sent n others c (offers_from (n + 1) cs os) y (ap is_sent is ∙ sent) has.0))
stands n others (c ∷ cs) (x ∷ os) (suc k) o same has e sent =
    let z : n + 1 + k ≡ n + suc k = omega arith in
    let short : length os ≡ length cs = omega (arith, same) in
    let first : Offered = record { tag = n; body = c.body } in
    elim (may_have_place x) as (λ b. HavePlacesAfter (cond b (others + 1) others) os
    → StandsIn others (n + suc k) (cond b (first ∷ offers_from (n + 1) cs os) (offers_from (n + 1) cs os)) o) [
      | true ↦ λ rest. later others (n + suc k) first (offers_from (n + 1) cs os) o
          (subst (λ (m : ℕ). StandsIn (others + 1) m (offers_from (n + 1) cs os) o) z
          (stands (n + 1) (others + 1) cs os k o short rest e sent))
      | false ↦ λ rest. subst (λ (m : ℕ). StandsIn others m (offers_from (n + 1) cs os) o) z
          (stands (n + 1) others cs os k o short rest e sent)
    ] has.1

-- ---- what is sent and what is queued

either_side : (xs ys : List Offered) (j : ℕ) (x : Offered) → slice_get (xs ++ ys) j ≡ Some x
    → (slice_get xs j ≡ Some x) ⊎ ((i : ℕ) × (slice_get ys i ≡ Some x))
either_side [] ys j x e = inr (j, e)
either_side (y ∷ xs) ys zero x e = inl e
either_side (y ∷ xs) ys (suc j) x e = either_side xs ys j x e

record IsTagIn (all : List ℕ) (tag : ℕ) : Type 0 where
  front : List ℕ
  back : List ℕ
  split : all ≡ front ++ tag ∷ back

tag_among : (queue : List Offered) (i : ℕ) (x : Offered) → slice_get queue i ≡ Some x → IsTagIn (tags queue) x.tag
tag_among [] i x e = absurd cc
tag_among (q ∷ qs) zero x e =
    let is : q ≡ x = cc in
    record { front = []; back = tags qs; split = ap (λ (o : Offered). o.tag ∷ tags qs) is }
tag_among (q ∷ qs) (suc i) x e =
    let rest = tag_among qs i x e in
    record { front = q.tag ∷ rest.front; back = rest.back; split = ap (λ (l : List ℕ). q.tag ∷ l) rest.split }

-- the tag of the body at the place of a reply is the number of the Ask that got it
pub reply_tagged : (sent queue : List Offered) (os : List OpenPlace) (cs : List Claim) (outs : List (Option Outcome))
    → Agrees sent queue os cs outs → (k place : ℕ) (words : List ℕ)
    → slice_get outs k ≡ Some (Some (Replied place words)) → tag_there (at_place sent place) ≡ Some k
reply_tagged sent queue os cs outs agrees k place words there =
    let number : 0 + k ≡ k = omega arith in
    let at = subst (λ (n : ℕ). StandsIn 0 n (offers_from 0 cs outs) (Replied place words)) number
    (stands 0 0 cs outs k (Replied place words) agrees.counts.each agrees.counts.places there refl) in
    let offered : Offered = record { tag = k; body = at.body } in
    let among : slice_get (sent ++ queue) at.j ≡ Some offered =
    ap (λ (l : List Offered). slice_get l at.j) agrees.offered ∙ at.there in
    let place_is : place ≡ suc at.j = (let p : Some place ≡ Some (0 + at.j + 1) = at.place_is in
    let q : place ≡ 0 + at.j + 1 = cc in omega (arith, q)) in
    elim (either_side sent queue at.j offered among) [
      | inl here ↦ ap (λ (p : ℕ). tag_there (at_place sent p)) place_is ∙ ap tag_there here
      | inr queued ↦ (
          let t = tag_among queue queued.0 offered queued.1 in
          let waits = sym agrees.waits ∙ (ap (λ (l : List ℕ). awaited_tags sent os ++ l) t.split
          ∙ sym (append_assoc (awaited_tags sent os) t.front (k ∷ t.back))) in
          let none = unsettled_none k outs (awaited_tags sent os ++ t.front) t.back waits in
          absurd (let both : Some (Some (Replied place words)) ≡ Some None = sym there ∙ none in cc))
    ]

-- so where the hub has no tag for a place there is no reply, and where it has one the reply is under it
pub no_tag : (sent queue : List Offered) (os : List OpenPlace) (cs : List Claim) (outs : List (Option Outcome))
    (place : ℕ) → Agrees sent queue os cs outs → tag_there (at_place sent place) ≡ None → (words : List ℕ)
    → IsReplyAt outs place words → ⊥
no_tag sent queue os cs outs place agrees none words at =
    let tag = reply_tagged sent queue os cs outs agrees at.number place words at.there in
    (let both : Some at.number ≡ None = sym tag ∙ none in cc)

pub no_reply_under : (sent queue : List Offered) (os : List OpenPlace) (cs : List Claim)
    (outs : List (Option Outcome)) (place tag : ℕ) → Agrees sent queue os cs outs
    → tag_there (at_place sent place) ≡ Some tag
    → ((words : List ℕ) → slice_get outs tag ≡ Some (Some (Replied place words)) → ⊥) → (words : List ℕ)
    → IsReplyAt outs place words → ⊥
no_reply_under sent queue os cs outs place tag agrees some none words at =
    let its = reply_tagged sent queue os cs outs agrees at.number place words at.there in
    let both : Some at.number ≡ Some tag = sym its ∙ some in
    let same : at.number ≡ tag = cc in
    none words (ap (slice_get outs) (sym same) ∙ at.there)

pub none_then : {A : Type 0} {P Q : Type 0} (r : Option A) → (P → Q) → IfNone r P → IfNone r Q
none_then None leads is = leads is
none_then (Some x) leads is = tt
