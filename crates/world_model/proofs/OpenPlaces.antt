-- Which places are open once a body was sent, or a reply was heard.
use Rattle.std.proofs.Common.{◌≡◌, ℕ, ◌+◌, true, false, cond, ◌==◌, ◌||◌, List, [], ◌∷◌, ◌++◌, length}
use Rattle.std.proofs.Common.{Option, Some, None, refl, sym, ap, ◌∙◌, subst, arith, inl, inr, ◌⊎◌}
use Rattle.std.specs.Prelude.{IfSome}
use Rattle.std.proofs.lemmas.Bool.Decides.{eqb_tells}
use Rattle.std.proofs.lemmas.Bool.{eqb-true}
use Rattle.std.proofs.lemmas.List.{map-append}
use Rattle.packet_ids.specs.Identifier.{identifier_at, IsIdentifier}
use Rattle.world_model.specs.declared.offered.OpenPlace.{OpenPlace}
use Rattle.world_model.specs.Messages.{ToHub}
use Rattle.world_model.specs.Hub.{Hub, hear_reply, open_with, place_of, places, recover, settle, take_message}
use Rattle.world_model.specs.Sends.{Next, next_send, opened_place}
use Rattle.world_model.specs.Facts.{AreRising, IsWindow, has}
use Rattle.world_model.proofs.Places.{has_below, has_from, less, one_place}
use Rattle.world_model.proofs.Hubs.{IsWantedOr, has_first, has_later, places_map, places_without, recover_place}
use Rattle.world_model.proofs.Hubs.{wanted_is}
use Rattle.world_model.proofs.Flushing.{message_cases, send_cases}

-- ---- one place fewer, and one more

pub was_there : (place gone : ℕ) (ps : List ℕ) → has place (less gone ps) ≡ true → has place ps ≡ true
was_there place gone [] there = there
was_there place gone (p ∷ ps) there = elim (p == gone)
    as (λ b. has place (cond b ps (p ∷ less gone ps)) ≡ true → (p == place || has place ps) ≡ true) [
      | true ↦ λ later. has_later place p ps later
      | false ↦ λ later. elim (p == place) as (λ c. (c || has place (less gone ps)) ≡ true
          → (c || has place ps) ≡ true) [
            | true ↦ λ _. refl
            | false ↦ λ more. was_there place gone ps more
          ] later
    ] there

-- a place that was taken out is not there any more
pub gone_for_good : (place from past : ℕ) (ps : List ℕ) → AreRising from past ps → has place (less place ps) ≡ true → ⊥
gone_for_good place from past [] rising there = absurd (cc)
gone_for_good place from past (p ∷ ps) rising there = elim (eqb_tells p place) [
  | inl here ↦
      let e : less place (p ∷ ps) ≡ ps = rw here.0 refl in
      let later = has_from place (p + 1) past ps rising.1 (ap (has place) (sym e) ∙ there) in
      absurd (omega (arith, here.1, later))
  | inr apart ↦
      let e : has place (less place (p ∷ ps)) ≡ has place (less place ps) = rw (apart.0, apart.0) refl in
      gone_for_good place (p + 1) past ps rising.1 (sym e ∙ there)
]

pub there_or_last : (place last : ℕ) (ps : List ℕ) → has place (ps ++ last ∷ []) ≡ true
    → (has place ps ≡ true) ⊎ (place ≡ last)
there_or_last place last [] there = elim (eqb_tells last place) [
  | inl same ↦ inr (sym same.1)
  | inr apart ↦ absurd (let e : has place (last ∷ []) ≡ false = rw apart.0 refl in cc)
]
there_or_last place last (p ∷ ps) there = elim (p == place) as (λ b. (b || has place (ps ++ last ∷ [])) ≡ true
    → ((b || has place ps) ≡ true) ⊎ (place ≡ last)) [
      | true ↦ λ _. inl refl
      | false ↦ λ later. there_or_last place last ps later
    ] there

-- ---- the open place that an identifier names

pub record IsOpenWith (first id : ℕ) (os : List OpenPlace) (o : OpenPlace) : Type 0 where
  pub there : has o.place (places os) ≡ true
  pub identifier : identifier_at first o.place ≡ id

pub named : (first id : ℕ) (os : List OpenPlace) (o : OpenPlace) → open_with first id os ≡ Some o
    → IsOpenWith first id os o
named first id [] o e = absurd (cc)
named first id (x ∷ os) o e =
    elim (identifier_at first x.place == id) as (λ b. (identifier_at first x.place == id) ≡ b
    → cond b (Some x) (open_with first id os) ≡ Some o → IsOpenWith first id (x ∷ os) o) [
      | true ↦ λ is found. (let same : x ≡ o = cc in subst (IsOpenWith first id (x ∷ os)) same
          (record { there = has_first x.place (places os); identifier = eqb-true _ _ is }))
      | false ↦ λ is later. (let found = named first id os o later in
          record { there = has_later o.place x.place (places os) found.there; identifier = found.identifier })
    ] refl e

pub none_named : (first id : ℕ) (os : List OpenPlace) (place : ℕ) → open_with first id os ≡ None
    → has place (places os) ≡ true → identifier_at first place ≡ id → ⊥
none_named first id [] place none there same = absurd (cc)
none_named first id (o ∷ os) place none there same = elim (eqb_tells (identifier_at first o.place) id) [
  | inl here ↦ absurd (
      let e : open_with first id (o ∷ os) ≡ Some o = rw here.0 refl in
      let bad : Some o ≡ None = sym e ∙ none in cc)
  | inr other ↦
      let later : open_with first id os ≡ None =
      (let e : open_with first id (o ∷ os) ≡ open_with first id os = rw other.0 refl in sym e ∙ none) in
      elim (eqb_tells o.place place) [
        | inl this ↦ other.1 (ap (identifier_at first) this.1 ∙ same)
        | inr apart ↦ none_named first id os place later
            (let e : has place (places (o ∷ os)) ≡ has place (places os) = rw apart.0 refl in sym e ∙ there) same
      ]
]

-- ---- a reply closes the place that it names

-- the first identifier of a hub is one, and its open places lie in its window
pub record HasWindow (hub : Hub) : Type 0 where
  pub identifier : IsIdentifier hub.first
  pub window : IsWindow hub.window (length hub.sent) (places hub.open_places)

-- open places with one identifier are one
pub one_open : (hub : Hub) (a b : ℕ) → HasWindow hub → has a (places hub.open_places) ≡ true
    → has b (places hub.open_places) ≡ true → identifier_at hub.first a ≡ identifier_at hub.first b → a ≡ b
one_open hub a b is mine yours same =
    let ps = places hub.open_places in
    let from_a = has_from a _ _ ps is.window.rising mine in
    let below_a = has_below a _ _ ps is.window.rising mine in
    let from_b = has_from b _ _ ps is.window.rising yours in
    let below_b = has_below b _ _ ps is.window.rising yours in
    let few = is.window.few in
    let one = is.window.from_one in
    let within = is.window.within in
    one_place hub.first a b is.identifier (omega (arith, from_a, one)) (omega (arith, from_b, one))
    (omega (arith, below_a, from_b, few, within)) (omega (arith, below_b, from_a, few, within)) same

settled_closes : (hub : Hub) (id : ℕ) (words : List ℕ) (place : ℕ) (r : Option OpenPlace) → HasWindow hub
    → identifier_at hub.first place ≡ id → open_with hub.first id hub.open_places ≡ r
    → has place (places (settle hub words r).open_places) ≡ true → ⊥
settled_closes hub id words place None is same e there = none_named hub.first id hub.open_places place e there same
settled_closes hub id words place (Some o) is same e there =
    let ps = places hub.open_places in
    let found = named hub.first id hub.open_places o e in
    let gone = places_without o.place hub.open_places in
    let left : has place (less o.place ps) ≡ true = ap (has place) (sym gone) ∙ there in
    let mine = was_there place o.place ps left in
    let one = one_open hub place o.place is mine found.there (same ∙ sym found.identifier) in
    gone_for_good place _ _ ps is.window.rising (subst (λ (p : ℕ). has place (less p ps) ≡ true) (sym one) left)

pub reply_closes : (hub : Hub) (id : ℕ) (words : List ℕ) (place : ℕ) → HasWindow hub
    → identifier_at hub.first place ≡ id → has place (places (hear_reply hub id words).open_places) ≡ true → ⊥
reply_closes hub id words place is same there =
    settled_closes hub id words place (open_with hub.first id hub.open_places) is same refl there

-- no message opens a place
pub message_opens_none : (hub : Hub) (message : Option ToHub) (place : ℕ)
    → has place (places (take_message hub message).open_places) ≡ true → has place (places hub.open_places) ≡ true
message_opens_none hub message place = message_cases
    (λ (h : Hub). has place (places h.open_places) ≡ true → has place (places hub.open_places) ≡ true) hub message
    (λ there. there)
    (λ told there. ap (has place) (sym (places_map (recover told) hub.open_places (recover_place told))) ∙ there)
    (λ id words o found there. was_there place o.place (places hub.open_places)
    (ap (has place) (sym (places_without o.place hub.open_places)) ∙ there))

-- ---- a send opens the next place, or none

abbrev pub OpensNextOrNone : Hub → Next → Type 0
OpensNextOrNone hub next = (place : ℕ) → has place (places next.hub.open_places) ≡ true
    → (has place (places hub.open_places) ≡ true) ⊎ (place ≡ length hub.sent + 1)

opens : (hub : Hub) → IfSome (next_send hub) (OpensNextOrNone hub)
opens hub = send_cases (OpensNextOrNone hub) hub
    (λ place there. inl there)
    (λ w is place there. inl (
    let wants = subst (IsWantedOr hub.first hub.open_places) is (wanted_is hub.first hub.open_places) in
    ap (has place) (sym wants.same) ∙ there))
    (λ o later queue room place there. there_or_last place (length hub.sent + 1) (places hub.open_places)
    (ap (has place) (sym (map-append place_of hub.open_places (opened_place (length hub.sent + 1) ∷ []))) ∙ there))

pub send_opens : (hub : Hub) (next : Next) → next_send hub ≡ Some next → OpensNextOrNone hub next
send_opens hub next e = subst (λ (r : Option Next). IfSome r (OpensNextOrNone hub)) e (opens hub)
