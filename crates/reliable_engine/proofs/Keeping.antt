-- Each event on what an engine keeps.
use Rattle.std.proofs.Common.{◌≡◌, ◌≤◌, ◌<◌, ◌^◌, ℕ, suc, true, false, cond, ◌==◌, if◌then◌else◌, length, map, List}
use Rattle.std.proofs.Common.{[], ◌∷◌, ◌++◌, ◌+◌, ◌-◌, Option, Some, None, refl, ap, ◌∙◌, subst, arith, inl, inr}
use Rattle.std.specs.Prelude.{IfSome}
use Rattle.std.proofs.lemmas.Bool.{eqb-true, eq-eqb}
use Rattle.std.proofs.lemmas.Bool.Decides.{eqb_tells}
use Rattle.std.proofs.lemmas.List.{length-map, map-append}
use Rattle.std.proofs.Common.{length-append}
use Rattle.packet_ids.specs.Identifier.{identifier_at}
use Rattle.world_model.specs.declared.offered.OpenPlace.{OpenPlace}
use Rattle.world_model.specs.Hub.{recover, abandoned_place, open_with, without, places, place_of, least}
use Rattle.world_model.specs.Sends.{Wanted, after_open, first_wanted, opened_place}
use Rattle.world_model.specs.Facts.{AreRising, IsWindow, has}
use Rattle.world_model.specs.History.{times}
use Rattle.reliable_engine.specs.Steps.{places_wanted, waits}
use Rattle.reliable_engine.specs.ToldFates.{waited_places}
use Rattle.reliable_engine.specs.View.{Keeps}
use Rattle.world_model.proofs.Hubs.{IsWantedOr, places_map, places_without, wanted_is}
use Rattle.world_model.proofs.Lists.{either}
use Rattle.world_model.proofs.Places.{window_less, window_push}

-- ---- what is waited for

-- at most so many are waited for
waits_few : (os : List OpenPlace) → waits os ≤ length os
waits_few [] = omega arith
waits_few (o ∷ os) =
    let h = waits_few os in
    elim o.waited as (λ b. cond b 1 0 + waits os ≤ suc (length os)) [ true ↦ omega arith | false ↦ omega arith ]

waits_places : (os : List OpenPlace) → waits os ≡ length (waited_places os)
waits_places [] = refl
waits_places (o ∷ os) = elim o.waited as (λ b. cond b 1 0 + waits os
    ≡ length (cond b (o.place ∷ waited_places os) (waited_places os))) [
      | true ↦ omega (arith, waits_places os)
      | false ↦ omega (arith, waits_places os)
    ]

pub waited_map : (f : OpenPlace → OpenPlace) (os : List OpenPlace) → ((o : OpenPlace) → (f o).place ≡ o.place)
    → ((o : OpenPlace) → (f o).waited ≡ o.waited) → waited_places (map f os) ≡ waited_places os
waited_map f [] place waited = refl
waited_map f (o ∷ os) place waited = rw (place o, waited o, waited_map f os place waited) refl

same_waits : (os qs : List OpenPlace) → waited_places qs ≡ waited_places os → waits qs ≡ waits os
same_waits os qs same = omega (arith, waits_places os, waits_places qs, ap length same)

pub waits_map : (f : OpenPlace → OpenPlace) (os : List OpenPlace) → ((o : OpenPlace) → (f o).place ≡ o.place)
    → ((o : OpenPlace) → (f o).waited ≡ o.waited) → waits (map f os) ≡ waits os
waits_map f os place waited = same_waits os (map f os) (waited_map f os place waited)

waits_abandoned : (os : List OpenPlace) → waits (map abandoned_place os) ≡ 0
waits_abandoned [] = refl
waits_abandoned (o ∷ os) = let h = waits_abandoned os in omega arith

waits_push : (os : List OpenPlace) (place : ℕ) → waits (os ++ opened_place place ∷ []) ≡ waits os + 1
waits_push [] place = omega arith
waits_push (o ∷ os) place = let h = waits_push os place in omega arith

abbrev pub SameWaited : List OpenPlace → Option Wanted → Type 0
SameWaited os r = IfSome r (λ (w : Wanted). waited_places w.open_places ≡ waited_places os)

waited_later : (o : OpenPlace) (os : List OpenPlace) (r : Option Wanted) → SameWaited os r
    → SameWaited (o ∷ os) (after_open o r)
waited_later o os None same = tt
waited_later o os (Some w) same = ap (λ (ps : List ℕ). cond o.waited (o.place ∷ ps) ps) same

pub wanted_waited : (first : ℕ) (os : List OpenPlace) → SameWaited os (first_wanted first os)
wanted_waited first [] = tt
wanted_waited first (o ∷ os) = either (SameWaited (o ∷ os)) o.resend _ _
    (λ _. refl)
    (λ _. either (SameWaited (o ∷ os)) o.control _ _
    (λ _. refl)
    (λ _. waited_later o os _ (wanted_waited first os)))

pub recover_waits : (told : ℕ) (o : OpenPlace) → (recover told o).waited ≡ o.waited
recover_waits told o = either (λ (x : OpenPlace). x.waited ≡ o.waited) _ _ _ (λ _. refl) (λ _. refl)

-- how often a place is waited for
abbrev pub place_waits : ℕ → List OpenPlace → ℕ
place_waits place os = times place (waited_places os)

pub waits_first : (place : ℕ) (o : OpenPlace) (os : List OpenPlace)
    → place_waits place (o ∷ os) ≡ place_waits place (o ∷ []) + place_waits place os
waits_first place o os = elim o.waited as (λ b. times place (cond b (o.place ∷ waited_places os) (waited_places os))
    ≡ times place (cond b (o.place ∷ []) []) + place_waits place os) [ true ↦ omega arith | false ↦ omega arith ]

-- ---- one open place taken out

pub record Removed (os : List OpenPlace) (o : OpenPlace) : Type 0 where
  pub waiting : waits (without o.place os) + (if o.waited then 1 else 0) ≡ waits os
  pub waited : (place : ℕ)
      → place_waits place os ≡ place_waits place (o ∷ []) + place_waits place (without o.place os)
  pub shorter : length (without o.place os) + 1 ≡ length os
  pub there : has o.place (places os) ≡ true

removed_here : (o : OpenPlace) (os : List OpenPlace) → Removed (o ∷ os) o
removed_here o os =
    let same = eq-eqb o.place o.place refl in
    record {
      waiting = rw same (omega arith);
      waited = λ place. rw same (waits_first place o os);
      shorter = rw same (omega arith);
      there = rw same refl;
    }

removed_later : (x o : OpenPlace) (os : List OpenPlace) → (x.place == o.place) ≡ false → Removed os o
    → Removed (x ∷ os) o
removed_later x o os apart is = record {
  waiting = rw apart (omega (arith, is.waiting));
  waited = λ place. rw apart (omega (
    arith,
    is.waited place,
    waits_first place x os,
    waits_first place x (without o.place os),
  ));
  shorter = rw apart (omega (arith, is.shorter));
  there = rw apart is.there;
}

-- the open place with an identifier
pub record IsFound (first id : ℕ) (os : List OpenPlace) (o : OpenPlace) : Type 0 where
  pub named : identifier_at first o.place ≡ id
  pub gone : Removed os o

found_later : (first id : ℕ) (x o : OpenPlace) (os : List OpenPlace) → (identifier_at first x.place == id) ≡ false
    → IsFound first id os o → IsFound first id (x ∷ os) o
found_later first id x o os other is = elim (eqb_tells x.place o.place) [
  | inl same ↦ absurd (
      let here = eq-eqb (identifier_at first x.place) id (ap (identifier_at first) same.1 ∙ is.named) in cc)
  | inr apart ↦ record { named = is.named; gone = removed_later x o os apart.0 is.gone }
]

pub found : (first id : ℕ) (os : List OpenPlace) (o : OpenPlace) → open_with first id os ≡ Some o
    → IsFound first id os o
found first id [] o e = absurd (cc)
found first id (x ∷ os) o e =
    elim (identifier_at first x.place == id) as (λ b. (identifier_at first x.place == id) ≡ b
    → cond b (Some x) (open_with first id os) ≡ Some o → IsFound first id (x ∷ os) o) [
      | true ↦ λ is told.
          let same : x ≡ o = cc in
          subst (IsFound first id (x ∷ os)) same (record { named = eqb-true _ _ is; gone = removed_here x os })
      | false ↦ λ is told. found_later first id x o os is (found first id os o told)
    ] refl e

-- ---- what is kept

pub keeps_same : (first window sent count : ℕ) (os qs : List OpenPlace) (fl fr ll lr : ℕ)
    → Keeps first window sent count os fl fr ll lr → places qs ≡ places os → waits qs ≡ waits os
    → Keeps first window sent count qs fl fr ll lr
keeps_same first window sent count os qs fl fr ll lr is same waiting = record {
  identifier = is.identifier;
  within = is.within;
  few = is.few;
  in_window = rw same is.in_window;
  fates_fit = omega (arith, is.fates_fit);
  lates_fit = omega (arith, is.lates_fit, length-map os place_of, length-map qs place_of, ap length same);
}

pub keeps_push : (first window sent count : ℕ) (os : List OpenPlace) (fl fr ll lr : ℕ)
    → Keeps first window sent count os fl fr ll lr → sent < count → sent + 2 ≤ window + least (places os) (sent + 1)
    → Keeps first window (sent + 1) count (os ++ opened_place (sent + 1) ∷ []) fl fr ll lr
keeps_push first window sent count os fl fr ll lr is more room =
    let w = waits_push os (sent + 1) in
    record {
      identifier = is.identifier;
      within = omega arith;
      few = is.few;
      in_window = rw (map-append place_of os (opened_place (sent + 1) ∷ []))
          (window_push window sent (places os) is.in_window room);
      fates_fit = omega (arith, is.fates_fit);
      lates_fit = omega (arith, is.lates_fit, length-append os (opened_place (sent + 1) ∷ []));
    }

pub keeps_less : (first window sent count : ℕ) (os : List OpenPlace) (o : OpenPlace) (fl fr ll lr fl2 fr2 ll2 lr2 : ℕ)
    → Keeps first window sent count os fl fr ll lr → Removed os o → fl2 ≤ fl + (if o.waited then 1 else 0) → fr ≤ fr2
    → ll2 ≤ ll + 1 → lr ≤ lr2
    → Keeps first window sent count (without o.place os) fl2 fr2 ll2 lr2
keeps_less first window sent count os o fl fr ll lr fl2 fr2 ll2 lr2 is gone fates grown late more = record {
  identifier = is.identifier;
  within = is.within;
  few = is.few;
  in_window = rw (places_without o.place os) (window_less window sent o.place (places os) is.in_window);
  fates_fit = omega (arith, is.fates_fit, gone.waiting);
  lates_fit = omega (arith, is.lates_fit, gone.shorter);
}

wanted_kept : (first window sent count : ℕ) (os : List OpenPlace) (fl fr ll lr : ℕ) (r : Option Wanted)
    → Keeps first window sent count os fl fr ll lr → IsWantedOr first os r → SameWaited os r
    → Keeps first window sent count (places_wanted os r) fl fr ll lr
wanted_kept first window sent count os fl fr ll lr None is w s = is
wanted_kept first window sent count os fl fr ll lr (Some x) is w s =
    keeps_same first window sent count os x.open_places fl fr ll lr is w.same (same_waits os x.open_places s)

pub keeps_wanted : (first window sent count : ℕ) (os : List OpenPlace) (fl fr ll lr : ℕ)
    → Keeps first window sent count os fl fr ll lr
    → Keeps first window sent count (places_wanted os (first_wanted first os)) fl fr ll lr
keeps_wanted first window sent count os fl fr ll lr is =
    wanted_kept first window sent count os fl fr ll lr (first_wanted first os) is (wanted_is first os)
    (wanted_waited first os)

pub keeps_abandoned : (first window sent count : ℕ) (os : List OpenPlace) (fl fr ll lr count2 fl2 fr2 : ℕ)
    → Keeps first window sent count os fl fr ll lr → count2 ≡ sent → fl2 ≡ fl + waits os + (count - sent) → fr ≤ fr2
    → Keeps first window sent count2 (map abandoned_place os) fl2 fr2 ll lr
keeps_abandoned first window sent count os fl fr ll lr count2 fl2 fr2 is cut told grown =
    let w = waits_abandoned os in
    record {
      identifier = is.identifier;
      within = omega arith;
      few = omega (arith, is.within, is.few);
      in_window = rw (places_map abandoned_place os (λ _. refl)) is.in_window;
      fates_fit = omega (arith, is.fates_fit);
      lates_fit = omega (arith, is.lates_fit, length-map os abandoned_place);
    }

rising_length : (from past : ℕ) (ps : List ℕ) → AreRising from past ps → from + length ps ≤ past
rising_length from past [] r = omega (arith, r)
rising_length from past (p ∷ ps) r = let later = rising_length (p + 1) past ps r.1 in omega (arith, r.0)

-- no more are open than the window
window_length : (window sent : ℕ) (os : List OpenPlace) → IsWindow window sent (places os) → length os ≤ window
window_length window sent os is =
    let few = rising_length _ _ (places os) is.rising in
    let len = length-map os place_of in
    omega (arith, is.within)

pub keeps_offer : (first window sent count : ℕ) (os : List OpenPlace) (fl fr ll lr count2 fr2 lr2 : ℕ)
    → Keeps first window sent count os fl fr ll lr → count2 ≡ count + 1 → count < 2 ^ 62
    → fl + (window + (count - sent) + 1) ≤ fr2 → ll + (window + (count - sent) + 1) ≤ lr2
    → Keeps first window sent count2 os fl fr2 ll lr2
keeps_offer first window sent count os fl fr ll lr count2 fr2 lr2 is more few fate_room late_room =
    let w = waits_few os in
    let open_few = window_length window sent os is.in_window in
    record {
      identifier = is.identifier;
      within = omega (arith, is.within);
      few = omega arith;
      in_window = is.in_window;
      fates_fit = omega (arith, is.within);
      lates_fit = omega (arith, is.within);
    }
