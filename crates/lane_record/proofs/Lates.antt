-- What came late: how it is put at its place, and what stays.
use Rattle.std.proofs.Common.{◌≡◌, ◌≢◌, ◌⊎◌, ℕ, zero, suc, ◌+◌, ◌<◌, ◌≤◌, ◌==◌, cond, List, [], ◌∷◌}
use Rattle.std.proofs.Common.{◌++◌, length, Option, Some, None, get_or, refl, sym, ap, ◌∙◌, arith, inl, inr}
use Rattle.std.proofs.Common.{get_or-set_other, get_or-set_same}
use Rattle.std.proofs.Math.ListN.{length-set}
use Rattle.std.specs.Prelude.{slice_set}
use Rattle.std.proofs.lemmas.Bool.{eq-eqb}
use Rattle.std.proofs.lemmas.Bool.Decides.{eqb_tells}
use Rattle.std.proofs.lemmas.List.{map-append}
use Rattle.std.specs.List.{Contains}
use Rattle.std.proofs.lemmas.List.Elements.{Contains-append_cases, Contains-append_left, Contains-append_right}
use Rattle.world_model.specs.History.{times}
use Rattle.world_model.specs.LateAnswers.{late_places, place_of_late}
use Rattle.world_model.proofs.Accounts.{times-append}
use Rattle.lane_record.specs.Lates.{AreLatesBy, AreLatesToldBy, KeepsLates, late_in, put_late, put_lates}

-- ---- one late answer

abbrev pub Late : Type 0
Late = ℕ × List ℕ

length-put_late : (place : ℕ) (words : List ℕ) (lates : List (Option (List ℕ)))
    → length (put_late place words lates) ≡ length lates
length-put_late zero words lates = refl
length-put_late (suc k) words lates = length-set lates k (Some words)

put_here : (place : ℕ) (words : List ℕ) (lates : List (Option (List ℕ))) → 1 ≤ place → place ≤ length lates
    → late_in (put_late place words lates) place ≡ Some words
put_here zero words lates one within = absurd (omega (arith, one))
put_here (suc k) words lates one within = get_or-set_same lates k (Some words) None (omega (arith, within))

put_elsewhere : (place other : ℕ) (words : List ℕ) (lates : List (Option (List ℕ))) → (place ≡ other → ⊥)
    → late_in (put_late place words lates) other ≡ late_in lates other
put_elsewhere zero other words lates apart = refl
put_elsewhere (suc k) zero words lates apart = refl
put_elsewhere (suc k) (suc j) words lates apart =
    get_or-set_other lates k j (Some words) None (λ same. apart (ap suc (sym same)))

-- what is at a place then was put there, or was there before
came_here : (place other : ℕ) (words new : List ℕ) (lates : List (Option (List ℕ)))
    → late_in (put_late place new lates) other ≡ Some words
    → ((place ≡ other) × (new ≡ words)) ⊎ (late_in lates other ≡ Some words)
came_here zero other words new lates is = inr is
came_here (suc k) zero words new lates is = inr is
came_here (suc k) (suc j) words new lates is = set_here k j words new lates is
  where
    set_here : (k j : ℕ) (words new : List ℕ) (xs : List (Option (List ℕ)))
        → get_or (slice_set xs k (Some new)) j None ≡ Some words
        → ((suc k ≡ suc j) × (new ≡ words)) ⊎ (get_or xs j None ≡ Some words)
    set_here k j words new [] is = absurd cc
    set_here zero zero words new (x ∷ xs) is = inl (refl, cc)
    set_here zero (suc j) words new (x ∷ xs) is = inr is
    set_here (suc k) zero words new (x ∷ xs) is = inr is
    set_here (suc k) (suc j) words new (x ∷ xs) is = elim (set_here k j words new xs is) [
      | inl both ↦ inl (ap suc both.0, both.1)
      | inr old ↦ inr old
    ]

-- ---- all that a hub hands out

pub length-put_lates : (new : List Late) (lates : List (Option (List ℕ)))
    → length (put_lates new lates) ≡ length lates
length-put_lates [] lates = refl
length-put_lates (late ∷ later) lates =
    length-put_lates later (put_late late.0 late.1 lates) ∙ length-put_late late.0 late.1 lates

-- a place of which there is none keeps what came late there
pub put_others : (new : List Late) (lates : List (Option (List ℕ))) (place : ℕ) → times place (late_places new) ≡ 0
    → late_in (put_lates new lates) place ≡ late_in lates place
put_others [] lates place none = refl
put_others (late ∷ later) lates place none = elim (eqb_tells late.0 place) [
  | inl same ↦ absurd (let h : ◌≡◌ {A = ℕ} (cond (late.0 == place) 1 0) 1 = rw same.0 refl in omega (arith, h, none))
  | inr apart ↦
      put_others later (put_late late.0 late.1 lates) place (omega (arith, none))
      ∙ put_elsewhere late.0 place late.1 lates apart.1
]

pub counted : (lates : List Late) (place : ℕ) (words : List ℕ) → Contains lates (place, words)
    → 1 ≤ times place (late_places lates)
counted [] place words (k, lt, e) = absurd (omega (arith, lt))
counted (late ∷ later) place words (zero, lt, e) =
    let same : late.0 ≡ place = ap (λ (l : Late). l.0) e in
    let here : ◌≡◌ {A = ℕ} (cond (late.0 == place) 1 0) 1 = rw (eq-eqb late.0 place same) refl in
    omega (arith, here)
counted (late ∷ later) place words (suc k, lt, e) =
    let rest = counted later place words (k, omega (arith, lt), e) in omega (arith, rest)

-- a late answer stands at its place then, where no other is of that place
pub put_there : (new : List Late) (lates : List (Option (List ℕ))) (place : ℕ) (words : List ℕ)
    → Contains new (place, words) → times place (late_places new) ≤ 1 → 1 ≤ place → place ≤ length lates
    → late_in (put_lates new lates) place ≡ Some words
put_there [] lates place words (k, lt, e) once one within = absurd (omega (arith, lt))
put_there (late ∷ later) lates place words (zero, lt, e) once one within =
    let same : late.0 ≡ place = ap (λ (l : Late). l.0) e in
    let here : ◌≡◌ {A = ℕ} (cond (late.0 == place) 1 0) 1 = rw (eq-eqb late.0 place same) refl in
    put_others later (put_late late.0 late.1 lates) place (omega (arith, once, here))
    ∙ (ap (λ (l : Late). late_in (put_late l.0 l.1 lates) place) e ∙ put_here place words lates one within)
put_there (late ∷ later) lates place words (suc k, lt, e) once one within =
    let long = length-put_late late.0 late.1 lates in
    put_there later (put_late late.0 late.1 lates) place words (k, omega (arith, lt), e)
    (omega (arith, once)) one (omega (arith, within, long))

pub came : (new : List Late) (lates : List (Option (List ℕ))) (place : ℕ) (words : List ℕ)
    → late_in (put_lates new lates) place ≡ Some words
    → Contains new (place, words) ⊎ (late_in lates place ≡ Some words)
came [] lates place words is = inr is
came (late ∷ later) lates place words is = elim (came later (put_late late.0 late.1 lates) place words is) [
  | inl there ↦ inl (suc there.0, (let lt = there.1 in omega (arith, lt)), there.2)
  | inr put ↦ elim (came_here late.0 place words late.1 lates put) [
    | inl both ↦ inl (
      0,
      omega arith,
      ap (λ (n : ℕ). (n, late.1)) both.0 ∙ ap (λ (ws : List ℕ). (place, ws)) both.1,
    )
    | inr old ↦ inr old
  ]
]

-- ---- what was handed out

pub told_lates_more : (told new : List Late) (lates : List (Option (List ℕ))) → AreLatesToldBy told lates
    → AreLatesToldBy (told ++ new) (put_lates new lates)
told_lates_more told new lates are = λ place words is. elim (came new lates place words is) [
  | inl now ↦ Contains-append_right told new (place, words) now
  | inr old ↦ Contains-append_left told new (place, words) (are place words old)
]

both_times : (told new : List Late) (place : ℕ)
    → times place (late_places (told ++ new)) ≡ times place (late_places told) + times place (late_places new)
both_times told new place = ap (times place) (map-append place_of_late told new)
    ∙ times-append place (late_places told) (late_places new)

-- each late answer is of a place that there is
abbrev pub AreWithinPlaces : ℕ → List Late → Type 0
AreWithinPlaces most new = (place : ℕ) (words : List ℕ) → Contains new (place, words)
    → (1 ≤ place) × (place ≤ most)

module _ (told new : List Late) (lates : List (Option (List ℕ)))
    (once : (place : ℕ) → times place (late_places (told ++ new)) ≤ 1) (by : AreLatesBy told lates) where
  pub lates_stay : KeepsLates lates (put_lates new lates)
  lates_stay place words is =
      let before = counted told place words (by.came place words is) in
      let all = once place in
      put_others new lates place (omega (arith, before, all, both_times told new place)) ∙ is

  pub lates_handed_out : AreWithinPlaces (length lates) new → AreLatesBy (told ++ new) (put_lates new lates)
  lates_handed_out within = record {
    came = told_lates_more told new lates by.came;
    kept = λ place words there. elim (Contains-append_cases told new (place, words) there) [
      | inl old ↦ lates_stay place words (by.kept place words old)
      | inr now ↦ (
          let all = once place in
          let at = within place words now in
          put_there new lates place words now (omega (arith, all, both_times told new place)) at.0 at.1)
    ];
  }

-- ---- one more place

none_more : (lates : List (Option (List ℕ))) (k : ℕ) → get_or (lates ++ None ∷ []) k None ≡ get_or lates k None
none_more [] zero = refl
none_more [] (suc k) = refl
none_more (x ∷ xs) zero = refl
none_more (x ∷ xs) (suc k) = none_more xs k

pub none_added : (lates : List (Option (List ℕ))) (place : ℕ)
    → late_in (lates ++ None ∷ []) place ≡ late_in lates place
none_added lates zero = refl
none_added lates (suc k) = none_more lates k

pub told_lates_added : (told : List Late) (lates : List (Option (List ℕ))) → AreLatesToldBy told lates
    → AreLatesToldBy told (lates ++ None ∷ [])
told_lates_added told lates are = λ place words is. are place words (sym (none_added lates place) ∙ is)

pub lates_added : (told : List Late) (lates : List (Option (List ℕ))) → AreLatesBy told lates
    → AreLatesBy told (lates ++ None ∷ [])
lates_added told lates by = record {
  came = told_lates_added told lates by.came;
  kept = λ place words there. none_added lates place ∙ by.kept place words there;
}

pub none_late : (place : ℕ) → late_in [] place ≡ None
none_late zero = refl
none_late (suc k) = refl

pub no_lates : AreLatesBy [] []
no_lates = record {
  came = λ place words is. absurd (let h : None ≡ Some words = sym (none_late place) ∙ is in cc);
  kept = λ place words there. absurd (let lt = there.1 in omega (arith, lt));
}
