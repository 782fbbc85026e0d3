-- The slots of places, and the open places in them.
use Rattle.std.proofs.Common.{◌≡◌, ◌≢◌, ◌≤◌, ◌<◌, ℕ, zero, suc, ◌+◌, ◌-◌, ◌*◌, ◌%◌, ◌^◌, ◌==◌, true, false, cond}
use Rattle.std.proofs.Common.{map, List, [], ◌∷◌, ◌++◌, get_or, Option, Some, None, refl, sym, ap, ◌∙◌, subst}
use Rattle.std.proofs.Common.{arith, inl, inr}
use Rattle.std.specs.Prelude.{nat_lt}
use Rattle.std.proofs.lemmas.Bool.{eq-eqb, ltb-true}
use Rattle.std.proofs.lemmas.Bool.Decides.{eqb_tells}
use Rattle.std.proofs.lemmas.List.{append-nil, map-append}
use Rattle.packet_ids.specs.Identifier.{identifier_at}
use Rattle.world_model.specs.declared.offered.OpenPlace.{OpenPlace}
use Rattle.world_model.specs.Hub.{least, open_with, place_of, places, recover, want_control, without}
use Rattle.world_model.specs.Sends.{opened_place}
use Rattle.world_model.specs.Facts.{AreRising}
use Rattle.world_model.proofs.Hubs.{places_without}
use Rattle.world_model.proofs.Lists.{either}
use Rattle.world_model.proofs.Places.{least_from, least_push, rising_end, rising_from, rising_least, rising_less}
use Rattle.world_model.proofs.Places.{rising_push}
use Rattle.reliable_engine.specs.declared.slots.Flags.{Flags}
use Rattle.reliable_engine.specs.declared.slots.TheConstants.{SLOTS}
use Rattle.reliable_engine.specs.Slots.{EndsAt, IsPut, IsSlotted, with_changed_place, open_at, open_from, place_with_flags}
use Rattle.reliable_engine.specs.Slots.{put_before}

-- ---- one slot

none_slot : (place : ℕ) (slot : Option Flags) → place_with_flags place slot ≡ None → slot ≡ None
none_slot place None none = refl
none_slot place (Some flags) none = absurd (cc)

place_of_slot : (place : ℕ) (slot : Option Flags) (o : OpenPlace) → place_with_flags place slot ≡ Some o
    → o.place ≡ place
place_of_slot place None o e = absurd (cc)
place_of_slot place (Some flags) o e =
    let same : record { place = place; waited = flags.waited; resend = flags.resend; control = flags.control } ≡ o =
    cc in
    ap (λ (x : OpenPlace). x.place) (sym same)

pub place_at : (slots : List (Option Flags)) (place : ℕ) (o : OpenPlace) → open_at slots place ≡ Some o
    → o.place ≡ place
place_at slots place o e = place_of_slot place (get_or slots (place % SLOTS) None) o e

-- a place is closed where another of its slot is
closed_too : (slots : List (Option Flags)) (place other : ℕ) → other % SLOTS ≡ place % SLOTS
    → open_at slots place ≡ None → open_at slots other ≡ None
closed_too slots place other same none =
    let slot : get_or slots (place % SLOTS) None ≡ None = none_slot place _ none in
    ap (λ (n : ℕ). place_with_flags other (get_or slots n None)) same ∙ ap (place_with_flags other) slot

-- ---- an open place before others

before_append : (o : Option OpenPlace) (xs ys : List OpenPlace) → put_before o xs ++ ys ≡ put_before o (xs ++ ys)
before_append None xs ys = refl
before_append (Some o) xs ys = refl

pub record AreNone (o : Option OpenPlace) (xs ys : List OpenPlace) : Type 0 where
  pub first : xs ≡ []
  pub middle : o ≡ None
  pub last : ys ≡ []

pub none_before : (o : Option OpenPlace) (xs ys : List OpenPlace) → xs ++ put_before o ys ≡ [] → AreNone o xs ys
none_before None [] ys e = record { first = refl; middle = refl; last = e }
none_before (Some o) [] ys e = absurd (cc)
none_before o (x ∷ xs) ys e = absurd (cc)

-- ---- the open places from a place on

halves : (slots : List (Option Flags)) (place count m at k : ℕ) → at ≡ place + m → count ≡ m + k
    → open_from slots place count ≡ open_from slots place m ++ open_from slots at k
unfolding open_from
halves slots place count zero at k there all =
    let here : at ≡ place = omega arith in
    let same : count ≡ k = omega arith in
    rw (here, same) refl
halves slots place count (suc m) at k there all =
    let one : count ≡ suc (m + k) = omega arith in
    rw one (ap (put_before (open_at slots place)) (halves slots (place + 1) (m + k) m at k (omega arith) refl)
    ∙ sym (before_append (open_at slots place) (open_from slots (place + 1) m) _))

pub parts : (slots : List (Option Flags)) (place count m at k : ℕ) → at ≡ place + m → count ≡ m + (k + 1)
    → open_from slots place count
    ≡ open_from slots place m ++ put_before (open_at slots at) (open_from slots (at + 1) k)
unfolding open_from
parts slots place count m at k there all = halves slots place count m at (suc k) there (omega arith)

pub same_from : (old new : List (Option Flags)) (place count : ℕ)
    → ((other : ℕ) → place ≤ other → other < place + count → open_at new other ≡ open_at old other)
    → open_from new place count ≡ open_from old place count
unfolding open_from
same_from old new place zero same = refl
same_from old new place (suc count) same =
    ap (λ (o : Option OpenPlace). put_before o (open_from new (place + 1) count))
    (same place (omega arith) (omega arith))
    ∙ ap (put_before (open_at old place))
    (same_from old new (place + 1) count (λ other from below. same other (omega arith) (omega arith)))

pub closed_from : (slots : List (Option Flags)) (place count : ℕ)
    → ((other : ℕ) → place ≤ other → other < place + count → open_at slots other ≡ None)
    → open_from slots place count ≡ []
unfolding open_from
closed_from slots place zero none = refl
closed_from slots place (suc count) none =
    ap (λ (o : Option OpenPlace). put_before o (open_from slots (place + 1) count))
    (none place (omega arith) (omega arith))
    ∙ closed_from slots (place + 1) count (λ other from below. none other (omega arith) (omega arith))

closed_there : (slots : List (Option Flags)) (place count other : ℕ) → open_from slots place count ≡ []
    → place ≤ other → other < place + count → open_at slots other ≡ None
closed_there slots place count other none from below =
    (none_before (open_at slots other) _ _ (sym (parts slots place count (other - place) other
    (place + count - other - 1) (omega arith) (omega arith)) ∙ none)).middle

-- where no place is open from one on, none is
closed_anywhere : (slots : List (Option Flags)) (place other : ℕ) → open_from slots place SLOTS ≡ []
    → open_at slots other ≡ None
closed_anywhere slots place other none =
    let steps = (other + 15 * place) % 16 in
    closed_too slots (place + steps) other (omega arith)
    (closed_there slots place 16 (place + steps) none (omega arith) (omega arith))

pub closed_after : (slots : List (Option Flags)) (place other : ℕ) → open_from slots place SLOTS ≡ []
    → open_from slots other SLOTS ≡ []
closed_after slots place other none = closed_from slots other 16 (λ at _ _. closed_anywhere slots place at none)

rising_before : (o : Option OpenPlace) (place past : ℕ) (os : List OpenPlace)
    → ((x : OpenPlace) → o ≡ Some x → x.place ≡ place) → AreRising (place + 1) past (places os)
    → AreRising place past (places (put_before o os))
rising_before None place past os here r = rising_from place (place + 1) past (places os) (omega arith) r
rising_before (Some o) place past os here r = (omega (arith, here o refl), rw (here o refl) r)

pub rising_open : (slots : List (Option Flags)) (place count : ℕ)
    → AreRising place (place + count) (places (open_from slots place count))
unfolding open_from
rising_open slots place zero = omega arith
rising_open slots place (suc count) =
    let past : place + suc count ≡ place + 1 + count = omega arith in
    rw past (rising_before (open_at slots place) place _ _ (place_at slots place) (rising_open slots (place + 1) count))

-- ---- the end of the open places

none_above : (place from past : ℕ) (xs ys : List OpenPlace) → AreRising from place (places (xs ++ ys))
    → AreRising place past (places ys) → ys ≡ []
none_above place from past [] [] r above = refl
none_above place from past [] (y ∷ ys) r above =
    let e = rising_end (y.place + 1) place (places ys) r.1 in absurd (omega (arith, above.0))
none_above place from past (x ∷ xs) ys r above = none_above place (x.place + 1) past xs ys r.1 above

-- nothing stands between an end and itself
pub none_between : (low end : ℕ) (os : List OpenPlace) → AreRising low end (places os) → low ≡ end → os ≡ []
none_between low end [] r same = refl
none_between low end (o ∷ os) r same =
    let e = rising_end (o.place + 1) end (places os) r.1 in absurd (omega (arith, r.0))

pub none_behind : (slots : List (Option Flags)) (low end place : ℕ) → EndsAt low end (open_from slots low SLOTS)
    → end ≤ place → open_from slots place (low + SLOTS - place) ≡ []
none_behind slots low end place ends past =
    let from = rising_end low end _ ends.rising in
    let k = low + 16 - end in
    let all = halves slots low SLOTS (end - low) end k (omega arith) (omega (arith, ends.near)) in
    let none : open_from slots end k ≡ [] =
    none_above end low (end + k) (open_from slots low (end - low)) (open_from slots end k)
    (subst (λ (os : List OpenPlace). AreRising low end (places os)) all ends.rising) (rising_open slots end k) in
    closed_from slots place (low + 16 - place)
    (λ other f b. closed_there slots end k other none (omega arith) (omega arith))

all_in_front : (slots : List (Option Flags)) (low place : ℕ) → low ≤ place → place ≤ low + SLOTS
    → open_from slots place (low + SLOTS - place) ≡ [] → open_from slots low SLOTS ≡ open_from slots low (place - low)
all_in_front slots low place from below none =
    let front = open_from slots low (place - low) in
    halves slots low SLOTS (place - low) place (low + 16 - place) (omega arith) (omega arith)
    ∙ (ap (λ (os : List OpenPlace). front ++ os) none ∙ append-nil front)

-- ---- step by step

none_in_front : (slots : List (Option Flags)) (place : ℕ) (os : List OpenPlace) → open_from slots place 0 ++ os ≡ os
unfolding open_from
none_in_front slots place os = refl

pub more_from : (slots : List (Option Flags)) (place past : ℕ) → place < past
    → open_from slots place (past - place)
    ≡ put_before (open_at slots place) (open_from slots (place + 1) (past - (place + 1)))
more_from slots place past below =
    parts slots place (past - place) 0 place (past - (place + 1)) (omega arith) (omega arith)
    ∙ none_in_front slots place _

pub rest_is : (slots : List (Option Flags)) (place past : ℕ) (o : Option OpenPlace) → place < past
    → open_at slots place ≡ o
    → open_from slots place (past - place) ≡ put_before o (open_from slots (place + 1) (past - (place + 1)))
rest_is slots place past o below e =
    more_from slots place past below
    ∙ ap (λ (x : Option OpenPlace). put_before x (open_from slots (place + 1) (past - (place + 1)))) e

pub end_from : (slots : List (Option Flags)) (place past : ℕ) → past ≤ place → open_from slots place (past - place) ≡ []
end_from slots place past end = closed_from slots place (past - place) (λ other from below. absurd (omega arith))

pub up_to_next : (slots : List (Option Flags)) (low place : ℕ) → low ≤ place
    → open_from slots low (place + 1 - low) ≡ open_from slots low (place - low) ++ put_before (open_at slots place) []
up_to_next slots low place from =
    parts slots low (place + 1 - low) (place - low) place 0 (omega arith) (omega arith)
    ∙ ap (λ (os : List OpenPlace). open_from slots low (place - low) ++ put_before (open_at slots place) os)
    (closed_from slots (place + 1) 0 (λ other from below. absurd (omega arith)))

-- ---- one place is put

-- the open places around one of them
pub around : (slots : List (Option Flags)) (low place : ℕ) → low ≤ place → place < low + SLOTS
    → open_from slots low SLOTS ≡ open_from slots low (place - low)
    ++ put_before (open_at slots place) (open_from slots (place + 1) (low + SLOTS - (place + 1)))
around slots low place from below =
    parts slots low SLOTS (place - low) place (low + 16 - (place + 1)) (omega arith) (omega arith)

pub put_around : (old new : List (Option Flags)) (low place : ℕ) (now : Option OpenPlace) → low ≤ place
    → place < low + SLOTS → IsPut place now old new
    → open_from new low SLOTS ≡ open_from old low (place - low)
    ++ put_before now (open_from old (place + 1) (low + SLOTS - (place + 1)))
put_around old new low place now from below put =
    let front : open_from new low (place - low) ≡ open_from old low (place - low) =
    same_from old new low (place - low) (λ other f b. put.others other (λ e. absurd (omega arith))) in
    let back : open_from new (place + 1) (low + 16 - (place + 1)) ≡ open_from old (place + 1) (low + 16 - (place + 1)) =
    same_from old new (place + 1) (low + 16 - (place + 1))
    (λ other f b. put.others other (λ e. absurd (omega arith))) in
    around new low place from below ∙ rw (front, back, put.here) refl

-- ---- the lowest open place

pub first_there : (slots : List (Option Flags)) (place : ℕ) (o : OpenPlace) → open_at slots place ≡ Some o
    → open_from slots place SLOTS ≡ o ∷ open_from slots (place + 1) 15
first_there slots place o e =
    parts slots place 16 0 place 15 (omega arith) (omega arith)
    ∙ (none_in_front slots place _
    ∙ ap (λ (x : Option OpenPlace). put_before x (open_from slots (place + 1) 15)) e)

first_closed : (slots : List (Option Flags)) (place : ℕ) → open_at slots place ≡ None
    → open_from slots place SLOTS ≡ open_from slots (place + 1) 15
first_closed slots place e =
    parts slots place 16 0 place 15 (omega arith) (omega arith)
    ∙ (none_in_front slots place _
    ∙ ap (λ (x : Option OpenPlace). put_before x (open_from slots (place + 1) 15)) e)

-- where a place is closed, so is the one of its slot behind all others
pub past_closed : (slots : List (Option Flags)) (place : ℕ) → open_at slots place ≡ None
    → open_from slots (place + 1) SLOTS ≡ open_from slots place SLOTS
past_closed slots place none =
    let last : open_at slots (place + 16) ≡ None = closed_too slots place (place + 16) (omega arith) none in
    let nothing : open_from slots (place + 16 + 1) 0 ≡ [] =
    closed_from slots (place + 16 + 1) 0 (λ other from below. absurd (omega arith)) in
    parts slots (place + 1) 16 15 (place + 16) 0 (omega arith) (omega arith)
    ∙ (rw (last, nothing) (append-nil (open_from slots (place + 1) 15))
    ∙ sym (first_closed slots place none))

pub low_there : (slots : List (Option Flags)) (low next : ℕ) (o : OpenPlace) → open_at slots low ≡ Some o
    → o.place ≡ least (places (open_from slots low SLOTS)) next
low_there slots low next o e = sym (ap (λ (os : List OpenPlace). least (places os) next) (first_there slots low o e))

pub least_any : (low end next : ℕ) (ps : List ℕ) → least ps end ≡ low → low < end → least ps next ≡ low
least_any low end next [] lowest below = absurd (omega (arith, lowest))
least_any low end next (p ∷ ps) lowest below = lowest

pub from_least : (slots : List (Option Flags)) (low end next : ℕ) (os : List OpenPlace)
    → open_from slots low SLOTS ≡ os → least (places os) end ≡ low
    → open_from slots (least (places os) next) SLOTS ≡ os
from_least slots low end next [] e lowest = closed_after slots low next e
from_least slots low end next (o ∷ os) e lowest = ap (λ (n : ℕ). open_from slots n SLOTS) lowest ∙ e

-- ---- a place is opened above the others

pub open_next : (old new : List (Option Flags)) (low place : ℕ) → low ≤ place → place < low + SLOTS
    → AreRising low place (places (open_from old low SLOTS)) → IsPut place (Some (opened_place place)) old new
    → open_from new low SLOTS ≡ open_from old low SLOTS ++ opened_place place ∷ []
open_next old new low place from below r put =
    let k = low + 16 - (place + 1) in
    let front = open_from old low (place - low) in
    let rest = open_from old (place + 1) k in
    let all = around old low place from below in
    let none : put_before (open_at old place) rest ≡ [] =
    none_above place low (place + 1 + k) front (put_before (open_at old place) rest)
    (subst (λ (os : List OpenPlace). AreRising low place (places os)) all r)
    (rising_before (open_at old place) place (place + 1 + k) rest (place_at old place)
    (rising_open old (place + 1) k)) in
    let after = (none_before (open_at old place) [] rest none).last in
    let same : open_from old low SLOTS ≡ front =
    all ∙ (ap (λ (os : List OpenPlace). front ++ os) none ∙ append-nil front) in
    put_around old new low place (Some (opened_place place)) from below put
    ∙ (ap (λ (os : List OpenPlace). front ++ opened_place place ∷ os) after
    ∙ ap (λ (os : List OpenPlace). os ++ opened_place place ∷ []) (sym same))

pub slotted_open : (low place : ℕ) (os : List OpenPlace) → 1 ≤ low → place ≤ 2 ^ 62 → low ≡ least (places os) place
    → AreRising low place (places os) → place < low + SLOTS → IsSlotted low (place + 1) (os ++ opened_place place ∷ [])
slotted_open low place os one last is r near =
    let all = map-append place_of os (opened_place place ∷ []) in
    record {
      from_one = one;
      up_to_end = omega arith;
      lowest = ap (λ (ps : List ℕ). least ps (place + 1)) all ∙ (least_push place (place + 1) (places os) ∙ sym is);
      ends = record {
        rising = subst (AreRising low (place + 1)) (sym all) (rising_push low place (places os) r);
        near = omega arith;
      };
    }

low_from_one : (low end place : ℕ) (ps : List ℕ) → least ps end ≡ low → 1 ≤ low → 1 ≤ place → 1 ≤ least ps place
low_from_one low end place [] lowest from one = one
low_from_one low end place (p ∷ ps) lowest from one = omega (arith, lowest)

pub opened_after : (old new : List (Option Flags)) (before end low place : ℕ) (os : List OpenPlace)
    → open_from old before SLOTS ≡ os → IsSlotted before end (open_from old before SLOTS)
    → low ≡ least (places os) place → 1 ≤ place → place ≤ 2 ^ 62
    → AreRising (least (places os) place) place (places os) → place < least (places os) place + SLOTS
    → IsPut place (Some (opened_place place)) old new
    → (open_from new low SLOTS ≡ os ++ opened_place place ∷ []) × IsSlotted low (place + 1) (os ++ opened_place place ∷ [])
opened_after old new before end low place os seen is low_is from last r near put =
    let lowest : least (places os) end ≡ before =
    subst (λ (qs : List OpenPlace). least (places qs) end ≡ before) seen is.lowest in
    let one = low_from_one before end place (places os) lowest is.from_one from in
    let rising : AreRising low place (places os) = subst (λ (n : ℕ). AreRising n place (places os)) (sym low_is) r in
    let up_to_place = rising_end low place (places os) rising in
    let same : open_from old low SLOTS ≡ os =
    ap (λ (n : ℕ). open_from old n SLOTS) low_is ∙ from_least old before end place os seen lowest in (
      open_next old new low place up_to_place (omega (arith, low_is, near))
          (subst (λ (qs : List OpenPlace). AreRising low place (places qs)) (sym same) rising) put
          ∙ ap (λ (qs : List OpenPlace). qs ++ opened_place place ∷ []) same,
      slotted_open low place os (omega (arith, low_is, one)) last low_is rising (omega (arith, low_is, near)),
    )

-- ---- an open place is found and taken out

apart : (a b : ℕ) → a ≢ b → (a == b) ≡ false
apart a b other = elim (eqb_tells a b) [ inl same ↦ absurd (other same.1) | inr is ↦ is.0 ]

without_middle : (place from : ℕ) (xs ys : List OpenPlace) (o : OpenPlace) → AreRising from place (places xs)
    → o.place ≡ place → without place (xs ++ o ∷ ys) ≡ xs ++ ys
without_middle place from [] ys o r here = rw (eq-eqb o.place place here) refl
without_middle place from (x ∷ xs) ys o r here =
    let e = rising_end (x.place + 1) place (places xs) r.1 in
    rw (apart x.place place (λ same. absurd (omega arith)))
    (ap (λ (os : List OpenPlace). x ∷ os) (without_middle place (x.place + 1) xs ys o r.1 here))

pub taken_out : (old new : List (Option Flags)) (low place : ℕ) (o : OpenPlace) → low ≤ place → place < low + SLOTS
    → open_at old place ≡ Some o → IsPut place None old new
    → open_from new low SLOTS ≡ without place (open_from old low SLOTS)
taken_out old new low place o from below there put =
    let front = open_from old low (place - low) in
    let rest = open_from old (place + 1) (low + 16 - (place + 1)) in
    let all : open_from old low SLOTS ≡ front ++ o ∷ rest =
    around old low place from below
    ∙ ap (λ (x : Option OpenPlace). front ++ put_before x rest) there in
    let past : low + (place - low) ≡ place = omega arith in
    put_around old new low place None from below put
    ∙ (sym (without_middle place low front rest o
    (rw past at (rising_open old low (place - low))) (place_at old place o there))
    ∙ ap (without place) (sym all))

not_named : (first id : ℕ) (x : OpenPlace) (os : List OpenPlace) → identifier_at first x.place ≢ id
    → open_with first id (x ∷ os) ≡ open_with first id os
not_named first id x os other = rw (apart (identifier_at first x.place) id other) refl

behind : (first id : ℕ) (xs ys : List OpenPlace) → open_with first id xs ≡ None
    → open_with first id (xs ++ ys) ≡ open_with first id ys
behind first id [] ys none = refl
behind first id (x ∷ xs) ys none =
    elim (identifier_at first x.place == id) as (λ b. cond b (Some x) (open_with first id xs) ≡ None
    → cond b (Some x) (open_with first id (xs ++ ys)) ≡ open_with first id ys) [
      | true ↦ λ e. absurd (cc)
      | false ↦ λ e. behind first id xs ys e
    ] none

none_in_slot : (first id place : ℕ) (o : Option OpenPlace) (os : List OpenPlace)
    → ((x : OpenPlace) → o ≡ Some x → x.place ≡ place) → identifier_at first place ≢ id
    → open_with first id (put_before o os) ≡ open_with first id os
none_in_slot first id place None os here other = refl
none_in_slot first id place (Some x) os here other =
    not_named first id x os (λ same. other (ap (identifier_at first) (sym (here x refl)) ∙ same))

pub none_named : (slots : List (Option Flags)) (first id place count : ℕ)
    → ((other : ℕ) → place ≤ other → other < place + count → identifier_at first other ≢ id)
    → open_with first id (open_from slots place count) ≡ None
unfolding open_from
none_named slots first id place zero none = refl
none_named slots first id place (suc count) none =
    none_in_slot first id place (open_at slots place) (open_from slots (place + 1) count) (place_at slots place)
    (none place (omega arith) (omega arith))
    ∙ none_named slots first id (place + 1) count (λ other from below. none other (omega arith) (omega arith))

in_slot : (first id place : ℕ) (o : Option OpenPlace) (os : List OpenPlace)
    → ((x : OpenPlace) → o ≡ Some x → x.place ≡ place) → identifier_at first place ≡ id
    → open_with first id os ≡ None → open_with first id (put_before o os) ≡ o
in_slot first id place None os here named none = none
in_slot first id place (Some x) os here named none =
    rw (eq-eqb (identifier_at first x.place) id (ap (identifier_at first) (here x refl) ∙ named)) refl

pub one_named : (slots : List (Option Flags)) (first id low place : ℕ) → low ≤ place → place < low + SLOTS
    → identifier_at first place ≡ id
    → ((other : ℕ) → low ≤ other → other < low + SLOTS → identifier_at first other ≡ id → other ≡ place)
    → open_with first id (open_from slots low SLOTS) ≡ open_at slots place
one_named slots first id low place from below named only =
    let front = open_from slots low (place - low) in
    let k = low + 16 - (place + 1) in
    let rest = open_from slots (place + 1) k in
    let before : open_with first id front ≡ None = none_named slots first id low (place - low)
    (λ other f b same. let e = only other (omega arith) (omega arith) same in omega arith) in
    let after : open_with first id rest ≡ None = none_named slots first id (place + 1) k
    (λ other f b same. let e = only other (omega arith) (omega arith) same in omega arith) in
    ap (open_with first id) (around slots low place from below)
    ∙ (behind first id front (put_before (open_at slots place) rest) before
    ∙ in_slot first id place (open_at slots place) rest (place_at slots place) named after)

pub ends_less : (low end place : ℕ) (os : List OpenPlace) → EndsAt low end os → EndsAt low end (without place os)
ends_less low end place os ends = record {
  rising = rw (places_without place os) (rising_less place low end (places os) ends.rising);
  near = ends.near;
}

pub slotted_less : (low end place : ℕ) (os : List OpenPlace) → IsSlotted low end os
    → IsSlotted (least (places (without place os)) end) end (without place os)
slotted_less low end place os is =
    let left = places (without place os) in
    let ends = ends_less low end place os is.ends in
    let from = least_from low end left ends.rising in
    record {
      from_one = omega (arith, is.from_one);
      up_to_end = is.up_to_end;
      lowest = refl;
      ends = record { rising = rising_least low end left ends.rising; near = omega (arith, is.ends.near) };
    }

pub slotted_same : (low end : ℕ) (os qs : List OpenPlace) → IsSlotted low end os → places qs ≡ places os
    → IsSlotted low end qs
slotted_same low end os qs is same = record {
  from_one = is.from_one;
  up_to_end = is.up_to_end;
  lowest = ap (λ (ps : List ℕ). least ps end) same ∙ is.lowest;
  ends = record { rising = subst (AreRising low end) (sym same) is.ends.rising; near = is.ends.near };
}

-- a place is put in place of the open one in its slot
pub put_again : (old new : List (Option Flags)) (low place : ℕ) (o now : OpenPlace) → low ≤ place → place < low + SLOTS
    → open_at old place ≡ Some o → IsPut o.place (Some now) old new
    → open_from new low SLOTS ≡ open_from old low (place - low)
    ++ now ∷ open_from old (place + 1) (low + SLOTS - (place + 1))
put_again old new low place o now from below there put =
    put_around old new low place (Some now) from below
    (subst (λ (n : ℕ). IsPut n (Some now) old new) (place_at old place o there) put)

-- ---- each place is changed

-- the places below one are changed, and the others are not yet
pub record IsChangedTo (change : OpenPlace → OpenPlace) (low place : ℕ) (old new : List (Option Flags)) : Type 0 where
  pub front : open_from new low (place - low) ≡ map change (open_from old low (place - low))
  pub rest : (other : ℕ) → place ≤ other → other < low + SLOTS → open_at new other ≡ open_at old other

map_before : (change : OpenPlace → OpenPlace) (o : Option OpenPlace)
    → put_before (with_changed_place change o) [] ≡ map change (put_before o [])
map_before change None = refl
map_before change (Some o) = refl

pub change_none : (change : OpenPlace → OpenPlace) (low : ℕ) (slots : List (Option Flags))
    → IsChangedTo change low low slots slots
change_none change low slots =
    let none : open_from slots low (low - low) ≡ [] = end_from slots low low (omega arith) in
    record { front = rw none refl; rest = λ other from below. refl }

pub change_next : (change : OpenPlace → OpenPlace) (low place : ℕ) (old before after : List (Option Flags))
    → low ≤ place → place < low + SLOTS → IsChangedTo change low place old before
    → IsPut place (with_changed_place change (open_at before place)) before after
    → IsChangedTo change low (place + 1) old after
change_next change low place old before after from below is put =
    let here : open_at after place ≡ with_changed_place change (open_at old place) =
    put.here ∙ ap (with_changed_place change) (is.rest place (omega arith) below) in
    let front : open_from after low (place - low) ≡ map change (open_from old low (place - low)) =
    same_from before after low (place - low) (λ other f b. put.others other (λ e. absurd (omega arith))) ∙ is.front in
    record {
      front = up_to_next after low place from
          ∙ (rw (front, here) (ap (λ (os : List OpenPlace). map change (open_from old low (place - low)) ++ os)
          (map_before change (open_at old place)))
          ∙ (sym (map-append change (open_from old low (place - low)) (put_before (open_at old place) []))
          ∙ ap (map change) (sym (up_to_next old low place from))));
      rest = λ other f b. put.others other (λ e. absurd (omega arith)) ∙ is.rest other (omega arith) b;
    }

pub change_all : (change : OpenPlace → OpenPlace) (low end place : ℕ) (old new : List (Option Flags))
    → EndsAt low end (open_from old low SLOTS) → place ≡ end → IsChangedTo change low place old new
    → open_from new low SLOTS ≡ map change (open_from old low SLOTS)
change_all change low end place old new ends here is =
    let from = rising_end low end _ ends.rising in
    let below : place ≤ low + SLOTS = omega (arith, ends.near) in
    let none = none_behind old low end place ends (omega arith) in
    let same = same_from old new place (low + SLOTS - place) (λ other f b. is.rest other f (omega arith)) in
    all_in_front new low place (omega arith) below (same ∙ none)
    ∙ (is.front ∙ ap (map change) (sym (all_in_front old low place (omega arith) below none)))

below_none : (o : OpenPlace) → recover 0 o ≡ want_control o
below_none o = either (λ (x : OpenPlace). x ≡ want_control o) (nat_lt o.place 0) _ _
    (λ below. absurd (omega (arith, ltb-true o.place 0 below)))
    (λ _. refl)

-- where the board executed none of the places, the control packet of each is sent again
pub none_executed : (os : List OpenPlace) → map (recover 0) os ≡ map want_control os
none_executed [] = refl
none_executed (o ∷ os) =
    ap (λ (x : OpenPlace). x ∷ map (recover 0) os) (below_none o)
    ∙ ap (λ (qs : List OpenPlace). want_control o ∷ qs) (none_executed os)
