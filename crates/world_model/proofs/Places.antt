-- The places of a window: which are open, and which were executed.
use Rattle.std.proofs.Common.{◌≡◌, ℕ, ◌+◌, ◌<◌, ◌≤◌, ◌^◌, true, false, cond, ◌==◌, ◌||◌}
use Rattle.std.proofs.Common.{List, [], ◌∷◌, ◌++◌, length, refl, arith}
use Rattle.std.proofs.Common.{length-append, inl, inr, if◌then◌else◌}
use Rattle.std.proofs.lemmas.Bool.Decides.{eqb_tells}
use Rattle.std.proofs.lemmas.Bool.{eqb-true, eq-eqb, cases_lt}
use Rattle.ipb_base.specs.Lists.{IsPrefix}
use Rattle.packet_ids.specs.Identifier.{identifier_at, IsIdentifier}
use Rattle.world_model.specs.Hub.{least}
use Rattle.world_model.specs.Facts.{AreRising, has, IsWindow, IsExecuted, MOST_OPEN}
use Rattle.world_model.proofs.Lists.{front_more}

-- a list of places without one
abbrev pub less : ℕ → List ℕ → List ℕ
less place [] = []
less place (p ∷ ps) = if p == place then ps else p ∷ less place ps

pub rising_from : (a b past : ℕ) (ps : List ℕ) → a ≤ b → AreRising b past ps → AreRising a past ps
rising_from a b past [] h r = omega arith
rising_from a b past (p ∷ ps) h r = (omega arith, r.1)

pub rising_end : (from past : ℕ) (ps : List ℕ) → AreRising from past ps → from ≤ past
rising_end from past [] r = r
rising_end from past (p ∷ ps) r = let h = rising_end (p + 1) past ps r.1 in omega arith

pub rising_least : (from past : ℕ) (ps : List ℕ) → AreRising from past ps → AreRising (least ps past) past ps
rising_least from past [] r = omega arith
rising_least from past (p ∷ ps) r = (omega arith, r.1)

pub least_from : (from past : ℕ) (ps : List ℕ) → AreRising from past ps → from ≤ least ps past
least_from from past [] r = r
least_from from past (p ∷ ps) r = r.0

pub least_end : (from past : ℕ) (ps : List ℕ) → AreRising from past ps → least ps past ≤ past
least_end from past [] r = omega arith
least_end from past (p ∷ ps) r = let h = rising_end (p + 1) past ps r.1 in omega arith

pub rising_less : (place from past : ℕ) (ps : List ℕ) → AreRising from past ps → AreRising from past (less place ps)
rising_less place from past [] r = r
rising_less place from past (p ∷ ps) r =
    elim (p == place) as (λ b. AreRising from past (cond b ps (p ∷ less place ps))) [
      | true ↦ rising_from from (p + 1) past ps (omega arith) r.1
      | false ↦ (r.0, rising_less place (p + 1) past ps r.1)
    ]

pub rising_push : (from past : ℕ) (ps : List ℕ) → AreRising from past ps → AreRising from (past + 1) (ps ++ past ∷ [])
rising_push from past [] r = (r, omega arith)
rising_push from past (p ∷ ps) r = (r.0, rising_push (p + 1) past ps r.1)

pub least_push : (past next : ℕ) (ps : List ℕ) → least (ps ++ past ∷ []) next ≡ least ps past
least_push past next [] = refl
least_push past next (p ∷ ps) = refl

pub has_push : (place past : ℕ) (ps : List ℕ) → has place ps ≡ true → has place (ps ++ past ∷ []) ≡ true
has_push place past [] h = absurd (cc)
has_push place past (p ∷ ps) h = elim (p == place) as (λ b. (b || has place ps) ≡ true
    → (b || has place (ps ++ past ∷ [])) ≡ true) [
      | true ↦ λ _. refl
      | false ↦ λ k. has_push place past ps k
    ] h

pub has_last : (past : ℕ) (ps : List ℕ) → has past (ps ++ past ∷ []) ≡ true
has_last past [] = rw (eq-eqb past past refl) refl
has_last past (p ∷ ps) = elim (p == past) as (λ b. (b || has past (ps ++ past ∷ [])) ≡ true) [
  | true ↦ refl
  | false ↦ has_last past ps
]

-- an open place lies between the lowest and the end
pub has_from : (place from past : ℕ) (ps : List ℕ) → AreRising from past ps → has place ps ≡ true → from ≤ place
has_from place from past [] r h = absurd (cc)
has_from place from past (p ∷ ps) r h = elim (p == place)
    as (λ b. (p == place) ≡ b → (b || has place ps) ≡ true → from ≤ place) [
      | true ↦ λ e _. let same = eqb-true p place e in omega arith
      | false ↦ λ _ k. let later = has_from place (p + 1) past ps r.1 k in omega arith
    ] refl h

pub has_below : (place from past : ℕ) (ps : List ℕ) → AreRising from past ps → has place ps ≡ true → place < past
has_below place from past [] r h = absurd (cc)
has_below place from past (p ∷ ps) r h = elim (p == place)
    as (λ b. (p == place) ≡ b → (b || has place ps) ≡ true → place < past) [
      | true ↦ λ e _. let same = eqb-true p place e in let end = rising_end (p + 1) past ps r.1 in omega arith
      | false ↦ λ _ k. has_below place (p + 1) past ps r.1 k
    ] refl h

-- another place stays
pub has_less : (place gone : ℕ) (ps : List ℕ) → gone < place → has place ps ≡ true → has place (less gone ps) ≡ true
has_less place gone [] apart h = h
has_less place gone (p ∷ ps) apart h = elim (eqb_tells p gone) [
  | inl same ↦ rw same.0 (elim (eqb_tells p place) [
    | inl twice ↦ absurd (omega arith)
    | inr other ↦ rw other.0 at h
  ])
  | inr other ↦ rw other.0 (elim (p == place) as (λ b. (b || has place ps) ≡ true
      → (b || has place (less gone ps)) ≡ true) [
        | true ↦ λ _. refl
        | false ↦ λ k. has_less place gone ps apart k
      ] h)
]

-- ---- the window

pub window_push : (window sent : ℕ) (ps : List ℕ) → IsWindow window sent ps → sent + 2 ≤ window + least ps (sent + 1)
    → IsWindow window (sent + 1) (ps ++ (sent + 1) ∷ [])
window_push window sent ps is room =
    let same = least_push (sent + 1) (sent + 1 + 1) ps in
    record {
      few = is.few;
      rising = rw same (rising_push _ _ ps is.rising);
      from_one = rw same is.from_one;
      within = rw same (omega arith);
    }

pub window_less : (window sent place : ℕ) (ps : List ℕ) → IsWindow window sent ps → IsWindow window sent (less place ps)
window_less window sent place ps is =
    let r = rising_less place _ _ ps is.rising in
    let low = least_from _ _ (less place ps) r in
    record {
      few = is.few;
      rising = rising_least _ _ (less place ps) r;
      from_one = omega (arith, is.from_one);
      within = omega (arith, is.within);
    }

-- ---- what is executed

-- there are fewer first sends than executed bodies and a window
pub sent_near : (window : ℕ) (all done : List (List ℕ)) (ps : List ℕ) → IsWindow window (length all) ps
    → IsExecuted all done ps → length all ≤ length done + MOST_OPEN
sent_near window all done ps w e =
    elim (cases_lt (length done) (length all)) [
      | inl fewer ↦
          let open_next = e.unheard (length done + 1) (omega arith) (omega arith) in
          let low = has_from (length done + 1) _ _ ps w.rising open_next in
          omega (arith, w.within, w.few)
      | inr all_done ↦ omega arith
    ]

pub executed_next : (all done : List (List ℕ)) (ps : List ℕ) (x : List ℕ) → IsExecuted all done ps
    → IsPrefix (done ++ x ∷ []) all → IsExecuted all (done ++ x ∷ []) ps
executed_next all done ps x e front = record {
  front = front;
  unheard = λ place after within. e.unheard place (omega (arith, length-append done (x ∷ []))) within;
}

pub executed_push : (all done : List (List ℕ)) (ps : List ℕ) (x : List ℕ) → IsExecuted all done ps
    → IsExecuted (all ++ x ∷ []) done (ps ++ (length all + 1) ∷ [])
executed_push all done ps x e = record {
  front = front_more done all (x ∷ []) e.front;
  unheard = λ place after within. elim (cases_lt place (length all + 1)) [
    | inl old ↦ has_push place (length all + 1) ps (e.unheard place after (omega arith))
    | inr new ↦
        let last : place ≡ length all + 1 = omega (arith, length-append all (x ∷ [])) in
        rw last (has_last (length all + 1) ps)
  ];
}

pub executed_less : (all done : List (List ℕ)) (ps : List ℕ) (place : ℕ) → IsExecuted all done ps → place ≤ length done
    → IsExecuted all done (less place ps)
executed_less all done ps place e settled = record {
  front = e.front;
  unheard = λ p after within. has_less p place ps (omega arith) (e.unheard p after within);
}

-- ---- identifiers

-- near places with one identifier are one
pub one_place : (first a b : ℕ) → IsIdentifier first → 1 ≤ a → 1 ≤ b → a < b + 65535 → b < a + 65535
    → identifier_at first a ≡ identifier_at first b → a ≡ b
one_place first a b is pa pb ab ba e = omega arith

pub not_zero : (first a : ℕ) → 1 ≤ identifier_at first a
not_zero first a = omega arith

pub id_fits : (first a : ℕ) → identifier_at first a < 2 ^ 16
id_fits first a = omega arith

pub is_identifier : (first a : ℕ) → IsIdentifier (identifier_at first a)
is_identifier first a = record { from_one = omega arith; up_to_end = omega arith }
