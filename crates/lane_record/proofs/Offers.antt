-- Lemmas on the outcomes of Asks and the bodies that were offered: one more Ask, and an outcome that comes.
use Rattle.std.proofs.Common.{◌≡◌, ℕ, zero, suc, ◌+◌, ◌≤◌, Bool, true, false, cond, List, [], ◌∷◌, ◌++◌, length}
use Rattle.std.proofs.Common.{Option, Some, None}
use Rattle.std.proofs.Common.{refl, sym, ap, ◌∙◌, subst, arith, inl, inr, ◌⊎◌, if◌then◌else◌}
use Rattle.std.specs.Prelude.{nat_lt}
use Rattle.std.specs.List.{slice_get}
use Rattle.std.proofs.lemmas.Bool.{ltb-true, ltb-false}
use Rattle.world_model.specs.declared.offered.Offered.{Offered}
use Rattle.world_model.proofs.Lists.{either}
use Rattle.lane_record.specs.declared.outcome.Outcome.{Outcome}
use Rattle.lane_record.specs.declared.outcome.Outcome.TheVariants.{Unsent, LinkLost}
use Rattle.lane_record.specs.Outcomes.{place_of, is_sent, is_lost, is_timed_out}
use Rattle.lane_record.specs.Claims.{Claim}
use Rattle.lane_record.specs.FirstSends.{may_have_place, HasPlaceAfter, HavePlacesAfter}
use Rattle.lane_record.specs.Bounds.{timeouts, has_timed_out}
use Rattle.lane_record.specs.Offers.{offers_from, unsettled_from, tags, put, lost_after, KeepsOutcomes, AddsOnly}

-- ---- the numbers of Asks

pub unsettled_least : (n t : ℕ) (os : List (Option Outcome)) (a c : List ℕ) → unsettled_from n os ≡ a ++ t ∷ c → n ≤ t
unsettled_least n t [] [] c e = absurd (cc)
unsettled_least n t [] (x ∷ a) c e = absurd (cc)
unsettled_least n t (None ∷ os) [] c e = let h : n ≡ t = cc in omega (arith, h)
unsettled_least n t (None ∷ os) (x ∷ a) c e =
    let h : unsettled_from (n + 1) os ≡ a ++ t ∷ c = cc in
    let k = unsettled_least (n + 1) t os a c h in omega arith
unsettled_least n t (Some o ∷ os) a c e = let k = unsettled_least (n + 1) t os a c e in omega arith

offers_head : (n : ℕ) (first : Offered) (rest a c : List Offered) (x : Offered) → first.tag ≡ n
    → ((b : List Offered) → rest ≡ b ++ x ∷ c → n + 1 ≤ x.tag)
    → first ∷ rest ≡ a ++ x ∷ c → n ≤ x.tag
offers_head n first rest [] c x tag later e =
    let h : first ≡ x = cc in
    let t : first.tag ≡ x.tag = ap (λ (o : Offered). o.tag) h in omega (arith, t, tag)
offers_head n first rest (y ∷ a) c x tag later e = let h : rest ≡ a ++ x ∷ c = cc in let k = later a h in omega arith

pub offers_least : (n : ℕ) (cs : List Claim) (os : List (Option Outcome)) (a c : List Offered) (x : Offered)
    → offers_from n cs os ≡ a ++ x ∷ c → n ≤ x.tag
offers_least n cs [] [] c x e = absurd (cc)
offers_least n cs [] (y ∷ a) c x e = absurd (cc)
offers_least n [] (o ∷ os) [] c x e = absurd (cc)
offers_least n [] (o ∷ os) (y ∷ a) c x e = absurd (cc)
offers_least n (d ∷ cs) (o ∷ os) a c x e =
    either (λ (l : List Offered). l ≡ a ++ x ∷ c → n ≤ x.tag) (may_have_place o)
    (record { tag = n; body = d.body } ∷ offers_from (n + 1) cs os) (offers_from (n + 1) cs os)
    (λ _ e. offers_head n (record { tag = n; body = d.body }) (offers_from (n + 1) cs os) a c x refl
    (λ b h. offers_least (n + 1) cs os b c x h) e)
    (λ _ h. let k = offers_least (n + 1) cs os a c x h in omega arith)
    e

-- ---- one more Ask

pub offers_push : (n : ℕ) (cs : List Claim) (os : List (Option Outcome)) (c : Claim) → length os ≡ length cs
    → offers_from n (cs ++ c ∷ []) (os ++ None ∷ []) ≡ offers_from n cs os ++ record
    { tag = n + length cs; body = c.body } ∷ []
offers_push n [] [] c e = let t : n ≡ n + 0 = omega arith in ap (λ (k : ℕ). record { tag = k; body = c.body } ∷ []) t
offers_push n [] (o ∷ os) c e = absurd (cc)
offers_push n (d ∷ cs) [] c e = absurd (cc)
offers_push n (d ∷ cs) (o ∷ os) c e =
    let same : length os ≡ length cs = omega (arith, e) in
    let step : n + 1 + length cs ≡ n + suc (length cs) = omega arith in
    let later = offers_push (n + 1) cs os c same ∙ ap (λ (t : ℕ). offers_from
    (n + 1) cs os ++ record { tag = t; body = c.body } ∷ []) step in
    elim (may_have_place o) as (λ b. cond b (record { tag = n; body = d.body } ∷ offers_from (n + 1) (cs ++ c ∷ [])
    (os ++ None ∷ [])) (offers_from (n + 1) (cs ++ c ∷ []) (os ++ None ∷ []))
    ≡ cond b (record { tag = n; body = d.body } ∷ offers_from (n + 1) cs os)
    (offers_from (n + 1) cs os) ++ record { tag = n + suc (length cs); body = c.body } ∷ []) [
      | true ↦ ap (λ (l : List Offered). record { tag = n; body = d.body } ∷ l) later
      | false ↦ later
    ]

pub unsettled_push : (n : ℕ) (os : List (Option Outcome)) → unsettled_from n (os ++ None ∷ [])
    ≡ unsettled_from n os ++ (n + length os) ∷ []
unsettled_push n [] = ap (λ (t : ℕ). t ∷ []) (omega arith)
unsettled_push n (None ∷ os) =
    let e : n + 1 + length os ≡ n + suc (length os) = omega arith in
    ap (λ (l : List ℕ). n ∷ l) (unsettled_push (n + 1) os ∙ ap (λ (t : ℕ). unsettled_from (n + 1) os ++ t ∷ []) e)
unsettled_push n (Some o ∷ os) =
    let e : n + 1 + length os ≡ n + suc (length os) = omega arith in
    unsettled_push (n + 1) os ∙ ap (λ (t : ℕ). unsettled_from (n + 1) os ++ t ∷ []) e

-- one that never gets a place
pub offers_push_lost : (n : ℕ) (cs : List Claim) (os : List (Option Outcome)) (c : Claim) → length os ≡ length cs
    → offers_from n (cs ++ c ∷ []) (os ++ Some (LinkLost None) ∷ []) ≡ offers_from n cs os
offers_push_lost n [] [] c e = refl
offers_push_lost n [] (o ∷ os) c e = absurd (cc)
offers_push_lost n (d ∷ cs) [] c e = absurd (cc)
offers_push_lost n (d ∷ cs) (o ∷ os) c e =
    ap (λ (l : List Offered). if may_have_place o then record { tag = n; body = d.body } ∷ l else l)
    (offers_push_lost (n + 1) cs os c (omega (arith, e)))

pub unsettled_push_some : (n : ℕ) (os : List (Option Outcome)) (outcome : Outcome)
    → unsettled_from n (os ++ Some outcome ∷ []) ≡ unsettled_from n os
unsettled_push_some n [] outcome = refl
unsettled_push_some n (None ∷ os) outcome = ap (λ (l : List ℕ). n ∷ l) (unsettled_push_some (n + 1) os outcome)
unsettled_push_some n (Some x ∷ os) outcome = unsettled_push_some (n + 1) os outcome

-- ---- an outcome comes

pub length-put : (k : ℕ) (outcome : Outcome) (os : List (Option Outcome)) → length (put k outcome os) ≡ length os
length-put zero outcome [] = refl
length-put (suc k) outcome [] = refl
length-put zero outcome (x ∷ os) = refl
length-put (suc k) outcome (x ∷ os) = ap suc (length-put k outcome os)

next_number : (n k : ℕ) → n + suc k ≡ n + 1 + k
next_number n k = omega arith

-- nothing became of the Ask so far
unsettled_none_from : (n k : ℕ) (os : List (Option Outcome)) (a c : List ℕ) → unsettled_from n os ≡ a ++ (n + k) ∷ c
    → slice_get os k ≡ Some None
unsettled_none_from n k [] [] c e = absurd (cc)
unsettled_none_from n k [] (x ∷ a) c e = absurd (cc)
unsettled_none_from n zero (None ∷ os) a c e = refl
unsettled_none_from n (suc k) (None ∷ os) [] c e = let h : n ≡ n + suc k = cc in absurd (omega (arith, h))
unsettled_none_from n (suc k) (None ∷ os) (x ∷ a) c e =
    let h : unsettled_from (n + 1) os ≡ a ++ (n + suc k) ∷ c = cc in
    unsettled_none_from (n + 1) k os a c (subst (λ (z : ℕ). unsettled_from (n + 1) os ≡ a ++ z ∷ c) (next_number n k) h)
unsettled_none_from n zero (Some o ∷ os) a c e = let k = unsettled_least (n + 1) (n + zero) os a c e in absurd
    (omega (arith, k))
unsettled_none_from n (suc k) (Some o ∷ os) a c e =
    unsettled_none_from (n + 1) k os a c (subst (λ (z : ℕ). unsettled_from (n + 1) os ≡ a ++ z ∷ c) (next_number n k) e)

put_unsettled_from : (n k : ℕ) (o : Outcome) (os : List (Option Outcome)) (a c : List ℕ)
    → unsettled_from n os ≡ a ++ (n + k) ∷ c → unsettled_from n (put k o os) ≡ a ++ c
put_unsettled_from n k o [] [] c e = absurd (cc)
put_unsettled_from n k o [] (x ∷ a) c e = absurd (cc)
put_unsettled_from n zero o (None ∷ os) [] c e = cc
put_unsettled_from n zero o (None ∷ os) (x ∷ a) c e =
    let h : unsettled_from (n + 1) os ≡ a ++ (n + zero) ∷ c = cc in
    let k = unsettled_least (n + 1) (n + zero) os a c h in absurd (omega (arith, k))
put_unsettled_from n (suc k) o (None ∷ os) [] c e = let h : n ≡ n + suc k = cc in absurd (omega (arith, h))
put_unsettled_from n (suc k) o (None ∷ os) (x ∷ a) c e =
    let h : unsettled_from (n + 1) os ≡ a ++ (n + suc k) ∷ c = cc in
    let x_is : n ≡ x = cc in
    ap (λ (l : List ℕ). n ∷ l) (put_unsettled_from (n + 1) k o os a c
    (subst (λ (z : ℕ). unsettled_from (n + 1) os ≡ a ++ z ∷ c) (next_number n k) h))
    ∙ ap (λ (z : ℕ). z ∷ (a ++ c)) x_is
put_unsettled_from n zero o (Some x ∷ os) a c e = let k = unsettled_least (n + 1) (n + zero) os a c e in absurd
    (omega (arith, k))
put_unsettled_from n (suc k) o (Some x ∷ os) a c e =
    put_unsettled_from (n + 1) k o os a c (subst (λ (z : ℕ). unsettled_from (n + 1) os ≡ a ++ z ∷ c)
    (next_number n k) e)

-- with a place: what was offered stays
pub put_offers : (n k : ℕ) (o : Outcome) (cs : List Claim) (os : List (Option Outcome)) → is_sent o ≡ true
    → slice_get os k ≡ Some None → offers_from n cs (put k o os) ≡ offers_from n cs os
put_offers n k o cs [] sent none = absurd (cc)
put_offers n zero o [] (x ∷ os) sent none = refl
put_offers n (suc k) o [] (x ∷ os) sent none = refl
put_offers n zero o (d ∷ cs) (None ∷ os) sent none =
    ap (λ (b : Bool). if b then record { tag = n; body = d.body } ∷ offers_from (n + 1) cs os else offers_from
    (n + 1) cs os) sent
put_offers n zero o (d ∷ cs) (Some x ∷ os) sent none = absurd (cc)
put_offers n (suc k) o (d ∷ cs) (x ∷ os) sent none =
    ap (λ (l : List Offered). if may_have_place x then record { tag = n; body = d.body } ∷ l else l)
    (put_offers (n + 1) k o cs os sent none)

-- at the place of the offered body
pub put_places : (n p k : ℕ) (o : Outcome) (cs : List Claim) (os : List (Option Outcome)) (a c : List Offered)
    (x : Offered)
    → is_sent o ≡ true → place_of o ≡ Some (p + length a + 1) → slice_get os k ≡ Some None
    → offers_from n cs os ≡ a ++ x ∷ c → x.tag ≡ n + k → HavePlacesAfter p os → HavePlacesAfter p (put k o os)
put_places n p k o cs [] a c x sent at none e t is = absurd (cc)
put_places n p k o [] (y ∷ os) [] c x sent at none e t is = absurd (cc)
put_places n p k o [] (y ∷ os) (z ∷ a) c x sent at none e t is = absurd (cc)
put_places n p zero o (d ∷ cs) (Some y ∷ os) a c x sent at none e t is = absurd (cc)
put_places n p zero o (d ∷ cs) (None ∷ os) [] c x sent at none e t is =
    let same : p + zero + 1 ≡ p + 1 = omega arith in (
      (λ _. at ∙ ap (λ (q : ℕ). Some q) same),
      subst (λ (b : Bool). HavePlacesAfter (if b then p + 1 else p) os)
          (sym sent) is.1,
    )
put_places n p zero o (d ∷ cs) (None ∷ os) (z ∷ a) c x sent at none e t is =
    let h : offers_from (n + 1) cs os ≡ a ++ x ∷ c = cc in
    let k = offers_least (n + 1) cs os a c x h in absurd (omega (arith, k, t))
put_places n p (suc k) o (d ∷ cs) (y ∷ os) a c x sent at none e t is =
    let t2 : x.tag ≡ n + 1 + k = omega (arith, t) in (
      is.0,
      elim (may_have_place y) as (λ b. cond b (record { tag = n; body = d.body } ∷ offers_from (n + 1) cs os)
          (offers_from (n + 1) cs os) ≡ a ++ x ∷ c
          → HavePlacesAfter (cond b (p + 1) p) os → HavePlacesAfter (cond b (p + 1) p) (put k o os)) [
            | true ↦ λ h q. elim a as (λ a. record { tag = n; body = d.body } ∷ offers_from (n + 1) cs os
                ≡ a ++ x ∷ c → place_of o ≡ Some (p + length a + 1) → HavePlacesAfter (p + 1) (put k o os)) [
                  | [] ↦ λ h at.
                      let e1 : record { tag = n; body = d.body } ≡ x = cc in
                      let e2 : n ≡ x.tag = ap (λ (o : Offered). o.tag) e1 in absurd (omega (arith, e2, t))
                  | z ∷ a ↦ λ h at.
                      let e1 : offers_from (n + 1) cs os ≡ a ++ x ∷ c = cc in
                      let e2 : p + suc (length a) + 1 ≡ p + 1 + length a + 1 = omega arith in
                      put_places (n + 1) (p + 1) k o cs os a c x sent (at ∙ ap (λ (q : ℕ). Some q) e2) none e1 t2 q
                ] h at
            | false ↦ λ h q. put_places (n + 1) p k o cs os a c x sent at none h t2 q
          ] e is.1,
    )

-- ---- what stands behind the sent ones has no place

-- of all that are offered nothing became: so no place is there to be wrong
pub all_unsettled : (n p : ℕ) (cs : List Claim) (os : List (Option Outcome)) → length os ≡ length cs
    → tags (offers_from n cs os) ≡ unsettled_from n os → HavePlacesAfter p os
all_unsettled n p cs [] len e = tt
all_unsettled n p [] (o ∷ os) len e = absurd (cc)
all_unsettled n p (d ∷ cs) (None ∷ os) len e =
    let h : tags (offers_from (n + 1) cs os) ≡ unsettled_from (n + 1) os = cc in
    (tt, all_unsettled (n + 1) (p + 1) cs os (omega (arith, len)) h)
all_unsettled n p (d ∷ cs) (Some o ∷ os) len e =
    elim (is_sent o) as (λ b. tags (cond b (record { tag = n; body = d.body } ∷ offers_from (n + 1) cs os)
    (offers_from (n + 1) cs os)) ≡ unsettled_from (n + 1) os
    → (b ≡ true → place_of o ≡ Some (p + 1)) × HavePlacesAfter (cond b (p + 1) p) os) [
      | true ↦ λ h. let k = unsettled_least (n + 1) n os [] (tags (offers_from (n + 1) cs os)) (sym h) in absurd
          (omega (arith, k))
      | false ↦ λ h. ((λ t. absurd (cc)), all_unsettled (n + 1) p cs os (omega (arith, len)) h)
    ] e

-- the front of the queue is given up
pub unsent_offers : (n k : ℕ) (cs : List Claim) (os : List (Option Outcome)) (a c : List Offered) (x : Offered)
    → slice_get os k ≡ Some None → x.tag ≡ n + k
    → offers_from n cs os ≡ a ++ x ∷ c → offers_from n cs (put k Unsent os) ≡ a ++ c
unsent_offers n k cs [] a c x none t e = absurd (cc)
unsent_offers n k [] (o ∷ os) [] c x none t e = absurd (cc)
unsent_offers n k [] (o ∷ os) (y ∷ a) c x none t e = absurd (cc)
unsent_offers n zero (d ∷ cs) (Some o ∷ os) a c x none t e = absurd (cc)
unsent_offers n zero (d ∷ cs) (None ∷ os) [] c x none t e = cc
unsent_offers n zero (d ∷ cs) (None ∷ os) (y ∷ a) c x none t e =
    let h : offers_from (n + 1) cs os ≡ a ++ x ∷ c = cc in
    let k = offers_least (n + 1) cs os a c x h in absurd (omega (arith, k, t))
unsent_offers n (suc k) (d ∷ cs) (o ∷ os) a c x none t e =
    let t2 : x.tag ≡ n + 1 + k = omega (arith, t) in
    elim (may_have_place o) as (λ b. cond b (record { tag = n; body = d.body } ∷ offers_from (n + 1) cs os)
    (offers_from (n + 1) cs os) ≡ a ++ x ∷ c
    → cond b (record { tag = n; body = d.body } ∷ offers_from (n + 1) cs (put k Unsent os))
    (offers_from (n + 1) cs (put k Unsent os)) ≡ a ++ c) [
      | true ↦ elim a as (λ a. record { tag = n; body = d.body } ∷ offers_from (n + 1) cs os ≡ a ++ x ∷ c
          → record { tag = n; body = d.body } ∷ offers_from (n + 1) cs (put k Unsent os) ≡ a ++ c) [
            | [] ↦ λ h.
                let e1 : record { tag = n; body = d.body } ≡ x = cc in
                let e2 : n ≡ x.tag = ap (λ (o : Offered). o.tag) e1 in absurd (omega (arith, e2, t))
            | z ∷ a ↦ λ h.
                let e1 : offers_from (n + 1) cs os ≡ a ++ x ∷ c = cc in
                let e0 : record { tag = n; body = d.body } ≡ z = cc in
                ap (λ (l : List Offered). record { tag = n; body = d.body } ∷ l)
                (unsent_offers (n + 1) k cs os a c x none t2 e1) ∙ ap (λ (y : Offered). y ∷ (a ++ c)) e0
          ]
      | false ↦ λ h. unsent_offers (n + 1) k cs os a c x none t2 h
    ] e

pub unsent_places : (n p k : ℕ) (cs : List Claim) (os : List (Option Outcome)) (a c : List Offered) (x : Offered)
    → length os ≡ length cs → x.tag ≡ n + k
    → offers_from n cs os ≡ a ++ x ∷ c → unsettled_from n os ≡ x.tag ∷ tags c → HavePlacesAfter p os
    → HavePlacesAfter p (put k Unsent os)
unsent_places n p k cs [] a c x len t e w is = absurd (cc)
unsent_places n p k [] (o ∷ os) a c x len t e w is = absurd (cc)
unsent_places n p k (d ∷ cs) (None ∷ os) [] c x len t e w is =
    let n_is : n ≡ x.tag = cc in
    let k_is : k ≡ 0 = omega (arith, n_is, t) in
    let h : offers_from (n + 1) cs os ≡ c = cc in
    let v : unsettled_from (n + 1) os ≡ tags c = cc in
    subst (λ (j : ℕ). HavePlacesAfter p (put j Unsent (None ∷ os))) (sym k_is)
    ((λ u. absurd (cc)), all_unsettled (n + 1) p cs os (omega (arith, len)) (ap tags h ∙ sym v))
unsent_places n p k (d ∷ cs) (None ∷ os) (y ∷ a) c x len t e w is =
    let n_is : n ≡ x.tag = cc in
    let h : offers_from (n + 1) cs os ≡ a ++ x ∷ c = cc in
    let later = offers_least (n + 1) cs os a c x h in absurd (omega (arith, later, n_is))
unsent_places n p zero (d ∷ cs) (Some o ∷ os) a c x len t e w is =
    let later = unsettled_least (n + 1) x.tag os [] (tags c) w in absurd (omega (arith, later, t))
unsent_places n p (suc k) (d ∷ cs) (Some o ∷ os) a c x len t e w is =
    let t2 : x.tag ≡ n + 1 + k = omega (arith, t) in (
      is.0,
      elim (is_sent o) as (λ b. cond b (record { tag = n; body = d.body } ∷ offers_from (n + 1) cs os)
          (offers_from (n + 1) cs os) ≡ a ++ x ∷ c
          → HavePlacesAfter (cond b (p + 1) p) os → HavePlacesAfter (cond b (p + 1) p) (put k Unsent os)) [
            | true ↦ λ h q. elim a as (λ a. record { tag = n; body = d.body } ∷ offers_from (n + 1) cs os
                ≡ a ++ x ∷ c → HavePlacesAfter (p + 1) (put k Unsent os)) [
                  | [] ↦ λ h.
                      let e1 : record { tag = n; body = d.body } ≡ x = cc in
                      let e2 : n ≡ x.tag = ap (λ (o : Offered). o.tag) e1 in absurd (omega (arith, e2, t))
                  | z ∷ a ↦ λ h. let e1 : offers_from (n + 1) cs os
                      ≡ a ++ x ∷ c = cc in unsent_places (n + 1) (p + 1) k cs os a c x (omega (arith, len)) t2 e1 w q
                ] h
            | false ↦ λ h q. unsent_places (n + 1) p k cs os a c x (omega (arith, len)) t2 h w q
          ] e is.1,
    )

-- ---- what stays, and what is new

pub keeps_put : (k : ℕ) (o : Outcome) (os : List (Option Outcome)) → slice_get os k ≡ Some None
    → KeepsOutcomes os (put k o os)
keeps_put k o [] none j x e = absurd (cc)
keeps_put zero o (None ∷ os) none zero x e = absurd (cc)
keeps_put zero o (None ∷ os) none (suc j) x e = e
keeps_put zero o (Some y ∷ os) none j x e = absurd (cc)
keeps_put (suc k) o (y ∷ os) none zero x e = e
keeps_put (suc k) o (y ∷ os) none (suc j) x e = keeps_put k o os none j x e

pub adds_put : (kind : Outcome → Bool) (k : ℕ) (o : Outcome) (os : List (Option Outcome)) → kind o ≡ true
    → AddsOnly kind os (put k o os)
adds_put kind zero o [] is j x e = inl e
adds_put kind (suc k) o [] is j x e = inl e
adds_put kind zero o (y ∷ os) is zero x e = let same : o ≡ x = cc in inr (ap kind (sym same) ∙ is)
adds_put kind zero o (y ∷ os) is (suc j) x e = inl e
adds_put kind (suc k) o (y ∷ os) is zero x e = inl e
adds_put kind (suc k) o (y ∷ os) is (suc j) x e = adds_put kind k o os is j x e

pub timeouts_put : (k : ℕ) (o : Outcome) (os : List (Option Outcome)) → slice_get os k ≡ Some None
    → timeouts (put k o os) ≡ (if is_timed_out o then 1 else 0) + timeouts os
timeouts_put k o [] none = absurd (cc)
timeouts_put zero o (None ∷ os) none = elim (is_timed_out o) as
    (λ b. cond b (1 + timeouts os) (timeouts os) ≡ (if b then 1 else 0) + timeouts os)
    [ true ↦ refl | false ↦ omega arith ]
timeouts_put zero o (Some x ∷ os) none = absurd (cc)
timeouts_put (suc k) o (x ∷ os) none =
    let h = timeouts_put k o os none in
    let new : ℕ = if is_timed_out o then 1 else 0 in
    elim (has_timed_out x) as (λ b. cond b (1 + timeouts (put k o os)) (timeouts (put k o os))
    ≡ new + cond b (1 + timeouts os) (timeouts os)) [
      | true ↦ omega (arith, h)
      | false ↦ h
    ]

-- ---- all are lost

pub keeps_lost : (others sent : ℕ) (os : List (Option Outcome)) → KeepsOutcomes os (lost_after others sent os)
keeps_lost others sent [] j x e = absurd (cc)
keeps_lost others sent (Some o ∷ os) zero x e = e
keeps_lost others sent (Some o ∷ os) (suc j) x e = keeps_lost (if is_sent o then others + 1 else others) sent os j x e
keeps_lost others sent (None ∷ os) zero x e = absurd (cc)
keeps_lost others sent (None ∷ os) (suc j) x e =
    either (λ (l : List (Option Outcome)). slice_get l (suc j) ≡ Some (Some x)) (nat_lt others sent)
    (Some (LinkLost (Some (others + 1))) ∷ lost_after (others + 1) sent os)
    (Some (LinkLost None) ∷ lost_after others sent os)
    (λ _. keeps_lost (others + 1) sent os j x e) (λ _. keeps_lost others sent os j x e)

adds_one : (o : Outcome) (os new : List (Option Outcome)) → is_lost o ≡ true → AddsOnly is_lost os new
    → AddsOnly is_lost (None ∷ os) (Some o ∷ new)
adds_one o os new lost adds zero x e = let same : o ≡ x = cc in inr (ap is_lost (sym same) ∙ lost)
adds_one o os new lost adds (suc j) x e = adds j x e

pub adds_lost : (others sent : ℕ) (os : List (Option Outcome)) → AddsOnly is_lost os (lost_after others sent os)
adds_lost others sent [] j x e = absurd (cc)
adds_lost others sent (Some o ∷ os) zero x e = inl e
adds_lost others sent (Some o ∷ os) (suc j) x e = adds_lost (if is_sent o then others + 1 else others) sent os j x e
adds_lost others sent (None ∷ os) j x e =
    either (λ (l : List (Option Outcome)). slice_get l j ≡ Some (Some x)
    → (slice_get (None ∷ os) j ≡ Some (Some x)) ⊎ (is_lost x ≡ true)) (nat_lt others sent)
    (Some (LinkLost (Some (others + 1))) ∷ lost_after (others + 1) sent os)
    (Some (LinkLost None) ∷ lost_after others sent os)
    (λ _ e. adds_one (LinkLost (Some (others + 1))) os (lost_after (others + 1) sent os) refl
    (adds_lost (others + 1) sent os) j x e)
    (λ _ e. adds_one (LinkLost None) os (lost_after others sent os) refl (adds_lost others sent os) j x e)
    e

pub length-lost_after : (others sent : ℕ) (os : List (Option Outcome)) → length (lost_after others sent os) ≡ length os
length-lost_after others sent [] = refl
length-lost_after others sent (Some o ∷ os) = ap suc (length-lost_after
    (if is_sent o then others + 1 else others) sent os)
length-lost_after others sent (None ∷ os) =
    either (λ (l : List (Option Outcome)). length l ≡ suc (length os)) (nat_lt others sent)
    (Some (LinkLost (Some (others + 1))) ∷ lost_after (others + 1) sent os)
    (Some (LinkLost None) ∷ lost_after others sent os)
    (λ _. ap suc (length-lost_after (others + 1) sent os)) (λ _. ap suc (length-lost_after others sent os))

-- what is lost agrees with the first sends: those with a place keep it, and nothing waits any more
pub record AreLost (n p : ℕ) (cs : List Claim) (os : List (Option Outcome)) (firsts : List Offered) : Type 0 where
  pub offers : offers_from n cs os ≡ firsts
  pub places : HavePlacesAfter p os
  pub settled : unsettled_from n os ≡ []

lost_one : (n p : ℕ) (d : Claim) (cs : List Claim) (o : Outcome) (os : List (Option Outcome))
    (firsts all : List Offered) (b : Bool) → is_sent o ≡ b → HasPlaceAfter p (Some o)
    → AreLost (n + 1) (cond b (p + 1) p) cs os firsts → cond b (record { tag = n; body = d.body } ∷ firsts) firsts
    ≡ all → AreLost n p (d ∷ cs) (Some o ∷ os) all
lost_one n p d cs o os firsts all b sent at is e = record {
  offers = ap (λ (c : Bool). if c then record { tag = n; body = d.body } ∷ offers_from (n + 1) cs os else offers_from
      (n + 1) cs os) sent
      ∙ (ap (λ (l : List Offered). if b then record { tag = n; body = d.body } ∷ l else l) is.offers ∙ e);
  places = (at, subst (λ (c : Bool). HavePlacesAfter (if c then p + 1 else p) os) (sym sent) is.places);
  settled = is.settled;
}

lost_from : (n p s : ℕ) (cs : List Claim) (os : List (Option Outcome)) (a q : List Offered) (w : List ℕ)
    → length os ≡ length cs → s ≡ p + length a
    → offers_from n cs os ≡ a ++ q → unsettled_from n os ≡ w ++ tags q → HavePlacesAfter p os
    → AreLost n p cs (lost_after p s os) a
lost_from n p s cs [] [] q w len s_is e v is = record { offers = refl; places = tt; settled = refl }
lost_from n p s cs [] (z ∷ a) q w len s_is e v is = absurd (cc)
lost_from n p s [] (o ∷ os) a q w len s_is e v is = absurd (cc)
lost_from n p s (d ∷ cs) (Some o ∷ os) a q w len s_is e v is =
    let l : length os ≡ length cs = omega (arith, len) in
    elim (is_sent o) as (λ b. is_sent o ≡ b → cond b (record { tag = n; body = d.body } ∷ offers_from (n + 1) cs os)
    (offers_from (n + 1) cs os) ≡ a ++ q
    → HavePlacesAfter (cond b (p + 1) p) os → AreLost n p (d ∷ cs) (Some o ∷ lost_after (cond b (p + 1) p) s os) a) [
      | true ↦ λ sent e is1. elim a as (λ a. s ≡ p + length a
          → record { tag = n; body = d.body } ∷ offers_from (n + 1) cs os ≡ a ++ q
          → AreLost n p (d ∷ cs) (Some o ∷ lost_after (p + 1) s os) a) [
            | [] ↦ λ s_is e. elim q as (λ q. record { tag = n; body = d.body } ∷ offers_from (n + 1) cs os ≡ q
                → unsettled_from (n + 1) os ≡ w ++ tags q
                → AreLost n p (d ∷ cs) (Some o ∷ lost_after (p + 1) s os) []) [
                  | [] ↦ λ e v. absurd (cc)
                  | y ∷ q ↦ λ e v.
                      let e1 : record { tag = n; body = d.body } ≡ y = cc in
                      let e2 : n ≡ y.tag = ap (λ (o : Offered). o.tag) e1 in
                      let k = unsettled_least (n + 1) y.tag os w (tags q) v in absurd (omega (arith, e2, k))
                ] e v
            | z ∷ a ↦ λ s_is e.
                let e0 : record { tag = n; body = d.body } ≡ z = cc in
                let e1 : offers_from (n + 1) cs os ≡ a ++ q = cc in
                let later = lost_from (n + 1) (p + 1) s cs os a q w l (omega (arith, s_is)) e1 v is1 in
                lost_one n p d cs o (lost_after (p + 1) s os) a (z ∷ a) true sent is.0 later
                (ap (λ (y : Offered). y ∷ a) e0)
          ] s_is e
      | false ↦ λ sent e is1. lost_one n p d cs o (lost_after p s os) a a false sent is.0
          (lost_from (n + 1) p s cs os a q w l s_is e v is1) refl
    ] refl e is.1
lost_from n p s (d ∷ cs) (None ∷ os) [] q w len s_is e v is =
    let l : length os ≡ length cs = omega (arith, len) in
    either (λ (x : List (Option Outcome)). AreLost n p (d ∷ cs) x []) (nat_lt p s)
    (Some (LinkLost (Some (p + 1))) ∷ lost_after (p + 1) s os) (Some (LinkLost None) ∷ lost_after p s os)
    (λ t. let h = ltb-true p s t in absurd (omega (arith, h, s_is)))
    (λ _. elim q as (λ q. record { tag = n; body = d.body } ∷ offers_from (n + 1) cs os ≡ q
    → n ∷ unsettled_from (n + 1) os ≡ w ++ tags q
    → AreLost n p (d ∷ cs) (Some (LinkLost None) ∷ lost_after p s os) []) [
      | [] ↦ λ e v. absurd (cc)
      | y ∷ q ↦ λ e v.
          let e1 : record { tag = n; body = d.body } ≡ y = cc in
          let e2 : n ≡ y.tag = ap (λ (o : Offered). o.tag) e1 in
          let e3 : offers_from (n + 1) cs os ≡ q = cc in
          elim w as (λ w. n ∷ unsettled_from (n + 1) os ≡ w ++ y.tag ∷ tags q
          → AreLost n p (d ∷ cs) (Some (LinkLost None) ∷ lost_after p s os) []) [
            | [] ↦ λ v.
                let v1 : unsettled_from (n + 1) os ≡ tags q = cc in
                let places = all_unsettled (n + 1) p cs os l (ap tags e3 ∙ sym v1) in
                lost_one n p d cs (LinkLost None) (lost_after p s os) [] [] false refl (λ u. absurd (cc))
                (lost_from (n + 1) p s cs os [] q [] l s_is e3 v1 places) refl
            | x ∷ w ↦ λ v.
                let v1 : unsettled_from (n + 1) os ≡ w ++ y.tag ∷ tags q = cc in
                let k = unsettled_least (n + 1) y.tag os w (tags q) v1 in absurd (omega (arith, e2, k))
          ] v
    ] e v)
lost_from n p s (d ∷ cs) (None ∷ os) (z ∷ a) q w len s_is e v is =
    let l : length os ≡ length cs = omega (arith, len) in
    let e0 : record { tag = n; body = d.body } ≡ z = cc in
    let e1 : offers_from (n + 1) cs os ≡ a ++ q = cc in
    either (λ (x : List (Option Outcome)). AreLost n p (d ∷ cs) x (z ∷ a)) (nat_lt p s)
    (Some (LinkLost (Some (p + 1))) ∷ lost_after (p + 1) s os) (Some (LinkLost None) ∷ lost_after p s os)
    (λ _. elim w as (λ w. n ∷ unsettled_from (n + 1) os ≡ w ++ tags q
    → AreLost n p (d ∷ cs) (Some (LinkLost (Some (p + 1))) ∷ lost_after (p + 1) s os) (z ∷ a)) [
      | [] ↦ λ v. elim q as (λ q. offers_from (n + 1) cs os ≡ a ++ q → n ∷ unsettled_from (n + 1) os ≡ tags q
          → AreLost n p (d ∷ cs) (Some (LinkLost (Some (p + 1))) ∷ lost_after (p + 1) s os) (z ∷ a)) [
            | [] ↦ λ h v. absurd (cc)
            | y ∷ q ↦ λ h v. let e2 : n ≡ y.tag = cc in let k = offers_least (n + 1) cs os a q y h in absurd
                (omega (arith, e2, k))
          ] e1 v
      | x ∷ w ↦ λ v.
          let v1 : unsettled_from (n + 1) os ≡ w ++ tags q = cc in
          lost_one n p d cs (LinkLost (Some (p + 1))) (lost_after (p + 1) s os) a (z ∷ a) true refl (λ u. refl)
          (lost_from (n + 1) (p + 1) s cs os a q w l (omega (arith, s_is)) e1 v1 is.1) (ap (λ (y : Offered). y ∷ a) e0)
    ] v)
    (λ f. let h = ltb-false p s f in absurd (omega (arith, h, s_is)))

pub all_lost_agree : (cs : List Claim) (os : List (Option Outcome)) (sent queue : List Offered) (w : List ℕ)
    → length os ≡ length cs → sent ++ queue ≡ offers_from 0 cs os
    → w ++ tags queue ≡ unsettled_from 0 os → HavePlacesAfter 0 os → AreLost 0 0 cs (lost_after 0 (length sent) os) sent
all_lost_agree cs os sent queue w len e v is = lost_from 0 0 (length sent) cs os sent queue w len (omega arith)
    (sym e) (sym v) is

-- ---- from the first Ask on

nil_plus : (k : ℕ) → k ≡ 0 + k
nil_plus k = omega arith

pub unsettled_none : (k : ℕ) (os : List (Option Outcome)) (a c : List ℕ) → unsettled_from 0 os ≡ a ++ k ∷ c
    → slice_get os k ≡ Some None
unsettled_none k os a c e = unsettled_none_from 0 k os a c (subst (λ (t : ℕ). unsettled_from 0 os ≡ a ++ t ∷ c)
    (nil_plus k) e)

pub put_unsettled : (k : ℕ) (o : Outcome) (os : List (Option Outcome)) (a c : List ℕ)
    → unsettled_from 0 os ≡ a ++ k ∷ c → unsettled_from 0 (put k o os) ≡ a ++ c
put_unsettled k o os a c e = put_unsettled_from 0 k o os a c
    (subst (λ (t : ℕ). unsettled_from 0 os ≡ a ++ t ∷ c) (nil_plus k) e)

pub offers_push_first : (cs : List Claim) (os : List (Option Outcome)) (c : Claim) → length os ≡ length cs
    → offers_from 0 (cs ++ c ∷ []) (os ++ None ∷ []) ≡ offers_from 0 cs os ++ record
    { tag = length cs; body = c.body } ∷ []
offers_push_first cs os c e = offers_push 0 cs os c e ∙ ap (λ (t : ℕ). offers_from 0 cs os ++ record
    { tag = t; body = c.body } ∷ []) (sym (nil_plus (length cs)))

pub unsettled_push_first : (os : List (Option Outcome)) → unsettled_from 0 (os ++ None ∷ [])
    ≡ unsettled_from 0 os ++ length os ∷ []
unsettled_push_first os = unsettled_push 0 os ∙ ap (λ (t : ℕ). unsettled_from 0 os ++ t ∷ [])
    (sym (nil_plus (length os)))
