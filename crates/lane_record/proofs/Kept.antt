-- Lemmas on what a lane keeps of its record and of its give-ups, as entries and outcomes come.
use Rattle.std.proofs.Common.{◌≡◌, ℕ, zero, suc, ◌+◌, ◌*◌, ◌<◌, ◌≤◌, Bool, true, false, cond, List, [], ◌∷◌, ◌++◌}
use Rattle.std.proofs.Common.{length, Option, Some, None}
use Rattle.std.proofs.Common.{refl, sym, ap, ◌∙◌, subst, arith, append_assoc, inl, inr, ◌⊎◌, if◌then◌else◌}
use Rattle.std.proofs.lemmas.List.{append-nil}
use Rattle.std.proofs.Math.Nat.{mul-add}
use Rattle.std.specs.List.{AllByRecursion, slice_get}
use Rattle.ipb_base.proofs.AllLemmas.{AllByRecursion-append, all-map}
use Rattle.world_model.specs.declared.offered.Fate.{Fate}
use Rattle.world_model.specs.declared.offered.Fate.TheVariants as fate
use Rattle.world_model.proofs.Lists.{all_get, get_within, get_front, get_seam}
use Rattle.lane_record.specs.declared.outcome.Outcome.{Outcome}
use Rattle.lane_record.specs.declared.outcome.Outcome.TheVariants.{Replied, TimedOut, Unsent, LinkLost}
use Rattle.lane_record.specs.declared.item.Item.{Item}
use Rattle.lane_record.specs.declared.item.What.{What}
use Rattle.lane_record.specs.declared.item.What.TheVariants.{Plan, Seal, Ask, Took}
use Rattle.lane_record.specs.Outcomes.{is_given_up, is_timed_out, is_replied, is_lost}
use Rattle.lane_record.specs.Items.{ask_in, give_ups_in, give_ups, and_number, is_sealed}
use Rattle.lane_record.specs.Claims.{Claim, claims, claims_behind, claim_in}
use Rattle.lane_record.specs.FirstSends.{PlacesCount, HasPlaceAfter, places_given}
use Rattle.lane_record.specs.Bounds.{AreWithin, AreGivenUpBefore, IsKept, timeouts, has_timed_out}
use Rattle.lane_record.specs.Offers.{KeepsOutcomes, AddsOnly, WasHandedOut, IsToldBy, AreToldBy, put, put_all}
use Rattle.lane_record.specs.Offers.{outcome_of, all_lost}
use Rattle.lane_record.specs.NextEntry.{MayPlan, MayAsk, MayTook, plan_of, ask_of, took_of, the_seal}
use Rattle.lane_record.proofs.Lookups.{give_ups_append, claims_push}
use Rattle.lane_record.proofs.Asks.{get_split}
use Rattle.lane_record.proofs.Legality.{legal_goes}
use Rattle.lane_record.proofs.NextEntries.{may_plan, may_seal, may_ask, may_took}
use Rattle.lane_record.proofs.Offers.{adds_lost}

-- ---- numbers within

pub within_more : (g h : ℕ) (items : List Item) → g ≤ h → AreWithin g items → AreWithin h items
within_more g h items le is = all-map (λ (n : ℕ). n ≤ g) (λ (n : ℕ). n ≤ h) (give_ups items)
    (λ n l. omega (arith, l, le)) is

within_push : (g : ℕ) (items : List Item) (x : Item) → AllByRecursion (λ (n : ℕ). n ≤ g)
    (and_number (give_ups_in x.what) []) → AreWithin g items → AreWithin g (items ++ x ∷ [])
within_push g items x one is =
    subst (AllByRecursion (λ (n : ℕ). n ≤ g)) (sym (give_ups_append items (x ∷ [])))
    (AllByRecursion-append (λ (n : ℕ). n ≤ g) (give_ups items) (and_number (give_ups_in x.what) []) is one)

-- an Ask tells its number of give-ups
abbrev pub AtMostAsked : ℕ → Claim → Type 0
AtMostAsked g c = c.give_ups ≤ g

ask_told : (g : ℕ) (front : List Item) (x : Item) (what : What) (later : List ℕ)
    → AllByRecursion (λ (n : ℕ). n ≤ g) (and_number (give_ups_in what) later)
    → AllByRecursion (AtMostAsked g) (claim_in front x (ask_in what)) × AllByRecursion (λ (n : ℕ). n ≤ g) later
ask_told g front x (Plan body) later is = (tt, is)
ask_told g front x Seal later is = (tt, is)
ask_told g front x (Ask n) later is = ((is.0, tt), is.1)
ask_told g front x (Took outcome n) later is = (tt, is.1)

asks_told : (g : ℕ) (front items : List Item) → AreWithin g items
    → AllByRecursion (AtMostAsked g) (claims_behind front items)
asks_told g front [] is = tt
asks_told g front (x ∷ items) is =
    let k = ask_told g front x x.what (give_ups items) is in
    AllByRecursion-append (AtMostAsked g) (claim_in front x (ask_in x.what))
    (claims_behind (front ++ x ∷ []) items) k.0 (asks_told g (front ++ x ∷ []) items k.1)

pub asked_within : (g : ℕ) (items : List Item) (k : ℕ) (claim : Claim) → AreWithin g items
    → slice_get (claims items) k ≡ Some claim → claim.give_ups ≤ g
asked_within g items k claim is e = all_get (AtMostAsked g) (claims items) k claim (asks_told g [] items is) e

-- ---- timeouts, where none come

head_calm : (y x : Option Outcome) (a b : ℕ) → b ≤ a → ((o : Outcome) → x ≡ Some o → is_timed_out o ≡ true
    → Some y ≡ Some (Some o))
    → (if has_timed_out x then 1 + b else b) ≤ (if has_timed_out y then 1 + a else a)
head_calm y None a b le f = elim (has_timed_out y) as (λ t. b ≤ cond t (1 + a) a)
    [ true ↦ omega (arith, le) | false ↦ le ]
head_calm y (Some o) a b le f = elim (is_timed_out o) as (λ t. is_timed_out o ≡ t
    → cond t (1 + b) b ≤ (if has_timed_out y then 1 + a else a)) [
      | true ↦ λ t.
          let same : Some y ≡ Some (Some o) = f o refl t in
          let y_is : y ≡ Some o = cc in
          let timed : has_timed_out y ≡ true = ap has_timed_out y_is ∙ t in
          subst (λ (c : Bool). 1 + b ≤ (if c then 1 + a else a)) (sym timed) (omega (arith, le))
      | false ↦ λ t. elim (has_timed_out y) as (λ c. b ≤ cond c (1 + a) a) [ true ↦ omega (arith, le) | false ↦ le ]
    ] refl

timeouts_calm : (old new : List (Option Outcome)) → length new ≡ length old
    → ((k : ℕ) (o : Outcome) → slice_get new k ≡ Some (Some o) → is_timed_out o ≡ true
    → slice_get old k ≡ Some (Some o)) → timeouts new ≤ timeouts old
timeouts_calm [] [] len f = omega arith
timeouts_calm [] (x ∷ new) len f = absurd (cc)
timeouts_calm (y ∷ old) [] len f = absurd (cc)
timeouts_calm (y ∷ old) (x ∷ new) len f =
    let later = timeouts_calm old new (omega (arith, len)) (λ k o e t. f (suc k) o e t) in
    head_calm y x (timeouts old) (timeouts new) later (λ o e t. f 0 o (ap (λ (z : Option Outcome). Some z) e) t)

calm_kind : (kind : Outcome → Bool) (old new : List (Option Outcome))
    → ((o : Outcome) → kind o ≡ true → is_given_up o ≡ false) → AddsOnly kind old new
    → (k : ℕ) (o : Outcome) → slice_get new k ≡ Some (Some o) → is_given_up o ≡ true → slice_get old k ≡ Some (Some o)
calm_kind kind old new calm adds k o e up = elim (adds k o e) [
  | inl h ↦ h
  | inr h ↦ let no_give_up = calm o h in absurd (cc)
]

timed_out_given_up : (o : Outcome) → is_timed_out o ≡ true → is_given_up o ≡ true
timed_out_given_up (Replied place words) e = absurd (cc)
timed_out_given_up (TimedOut place rounds) e = refl
timed_out_given_up Unsent e = refl
timed_out_given_up (LinkLost place) e = absurd (cc)

pub replied_calm : (o : Outcome) → is_replied o ≡ true → is_given_up o ≡ false
replied_calm (Replied place words) e = refl
replied_calm (TimedOut place rounds) e = absurd (cc)
replied_calm Unsent e = absurd (cc)
replied_calm (LinkLost place) e = absurd (cc)

pub lost_calm : (o : Outcome) → is_lost o ≡ true → is_given_up o ≡ false
lost_calm (Replied place words) e = absurd (cc)
lost_calm (TimedOut place rounds) e = absurd (cc)
lost_calm Unsent e = absurd (cc)
lost_calm (LinkLost place) e = refl

-- ---- outcomes come

mul_more : (w g : ℕ) → w * (g + 1) ≡ w * g + w
mul_more w g = let a : w * 1 ≡ w = omega arith in mul-add w g 1 ∙ ap (λ (z : ℕ). w * g + z) a

-- none of them is given up
pub kept_goes : (items : List Item) (old new : List (Option Outcome)) (kind : Outcome → Bool) (window g : ℕ)
    → ((o : Outcome) → kind o ≡ true → is_given_up o ≡ false)
    → KeepsOutcomes old new → AddsOnly kind old new → PlacesCount (claims items) new → IsKept items old window g
    → IsKept items new window g
kept_goes items old new kind window g calm keeps adds places is =
    let same = calm_kind kind old new calm adds in
    let each = places.each in
    let each_old = is.legal.places_count.each in
    let few = timeouts_calm old new (omega (arith, each, each_old)) (λ k o e t. same k o e (timed_out_given_up o t)) in
    record {
      legal = legal_goes items old new keeps places is.legal;
      within = is.within;
      given_up_before = λ k claim o c e up. is.given_up_before k claim o c (same k o e up) up;
      few = (let f = is.few in omega (arith, f, few));
    }

-- the lane gave up once more
pub kept_given_up : (items : List Item) (old new : List (Option Outcome)) (window g : ℕ) → KeepsOutcomes old new
    → timeouts new ≤ timeouts old + window → PlacesCount (claims items) new
    → IsKept items old window g → IsKept items new window (g + 1)
kept_given_up items old new window g keeps few places is = record {
  legal = legal_goes items old new keeps places is.legal;
  within = within_more g (g + 1) items (omega arith) is.within;
  given_up_before = λ k claim o c e up. (let h = asked_within g items k claim is.within c in omega (arith, h));
  few = (let f = is.few in let m = mul_more window g in omega (arith, f, few, m));
}

-- ---- entries come

front_get : {A : Type 0} (xs ys : List A) (k : ℕ) (x : A) → k < length xs → slice_get (xs ++ ys) k ≡ Some x
    → slice_get xs k ≡ Some x
front_get [] ys k x lt e = absurd (omega (arith, lt))
front_get (y ∷ xs) ys zero x lt e = e
front_get (y ∷ xs) ys (suc k) x lt e = front_get xs ys k x (omega (arith, lt)) e

same_claims : (items : List Item) (x : Item) (outs : List (Option Outcome)) (g : ℕ) → ask_in x.what ≡ None
    → AreGivenUpBefore g (claims items) outs → AreGivenUpBefore g (claims (items ++ x ∷ [])) outs
same_claims items x outs g e is =
    subst (λ (cs : List Claim). AreGivenUpBefore g cs outs) (sym
    (claims_push items x ∙ (ap (λ (o : Option ℕ). claims items ++ claim_in items x o) e
    ∙ append-nil (claims items)))) is

pub kept_plan : (items : List Item) (outs : List (Option Outcome)) (window g client seq : ℕ) (body : List ℕ)
    → MayPlan items client seq → IsKept items outs window g
    → IsKept (items ++ plan_of client seq body ∷ []) outs window g
kept_plan items outs window g client seq body may is = record {
  legal = may_plan items outs client seq body may is.legal;
  within = within_push g items (plan_of client seq body) tt is.within;
  given_up_before = same_claims items (plan_of client seq body) outs g refl is.given_up_before;
  few = is.few;
}

pub kept_seal : (items : List Item) (outs : List (Option Outcome)) (window g : ℕ) → is_sealed items ≡ false
    → IsKept items outs window g → IsKept (items ++ the_seal ∷ []) outs window g
kept_seal items outs window g open_to is = record {
  legal = may_seal items outs open_to is.legal;
  within = within_push g items the_seal tt is.within;
  given_up_before = same_claims items the_seal outs g refl is.given_up_before;
  few = is.few;
}

abbrev pub NotGivenUp : Option Outcome → Type 0
NotGivenUp o = (outcome : Outcome) → o ≡ Some outcome → is_given_up outcome ≡ false

timeouts_push : (outs : List (Option Outcome)) (o : Option Outcome) → has_timed_out o ≡ false
    → timeouts (outs ++ o ∷ []) ≡ timeouts outs
timeouts_push [] o e = ap (λ (b : Bool). if b then 1 + 0 else 0) e
timeouts_push (x ∷ outs) o e = ap (λ (n : ℕ). if has_timed_out x then 1 + n else n) (timeouts_push outs o e)

not_timed_out : (o : Option Outcome) → NotGivenUp o → has_timed_out o ≡ false
not_timed_out None f = refl
not_timed_out (Some outcome) f = elim (is_timed_out outcome) as (λ b. is_timed_out outcome ≡ b → b ≡ false) [
  | true ↦ λ e. let up = timed_out_given_up outcome e in let no_give_up = f outcome refl in absurd (cc)
  | false ↦ λ e. refl
] refl

-- an Ask that is not the last is there without the last
claim_before : (items : List Item) (client seq g : ℕ) (outs : List (Option Outcome)) (k : ℕ) (claim : Claim)
    (o : Option Outcome) → length outs ≡ length (claims items) → slice_get outs k ≡ Some o
    → slice_get (claims (items ++ ask_of client seq g ∷ [])) k ≡ Some claim → slice_get (claims items) k ≡ Some claim
claim_before items client seq g outs k claim o each there e =
    let within = get_within outs k o there in
    let e1 : slice_get (claims items ++ claim_in items (ask_of client seq g) (Some g)) k ≡ Some claim =
    subst (λ (cs : List Claim). slice_get cs k ≡ Some claim) (claims_push items (ask_of client seq g)) e in
    front_get (claims items) (claim_in items (ask_of client seq g) (Some g)) k claim (omega (arith, within, each)) e1

pub kept_ask : (items : List Item) (outs : List (Option Outcome)) (window g client seq : ℕ) (o : Option Outcome)
    → MayAsk items client seq g → HasPlaceAfter (places_given outs) o → NotGivenUp o
    → IsKept items outs window g → IsKept (items ++ ask_of client seq g ∷ []) (outs ++ o ∷ []) window g
kept_ask items outs window g client seq o may place calm is = record {
  legal = may_ask items outs client seq g o may place is.legal;
  within = within_push g items (ask_of client seq g) (omega arith, tt) is.within;
  given_up_before = λ k claim outcome c e up.
      elim (get_split outs o k (Some outcome) e) [
        | inl h ↦ is.given_up_before k claim outcome (claim_before items client seq g outs k claim
            (Some outcome) is.legal.places_count.each h c) h up
        | inr h ↦ let no_give_up = calm outcome (sym h.1) in absurd (cc)
      ];
  few = (let t = timeouts_push outs o (not_timed_out o calm) in let f = is.few in omega (arith, t, f));
}

pub kept_took : (items : List Item) (outs : List (Option Outcome)) (window g client seq : ℕ) (outcome : Outcome)
    → MayTook items outs client seq outcome g → IsKept items outs window g
    → IsKept (items ++ took_of client seq outcome g ∷ []) outs window g
kept_took items outs window g client seq outcome may is = record {
  legal = may_took items outs client seq outcome g may is.legal;
  within = within_push g items (took_of client seq outcome g) (omega arith, tt) is.within;
  given_up_before = same_claims items (took_of client seq outcome g) outs g refl is.given_up_before;
  few = is.few;
}

-- ---- outcomes that were handed out as fates

told_one : (fates : List (ℕ × Fate)) (k : ℕ) (f : Fate) → WasHandedOut fates k f → IsToldBy fates k (outcome_of f)
told_one fates k (fate.Replied place words) is = is
told_one fates k (fate.TimedOut place rounds) is = is
told_one fates k fate.Unsent is = is

told_more : (fates more : List (ℕ × Fate)) (k : ℕ) (o : Outcome) → IsToldBy fates k o → IsToldBy (fates ++ more) k o
told_more fates more k (Replied place words) is = record {
  number = is.number;
  there = get_front fates more is.number
      (k, fate.Replied place words) is.there;
}
told_more fates more k (TimedOut place rounds) is = record {
  number = is.number;
  there = get_front fates more
      is.number (k, fate.TimedOut place rounds) is.there;
}
told_more fates more k Unsent is = record {
  number = is.number;
  there = get_front fates more is.number
      (k, fate.Unsent) is.there;
}
told_more fates more k (LinkLost place) is = tt

put_other : (k : ℕ) (o : Outcome) (outs : List (Option Outcome)) (j : ℕ) (x : Outcome)
    → slice_get (put k o outs) j ≡ Some (Some x)
    → (slice_get outs j ≡ Some (Some x)) ⊎ ((j ≡ k) × (o ≡ x))
put_other zero o [] j x e = inl e
put_other (suc k) o [] j x e = inl e
put_other zero o (y ∷ outs) zero x e = inr (refl, cc)
put_other zero o (y ∷ outs) (suc j) x e = inl e
put_other (suc k) o (y ∷ outs) zero x e = inl e
put_other (suc k) o (y ∷ outs) (suc j) x e = elim (put_other k o outs j x e)
    [ inl h ↦ inl h | inr h ↦ inr (ap suc h.0, h.1) ]

told_put : (fates : List (ℕ × Fate)) (f : ℕ × Fate) (outs : List (Option Outcome)) → AreToldBy fates outs
    → AreToldBy (fates ++ f ∷ []) (put f.0 (outcome_of f.1) outs)
told_put fates f outs is k o e = elim (put_other f.0 (outcome_of f.1) outs k o e) [
  | inl h ↦ told_more fates (f ∷ []) k o (is k o h)
  | inr h ↦ subst (λ (j : ℕ). IsToldBy (fates ++ f ∷ []) j o) (sym h.0) (subst (IsToldBy (fates ++ f ∷ []) f.0) h.1
      (told_one (fates ++ f ∷ []) f.0 f.1 (record { number = length fates; there = get_seam fates [] f })))
]

pub told_all : (fates more : List (ℕ × Fate)) (outs : List (Option Outcome)) → AreToldBy fates outs
    → AreToldBy (fates ++ more) (put_all more outs)
told_all fates [] outs is = subst (λ (l : List (ℕ × Fate)). AreToldBy l outs) (sym (append-nil fates)) is
told_all fates (f ∷ more) outs is =
    subst (λ (l : List (ℕ × Fate)). AreToldBy l (put_all more (put f.0 (outcome_of f.1) outs)))
    (append_assoc fates (f ∷ []) more)
    (told_all (fates ++ f ∷ []) more (put f.0 (outcome_of f.1) outs) (told_put fates f outs is))

lost_told : (fates : List (ℕ × Fate)) (k : ℕ) (o : Outcome) → is_lost o ≡ true → IsToldBy fates k o
lost_told fates k (Replied place words) e = absurd (cc)
lost_told fates k (TimedOut place rounds) e = absurd (cc)
lost_told fates k Unsent e = absurd (cc)
lost_told fates k (LinkLost place) e = tt

pub told_lost : (fates : List (ℕ × Fate)) (sent : ℕ) (outs : List (Option Outcome)) → AreToldBy fates outs
    → AreToldBy fates (all_lost sent outs)
told_lost fates sent outs is k o e = elim (adds_lost 0 sent outs k o e)
    [ inl h ↦ is k o h | inr h ↦ lost_told fates k o h ]

pub told_ask : (fates : List (ℕ × Fate)) (outs : List (Option Outcome)) → AreToldBy fates outs
    → AreToldBy fates (outs ++ None ∷ [])
told_ask fates outs is k o e = elim (get_split outs None k (Some o) e)
    [ inl h ↦ is k o h | inr h ↦ absurd (let x = h.1 in cc) ]

pub told_ask_lost : (fates : List (ℕ × Fate)) (outs : List (Option Outcome)) → AreToldBy fates outs
    → AreToldBy fates (outs ++ Some (LinkLost None) ∷ [])
told_ask_lost fates outs is k o e = elim (get_split outs (Some (LinkLost None)) k (Some o) e) [
  | inl h ↦ is k o h
  | inr h ↦ let x = h.1 in let same : o ≡ LinkLost None = cc in subst (IsToldBy fates k) (sym same) tt
]

pub lost_alone : NotGivenUp (Some (LinkLost None))
lost_alone outcome e = let same : LinkLost None ≡ outcome = cc in subst
    (λ (o : Outcome). is_given_up o ≡ false) same refl
