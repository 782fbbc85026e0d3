-- What a seat knows of its lanes, through calls one after another.
use Rattle.std.proofs.Common.{◌≡◌, ℕ, zero, suc, ◌==◌, true, false, List, [], ◌∷◌, length, set, set-set, Some, IfSome}
use Rattle.std.proofs.Math.ListN.{length-set}
use Rattle.std.proofs.Common.{inl, inr, ◌⊎◌, refl, sym, ap, ◌∙◌, subst}
use Rattle.std.proofs.lemmas.Bool.{eqb-true, eqb-false}
use Rattle.std.proofs.lemmas.Option.{same_Some, none-some}
use Rattle.std.specs.List.{AllByRecursion, slice_get}
use Rattle.turn_pass.specs.Pass.{Knowledge}
use Rattle.hub_multiplexer.specs.Seats.{ChangesAt, SeatState}
use Rattle.hub_session.specs.Inside.{IsSameSeat}

pub get_set_same : {A : Type 0} (xs : List A) (i : ℕ) (x y : A) → slice_get xs i ≡ Some y
    → slice_get (set xs i x) i ≡ Some x
get_set_same [] i x y e = absurd (none-some y e)
get_set_same (z ∷ zs) zero x y e = refl
get_set_same (z ∷ zs) (suc i) x y e = get_set_same zs i x y e

get_set_other : {A : Type 0} (xs : List A) (i j : ℕ) (x : A) → (i ≡ j → ⊥)
    → slice_get (set xs i x) j ≡ slice_get xs j
get_set_other [] i j x ne = refl
get_set_other (z ∷ zs) zero zero x ne = absurd (ne refl)
get_set_other (z ∷ zs) zero (suc j) x ne = refl
get_set_other (z ∷ zs) (suc i) zero x ne = refl
get_set_other (z ∷ zs) (suc i) (suc j) x ne = get_set_other zs i j x (λ e. ne (ap suc e))

pub all_at : {A : Type 0} (P : A → Type 0) (xs : List A) (i : ℕ) (x : A) → AllByRecursion P xs
    → slice_get xs i ≡ Some x → P x
all_at P [] i x all e = absurd (none-some x e)
all_at P (y ∷ ys) zero x all e = subst P (same_Some y x e) all.0
all_at P (y ∷ ys) (suc i) x all e = all_at P ys i x all.1 e

all_set : {A : Type 0} (P : A → Type 0) (xs : List A) (i : ℕ) (x : A) → AllByRecursion P xs → P x
    → AllByRecursion P (set xs i x)
all_set P [] i x all p = tt
all_set P (y ∷ ys) zero x all p = (p, all.1)
all_set P (y ∷ ys) (suc i) x all p = (all.0, all_set P ys i x all.1 p)

pub if_some_at : {A : Type 0} (P : A → Type 0) (xs : List A) (i : ℕ) → AllByRecursion P xs
    → IfSome (slice_get xs i) P
if_some_at P [] i all = tt
if_some_at P (y ∷ ys) zero all = all.0
if_some_at P (y ∷ ys) (suc i) all = if_some_at P ys i all.1

pub all_map : {A : Type 0} (P Q : A → Type 0) (xs : List A) → ((x : A) → P x → Q x) → AllByRecursion P xs
    → AllByRecursion Q xs
all_map P Q [] f all = tt
all_map P Q (x ∷ xs) f all = (f x all.0, all_map P Q xs f all.1)

-- ---- a call on one lane

pub same_seat : (lane : ℕ) (old new : SeatState) (P : Knowledge → Knowledge → Type 0) → ChangesAt lane old new P
    → IsSameSeat old new
same_seat lane old new P c = (ap (λ (s : SeatState). s.client) c.becomes, ap (λ (s : SeatState). s.turns) c.becomes)

pub seat_then : (a b c : SeatState) → IsSameSeat a b → IsSameSeat b c → IsSameSeat a c
seat_then a b c one two = (two.0 ∙ one.0, two.1 ∙ one.1)

pub knows_now : (lane : ℕ) (old new : SeatState) (P : Knowledge → Knowledge → Type 0) (c : ChangesAt lane old new P)
    → new.knows ≡ set old.knows lane c.after
knows_now lane old new P c = ap (λ (s : SeatState). s.knows) c.becomes

-- the seat knows as many lanes as before
pub as_many : (lane : ℕ) (old new : SeatState) (P : Knowledge → Knowledge → Type 0) → ChangesAt lane old new P
    → length new.knows ≡ length old.knows
as_many lane old new P c =
    ap (λ (ks : List Knowledge). length ks) (knows_now lane old new P c) ∙ length-set old.knows lane c.after

-- so of each lane, where the call kept it on its own
pub all_after : (Q : Knowledge → Type 0) (lane : ℕ) (old new : SeatState) (P : Knowledge → Knowledge → Type 0)
    → ChangesAt lane old new P → ((k after : Knowledge) → P k after → Q k → Q after) → AllByRecursion Q old.knows
    → AllByRecursion Q new.knows
all_after Q lane old new P c keeps all =
    subst (AllByRecursion Q) (sym (knows_now lane old new P c)) (all_set Q old.knows lane c.after all
    (keeps c.before c.after c.relation (all_at Q old.knows lane c.before all c.there)))

-- the same call, said in another way
pub said : (lane : ℕ) (old new : SeatState) (P Q : Knowledge → Knowledge → Type 0) → ChangesAt lane old new P
    → ((k after : Knowledge) → slice_get old.knows lane ≡ Some k → P k after → Q k after) → ChangesAt lane old new Q
said lane old new P Q c f = record {
  before = c.before;
  after = c.after;
  there = c.there;
  becomes = c.becomes;
  relation = f c.before c.after c.there c.relation;
}

-- two calls on one lane, as one
pub both : (lane : ℕ) (old mid new : SeatState) (P Q R : Knowledge → Knowledge → Type 0) → ChangesAt lane old mid P
    → ChangesAt lane mid new Q → ((k between after : Knowledge) → slice_get old.knows lane ≡ Some k → P k between
    → Q between after → R k after) → ChangesAt lane old new R
both lane old mid new P Q R c d f =
    let known = knows_now lane old mid P c in
    let same : c.after ≡ d.before = same_Some c.after d.before
    (sym (get_set_same old.knows lane c.after c.before c.there) ∙ ((λ i. slice_get (sym known i) lane) ∙ d.there)) in
    record {
      before = c.before;
      after = d.after;
      there = c.there;
      becomes = d.becomes ∙ (λ i. record (c.becomes i) { knows = set (known i) lane d.after })
          ∙ ap (λ (ks : List Knowledge). record old { knows = ks }) (set-set old.knows lane c.after d.after);
      relation = f c.before c.after d.after c.there c.relation
          (subst (λ (k : Knowledge). Q k d.after) (sym same) d.relation);
    }

-- what became of the seat's pass on some lane
pub record At (lane on : ℕ) (new : SeatState) (P : Knowledge → Knowledge → Type 0) (k : Knowledge) : Type 0 where
  pub after : Knowledge
  pub there : slice_get new.knows on ≡ Some after
  pub went : ((lane ≡ on) × P k after) ⊎ (((lane == on) ≡ false) × (after ≡ k))

pub at_lane : (lane on : ℕ) (old new : SeatState) (P : Knowledge → Knowledge → Type 0) (k : Knowledge)
    → ChangesAt lane old new P → slice_get old.knows on ≡ Some k → At lane on new P k
at_lane lane on old new P k c here =
    let known = knows_now lane old new P c in
    elim (lane == on) as (λ b. (lane == on) ≡ b → At lane on new P k) [
      | true ↦ λ e.
          let same = eqb-true lane on e in
          let k_is : c.before ≡ k = same_Some c.before k (sym c.there ∙ (ap (slice_get old.knows) same ∙ here)) in
          record {
            after = c.after;
            there = (λ i. slice_get (known i) (sym same i))
                ∙ get_set_same old.knows lane c.after c.before c.there;
            went = inl (same, subst (λ (z : Knowledge). P z c.after) k_is c.relation);
          }
      | false ↦ λ e. record {
        after = k;
        there = (λ i. slice_get (known i) on)
            ∙ (get_set_other old.knows lane on c.after (eqb-false lane on e) ∙ here);
        went = inr (e, refl);
      }
    ] refl

-- what is known of that lane afterwards
pub if_some_after : (Q : Knowledge → Type 0) (lane : ℕ) (old new : SeatState) (P : Knowledge → Knowledge → Type 0)
    → ChangesAt lane old new P
    → ((k after : Knowledge) → slice_get old.knows lane ≡ Some k → P k after → Q after)
    → IfSome (slice_get new.knows lane) Q
if_some_after Q lane old new P c f =
    let there : slice_get new.knows lane ≡ Some c.after =
    ap (λ (ks : List Knowledge). slice_get ks lane) (knows_now lane old new P c)
    ∙ get_set_same old.knows lane c.after c.before c.there in
    subst (λ o. IfSome o Q) (sym there) (f c.before c.after c.there c.relation)
