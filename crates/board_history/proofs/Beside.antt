-- The entries of a client beside its Plans: look-ups of other entries see these alone.
use Rattle.std.proofs.Common.{◌≡◌, ℕ, ◌+◌, cond, ◌==◌, ◌&&◌, List, [], ◌∷◌, ◌++◌, Option, Some, None, refl, ap, ◌∙◌}
use Rattle.std.proofs.Common.{if◌then◌else◌}
use Rattle.std.specs.Prelude.{not, is_some}
use Rattle.std.specs.List.{AllByRecursion}
use Rattle.std.specs.Option.{option_or}
use Rattle.std.proofs.lemmas.List.Elements.{filter-append}
use Rattle.lane_record.specs.declared.item.Item.{Item}
use Rattle.lane_record.specs.declared.item.What.{What}
use Rattle.lane_record.specs.declared.item.What.TheVariants.{Plan, Seal, Ask, Took}
use Rattle.lane_record.specs.Items.{and_number, told_by_first, give_ups, give_ups_in, is_of, numbers, plan_in}
use Rattle.lane_record.specs.Dispatches.{plans_from}
use Rattle.board_history.specs.Records.{beside_plans, planned_in}
use Rattle.board_history.proofs.Lookups.{IsNot, not_here, no_number}

pub all_beside : (P : Item → Type 0) (xs : List Item) → AllByRecursion P xs → AllByRecursion P (beside_plans xs)
all_beside P [] all = tt
all_beside P (x ∷ xs) all = elim (planned_in x) as
    (λ o. AllByRecursion P (cond (not (is_some o)) (x ∷ beside_plans xs) (beside_plans xs))) [
      | None ↦ (all.0, all_beside P xs all.1)
      | Some body ↦ all_beside P xs all.1
    ]

pub beside_append : (xs ys : List Item) → beside_plans (xs ++ ys) ≡ beside_plans xs ++ beside_plans ys
beside_append xs ys = filter-append (λ (x : Item). not (is_some (planned_in x))) xs ys

pub none_of_plans : (client seq : ℕ) (bodies : List (List ℕ)) (rest : List Item)
    → beside_plans (plans_from client seq bodies ++ rest) ≡ beside_plans rest
none_of_plans client seq [] rest = refl
none_of_plans client seq (b ∷ bs) rest = none_of_plans client (seq + 1) bs rest

kept_first : (o : Option (List ℕ)) (x : Item) (xs ys : List Item) → o ≡ None → xs ≡ ys
    → cond (not (is_some o)) (x ∷ xs) xs ≡ x ∷ ys
kept_first None x xs ys none same = ap (λ (zs : List Item). x ∷ zs) same
kept_first (Some body) x xs ys none same = absurd cc

-- where there are no Plans they are all
pub beside_none : (xs : List Item) → AllByRecursion (IsNot plan_in) xs → beside_plans xs ≡ xs
beside_none [] all = refl
beside_none (x ∷ xs) all = kept_first (planned_in x) x (beside_plans xs) xs all.0 (beside_none xs all.1)

-- ---- what is told by other entries

-- a Plan tells nothing of another kind
plan_alone : {A : Type 0} (kind : What → Option A) (what : What) (body : List ℕ)
    → ((b : List ℕ) → kind (Plan b) ≡ None) → plan_in what ≡ Some body → kind what ≡ None
plan_alone kind (Plan b) body none e = none b
plan_alone kind Seal body none e = absurd cc
plan_alone kind (Ask n) body none e = absurd cc
plan_alone kind (Took o n) body none e = absurd cc

pub found_beside : {A : Type 0} (kind : What → Option A) (client seq : ℕ) (xs : List Item)
    → ((b : List ℕ) → kind (Plan b) ≡ None) → told_by_first kind client seq xs ≡ told_by_first kind client seq (beside_plans xs)
found_beside kind client seq [] none = refl
found_beside kind client seq (x ∷ xs) none =
    let later = found_beside kind client seq xs none in
    elim (planned_in x) as (λ o. planned_in x ≡ o
    → told_by_first kind client seq (x ∷ xs)
    ≡ told_by_first kind client seq (cond (not (is_some o)) (x ∷ beside_plans xs) (beside_plans xs))) [
      | None ↦ λ _. ap (option_or (if is_of client seq x then kind x.what else None)) later
      | Some body ↦ λ e.
          not_here (is_of client seq x) (kind x.what) (told_by_first kind client seq xs)
          (plan_alone kind x.what body none e) ∙ later
    ] refl

pub numbers_beside : {A : Type 0} (kind : What → Option A) (client : ℕ) (xs : List Item)
    → ((b : List ℕ) → kind (Plan b) ≡ None) → numbers kind client xs ≡ numbers kind client (beside_plans xs)
numbers_beside kind client [] none = refl
numbers_beside kind client (x ∷ xs) none =
    let later = numbers_beside kind client xs none in
    elim (planned_in x) as (λ o. planned_in x ≡ o
    → numbers kind client (x ∷ xs)
    ≡ numbers kind client (cond (not (is_some o)) (x ∷ beside_plans xs) (beside_plans xs))) [
      | None ↦ λ _. ap (λ (ns : List ℕ). if (x.client == client) && is_some (kind x.what) then x.seq ∷ ns else ns)
          later
      | Some body ↦ λ e.
          no_number (x.client == client) (kind x.what) x.seq (numbers kind client xs)
          (plan_alone kind x.what body none e) ∙ later
    ] refl

pub give_ups_beside : (xs : List Item) → give_ups xs ≡ give_ups (beside_plans xs)
give_ups_beside [] = refl
give_ups_beside (x ∷ xs) =
    let later = give_ups_beside xs in
    elim (planned_in x) as (λ o. planned_in x ≡ o
    → give_ups (x ∷ xs) ≡ give_ups (cond (not (is_some o)) (x ∷ beside_plans xs) (beside_plans xs))) [
      | None ↦ λ _. ap (and_number (give_ups_in x.what)) later
      | Some body ↦ λ e.
          ap (λ (n : Option ℕ). and_number n (give_ups xs)) (plan_alone give_ups_in x.what body (λ b. refl) e) ∙ later
    ] refl
