-- What holds of each element, through appending, flattening and repeating.
use Rattle.std.proofs.Common.{ℕ, zero, suc, List, [], ◌∷◌, ◌++◌, replicate}
use Rattle.std.specs.List.{AllByRecursion, flat_map}

pub AllByRecursion-append : {T : Type 0} (P : T → Type 0) (xs ys : List T) → AllByRecursion P xs → AllByRecursion P ys
    → AllByRecursion P (xs ++ ys)
AllByRecursion-append P [] ys some more = more
AllByRecursion-append P (x ∷ xs) ys some more = (some.0, AllByRecursion-append P xs ys some.1 more)

pub AllByRecursion-replicate : {T : Type 0} (P : T → Type 0) (n : ℕ) (x : T) → P x → AllByRecursion P (replicate n x)
AllByRecursion-replicate P zero x is = tt
AllByRecursion-replicate P (suc n) x is = (is, AllByRecursion-replicate P n x is)

pub front_of_all : {T : Type 0} (P : T → Type 0) (xs ys : List T) → AllByRecursion P (xs ++ ys) → AllByRecursion P xs
front_of_all P [] ys all = tt
front_of_all P (x ∷ xs) ys all = (all.0, front_of_all P xs ys all.1)

pub back_of_all : {T : Type 0} (P : T → Type 0) (xs ys : List T) → AllByRecursion P (xs ++ ys) → AllByRecursion P ys
back_of_all P [] ys all = all
back_of_all P (x ∷ xs) ys all = back_of_all P xs ys all.1

-- what holds of each element of lists joined holds of each element of each
pub all_of_each : {T : Type 0} (P : T → Type 0) (lists : List (List T)) → AllByRecursion P (flat_map (λ xs. xs) lists)
    → AllByRecursion (AllByRecursion P) lists
all_of_each P [] all = tt
all_of_each P (xs ∷ lists) all = (
  front_of_all P xs (flat_map (λ ys. ys) lists) all,
  all_of_each P lists
      (back_of_all P xs (flat_map (λ ys. ys) lists) all),
)

-- what follows from what holds of each element holds of each
pub all-map : {T : Type 0} (P Q : T → Type 0) (xs : List T) → ((x : T) → P x → Q x) → AllByRecursion P xs
    → AllByRecursion Q xs
all-map P Q [] f all = tt
all-map P Q (x ∷ xs) f all = (f x all.0, all-map P Q xs f all.1)
