-- Lists side by side.
use Rattle.std.proofs.Common.{◌≡◌, ◌⊎◌, inl, inr, subst, sym, List, [], ◌∷◌, ◌++◌, length, ap, suc, refl}
use Rattle.std.specs.Prelude.{IfOk, IsOkAnd, OnErr, Result, Ok, Err}
use Rattle.std.specs.List.{AllByRecursion}
use Rattle.session_run.specs.Lanes.{AllFour, AllThree}

pub three_append : {A B C : Type 0} (holds : A → B → C → Type 0) (xs as' : List A) (ys bs : List B) (zs cs : List C)
    → AllThree holds xs ys zs → AllThree holds as' bs cs → AllThree holds (xs ++ as') (ys ++ bs) (zs ++ cs)
three_append holds [] as' [] bs [] cs front back = back
three_append holds [] as' [] bs (z ∷ zs) cs front back = absurd front
three_append holds [] as' (y ∷ ys) bs zs cs front back = absurd front
three_append holds (x ∷ xs) as' [] bs zs cs front back = absurd front
three_append holds (x ∷ xs) as' (y ∷ ys) bs [] cs front back = absurd front
three_append holds (x ∷ xs) as' (y ∷ ys) bs (z ∷ zs) cs front back =
    (front.0, three_append holds xs as' ys bs zs cs front.1 back)

pub four_append : {A B C D : Type 0} (holds : A → B → C → D → Type 0) (xs as' : List A) (ys bs : List B) (zs cs : List
    C)
    (ws ds : List D) → AllFour holds xs ys zs ws → AllFour holds as' bs cs ds
    → AllFour holds (xs ++ as') (ys ++ bs) (zs ++ cs) (ws ++ ds)
four_append holds [] as' [] bs [] cs [] ds front back = back
four_append holds [] as' [] bs [] cs (w ∷ ws) ds front back = absurd front
four_append holds [] as' [] bs (z ∷ zs) cs ws ds front back = absurd front
four_append holds [] as' (y ∷ ys) bs zs cs ws ds front back = absurd front
four_append holds (x ∷ xs) as' [] bs zs cs ws ds front back = absurd front
four_append holds (x ∷ xs) as' (y ∷ ys) bs [] cs ws ds front back = absurd front
four_append holds (x ∷ xs) as' (y ∷ ys) bs (z ∷ zs) cs [] ds front back = absurd front
four_append holds (x ∷ xs) as' (y ∷ ys) bs (z ∷ zs) cs (w ∷ ws) ds front back =
    (front.0, four_append holds xs as' ys bs zs cs ws ds front.1 back)

-- what holds of four holds of three where it follows
pub three_of_four : {A B C D : Type 0} (holds : A → B → C → D → Type 0) (then : A → B → C → Type 0)
    (xs : List A) (ys : List B) (zs : List C) (ws : List D)
    → ((x : A) (y : B) (z : C) (w : D) → holds x y z w → then x y z) → AllFour holds xs ys zs ws
    → AllThree then xs ys zs
three_of_four holds then [] [] [] [] leads all = tt
three_of_four holds then [] [] [] (w ∷ ws) leads all = absurd all
three_of_four holds then [] [] (z ∷ zs) ws leads all = absurd all
three_of_four holds then [] (y ∷ ys) zs ws leads all = absurd all
three_of_four holds then (x ∷ xs) [] zs ws leads all = absurd all
three_of_four holds then (x ∷ xs) (y ∷ ys) [] ws leads all = absurd all
three_of_four holds then (x ∷ xs) (y ∷ ys) (z ∷ zs) [] leads all = absurd all
three_of_four holds then (x ∷ xs) (y ∷ ys) (z ∷ zs) (w ∷ ws) leads all =
    (leads x y z w all.0, three_of_four holds then xs ys zs ws leads all.1)

-- and of the last one
pub last_of_four : {A B C D : Type 0} (holds : A → B → C → D → Type 0) (then : D → Type 0) (xs : List A) (ys : List B)
    (zs : List C) (ws : List D) → ((x : A) (y : B) (z : C) (w : D) → holds x y z w → then w) → AllFour holds xs ys zs ws
    → AllByRecursion then ws
last_of_four holds then [] [] [] [] leads all = tt
last_of_four holds then [] [] [] (w ∷ ws) leads all = absurd all
last_of_four holds then [] [] (z ∷ zs) ws leads all = absurd all
last_of_four holds then [] (y ∷ ys) zs ws leads all = absurd all
last_of_four holds then (x ∷ xs) [] zs ws leads all = absurd all
last_of_four holds then (x ∷ xs) (y ∷ ys) [] ws leads all = absurd all
last_of_four holds then (x ∷ xs) (y ∷ ys) (z ∷ zs) [] leads all = absurd all
last_of_four holds then (x ∷ xs) (y ∷ ys) (z ∷ zs) (w ∷ ws) leads all =
    (leads x y z w all.0, last_of_four holds then xs ys zs ws leads all.1)

pub four_ends : {A B C D : Type 0} (holds : A → B → C → D → Type 0) (xs : List A) (ys : List B) (zs : List C)
    (ws : List D) → AllFour holds xs ys zs ws → length xs ≡ length ws
four_ends holds [] [] [] [] all = refl
four_ends holds [] [] [] (w ∷ ws) all = absurd all
four_ends holds [] [] (z ∷ zs) ws all = absurd all
four_ends holds [] (y ∷ ys) zs ws all = absurd all
four_ends holds (x ∷ xs) [] zs ws all = absurd all
four_ends holds (x ∷ xs) (y ∷ ys) [] ws all = absurd all
four_ends holds (x ∷ xs) (y ∷ ys) (z ∷ zs) [] all = absurd all
four_ends holds (x ∷ xs) (y ∷ ys) (z ∷ zs) (w ∷ ws) all = ap suc (four_ends holds xs ys zs ws all.1)

pub four_long : {A B C D : Type 0} (holds : A → B → C → D → Type 0) (xs : List A) (ys : List B) (zs : List C)
    (ws : List D) → AllFour holds xs ys zs ws → length zs ≡ length ws
four_long holds [] [] [] [] all = refl
four_long holds [] [] [] (w ∷ ws) all = absurd all
four_long holds [] [] (z ∷ zs) ws all = absurd all
four_long holds [] (y ∷ ys) zs ws all = absurd all
four_long holds (x ∷ xs) [] zs ws all = absurd all
four_long holds (x ∷ xs) (y ∷ ys) [] ws all = absurd all
four_long holds (x ∷ xs) (y ∷ ys) (z ∷ zs) [] all = absurd all
four_long holds (x ∷ xs) (y ∷ ys) (z ∷ zs) (w ∷ ws) all = ap suc (four_long holds xs ys zs ws all.1)

-- what is so of both results
pub ok_then : {A B E F : Type 0} (one : Result A E) (other : Result B F) (Q : A → B → Type 0) (R : B → Type 0)
    (P : A → Type 0) → IfOk one (λ a. IsOkAnd other (Q a)) → IfOk other R → ((a : A) (b : B) → Q a b → R b → P a)
    → IfOk one P
ok_then (Ok a) (Ok b) Q R P both there leads = leads a b both there
ok_then (Ok a) (Err e) Q R P both there leads = absurd both
ok_then (Err e) other Q R P both there leads = tt

-- what is so of the items of a result is so of a list that has them, or that is empty where there is no result
pub items_or_none : {A E X : Type 0} (one : Result A E) (items : A → List X) (list : List X) (Q : List X → Type 0)
    → IfOk one (λ a. list ≡ items a) → OnErr one (list ≡ []) → IfOk one (λ a. Q (items a)) → (list ≡ []) ⊎ Q list
items_or_none (Ok a) items list Q there none so = inr (subst Q (sym there) so)
items_or_none (Err e) items list Q there none so = inl none
