-- What is said of results.
use Rattle.std.specs.Prelude.{◌≡◌, Err, IfErr, Ok, OnErr, OnOk, Result}
use Rattle.std.proofs.Common.{subst, sym}

-- what follows from what holds where all went well
pub on_ok_follows : {T E P Q : Type 0} (r : Result T E) → OnOk r P → (P → Q) → OnOk r Q
on_ok_follows (Ok x) p f = f p
on_ok_follows (Err e) p f = tt

-- what follows from what holds at the only error
pub at_only_error : {T E P : Type 0} (Q : E → Type 0) (only : E) (r : Result T E) → OnErr r P
    → IfErr r (λ e. e ≡ only) → (P → Q only) → IfErr r Q
at_only_error Q only (Ok x) p is f = tt
at_only_error Q only (Err e) p is f = subst Q (sym is) (f p)

-- what follows from what holds at an error
pub on_err_follows : {T E P Q : Type 0} (r : Result T E) → OnErr r P → (P → Q) → OnErr r Q
on_err_follows (Ok x) p f = tt
on_err_follows (Err e) p f = f p

-- what follows from what holds of an error
pub if_err_follows : {T E : Type 0} (P Q : E → Type 0) (r : Result T E) → IfErr r P → ((e : E) → P e → Q e) → IfErr r Q
if_err_follows P Q (Ok x) p f = tt
if_err_follows P Q (Err e) p f = f e p
