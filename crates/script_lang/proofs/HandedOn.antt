-- An error that is handed on tells what it told.
use Rattle.std.proofs.Common.{◌≡◌, Result, Ok, Err, sym, subst}
use Rattle.std.specs.Prelude.{IfErr, IsErrAnd}

pub handed_on : {X E : Type 0} (P : E → Type 0) (r : Result X E) (error : E) → IsErrAnd r (λ handed. handed ≡ error)
    → P error → IfErr r P
handed_on P (Ok x) error is told = tt
handed_on P (Err handed) error is told = subst P (sym is) told
