-- A refusal that is told for one reason is told for a weaker one.
use Rattle.std.proofs.Common.{◌≡◌, Result, Ok, Err, IfErr, sym, subst}
use Rattle.std.specs.Prelude.{IsErrAnd}
use Rattle.std.proofs.lemmas.Result.{IfErr-weaker}
use Rattle.session_input.specs.declared.refusal.Refusal.{Refusal}
use Rattle.session_input.specs.declared.refusal.Unread.{Unread}
use Rattle.session_input.specs.declared.refusal.Unread.TheVariants as unread
use Rattle.session_input.specs.Deserved.{Tells}

pub weaker : (P Q : Refusal → Type 0) → ((r : Refusal) → P r → Q r) → (u : Unread) → Tells P u → Tells Q u
weaker P Q gives (unread.Refused refusal) told = gives refusal told
weaker P Q gives unread.NoMemory told = tt

pub told_by : {T : Type 0} (result : Result T Unread) (P Q : Refusal → Type 0) → ((r : Refusal) → P r → Q r)
    → IfErr result (Tells P) → IfErr result (Tells Q)
told_by result P Q gives told = IfErr-weaker result (Tells P) (Tells Q) (weaker P Q gives) told

-- an error that is handed on tells what it told
pub handed_on : {X : Type 0} (P : Unread → Type 0) (r : Result X Unread) (u : Unread)
    → IsErrAnd r (λ handed. handed ≡ u) → P u → IfErr r P
handed_on P (Ok x) u is told = tt
handed_on P (Err handed) u is told = subst P (sym is) told
