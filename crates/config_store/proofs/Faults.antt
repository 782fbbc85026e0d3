-- The first of some faults, in lists that are put together.
use Rattle.std.proofs.Common.{◌≡◌, List, [], ◌∷◌, ◌++◌, Result, Ok, Err, subst, sym}
use Rattle.std.specs.Result.{IfErr, IsErrAnd}
use Rattle.node_tree.specs.Named.{Name}
use Rattle.config_store.specs.declared.refusal.StoreWhy.{StoreWhy}
use Rattle.config_store.specs.declared.refusal.StoreRefusal.{StoreRefusal}
use Rattle.config_store.specs.declared.refusal.StoreRefusal.TheVariants.{At, NoMemory}
use Rattle.config_store.specs.Refusals.{IsAt, TellsFirst}
use Rattle.config_store.specs.States.{StoreFault}

-- what is first in the front is first in the whole
pub front_fault : (xs ys : List StoreFault) (r : StoreRefusal) → TellsFirst xs r → TellsFirst (xs ++ ys) r
front_fault xs ys NoMemory h = tt
front_fault [] ys (At board name why) h = cc
front_fault (x ∷ xs) ys (At board name why) h = h

-- where the front has no fault, what is first behind it is first in the whole
pub later_fault : (xs ys : List StoreFault) (r : StoreRefusal) → xs ≡ [] → TellsFirst ys r → TellsFirst (xs ++ ys) r
later_fault xs ys r none h = rw none h

-- a refusal that tells a fault tells the first of those that begin with it
pub tells : (board name : Name) (why : StoreWhy) (rest : List StoreFault) (r : StoreRefusal) → IsAt board name why r
    → TellsFirst ((board, name, why) ∷ rest) r
tells board name why rest NoMemory h = tt
tells board name why rest (At b n w) h = cc

-- an error that is handed on tells what it told
pub handed_on : {X : Type 0} (P : StoreRefusal → Type 0) (r : Result X StoreRefusal) (refusal : StoreRefusal)
    → IsErrAnd r (λ handed. handed ≡ refusal) → P refusal → IfErr r P
handed_on P (Ok x) refusal is told = tt
handed_on P (Err handed) refusal is told = subst P (sym is) told
