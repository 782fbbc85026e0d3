-- A stretch of a client's steps is packed as all of them are.
use Rattle.std.proofs.Common.{zero, suc, ℕ, inl, inr, List, [], ◌∷◌, take, drop}
use Rattle.std.specs.List.{AllByRecursion}
use Rattle.transaction_codec.specs.declared.request.Op.{Op}
use Rattle.script_steps.specs.declared.operation.Step.{Step}
use Rattle.script_steps.specs.declared.operation.Step.TheVariants.{Do, Denied, Dispatch}
use Rattle.script_steps.specs.Packing.{CanBePacked, HaveFewPieces, IsSelection, operations}

-- ---- each step can be packed

packed_front : (n : ℕ) (steps : List Step) → AllByRecursion CanBePacked steps → AllByRecursion CanBePacked (take n steps)
packed_front zero steps all = tt
packed_front (suc n) [] all = tt
packed_front (suc n) (step ∷ steps) all = (all.0, packed_front n steps all.1)

packed_rest : (n : ℕ) (steps : List Step) → AllByRecursion CanBePacked steps → AllByRecursion CanBePacked (drop n steps)
packed_rest zero steps all = all
packed_rest (suc n) [] all = tt
packed_rest (suc n) (step ∷ steps) all = packed_rest n steps all.1

pub packed : (count past : ℕ) (steps : List Step) → AllByRecursion CanBePacked steps
    → AllByRecursion CanBePacked (take count (drop past steps))
packed count past steps all = packed_front count (drop past steps) (packed_rest past steps all)

-- ---- what is selected of some is selected of all

later : (ops : List Op) (first : Op) (all : List Op) → IsSelection ops all → IsSelection ops (first ∷ all)
later [] first all is = tt
later (op ∷ ops) first all is = inr is

front : (n : ℕ) (steps : List Step) (ops : List Op) → IsSelection ops (operations (take n steps))
    → IsSelection ops (operations steps)
front zero steps [] is = tt
front zero steps (op ∷ ops) is = absurd is
front (suc n) [] ops is = is
front (suc n) (Do op ∷ steps) [] is = tt
front (suc n) (Do op ∷ steps) (first ∷ ops) (inl here) = inl (here.0, front n steps ops here.1)
front (suc n) (Do op ∷ steps) (first ∷ ops) (inr past) = inr (front n steps (first ∷ ops) past)
front (suc n) (Denied rule op ∷ steps) ops is = front n steps ops is
front (suc n) (Dispatch ∷ steps) ops is = front n steps ops is

rest : (n : ℕ) (steps : List Step) (ops : List Op) → IsSelection ops (operations (drop n steps))
    → IsSelection ops (operations steps)
rest zero steps ops is = is
rest (suc n) [] ops is = is
rest (suc n) (Do op ∷ steps) ops is = later ops op.op (operations steps) (rest n steps ops is)
rest (suc n) (Denied rule op ∷ steps) ops is = rest n steps ops is
rest (suc n) (Dispatch ∷ steps) ops is = rest n steps ops is

pub few : (count past : ℕ) (steps : List Step) → HaveFewPieces steps → HaveFewPieces (take count (drop past steps))
few count past steps all ops payload is low =
    all ops payload (rest past steps ops (front count (drop past steps) ops is)) low
