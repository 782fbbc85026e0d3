-- What scripts ask that can be executed is packed, dispatch by dispatch.
use Rattle.std.proofs.Common.{ℕ, ◌≤◌, ◌==◌, List, [], ◌∷◌, inl, inr}
use Rattle.std.specs.List.{AllByRecursion}
use Rattle.std.proofs.lemmas.Bool.{cases_Bool}
use Rattle.transaction_codec.specs.declared.request.Op.{Op}
use Rattle.mtu_packer.specs.Cutting.{CanBeCut, HasWords}
use Rattle.mtu_packer.specs.Packed.{IsPacked, packed_contents}
use Rattle.script_steps.specs.Executable.{CanBeAsked, AreExecutable}
use Rattle.script_steps.specs.declared.operation.RegOp.{RegOp}
use Rattle.script_steps.specs.declared.operation.Step.{Step}
use Rattle.script_steps.specs.declared.operation.Step.TheVariants.{Do, Denied, Dispatch}
use Rattle.script_plans.specs.Plan.{into_next_dispatch, dispatches, ops_on}

abbrev pub CanAllBeAsked : List RegOp → Type 0
CanAllBeAsked ops = AllByRecursion CanBeAsked ops

begun_asked : (op : RegOp) (ds : List (List RegOp)) → CanBeAsked op → AllByRecursion CanAllBeAsked ds
    → AllByRecursion CanAllBeAsked (into_next_dispatch op ds)
begun_asked op [] can all = ((can, tt), tt)
begun_asked op (d ∷ ds) can all = ((can, all.0), all.1)

pub dispatched : (steps : List Step) → AreExecutable steps → AllByRecursion CanAllBeAsked (dispatches steps)
dispatched [] can = (tt, tt)
dispatched (Do op ∷ steps) can = begun_asked op (dispatches steps) can.0 (dispatched steps can.1)
dispatched (Denied rule op ∷ steps) can = dispatched steps can.1
dispatched (Dispatch ∷ steps) can = (tt, dispatched steps can.1)

ops_all : (P : Op → Type 0) (board : ℕ) (ops : List RegOp) → ((op : RegOp) → CanBeAsked op → P op.op)
    → CanAllBeAsked ops → AllByRecursion P (ops_on board ops)
ops_all P board [] each all = tt
ops_all P board (op ∷ ops) each all =
    elim (cases_Bool (op.board == board)) [
      | inl here ↦ rw here (each op all.0, ops_all P board ops each all.1)
      | inr away ↦ rw away (ops_all P board ops each all.1)
    ]

-- operations that can be packed, and have words of 32 bits, are packed
abbrev pub PacksWords : Type 0
PacksWords =
    (ops : List Op) (payload : ℕ) → 16 ≤ payload → payload ≤ 2243 → AllByRecursion CanBeCut ops
    → AllByRecursion HasWords ops → IsPacked ops payload (packed_contents payload ops)

abbrev pub AreDispatchesPacked : ℕ → ℕ → List (List RegOp) → Type 0
AreDispatchesPacked payload board ds =
    AllByRecursion (λ dispatch. IsPacked (ops_on board dispatch) payload (packed_contents payload (ops_on board dispatch))) ds

pub dispatches_packed : PacksWords → (payload board : ℕ) (ds : List (List RegOp)) → 16 ≤ payload → payload ≤ 2243
    → AllByRecursion CanAllBeAsked ds → AreDispatchesPacked payload board ds
dispatches_packed law payload board [] low high all = tt
dispatches_packed law payload board (d ∷ ds) low high all = (
  law (ops_on board d) payload low high (ops_all CanBeCut board d (λ op can. can.cut') all.0)
      (ops_all HasWords board d (λ op can. can.words') all.0),
  dispatches_packed law payload board ds low high all.1,
)
