-- Few words are few pieces.
use Rattle.std.proofs.Common.{◌≡◌, ℕ, ◌≤◌, ◌^◌, length, sum_by, List, [], ◌∷◌, ap, inl, inr, arith}
use Rattle.std.specs.List.{flat_map}
use Rattle.std.proofs.lemmas.List.Sums.{sum_by-cons}
use Rattle.transaction_codec.specs.declared.request.Op.{Op}
use Rattle.transaction_codec.specs.Request.{op_count}
use Rattle.mtu_packer.specs.Cutting.{cut_pieces}
use Rattle.mtu_packer.specs.declared.packing.TheConstants.{MIN_PAYLOAD}
use Rattle.script_steps.specs.declared.operation.Step.{Step}
use Rattle.script_steps.specs.Packing.{operations, IsSelection, HaveFewPieces}

-- a selection has no more words than all
selected_words : (ops all : List Op) → IsSelection ops all → sum_by op_count ops ≤ sum_by op_count all
selected_words [] all is = omega arith
selected_words (op ∷ ops) [] is = absurd is
selected_words (op ∷ ops) (first ∷ all) (inl (same, is)) =
    let count : op_count op ≡ op_count first = ap op_count same in
    omega (arith, sum_by-cons op_count op ops, sum_by-cons op_count first all, selected_words ops all is)
selected_words (op ∷ ops) (first ∷ all) (inr is) =
    omega (arith, sum_by-cons op_count first all, selected_words (op ∷ ops) all is)

-- what mtu_packer promises
abbrev pub NoMorePieces : Type 0
NoMorePieces = (ops : List Op) (payload : ℕ) → MIN_PAYLOAD ≤ payload
    → length (flat_map (cut_pieces payload) ops) ≤ sum_by op_count ops

pub few_pieces : NoMorePieces → (steps : List Step) → sum_by op_count (operations steps) ≤ 2 ^ 31 → HaveFewPieces steps
few_pieces law steps few ops payload is low =
    omega (arith, law ops payload low, selected_words ops (operations steps) is)
