-- What packing asks of the operations of steps. Profile.
use Rattle.std.specs.Prelude.{◌≡◌, ◌⊎◌, ℕ, ◌+◌, ◌^◌, ◌≤◌, List, [], ◌∷◌, length, sum_by, Option, Some, None}
use Rattle.std.specs.List.{filter_map, flat_map}
use Rattle.mtu_packer.specs.Cutting.{CanBeCut, cut_pieces}
use Rattle.mtu_packer.specs.declared.packing.TheConstants.{MIN_PAYLOAD}
use Rattle.transaction_codec.specs.declared.request.Op.{Op}
use Rattle.transaction_codec.specs.Request.{op_count}
use Rattle.script_steps.specs.declared.operation.Step.{Step}
use Rattle.script_steps.specs.declared.operation.Step.TheVariants.{Do, Denied, Dispatch}
use Rattle.script_steps.specs.declared.limits.TheConstants.{MAX_OPERATIONS, MAX_BLOCK_WORDS}

-- An operation can be cut into pieces of any packets: a block has a word at least, and ends within 32 bits.
abbrev pub CanBePacked : Step → Type 0
CanBePacked (Do op) = CanBeCut op.op
CanBePacked (Denied rule op) = Unit {0}
CanBePacked Dispatch = Unit {0}

abbrev pub operation_of : Step → Option Op
operation_of (Do op) = Some op.op
operation_of (Denied rule op) = None
operation_of Dispatch = None

-- the operations of steps, in order
abbrev pub operations : List Step → List Op
operations steps = filter_map operation_of steps

-- the operations of all clients
abbrev pub all_operations : List (List Step) → List Op
all_operations scripts = flat_map operations scripts

-- All clients together have no more operations than a session may have. Each has one word, or is a block, and blocks
-- have no more words than a session may have.
pub record AreWithinLimits (scripts : List (List Step)) : Type 0 where
  pub operations' : length (all_operations scripts) ≤ MAX_OPERATIONS
  pub words' : sum_by op_count (all_operations scripts) ≤ MAX_OPERATIONS + MAX_BLOCK_WORDS

-- some items of a list, in its order
abbrev pub IsSelection : {T : Type 0} → List T → List T → Type 0
IsSelection [] xs = Unit {0}
IsSelection (y ∷ ys) [] = ⊥
IsSelection (y ∷ ys) (x ∷ xs) = ((y ≡ x) × IsSelection ys xs) ⊎ IsSelection (y ∷ ys) xs

-- The operations of a client, or any of them, are cut into no more pieces than packing takes, whatever packets their
-- board takes.
abbrev pub HaveFewPieces : List Step → Type 0
HaveFewPieces steps =
    (ops : List Op) (payload : ℕ) → IsSelection ops (operations steps) → MIN_PAYLOAD ≤ payload
    → length (flat_map (cut_pieces payload) ops) ≤ 2 ^ 31
