-- What a generated session asks of its board: one body for each operation, and all are alike.
use Rattle.std.proofs.Common.{◌≡◌, ℕ, zero, suc, ◌+◌, List, [], ◌∷◌, ◌++◌, length, refl, ap, ◌∙◌, arith, append_assoc}
use Rattle.std.proofs.Common.{length-append, None}
use Rattle.std.specs.List.{fold}
use Rattle.mtu_packer.specs.Packed.{Contents}
use Rattle.script_steps.specs.Rulings.{Asked, asked_operations}
use Rattle.script_plans.specs.declared.planned.PieceAt.{PieceAt}
use Rattle.script_plans.specs.Plan.{ClientBodies, with_dispatch, plan}
use Rattle.load_run.specs.Generated.{operation, steps_behind}

-- one transaction: an RMW sum of 1 at address 0
abbrev pub body : List ℕ
body = 0x2000015f ∷ 0 ∷ 1 ∷ []

-- the payload of an MTU of 1500 bytes
abbrev pub payload : ℕ
payload = 368

abbrev pub one_dispatch : Contents
one_dispatch = record { bodies = body ∷ []; pieces = (record { body = 0; index = 0 } ∷ []) ∷ [] }

abbrev pub no_dispatch : Contents
no_dispatch = record { bodies = []; pieces = [] }

-- ---- the plan of a client

abbrev pub bodies_of : ℕ → List (List ℕ)
bodies_of zero = []
bodies_of (suc n) = body ∷ bodies_of n

-- the whole of a body is one piece
abbrev pub whole : ℕ → List PieceAt
whole number = record { body = number; index = 0 } ∷ []

-- each operation has that piece of the next body
abbrev pub pieces_from : ℕ → ℕ → List (List PieceAt)
pieces_from first zero = []
pieces_from first (suc n) = whole first ∷ pieces_from (first + 1) n

abbrev pub planned_behind : ClientBodies → ℕ → ℕ → ClientBodies
planned_behind all before n = fold with_dispatch all (plan payload 0 (steps_behind before n))

abbrev pub one_later : ClientBodies → ClientBodies
one_later all = with_dispatch all one_dispatch

pub bodies-planned : (all : ClientBodies) (before n : ℕ)
    → (planned_behind all before n).bodies ≡ all.bodies ++ bodies_of n
bodies-planned all before zero = refl
bodies-planned all before (suc n) =
    bodies-planned (one_later all) (before + 1) n ∙ append_assoc all.bodies (body ∷ []) (bodies_of n)

pub pieces-planned : (all : ClientBodies) (before n : ℕ)
    → (planned_behind all before n).pieces ≡ all.pieces ++ pieces_from (length all.bodies) n
pieces-planned all before zero = refl
pieces-planned all before (suc n) =
    let next = length-append all.bodies (body ∷ []) in
    let here : length all.bodies + 0 ≡ length all.bodies = omega arith in
    pieces-planned (one_later all) (before + 1) n
    ∙ (ap (λ (first : ℕ). (all.pieces ++ whole (length all.bodies + 0) ∷ []) ++ pieces_from first n) next
    ∙ (ap (λ (b : ℕ). (all.pieces ++ whole b ∷ []) ++ pieces_from (length all.bodies + 1) n) here
    ∙ append_assoc all.pieces _ _))

-- ---- the operations of a client

-- no rule denies one
abbrev pub ask : ℕ → Asked
ask before = record { op = operation before; denied = None }

abbrev pub asks_behind : ℕ → ℕ → List Asked
asks_behind before zero = []
asks_behind before (suc n) = ask before ∷ asks_behind (before + 1) n

pub asks-are : (before n : ℕ) → asked_operations (steps_behind before n) ≡ asks_behind before n
asks-are before zero = refl
asks-are before (suc n) = ap (λ (asks : List Asked). ask before ∷ asks) (asks-are (before + 1) n)

pub bodies-length : (n : ℕ) → length (bodies_of n) ≡ n
bodies-length zero = refl
bodies-length (suc n) = ap suc (bodies-length n)
