-- The bodies that clients ask of a board are few.
use Rattle.std.proofs.Common.{◌≡◌, ℕ, ◌+◌, ◌*◌, ◌^◌, ◌≤◌, ◌==◌, length, map, List, [], ◌∷◌, ◌++◌, refl, ap, inl, inr}
use Rattle.std.proofs.Common.{arith, length-append}
use Rattle.std.specs.List.{AllByRecursion, flat_map, fold}
use Rattle.std.proofs.lemmas.Bool.{cases_Bool}
use Rattle.std.proofs.lemmas.Grind.{flat_map-append}
use Rattle.std.proofs.lemmas.List.{length-map}
use Rattle.transaction_codec.specs.declared.request.Op.{Op}
use Rattle.mtu_packer.specs.Cutting.{cut_pieces}
use Rattle.mtu_packer.specs.Packing.{body_words, parts_from, parts_in, parts_of, takes}
use Rattle.mtu_packer.specs.Packed.{packed_contents}
use Rattle.script_steps.specs.declared.operation.RegOp.{RegOp}
use Rattle.script_steps.specs.declared.operation.Step.{Step}
use Rattle.script_steps.specs.declared.operation.Step.TheVariants.{Do, Denied, Dispatch}
use Rattle.script_steps.specs.Packing.{HaveFewPieces, IsSelection}
use Rattle.script_steps.specs.Packing as script
use Rattle.script_plans.specs.declared.greeting.Greeting.TheVariants.{Live}
use Rattle.script_plans.specs.declared.board_run.ClientPart.{ClientPart}
use Rattle.script_plans.specs.Plan.{ClientBodies, dispatches, no_bodies, operations, ops_on, planned_on, plans_on}
use Rattle.script_plans.specs.Plan.{with_dispatch}
use Rattle.script_plans.specs.Runs.{outcomes_in}
use Rattle.board_history.proofs.Asking.{heads}
use Rattle.board_history.proofs.Asking.{ops_dispatched}

-- ---- no more bodies than pieces

dealt : (payload : ℕ) (part pieces : List Op) → length (parts_from payload part pieces) ≤ 1 + length pieces
dealt payload part [] = omega arith
dealt payload part (op ∷ pieces) =
    elim (cases_Bool (takes payload part op)) [
      | inl room ↦ rw room (omega (arith, dealt payload (part ++ op ∷ []) pieces))
      | inr full ↦ rw full (omega (arith, dealt payload (op ∷ []) pieces))
    ]

few_parts : (payload : ℕ) (pieces : List Op) → length (parts_in payload pieces) ≤ length pieces
few_parts payload [] = omega arith
few_parts payload (op ∷ pieces) = omega (arith, dealt payload (op ∷ []) pieces)

few_from : (payload board : ℕ) (ds : List (List RegOp)) (all : ClientBodies)
    → length (fold with_dispatch all (map (λ dispatch. packed_contents payload (ops_on board dispatch)) ds)).bodies
    ≤ length all.bodies + length (flat_map (cut_pieces payload) (flat_map (ops_on board) ds))
few_from payload board [] all = omega arith
few_from payload board (d ∷ ds) all =
    let here = packed_contents payload (ops_on board d) in
    omega (
      arith,
      few_from payload board ds (with_dispatch all here),
      length-append all.bodies here.bodies,
      length-map (parts_of payload (ops_on board d)) body_words,
      few_parts payload (flat_map (cut_pieces payload) (ops_on board d)),
      ap length (flat_map-append (cut_pieces payload) (ops_on board d) (flat_map (ops_on board) ds)),
      length-append (flat_map (cut_pieces payload) (ops_on board d)) (flat_map (cut_pieces payload) (flat_map (ops_on board) ds)),
    )

-- ---- those on one board are some of all

still_selected : (ys xs : List Op) (x : Op) → IsSelection ys xs → IsSelection ys (x ∷ xs)
still_selected [] xs x is = tt
still_selected (y ∷ ys) xs x is = inr is

selected : (board : ℕ) (steps : List Step) → IsSelection (ops_on board (operations steps)) (script.operations steps)
selected board [] = tt
selected board (Do op ∷ steps) =
    elim (cases_Bool (op.board == board)) [
      | inl here ↦ rw here (inl (refl, selected board steps))
      | inr away ↦ rw away (still_selected (ops_on board (operations steps)) (script.operations steps) op.op
          (selected board steps))
    ]
selected board (Denied rule op ∷ steps) = selected board steps
selected board (Dispatch ∷ steps) = selected board steps

client_few : (payload board : ℕ) (steps : List Step) → 16 ≤ payload → HaveFewPieces steps
    → length (planned_on board (Live payload) steps).bodies ≤ 2 ^ 31
client_few payload board steps low few =
    omega (
      arith,
      few_from payload board (dispatches steps) no_bodies,
      ap (λ (xs : List Op). length (flat_map (cut_pieces payload) xs)) (ops_dispatched board steps),
      few (ops_on board (operations steps)) payload (selected board steps) low,
    )

-- ---- what became of them

pub few_outcomes : (payload board : ℕ) (scripts : List (List Step)) (parts : List ClientPart) → 16 ≤ payload
    → AllByRecursion HaveFewPieces scripts
    → map (λ (p : ClientPart). p.planned) parts ≡ plans_on board (Live payload) scripts
    → AllByRecursion (λ (p : ClientPart). length p.outcomes ≡ length p.planned.bodies) parts
    → length (outcomes_in parts) ≤ 2 ^ 31 * length scripts
few_outcomes payload board [] [] low few plans long = omega arith
few_outcomes payload board [] (p ∷ parts) low few plans long = absurd cc
few_outcomes payload board (steps ∷ scripts) [] low few plans long = omega arith
few_outcomes payload board (steps ∷ scripts) (p ∷ parts) low few plans long =
    let both = heads p.planned (planned_on board (Live payload) steps) (map (λ (q : ClientPart). q.planned) parts)
    (plans_on board (Live payload) scripts) plans in
    omega (
      arith,
      length-append p.outcomes (outcomes_in parts),
      long.0,
      ap (λ (b : ClientBodies). length b.bodies) both.head,
      client_few payload board steps low few.0,
      few_outcomes payload board scripts parts low few.1 both.tail long.1,
    )
