-- The bodies that clients ask of one board are few and short.
use Rattle.std.proofs.Common.{◌≡◌, ℕ, ◌+◌, ◌*◌, ◌≤◌, ◌==◌, List, [], ◌∷◌, length, map, sum_by}
use Rattle.std.proofs.Common.{inl, inr, ap, refl, arith}
use Rattle.std.specs.List.{AllByRecursion, flat_map}
use Rattle.std.proofs.lemmas.Bool.{cases_Bool}
use Rattle.std.proofs.lemmas.List.Sums.{sum_by-append, sum_by-cons}
use Rattle.transaction_codec.specs.declared.request.Op.{Op}
use Rattle.transaction_codec.specs.Request.{op_count}
use Rattle.mtu_packer.specs.Packed.{Contents, IsPacked, packed_contents, words_with_answer}
use Rattle.script_steps.specs.Executable.{AreExecutable}
use Rattle.script_steps.specs.Packing.{all_operations}
use Rattle.script_steps.specs.Packing as script
use Rattle.script_steps.specs.declared.operation.RegOp.{RegOp}
use Rattle.script_steps.specs.declared.operation.Step.{Step}
use Rattle.script_steps.specs.declared.operation.Step.TheVariants.{Do, Denied, Dispatch}
use Rattle.script_plans.specs.declared.greeting.Greeting.TheVariants.{Live}
use Rattle.script_plans.specs.Plan.{all_bodies, into_next_dispatch, bodies_in, dispatches, ops_on, plan, planned_on, plans_on}
use Rattle.script_plans.proofs.DispatchLemmas.{bodies_are}
use Rattle.script_plans.proofs.PackedDispatches.{AreDispatchesPacked, PacksWords, dispatched, dispatches_packed}

-- ---- a measure of operations

module _ (measure : Op → ℕ) (board : ℕ) where
  -- of those on a board, of all dispatches
  abbrev on_board : List (List RegOp) → ℕ
  on_board ds = sum_by (λ dispatch. sum_by measure (ops_on board dispatch)) ds

  one_more : (op : RegOp) (d : List RegOp)
      → sum_by measure (ops_on board (op ∷ d)) ≤ measure op.op + sum_by measure (ops_on board d)
  one_more op d =
      elim (cases_Bool (op.board == board)) [
        | inl here ↦ rw here (omega (arith, sum_by-cons measure op.op (ops_on board d)))
        | inr away ↦ rw away (omega arith)
      ]

  begun_measure : (op : RegOp) (ds : List (List RegOp)) → on_board (into_next_dispatch op ds) ≤ measure op.op + on_board ds
  begun_measure op [] =
      omega (arith, one_more op [], sum_by-cons (λ dispatch. sum_by measure (ops_on board dispatch)) (op ∷ []) [])
  begun_measure op (d ∷ ds) =
      omega (
        arith,
        one_more op d,
        sum_by-cons (λ dispatch. sum_by measure (ops_on board dispatch)) (op ∷ d) ds,
        sum_by-cons (λ dispatch. sum_by measure (ops_on board dispatch)) d ds,
      )

  -- those on one board are some of all
  board_measure : (steps : List Step) → on_board (dispatches steps) ≤ sum_by measure (script.operations steps)
  board_measure [] = omega arith
  board_measure (Do op ∷ steps) =
      omega (
        arith,
        begun_measure op (dispatches steps),
        board_measure steps,
        sum_by-cons measure op.op (script.operations steps),
      )
  board_measure (Denied rule op ∷ steps) = board_measure steps
  board_measure (Dispatch ∷ steps) =
      omega (
        arith,
        board_measure steps,
        sum_by-cons (λ dispatch. sum_by measure (ops_on board dispatch)) [] (dispatches steps),
      )

-- ---- a measure of bodies

-- the bodies of each packing are measured by its operations
abbrev Measures : (List ℕ → ℕ) → (Op → ℕ) → Type 0
Measures size measure =
    (ops : List Op) (payload : ℕ) (contents : Contents) → 16 ≤ payload → IsPacked ops payload contents
    → sum_by size contents.bodies ≤ sum_by measure ops

module _ (packs : PacksWords) (size : List ℕ → ℕ) (measure : Op → ℕ) (law : Measures size measure) (payload board : ℕ)
    (low : 16 ≤ payload) (high : payload ≤ 2243)
  where
    abbrev packings : List (List RegOp) → List (List ℕ)
    packings ds = flat_map (λ bodies. bodies) (bodies_in (map (λ dispatch. packed_contents payload (ops_on board dispatch)) ds))

    by_dispatches : (ds : List (List RegOp)) → AreDispatchesPacked payload board ds
        → sum_by size (packings ds) ≤ on_board measure board ds
    by_dispatches [] packings_all = omega arith
    by_dispatches (d ∷ ds) packings_all =
        let here = packed_contents payload (ops_on board d) in
        omega (
          arith,
          law (ops_on board d) payload here low packings_all.0,
          by_dispatches ds packings_all.1,
          sum_by-append size here.bodies (packings ds),
          sum_by-cons (λ dispatch. sum_by measure (ops_on board dispatch)) d ds,
        )

    of_client : (steps : List Step) → AreExecutable steps
        → sum_by size (planned_on board (Live payload) steps).bodies ≤ sum_by measure (script.operations steps)
    of_client steps can =
        omega (
          arith,
          ap (sum_by size) (bodies_are (plan payload board steps)),
          by_dispatches (dispatches steps) (dispatches_packed packs payload board (dispatches steps) low high
              (dispatched steps can)),
          board_measure measure board steps,
        )

    pub of_clients : (scripts : List (List Step)) → AllByRecursion AreExecutable scripts
        → sum_by size (all_bodies (plans_on board (Live payload) scripts)) ≤ sum_by measure (all_operations scripts)
    of_clients [] can = omega arith
    of_clients (steps ∷ scripts) can =
        omega (
          arith,
          of_client steps can.0,
          of_clients scripts can.1,
          sum_by-append size (planned_on board (Live payload) steps).bodies
              (all_bodies (plans_on board (Live payload) scripts)),
          sum_by-append measure (script.operations steps) (all_operations scripts),
        )

-- ---- how many there are, and how many words they have

abbrev of_body : List ℕ → ℕ
of_body body = 13

abbrev with_last : Op → ℕ
with_last op = op_count op + 12

abbrev six_times : Op → ℕ
six_times op = 6 * op_count op

each_body : (bodies : List (List ℕ)) → sum_by of_body bodies ≡ 13 * length bodies
each_body [] = refl
each_body (body ∷ bodies) = omega (arith, each_body bodies, sum_by-cons of_body body bodies)

each_operation : (ops : List Op) → sum_by with_last ops ≡ sum_by op_count ops + 12 * length ops
each_operation [] = refl
each_operation (op ∷ ops) =
    omega (arith, each_operation ops, sum_by-cons with_last op ops, sum_by-cons op_count op ops)

all_six_times : (ops : List Op) → sum_by six_times ops ≡ 6 * sum_by op_count ops
all_six_times [] = refl
all_six_times (op ∷ ops) =
    omega (arith, all_six_times ops, sum_by-cons six_times op ops, sum_by-cons op_count op ops)

-- what mtu_packer promises
abbrev pub FewInPacking : Type 0
FewInPacking = (ops : List Op) (payload : ℕ) (contents : Contents) → 16 ≤ payload → IsPacked ops payload contents
    → 13 * length contents.bodies ≤ sum_by op_count ops + 12 * length ops

abbrev pub ShortInPacking : Type 0
ShortInPacking = (ops : List Op) (payload : ℕ) (contents : Contents) → 16 ≤ payload → IsPacked ops payload contents
    → sum_by words_with_answer contents.bodies ≤ 6 * sum_by op_count ops

few_measured : FewInPacking → Measures of_body with_last
few_measured few ops payload contents low is =
    omega (arith, few ops payload contents low is, each_body contents.bodies, each_operation ops)

short_measured : ShortInPacking → Measures words_with_answer six_times
short_measured short ops payload contents low is =
    omega (arith, short ops payload contents low is, all_six_times ops)

pub few_bodies : PacksWords → FewInPacking → (payload board : ℕ) (scripts : List (List Step)) → 16 ≤ payload
    → payload ≤ 2243 → AllByRecursion AreExecutable scripts
    → 13 * length (all_bodies (plans_on board (Live payload) scripts))
    ≤ sum_by op_count (all_operations scripts) + 12 * length (all_operations scripts)
few_bodies packs few payload board scripts low high can =
    omega (
      arith,
      of_clients packs of_body with_last (few_measured few) payload board low high scripts can,
      each_body (all_bodies (plans_on board (Live payload) scripts)),
      each_operation (all_operations scripts),
    )

pub short_bodies : PacksWords → ShortInPacking → (payload board : ℕ) (scripts : List (List Step)) → 16 ≤ payload
    → payload ≤ 2243 → AllByRecursion AreExecutable scripts
    → sum_by words_with_answer (all_bodies (plans_on board (Live payload) scripts))
    ≤ 6 * sum_by op_count (all_operations scripts)
short_bodies packs short payload board scripts low high can =
    omega (
      arith,
      of_clients packs words_with_answer six_times (short_measured short) payload board low high scripts can,
      all_six_times (all_operations scripts),
    )
