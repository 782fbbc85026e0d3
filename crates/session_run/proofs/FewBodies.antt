-- Plans of few bodies.
use Rattle.std.proofs.Common.{ℕ, ◌+◌, ◌*◌, ◌≤◌, ◌<◌, ◌^◌, List, [], ◌∷◌, length, sum, sum_by, arith}
use Rattle.std.proofs.Common.{length-append}
use Rattle.std.specs.List.{AllByRecursion}
use Rattle.mtu_packer.specs.declared.packing.TheConstants.{MIN_PAYLOAD, MAX_PAYLOAD}
use Rattle.transaction_codec.specs.Request.{op_count}
use Rattle.script_steps.specs.Executable.{AreExecutable}
use Rattle.script_steps.specs.Packing.{AreWithinLimits, all_operations}
use Rattle.script_steps.specs.declared.operation.Step.{Step}
use Rattle.script_plans.specs.declared.greeting.Greeting.TheVariants.{Live}
use Rattle.script_plans.specs.Plan.{ClientBodies, all_bodies, plans_on}
use Rattle.session_run.specs.Plans.{HasFewBodies}
use Rattle.session_run.specs.Clients.{HasItsCounts}
use Rattle.session_run.proofs.DispatchParts.{each_counts, sum_first}

few_counts : (counts : List ℕ) → sum counts < 2 ^ 32 → AllByRecursion (λ (count : ℕ). count < 2 ^ 32) counts
few_counts [] few = tt
few_counts (c ∷ counts) few =
    let first = sum_first c counts in (omega (arith, first, few), few_counts counts (omega (arith, first, few)))

few_in_all : (plans : List ClientBodies) → AllByRecursion HasItsCounts plans → length (all_bodies plans) < 2 ^ 32
    → AllByRecursion HasFewBodies plans
few_in_all [] counts few = tt
few_in_all (p ∷ plans) counts few =
    let both = length-append p.bodies (all_bodies plans) in
    let own = counts.0 in (
      few_counts p.counts (omega (arith, both, own, few)),
      few_in_all plans counts.1 (omega (arith, both, few)),
    )

abbrev pub FewLaw : Type 0
FewLaw = (payload board : ℕ) (scripts : List (List Step)) → MIN_PAYLOAD ≤ payload → payload ≤ MAX_PAYLOAD
    → AllByRecursion AreExecutable scripts → 13 * length (all_bodies (plans_on board (Live payload) scripts))
    ≤ sum_by op_count (all_operations scripts) + 12 * length (all_operations scripts)

pub few_planned : FewLaw → (payload board : ℕ) (scripts : List (List Step)) → MIN_PAYLOAD ≤ payload
    → payload ≤ MAX_PAYLOAD → AllByRecursion AreExecutable scripts → AreWithinLimits scripts
    → AllByRecursion HasFewBodies (plans_on board (Live payload) scripts)
few_planned law payload board scripts low high executable limits =
    let few = law payload board scripts low high executable in
    let operations = limits.operations' in
    let words = limits.words' in
    few_in_all (plans_on board (Live payload) scripts) (each_counts board (Live payload) scripts)
    (omega (arith, few, operations, words))
