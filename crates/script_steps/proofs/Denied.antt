-- Steps under a policy ask for no more than before.
use Rattle.std.proofs.Common.{◌≡◌, inl, inr, ◌+◌, ◌≤◌, suc, List, [], ◌∷◌, length, sum_by, refl, ap, subst}
use Rattle.std.proofs.Common.{sym, arith}
use Rattle.std.specs.List.{AllByRecursion}
use Rattle.std.proofs.lemmas.List.Sums.{sum_by-append}
use Rattle.std.proofs.Math.ListN.{length-append}
use Rattle.transaction_codec.specs.Request.{op_count}
use Rattle.transaction_codec.specs.declared.request.Op.{Op}
use Rattle.script_steps.specs.declared.operation.Step.{Step}
use Rattle.script_steps.specs.declared.operation.Step.TheVariants.{Do, Denied, Dispatch}
use Rattle.script_steps.specs.declared.operation.Decision.{Decision}
use Rattle.script_steps.specs.declared.operation.Decision.TheVariants as decision
use Rattle.script_steps.specs.Executable.{AreExecutable, CanBeDone}
use Rattle.script_steps.specs.Packing.{AreWithinLimits, CanBePacked, HaveFewPieces, IsSelection, all_operations, operations}
use Rattle.script_steps.specs.RuledScripts.{AreRuled}
use Rattle.script_steps.specs.Rulings.{steps_under_policy, ruled_step}

-- ---- step by step

done_still : (step : Step) (d : Decision) → CanBeDone step → CanBeDone (ruled_step step d)
done_still (Do op) decision.Allowed can = can
done_still (Do op) (decision.Denied rule) can = tt
done_still (Denied rule op) d can = tt
done_still Dispatch d can = tt

packed_still : (step : Step) (d : Decision) → CanBePacked step → CanBePacked (ruled_step step d)
packed_still (Do op) decision.Allowed can = can
packed_still (Do op) (decision.Denied rule) can = tt
packed_still (Denied rule op) d can = tt
packed_still Dispatch d can = tt

pub executable : (steps : List Step) (ds : List Decision) → AreExecutable steps → AreExecutable (steps_under_policy steps ds)
executable [] ds are = tt
executable (step ∷ steps) [] are = are
executable (step ∷ steps) (d ∷ ds) are = (done_still step d are.0, executable steps ds are.1)

pub packed : (steps : List Step) (ds : List Decision) → AllByRecursion CanBePacked steps
    → AllByRecursion CanBePacked (steps_under_policy steps ds)
packed [] ds are = tt
packed (step ∷ steps) [] are = are
packed (step ∷ steps) (d ∷ ds) are = (packed_still step d are.0, packed steps ds are.1)

pub as_many : (steps : List Step) (ds : List Decision) → length (steps_under_policy steps ds) ≡ length steps
as_many [] ds = refl
as_many (step ∷ steps) [] = refl
as_many (step ∷ steps) (d ∷ ds) = ap suc (as_many steps ds)

-- ---- the operations that are left

past : (ops : List Op) (first : Op) (all : List Op) → IsSelection ops all → IsSelection ops (first ∷ all)
past [] first all is = tt
past (op ∷ ops) first all is = inr is

-- what is selected of those that are left is selected of all
selected : (steps : List Step) (ds : List Decision) (ops : List Op) → IsSelection ops (operations (steps_under_policy steps ds))
    → IsSelection ops (operations steps)
selected [] ds ops is = is
selected (step ∷ steps) [] ops is = is
selected (Do op ∷ steps) (decision.Allowed ∷ ds) [] is = tt
selected (Do op ∷ steps) (decision.Allowed ∷ ds) (first ∷ ops) (inl here) = inl (here.0, selected steps ds ops here.1)
selected (Do op ∷ steps) (decision.Allowed ∷ ds) (first ∷ ops) (inr later) =
    inr (selected steps ds (first ∷ ops) later)
selected (Do op ∷ steps) (decision.Denied rule ∷ ds) ops is =
    past ops op.op (operations steps) (selected steps ds ops is)
selected (Denied rule op ∷ steps) (d ∷ ds) ops is = selected steps ds ops is
selected (Dispatch ∷ steps) (d ∷ ds) ops is = selected steps ds ops is

pub few : (steps : List Step) (ds : List Decision) → HaveFewPieces steps → HaveFewPieces (steps_under_policy steps ds)
few steps ds all ops payload is low = all ops payload (selected steps ds ops is) low

-- ---- how many operations and words there are

op_more : (op : Op) (ops : List Op) → sum_by op_count (op ∷ ops) ≡ op_count op + sum_by op_count ops
op_more op ops = omega (arith, sum_by-append op_count (op ∷ []) ops)

no_more_operations : (steps : List Step) (ds : List Decision)
    → length (operations (steps_under_policy steps ds)) ≤ length (operations steps)
no_more_operations [] ds = omega arith
no_more_operations (step ∷ steps) [] = omega arith
no_more_operations (Do op ∷ steps) (decision.Allowed ∷ ds) = omega (arith, no_more_operations steps ds)
no_more_operations (Do op ∷ steps) (decision.Denied rule ∷ ds) = omega (arith, no_more_operations steps ds)
no_more_operations (Denied rule op ∷ steps) (d ∷ ds) = no_more_operations steps ds
no_more_operations (Dispatch ∷ steps) (d ∷ ds) = no_more_operations steps ds

no_more_words : (steps : List Step) (ds : List Decision)
    → sum_by op_count (operations (steps_under_policy steps ds)) ≤ sum_by op_count (operations steps)
no_more_words [] ds = omega arith
no_more_words (step ∷ steps) [] = omega arith
no_more_words (Do op ∷ steps) (decision.Allowed ∷ ds) =
    omega (arith, no_more_words steps ds, op_more op.op (operations steps), op_more op.op (operations (steps_under_policy steps ds)))
no_more_words (Do op ∷ steps) (decision.Denied rule ∷ ds) =
    omega (arith, no_more_words steps ds, op_more op.op (operations steps))
no_more_words (Denied rule op ∷ steps) (d ∷ ds) = no_more_words steps ds
no_more_words (Dispatch ∷ steps) (d ∷ ds) = no_more_words steps ds

-- the same of a script that is known to be ruled
script_operations : (steps now : List Step) (ds : List Decision) → now ≡ steps_under_policy steps ds
    → length (operations now) ≤ length (operations steps)
script_operations steps now ds is =
    subst (λ x. length (operations x) ≤ length (operations steps)) (sym is) (no_more_operations steps ds)

script_words : (steps now : List Step) (ds : List Decision) → now ≡ steps_under_policy steps ds
    → sum_by op_count (operations now) ≤ sum_by op_count (operations steps)
script_words steps now ds is =
    subst (λ x. sum_by op_count (operations x) ≤ sum_by op_count (operations steps)) (sym is) (no_more_words steps ds)

all_no_more_operations : (scripts now : List (List Step)) → AreRuled scripts now
    → length (all_operations now) ≤ length (all_operations scripts)
all_no_more_operations [] [] are = omega arith
all_no_more_operations [] (one ∷ now) are = absurd are
all_no_more_operations (steps ∷ scripts) [] are = absurd are
all_no_more_operations (steps ∷ scripts) (one ∷ now) are =
    omega (
      arith,
      script_operations steps one are.0.0 are.0.1,
      all_no_more_operations scripts now are.1,
      length-append (operations one) (all_operations now),
      length-append (operations steps) (all_operations scripts),
    )

all_no_more_words : (scripts now : List (List Step)) → AreRuled scripts now
    → sum_by op_count (all_operations now) ≤ sum_by op_count (all_operations scripts)
all_no_more_words [] [] are = omega arith
all_no_more_words [] (one ∷ now) are = absurd are
all_no_more_words (steps ∷ scripts) [] are = absurd are
all_no_more_words (steps ∷ scripts) (one ∷ now) are =
    omega (
      arith,
      script_words steps one are.0.0 are.0.1,
      all_no_more_words scripts now are.1,
      sum_by-append op_count (operations one) (all_operations now),
      sum_by-append op_count (operations steps) (all_operations scripts),
    )

pub within_limits : (scripts now : List (List Step)) → AreRuled scripts now → AreWithinLimits scripts
    → AreWithinLimits now
within_limits scripts now are within = record {
  operations' = omega (arith, all_no_more_operations scripts now are, within.operations');
  words' = omega (arith, all_no_more_words scripts now are, within.words');
}
