use Rattle.std.proofs.Common.{◌≡◌, ℕ, ◌+◌, ap, List, ◌∷◌, drop, length, arith}
use Rattle.script_steps.specs.declared.operation.Step.{Step}
use Rattle.script_steps.specs.Rulings.{asked_operations}
use Rattle.transcript_reader.specs.Entries.{clients_from}
use Rattle.transcript_reader.proofs.Told.{length_client, next_item}
use Rattle.transcript_reader.proofs.greeting.lines_of_clients.Goals as goal

one_more : (scripts : List (List Step)) (i count : ℕ) (steps found : List Step)
    → drop i scripts ≡ steps ∷ drop (i + 1) scripts → found ≡ steps → count ≡ length (asked_operations found)
    → length (clients_from (i + 1) (drop i scripts)) ≡ (1 + count) + length (clients_from (i + 1 + 1) (drop (i + 1) scripts))
one_more scripts i count steps found is same counted =
    let first = ap (λ (left : List (List Step)). length (clients_from (i + 1) left)) is in
    let client = length_client (i + 1) steps (drop (i + 1) scripts) in
    let asks : length (asked_operations found) ≡ length (asked_operations steps) = ap (λ (s : List Step). length (asked_operations s)) same in
    omega arith

pub overflow_add-count : goal.overflow_add-count
overflow_add-count c =
    let step = one_more c.args.scripts.now c.loop-steps.steps-index c.operation_count.result c.steps-item.result
    c.as_slice.result.now (next_item c.args.scripts.now c.loop-steps.steps-index c.steps-item.result
    c.loop-steps-test.true c.steps-item.is) c.as_slice.ensures c.operation_count.ensures in
    omega arith

pub overflow_add-count-in-loop-steps : goal.overflow_add-count-in-loop-steps
overflow_add-count-in-loop-steps c =
    let step = one_more c.args.scripts.now c.loop-steps.steps-index c.operation_count.result c.steps-item.result
    c.as_slice.result.now (next_item c.args.scripts.now c.loop-steps.steps-index c.steps-item.result
    c.loop-steps-test.true c.steps-item.is) c.as_slice.ensures c.operation_count.ensures in
    omega arith

pub loop-steps-preserved : goal.loop-steps-preserved
loop-steps-preserved c =
    let step = one_more c.args.scripts.now c.loop-steps.steps-index c.operation_count.result c.steps-item.result
    c.as_slice.result.now (next_item c.args.scripts.now c.loop-steps.steps-index c.steps-item.result
    c.loop-steps-test.true c.steps-item.is) c.as_slice.ensures c.operation_count.ensures in
    omega arith
