use Rattle.std.proofs.Common.{◌≡◌, ◌+◌, ◌∙◌, ap, arith, length}
use Rattle.script_steps.specs.Rulings.{asked_operations}
use Rattle.script_steps.specs.declared.operation.Step.{Step}
use Rattle.std.proofs.Common.{List}
use Rattle.run_audit.proofs.Walking.{client_lines}
use Rattle.run_audit.proofs.counts.count_client_lines.Goals as goal

pub count_operations-requires : goal.count_operations-requires
count_operations-requires c =
    let i = c.loop-steps.steps-index in
    let long = client_lines (i + 1) c.args.scripts.now i c.steps-item.result c.loop-steps-test.true c.steps-item.is in
    rw c.as_slice.ensures (omega (arith, long, c.loop-steps.invariant, c.requires))

pub overflow_add-lines : goal.overflow_add-lines
overflow_add-lines c =
    let i = c.loop-steps.steps-index in
    let long = client_lines (i + 1) c.args.scripts.now i c.steps-item.result c.loop-steps-test.true c.steps-item.is in
    let counted : c.count_operations.result ≡ length (asked_operations c.steps-item.result) =
    c.count_operations.ensures ∙ ap (λ (s : List Step). length (asked_operations s)) c.as_slice.ensures in
    omega (arith, long, counted, c.loop-steps.invariant, c.requires)

pub overflow_add-lines-in-loop-steps : goal.overflow_add-lines-in-loop-steps
overflow_add-lines-in-loop-steps c =
    let i = c.loop-steps.steps-index in
    let long = client_lines (i + 1) c.args.scripts.now i c.steps-item.result c.loop-steps-test.true c.steps-item.is in
    let counted : c.count_operations.result ≡ length (asked_operations c.steps-item.result) =
    c.count_operations.ensures ∙ ap (λ (s : List Step). length (asked_operations s)) c.as_slice.ensures in
    omega (arith, long, counted, c.loop-steps.invariant, c.requires)

pub loop-steps-preserved : goal.loop-steps-preserved
loop-steps-preserved c =
    let i = c.loop-steps.steps-index in
    let long = client_lines (i + 1) c.args.scripts.now i c.steps-item.result c.loop-steps-test.true c.steps-item.is in
    let counted : c.count_operations.result ≡ length (asked_operations c.steps-item.result) =
    c.count_operations.ensures ∙ ap (λ (s : List Step). length (asked_operations s)) c.as_slice.ensures in
    omega (arith, long, counted, c.loop-steps.invariant)
