use Rattle.std.proofs.lemmas.Grind.{common_steps}
use Rattle.std.proofs.Common.{◌≡◌, ◌+◌, arith, append_assoc, length, ap, sym}
use Rattle.script_steps.specs.Rulings.{asked_operations}
use Rattle.script_plans.proofs.Lookups.{drop_at}
use Rattle.std.proofs.lemmas.Option.{slice_get_read}
use Rattle.std.proofs.Common.{List, Some, refl, ◌∙◌}
use Rattle.std.specs.List.{slice_get}
use Rattle.script_steps.specs.declared.operation.Step.{Step}
use Rattle.transcript.specs.Lines.{Showing}
use Rattle.run_audit.proofs.Walking.{client_lines, drop_here}
use Rattle.run_audit.proofs.asking.asked_ops.Goals as goal

pub push_client-requires : goal.push_client-requires
push_client-requires c =
    let long = client_lines (c.loop-client.client + 1) c.args.scripts.now c.loop-client.client
    c.index-scripts-client.result c.loop-client-test.true c.index-scripts-client.is in
    rw c.as_slice.ensures (omega (arith, long, c.loop-client.invariant.left, c.requires))

pub loop-client-preserved : goal.loop-client-preserved
loop-client-preserved c =
    let i = c.loop-client.client in
    let scripts = c.args.scripts.now in
    let clients = c.args.shown.now.clients in
    let steps = c.index-scripts-client.result in
    let rest = drop_here scripts i steps c.loop-client-test.true c.index-scripts-client.is in
    let long = client_lines (i + 1) scripts i steps c.loop-client-test.true c.index-scripts-client.is in
    let read : slice_get c.as_slice-clients.result.now i ≡ Some c.in-Some.shows.now =
    slice_get_read _ (length c.as_slice-clients.result.now) i c.in-Some.shows.now refl c.in-Some.ensures.lookup.3.0
    c.in-Some.ensures.lookup.1 in
    let there = drop_at clients i c.in-Some.shows.now
    (ap (λ (all : List (List Showing)). slice_get all i) (sym c.as_slice-clients.ensures) ∙ read) in
    let next : c.in_ok-heading.heading ≡ c.loop-client.heading + 1 + length (asked_operations steps) =
    c.in_ok-heading.ensures.next
    ∙ ap (λ (s : List Step). c.loop-client.heading + 1 + length (asked_operations s)) c.as_slice.ensures in
    record {
      lines = rw (c.in_ok-heading.ensures.lines, append_assoc, next, c.as_slice.ensures, c.as_slice-in-loop-client.ensures)
          (rw (rest, there) at c.loop-client.invariant.lines);
      left = omega (arith, next, long, c.loop-client.invariant.left);
    }

pub returns-in_default : goal.returns-in_default
returns-in_default c = grind (arith, common_steps)

pub overflow_add-first : goal.overflow_add-first
overflow_add-first c = grind (arith, common_steps)

pub returns : goal.returns
returns c = grind (arith, common_steps)
