use Rattle.std.proofs.Common.{◌≡◌, length, sum, refl, sym, ap, subst, ◌∙◌, arith}
use Rattle.client_threads.specs.Clients.{counts_on}
use Rattle.client_threads.specs.Running.{AtEach, HasRun}
use Rattle.client_threads.proofs.Jobs.{ended, on_ok, written_back}
use Rattle.client_threads.proofs.job.run_job.Goals as goal

pub returns-clause-ended : goal.returns-clause-ended
returns-clause-ended g c =
    let old = c.args.job.now in
    let p = old.plan.now in
    let lanes = c.run_client-ran.new.lanes in
    let given = ap length c.as_mut_slice.ensures.value in
    let long : length lanes ≡ length old.lanes.items = omega (arith, c.run_client-ran.auto.lanes, given) in
    let len : old.lanes.len ≡ length old.lanes.items = old.lanes.ok.0 in
    let back = written_back old.lanes.items lanes old.lanes.len long len in
    ended c.args.context.now.hub.now.turns old _ c.requires refl c.run_client-ran.ensures.seat
    (ap length back ∙ long) c.run_client-ran.ensures.no_plan
    (λ e. subst (λ l. AtEach c.run_client-ran.new.seat.knows l
    (λ on. HasRun p.client (sum (counts_on on p)) (counts_on on p))) (sym back)
    (on_ok c.run_client-ran.result _ (sym c.is_ok-job.ensures.value ∙ e) c.run_client-ran.ensures.ran))
