use denote.Param.Send.{shr_sync}
use mir.Syntax.{named}
use Rattle.std.proofs.Common.{[], ◌∷◌, sym, ap, ◌∙◌}
use Rattle.client_threads.specs.declared.job.Job.{Job}
use Rattle.client_threads.proofs.Jobs.{plans_same}
use Rattle.client_threads.proofs.Shares.{context_sync, fields_shared}
use Rattle.client_threads.proofs.threads.run_all.Goals as goal

pub for_each_mut-requires-sync-F : goal.for_each_mut-requires-sync-F
for_each_mut-requires-sync-F g c κs within =
    let links = c.type_bounds.send-L in
    let runtime = c.type_bounds.sync-R in
    let gate = c.type_bounds.sync-G in
    record {
      shared = λ d b o. fields_shared (_ ∷ []) (
        shr_sync (named 0) κs.0 _
            (context_sync (record { mir = named 0; lft = _ }) _ _ _ g.L.Link runtime links gate),
        tt,
      ) (d.0, tt) b o;
    }

pub returns-clause-plans : goal.returns-clause-plans
returns-clause-plans g c = plans_same c.args.jobs.now c.for_each_mut.new.s c.for_each_mut.auto.s
    (λ i d low. let at = (c.for_each_mut.ensures i d low).1 in ap (λ (z : Job). z.plan) (sym at.left)
    ∙ (at.call.1 ∙ ap (λ (z : Job). z.plan) at.argument_is))
