use Rattle.std.proofs.Common.{◌≡◌, ◌∷◌, [], ◌++◌, true, false, refl, ap, ◌∙◌, sym, append_assoc, arith}
use Rattle.std.proofs.lemmas.Grind.{common_steps}
use Rattle.client_threads.specs.Jobs.{HasEnded}
use Rattle.client_threads.proofs.Jobs.{all_middle, as_long, joined_pushed}
use Rattle.client_threads.proofs.job.join_all.Goals as goal

pub loop-job-preserved-then-all : goal.loop-job-preserved-then-all
loop-job-preserved-then-all g c =
    let i = c.loop-job.invariant in
    let job = c.in-Some.job in
    let all : c.loop-job.yielded ++ job ∷ c.next.new.self.rest.items ≡ c.args.jobs.items =
    ap (λ l. c.loop-job.yielded ++ l) (sym c.in-Some.ensures.steps.0) ∙ i.0 in
    let ended = all_middle (HasEnded c.args.hub.now.turns) c.loop-job.yielded job c.next.new.self.rest.items
    c.args.jobs.items c.requires.ended all in (
      append_assoc c.loop-job.yielded (job ∷ []) c.next.new.self.rest.items ∙ all,
      joined_pushed c.args.hub.now.turns c.args.master.now c.loop-job.master c.join.new.self c.loop-job.yielded job
          c.loop-job.results.items c.push_reserved.new.self.items _ c.loop-job.all job.ran
          c.push_reserved.ensures.items i.1 ended c.requires.known c.join.ensures.joined c.join.ensures.taken_in refl
          c.from_vec.ensures (λ e. (c.if-all.true, e)),
      as_long c.loop-job.results.items c.push_reserved.new.self.items _ c.loop-job.yielded job
          c.push_reserved.ensures.items i.2,
      c.push_reserved.ensures.capacity ∙ i.3,
    )

pub loop-job-preserved : goal.loop-job-preserved
loop-job-preserved g c =
    let i = c.loop-job.invariant in
    let job = c.in-Some.job in
    let all : c.loop-job.yielded ++ job ∷ c.next.new.self.rest.items ≡ c.args.jobs.items =
    ap (λ l. c.loop-job.yielded ++ l) (sym c.in-Some.ensures.steps.0) ∙ i.0 in
    let ended = all_middle (HasEnded c.args.hub.now.turns) c.loop-job.yielded job c.next.new.self.rest.items
    c.args.jobs.items c.requires.ended all in (
      append_assoc c.loop-job.yielded (job ∷ []) c.next.new.self.rest.items ∙ all,
      joined_pushed c.args.hub.now.turns c.args.master.now c.loop-job.master c.join.new.self c.loop-job.yielded job
          c.loop-job.results.items c.push_reserved.new.self.items _ c.loop-job.all c.loop-job.all
          c.push_reserved.ensures.items i.1 ended c.requires.known c.join.ensures.joined c.join.ensures.taken_in refl
          c.from_vec.ensures (λ e. absurd (let no_more : false ≡ true = sym c.if-all.false ∙ e in cc)),
      as_long c.loop-job.results.items c.push_reserved.new.self.items _ c.loop-job.yielded job
          c.push_reserved.ensures.items i.2,
      c.push_reserved.ensures.capacity ∙ i.3,
    )

pub loop-job-init : goal.loop-job-init
loop-job-init g c = grind (arith, common_steps)

pub returns : goal.returns
returns g c = grind (arith, common_steps)
