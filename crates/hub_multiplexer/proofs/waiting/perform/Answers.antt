use Rattle.std.proofs.Common.{ap, subst, ◌∙◌, arith}
use Rattle.std.proofs.lemmas.Grind.{common_steps}
use Rattle.std.proofs.lemmas.Result.{IfOk-from_err}
use Rattle.turn_pass.specs.Pass.{PassState}
use Rattle.hub_multiplexer.specs.AnyCalls.{FindMeansAs, IsNone, MadeInTimeAs, PerformMeansAs}
use Rattle.lane_tables.proofs.Results.{on_err_holds}
use Rattle.hub_multiplexer.proofs.Looks.{after_looking, looked_more, none_before, performed_before}
use Rattle.hub_multiplexer.proofs.waiting.perform.Goals as goal

pub returns-in-Some-2-clause-performed : goal.returns-in-Some-2-clause-performed
returns-in-Some-2-clause-performed g c =
    let m = g.V.AtHub.manner in
    let answer = c.in-Some-2.performed in
    let now = c.loop.pass.knows in
    let made : MadeInTimeAs m now (PerformMeansAs m now answer) c.wait_once.new.pass.knows = subst
    (λ s. MadeInTimeAs m now (FindMeansAs m now s) c.wait_once.new.pass.knows) c.in-Some-2.is c.in_ok-performed.ensures.found in
    after_looking m (λ k. PerformMeansAs m k answer) c.args.pass.now.knows now c.wait_once.new.pass.knows c.loop.invariant.3
    (performed_before m (g.met.V.AtHub g.world.𝓛 g.world.𝓜 g.world.𝓡 ((λ s x. x), (λ x. x), (λ x. x), λ x. x)).sound c.args.pass.now.knows answer) made

pub loop-preserved : goal.loop-preserved
loop-preserved g c =
    let m = g.V.AtHub.manner in
    let now = c.loop.pass.knows in
    let made : MadeInTimeAs m now IsNone c.wait_once.new.pass.knows = subst
    (λ s. MadeInTimeAs m now (FindMeansAs m now s) c.wait_once.new.pass.knows) c.in-None-2.is
    c.in_ok-performed.ensures.found in (
      (tt, tt),
      c.in_ok-performed.ensures.same ∙ ap (λ (p : PassState). record p { knows = c.wait_once.new.pass.knows })
          c.loop.invariant.1,
      c.in_ok-performed.ensures.number,
      looked_more m c.args.pass.now.knows now c.wait_once.new.pass.knows c.loop.invariant.3 made,
    )

pub returns-in_err-performed-clause-looked : goal.returns-in_err-performed-clause-looked
returns-in_err-performed-clause-looked g c =
    on_err_holds c.from_residual.result (after_looking g.V.AtHub.manner (λ _. IsNone) c.args.pass.now.knows c.loop.pass.knows
    c.wait_once.new.pass.knows c.loop.invariant.3 (none_before c.args.pass.now.knows) c.in_err-performed.ensures.looked)

pub returns-in_err-performed-clause-performed : goal.returns-in_err-performed-clause-performed
returns-in_err-performed-clause-performed g c =
    IfOk-from_err c.from_residual.result _ c.from_residual.ensures.0

pub returns-in-Some-2-clause-looked : goal.returns-in-Some-2-clause-looked
returns-in-Some-2-clause-looked g c = grind (arith, common_steps)
