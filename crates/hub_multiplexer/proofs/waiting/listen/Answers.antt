use Rattle.std.proofs.Common.{inr, subst, arith}
use Rattle.std.proofs.lemmas.Grind.{common_steps}
use Rattle.std.proofs.lemmas.Result.{IfOk-from_err, IfOk-weaker, on_err_weaker}
use Rattle.hub_multiplexer.specs.AnyCalls.{FindMeansAs, IsNone, MadeInTimeAs}
use Rattle.hub_multiplexer.proofs.Looks.{after_looking, found_before, none_before}
use Rattle.hub_multiplexer.proofs.waiting.listen.Goals as goal

pub returns-clause-found : goal.returns-clause-found
returns-clause-found g c =
    let m = g.V.AtHub.manner in
    let k = c.args.pass.now.knows in
    let now = c.visit.new.pass.knows in
    let made : MadeInTimeAs m k IsNone now = subst (λ s. MadeInTimeAs m k (FindMeansAs m k s) now) c.in-None.is
    c.in_ok-performed.ensures.found in
    IfOk-weaker c.visit-2.result _ _ (λ answer. after_looking m (λ z. FindMeansAs m z answer) k now c.visit-2.new.pass.knows
    (inr made) (found_before m (g.met.V.AtHub g.world.𝓛 g.world.𝓜 g.world.𝓡 ((λ s x. x), (λ x. x), (λ x. x), λ x. x)).sound k answer)) c.visit-2.ensures.found

pub returns-clause-looked : goal.returns-clause-looked
returns-clause-looked g c =
    let m = g.V.AtHub.manner in
    let k = c.args.pass.now.knows in
    let now = c.visit.new.pass.knows in
    let made : MadeInTimeAs m k IsNone now = subst (λ s. MadeInTimeAs m k (FindMeansAs m k s) now) c.in-None.is
    c.in_ok-performed.ensures.found in
    on_err_weaker c.visit-2.result (after_looking m (λ _. IsNone) k now c.visit-2.new.pass.knows (inr made)
    (none_before k)) c.visit-2.ensures.looked

pub returns-in_err-performed-clause-found : goal.returns-in_err-performed-clause-found
returns-in_err-performed-clause-found g c = IfOk-from_err c.from_residual.result _ c.from_residual.ensures.0

pub returns-in_err-performed-clause-looked : goal.returns-in_err-performed-clause-looked
returns-in_err-performed-clause-looked g c = grind (arith, common_steps)

pub returns-in-Some-clause-found : goal.returns-in-Some-clause-found
returns-in-Some-clause-found g c = grind (arith, common_steps)

pub returns-in-Some-clause-looked : goal.returns-in-Some-clause-looked
returns-in-Some-clause-looked g c = grind (arith, common_steps)

pub returns-then-not-wait-clause-found : goal.returns-then-not-wait-clause-found
returns-then-not-wait-clause-found g c = grind (arith, common_steps)

pub returns-then-not-wait-clause-looked : goal.returns-then-not-wait-clause-looked
returns-then-not-wait-clause-looked g c = grind (arith, common_steps)
