use Rattle.std.proofs.Common.{◌∙◌, Option, is_none, sym, ap}
use Rattle.std.proofs.lemmas.Result.{err_from_is_err_and}
use Rattle.lossy_network.specs.Network.{Network}
use Rattle.lossy_network.specs.Racks.{fails_to_make}
use Rattle.lossy_network.proofs.Makes.{no_failure, none_fails}
use Rattle.lossy_network.proofs.sim_rack.SimRack.make.Goals as goal

pub returns-in_err-link-clause-fails : goal.returns-in_err-link-clause-fails
returns-in_err-link-clause-fails c =
    let p = err_from_is_err_and c.from_residual.result c.from_residual.ensures.1 in
    no_failure (fails_to_make c.args.self.now c.args.spec.now.link) c.from_residual.result
    (none_fails c.args.self.now c.args.spec.now.link _ _ (sym c.is_next_named-is_named.ensures ∙ c.if-is_named.false)
    c.in_err-link.ensures.simulated) (λ e. cc)

pub returns-in_err-made_link-in-Some-clause-fails : goal.returns-in_err-made_link-in-Some-clause-fails
returns-in_err-made_link-in-Some-clause-fails c =
    let p = err_from_is_err_and c.from_residual-in_err-made_link-in-Some.result
    c.from_residual-in_err-made_link-in-Some.ensures.1 in
    no_failure (fails_to_make c.args.self.now c.args.spec.now.link) c.from_residual-in_err-made_link-in-Some.result
    (none_fails c.args.self.now c.args.spec.now.link _ _ (sym c.is_next_named-is_named.ensures ∙ c.if-is_named.false)
    (ap (λ (link : Option Network). is_none link) (sym c.in_ok-link.ensures.link ∙ c.in-Some.is))) (λ e. cc)

pub returns-in_ok-made_link-in-Some-clause-fails : goal.returns-in_ok-made_link-in-Some-clause-fails
returns-in_ok-made_link-in-Some-clause-fails c = no_failure (fails_to_make c.args.self.now c.args.spec.now.link) _
    (none_fails c.args.self.now c.args.spec.now.link _ _ (sym c.is_next_named-is_named.ensures ∙ c.if-is_named.false)
    (ap (λ (link : Option Network). is_none link) (sym c.in_ok-link.ensures.link ∙ c.in-Some.is))) (λ e. cc)
