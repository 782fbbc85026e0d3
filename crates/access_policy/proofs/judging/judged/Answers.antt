use Rattle.std.proofs.Common.{ap, ◌∙◌}
use Rattle.access_policy.specs.Candidates.{first_of}
use Rattle.access_policy.proofs.judging.judged.Goals as goal

pub returns-clause-known : goal.returns-clause-known
returns-clause-known c =
    let meant = c.in_ok-decision.ensures.said
    ∙ ap (λ items. first_of c.args.access items c.args.rules.now) (c.as_slice.ensures.value ∙ c.in_ok-parts.ensures) in
    c.insert.ensures c.args.access c.args.rules.now c.requires.known meant
