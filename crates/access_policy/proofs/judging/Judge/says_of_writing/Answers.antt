use Rattle.std.proofs.Common.{subst, sym}
use Rattle.std.specs.Prelude.{IfSome}
use Rattle.access_policy.specs.ById.{AreById}
use Rattle.access_policy.specs.KnownNames.{AreKnown}
use Rattle.access_policy.specs.declared.policy.Access.TheVariants.{Writing}
use Rattle.access_policy.proofs.judging.Judge.says_of_writing.Goals as goal

pub judged-requires-clause-sorted : goal.judged-requires-clause-sorted
judged-requires-clause-sorted c =
    subst (λ rules. IfSome c.self.inside.sorted (AreById rules)) (sym c.as_slice-rules.ensures.value)
    c.self.invariant.1.0

pub invariant_of-self : goal.invariant_of-self
invariant_of-self c =
    let same = c.as_slice-rules.ensures.value in
    let sorted = subst (λ rules. IfSome c.judged.new.sorted (AreById rules)) same c.judged.ensures.sorted in
    let known = subst (λ rules. AreKnown Writing rules c.judged.new.known) same c.judged.ensures.known in
    (c.self.invariant.0, (sorted, (c.self.invariant.1.1.0, known)))
