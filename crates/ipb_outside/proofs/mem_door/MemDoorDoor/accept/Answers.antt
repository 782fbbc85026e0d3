-- The pair that was the last of the vector is the first of those that were coming.
use Rattle.std.proofs.Common.{[], ◌∷◌, ◌∙◌, ap, sym, subst, reverse}
use Rattle.std.proofs.Math.Logic.{⊎_elim}
use Rattle.std.proofs.lemmas.List.{reverse-append}
use Rattle.ipb_outside.specs.Calls.{FailsNext}
use Rattle.ipb_outside.proofs.mem_door.MemDoorDoor.accept.Goals as goal

pub returns-in-Some-clause-first : goal.returns-in-Some-clause-first
returns-in-Some-clause-first c =
    ap (λ door. door.coming) (sym c.self.view_is) ∙ ap reverse c.in-Some.ensures.items
    ∙ reverse-append c.pop.new.self.items (c.in-Some.pair ∷ [])

pub returns-in-Some-clause-failed : goal.returns-in-Some-clause-failed
returns-in-Some-clause-failed c =
    let first = returns-in-Some-clause-first c in
    let calls = ap (λ door. door.calls) (sym c.self.view_is) in
    let begun = λ (fails : FailsNext c.args.self.now.calls).
    c.in_ok-begin.ensures.failed.1 (subst (λ calls. FailsNext calls) calls fails) in
    (λ never. absurd (cc), ⊎_elim begun (λ none. absurd (cc)))
