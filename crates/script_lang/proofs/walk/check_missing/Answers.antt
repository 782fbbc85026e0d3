use Rattle.std.proofs.Common.{sym}
use Rattle.script_lang.specs.declared.steps.PathStep.TheVariants.{Key}
use Rattle.script_lang.specs.Walk.{here, below}
use Rattle.script_lang.proofs.Faults.{same-first}
use Rattle.script_lang.proofs.walk.check_missing.Goals as goal

pub returns-in-Some-clause-first : goal.returns-in-Some-clause-first
returns-in-Some-clause-first c =
    same-first (below (Key c.in-Some.name.now) here) _ _ (sym c.in-Some.ensures)
    (c.below_key.ensures here c.misfit_here.ensures)
