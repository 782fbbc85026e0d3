use Rattle.script_lang.proofs.steps.below_key.Goals as goal

pub returns-in-Ok : goal.returns-in-Ok
returns-in-Ok c = rw (← c.in-Ok.ensures) c.below_step.ensures
