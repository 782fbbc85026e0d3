use Rattle.script_lang.proofs.document.check_shape.Goals as goal

pub returns-in-Err-clause-first : goal.returns-in-Err-clause-first
returns-in-Err-clause-first c = c.refused_shape.ensures _ c.in-Err.ensures.first
