use Rattle.std.proofs.Common.{arith}
use Rattle.std.proofs.lemmas.Grind.{common_steps}
use Rattle.script_lang.proofs.MaskedValues.{kept_field}
use Rattle.script_lang.proofs.Packable.{cut_kept}
use Rattle.script_lang.proofs.using.use_of.Goals as goal

pub returns-in-Some-clause-used : goal.returns-in-Some-clause-used
returns-in-Some-clause-used c = grind (arith, common_steps)

pub returns-in-Some-clause-packed : goal.returns-in-Some-clause-packed
returns-in-Some-clause-packed c = grind (arith, common_steps)

pub returns-in_err-copy_of-clause-used : goal.returns-in_err-copy_of-clause-used
returns-in_err-copy_of-clause-used c = grind (arith, common_steps)

pub returns-in_err-copy_of-clause-packed : goal.returns-in_err-copy_of-clause-packed
returns-in_err-copy_of-clause-packed c = grind (arith, common_steps)

pub returns-clause-used : goal.returns-clause-used
returns-clause-used c = grind (arith, common_steps)

pub returns-clause-packed : goal.returns-clause-packed
returns-clause-packed c = grind (arith, kept_field, cut_kept)

pub op_on-requires-clause-fits : goal.op_on-requires-clause-fits
op_on-requires-clause-fits c = grind (arith, kept_field)
