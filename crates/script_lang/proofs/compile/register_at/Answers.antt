use Rattle.std.proofs.Common.{arith}
use Rattle.std.proofs.lemmas.Grind.{elements}
use Rattle.script_lang.proofs.compile.register_at.Goals as goal

pub returns-clause-found : goal.returns-clause-found
returns-clause-found c = grind (arith, elements)

pub returns-clause-register : goal.returns-clause-register
returns-clause-register c = c.find.ensures.register
