use Rattle.std.proofs.Common.{arith}
use Rattle.std.proofs.lemmas.Grind.{text_groups}
use Rattle.access_policy.proofs.rules_by_id.keep_under.Goals as goal

pub returns : goal.returns
returns c = λ asked. grind (arith, text_groups)
