use Rattle.std.proofs.Common.{arith}
use Rattle.std.proofs.lemmas.Str.Pattern.{split_once_first}
use Rattle.script_lang.proofs.Cuts.{cut_as}
use Rattle.script_lang.proofs.command.names_in.Goals as goal

pub returns : goal.returns
returns c =
    cut_as 58 c.args.place.now c.split_once.result
    (split_once_first 58 c.args.place.now c.split_once.result c.split_once.ensures.cases (omega arith))
