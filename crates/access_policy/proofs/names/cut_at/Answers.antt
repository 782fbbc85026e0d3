use Rattle.std.proofs.lemmas.Str.Pattern.{split_once_first}
use Rattle.script_lang.proofs.Cuts.{cut_as}
use Rattle.access_policy.proofs.names.cut_at.Goals as goal

pub returns : goal.returns
returns c =
    cut_as c.args.cut c.args.text.now c.split_once.result
    (split_once_first c.args.cut c.args.text.now c.split_once.result c.split_once.ensures.cases c.requires.ascii)
