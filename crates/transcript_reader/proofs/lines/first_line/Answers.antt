use Rattle.std.proofs.Common.{rules}
use Rattle.transcript_reader.proofs.LineCuts.{cut_behind, whole}
use Rattle.transcript_reader.proofs.lines.first_line.Goals as goal

pub returns-in-Some : goal.returns-in-Some
returns-in-Some c = cut_behind c.args.text.now c.in-Some.end c.in-Some.ensures

pub returns-in-None : goal.returns-in-None
returns-in-None c = whole c.args.text.now (search rules) c.in-None.ensures
