use Rattle.std.proofs.Common.{length}
use Rattle.std_edges.proofs.Hearing.{count_within}
use Rattle.std_edges.proofs.heard.hear.Goals as goal

pub returns-clause-within : goal.returns-clause-within
returns-clause-within g c count is =
    count_within c.receive.result count (length c.receive.new.into) (c.heard_as.ensures.count count is)
    c.receive.ensures.within
