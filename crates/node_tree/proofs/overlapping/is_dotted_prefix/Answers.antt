use Rattle.std.proofs.Common.{sym, rules}
use Rattle.node_tree.proofs.DottedLemmas.{dotted, not_longer}
use Rattle.node_tree.proofs.overlapping.is_dotted_prefix.Goals as goal

pub returns-then-other-name : goal.returns-then-other-name
returns-then-other-name c = sym (not_longer c.args.name.now c.args.other.now c.if-other-name.true)

pub returns-then-ne : goal.returns-then-ne
returns-then-ne c = rw dotted (search rules)

pub returns : goal.returns
returns c = rw dotted (search rules)
