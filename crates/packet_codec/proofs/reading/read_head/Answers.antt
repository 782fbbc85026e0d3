use Rattle.std.proofs.Common.{sym, ◌∙◌}
use Rattle.packet_codec.proofs.StartLemmas.{start_without_memory}
use Rattle.packet_codec.proofs.reading.read_head.Goals as goal

pub returns-clause-memory : goal.returns-clause-memory
returns-clause-memory c = λ e. start_without_memory _ (sym c.read_start.ensures ∙ e)
