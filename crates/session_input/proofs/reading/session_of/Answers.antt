use Rattle.toml.specs.View.{table_view}
use Rattle.session_input.proofs.reading.session_of.Goals as goal

pub returns-in-Err-clause-refused : goal.returns-in-Err-clause-refused
returns-in-Err-clause-refused c =
    λ value. c.refused.ensures.faulty (table_view c.args.table) value c.in-Err.ensures.refused
