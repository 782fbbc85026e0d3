use Rattle.std.proofs.Common.{option_map}
use Rattle.toml.specs.View.{table_view, view}
use Rattle.session_input.specs.Deserved.{BreaksParts, Tells}
use Rattle.session_input.proofs.Told.{handed_on}
use Rattle.session_input.proofs.reading.read_parts.Goals as goal

pub returns-in_err-session-clause-refused : goal.returns-in_err-session-clause-refused
returns-in_err-session-clause-refused c =
    let value = option_map view c.args.value.now in
    handed_on (Tells (BreaksParts (table_view c.args.table) value)) c.from_residual.result
    c.in_err-session.field-0.0 c.from_residual.ensures.1 (c.in_err-session.ensures.refused value)
