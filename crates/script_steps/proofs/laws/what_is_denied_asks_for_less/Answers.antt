use Rattle.script_steps.proofs.Denied.{as_many, executable, few, packed, within_limits}
use Rattle.script_steps.proofs.laws.what_is_denied_asks_for_less.Goals as goal

pub returns-clause-executable : goal.returns-clause-executable
returns-clause-executable c = executable

pub returns-clause-packed : goal.returns-clause-packed
returns-clause-packed c = packed

pub returns-clause-few : goal.returns-clause-few
returns-clause-few c = few

pub returns-clause-limits : goal.returns-clause-limits
returns-clause-limits c = within_limits

pub returns-clause-count : goal.returns-clause-count
returns-clause-count c = as_many
