use Rattle.address_table.proofs.Same.{one_table}
use Rattle.address_table.proofs.laws.a_value_is_one_table.Goals as goal

pub returns : goal.returns
returns c = one_table
