use Rattle.std.proofs.Common.{rules}
use Rattle.masked_fields.proofs.Shifts.{IsShift-shift}
use Rattle.masked_fields.proofs.fields.shift_of.Goals as goal

pub returns-clause-greatest : goal.returns-clause-greatest
returns-clause-greatest c = IsShift-shift c.args.mask c.requires (search rules)
