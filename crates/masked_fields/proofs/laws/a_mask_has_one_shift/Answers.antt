use Rattle.masked_fields.proofs.Shifts.{same_shift}
use Rattle.masked_fields.proofs.laws.a_mask_has_one_shift.Goals as goal

pub returns : goal.returns
returns c = same_shift
