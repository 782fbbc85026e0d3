use Rattle.std.proofs.Common.{refl}
use Rattle.std.specs.Fmt.{digits}
use Rattle.ipb_base.specs.Digits.{digit_value}
use Rattle.access_policy.specs.Names.{in_brackets}
use Rattle.access_policy.specs.Spelling.{indexed_in, pattern_of}
use Rattle.access_policy.proofs.examples.rules_are_written.Goals as goal

pub returns-clause-allowed : goal.returns-clause-allowed
unfolding pattern_of digits
returns-clause-allowed c = refl

pub returns-clause-index : goal.returns-clause-index
unfolding pattern_of indexed_in in_brackets digit_value digits
returns-clause-index c = refl
