use Rattle.std.proofs.Common.{refl, arith, codes}
use Rattle.ipb_base.specs.Digits.{digit_value}
use Rattle.audit_command.proofs.Refused.{with_fewer, without_line, without_number}
use Rattle.audit_command.proofs.examples.inputs_without_a_length.Goals as goal

pub returns-clause-empty : goal.returns-clause-empty
returns-clause-empty c = without_line (codes "") (omega arith) refl

pub returns-clause-no_line_feed : goal.returns-clause-no_line_feed
returns-clause-no_line_feed c = without_line (codes "12") (omega arith) refl

pub returns-clause-no_digits : goal.returns-clause-no_digits
returns-clause-no_digits c = without_number (codes "\n") 0 (omega arith) refl refl

pub returns-clause-hexadecimal : goal.returns-clause-hexadecimal
unfolding digit_value
returns-clause-hexadecimal c = without_number (codes "0x0\n") 3 (omega arith) refl refl

pub returns-clause-nine_digits : goal.returns-clause-nine_digits
returns-clause-nine_digits c = without_number (codes "000000000\n") 9 (omega arith) refl refl

pub returns-clause-too_few_bytes : goal.returns-clause-too_few_bytes
unfolding digit_value
returns-clause-too_few_bytes c =
    with_fewer (codes "5\nabcd") 5 (codes "abcd") (omega arith)
    (record { line = codes "5"; whole = refl; told = refl }) (omega arith) (omega arith)
