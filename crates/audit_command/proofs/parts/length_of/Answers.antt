use Rattle.std.proofs.Common.{rules, ◌≡◌, None, Some, length, ◌+◌, ◌<◌, get_or, sym, subst, take}
use Rattle.std.specs.List.{position_from}
use Rattle.ipb_base.specs.Digits.{digits_number}
use Rattle.audit_command.specs.Numbers.{length_digits}
use Rattle.audit_command.specs.Input.{HasLength}
use Rattle.audit_command.proofs.Lengths.{behind, ends, has_length, no_line, no_number}
use Rattle.audit_command.proofs.parts.length_of.Goals as goal

pub returns-in_err-end-clause-none : goal.returns-in_err-end-clause-none
returns-in_err-end-clause-none c = λ _ number rest has.
    let none : position_from ends 0 c.args.bytes.now ≡ None = search rules in
    no_line c.args.bytes.now number rest none has

pub returns-in_err-number-clause-none : goal.returns-in_err-number-clause-none
returns-in_err-number-clause-none c = λ _ number rest has.
    let bytes = c.args.bytes.now in
    let is : position_from ends 0 bytes ≡ Some c.in_ok-end.end = search rules in
    let none : digits_number 10 length_digits (take c.in_ok-end.end bytes) ≡ None = search rules in
    no_number bytes number rest c.in_ok-end.end is none has

pub returns-clause-some : goal.returns-clause-some
returns-clause-some c =
    let bytes = c.args.bytes.now in
    let end = c.in_ok-end.end in
    let within : end < length bytes = search rules in
    let feed : get_or bytes end 0 ≡ 10 = search rules in
    let told : digits_number 10 length_digits (take end bytes) ≡ Some c.in_ok-number.number = search rules in
    subst (HasLength bytes c.in_ok-number.number) (sym (behind (end + 1) bytes))
    (has_length bytes end _ within feed told)
