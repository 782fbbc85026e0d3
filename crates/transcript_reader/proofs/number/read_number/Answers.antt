use Rattle.std.proofs.Common.{sym, ◌∙◌}
use Rattle.transcript_reader.proofs.Numbers.{digits_shorten, number_stop, past_digits, next_digit}
use Rattle.transcript_reader.proofs.number.read_number.Goals as goal

pub returns-in_err-value : goal.returns-in_err-value
returns-in_err-value c =
    let none = past_digits c.args.base c.digits.value c.in-Some.digit c.digits.rest.now c.in-Some.more.now c.in-Some.ensures
    (sym c.with_digit.ensures ∙ c.in_err-value.was) in
    rw c.from_residual.ensures (sym c.digits.invariant ∙ none)

pub digits-smaller : goal.digits-smaller
digits-smaller c = digits_shorten c.args.base c.digits.rest.now c.in-Some.more.now c.in-Some.digit c.in-Some.ensures

pub digits-preserved : goal.digits-preserved
digits-preserved c =
    sym (next_digit c.args.base c.digits.value c.in-Some.digit c.in_ok-value.value c.digits.rest.now c.in-Some.more.now
    c.in-Some.ensures (sym c.with_digit.ensures ∙ c.in_ok-value.was))
    ∙ c.digits.invariant

pub returns : goal.returns
returns c =
    sym c.digits.invariant
    ∙ number_stop c.args.base c.digits.value c.digits.rest.now (rw c.in_default.is at c.first_digit.ensures)
