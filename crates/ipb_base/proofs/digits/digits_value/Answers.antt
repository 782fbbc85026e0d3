use Rattle.std.proofs.Common.{◌≡◌, ◌<◌, ◌≤◌, ◌+◌, ◌*◌, ◌^◌, get_or, sym, ◌∙◌, arith}
use Rattle.ipb_base.specs.Digits.{digit_value}
use Rattle.ipb_base.proofs.ReadDigits.{next_digit, past_word, last_digit}
use Rattle.ipb_base.proofs.digits.digits_value.Goals as goal

pub returns-in_err-checked_mul : goal.returns-in_err-checked_mul
returns-in_err-checked_mul c =
    let l = c.loop-byte in
    let is_digit : digit_value (get_or c.args.text.now l.byte-index 0) < c.args.base =
    omega (arith, c.digit_value-digit.ensures) in
    let past : 2 ^ 32 ≤ l.value * c.args.base + digit_value (get_or c.args.text.now l.byte-index 0) =
    omega (arith, c.in_err-checked_mul.ensures) in
    c.from_residual.ensures ∙ sym (past_word _ _ _ _ c.loop-byte-test.true c.requires.some is_digit past)
    ∙ l.invariant.rest

pub returns-in_err-value : goal.returns-in_err-value
returns-in_err-value c =
    let l = c.loop-byte in
    let is_digit : digit_value (get_or c.args.text.now l.byte-index 0) < c.args.base =
    omega (arith, c.digit_value-digit.ensures) in
    let past : 2 ^ 32 ≤ l.value * c.args.base + digit_value (get_or c.args.text.now l.byte-index 0) =
    omega (arith, c.in_err-value.ensures, c.in_ok-checked_mul.ensures, c.digit_value-digit.ensures) in
    c.from_residual-in_err-value.ensures ∙ sym (past_word _ _ _ _ c.loop-byte-test.true c.requires.some is_digit past)
    ∙ l.invariant.rest

pub loop-byte-preserved : goal.loop-byte-preserved
loop-byte-preserved c =
    let l = c.loop-byte in
    let is_digit : digit_value (get_or c.args.text.now l.byte-index 0) < c.args.base =
    omega (arith, c.digit_value-digit.ensures) in
    let next : c.in_ok-value.value ≡ l.value * c.args.base + digit_value (get_or c.args.text.now l.byte-index 0) =
    omega (arith, c.in_ok-value.ensures, c.in_ok-checked_mul.ensures, c.digit_value-digit.ensures) in
    let small : c.in_ok-value.value < 2 ^ 32 = omega (arith, c.in_ok-value.ensures) in
    record {
      small = small;
      rest = rw next (sym (next_digit _ _ _ _ c.loop-byte-test.true is_digit) ∙ l.invariant.rest);
    }

pub returns : goal.returns
returns c =
    sym (last_digit c.args.base c.loop-byte.value c.loop-byte.byte-index c.args.text.now c.loop-byte-test.false
    c.loop-byte.invariant.small) ∙ c.loop-byte.invariant.rest
