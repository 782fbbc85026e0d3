use Rattle.std.proofs.Common.{◌≡◌, ◌<◌, ◌^◌, drop}
use Rattle.ipb_base.specs.Digits.{digits_in_base}
use Rattle.ipb_base.proofs.ReadDigits.{number_after}
use Rattle.ipb_base.proofs.digits.digits_value.Given as goal

abbrev pub invariant-loop-byte : goal.invariant-loop-byte
invariant-loop-byte l = record {
  small : l.value < 2 ^ 32;
  rest : number_after l.base l.value (drop l.byte-index l.text) ≡ digits_in_base l.base l.text;
}
