use Rattle.std.proofs.Common.{[], inl, inr, refl, arith, codes}
use Rattle.ipb_base.specs.Digits.{digit_value}
use Rattle.session_input.specs.declared.refusal.Refusal.TheVariants.{TooLong}
use Rattle.audit_command.specs.declared.refusal.AuditRefusal.TheVariants.{OfSession}
use Rattle.audit_command.proofs.examples.a_length_that_is_too_long.Goals as goal

pub returns : goal.returns
unfolding digit_value
returns c = record {
  refusal = OfSession TooLong;
  deserved = inl (
    inr (record {
      number = 16777217;
      rest = [];
      line = record { line = codes "16777217"; whole = refl; told = refl };
      more = omega arith;
    }),
    refl,
  );
  spelled = refl;
}
