use Rattle.std.proofs.Common.{inl, refl, subst, ◌<◌, length}
use Rattle.session_input.specs.declared.refusal.Refusal.TheVariants.{TooLong}
use Rattle.audit_command.specs.declared.refusal.AuditRefusal.TheVariants.{OfSession}
use Rattle.audit_command.proofs.Owed.{done_by, one_line, same_limit}
use Rattle.audit_command.proofs.laws.the_terms_of_audit.Goals as goal

pub returns : goal.returns
returns c =
    let laws = c.an_input_has_one_answer.ensures in
    record {
      told = λ bytes given status text is. done_by is.verdict status is.told;
      one_line = one_line laws.refusal;
      right_apart = λ bytes line right refused.
          laws.not_both bytes right.0 right.1 right.2 refused.refusal right.3 refused.deserved;
      done_apart = λ bytes line given status text is refused.
          laws.not_both bytes is.session is.steps is.transcript refused.refusal is.input refused.deserved;
      uses_apart = λ bytes line specs links used refused. used;
      long = λ limit bytes is more. record {
        refusal = OfSession TooLong;
        deserved = inl (inl (subst (λ n. n < length bytes) (same_limit limit is) more), refl);
        spelled = refl;
      };
      unrefused = λ none. absurd cc;
      unlinked = λ none bytes specs links used. used;
    }
