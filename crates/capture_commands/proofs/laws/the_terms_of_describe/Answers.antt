use Rattle.std.proofs.Common.{inl, refl, subst, ◌<◌, length}
use Rattle.capture_commands.specs.Texts.{DeservesAsCapture}
use Rattle.capture_commands.specs.declared.refusal.TextRefusal.TheVariants.{LongCapture}
use Rattle.capture_commands.proofs.OneAnswer.{capture_unrefused, one_as_capture, one_line, same_limit}
use Rattle.capture_commands.proofs.laws.the_terms_of_describe.Goals as goal

pub returns : goal.returns
returns c =
    let laws = c.a_text_has_one_first_fault.ensures in
    record {
      told = λ bytes given status text is. inl is.told;
      one_line = one_line DeservesAsCapture (one_as_capture laws.one);
      right_apart = λ bytes line right. capture_unrefused laws.none bytes line right.0 right.1;
      done_apart = λ bytes line given status text is. capture_unrefused laws.none bytes line is.capture is.read;
      uses_apart = λ bytes line specs links used refused. used;
      long = λ limit bytes is more. record {
        refusal = LongCapture;
        deserved = subst (λ n. n < length bytes) (same_limit limit is) more;
        spelled = refl;
      };
      unrefused = λ none. absurd cc;
      unlinked = λ none bytes specs links used. used;
    }
