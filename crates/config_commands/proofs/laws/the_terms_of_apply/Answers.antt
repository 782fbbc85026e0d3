use Rattle.std.proofs.Common.{[], ◌∷◌}
use Rattle.transcript.specs.Lines.{all_good, transcript_of}
use Rattle.command_terms.proofs.Statuses.{told_is_done}
use Rattle.config_input.specs.Work.{apply_command}
use Rattle.config_commands.proofs.Refused.{long_refused, one_line}
use Rattle.config_commands.proofs.laws.the_terms_of_apply.Goals as goal

pub returns : goal.returns
returns c =
    let laws = c.bytes_have_one_answer_to_a_command.ensures in record {
      told = λ bytes given status text done.
          told_is_done (all_good (transcript_of (done.steps ∷ []) done.written.runs).clients) status done.written.told;
      one_line = one_line apply_command (laws.refusal apply_command);
      right_apart = λ bytes line right refused.
          laws.not_both apply_command bytes right.0 right.1 refused.refusal right.2 refused.deserved;
      done_apart = λ bytes line given status text done refused.
          laws.not_both apply_command bytes done.session (done.steps ∷ []) refused.refusal done.applicable refused.deserved;
      uses_apart = λ bytes line specs links used refused.
          laws.not_both apply_command bytes used.session used.steps refused.refusal used.read refused.deserved;
      long = long_refused apply_command;
      unrefused = λ unread. absurd cc;
      unlinked = λ unlinked. absurd cc;
    }
