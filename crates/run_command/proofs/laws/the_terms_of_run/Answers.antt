use Rattle.session_input.specs.Deserved.{BreaksInRun}
use Rattle.transcript.specs.Lines.{all_good, transcript_of}
use Rattle.command_terms.proofs.Documents.{long_refused, one_line}
use Rattle.command_terms.proofs.Statuses.{told_is_done}
use Rattle.run_command.proofs.laws.the_terms_of_run.Goals as goal

pub returns : goal.returns
returns c =
    let laws = c.bytes_have_one_answer_to_run.ensures in record {
      told = λ bytes given status text done.
          told_is_done (all_good (transcript_of done.steps done.runs).clients) status done.told;
      one_line = one_line BreaksInRun laws.refusal;
      right_apart = λ bytes line right refused. laws.not_both bytes right.0 right.1 refused.refusal right.2 refused.deserved;
      done_apart = λ bytes line given status text done refused.
          laws.not_both bytes done.session done.steps refused.refusal done.runnable refused.deserved;
      uses_apart = λ bytes line specs links used refused.
          laws.not_both bytes used.session used.steps refused.refusal used.runnable refused.deserved;
      long = long_refused BreaksInRun;
      unrefused = λ unread. absurd cc;
      unlinked = λ unlinked. absurd cc;
    }
