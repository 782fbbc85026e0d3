use Rattle.session_input.specs.Deserved.{BreaksInServe}
use Rattle.serve_command.specs.Text.{all_closed}
use Rattle.command_terms.proofs.Documents.{long_refused, one_line}
use Rattle.command_terms.proofs.Statuses.{told_is_done}
use Rattle.serve_command.proofs.laws.the_terms_of_serve.Goals as goal

pub returns : goal.returns
returns c = λ count.
    let laws = c.bytes_have_one_answer_to_serve.ensures in record {
      told = λ bytes given status text done. told_is_done (all_closed done.connections) status done.status';
      one_line = one_line BreaksInServe laws.refusal;
      right_apart = λ bytes line right refused.
          laws.not_both bytes right.0 refused.refusal right.1 refused.deserved;
      done_apart = λ bytes line given status text done refused.
          laws.not_both bytes done.session refused.refusal done.servable refused.deserved;
      uses_apart = λ bytes line specs links used refused.
          laws.not_both bytes used.session refused.refusal used.servable refused.deserved;
      long = long_refused BreaksInServe;
      unrefused = λ unread. absurd cc;
      unlinked = λ unlinked. absurd cc;
    }
