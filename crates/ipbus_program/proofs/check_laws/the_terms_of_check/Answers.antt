use Rattle.std.proofs.Common.{◌==◌, [], length}
use Rattle.std.specs.FinMap.{entries}
use Rattle.node_tree.specs.Overlaps.{overlapping}
use Rattle.session_input.specs.Deserved.{BreaksInCheck}
use Rattle.command_terms.proofs.Documents.{long_refused, one_line}
use Rattle.command_terms.proofs.Statuses.{told_is_done}
use Rattle.ipbus_program.proofs.check_laws.the_terms_of_check.Goals as goal

pub returns : goal.returns
returns c = λ root.
    let laws = c.bytes_have_one_answer_to_check.ensures in record {
      told = λ bytes given status text done.
          told_is_done (length (overlapping [] (entries done.registers)) == 0) status done.told;
      one_line = one_line (BreaksInCheck root) (λ bytes. laws.refusal bytes root);
      right_apart = λ bytes line right refused.
          laws.not_both bytes root right.0 refused.refusal right.1 refused.deserved;
      done_apart = λ bytes line given status text done refused.
          laws.not_both bytes root done.registers refused.refusal done.listed refused.deserved;
      uses_apart = λ bytes line specs links used refused. used;
      long = long_refused (BreaksInCheck root);
      unrefused = λ unread. absurd cc;
      unlinked = λ unlinked bytes specs links used. used;
    }
