use Rattle.command_terms.proofs.Statuses.{told_is_done}
use Rattle.load_run.proofs.laws.the_terms_of_load.Goals as goal

pub returns : goal.returns
returns c = λ count. record {
  told = λ bytes given status text done. told_is_done done.done status done.told;
  one_line = λ bytes line other refused. absurd refused;
  right_apart = λ bytes line right refused. refused;
  done_apart = λ bytes line given status text done refused. refused;
  uses_apart = λ bytes line specs links used refused. refused;
  long = λ limit bytes is more. absurd cc;
  unrefused = λ unread bytes line refused. refused;
  unlinked = λ unlinked. absurd cc;
}
