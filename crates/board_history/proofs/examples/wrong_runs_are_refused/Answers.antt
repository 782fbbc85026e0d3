use Rattle.std.proofs.Common.{refl, sym, ◌∙◌, arith}
use Rattle.board_history.proofs.OneRead.{answered, apart}
use Rattle.board_history.proofs.examples.wrong_runs_are_refused.Goals as goal

pub returns-clause-another_bus : goal.returns-clause-another_bus
returns-clause-another_bus c = λ h. let e = apart 7 8 (sym answered ∙ h.0.0) in absurd (omega arith)

pub returns-clause-late_of_another_bus : goal.returns-clause-late_of_another_bus
returns-clause-late_of_another_bus c = λ h. let e = apart 7 8 (sym answered ∙ h.0.0) in absurd (omega arith)

pub returns-clause-right : goal.returns-clause-right
returns-clause-right c = record {
  shape = refl;
  one_order = (refl, tt);
  script_order = ((omega arith, tt), tt);
  replies = ((answered, tt), tt);
  late = tt;
}

pub returns-clause-right_late : goal.returns-clause-right_late
returns-clause-right_late c = record {
  shape = refl;
  one_order = (refl, tt);
  script_order = ((omega arith, tt), tt);
  replies = ((tt, tt), tt);
  late = ((answered, tt), tt);
}
