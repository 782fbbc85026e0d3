use Rattle.std.proofs.Common.{refl, sym, ◌∙◌, arith}
use Rattle.board_history.proofs.OneRead.{answered, apart}
use Rattle.client_history.proofs.examples.wrong_boards_are_refused.Goals as goal

pub returns-clause-two_at_one_place : goal.returns-clause-two_at_one_place
returns-clause-two_at_one_place c = λ word differ. differ.0.0 refl

pub returns-clause-never_executed : goal.returns-clause-never_executed
returns-clause-never_executed c = λ is. let there = is.body' in absurd cc

pub returns-clause-another_body : goal.returns-clause-another_body
returns-clause-another_body c = λ is. let there = is.body' in absurd cc

pub returns-clause-another_bus : goal.returns-clause-another_bus
returns-clause-another_bus c = λ is. let e = apart 7 8 (sym answered ∙ is.words') in absurd (omega arith)
