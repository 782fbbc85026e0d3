use Rattle.std.proofs.Common.{subst, sym, ◌↔◌}
use Rattle.std.specs.Prelude.{IsTrue}
use Rattle.board_berth.specs.declared.greeting.Greeting.{Greeting}
use Rattle.board_berth.specs.Greetings.{IsOver}
use Rattle.board_berth.proofs.greeting.Greeting.is_over.Goals as goal

pub returns-in-Answered : goal.returns-in-Answered
returns-in-Answered g c = subst (λ (x : Greeting _). IsTrue c.is_all_taken.result ↔ IsOver x) (sym c.in-Answered.is)
    c.is_all_taken.ensures
