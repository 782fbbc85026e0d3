use Rattle.std.proofs.Common.{List, [], ◌∷◌, refl, arith}
use Rattle.lane_record.specs.declared.outcome.Outcome.{Outcome}
use Rattle.client_history.specs.ClientExamples.{one_after_another, side_by_side}
use Rattle.client_history.proofs.examples.two_clients_leave_what_each_took.Goals as goal

abbrev took : Outcome → Outcome → List (List (List Outcome))
took one other = ((one ∷ []) ∷ []) ∷ ((other ∷ []) ∷ []) ∷ []

pub returns-clause-asked : goal.returns-clause-asked
returns-clause-asked c = λ a b. refl

pub returns-clause-side_by_side : goal.returns-clause-side_by_side
returns-clause-side_by_side c = λ a b one other. record {
  dispatches = took one other;
  cut = refl;
  outcomes = refl;
  left = record {
    shape = refl;
    past = side_by_side one other;
    opens = refl;
    each = (refl, (refl, tt));
    nobody_else = (
      (omega arith, omega arith),
      ((omega arith, omega arith), ((omega arith, omega arith), ((omega arith, omega arith), tt))),
    );
  };
}

pub returns-clause-one_after_another : goal.returns-clause-one_after_another
returns-clause-one_after_another c = λ a b one other. record {
  dispatches = took one other;
  cut = refl;
  outcomes = refl;
  left = record {
    shape = refl;
    past = one_after_another one other;
    opens = refl;
    each = (refl, (refl, tt));
    nobody_else = (
      (omega arith, omega arith),
      ((omega arith, omega arith), ((omega arith, omega arith), ((omega arith, omega arith), tt))),
    );
  };
}
