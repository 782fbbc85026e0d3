use Rattle.std.proofs.Common.{◌≡◌, List, [], ◌∷◌, refl, ap, arith}
use Rattle.lane_record.specs.declared.outcome.Outcome.{Outcome}
use Rattle.lane_record.specs.Dispatches.{Asked, NumberedAction, Taken}
use Rattle.client_history.proofs.examples.two_connections_leave_what_each_submitted.Goals as goal

pub returns-clause-alternating : goal.returns-clause-alternating
returns-clause-alternating c = λ a b d first second other. record {
  each = (
    record { planned = refl; did = refl; count = refl },
    (record { planned = refl; did = refl; count = refl }, tt),
  );
  nobody_else = (
    omega arith,
    (
      omega arith,
      (
        omega arith,
        (
          omega arith,
          (
            omega arith,
            (omega arith, (omega arith, (omega arith, (omega arith, tt)))),
          ),
        ),
      ),
    ),
  );
}

taken_is : (first other : Outcome) (a : NumberedAction) (xs ys : List NumberedAction)
    → a ∷ (record { seq = 0; action = Taken first } ∷ xs) ≡ a ∷ (record { seq = 0; action = Taken other } ∷ ys)
    → first ≡ other
taken_is first other a xs ys e =
    let second : NumberedAction = record { seq = 0; action = Taken first } in
    let same : second ≡ record { seq = 0; action = Taken other } = cc in
    let action : Taken first ≡ Taken other = ap (λ (x : NumberedAction). x.action) same in
    cc

pub returns-clause-exchanged : goal.returns-clause-exchanged
returns-clause-exchanged c = λ a b d first second other apart is.
    apart (taken_is first other (record { seq = 0; action = Asked })
    (record { seq = 1; action = Asked } ∷ record { seq = 1; action = Taken second } ∷ [])
    (record { seq = 1; action = Asked } ∷ record { seq = 1; action = Taken second } ∷ []) is.each.0.did)

pub returns-clause-left_out : goal.returns-clause-left_out
returns-clause-left_out c = λ a b d first second other is.
    let planned : a ∷ (b ∷ []) ≡ a ∷ [] = is.each.0.planned in absurd cc
