use Rattle.run_audit.proofs.WellPlaced.{counted_place, later_place, same_body}
use Rattle.run_audit.proofs.laws.places_tell_bodies_apart.Goals as goal

pub returns-clause-same : goal.returns-clause-same
returns-clause-same c = λ boards scripts shown board i j told one other right there.
    same_body boards scripts shown board told right there i j one other

pub returns-clause-rising : goal.returns-clause-rising
returns-clause-rising c = λ boards scripts shown board i j told one other right there.
    later_place boards scripts shown board told right there i j one other

pub returns-clause-counted : goal.returns-clause-counted
returns-clause-counted c = λ boards scripts shown board i told piece right there.
    counted_place boards scripts shown board told right there i piece
