use Rattle.lane_record.specs.Outcomes.{is_lost, is_replied}
use Rattle.lane_record.proofs.Kept.{asked_within, kept_given_up, kept_goes, lost_calm, replied_calm}
use Rattle.lane_record.proofs.laws.book.outcomes_go_into_the_book.Goals as goal

pub returns-clause-replied : goal.returns-clause-replied
returns-clause-replied c = λ items old new window now is keeps adds places.
    kept_goes items old new is_replied window now replied_calm keeps adds places is

pub returns-clause-lost : goal.returns-clause-lost
returns-clause-lost c = λ items old new window now is keeps adds places.
    kept_goes items old new is_lost window now lost_calm keeps adds places is

pub returns-clause-gave_up : goal.returns-clause-gave_up
returns-clause-gave_up c = λ items old new window now is keeps few places.
    kept_given_up items old new window now keeps few places is

pub returns-clause-asked : goal.returns-clause-asked
returns-clause-asked c = λ items outcomes window now k claim is e. asked_within now items k claim is.within e
