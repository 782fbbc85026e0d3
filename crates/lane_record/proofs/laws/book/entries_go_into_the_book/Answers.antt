use Rattle.std.proofs.Common.{None, Some}
use Rattle.lane_record.specs.declared.outcome.Outcome.TheVariants.{LinkLost}
use Rattle.lane_record.proofs.Kept.{kept_ask, kept_plan, kept_seal, kept_took, lost_alone}
use Rattle.lane_record.proofs.laws.book.entries_go_into_the_book.Goals as goal

pub returns-clause-plan : goal.returns-clause-plan
returns-clause-plan c = λ items outcomes window now client seq body is may.
    kept_plan items outcomes window now client seq body may is

pub returns-clause-seal : goal.returns-clause-seal
returns-clause-seal c = λ items outcomes window now is unsealed. kept_seal items outcomes window now unsealed is

pub returns-clause-ask : goal.returns-clause-ask
returns-clause-ask c = λ items outcomes window now client seq is may.
    kept_ask items outcomes window now client seq None may tt (λ outcome e. absurd (cc)) is

pub returns-clause-ask_in_vain : goal.returns-clause-ask_in_vain
returns-clause-ask_in_vain c = λ items outcomes window now client seq is may.
    kept_ask items outcomes window now client seq (Some (LinkLost None)) may (λ sent. absurd (cc)) lost_alone is

pub returns-clause-took : goal.returns-clause-took
returns-clause-took c = λ items outcomes window now client seq outcome is takes.
    kept_took items outcomes window now client seq outcome (record {
      takes = takes;
      within = is.within;
      later = is.given_up_before takes.k takes.claim outcome takes.ask.there takes.became;
    }) is
