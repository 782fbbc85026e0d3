-- Lemmas on the rounds that timed-out bodies tell: those of the hub that gave them up.
use Rattle.std.proofs.Common.{◌≡◌, ℕ, List, [], Option, refl}
use Rattle.std.specs.Prelude.{IfSome}
use Rattle.world_model.specs.Messages.{ToHub}
use Rattle.world_model.specs.Hub.{Hub, give_up, take_message}
use Rattle.lane_record.specs.declared.outcome.Outcome.{Outcome}
use Rattle.lane_record.specs.Outcomes.{TellsRounds}
use Rattle.lane_record.specs.Bounds.{TellRounds}
use Rattle.lane_record.specs.Offers.{all_lost, put_all}
use Rattle.lane_record.proofs.EachOutcome.{all_lost_hold, give_up_holds, message_holds}

abbrev pub TellsIfThere : ℕ → Option Outcome → Type 0
TellsIfThere rounds o = IfSome o (TellsRounds rounds)

-- the hub gives bodies up after its own rounds
pub give_up_tells : (hub : Hub) (outs : List (Option Outcome)) → hub.fates ≡ [] → TellRounds hub.rounds outs
    → TellRounds hub.rounds (put_all (give_up hub).fates outs)
give_up_tells hub outs none are = give_up_holds (TellsRounds hub.rounds) hub outs (λ place. refl) tt none are

pub message_tells : (rounds : ℕ) (hub : Hub) (message : Option ToHub) (outs : List (Option Outcome)) → hub.fates ≡ []
    → TellRounds rounds outs → TellRounds rounds (put_all (take_message hub message).fates outs)
message_tells rounds hub message outs none are =
    message_holds (TellsRounds rounds) hub message outs (λ id words is place. tt) none are

pub all_lost_tell : (rounds sent : ℕ) (outs : List (Option Outcome)) → TellRounds rounds outs
    → TellRounds rounds (all_lost sent outs)
all_lost_tell rounds sent outs are = all_lost_hold (TellsRounds rounds) sent outs (λ place. tt) are
