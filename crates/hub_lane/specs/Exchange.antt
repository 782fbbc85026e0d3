-- What an exchange makes of a hub, of what became of its bodies, and of its link: all that the hub wants is sent, and
-- then comes one receive. Profile.
use Rattle.std.specs.Prelude.{◌≡◌, ℕ, List, IfSome}
use Rattle.links.specs.declared.link.Link.{Ghosts}
use Rattle.links.specs.Telling.{IfTelling}
use Rattle.world_model.specs.Hub.{Hub, after_handing_out}
use Rattle.lane_record.specs.Lates.{put_lates}
use Rattle.lane_record.specs.Offers.{put_all}
use Rattle.lane_tables.specs.OutcomeTable.{TableState}
use Rattle.hub_lane.specs.declared.answers.Pumped.{Pumped}
use Rattle.hub_lane.specs.Carrying.{Brings, Carries}
use Rattle.hub_lane.specs.Hearing.{IsEventAs, WasReceived, give_ups_of, hub_after}
use Rattle.hub_lane.specs.Links.{ReceivesNothing}
use Rattle.hub_lane.specs.Rounds.{PaysFor, Pumps, RoundFor}
use Rattle.hub_lane.specs.Sends.{HasSent, all_sent}
use Rattle.hub_lane.specs.Standing.{StaysUnanswered}

-- ---- the hub

-- a receive came to this and left these bytes, and so the hub became this one
pub record Hears (pumped : Pumped) (bytes : List ℕ) (old new : Hub) : Type 0 where
  pub event : IsEventAs old bytes pumped
  pub hub : new ≡ hub_after pumped bytes old

-- All was sent, and then came this. What the hub settled stands among the outcomes and the late answers, and its
-- give-ups are counted on.
pub record Settles (pumped : Pumped) (bytes : List ℕ) (old new : Hub) (before after : TableState)
    (count count_now : ℕ) : Type 0 where
  pub event : IsEventAs (all_sent old) bytes pumped
  pub hub : new ≡ after_handing_out (hub_after pumped bytes (all_sent old))
  pub outcomes : after.items ≡ put_all (hub_after pumped bytes (all_sent old)).fates before.items
  pub lates : after.lates ≡ put_lates (hub_after pumped bytes (all_sent old)).lates before.lates
  pub give_ups : count_now ≡ give_ups_of pumped (hub_after pumped bytes (all_sent old)) count

-- some sends were taken from the hub, and nothing is settled
pub record SettlesNothing (old new : Hub) (before after : TableState) (count count_now : ℕ) : Type 0 where
  pub sent : HasSent old new
  pub outcomes : after.items ≡ before.items
  pub lates : after.lates ≡ before.lates
  pub give_ups : count_now ≡ count

-- ---- the hub and its link

-- What a receive that came to this is over a link that tells: what it brought, that it leaves no reply of an open place
-- unheard, and what it makes of the rounds.
pub record TellsReceive {L : Type 0} (seen : Ghosts L) (pumped : Pumped) (bytes : List ℕ) (hub heard : Hub)
    (old new : L) : Type 0 where
  pub received : IfSome (seen.telling new) (WasReceived pumped bytes)
  pub brings : IfTelling (seen.telling old) (seen.telling new) (Brings pumped bytes)
  pub unanswered : StaysUnanswered (seen.telling old) hub (seen.telling new) heard
  pub pays : PaysFor pumped (seen.telling old) hub (seen.held old) (seen.telling new) heard (seen.held new)
  pub round : RoundFor (Pumps pumped) (seen.telling old) hub (seen.held old) (seen.telling new) heard (seen.held new)

-- the same of an exchange
pub record TellsExchange {L : Type 0} (seen : Ghosts L) (pumped : Pumped) (bytes : List ℕ) (hub heard : Hub)
    (old new : L) : Type 0 where
  pub received : IfSome (seen.telling new) (WasReceived pumped bytes)
  pub carries : IfTelling (seen.telling old) (seen.telling new) (Carries pumped bytes hub)
  pub unanswered : StaysUnanswered (seen.telling old) hub (seen.telling new) heard
  pub round : RoundFor (Pumps pumped) (seen.telling old) hub (seen.held old) (seen.telling new) heard (seen.held new)

-- the network failed: nothing was received, so no reply of an open place is unheard
pub record FailsUnheard {L : Type 0} (seen : Ghosts L) (hub hub_now : Hub) (old new : L) : Type 0 where
  pub receives : ReceivesNothing seen old new
  pub unanswered : StaysUnanswered (seen.telling old) hub (seen.telling new) hub_now
