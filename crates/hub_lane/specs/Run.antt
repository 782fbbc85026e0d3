-- The run of a lane: what passed over its link in the greeting, and from then on the events of its engine, with what
-- passed in them. Profile.
use Rattle.std.specs.Prelude.{◌≡◌, ◌⊎◌, ℕ, zero, suc, ◌+◌, ◌<◌, min, Bool, true, false, ◌||◌, List, [], ◌∷◌, ◌++◌, length, map}
use Rattle.std.specs.Prelude.{Option, Some, None}
use Rattle.std.specs.List.{AllByRecursion}
use Rattle.ipb_base.specs.Lists.{IsPrefix}
use Rattle.ipb_base.specs.Numbers.{most_others}
use Rattle.packet_codec.specs.Packet.{packet_bytes}
use Rattle.status_packet.specs.Packets.{status_request}
use Rattle.status_packet.specs.declared.status.Status.{Status}
use Rattle.world_model.specs.declared.offered.Offered.{Offered}
use Rattle.world_model.specs.Messages.{to_hub}
use Rattle.world_model.specs.Hub.{Hub, after_handing_out, is_waiting, new_hub}
use Rattle.world_model.specs.Settings.{Limits}
use Rattle.reliable_engine.specs.MachineRuns.{IsFreshRun, IsMachineRun, RunEvent, offers_in}
use Rattle.reliable_engine.specs.MachineRuns as happens
use Rattle.reliable_engine.specs.Traffic.{Got, Passed, Quiet, Sent}
use Rattle.links.specs.Receives.{tells_status}
use Rattle.links.specs.declared.link.LinkFault.{LinkFault}
use Rattle.links.specs.declared.link.LinkFault.TheVariants.{Failed, NoMemory}
use Rattle.lane_record.specs.declared.item.Item.{Item}
use Rattle.lane_record.specs.declared.outcome.Outcome.{Outcome}
use Rattle.lane_record.specs.Claims.{Claim, claims}
use Rattle.lane_record.specs.Offers.{offer_of}
use Rattle.hub_lane.specs.declared.answers.Pumped.{Pumped}
use Rattle.hub_lane.specs.declared.answers.Pumped.TheVariants as pumps
use Rattle.hub_lane.specs.declared.greeting.Answer.{Answer}
use Rattle.hub_lane.specs.declared.greeting.Answer.TheVariants as answer
use Rattle.hub_lane.specs.Fates.{AreFatesAt, AreLatesAt}
use Rattle.hub_lane.specs.Heard.{told_by}
use Rattle.hub_lane.specs.Lanes.{BoardStatus, status_of}

-- ---- the greeting

-- a datagram that tells no status
abbrev pub TellsNone : List ℕ → Type 0
TellsNone datagram = tells_status (to_hub datagram) ≡ false

-- Datagrams came that tell no status, fewer than a round hears, and then a receive was quiet; or as many came as a round
-- hears.
pub record HearsNone (passed : List Passed) : Type 0 where
  pub others : List (List ℕ)
  pub none_told : AllByRecursion TellsNone others
  pub ended : ((passed ≡ map Got others ++ Quiet ∷ []) × (length others < most_others))
      ⊎ ((passed ≡ map Got others) × (length others ≡ most_others))

-- such datagrams came, fewer than a round hears, and then one that tells this status
pub record HearsStatus (status : BoardStatus) (passed : List Passed) : Type 0 where
  pub others : List (List ℕ)
  pub none_told : AllByRecursion TellsNone others
  pub few : length others < most_others
  pub datagram : List ℕ
  pub told : to_hub datagram ≡ Some (told_by status)
  pub passed_is : passed ≡ map Got others ++ Got datagram ∷ []

abbrev pub HearsAsFound : Option Status → List Passed → Type 0
HearsAsFound None passed = HearsNone passed
HearsAsFound (Some status) passed = HearsStatus (status_of status) passed

-- a round: the status is asked for once, and then this is heard
abbrev pub round_with : List Passed → List Passed
round_with heard = Sent (packet_bytes status_request) ∷ heard

-- a round in which no status was told
pub record IsVainRound (passed : List Passed) : Type 0 where
  pub heard : List Passed
  pub passed_is : passed ≡ round_with heard
  pub vain : HearsNone heard

-- so many such rounds, one after another
abbrev pub AreVainRounds : ℕ → List Passed → Type 0
AreVainRounds zero passed = passed ≡ []
AreVainRounds (suc rounds) passed = (before : List Passed) × (last : List Passed) × (passed ≡ before ++ last)
    × AreVainRounds rounds before × IsVainRound last

-- What passed in a greeting that this status ended: rounds in which none was told, and then the one in which it was, all
-- in all at most so many.
pub record IsGreetingOf (rounds : ℕ) (status : BoardStatus) (passed : List Passed) : Type 0 where
  pub vain : ℕ
  pub fewer : vain < rounds
  pub before : List Passed
  pub vain_rounds : AreVainRounds vain before
  pub heard : List Passed
  pub told : HearsStatus status heard
  pub passed_is : passed ≡ before ++ round_with heard

-- ---- a greeting in which the link failed

-- datagrams came that tell no status, fewer than a round hears
pub record HearsNoneYet (passed : List Passed) : Type 0 where
  pub others : List (List ℕ)
  pub none_told : AllByRecursion TellsNone others
  pub few : length others < most_others
  pub passed_is : passed ≡ map Got others

-- The beginning of a round in which the link failed. Nothing passed where it failed at the request. Where it failed at a
-- receive, the status was asked for once, and then this was heard.
abbrev pub IsRoundCutOff : List Passed → Type 0
IsRoundCutOff passed = (passed ≡ []) ⊎ ((heard : List Passed) × HearsNoneYet heard × (passed ≡ round_with heard))

-- What passed in a greeting in which the link failed: rounds in which no status was told, fewer than so many, and then
-- the beginning of one more.
pub record IsGreetingCutOff (rounds : ℕ) (passed : List Passed) : Type 0 where
  pub vain : ℕ
  pub fewer : vain < rounds
  pub before : List Passed
  pub vain_rounds : AreVainRounds vain before
  pub last : List Passed
  pub cut_off : IsRoundCutOff last
  pub passed_is : passed ≡ before ++ last

-- ---- receives and rounds of a greeting

-- what one receive of a greeting adds to what passed before
abbrev pub PassesAnswer : Answer → List Passed → List Passed → Type 0
PassesAnswer (answer.Told status) old new = (datagram : List ℕ)
    × (to_hub datagram ≡ Some (told_by (status_of status))) × (new ≡ old ++ Got datagram ∷ [])
PassesAnswer answer.Nothing old new = new ≡ old ++ Quiet ∷ []
PassesAnswer answer.Other old new = (datagram : List ℕ) × TellsNone datagram × (new ≡ old ++ Got datagram ∷ [])

-- the receives of a round add this, where a status was found or none
pub record PassesHeard (found : Option Status) (old new : List Passed) : Type 0 where
  pub heard : List Passed
  pub ends : HearsAsFound found heard
  pub passed_is : new ≡ old ++ heard

-- so does the round
pub record PassesRound (found : Option Status) (old new : List Passed) : Type 0 where
  pub heard : List Passed
  pub ends : HearsAsFound found heard
  pub passed_is : new ≡ old ++ round_with heard

-- the receives of a round add this, where one of them failed
pub record PassesNoneYet (old new : List Passed) : Type 0 where
  pub heard : List Passed
  pub none_yet : HearsNoneYet heard
  pub passed_is : new ≡ old ++ heard

-- and a round adds this, where its send or a receive failed
pub record PassesRoundCutOff (old new : List Passed) : Type 0 where
  pub last : List Passed
  pub cut_off : IsRoundCutOff last
  pub passed_is : new ≡ old ++ last

-- ---- the engine

-- how a run over a link ends: it goes on, or the link failed in it, or memory ran out
pub data Ending : Type 0 where
  GoesOn : Ending
  LinkFailed : Ending
  MemoryRanOut : Ending

-- the ending of a lane that is down or not, and spent or not; one that is down is not spent
abbrev pub ending_of : Bool → Bool → Ending
ending_of true spent = LinkFailed
ending_of false true = MemoryRanOut
ending_of false false = GoesOn

-- the ending by a fault of a link
abbrev pub ending_by : LinkFault → Ending
ending_by Failed = LinkFailed
ending_by NoMemory = MemoryRanOut

-- What passed is what was to pass. Where the link failed the last send may be missing. Where memory ran out the last
-- send may be missing; or a last datagram came that was not heard.
abbrev pub PassesAs : Ending → List Passed → List Passed → Type 0
PassesAs GoesOn whole passed = passed ≡ whole
PassesAs LinkFailed whole passed = (passed ≡ whole) ⊎ ((bytes : List ℕ) × (whole ≡ passed ++ Sent bytes ∷ []))
PassesAs MemoryRanOut whole passed = (passed ≡ whole) ⊎ ((bytes : List ℕ) × (whole ≡ passed ++ Sent bytes ∷ []))
    ⊎ ((bytes : List ℕ) × (passed ≡ whole ++ Got bytes ∷ []))

-- From one hub to another the machine ran: its events join the run, and what passes in them passes over the link, as the
-- ending allows. These bodies were offered in them. The hub is that of the end, but that fates and late answers may have
-- been handed out.
pub record RunsOn (ending : Ending) (offered : List Offered) (hub hub_now : Hub) (run run_now : List RunEvent)
    (passed passed_now : List Passed) : Type 0 where
  pub events : List RunEvent
  pub traffic : List Passed
  pub end : Hub
  pub machine : IsMachineRun hub events traffic end end.fates
  pub run_is : run_now ≡ run ++ events
  pub offers : offers_in events ≡ offered
  pub hub_is : after_handing_out end ≡ after_handing_out hub_now
  pub passes : PassesAs ending (passed ++ traffic) passed_now

-- the same where nothing was handed out: the hub is that of the end
pub record RunsTo (ending : Ending) (offered : List Offered) (hub end : Hub) (run run_now : List RunEvent)
    (passed passed_now : List Passed) : Type 0 where
  pub runs : RunsOn ending offered hub end run run_now passed passed_now
  pub end_is : runs.end ≡ end

-- ---- a receive

-- what the engine heard in a receive that came to this and left these bytes in its buffer, and what passed before and in
-- it
abbrev pub events_of : Pumped → List ℕ → List RunEvent
events_of (pumps.Reply place) bytes = happens.Heard bytes ∷ []
events_of pumps.Status bytes = happens.Heard bytes ∷ []
events_of pumps.Stray bytes = happens.Heard bytes ∷ []
events_of pumps.Quiet bytes = happens.Quiet ∷ []
events_of pumps.Idle bytes = []
events_of pumps.LinkDown bytes = []

abbrev pub passed_of : Pumped → List ℕ → List Passed → List Passed
passed_of (pumps.Reply place) bytes before = before ++ Got bytes ∷ []
passed_of pumps.Status bytes before = before ++ Got bytes ∷ []
passed_of pumps.Stray bytes before = before ++ Got bytes ∷ []
passed_of pumps.Quiet bytes before = before ++ Quiet ∷ []
passed_of pumps.Idle bytes before = before
passed_of pumps.LinkDown bytes before = before

-- nothing was received where the link failed; where memory ran out nothing was, or a datagram that was not heard
abbrev pub IsUnheard : LinkFault → List Passed → List Passed → Type 0
IsUnheard Failed before now = now ≡ before
IsUnheard NoMemory before now = (now ≡ before) ⊎ ((bytes : List ℕ) × (now ≡ before ++ Got bytes ∷ []))

-- ---- the lane

-- the bodies of the Asks from this number on, in order, each under its number
abbrev pub offers_of_asks : ℕ → List Claim → List Offered
offers_of_asks number [] = []
offers_of_asks number (claim ∷ later) = offer_of number claim ∷ offers_of_asks (number + 1) later

-- the bodies that were offered are those of the Asks, in order, up to the one before which the link failed
abbrev pub AreOffersOf : Bool → List Claim → List Offered → Type 0
AreOffersOf false claims offered = offered ≡ offers_of_asks 0 claims
AreOffersOf true claims offered = IsPrefix offered (offers_of_asks 0 claims)

-- What passed over the link of a lane: a greeting that its status ended, and then the machine's run from a hub that
-- knows the board and has sent nothing to the hub that the lane has now. Its offers are the bodies of the Asks. What the
-- lane shows of each Ask is its fate in that run, and what came late at each place is what came late there. Where memory
-- ran out somebody waits, and the link did not fail.
pub record HasRun (settings : Limits) (status : BoardStatus) (hub : Hub) (items : List Item)
    (outcomes : List (Option Outcome)) (lates : List (Option (List ℕ))) (down spent : Bool) (run : List RunEvent)
    (passed : List Passed) : Type 0 where
  pub greeting : List Passed
  pub greeted : IsGreetingOf settings.rounds status greeting
  pub offered : List Offered
  pub runs : RunsOn (ending_of down spent) offered
      (new_hub status.next (min settings.window status.buffers) settings.rounds) hub [] run greeting passed
  pub offers : AreOffersOf down (claims items) offered
  pub fresh : IsFreshRun status.next (min settings.window status.buffers) run
  pub became : AreFatesAt runs.end outcomes
  pub late : AreLatesAt runs.end lates
  pub waits : spent ≡ true → is_waiting hub ≡ true
  pub still_up : spent ≡ true → down ≡ false
