-- What passed over the link of a live board is what the machine of the protocol does with the bodies that its clients
-- asked. Profile.
use Rattle.std.specs.Prelude.{◌≡◌, ℕ, ◌+◌, ◌≤◌, ◌==◌, min, Bool, true, false, if◌then◌else◌, List, [], ◌∷◌, ◌++◌}
use Rattle.std.specs.Prelude.{length, map, Option, Some, None, IfSome, get_or}
use Rattle.std.specs.List.{AllByRecursion, slice_get}
use Rattle.ipb_base.specs.Lists.{IsPrefix}
use Rattle.ipb_base.specs.Numbers.{payload_of}
use Rattle.packet_ids.specs.Identifier.{identifier_at}
use Rattle.packet_codec.specs.declared.packet.Order.TheVariants.{Big}
use Rattle.packet_codec.specs.Packet.{packet_bytes}
use Rattle.world_model.specs.declared.offered.Offered.{Offered}
use Rattle.world_model.specs.Facts.{bodies_of}
use Rattle.world_model.specs.Hub.{Hub, new_hub}
use Rattle.world_model.specs.Messages.{control_packet}
use Rattle.world_model.specs.Settings.{Limits}
use Rattle.reliable_engine.specs.MachineRuns.{HasLate, IsFreshRun, IsMachineRun, RunEvent, offers_in}
use Rattle.reliable_engine.specs.Traffic.{Passed}
use Rattle.lane_record.specs.declared.outcome.Outcome.{Outcome}
use Rattle.lane_record.specs.declared.outcome.Outcome.TheVariants.{TimedOut}
use Rattle.links.specs.Receives.{first_status, receives_in}
use Rattle.hub_lane.specs.Heard.{told_by}
use Rattle.hub_lane.specs.Lanes.{BoardStatus}
use Rattle.hub_lane.specs.Run.{GoesOn, IsGreetingOf, LinkFailed, PassesAs}
use Rattle.hub_lane.specs.Fates.{AreFatesAt}
use Rattle.script_plans.specs.declared.board_run.ClientPart.{ClientPart}
use Rattle.script_plans.specs.declared.board_run.BoardRun.{BoardRun}
use Rattle.board_history.specs.History.{bodies_by_client, lates_by_client, outcomes_by_client}
use Rattle.board_history.specs.Links.{HasFailed, LinkReport}
use Rattle.board_history.specs.Order.{bodies_in, order}
use Rattle.board_history.specs.Parts.{AreBeside}

-- ---- the bodies that were asked

-- A body as it was asked of a board: its client, from 1, its words, and what became of it.
pub record AskedBody : Type 0 where
  pub client : ℕ
  pub body : List ℕ
  pub outcome : Outcome

-- those of one client, in order
abbrev pub asked_by : ℕ → List AskedBody → List AskedBody
asked_by client [] = []
asked_by client (one ∷ later) =
    if one.client == client then one ∷ asked_by client later else asked_by client later

abbrev pub body_asked : AskedBody → List ℕ
body_asked one = one.body

abbrev pub outcome_asked : AskedBody → Outcome
outcome_asked one = one.outcome

-- A client asked these bodies, in this order, and this became of them.
pub record HasAsked (client : ℕ) (bodies : List (List ℕ)) (outcomes : List Outcome) (asked : List AskedBody) : Type 0
  where
    pub bodies' : map body_asked (asked_by client asked) ≡ bodies
    pub outcomes' : map outcome_asked (asked_by client asked) ≡ outcomes

-- so of each client from a number on
abbrev pub HaveAsked : ℕ → List (List (List ℕ)) → List (List Outcome) → List AskedBody → Type 0
HaveAsked client [] [] asked = Unit {0}
HaveAsked client (bodies ∷ later) (outcomes ∷ others) asked =
    HasAsked client bodies outcomes asked × HaveAsked (client + 1) later others asked
HaveAsked client bodies outcomes asked = ⊥

-- In the order in which they were asked of a board, these are all bodies of all clients, and nobody else asked any.
pub record WereAsked (bodies : List (List (List ℕ))) (outcomes : List (List Outcome)) (asked : List AskedBody) : Type 0
  where
    pub each : HaveAsked 1 bodies outcomes asked
    pub nobody_else : AllByRecursion (λ (one : AskedBody). (1 ≤ one.client) × (one.client ≤ length bodies)) asked

-- ---- the run of the machine

-- the bodies as a hub is offered them: each under its number, from this one on
abbrev pub offers_of : ℕ → List AskedBody → List Offered
offers_of number [] = []
offers_of number (one ∷ later) = record { tag = number; body = one.body } ∷ offers_of (number + 1) later

-- All of them were offered in these events, in their order; where the link failed, the first of them.
abbrev pub WereOffered : Bool → List AskedBody → List RunEvent → Type 0
WereOffered false asked events = offers_in events ≡ offers_of 0 asked
WereOffered true asked events = IsPrefix (offers_in events) (offers_of 0 asked)

-- This passed over the link; where it failed the last send may be missing.
abbrev pub PassedAll : Bool → List Passed → List Passed → Type 0
PassedAll failed whole passed = PassesAs (if failed then LinkFailed else GoesOn) whole passed

-- What stands beside a body as its late answer is what the hub heard late at its place: these words, or none. Only a
-- body that was timed out has a late answer.
abbrev pub IsLateAt : List (ℕ × List ℕ) → Outcome → Option (List ℕ) → Type 0
IsLateAt lates (TimedOut place rounds) (Some words) = HasLate place words lates
IsLateAt lates (TimedOut place rounds) None = (words : List ℕ) → ¬ HasLate place words lates
IsLateAt lates other (Some words) = ⊥
IsLateAt lates other None = Unit {0}

-- a hub that knows a board by this status, and has sent nothing
abbrev pub hub_greeted : Limits → BoardStatus → Hub
hub_greeted settings status = new_hub status.next (min settings.window status.buffers) settings.rounds

-- the bodies of a board's order
abbrev pub ordered_bodies : BoardRun → List (List ℕ)
ordered_bodies run = bodies_in (order (bodies_by_client run) (outcomes_by_client run))

-- What passed over the link of a live board is a greeting, and then a run of the machine.
pub record IsMachineBoard (settings : Limits) (payload : ℕ) (run : BoardRun) (link : LinkReport) : Type 0 where
  -- the first status that came, which told the packets that the board takes, and the greeting that it ended
  pub status : BoardStatus
  pub told : first_status (receives_in link.traffic) ≡ Some (told_by status)
  pub packets : payload ≡ payload_of status.mtu
  pub greeting : List Passed
  pub greeted : IsGreetingOf settings.rounds status greeting
  -- these are the bodies of all clients, in the order in which they were asked
  pub asked : List AskedBody
  pub of_clients : WereAsked (bodies_by_client run) (outcomes_by_client run) asked
  -- from a hub that knows the board and has sent nothing the machine ran to this hub, by these events; they offered the
  -- bodies that were asked, each under its number
  pub events : List RunEvent
  pub traffic : List Passed
  pub end : Hub
  pub machine : IsMachineRun (hub_greeted settings status) events traffic end end.fates
  pub fresh : IsFreshRun status.next (min settings.window status.buffers) events
  pub failed : Bool
  pub only_failed : failed ≡ true → HasFailed link
  pub offered : WereOffered failed asked events
  -- what passed in the greeting and in the run passed over the link
  pub passed : PassedAll failed (greeting ++ traffic) link.traffic
  -- the bodies that the hub sent first, by place, are the board's order
  pub sent : bodies_of end.sent ≡ ordered_bodies run
  -- what is shown of each body is its fate at the end of the run, or it was lost with the link
  pub fates : AreFatesAt end (map (λ (one : AskedBody). Some one.outcome) asked)
  -- so are the late answers
  pub late : AreBeside (AreBeside (IsLateAt end.lates)) (outcomes_by_client run) (lates_by_client run)

-- Where a status was told over a link, what passed over it is what the machine of the protocol does with some bodies of
-- clients: with those of the run that is shown of its board.
abbrev pub RanAsMachine : LinkReport → Type 0
RanAsMachine link = IfSome (first_status (receives_in link.traffic))
    (λ told. (settings : Limits) × (payload : ℕ) × (run : BoardRun) × IsMachineBoard settings payload run link)

-- ---- late answers, where a run shows them

-- The late answers of a client are those of all its bodies; one behind the end of the list has none.
abbrev pub AreAllLates : List (ℕ × List ℕ) → List Outcome → List (Option (List ℕ)) → Type 0
AreAllLates lates outcomes shown = (k : ℕ) (outcome : Outcome) → slice_get outcomes k ≡ Some outcome
    → IsLateAt lates outcome (get_or shown k None)

-- What a run shows as late answers is all that the hub heard late, over any link.
pub record ShowsEachLate (settings : Limits) (payload : ℕ) (run : BoardRun) (link : LinkReport) : Type 0 where
  pub machine : IsMachineBoard settings payload run link
  pub each : AllByRecursion (λ (part : ClientPart). AreAllLates machine.end.lates part.outcomes part.lates) run.parts

-- ---- packets

-- the packet of a body at a place, as a hub spells it
abbrev pub packet_of : ℕ → ℕ → List ℕ → List ℕ
packet_of first place body = packet_bytes (control_packet Big (identifier_at first place) body)

-- the packets of bodies that stand at the places from this one on
abbrev pub packets_of : ℕ → ℕ → List (List ℕ) → List (List ℕ)
packets_of first place [] = []
packets_of first place (body ∷ later) = packet_of first place body ∷ packets_of first (place + 1) later
