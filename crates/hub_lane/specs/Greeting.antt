-- The greeting of a board: it is asked for its status, round by round, until it tells it. IPbus 2.0, status packet; the
-- rounds are the profile's.
use Rattle.std.specs.Prelude.{◌≡◌, ℕ, ◌+◌, ◌*◌, ◌<◌, ◌≤◌, false, [], count_by, length, Option, Some, None, IfSome}
use Rattle.std.specs.List.{Contains}
use Rattle.ipb_base.specs.Numbers.{most_others}
use Rattle.ipb_base.specs.Faults.{Rose, one_more}
use Rattle.status_packet.specs.declared.status.Status.{Status}
use Rattle.world_model.specs.Air.{is_for_board}
use Rattle.world_model.specs.Messages.{ToHub, StatusReply}
use Rattle.world_model.specs.Facts.{IsStart}
use Rattle.world_model.specs.Settings.{Limits}
use Rattle.links.specs.Receives.{receives_in, tells_status}
use Rattle.links.specs.Telling.{IfTelling, Telling}
use Rattle.links.specs.declared.link.Link.{Ghosts}
use Rattle.hub_lane.specs.declared.greeting.Answer.{Answer}
use Rattle.hub_lane.specs.declared.greeting.Answer.TheVariants as answer
use Rattle.hub_lane.specs.declared.greeting.Greeted.{Greeted}
use Rattle.hub_lane.specs.declared.greeting.Greeted.TheVariants.{Ready, Silent, Down, NoMemory}
use Rattle.hub_lane.specs.Heard.{EndWith, EndsWithStatus}
use Rattle.hub_lane.specs.Lanes.{BoardStatus, IsGreeted, LaneState, status_of}
use Rattle.hub_lane.specs.Standing.{AreInAir}

-- A run can begin at this board and this air: nothing was executed, and nothing but greetings is in the air, where all
-- stands that was handed out.
pub record CanBegin (settings : Limits) (t : Telling) : Type 0 where
  pub start : IsStart settings.window t.told.board t.told.air
  pub in_air : AreInAir t

-- a run can begin there still, and the board is as it was
pub record StaysFresh (settings : Limits) (old new : Telling) : Type 0 where
  pub begins : CanBegin settings new
  pub same_board : new.told.board ≡ old.told.board

-- some datagram is still to be heard
pub record IsExpecting (t : Telling) : Type 0 where
  pub place : ℕ
  pub due : Contains t.due place
  pub there : place < length t.told.air

-- no call of the link was counted yet, and nothing was received
pub record IsUnused {L : Type 0} (seen : Ghosts L) (link : L) : Type 0 where
  pub no_faults : seen.faults link ≡ 0
  pub no_quiets : seen.quiets link ≡ 0
  pub no_gots : seen.gots link ≡ 0
  pub none_held : seen.held link ≡ 0
  pub no_traffic : seen.traffic link ≡ []

-- how many datagrams of the air are for the board
abbrev pub requests_in : Telling → ℕ
requests_in t = count_by is_for_board t.told.air

-- as many as before
abbrev pub HasAskedNothing : Telling → Telling → Type 0
HasAskedNothing old new = requests_in new ≡ requests_in old

-- so many more, or fewer
abbrev pub HasAskedAtMost : ℕ → Telling → Telling → Type 0
HasAskedAtMost most old new = requests_in new ≤ requests_in old + most

-- ---- one receive

-- a datagram tells this status, and nothing else is told
abbrev pub IsTold : ℕ → ℕ → ℕ → Answer → Type 0
IsTold mtu buffers next (answer.Told status) =
    (status.mtu ≡ mtu) × (status.buffers ≡ buffers) × (status.next ≡ next)
IsTold mtu buffers next answer.Nothing = ⊥
IsTold mtu buffers next answer.Other = ⊥

abbrev pub IfTold : Answer → (Status → Type 0) → Type 0
IfTold (answer.Told status) holds = holds status
IfTold answer.Nothing holds = Unit {0}
IfTold answer.Other holds = Unit {0}

-- what a datagram says to a hub, where a receive of a greeting came to this
abbrev pub IsSaid : Option ToHub → Answer → Type 0
IsSaid said (answer.Told status) = said ≡ Some (StatusReply status.mtu status.buffers status.next)
IsSaid said answer.Nothing = ⊥
IsSaid said answer.Other = tells_status said ≡ false

-- the status that was told
abbrev pub status_in : Answer → Option Status
status_in (answer.Told status) = Some status
status_in answer.Nothing = None
status_in answer.Other = None

abbrev pub IsDatagram : Answer → Type 0
IsDatagram (answer.Told status) = Unit {0}
IsDatagram answer.Nothing = ⊥
IsDatagram answer.Other = Unit {0}

-- Over a link that tells, a datagram is a status reply with the status of the board; and a receive is quiet only where
-- nothing is expected or datagrams were held. `before` and `now` count those that are held.
abbrev pub IsHeardFrom : Limits → ℕ → ℕ → Answer → Telling → Telling → Type 0
IsHeardFrom settings before now (answer.Told status) old new = IsGreeted settings (status_of status) new
IsHeardFrom settings before now answer.Nothing old new = IsExpecting old → Rose before now
IsHeardFrom settings before now answer.Other old new = ⊥

abbrev pub quiets_of_answer : Answer → ℕ → ℕ
quiets_of_answer (answer.Told status) count = count
quiets_of_answer answer.Nothing count = one_more count
quiets_of_answer answer.Other count = count

abbrev pub gots_of_answer : Answer → ℕ → ℕ
gots_of_answer (answer.Told status) count = one_more count
gots_of_answer answer.Nothing count = count
gots_of_answer answer.Other count = one_more count

-- a receive that came to this is counted; the link has the same number
pub record CountsAnswer {L : Type 0} (seen : Ghosts L) (heard : Answer) (old new : L) : Type 0 where
  pub quiets : seen.quiets new ≡ quiets_of_answer heard (seen.quiets old)
  pub gots : seen.gots new ≡ gots_of_answer heard (seen.gots old)
  pub number : seen.number new ≡ seen.number old

-- a receive that failed is not
pub record CountsNoAnswer {L : Type 0} (seen : Ghosts L) (old new : L) : Type 0 where
  pub quiets : seen.quiets new ≡ seen.quiets old
  pub gots : seen.gots new ≡ seen.gots old
  pub number : seen.number new ≡ seen.number old

abbrev pub IfNothing : Answer → Type 0 → Type 0
IfNothing (answer.Told status) P = Unit {0}
IfNothing answer.Nothing P = P
IfNothing answer.Other P = Unit {0}

-- no datagram was handed out
abbrev pub HandedOutNone : Telling → Telling → Type 0
HandedOutNone old new = new.handed ≡ old.handed

-- ---- a round

-- Over a link that tells, a round ends with the status of the board, or with a quiet receive, and then datagrams were
-- held where any was expected.
abbrev pub EndsRoundWith : Limits → ℕ → ℕ → ℕ → ℕ → Option Status → Telling → Telling → Type 0
EndsRoundWith settings quiets quiets_now held held_now (Some status) old new =
    IsGreeted settings (status_of status) new
EndsRoundWith settings quiets quiets_now held held_now None old new =
    (quiets + 1 ≤ quiets_now) × (IsExpecting old → Rose held held_now)

-- the same of a round with its request, which is expected itself: so datagrams were held
abbrev pub EndsAskingWith : Limits → ℕ → ℕ → ℕ → ℕ → Option Status → Telling → Telling → Type 0
EndsAskingWith settings quiets quiets_now held held_now (Some status) old new =
    IsGreeted settings (status_of status) new
EndsAskingWith settings quiets quiets_now held held_now None old new = (quiets + 1 ≤ quiets_now) × Rose held held_now

-- a round without a status reply ends at a quiet receive, or after as many other datagrams as it hears at most
abbrev pub IsCounted : ℕ → ℕ → ℕ → ℕ → Type 0
IsCounted quiets quiets_now gots gots_now =
    most_others + most_others * quiets + gots ≤ most_others * quiets_now + gots_now

abbrev pub IfNotTold : Option Status → Type 0 → Type 0
IfNotTold None P = P
IfNotTold (Some status) P = Unit {0}

-- No count of the link fell in a round; one receive at most was quiet, and no more others came than a round hears. The link
-- has the same number.
pub record CountsRound {L : Type 0} (seen : Ghosts L) (old new : L) : Type 0 where
  pub faults : seen.faults old ≤ seen.faults new
  pub quiets : seen.quiets old ≤ seen.quiets new
  pub most_quiets : seen.quiets new ≤ seen.quiets old + 1
  pub gots : seen.gots old ≤ seen.gots new
  pub most_gots : seen.gots new ≤ seen.gots old + most_others
  pub number : seen.number new ≡ seen.number old
  pub held : seen.held old ≤ seen.held new

-- What a round that did not fail leaves of its link: the status came in a datagram, which was the last one; or none of
-- its receives told one, and it has waited as long as a round does.
pub record EndsRound {L : Type 0} (seen : Ghosts L) (found : Option Status) (old new : L) : Type 0 where
  pub receives : EndWith found (receives_in (seen.traffic new))
  pub heard : IfSome found (λ _. seen.gots old + 1 ≤ seen.gots new)
  pub counted : IfNotTold found (IsCounted (seen.quiets old) (seen.quiets new) (seen.gots old) (seen.gots new))
  pub handed : IfNotTold found (IfTelling (seen.telling old) (seen.telling new) HandedOutNone)

-- ---- all rounds

-- over a link that tells: the status is that of the board, or each round had a quiet receive and held a datagram
abbrev pub EndsGreetingWith : Limits → ℕ → ℕ → Option Status → Telling → Type 0
EndsGreetingWith settings quiets held (Some status) t = IsGreeted settings (status_of status) t
EndsGreetingWith settings quiets held None t = (settings.rounds ≤ quiets) × (settings.rounds ≤ held)

-- at most so many rounds: a quiet receive in each, and as many other datagrams as a round hears
pub record IsWithinRounds {L : Type 0} (seen : Ghosts L) (rounds : ℕ) (link : L) : Type 0 where
  pub quiets : seen.quiets link ≤ rounds
  pub gots : seen.gots link ≤ most_others * rounds

-- the status came in a datagram, which is the last one that was received
pub record EndsWithDatagram {L : Type 0} (seen : Ghosts L) (status : BoardStatus) (link : L) : Type 0 where
  pub gots : 1 ≤ seen.gots link
  pub receives : EndsWithStatus status (receives_in (seen.traffic link))

-- ---- what a greeting comes to

abbrev pub link_of : {L : Type 0} → Greeted L → L
link_of (Ready lane) = lane.link
link_of (Silent link rounds) = link
link_of (Down link) = link
link_of (NoMemory link) = link

abbrev pub IfReady : {L : Type 0} → Greeted L → (LaneState L → Type 0) → Type 0
IfReady (Ready lane) holds = holds lane
IfReady (Silent link rounds) holds = Unit {0}
IfReady (Down link) holds = Unit {0}
IfReady (NoMemory link) holds = Unit {0}

abbrev pub IfSilent : {L : Type 0} → Greeted L → (L → ℕ → Type 0) → Type 0
IfSilent (Ready lane) holds = Unit {0}
IfSilent (Silent link rounds) holds = holds link rounds
IfSilent (Down link) holds = Unit {0}
IfSilent (NoMemory link) holds = Unit {0}

abbrev pub IfDown : {L : Type 0} → Greeted L → (L → Type 0) → Type 0
IfDown (Ready lane) holds = Unit {0}
IfDown (Silent link rounds) holds = Unit {0}
IfDown (Down link) holds = holds link
IfDown (NoMemory link) holds = Unit {0}
