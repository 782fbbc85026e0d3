-- Boards at their greeting, and what is known of each by it. Profile.
use Rattle.std.specs.Prelude.{◌≡◌, ◌⊎◌, ℕ, ◌+◌, ◌≤◌, List, [], ◌∷◌, length, Option, Some, None, IfSome}
use Rattle.ipb_base.specs.Numbers.{payload_of}
use Rattle.links.specs.Telling.{Telling}
use Rattle.links.specs.declared.rack.Rack.{Ghosts as RackGhosts}
use Rattle.world_model.specs.Settings.{Limits}
use Rattle.board_specs.specs.declared.spec.BoardSpec.{BoardSpec}
pub use Rattle.hub_lane.specs.Records.{head_shown}
use Rattle.hub_lane.specs.declared.greeting.Greeted.{Greeted}
use Rattle.hub_lane.specs.declared.greeting.Greeted.TheVariants.{Ready, Silent, Down, NoMemory}
use Rattle.hub_lane.specs.Greeting.{CanBegin}
use Rattle.board_greeting.specs.declared.standing.Standing.{Standing}
use Rattle.board_greeting.specs.declared.standing.Standing.TheVariants as standing
use Rattle.script_plans.specs.declared.greeting.Greeting.{Greeting}
use Rattle.script_plans.specs.declared.greeting.Greeting.TheVariants as greeting
use Rattle.board_bus.specs.Cells.{CellMap}
use Rattle.board_bus.specs.Ranges.{opening_bus}
use Rattle.board_specs.specs.declared.spec.LinkSpec.{LinkSpec}
use Rattle.board_specs.specs.declared.spec.LinkSpec.TheVariants.{Sim, Udp}
use Rattle.hub_lane.specs.Lanes.{BoardStatus, IsGreeted, LaneState, new_lane, opening_of}
use Rattle.board_history.specs.Links.{IsBoardOf, IsUntouched, LinkReport, board_there}
use Rattle.board_history.specs.Lanes.{IsSoundLane}
use Rattle.board_history.specs.LinkRuns.{IsDownRun, IsSilentRun, TellsPayload}
use Rattle.board_history.specs.Runs.{opens_with}

-- a lane before its first entry, over a link that shows this
pub record IsReadyLane {L : Type 0} (settings : Limits) (lane : LaneState L) (shown : LinkReport) : Type 0 where
  pub opened' : lane ≡ new_lane shown.number lane.link settings lane.status
  pub greeted : IfSome shown.telling (IsGreeted settings lane.status)

-- not that of a live board
abbrev pub IsIdle : Greeting → Type 0
IsIdle (greeting.Live payload) = ⊥
IsIdle greeting.Silent = Unit {0}
IsIdle greeting.Down = Unit {0}

-- what a greeting came to, over a link that shows this
abbrev pub IsGreetedAs : {L : Type 0} → Limits → Greeted L → LinkReport → Type 0
IsGreetedAs settings (Ready lane) shown = IsReadyLane settings lane shown
IsGreetedAs settings (Silent link rounds) shown = IsSilentRun settings shown
IsGreetedAs settings (Down link) shown = IsDownRun settings shown
IsGreetedAs settings (NoMemory link) shown = Unit {0}

-- The link is to the board of this document, which was asked for nothing but its status: it executed nothing, and where
-- the link tells a run can begin there.
pub record IsFreshLink (settings : Limits) (spec : BoardSpec) (link : LinkReport) : Type 0 where
  pub board' : IsBoardOf spec.link (board_there link.telling)
  pub untouched : IsUntouched link
  pub begins : IfSome link.telling (CanBegin settings)

-- The board of this document was greeted.
pub record IsReached {L : Type 0} (settings : Limits) (spec : BoardSpec) (greeted : Greeted L)
    (shown : LinkReport) : Type 0 where
  pub fresh : IsFreshLink settings spec shown
  pub as_told : IsGreetedAs settings greeted shown

-- a board that is not live, over a link that shows this
abbrev pub IsIdleAs : Limits → Greeting → LinkReport → Type 0
IsIdleAs settings (greeting.Live payload) shown = ⊥
IsIdleAs settings greeting.Silent shown = IsSilentRun settings shown
IsIdleAs settings greeting.Down shown = IsDownRun settings shown

pub record IsIdleBoard (settings : Limits) (spec : BoardSpec) (told : Greeting) (shown : LinkReport) : Type 0 where
  pub fresh : IsFreshLink settings spec shown
  pub as_told : IsIdleAs settings told shown

-- The board of this document stands in its place as its greeting told.
abbrev pub StandsAsTold : {L : Type 0} → (L → LinkReport) → Limits → BoardSpec → Standing L → Type 0
StandsAsTold shows settings spec (standing.Live lane) = IsReached settings spec (Ready lane) (shows lane.link)
StandsAsTold shows settings spec standing.AtHub = ⊥
StandsAsTold shows settings spec (standing.Silent link) = IsIdleBoard settings spec greeting.Silent (shows link)
StandsAsTold shows settings spec (standing.Down link) = IsIdleBoard settings spec greeting.Down (shows link)

-- its link was asked for nothing but the status of the board
abbrev pub IsFreshAt : {L : Type 0} → (L → LinkReport) → Limits → BoardSpec → Standing L → Type 0
IsFreshAt shows settings spec (standing.Live lane) = IsFreshLink settings spec (shows lane.link)
IsFreshAt shows settings spec standing.AtHub = ⊥
IsFreshAt shows settings spec (standing.Silent link) = IsFreshLink settings spec (shows link)
IsFreshAt shows settings spec (standing.Down link) = IsFreshLink settings spec (shows link)

-- so of the boards of the first documents, in order; there may be fewer boards than documents
abbrev pub OfFirst : {L : Type 0} → (BoardSpec → Standing L → Type 0) → List BoardSpec → List (Standing L) → Type 0
OfFirst holds specs [] = Unit {0}
OfFirst holds [] (one ∷ boards) = ⊥
OfFirst holds (spec ∷ specs) (one ∷ boards) = holds spec one × OfFirst holds specs boards

abbrev pub AreReached : {L : Type 0} → (L → LinkReport) → Limits → List BoardSpec → List (Standing L) → Type 0
AreReached shows settings specs boards = OfFirst (StandsAsTold shows settings) specs boards

-- memory did not run out at the greeting
abbrev pub HasMemory : {L : Type 0} → Greeted L → Type 0
HasMemory (Ready lane) = Unit {0}
HasMemory (Silent link rounds) = Unit {0}
HasMemory (Down link) = Unit {0}
HasMemory (NoMemory link) = ⊥

-- so many links kept, of so many that were made, leave room for so many more
abbrev pub LeavesRoom : ℕ → ℕ → ℕ → Type 0
LeavesRoom kept made count = (count ≡ 0) ⊎ (kept + count ≤ made)

-- a rack may take back so many links more
abbrev pub HasRoom : {R L : Type 0} → RackGhosts R L → R → ℕ → Type 0
HasRoom seen rack count = LeavesRoom (length (seen.kept rack)) (length (seen.made rack)) count

-- the links are those of the first boards, in order
abbrev pub AreFreshLinks : Limits → List BoardSpec → List LinkReport → Type 0
AreFreshLinks settings specs [] = Unit {0}
AreFreshLinks settings [] (link ∷ links) = ⊥
AreFreshLinks settings (spec ∷ specs) (link ∷ links) =
    IsFreshLink settings spec link × AreFreshLinks settings specs links

-- ---- the board of a lane

-- A board told this status, and opened with this bus if its link tells: so it is that of its document. One behind a
-- port does not tell.
abbrev pub IsKnownAs : LinkSpec → BoardStatus → Option CellMap → Type 0
IsKnownAs (Sim mtu buffers first ranges fates) status opening =
    (status ≡ record { mtu = mtu; buffers = buffers; next = first }) × (opening ≡ Some (opening_bus ranges))
IsKnownAs (Udp address port wait) status opening = opening ≡ None

-- a lane with these settings to the board of this document, over a link that tells this
pub record IsLaneTo {L : Type 0} (settings : Limits) (spec : BoardSpec) (telling : Option Telling)
    (lane : LaneState L) : Type 0 where
  pub settings' : lane.settings ≡ settings
  pub board' : IsKnownAs spec.link lane.status (opening_of telling)

-- a lane that nobody asked anything of
abbrev pub HasNoEntry : {L : Type 0} → LaneState L → Type 0
HasNoEntry lane = lane.items ≡ []

-- a lane at its end, over a link that shows this: all that the history of its board rests on
pub record IsEndedLane {L : Type 0} (settings : Limits) (spec : BoardSpec) (lane : LaneState L) (shown : LinkReport)
    : Type 0 where
  pub board' : IsBoardOf spec.link (board_there shown.telling)
  pub payload : TellsPayload spec.link (payload_of lane.status.mtu)
  pub sound : IsSoundLane settings (opens_with spec.link) (payload_of lane.status.mtu) shown lane.items lane.outcomes
      lane.lates lane.give_ups
