-- A lane and the board of its document.
use Rattle.std.proofs.Common.{◌≡◌, ℕ, ◌*◌, ◌∙◌, Bool, List, [], ◌∷◌, Option, Some, None, refl, sym, ap, subst, arith}
use Rattle.std.specs.Prelude.{IfSome}
use Rattle.std.specs.List.{AllByRecursion}
use Rattle.ipb_base.specs.Numbers.{payload_of}
use Rattle.status_packet.specs.Range.{IsMtu}
use Rattle.board_bus.specs.Cells.{CellMap}
use Rattle.board_bus.specs.Ranges.{opening_bus}
use Rattle.world_model.specs.Board.{Board}
use Rattle.world_model.specs.Hub.{Hub}
use Rattle.links.specs.Receives.{receives_in}
use Rattle.links.specs.Telling.{Telling}
use Rattle.world_model.specs.Settings.{Limits}
use Rattle.board_specs.specs.declared.spec.BoardSpec.{BoardSpec}
use Rattle.board_specs.specs.declared.spec.LinkSpec.{LinkSpec}
use Rattle.board_specs.specs.declared.spec.LinkSpec.TheVariants.{Sim, Udp}
use Rattle.reliable_engine.specs.MachineRuns.{RunEvent}
use Rattle.lane_record.specs.declared.outcome.Outcome.{Outcome}
use Rattle.lane_record.specs.declared.item.Item.{Item}
use Rattle.lane_record.specs.Bounds.{HasReached}
use Rattle.lane_record.specs.Coding.{Head}
use Rattle.board_history.specs.Links.{IsBoardOf, LinkReport, board_there}
use Rattle.board_history.specs.Lanes.{IsSoundLane}
use Rattle.board_history.specs.LinkRuns.{TellsPayload}
use Rattle.board_history.specs.Runs.{opens_with}
use Rattle.board_greeting.specs.Reports.{OpenedWith}
use Rattle.hub_lane.specs.Heard.{HasHeard, HasListened}
use Rattle.hub_lane.specs.Run.{HasRun}
use Rattle.hub_lane.specs.Lanes.{BoardStatus, HasToldStatus, IsGreeted, IsLane, LaneState, opening_of}
use Rattle.hub_lane.specs.declared.greeting.Greeted.TheVariants.{Ready}
use Rattle.board_greeting.specs.Boards.{AreReached, HasNoEntry, IsEndedLane, IsKnownAs, IsLaneTo, IsReached}
use Rattle.board_greeting.specs.Boards.{head_shown}
use Rattle.board_greeting.specs.Standings.{lanes_in}
use Rattle.board_greeting.specs.declared.standing.Standing.{Standing}
use Rattle.board_greeting.specs.declared.standing.Standing.TheVariants as standing

-- ---- the board

status_is : (s : BoardStatus) (mtu buffers next : ℕ) → s.mtu ≡ mtu → s.buffers ≡ buffers → s.next ≡ next
    → s ≡ record { mtu = mtu; buffers = buffers; next = next }
status_is s mtu buffers next a b c =
    ap (λ (x : ℕ). let r : BoardStatus = record { mtu = x; buffers = s.buffers; next = s.next } in r) a
    ∙ (ap (λ (x : ℕ). let r : BoardStatus = record { mtu = mtu; buffers = x; next = s.next } in r) b
    ∙ ap (λ (x : ℕ). let r : BoardStatus = record { mtu = mtu; buffers = buffers; next = x } in r) c)

-- the board of a document is known by what it told
pub known_as : (settings : Limits) (status : BoardStatus) (spec : LinkSpec) (told : Option Telling)
    → IsBoardOf spec (board_there told) → IfSome told (IsGreeted settings status)
    → IsKnownAs spec status (opening_of told)
known_as settings status (Sim mtu buffers first ranges fates) None is greeted = absurd is
known_as settings status (Sim mtu buffers first ranges fates) (Some t) is greeted = (
  status_is status mtu buffers first (greeted.told.mtu ∙ ap (λ (b : Board). b.mtu) is)
      (greeted.told.buffers ∙ ap (λ (b : Board). b.buffers) is) (greeted.told.next ∙ ap (λ (b : Board). b.first) is),
  ap (λ (b : Board). Some b.opening) is,
)
known_as settings status (Udp address port wait) None is greeted = refl
known_as settings status (Udp address port wait) (Some t) is greeted = absurd is

board_is : (b : Board) (opening : CellMap) (mtu buffers first : ℕ) → b.opening ≡ opening → b.mtu ≡ mtu
    → b.buffers ≡ buffers → b.first ≡ first
    → b ≡ record { opening = opening; mtu = mtu; buffers = buffers; first = first; log = b.log }
board_is b opening mtu buffers first a c d e =
    ap (λ (x : CellMap). let r : Board = record {
      opening = x;
      mtu = b.mtu;
      buffers = b.buffers;
      first = b.first;
      log = b.log;
    } in r) a
    ∙ (ap (λ (x : ℕ). let r : Board = record {
      opening = opening;
      mtu = x;
      buffers = b.buffers;
      first = b.first;
      log = b.log;
    } in r) c
    ∙ (ap (λ (x : ℕ). let r : Board = record {
      opening = opening;
      mtu = mtu;
      buffers = x;
      first = b.first;
      log = b.log;
    } in r) d
    ∙ ap (λ (x : ℕ). let r : Board = record {
      opening = opening;
      mtu = mtu;
      buffers = buffers;
      first = x;
      log = b.log;
    } in r) e))

-- a board that is known so and told this status is that of its document
pub board_known : (status : BoardStatus) (spec : LinkSpec) (told : Option Telling)
    → IsKnownAs spec status (opening_of told) → IfSome told (λ (t : Telling). HasToldStatus status t.told.board)
    → IsBoardOf spec (board_there told)
board_known status (Sim mtu buffers first ranges fates) None known is = absurd cc
board_known status (Sim mtu buffers first ranges fates) (Some t) known is =
    let opens : t.told.board.opening ≡ opening_bus ranges = cc in
    board_is t.told.board (opening_bus ranges) mtu buffers first opens
    (sym is.mtu ∙ ap (λ (s : BoardStatus). s.mtu) known.0) (sym is.buffers
    ∙ ap (λ (s : BoardStatus). s.buffers) known.0)
    (sym is.next ∙ ap (λ (s : BoardStatus). s.next) known.0)
board_known status (Udp address port wait) None known is = tt
board_known status (Udp address port wait) (Some t) known is = absurd cc

-- its packets are those of its document
pub payload_known : (status : BoardStatus) (spec : LinkSpec) (opening : Option CellMap) → IsKnownAs spec status opening
    → IsMtu status.mtu → TellsPayload spec (payload_of status.mtu)
payload_known status (Sim mtu buffers first ranges fates) opening known fits =
    ap (λ (s : BoardStatus). payload_of s.mtu) known.0
payload_known status (Udp address port wait) opening known fits =
    let low = fits.0 in let high = fits.1 in (omega (arith, low), omega (arith, high))

pub opened_so : (spec : LinkSpec) (now : Option Telling) → IsBoardOf spec (board_there now)
    → IfSome now (OpenedWith (opens_with spec))
opened_so (Sim mtu buffers first ranges fates) None is = absurd is
opened_so (Sim mtu buffers first ranges fates) (Some n) is = ap (λ (b : Board). b.opening) is
opened_so (Udp address port wait) None is = tt
opened_so (Udp address port wait) (Some n) is = absurd is

-- ---- the end of a lane

abbrev pub SoundLaw : Type 0
SoundLaw = (settings : Limits) (status : BoardStatus) (hub : Hub) (items : List Item)
    (outcomes : List (Option Outcome)) (lates : List (Option (List ℕ))) (give_ups : ℕ) (down spent : Bool)
    (run : List RunEvent) (link : LinkReport) (opening : CellMap)
    → IsLane settings status hub items outcomes lates give_ups down spent link.telling link.faults link.quiets
    → IfSome link.telling (λ _. HasReached (settings.rounds * give_ups) link.held) → HasHeard outcomes link.gots
    → HasListened status hub outcomes lates give_ups (receives_in link.traffic)
    → HasRun settings status hub items outcomes lates down spent run link.traffic
    → IfSome link.telling (OpenedWith opening)
    → IsSoundLane settings opening (payload_of status.mtu) link items outcomes lates give_ups

pub at_end : {L : Type 0} → SoundLaw → (settings : Limits) (spec : BoardSpec) (lane : LaneState L)
    (link : LinkReport) → IsLaneTo settings spec link.telling lane
    → IsLane lane.settings lane.status lane.hub lane.items lane.outcomes lane.lates lane.give_ups lane.down lane.spent
    link.telling link.faults link.quiets
    → IfSome link.telling (λ _. HasReached (lane.settings.rounds * lane.give_ups) link.held)
    → HasHeard lane.outcomes link.gots
    → HasListened lane.status lane.hub lane.outcomes lane.lates lane.give_ups (receives_in link.traffic)
    → HasRun lane.settings lane.status lane.hub lane.items lane.outcomes lane.lates lane.down lane.spent lane.run
    link.traffic → IsEndedLane settings spec lane link
at_end {L} law settings spec lane link to is paid heard listened ran =
    let here = board_known lane.status spec.link link.telling to.board' is.told in
    record {
      board' = here;
      payload = payload_known lane.status spec.link (opening_of link.telling) to.board' is.knows.mtu;
      sound = subst (λ (s : Limits).
          IsSoundLane s (opens_with spec.link) (payload_of lane.status.mtu) link lane.items lane.outcomes lane.lates
          lane.give_ups)
          to.settings' (law lane.settings lane.status lane.hub lane.items lane.outcomes lane.lates lane.give_ups
          lane.down lane.spent lane.run link (opens_with spec.link) is paid heard listened ran
          (opened_so spec.link link.telling here));
    }

-- ---- a lane that came back

-- a lane that comes back with the head of its record is to the board that was greeted
pub lane_back : {L : Type 0} (tells : L → Option Telling) (shown : LinkReport) (settings : Limits) (spec : BoardSpec)
    (old new : LaneState L) → IsReached settings spec (Ready old) shown
    → shown.telling ≡ tells old.link → head_shown tells new ≡ head_shown tells old
    → IsLaneTo settings spec (tells new.link) new
lane_back {L} tells shown settings spec old new reached same_link head =
    let opens : old.settings ≡ settings = ap (λ (l : LaneState L). l.settings) reached.as_told.opened' in
    let same : new.settings ≡ old.settings =
    ap (λ (h : Head). let s : Limits = record { rounds = h.rounds; window = h.window } in s) head in
    let status : new.status ≡ old.status =
    ap (λ (h : Head). let s : BoardStatus = record { mtu = h.mtu; buffers = h.buffers; next = h.first } in s) head in
    let opening : opening_of (tells new.link) ≡ opening_of (tells old.link) = ap (λ (h : Head). h.opening) head in
    let known = known_as settings old.status spec.link (tells old.link)
    (subst (λ (t : Option Telling). IsBoardOf spec.link (board_there t)) same_link reached.fresh.board')
    (subst (λ (t : Option Telling). IfSome t (IsGreeted settings old.status)) same_link reached.as_told.greeted) in
    record {
      settings' = same ∙ opens;
      board' = subst (λ (o : Option CellMap). IsKnownAs spec.link new.status o) (sym opening)
          (subst (λ (s : BoardStatus). IsKnownAs spec.link s (opening_of (tells old.link))) (sym status) known);
    }

-- ---- the lanes that go to the hub

-- a lane that was just opened has no entry
pub lanes_unused : {L : Type 0} (shows : L → LinkReport) (settings : Limits)
    (specs : List BoardSpec) (boards : List (Standing L)) → AreReached shows settings specs boards
    → AllByRecursion HasNoEntry (lanes_in boards)
lanes_unused shows settings specs [] are = tt
lanes_unused shows settings [] (b ∷ boards) are = absurd are
lanes_unused shows settings (s ∷ specs) (standing.Live lane ∷ boards) are =
    (ap (λ (l : LaneState _). l.items) are.0.as_told.opened', lanes_unused shows settings specs boards are.1)
lanes_unused shows settings (s ∷ specs) (standing.AtHub ∷ boards) are = absurd are.0
lanes_unused shows settings (s ∷ specs) (standing.Silent link ∷ boards) are =
    lanes_unused shows settings specs boards are.1
lanes_unused shows settings (s ∷ specs) (standing.Down link ∷ boards) are =
    lanes_unused shows settings specs boards are.1
