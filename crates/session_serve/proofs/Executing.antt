-- What boards executed, whatever came of the connections.
use Rattle.std.proofs.Common.{◌≡◌, ◌∙◌, ℕ, zero, suc, ◌+◌, ◌≤◌, ◌<◌, ◌==◌, true, false, if◌then◌else◌}
use Rattle.std.proofs.Common.{List, [], ◌∷◌, map, length}
use Rattle.std.proofs.Common.{Option, Some, None, refl, sym, ap, subst, arith}
use Rattle.std.specs.Prelude.{◌≢◌}
use Rattle.std.specs.List.{AllByRecursion, AllZip, slice_get}
use Rattle.std.proofs.lemmas.Bool.{eq-eqb, eqb-true}
use Rattle.std.proofs.lemmas.Option.{same_Some}
use Rattle.ipb_outside.specs.Pairs.{PairReport}
use Rattle.packet_codec.specs.declared.packet.Packet.{Packet}
use Rattle.links.specs.declared.link.Link.{Ghosts}
use Rattle.world_model.specs.Board.{Board, bodies_executed}
use Rattle.world_model.specs.Settings.{Limits}
use Rattle.board_specs.specs.declared.spec.BoardSpec.{BoardSpec}
use Rattle.lane_record.specs.declared.item.Item.{Item}
use Rattle.lane_record.specs.declared.outcome.Outcome.{Outcome}
use Rattle.lane_record.specs.Claims.{claims}
use Rattle.board_history.specs.Merges.{AreSubsequences, IsMergeOfSome, IsOfClients, IsSubsequence, Owned, bodies_by}
use Rattle.board_history.specs.Merges.{bodies_owned}
use Rattle.ipb_base.specs.Numbers.{payload_of}
use Rattle.board_history.specs.Runs.{opens_with}
use Rattle.board_history.specs.Lanes.{IsSoundLane, IsTrueOf}
use Rattle.board_history.specs.Links.{IsUntouched, LinkReport, board_there}
use Rattle.board_history.proofs.Told.{some_then}
use Rattle.hub_framing.specs.Frames.{RequestFrame}
use Rattle.hub_lane.specs.Lanes.{LaneState}
use Rattle.hub_lane.specs.declared.answers.BoardState.{BoardState}
use Rattle.hub_lane.specs.declared.answers.BoardState.TheVariants as stands
use Rattle.board_greeting.specs.declared.standing.Standing.{Standing}
use Rattle.board_greeting.specs.declared.standing.Standing.TheVariants.{Live, AtHub, Silent, Down}
use Rattle.hub_session.specs.Answers.{control_packet}
use Rattle.hub_session.specs.Exchanges.{LaneRequest, request_in}
use Rattle.script_plans.specs.declared.greeting.Greeting.{Greeting}
use Rattle.script_plans.specs.declared.greeting.Greeting.TheVariants as greeting
use Rattle.client_threads.specs.Running.{AtEach}
use Rattle.board_greeting.specs.Boards.{AreReached}
use Rattle.board_greeting.specs.Reports.{shown_by}
use Rattle.board_greeting.specs.Standings.{all_at_hub, lanes_in, links_in, with_lanes}
use Rattle.board_greeting.proofs.Lanes.{lane_back}
use Rattle.session_serve.specs.Boards.{states_from}
use Rattle.session_serve.specs.Finish.{IsSound}
use Rattle.session_serve.specs.Executed.{CameInFrames, HasExecutedOnly, HaveExecutedOnly, bodies_for, body_in}
use Rattle.session_serve.specs.Hubs.{KeepsHead}
use Rattle.session_serve.specs.Plans.{ArePlannedAt, IsLaneAt, PlansFrames}
use Rattle.session_serve.specs.Prepared.{IsReady, told_by}
use Rattle.session_serve.specs.declared.prepared.Prepared.{Prepared}
use Rattle.session_serve.specs.ReportLaws.{ReportLaws}
use Rattle.session_serve.proofs.Lists.{zip_long}
use Rattle.session_serve.proofs.Planned.{sub_trans}
use Rattle.session_serve.proofs.Standing.{ready_states}
use Rattle.session_serve.proofs.Reporting.{BoardsBack, SideBySide, first_of, from_each, rest_of}

-- ---- a merge of some of the bodies

subs_within : (client : ℕ) (planned bodies : List (List (List ℕ))) (os : List Owned)
    → AllZip IsSubsequence planned bodies → AreSubsequences client planned os → AreSubsequences client bodies os
subs_within client [] [] os within each = tt
subs_within client [] (b ∷ bodies) os within each = absurd within
subs_within client (p ∷ planned) [] os within each = absurd within
subs_within client (p ∷ planned) (b ∷ bodies) os within each = (
  sub_trans (bodies_by client os) p b each.0 within.0,
  subs_within (client + 1) planned bodies os within.1 each.1,
)

merge_within : (planned bodies : List (List (List ℕ))) (done : List (List ℕ)) → AllZip IsSubsequence planned bodies
    → IsMergeOfSome planned done → IsMergeOfSome bodies done
merge_within planned bodies done within merge = record {
  owned = merge.owned;
  same = merge.same;
  each = subs_within 1 planned bodies merge.owned within merge.each;
  nobody_else = subst (λ n. AllByRecursion (IsOfClients n) merge.owned)
      (sym (zip_long IsSubsequence planned bodies within)) merge.nobody_else;
}

none_each : (client : ℕ) (bodies : List (List (List ℕ))) → AreSubsequences client bodies []
none_each client [] = tt
none_each client (b ∷ bodies) = (tt, none_each (client + 1) bodies)

merge_of_none : (bodies : List (List (List ℕ))) → IsMergeOfSome bodies []
merge_of_none bodies = record { owned = []; same = refl; each = none_each 1 bodies; nobody_else = tt }

-- a board that executed nothing
untouched_only : (position : ℕ) (connections : List (List RequestFrame)) (link : LinkReport) → IsUntouched link
    → HasExecutedOnly position connections link
untouched_only position connections link untouched =
    let bodies = map (bodies_for position) connections in
    some_then (λ (b : Board). bodies_executed b ≡ []) (λ (b : Board). IsMergeOfSome bodies (bodies_executed b))
    (board_there link.telling) (λ b none. subst (IsMergeOfSome bodies) (sym none) (merge_of_none bodies)) untouched

-- a board whose lane plans bodies of frames
lane_only : ReportLaws → (settings : Limits) (spec : BoardSpec) (position : ℕ) (connections : List (List RequestFrame))
    (payload : ℕ) (link : LinkReport) (items : List Item) (outcomes : List (Option Outcome))
    (lates : List (Option (List ℕ))) (give_ups : ℕ)
    → IsSoundLane settings (opens_with spec.link) payload link items outcomes lates give_ups
    → PlansFrames position connections items → HasExecutedOnly position connections link
lane_only laws settings spec position connections payload link items outcomes lates give_ups sound plans =
    let bodies = map (bodies_for position) connections in
    some_then (λ (b : Board). IsTrueOf (opens_with spec.link) (claims items) outcomes lates (bodies_executed b))
    (λ (b : Board). IsMergeOfSome bodies (bodies_executed b)) (board_there link.telling)
    (λ b truth. merge_within plans.planned bodies (bodies_executed b) plans.of_frames
    (laws.merge plans.planned items outcomes (bodies_executed b) sound.kept.legal plans.partly truth.front)) sound.told

-- ---- which board a lane is of

same_lane : (m n : ℕ) → Some (stands.Lane m) ≡ Some (stands.Lane n) → m ≡ n
same_lane m n e = cc

at_least : (lane : ℕ) (told : List Greeting) (i k : ℕ) → slice_get (states_from lane told) i ≡ Some (stands.Lane k)
    → lane ≤ k
at_least lane [] i k at = absurd cc
at_least lane (greeting.Live payload ∷ told) zero k at = let same = same_lane lane k at in omega (arith, same)
at_least lane (greeting.Live payload ∷ told) (suc i) k at =
    let later = at_least (lane + 1) told i k at in omega (arith, later)
at_least lane (greeting.Silent ∷ told) zero k at = absurd cc
at_least lane (greeting.Silent ∷ told) (suc i) k at = at_least lane told i k at
at_least lane (greeting.Down ∷ told) zero k at = absurd cc
at_least lane (greeting.Down ∷ told) (suc i) k at = at_least lane told i k at

-- live boards have lanes of their own
one_place : (lane : ℕ) (told : List Greeting) (i j k : ℕ)
    → slice_get (states_from lane told) i ≡ Some (stands.Lane k)
    → slice_get (states_from lane told) j ≡ Some (stands.Lane k) → i ≡ j
one_place lane [] i j k at also = absurd cc
one_place lane (greeting.Live payload ∷ told) zero zero k at also = refl
one_place lane (greeting.Live payload ∷ told) zero (suc j) k at also =
    let same = same_lane lane k at in
    let later = at_least (lane + 1) told j k also in
    absurd (omega (arith, same, later))
one_place lane (greeting.Live payload ∷ told) (suc i) zero k at also =
    let same = same_lane lane k also in
    let later = at_least (lane + 1) told i k at in
    absurd (omega (arith, same, later))
one_place lane (greeting.Live payload ∷ told) (suc i) (suc j) k at also =
    ap suc (one_place (lane + 1) told i j k at also)
one_place lane (greeting.Silent ∷ told) zero j k at also = absurd cc
one_place lane (greeting.Silent ∷ told) (suc i) zero k at also = absurd cc
one_place lane (greeting.Silent ∷ told) (suc i) (suc j) k at also = ap suc (one_place lane told i j k at also)
one_place lane (greeting.Down ∷ told) zero j k at also = absurd cc
one_place lane (greeting.Down ∷ told) (suc i) zero k at also = absurd cc
one_place lane (greeting.Down ∷ told) (suc i) (suc j) k at also = ap suc (one_place lane told i j k at also)

-- a frame has a body for a lane where it has a control packet, and its board has that lane
asked_lane : (packet : Option Packet) (state : Option BoardState) (lane : ℕ) (body : List ℕ)
    → request_in packet state ≡ Some (record { lane = lane; body = body })
    → (state ≡ Some (stands.Lane lane)) × (body_in packet ≡ Some body)
asked_lane None state lane body is = absurd cc
asked_lane (Some packet) None lane body is = absurd cc
asked_lane (Some packet) (Some stands.Silent) lane body is = absurd cc
asked_lane (Some packet) (Some stands.Down) lane body is = absurd cc
asked_lane (Some packet) (Some (stands.Lane there)) lane body is =
    let same = same_Some _ _ is in (
      ap (λ (r : LaneRequest). Some (stands.Lane r.lane)) same,
      ap (λ (r : LaneRequest). Some r.body) same,
    )

-- the lane of the board at a position
lane_of_board : (told : List Greeting) (lane position : ℕ)
    → slice_get (states_from 0 told) position ≡ Some (stands.Lane lane) → IsLaneAt (states_from 0 told) lane position
lane_of_board told lane position at frame body is =
    let boards = states_from 0 told in
    let asked = asked_lane (control_packet frame.packet) (slice_get boards frame.board) lane body is in
    let here : frame.board ≡ position = one_place 0 told frame.board position lane asked.0 at in
    ap (λ b. if b then body_in (control_packet frame.packet) else None) (eq-eqb frame.board position here) ∙ asked.1

-- ---- all boards

-- from this position on the boards stand as if the first of their lanes had this number
abbrev StandFrom : {L : Type 0} → List Greeting → ℕ → ℕ → List (Standing L) → Type 0
StandFrom {L} told position lane boards = (i : ℕ) → slice_get (states_from 0 told) (position + i)
    ≡ slice_get (states_from lane (map (λ (b : Standing L). told_by b) boards)) i

one_later : {A : Type 0} (xs ys : List A) (position : ℕ) (y : A)
    → ((i : ℕ) → slice_get xs (position + i) ≡ slice_get (y ∷ ys) i) → (i : ℕ)
    → slice_get xs (position + 1 + i) ≡ slice_get ys i
one_later xs ys position y stand i =
    let up : position + 1 + i ≡ position + suc i = omega arith in
    ap (λ n. slice_get xs n) up ∙ stand (suc i)

abbrev PlansAt : {L : Type 0} → List Greeting → List (List RequestFrame) → ℕ → LaneState L → LaneState L → Type 0
PlansAt told connections lane old new = (position : ℕ) → IsLaneAt (states_from 0 told) lane position
    → PlansFrames position connections new.items

module _ (L : Type 0) (seen : Ghosts L) (settings : Limits) (laws : ReportLaws) (told : List Greeting)
    (connections : List (List RequestFrame)) where
  abbrev shows : L → LinkReport
  shows = shown_by seen

  executed_only : (position lane : ℕ) (specs : List BoardSpec) (boards : List (Standing L)) (news : List (LaneState L))
      → length boards ≡ length specs → AreReached shows settings specs boards
      → StandFrom told position lane boards → SideBySide lane (lanes_in boards) news (λ n. KeepsHead seen.telling)
      → SideBySide lane (lanes_in boards) news (PlansAt told connections)
      → AllByRecursion (IsSound seen) (with_lanes (all_at_hub boards) news)
      → HaveExecutedOnly position connections (map shows
      (links_in (with_lanes (all_at_hub boards) news)))
  executed_only position lane [] [] news long are stand heads plans sound = tt
  executed_only position lane [] (b ∷ boards) news long are stand heads plans sound = absurd cc
  executed_only position lane (s ∷ specs) [] news long are stand heads plans sound = absurd cc
  executed_only position lane (s ∷ specs) (Live old ∷ boards) [] long are stand heads plans sound =
      absurd (let l = heads.long in omega (arith, l))
  executed_only position lane (s ∷ specs) (Live old ∷ boards) (n ∷ news) long are stand heads plans sound =
      let to = lane_back seen.telling (shows old.link) settings s old n are.0 refl
      (first_of lane old (lanes_in boards) n news (λ k. KeepsHead seen.telling) heads) in
      let here : slice_get (states_from 0 told) position ≡ Some (stands.Lane lane) =
      ap (λ k. slice_get (states_from 0 told) k) (let up : position ≡ position + 0 = omega arith in up) ∙ stand 0 in
      let planned = first_of lane old (lanes_in boards) n news (PlansAt told connections) plans position
      (lane_of_board told lane position here) in (
        lane_only laws settings s position connections (payload_of n.status.mtu) (shows n.link) n.items n.outcomes n.lates
            n.give_ups (sound.0.1 settings s to).sound planned,
        executed_only (position + 1) (lane + 1) specs boards news (omega (arith, long)) are.1
            (one_later (states_from 0 told) _ position _ stand)
            (rest_of lane old (lanes_in boards) n news (λ k. KeepsHead seen.telling) heads)
            (rest_of lane old (lanes_in boards) n news (PlansAt told connections) plans) sound.1,
      )
  executed_only position lane (s ∷ specs) (Silent link ∷ boards) news long are stand heads plans sound = (
    untouched_only position connections (shows link) are.0.fresh.untouched,
    executed_only (position + 1) lane specs boards news (omega (arith, long)) are.1
        (one_later (states_from 0 told) _ position _ stand) heads plans sound.1,
  )
  executed_only position lane (s ∷ specs) (Down link ∷ boards) news long are stand heads plans sound = (
    untouched_only position connections (shows link) are.0.fresh.untouched,
    executed_only (position + 1) lane specs boards news (omega (arith, long)) are.1
        (one_later (states_from 0 told) _ position _ stand) heads plans sound.1,
  )
  executed_only position lane (s ∷ specs) (AtHub ∷ boards) news long are stand heads plans sound =
      absurd are.0

-- what the boards of lanes that came back executed came in frames
pub came_in_frames : {L : Type 0} {settings : Limits} {specs : List BoardSpec} {left : List (Standing L)}
    {prepared : Prepared L} {news : List (LaneState L)} {ended : List (Standing L)} (laws : ReportLaws)
    (seen : Ghosts L) (ready : IsReady (shown_by seen) settings specs left prepared) (came back : List PairReport)
    → BoardsBack seen settings specs ready.boards news ended → AllByRecursion (IsSound seen) ended
    → ArePlannedAt prepared.states prepared.lanes.items news came back
    → CameInFrames (map (shown_by seen) (links_in ended)) came back
came_in_frames {L} {settings} {specs} {left} {prepared} {news} laws seen ready came back again sound at =
    let boards = ready.boards in
    let told = map (λ (b : Standing L). told_by b) boards in
    let shows = shown_by seen in
    let on = subst (λ (l : List (LaneState L)). AtEach l news (PlansAt told at.connections)) ready.prepared'.lanes'
    (subst (λ (a : List BoardState). AtEach prepared.lanes.items news (λ lane old new. (position : ℕ)
    → IsLaneAt a lane position → PlansFrames position at.connections new.items)) (ready_states ready) at.lanes) in
    record {
      connections = at.connections;
      sent = at.sent;
      executed' = subst (λ (e : List (Standing L)). HaveExecutedOnly 0 at.connections
          (map shows (links_in e))) (sym again.is)
          (executed_only L seen settings laws told at.connections 0 0 specs boards news again.all
          again.reached
          (λ i. ap (λ n. slice_get (states_from 0 told) n) (let same : 0 + i ≡ i = omega arith in same)) again.heads
          (from_each (lanes_in boards) news (PlansAt told at.connections) on)
          (subst (AllByRecursion (IsSound seen)) again.is sound));
    }

-- ---- where no connection was let in

all_only : (position : ℕ) (links : List LinkReport) → AllByRecursion IsUntouched links
    → HaveExecutedOnly position [] links
all_only position [] untouched = tt
all_only position (link ∷ links) untouched =
    (untouched_only position [] link untouched.0, all_only (position + 1) links untouched.1)

pub none_executed : (links : List LinkReport) → AllByRecursion IsUntouched links → CameInFrames links [] []
none_executed links untouched =
    record { connections = []; sent = tt; executed' = all_only 0 links untouched }

-- ---- where no frame had a body

abbrev IsNone : List (List ℕ) → Type 0
IsNone bodies = bodies ≡ []

of_nothing : (xs : List (List ℕ)) → IsSubsequence xs [] → xs ≡ []
of_nothing [] s = refl
of_nothing (x ∷ xs) s = absurd s

not_same : (m n : ℕ) → (m == n) ≡ false → m ≢ n
not_same m n other same = absurd (let is = eq-eqb m n same in cc)

none_by : (client c : ℕ) (bodies : List (List (List ℕ))) (os : List Owned) → AreSubsequences client bodies os
    → AllByRecursion IsNone bodies → client ≤ c → c < client + length bodies → bodies_by c os ≡ []
none_by client c [] os each none low high = absurd (omega (arith, low, high))
none_by client c (b ∷ bodies) os each none low high = elim (c == client) as
    (λ t. (c == client) ≡ t → bodies_by c os ≡ []) [
      | true ↦ λ same. subst (λ n. bodies_by n os ≡ []) (sym (eqb-true c client same))
          (of_nothing (bodies_by client os) (subst (IsSubsequence (bodies_by client os)) none.0 each.0))
      | false ↦ λ other. none_by (client + 1) c bodies os each.1 none.1
          (let apart = not_same c client other in omega (arith, low, apart)) (omega (arith, high))
    ] refl

merge_of_nothing : (bodies : List (List (List ℕ))) (os : List Owned) → AreSubsequences 1 bodies os
    → AllByRecursion (IsOfClients (length bodies)) os → AllByRecursion IsNone bodies → os ≡ []
merge_of_nothing bodies [] each of none = refl
merge_of_nothing bodies (o ∷ os) each of none =
    let nothing = none_by 1 o.client bodies (o ∷ os) each none of.0.0 (let high = of.0.1 in omega (arith, high)) in
    let mine : (o.client == o.client) ≡ true = eq-eqb o.client o.client refl in
    let first : o.body ∷ bodies_by o.client os ≡ [] = subst
    (λ b. (if b then o.body ∷ bodies_by o.client os else bodies_by o.client os) ≡ []) mine nothing in absurd cc

all_mapped : (position : ℕ) (connections : List (List RequestFrame))
    → AllByRecursion (λ (frames : List RequestFrame). bodies_for position frames ≡ []) connections
    → AllByRecursion IsNone (map (bodies_for position) connections)
all_mapped position [] none = tt
all_mapped position (frames ∷ connections) none = (none.0, all_mapped position connections none.1)

pub without_frames : (position : ℕ) (connections : List (List RequestFrame)) (link : LinkReport)
    → HasExecutedOnly position connections link
    → AllByRecursion (λ (frames : List RequestFrame). bodies_for position frames ≡ []) connections → IsUntouched link
without_frames position connections link only none =
    let bodies = map (bodies_for position) connections in
    some_then (λ (b : Board). IsMergeOfSome bodies (bodies_executed b)) (λ (b : Board). bodies_executed b ≡ [])
    (board_there link.telling) (λ b merge. merge.same ∙ ap bodies_owned
    (merge_of_nothing bodies merge.owned merge.each merge.nobody_else (all_mapped position connections none))) only
