-- Lanes planned one after another.
use Rattle.std.proofs.Common.{◌≡◌, ℕ, zero, suc, ◌+◌, ◌≤◌, ◌<◌, ◌∙◌, List, [], ◌∷◌, ◌++◌, length, take, drop, get_or}
use Rattle.std.proofs.Common.{set, true, false}
use Rattle.std.proofs.Common.{Option, Some, None, refl, sym, ap, subst, arith, append_assoc, append-nil, length-append}
use Rattle.std.specs.List.{AllByRecursion}
use Rattle.std.proofs.lemmas.List.{drop_all, drop_more, length-drop, length-map, set_at, take-append-drop, take_all}
use Rattle.std.proofs.lemmas.List.{take_more}
use Rattle.ipb_base.specs.Numbers.{payload_of}
use Rattle.links.specs.Telling.{Telling}
use Rattle.world_model.specs.Board.{Board}
use Rattle.board_bus.specs.Cells.{CellMap}
use Rattle.hub_lane.specs.Lanes.{LaneState, board_of, opening_of}
use Rattle.script_steps.specs.declared.operation.Step.{Step}
use Rattle.script_plans.specs.declared.greeting.Greeting.TheVariants.{Live}
use Rattle.script_plans.specs.Plan.{ClientBodies, planned_on}
use Rattle.session_run.specs.Parts.{HasClients}
use Rattle.session_run.specs.Plans.{ArePlansOnBoard, HasFewBodies}
use Rattle.session_run.proofs.PartLists.{get_behind}
use Rattle.board_history.specs.Records.{IsPartlyPlanned}
use Rattle.session_run.specs.Clients.{KeepsLane, bodies_of_plans}
use Rattle.board_greeting.specs.Boards.{HasNoEntry, head_shown}
use Rattle.board_greeting.specs.Standings.{is_at_hub, positions_at_hub}
use Rattle.board_greeting.specs.declared.standing.Standing.{Standing}
use Rattle.board_greeting.specs.declared.standing.Standing.TheVariants as standing
use Rattle.session_run.specs.Lanes.{AllFour, AllThree, HasGoneOn, IsPlannedOn, plans_over}
use Rattle.session_run.proofs.PlansMade.{PartlyAll, PartlyFront, partly_none}
use Rattle.session_run.proofs.Sides.{four_append, last_of_four, three_append}

-- ---- one lane

abbrev opening_there : Option Board → Option CellMap
opening_there None = None
opening_there (Some b) = Some b.opening

opening_again : (told : Option Telling) → opening_there (board_of told) ≡ opening_of told
opening_again None = refl
opening_again (Some t) = refl

keeps_head : {L : Type 0} (tells : L → Option Telling) (old new : LaneState L)
    → KeepsLane old new (tells old.link) (tells new.link) → head_shown tells new ≡ head_shown tells old
keeps_head {L} tells old new keeps =
    let opens : opening_of (tells new.link) ≡ opening_of (tells old.link) =
    sym (opening_again (tells new.link)) ∙ (ap opening_there keeps.board ∙ opening_again (tells old.link)) in
    let same : new.settings ≡ old.settings = keeps.settings in
    let told : new.status ≡ old.status = keeps.status in
    cc

-- a lane whose clients were planned, or on the way there
planned_gone : {L : Type 0} (tells : L → Option Telling) (scripts : List (List Step)) (position : ℕ)
    (old new : LaneState L) → KeepsLane old new (tells old.link) (tells new.link)
    → IsPartlyPlanned (bodies_of_plans (plans_over scripts position old)) new.items → HasGoneOn tells scripts position old new
planned_gone tells scripts position old new keeps some = record { head = keeps_head tells old new keeps; some = some }

-- lanes that nobody asked anything of
pub unused_gone : {L : Type 0} → PartlyFront → PartlyAll → (tells : L → Option Telling) (scripts : List (List Step))
    (positions : List ℕ) (lanes : List (LaneState L)) → length positions ≡ length lanes
    → AllByRecursion HasNoEntry lanes → AllThree (HasGoneOn tells scripts) positions lanes lanes
unused_gone front all tells scripts [] [] long none = tt
unused_gone front all tells scripts [] (lane ∷ lanes) long none = absurd cc
unused_gone front all tells scripts (p ∷ positions) [] long none = absurd cc
unused_gone front all tells scripts (p ∷ positions) (lane ∷ lanes) long none = (
  record {
    head = refl;
    some = partly_none front all (bodies_of_plans (plans_over scripts p lane)) lane.items none.0;
  },
  unused_gone front all tells scripts positions lanes (omega (arith, long)) none.1,
)

none_behind : {L : Type 0} (k : ℕ) (lanes : List (LaneState L)) → AllByRecursion HasNoEntry lanes
    → AllByRecursion HasNoEntry (drop k lanes)
none_behind zero lanes none = none
none_behind (suc k) [] none = tt
none_behind (suc k) (lane ∷ lanes) none = none_behind k lanes none.1

-- ---- the lanes so far

pub record PlannedSoFar {L : Type 0} (tells : L → Option Telling) (scripts : List (List Step)) (k : ℕ)
    (positions : List ℕ) (olds nows : List (LaneState L)) (all : List (List ClientBodies)) : Type 0 where
  pub front : List (LaneState L)
  pub whole : nows ≡ front ++ drop k olds
  pub long : length front ≡ k
  pub planned : AllFour (IsPlannedOn scripts) (take k positions) (take k olds) front all
  pub gone : AllThree (HasGoneOn tells scripts) (take k positions) (take k olds) front

pub none_planned : {L : Type 0} (tells : L → Option Telling) (scripts : List (List Step)) (positions : List ℕ)
    (olds : List (LaneState L)) → PlannedSoFar tells scripts 0 positions olds olds []
none_planned tells scripts positions olds =
    record { front = []; whole = refl; long = refl; planned = tt; gone = tt }

pub so_far_at : {L : Type 0} {tells : L → Option Telling} {scripts : List (List Step)} {at k : ℕ} {positions : List ℕ}
    {olds nows : List (LaneState L)} {all : List (List ClientBodies)} → at ≡ k
    → PlannedSoFar tells scripts k positions olds nows all → PlannedSoFar tells scripts at positions olds nows all
so_far_at {L} {tells} {scripts} {at} {k} {positions} {olds} {nows} {all} same so_far =
    subst (λ (n : ℕ). PlannedSoFar tells scripts n positions olds nows all) (sym same) so_far

pub still_long : {L : Type 0} {tells : L → Option Telling} {scripts : List (List Step)} {k : ℕ} {positions : List ℕ}
    {olds nows : List (LaneState L)} {all : List (List ClientBodies)}
    → PlannedSoFar tells scripts k positions olds nows all → k < length olds → length nows ≡ length olds
still_long {k = k} {olds = olds} so_far within =
    let whole = ap (λ (l : List (LaneState _)). length l) so_far.whole in
    let both = length-append so_far.front (drop k olds) in
    let long = so_far.long in
    let rest = length-drop k olds in
    omega (arith, whole, both, long, rest, within)

-- the lane that is planned next is as it was, and nobody asked anything of it
pub record NextLane {L : Type 0} (tells : L → Option Telling) (scripts : List (List Step)) (k : ℕ) (positions : List ℕ)
    (olds nows : List (LaneState L)) (all : List (List ClientBodies)) (lane : LaneState L) : Type 0 where
  pub so_far : PlannedSoFar tells scripts k positions olds nows all
  pub within : k < length positions
  pub same : length positions ≡ length olds
  pub was : lane ≡ get_or olds k lane
  pub unused : AllByRecursion HasNoEntry olds

pub next_lane : {L : Type 0} {tells : L → Option Telling} {scripts : List (List Step)} {k : ℕ} {positions : List ℕ}
    {olds nows : List (LaneState L)} {all : List (List ClientBodies)} {lane : LaneState L}
    → PlannedSoFar tells scripts k positions olds nows all → k < length olds → length positions ≡ length olds
    → AllByRecursion HasNoEntry olds → lane ≡ get_or nows k lane
    → NextLane tells scripts k positions olds nows all (get_or nows k lane)
next_lane {L} {k = k} {olds = olds} {lane = lane} so_far inside same unused is =
    let was : lane ≡ get_or olds k lane = is ∙ (ap (λ (l : List (LaneState L)). get_or l k lane) so_far.whole
    ∙ (get_behind so_far.front (drop k olds) k lane so_far.long
    ∙ ap (λ (l : List (LaneState L)). get_or l 0 lane) (drop_more olds k lane inside))) in
    record {
      so_far = so_far;
      within = omega (arith, inside, same);
      same = same;
      was = subst (λ (l : LaneState L). l ≡ get_or olds k l) is was;
      unused = unused;
    }

no_entry_at : {L : Type 0} (k : ℕ) (olds : List (LaneState L)) (lane : LaneState L) → k < length olds
    → lane ≡ get_or olds k lane → AllByRecursion HasNoEntry olds → lane.items ≡ []
no_entry_at k [] lane within is none = absurd (omega (arith, within))
no_entry_at zero (o ∷ olds) lane within is none = ap (λ (l : LaneState _). l.items) is ∙ none.0
no_entry_at (suc k) (o ∷ olds) lane within is none = no_entry_at k olds lane (omega (arith, within)) is none.1

pub next_unused : {L : Type 0} {tells : L → Option Telling} {scripts : List (List Step)} {k : ℕ} {positions : List ℕ}
    {olds nows : List (LaneState L)} {all : List (List ClientBodies)} {lane : LaneState L}
    → NextLane tells scripts k positions olds nows all lane → lane.items ≡ []
next_unused {k = k} {olds = olds} {lane = lane} next =
    let within = next.within in
    let same = next.same in
    no_entry_at k olds lane (omega (arith, within, same)) next.was next.unused

-- the lanes from it on, and all lanes once it was written
next_begins : {L : Type 0} {tells : L → Option Telling} {scripts : List (List Step)} {k : ℕ} {positions : List ℕ}
    {olds nows : List (LaneState L)} {all : List (List ClientBodies)} {old : LaneState L}
    → NextLane tells scripts k positions olds nows all old → drop k olds ≡ old ∷ drop (k + 1) olds
next_begins {k = k} {olds = olds} {old = old} next =
    let within = next.within in
    let same = next.same in
    drop_more olds k old (omega (arith, within, same)) ∙ ap (λ l. l ∷ drop (k + 1) olds) (sym next.was)

next_written : {L : Type 0} {tells : L → Option Telling} {scripts : List (List Step)} {k : ℕ} {positions : List ℕ}
    {olds nows : List (LaneState L)} {all : List (List ClientBodies)} {old : LaneState L} (new : LaneState L)
    (later : List (LaneState L)) (next : NextLane tells scripts k positions olds nows all old)
    → later ≡ set nows k new → later ≡ next.so_far.front ++ new ∷ drop (k + 1) olds
next_written {L} {k = k} {olds = olds} {old = old} new later next put =
    let so_far = next.so_far in
    put ∙ (ap (λ (l : List (LaneState L)). set l k new) (so_far.whole ∙ ap (λ l. so_far.front ++ l) (next_begins next))
    ∙ set_at so_far.front old (drop (k + 1) olds) new k so_far.long)

-- one more lane was planned
pub lane_planned : {L : Type 0} {tells : L → Option Telling} {scripts : List (List Step)} {k : ℕ} {positions : List ℕ}
    {olds nows : List (LaneState L)} {all : List (List ClientBodies)} {old : LaneState L} (new : LaneState L)
    (later : List (LaneState L)) (more : List (List ClientBodies)) (planned : List ClientBodies)
    → NextLane tells scripts k positions olds nows all old → later ≡ set nows k new → more ≡ all ++ planned ∷ []
    → IsPlannedOn scripts (get_or positions k 0) old new planned
    → KeepsLane old new (tells old.link) (tells new.link)
    → IsPartlyPlanned (bodies_of_plans (plans_over scripts (get_or positions k 0) old)) new.items
    → PlannedSoFar tells scripts (k + 1) positions olds later more
lane_planned {L} {tells} {scripts} {k} {positions} {olds} {nows} {all} {old} new later more planned next put push plans
    keeps some =
    let within = next.within in
    let same = next.same in
    let inside : k < length olds = omega (arith, within, same) in
    let position = get_or positions k 0 in
    let so_far = next.so_far in
    let fronts : take (k + 1) olds ≡ take k olds ++ old ∷ [] =
    take_more olds k old inside ∙ ap (λ l. take k olds ++ l ∷ []) (sym next.was) in
    let places : take (k + 1) positions ≡ take k positions ++ position ∷ [] = take_more positions k 0 within in
    let front = so_far.front in
    record {
      front = front ++ new ∷ [];
      whole = next_written new later next put ∙ sym (append_assoc front (new ∷ []) (drop (k + 1) olds));
      long = (let e = length-append front (new ∷ []) in let f = so_far.long in omega (arith, e, f));
      planned = rw (places, fronts, push) (four_append (IsPlannedOn scripts) (take k positions) (position ∷ [])
          (take k olds) (old ∷ []) front (new ∷ []) all (planned ∷ []) so_far.planned (plans, tt));
      gone = rw (places, fronts) (three_append (HasGoneOn tells scripts) (take k positions) (position ∷ []) (take k
          olds)
          (old ∷ []) front (new ∷ []) so_far.gone (planned_gone tells scripts position old new keeps some, tt));
    }

-- the lanes at any moment between two
pub gone_between : {L : Type 0} {tells : L → Option Telling} {scripts : List (List Step)} {k : ℕ} {positions : List ℕ}
    {olds nows : List (LaneState L)} {all : List (List ClientBodies)} → PartlyFront → PartlyAll
    → PlannedSoFar tells scripts k positions olds nows all → length positions ≡ length olds
    → AllByRecursion HasNoEntry olds → AllThree (HasGoneOn tells scripts) positions olds nows
gone_between {L} {tells} {scripts} {k} {positions} {olds} front every so_far same none =
    rw so_far.whole
    (subst (λ (l : List ℕ). AllThree (HasGoneOn tells scripts) l olds (so_far.front ++ drop k olds))
    (take-append-drop k positions)
    (subst (λ (l : List (LaneState L)). AllThree (HasGoneOn tells scripts) (take k positions ++ drop k positions) l
    (so_far.front ++ drop k olds)) (take-append-drop k olds)
    (three_append (HasGoneOn tells scripts) (take k positions) (drop k positions) (take k olds) (drop k olds)
    so_far.front
    (drop k olds) so_far.gone
    (unused_gone front every tells scripts (drop k positions) (drop k olds)
    (let a = length-drop k positions in let b = length-drop k olds in omega (arith, a, b, same)) (none_behind k olds
    none)))))

-- and within one, which may be no lane that was planned whole
pub gone_within : {L : Type 0} {tells : L → Option Telling} {scripts : List (List Step)} {k : ℕ} {positions : List ℕ}
    {olds nows : List (LaneState L)} {all : List (List ClientBodies)} {old : LaneState L} → PartlyFront → PartlyAll
    → (new : LaneState L) (later : List (LaneState L)) → NextLane tells scripts k positions olds nows all old
    → later ≡ set nows k new → KeepsLane old new (tells old.link) (tells new.link)
    → IsPartlyPlanned (bodies_of_plans (plans_over scripts (get_or positions k 0) old)) new.items
    → AllThree (HasGoneOn tells scripts) positions olds later
gone_within {L} {tells} {scripts} {k} {positions} {olds} {nows} {all} {old} front every new later next put keeps some =
    let same = next.same in
    let position = get_or positions k 0 in
    let rest = drop (k + 1) olds in
    let so_far = next.so_far in
    let gone = planned_gone tells scripts position old new keeps some in
    let places : drop k positions ≡ position ∷ drop (k + 1) positions = drop_more positions k 0 next.within in
    let behind = unused_gone front every tells scripts (drop (k + 1) positions) rest
    (let a = length-drop (k + 1) positions in let b = length-drop (k + 1) olds in omega (arith, a, b, same))
    (none_behind (k + 1) olds next.unused) in
    let now = next_written new later next put in
    let whole : take k olds ++ old ∷ rest ≡ olds =
    ap (λ (l : List (LaneState L)). take k olds ++ l) (sym (next_begins next)) ∙ take-append-drop k olds in
    let all_places : take k positions ++ position ∷ drop (k + 1) positions ≡ positions =
    ap (λ (l : List ℕ). take k positions ++ l) (sym places) ∙ take-append-drop k positions in
    rw now
    (subst (λ (l : List (LaneState L)). AllThree (HasGoneOn tells scripts) positions l (so_far.front ++ new ∷ rest))
    whole
    (subst (λ (l : List ℕ). AllThree (HasGoneOn tells scripts) l (take k olds ++ old ∷ rest) (so_far.front ++ new ∷
    rest))
    all_places
    (three_append (HasGoneOn tells scripts) (take k positions) (position ∷ drop (k + 1) positions) (take k olds)
    (old ∷ rest) so_far.front (new ∷ rest) so_far.gone (gone, behind))))

pub all_planned : {L : Type 0} {tells : L → Option Telling} {scripts : List (List Step)} {k : ℕ} {positions : List ℕ}
    {olds nows : List (LaneState L)} {all : List (List ClientBodies)}
    → PlannedSoFar tells scripts k positions olds nows all → length olds ≤ k → length positions ≡ length olds
    → AllFour (IsPlannedOn scripts) positions olds nows all
all_planned {L} {scripts = scripts} {k} {positions} {olds} {nows} {all} so_far past same =
    let done : length positions ≤ k = omega (arith, past, same) in
    let now : nows ≡ so_far.front = so_far.whole ∙ (ap (λ l. so_far.front ++ l) (drop_all k olds past)
    ∙ append-nil so_far.front) in
    rw now
    (subst (λ (l : List ℕ). AllFour (IsPlannedOn scripts) l olds so_far.front all) (take_all k positions done)
    (subst (λ (l : List (LaneState L)). AllFour (IsPlannedOn scripts) (take k positions) l so_far.front all)
    (take_all k olds past) so_far.planned))

-- ---- what is planned on all lanes

pub boards_few : {L : Type 0} (scripts : List (List Step)) (positions : List ℕ) (olds news : List (LaneState L))
    (all : List (List ClientBodies)) → AllFour (IsPlannedOn scripts) positions olds news all
    → AllByRecursion (AllByRecursion HasFewBodies) all
boards_few scripts positions olds news all planned =
    last_of_four (IsPlannedOn scripts) (AllByRecursion HasFewBodies) positions olds news all
    (λ position old new planned is. is.few) planned

pub boards_planned : {L : Type 0} (scripts : List (List Step)) (positions : List ℕ) (olds news : List (LaneState L))
    (all : List (List ClientBodies)) → AllFour (IsPlannedOn scripts) positions olds news all
    → AllByRecursion (ArePlansOnBoard scripts) all
boards_planned scripts positions olds news all planned =
    last_of_four (IsPlannedOn scripts) (ArePlansOnBoard scripts) positions olds news all
    (λ position old new planned is. record {
      position = position;
      payload = payload_of old.status.mtu;
      plans = is.plans;
    }) planned

pub boards_of_clients : {L : Type 0} (scripts : List (List Step)) (positions : List ℕ) (olds news : List (LaneState L))
    (all : List (List ClientBodies)) (many : ℕ) → AllFour (IsPlannedOn scripts) positions olds news all
    → many ≡ length scripts → AllByRecursion (HasClients many) all
boards_of_clients scripts positions olds news all many planned same =
    last_of_four (IsPlannedOn scripts) (HasClients many) positions olds news all
    (λ position old new planned is. ap (λ (l : List ClientBodies). length l) is.plans
    ∙ length-map scripts (planned_on position (Live (payload_of old.status.mtu))) ∙ sym same) planned

-- ---- the boards at a hub, one after another

front_of_drop : (k : ℕ) (xs rest : List ℕ) (x : ℕ) → x ∷ rest ≡ drop k xs
    → (k < length xs) × (get_or xs k 0 ≡ x) × (rest ≡ drop (suc k) xs)
front_of_drop k [] rest x is =
    let none = ap (λ (l : List ℕ). length l) (is ∙ drop_all k [] (omega arith)) in absurd (omega (arith, none))
front_of_drop zero (y ∷ xs) rest x is = (omega arith, sym (ap (λ (l : List ℕ). get_or l 0 0) is), ap (λ (l : List ℕ). drop 1 l) is)
front_of_drop (suc k) (y ∷ xs) rest x is =
    let there = front_of_drop k xs rest x is in (omega (arith, there.0), there.1, there.2)

-- the next board is at a hub, and has the next lane
pub record NextAtHub {L : Type 0} (boards : List (Standing L)) (position k : ℕ) : Type 0 where
  pub there : k < length (positions_at_hub 0 boards)
  pub position' : get_or (positions_at_hub 0 boards) k 0 ≡ position
  pub later : positions_at_hub (position + 1) (drop (position + 1) boards)
      ≡ drop (k + 1) (positions_at_hub 0 boards)

begins_with : {L : Type 0} (boards : List (Standing L)) (position : ℕ) (board : Standing L) → position < length boards
    → board ≡ get_or boards position board → drop position boards ≡ board ∷ drop (position + 1) boards
begins_with boards position board within is =
    drop_more boards position board within ∙ ap (λ (b : Standing _). b ∷ drop (position + 1) boards) (sym is)

at_hub_first : {L : Type 0} (position : ℕ) (board : Standing L) (rest : List (Standing L)) → is_at_hub board ≡ true
    → positions_at_hub position (board ∷ rest) ≡ position ∷ positions_at_hub (position + 1) rest
at_hub_first position (standing.Live lane) rest is = absurd cc
at_hub_first position standing.AtHub rest is = refl
at_hub_first position (standing.Silent link) rest is = absurd cc
at_hub_first position (standing.Down link) rest is = absurd cc

not_at_hub : {L : Type 0} (position : ℕ) (board : Standing L) (rest : List (Standing L)) → is_at_hub board ≡ false
    → positions_at_hub position (board ∷ rest) ≡ positions_at_hub (position + 1) rest
not_at_hub position (standing.Live lane) rest is = refl
not_at_hub position standing.AtHub rest is = absurd cc
not_at_hub position (standing.Silent link) rest is = refl
not_at_hub position (standing.Down link) rest is = refl

pub next_at_hub : {L : Type 0} (boards : List (Standing L)) (position k : ℕ) (board : Standing L)
    → position < length boards → board ≡ get_or boards position board → is_at_hub board ≡ true
    → positions_at_hub position (drop position boards) ≡ drop k (positions_at_hub 0 boards)
    → NextAtHub boards position k
next_at_hub {L} boards position k board within is at left =
    let rest = drop (position + 1) boards in
    let here = front_of_drop k (positions_at_hub 0 boards) (positions_at_hub (position + 1) rest) position
    (sym (at_hub_first position board rest at)
    ∙ (ap (λ (l : List (Standing L)). positions_at_hub position l) (sym (begins_with boards position board within is))
    ∙ left)) in
    let up : suc k ≡ k + 1 = omega arith in
    record {
      there = here.0;
      position' = here.1;
      later = here.2 ∙ ap (λ (n : ℕ). drop n (positions_at_hub 0 boards)) up;
    }

pub next_skipped : {L : Type 0} (boards : List (Standing L)) (position k : ℕ) (board : Standing L)
    → position < length boards → board ≡ get_or boards position board → is_at_hub board ≡ false
    → positions_at_hub position (drop position boards) ≡ drop k (positions_at_hub 0 boards)
    → positions_at_hub (position + 1) (drop (position + 1) boards) ≡ drop k (positions_at_hub 0 boards)
next_skipped {L} boards position k board within is at left =
    sym (not_at_hub position board (drop (position + 1) boards) at)
    ∙ (ap (λ (l : List (Standing L)). positions_at_hub position l) (sym (begins_with boards position board within is))
    ∙ left)

-- no board is left, so no lane is
pub none_left : {L : Type 0} (boards : List (Standing L)) (position k : ℕ) → length boards ≤ position
    → positions_at_hub position (drop position boards) ≡ drop k (positions_at_hub 0 boards)
    → length (positions_at_hub 0 boards) ≤ k
none_left {L} boards position k over left =
    let none : drop k (positions_at_hub 0 boards) ≡ [] = sym left
    ∙ ap (λ (l : List (Standing L)). positions_at_hub position l) (drop_all position boards over) in
    let long = length-drop k (positions_at_hub 0 boards) in
    let empty = ap (λ (l : List ℕ). length l) none in
    omega (arith, long, empty)

-- the plans on the next lane are those of the board at that position
pub planned_there : {L : Type 0} {scripts : List (List Step)} {position : ℕ} {planned : List ClientBodies}
    {old new : LaneState L} (at : ℕ) → at ≡ position → IsPlannedOn scripts position old new planned
    → IsPlannedOn scripts at old new planned
planned_there {L} {scripts} {planned = planned} {old} {new} at same is =
    subst (λ (n : ℕ). IsPlannedOn scripts n old new planned) (sym same) is

pub partly_there : {L : Type 0} (scripts : List (List Step)) (at position : ℕ) (old new : LaneState L)
    → at ≡ position → IsPartlyPlanned (bodies_of_plans (plans_over scripts position old)) new.items
    → IsPartlyPlanned (bodies_of_plans (plans_over scripts at old)) new.items
partly_there {L} scripts at position old new same is =
    subst (λ (n : ℕ). IsPartlyPlanned (bodies_of_plans (plans_over scripts n old)) new.items) (sym same) is
