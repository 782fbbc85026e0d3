-- Lanes that came back from a hub, and the parts of the clients that ran there.
use Rattle.std.proofs.Common.{◌≡◌, inl, inr, ℕ, suc, ◌+◌, ◌∙◌, List, [], ◌∷◌, ◌++◌, length, map}
use Rattle.std.proofs.Common.{sum}
use Rattle.std.proofs.Common.{Option, Some, refl, sym, ap, subst}
use Rattle.std.specs.List.{AllByRecursion, slice_get}
use Rattle.std.proofs.lemmas.List.{length-map}
use Rattle.std.proofs.lemmas.Option.{get_or_from_slice_get}
use Rattle.ipb_base.specs.Lists.{IsPrefix}
use Rattle.ipb_base.specs.Numbers.{payload_of}
use Rattle.turn_pass.specs.Pass.{Joined, Knowledge, first_knowledge}
use Rattle.turn_pass.specs.Record.{Record}
use Rattle.links.specs.Telling.{Telling}
use Rattle.world_model.specs.Settings.{Limits}
use Rattle.lane_record.specs.declared.outcome.Outcome.{Outcome}
use Rattle.lane_record.specs.declared.item.Item.{Item}
use Rattle.lane_record.specs.Coding.{Head, record_of}
use Rattle.lane_record.specs.Dispatches.{outcomes_in_order}
use Rattle.hub_lane.specs.Lanes.{BoardStatus, LaneState, opening_of}
use Rattle.hub_lane.specs.Records.{record_shown}
use Rattle.hub_multiplexer.specs.Ends.{AreEnded, Ends}
use Rattle.hub_multiplexer.specs.Lanes.{shown_record}
use Rattle.client_threads.specs.Clients.{AreOfClientsFrom, AwaitClients, HaveGoneOn, HaveRunOn, HoldsPlans, OnEachLane}
use Rattle.client_threads.specs.Clients.{AreResultsFor, OnLanesFrom, TookIn, counts_on}
use Rattle.client_threads.specs.declared.plan.ClientPlan.{ClientPlan}
use Rattle.client_threads.specs.declared.result.ClientResult.{ClientResult}
use Rattle.script_steps.specs.declared.operation.Step.{Step}
use Rattle.board_history.specs.Runs.{parts_with}
use Rattle.script_plans.specs.declared.board_run.ClientPart.{ClientPart}
use Rattle.script_plans.specs.declared.greeting.Greeting.TheVariants.{Live}
use Rattle.script_plans.specs.Plan.{ClientBodies, planned_on, plans_on}
use Rattle.board_history.specs.Records.{IsPartlyPlanned}
use Rattle.client_history.specs.Clients.{AskAll, LeftByClients, came_with, sealed_plans}
use Rattle.session_run.specs.Parts.{HasLanes, outcomes_on_lane, parts_from}
use Rattle.session_run.specs.Plans.{AskAllFrom, counts_by_client}
use Rattle.session_run.specs.Clients.{HasItsCounts, bodies_of_plans}
use Rattle.session_run.specs.Hubs.{CameBack, HoldsAll, RanAtHub}
use Rattle.board_greeting.specs.Boards.{head_shown}
use Rattle.session_run.specs.Lanes.{AllFour, AllThree, HasGoneOn, IsPlannedOn, IsRunOn, plans_over}
use Rattle.session_run.proofs.DispatchParts.{each_counts, parts_of_dispatches}

-- ---- the laws of a lane at a hub

abbrev pub BackLaw : Type 0
BackLaw = (head head_now : Head) (items items_now : List Item) (passes : List Joined) (after : Knowledge)
    (final : Record) → TookIn passes (came_with head items) after → Ends after final
    → final ≡ record_of head_now items_now → (head_now ≡ head) × IsPrefix items items_now

abbrev pub RunLaw : Type 0
RunLaw = (lane : ℕ) (plans : List ClientPlan) (results : List ClientResult) (bodies : List (List (List ℕ)))
    (head head_now : Head) (items : List Item) (after : Knowledge) (final : Record)
    → AreOfClientsFrom 1 plans → AskAll lane plans bodies
    → HaveRunOn plans results lane (came_with head (sealed_plans bodies)) after → Ends after final
    → final ≡ record_of head_now items → LeftByClients lane plans results bodies items

abbrev pub PartlyLaw : Type 0
PartlyLaw = (plans : List ClientPlan) (seats : ℕ) (bodies : List (List (List ℕ))) (head head_now : Head)
    (items items_now : List Item) (after : Knowledge) (final : Record)
    → AreOfClientsFrom 1 plans → length plans ≡ length bodies → IsPartlyPlanned bodies items
    → HaveGoneOn plans seats (came_with head items) after → Ends after final
    → final ≡ record_of head_now items_now → IsPartlyPlanned bodies items_now

abbrev pub TellsLaw : Type 0
TellsLaw = (number other_number : ℕ) (settings other_settings : Limits) (status other_status : BoardStatus)
    (telling other_telling : Option Telling) (items other_items : List Item)
    → record_shown number settings status telling items
    ≡ record_shown other_number other_settings other_status other_telling other_items
    → (settings ≡ other_settings) × (status ≡ other_status) × (opening_of telling ≡ opening_of other_telling)
    × (items ≡ other_items) × (number ≡ other_number)

-- ---- what the clients ask of a lane

sums_of : (counts : List (List ℕ)) (planned : List ClientBodies) → counts ≡ counts_by_client planned
    → AllByRecursion HasItsCounts planned
    → map (λ (c : List ℕ). sum c) counts ≡ map (λ (b : List (List ℕ)). length b) (bodies_of_plans planned)
sums_of [] [] is all = refl
sums_of [] (p ∷ planned) is all = absurd cc
sums_of (c ∷ counts) [] is all = absurd cc
sums_of (c ∷ counts) (p ∷ planned) is all =
    let head : c ≡ p.counts = cc in
    let tail : counts ≡ counts_by_client planned = cc in
    ap (λ (n : ℕ). n ∷ map (λ (d : List ℕ). sum d) counts) (ap (λ (l : List ℕ). sum l) head ∙ all.0)
    ∙ ap (λ (ns : List ℕ). length p.bodies ∷ ns) (sums_of counts planned tail all.1)

sum_counts : (lane : ℕ) (plans : List ClientPlan)
    → map (λ (plan : ClientPlan). sum (counts_on lane plan)) plans
    ≡ map (λ (c : List ℕ). sum c) (map (counts_on lane) plans)
sum_counts lane [] = refl
sum_counts lane (plan ∷ plans) = ap (λ (ns : List ℕ). sum (counts_on lane plan) ∷ ns) (sum_counts lane plans)

ask_all : (lane : ℕ) (plans : List ClientPlan) (planned : List ClientBodies)
    → map (counts_on lane) plans ≡ counts_by_client planned → AllByRecursion HasItsCounts planned
    → AskAll lane plans (bodies_of_plans planned)
ask_all lane plans planned is all = sum_counts lane plans ∙ sums_of (map (counts_on lane) plans) planned is all

planned_counts : {L : Type 0} (scripts : List (List Step)) (position : ℕ) (old new : LaneState L)
    (planned : List ClientBodies) → IsPlannedOn scripts position old new planned → AllByRecursion HasItsCounts planned
planned_counts scripts position old new planned is = subst (AllByRecursion HasItsCounts) (sym is.plans)
    (each_counts position (Live (payload_of old.status.mtu)) scripts)

planned_items : {L : Type 0} (scripts : List (List Step)) (position : ℕ) (old new : LaneState L)
    (planned : List ClientBodies) → old.items ≡ [] → IsPlannedOn scripts position old new planned
    → new.items ≡ sealed_plans (bodies_of_plans planned)
planned_items scripts position old new planned none is =
    ap (λ (l : LaneState _). l.items) is.lane' ∙ ap (λ (items : List Item). items ++ sealed_plans (bodies_of_plans planned))
    none

-- each lane holds all that the clients ask of it
pub hold_all : {L : Type 0} (scripts : List (List Step)) (plans : List ClientPlan) (lane : ℕ) (positions : List ℕ)
    (olds mids : List (LaneState L)) (all : List (List ClientBodies)) → AllByRecursion (λ (l : LaneState L). l.items
    ≡ []) olds
    → AllFour (IsPlannedOn scripts) positions olds mids all → AskAllFrom lane plans all
    → OnLanesFrom lane (HoldsAll plans) mids
hold_all scripts plans lane [] [] [] [] none planned asked = tt
hold_all scripts plans lane [] [] [] (w ∷ all) none planned asked = absurd planned
hold_all scripts plans lane [] [] (m ∷ mids) all none planned asked = absurd planned
hold_all scripts plans lane [] (o ∷ olds) mids all none planned asked = absurd planned
hold_all scripts plans lane (p ∷ positions) [] mids all none planned asked = absurd planned
hold_all scripts plans lane (p ∷ positions) (o ∷ olds) [] all none planned asked = absurd planned
hold_all scripts plans lane (p ∷ positions) (o ∷ olds) (m ∷ mids) [] none planned asked = absurd planned
hold_all scripts plans lane (p ∷ positions) (o ∷ olds) (m ∷ mids) (w ∷ all) none planned asked = (
  record {
    bodies = bodies_of_plans w;
    opens = planned_items scripts p o m w none.0 planned.0;
    asked = ask_all lane plans w asked.0 (planned_counts scripts p o m w planned.0);
  },
  hold_all scripts plans (lane + 1) positions olds mids all none.1 planned.1 asked.1,
)

few_bodies : (position payload : ℕ) (scripts : List (List Step))
    → length (bodies_of_plans (plans_on position (Live payload) scripts)) ≡ length scripts
few_bodies position payload scripts = length-map (plans_on position (Live payload) scripts)
    (λ (p : ClientBodies). p.bodies)
    ∙ length-map scripts (planned_on position (Live payload))

-- ---- the lanes that came back

-- lanes with the same records
pub gone_same : {L : Type 0} → TellsLaw → (tells : L → Option Telling) (scripts : List (List Step)) (positions : List ℕ)
    (olds mids news : List (LaneState L)) → AllThree (HasGoneOn tells scripts) positions olds mids
    → map (shown_record tells) news ≡ map (shown_record tells) mids → AllThree (HasGoneOn tells scripts) positions olds news
gone_same law tells scripts [] [] [] [] gone same = tt
gone_same law tells scripts [] [] [] (n ∷ news) gone same = absurd cc
gone_same law tells scripts [] [] (m ∷ mids) news gone same = absurd gone
gone_same law tells scripts [] (o ∷ olds) mids news gone same = absurd gone
gone_same law tells scripts (p ∷ positions) [] mids news gone same = absurd gone
gone_same law tells scripts (p ∷ positions) (o ∷ olds) [] news gone same = absurd gone
gone_same law tells scripts (p ∷ positions) (o ∷ olds) (m ∷ mids) [] gone same = absurd cc
gone_same {L} law tells scripts (p ∷ positions) (o ∷ olds) (m ∷ mids) (n ∷ news) gone same =
    let head : shown_record tells n ≡ shown_record tells m = cc in
    let tail : map (shown_record tells) news ≡ map (shown_record tells) mids = cc in
    let told = law n.number m.number n.settings m.settings n.status m.status (tells n.link) (tells m.link) n.items m.items
    head in
    let number : n.number ≡ m.number = told.4 in
    let settings : n.settings ≡ m.settings = told.0 in
    let status : n.status ≡ m.status = told.1 in
    let opening : opening_of (tells n.link) ≡ opening_of (tells m.link) = told.2 in
    let heads : head_shown tells n ≡ head_shown tells m = cc in (
      record {
        head = heads ∙ gone.0.head;
        some = subst (IsPartlyPlanned (bodies_of_plans (plans_over scripts p o))) (sym told.3) gone.0.some;
      },
      gone_same law tells scripts positions olds mids news gone.1 tail,
    )

-- lanes that were at a hub
pub gone_at_hub : {L : Type 0} → BackLaw → PartlyLaw → (tells : L → Option Telling) (scripts : List (List Step))
    (plans : List ClientPlan) (seats lane : ℕ) (positions : List ℕ) (olds mids news : List (LaneState L))
    (afters : List Knowledge) → AreOfClientsFrom 1 plans → length plans ≡ length scripts
    → AllThree (HasGoneOn tells scripts) positions olds mids
    → OnEachLane lane (λ at. HaveGoneOn plans seats) (map first_knowledge (map (shown_record tells) mids)) afters
    → AreEnded afters (map (shown_record tells) news) → AllThree (HasGoneOn tells scripts) positions olds news
gone_at_hub back partly tells scripts plans seats lane [] [] [] [] [] of' many gone at ended = tt
gone_at_hub back partly tells scripts plans seats lane [] [] [] (n ∷ news) [] of' many gone at ended = absurd ended
gone_at_hub back partly tells scripts plans seats lane [] [] [] news (k ∷ afters) of' many gone at ended = absurd at
gone_at_hub back partly tells scripts plans seats lane [] [] (m ∷ mids) news afters of' many gone at ended = absurd gone
gone_at_hub back partly tells scripts plans seats lane [] (o ∷ olds) mids news afters of' many gone at ended = absurd
    gone
gone_at_hub back partly tells scripts plans seats lane (p ∷ positions) [] mids news afters of' many gone at ended =
    absurd gone
gone_at_hub back partly tells scripts plans seats lane (p ∷ positions) (o ∷ olds) [] news afters of' many gone at
    ended =
    absurd gone
gone_at_hub back partly tells scripts plans seats lane (p ∷ positions) (o ∷ olds) (m ∷ mids) news [] of' many gone at
    ended =
    absurd at
gone_at_hub back partly tells scripts plans seats lane (p ∷ positions) (o ∷ olds) (m ∷ mids) [] (k ∷ afters) of' many
    gone at
    ended = absurd ended
gone_at_hub back partly tells scripts plans seats lane (p ∷ positions) (o ∷ olds) (m ∷ mids) (n ∷ news) (k ∷ afters)
    of' many
    gone at ended =
    let bodies = bodies_of_plans (plans_over scripts p o) in
    let few : length plans ≡ length bodies = many ∙ sym (few_bodies p (payload_of o.status.mtu) scripts) in
    let head = back (head_shown tells m) (head_shown tells n) m.items n.items at.0.passes k (shown_record tells n) at.0.took_in
    ended.0 refl in (
      record {
        head = head.0 ∙ gone.0.head;
        some = partly plans seats bodies (head_shown tells m) (head_shown tells n) m.items n.items k (shown_record tells n) of'
            few gone.0.some at.0 ended.0 refl;
      },
      gone_at_hub back partly tells scripts plans seats (lane + 1) positions olds mids news afters of' many gone.1 at.1
          ended.1,
    )

-- ---- the parts

-- what is shown of each client's bodies, and what became of them
outcomes_shown : (lane : ℕ) (results : List ClientResult) (dispatches : List (List (List Outcome)))
    → map (λ (r : ClientResult). slice_get r.lanes lane) results
    ≡ map (λ (d : List (List Outcome)). Some (outcomes_in_order d)) dispatches
    → outcomes_on_lane lane results ≡ map outcomes_in_order dispatches
outcomes_shown lane [] [] is = refl
outcomes_shown lane [] (d ∷ dispatches) is = absurd cc
outcomes_shown lane (r ∷ results) [] is = absurd cc
outcomes_shown lane (r ∷ results) (d ∷ dispatches) is =
    let head : slice_get r.lanes lane ≡ Some (outcomes_in_order d) = cc in
    let tail : map (λ (x : ClientResult). slice_get x.lanes lane) results
    ≡ map (λ (x : List (List Outcome)). Some (outcomes_in_order x)) dispatches = cc in
    ap (λ (os : List Outcome). os ∷ outcomes_on_lane lane results) (get_or_from_slice_get r.lanes lane (outcomes_in_order d) []
    head)
    ∙ ap (λ (l : List (List Outcome)). outcomes_in_order d ∷ l) (outcomes_shown lane results dispatches tail)

same_heads : {L : Type 0} (tells : L → Option Telling) (a b : LaneState L) → head_shown tells a ≡ head_shown tells b
    → a.status ≡ b.status
same_heads tells a b is =
    ap (λ (h : Head). let s : BoardStatus = record { mtu = h.mtu; buffers = h.buffers; next = h.first } in s) is

ran_on_lane : {L : Type 0} → BackLaw → RunLaw → (tells : L → Option Telling) (scripts : List (List Step))
    (plans : List ClientPlan) (results : List ClientResult) (lane position : ℕ) (old mid new : LaneState L)
    (planned : List ClientBodies) (after : Knowledge) → AreOfClientsFrom 1 plans → old.items ≡ []
    → IsPlannedOn scripts position old mid planned → map (counts_on lane) plans ≡ counts_by_client planned
    → head_shown tells new ≡ head_shown tells old
    → HaveRunOn plans results lane (first_knowledge (shown_record tells mid)) after → Ends after (shown_record tells new)
    → IsRunOn scripts position new (parts_with planned (outcomes_on_lane lane results) [])
ran_on_lane {L} back run tells scripts plans results lane position old mid new planned after of' none is counts heads
    ran
    ended =
    let bodies = bodies_of_plans planned in
    let own = planned_counts scripts position old mid planned is in
    let opens = planned_items scripts position old mid planned none is in
    let left = run lane plans results bodies (head_shown tells mid) (head_shown tells new) new.items after (shown_record
    tells new)
    of' (ask_all lane plans planned counts own)
    (subst (λ (items : List Item). HaveRunOn plans results lane (came_with (head_shown tells mid) items) after) opens
    ran)
    ended refl in
    let outcomes = outcomes_shown lane results left.dispatches left.outcomes in
    let parts = parts_of_dispatches planned left.dispatches own (left.cut ∙ counts) in
    let status : new.status ≡ old.status = same_heads tells new old heads in
    rw outcomes
    (record {
      planned = parts.plans ∙ (is.plans
          ∙ ap (λ (s : BoardStatus). plans_on position (Live (payload_of s.mtu)) scripts) (sym status));
      whole = parts.whole;
      left = rw (parts.bodies, parts.cut) left.left;
    })

pub ran_at_hub : {L : Type 0} → BackLaw → RunLaw → (tells : L → Option Telling) (scripts : List (List Step))
    (plans : List ClientPlan) (results : List ClientResult) (lane : ℕ) (positions : List ℕ)
    (olds mids news : List (LaneState L)) (all : List (List ClientBodies)) (afters : List Knowledge)
    → AreOfClientsFrom 1 plans → AllByRecursion (λ (l : LaneState L). l.items ≡ []) olds
    → AllFour (IsPlannedOn scripts) positions olds mids all → AskAllFrom lane plans all
    → AllThree (HasGoneOn tells scripts) positions olds news
    → OnEachLane lane (HaveRunOn plans results) (map first_knowledge (map (shown_record tells) mids)) afters
    → AreEnded afters (map (shown_record tells) news)
    → AllThree (IsRunOn scripts) positions news (parts_from lane all results)
ran_at_hub back run tells scripts plans results lane [] [] [] [] [] [] of' none planned asked gone ran ended = tt
ran_at_hub back run tells scripts plans results lane [] [] [] news [] (k ∷ afters) of' none planned asked gone ran
    ended =
    absurd ran
ran_at_hub back run tells scripts plans results lane [] [] [] (n ∷ news) [] [] of' none planned asked gone ran ended =
    absurd ended
ran_at_hub back run tells scripts plans results lane [] [] [] news (w ∷ all) afters of' none planned asked gone ran
    ended =
    absurd planned
ran_at_hub back run tells scripts plans results lane [] [] (m ∷ mids) news all afters of' none planned asked gone ran
    ended =
    absurd planned
ran_at_hub back run tells scripts plans results lane [] (o ∷ olds) mids news all afters of' none planned asked gone
    ran ended =
    absurd planned
ran_at_hub back run tells scripts plans results lane (p ∷ positions) [] mids news all afters of' none planned asked
    gone ran
    ended = absurd planned
ran_at_hub back run tells scripts plans results lane (p ∷ positions) (o ∷ olds) [] news all afters of' none planned
    asked gone
    ran ended = absurd planned
ran_at_hub back run tells scripts plans results lane (p ∷ positions) (o ∷ olds) (m ∷ mids) news [] afters of' none
    planned
    asked gone ran ended = absurd planned
ran_at_hub back run tells scripts plans results lane (p ∷ positions) (o ∷ olds) (m ∷ mids) news (w ∷ all) [] of' none
    planned
    asked gone ran ended = absurd ran
ran_at_hub back run tells scripts plans results lane (p ∷ positions) (o ∷ olds) (m ∷ mids) [] (w ∷ all) (k ∷ afters)
    of' none
    planned asked gone ran ended = absurd ended
ran_at_hub back run tells scripts plans results lane (p ∷ positions) (o ∷ olds) (m ∷ mids) (n ∷ news) (w ∷ all) (k ∷
    afters)
    of' none planned asked gone ran ended = (
      ran_on_lane back run tells scripts plans results lane p o m n w k of' none.0 planned.0 asked.0 gone.0.head ran.0
          ended.0,
      ran_at_hub back run tells scripts plans results (lane + 1) positions olds mids news all afters of' none.1
          planned.1 asked.1
          gone.1 ran.1 ended.1,
    )

-- ---- the clients that the lanes wait for

abbrev pub AwaitLaw : Type 0
AwaitLaw = (lane : ℕ) (plans : List ClientPlan) (bodies : List (List (List ℕ))) (head : Head)
    → AreOfClientsFrom 1 plans → AskAll lane plans bodies
    → AllByRecursion (λ (plan : ClientPlan). HoldsPlans plan.client (sum (counts_on lane plan))
    (came_with head (sealed_plans bodies))) plans

abbrev pub Holds : ℕ → ClientPlan → Knowledge → Type 0
Holds lane plan k = HoldsPlans plan.client (sum (counts_on lane plan)) k

-- each lane waits for all clients
pub each_awaits : {L : Type 0} → AwaitLaw → (tells : L → Option Telling) (plans : List ClientPlan) (lane : ℕ)
    (lanes : List (LaneState L)) → AreOfClientsFrom 1 plans → OnLanesFrom lane (HoldsAll plans) lanes
    → OnLanesFrom lane (λ at k. AllByRecursion (λ (plan : ClientPlan). Holds at plan k) plans)
    (map first_knowledge (map (shown_record tells) lanes))
each_awaits law tells plans lane [] of' hold = tt
each_awaits {L} law tells plans lane (l ∷ lanes) of' hold = (
  subst (λ (items : List Item). AllByRecursion (λ (plan : ClientPlan). Holds lane plan
      (came_with (head_shown tells l) items)) plans) (sym hold.0.opens)
      (law lane plans hold.0.bodies (head_shown tells l) of' hold.0.asked),
  each_awaits law tells plans (lane + 1) lanes of' hold.1,
)

first_awaits : (lane : ℕ) (plan : ClientPlan) (plans : List ClientPlan) (knows : List Knowledge)
    → OnLanesFrom lane (λ at k. AllByRecursion (λ (p : ClientPlan). Holds at p k) (plan ∷ plans)) knows
    → OnLanesFrom lane (λ at. Holds at plan) knows
    × OnLanesFrom lane (λ at k. AllByRecursion (λ (p : ClientPlan). Holds at p k) plans) knows
first_awaits lane plan plans [] each = (tt, tt)
first_awaits lane plan plans (k ∷ knows) each =
    let later = first_awaits (lane + 1) plan plans knows each.1 in
    ((each.0.0, later.0), (each.0.1, later.1))

-- so each client is awaited by all lanes
pub all_await : (plans : List ClientPlan) (knows : List Knowledge)
    → OnLanesFrom 0 (λ at k. AllByRecursion (λ (plan : ClientPlan). Holds at plan k) plans) knows
    → AwaitClients plans knows
all_await [] knows each = tt
all_await (plan ∷ plans) knows each =
    let both = first_awaits 0 plan plans knows each in (both.0, all_await plans knows both.1)

-- ---- the results

pub results_long : (lanes : ℕ) (plans : List ClientPlan) (results : List ClientResult)
    → AreResultsFor lanes plans results → length results ≡ length plans
results_long lanes [] [] are = refl
results_long lanes [] (r ∷ results) are = absurd are
results_long lanes (p ∷ plans) [] are = absurd are
results_long lanes (p ∷ plans) (r ∷ results) are = ap suc (results_long lanes plans results are.1)

pub results_lanes : (lanes : ℕ) (plans : List ClientPlan) (results : List ClientResult)
    → AreResultsFor lanes plans results → AllByRecursion (HasLanes lanes) results
results_lanes lanes [] [] are = tt
results_lanes lanes [] (r ∷ results) are = absurd are
results_lanes lanes (p ∷ plans) [] are = absurd are
results_lanes lanes (p ∷ plans) (r ∷ results) are = (are.0.1, results_lanes lanes plans results are.1)

-- ---- all of it

pub all_gone : {L : Type 0} → TellsLaw → BackLaw → PartlyLaw → (tells : L → Option Telling) (scripts : List (List Step))
    (plans : List ClientPlan) (positions : List ℕ) (olds mids news : List (LaneState L)) → AreOfClientsFrom 1 plans
    → length plans ≡ length scripts → AllThree (HasGoneOn tells scripts) positions olds mids
    → CameBack tells plans mids news → AllThree (HasGoneOn tells scripts) positions olds news
all_gone law back partly tells scripts plans positions olds mids news of' many gone (inl same) =
    gone_same law tells scripts positions olds mids news gone same
all_gone law back partly tells scripts plans positions olds mids news of' many gone (inr at) =
    gone_at_hub back partly tells scripts plans at.taken_in.made 0 positions olds mids news at.hub.after.knows of'
    many gone
    (subst (λ (knows : List Knowledge). OnEachLane 0 (λ on. HaveGoneOn plans at.taken_in.made) knows at.hub.after.knows)
    at.hub.opened at.taken_in.lanes) at.hub.ended

-- the parts of clients that ran there to their end
pub parts_ran : {L : Type 0} → BackLaw → RunLaw → (tells : L → Option Telling) (scripts : List (List Step))
    (plans : List ClientPlan) (results : List ClientResult) (positions : List ℕ) (olds mids news : List (LaneState L))
    (all : List (List ClientBodies)) (parts : List (List ClientPart)) → AreOfClientsFrom 1 plans
    → AllByRecursion (λ (l : LaneState L). l.items ≡ []) olds → AllFour (IsPlannedOn scripts) positions olds mids all
    → AskAllFrom 0 plans all → AllThree (HasGoneOn tells scripts) positions olds news
    → RanAtHub tells plans results mids news → parts ≡ parts_from 0 all results
    → AllThree (IsRunOn scripts) positions news parts
parts_ran back_law run tells scripts plans results positions olds mids news all parts of' none planned counts gone ran
    is =
    subst (AllThree (IsRunOn scripts) positions news) (sym is)
    (ran_at_hub back_law run tells scripts plans results 0 positions olds mids news all ran.hub.after.knows of' none
    planned counts gone
    (subst (λ (knows : List Knowledge). OnEachLane 0 (HaveRunOn plans results) knows ran.hub.after.knows) ran.hub.opened
    ran.ran.lanes) ran.hub.ended)
