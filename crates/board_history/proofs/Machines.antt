-- A finished lane over any link is a run of the machine with the bodies that its clients asked.
use Rattle.std.proofs.Common.{◌≡◌, ◌⊎◌, ℕ, ◌+◌, ◌≤◌, min, Bool, true, false, ◌||◌, ◌==◌, List, [], ◌∷◌, ◌++◌, length}
use Rattle.std.proofs.Common.{map, Option, Some, refl, sym, ap, ◌∙◌, subst, arith, if◌then◌else◌, inl, inr}
use Rattle.std.specs.List.{AllByRecursion}
use Rattle.ipb_base.specs.Lists.{IsPrefix}
use Rattle.world_model.specs.declared.offered.Offered.{Offered}
use Rattle.world_model.specs.declared.offered.OpenPlace.{OpenPlace}
use Rattle.world_model.specs.Facts.{bodies_of}
use Rattle.world_model.specs.Hub.{Hub, is_waiting, some_queued, some_waited}
use Rattle.world_model.specs.Settings.{Limits}
use Rattle.reliable_engine.specs.MachineRuns.{IsFreshRun, RunEvent, offers_in}
use Rattle.reliable_engine.specs.Traffic.{Passed}
use Rattle.lane_record.specs.declared.outcome.Outcome.{Outcome}
use Rattle.lane_record.specs.declared.item.Item.{Item}
use Rattle.lane_record.specs.Claims.{Claim, IsFinished, claims, outcome_taken}
use Rattle.lane_record.specs.Dispatches.{outcomes_in_order}
use Rattle.lane_record.specs.Legal.{IsLegal}
use Rattle.lane_record.specs.FirstSends.{bodies_sent, first_sends}
use Rattle.lane_record.specs.Offers.{Agrees, awaited_tags, offer_of, tag_at, tags, unsettled_from}
use Rattle.lane_record.proofs.Finished.{finished_hub, outcomes_taken}
use Rattle.hub_lane.specs.Run.{AreOffersOf, PassesAs, ending_of, offers_of_asks}
use Rattle.hub_lane.specs.Fates.{AreFatesAt, AreLatesAt}
use Rattle.script_plans.specs.declared.board_run.BoardRun.{BoardRun}
use Rattle.board_history.specs.History.{bodies_by_client, dispatches_by_client, lates_by_client, outcomes_by_client}
use Rattle.board_history.specs.Lanes.{RanOver}
use Rattle.board_history.specs.Lates.{AreLatesOf}
use Rattle.board_history.specs.Links.{LinkReport}
use Rattle.board_history.specs.Machine.{AskedBody, HasAsked, HaveAsked, IsMachineBoard, PassedAll, WereAsked, WereOffered}
use Rattle.board_history.specs.Machine.{asked_by, body_asked, offers_of, outcome_asked}
use Rattle.board_history.specs.Order.{bodies_in, order}
use Rattle.board_history.specs.Records.{IsRecordOf}
use Rattle.board_history.proofs.Lates.{lates_heard}
use Rattle.board_history.proofs.Steps.{AreOf, AreStepsOf, AreStepsOfAll, IsWithin, Step, body_in, finished, of, outcome_in}
use Rattle.board_history.proofs.Steps.{step_for, steps, steps_of, steps_of_all}

-- ---- the bodies that were asked

abbrev pub asked_in : Step → AskedBody
asked_in s = record { client = s.client; body = s.body; outcome = s.outcome }

abbrev pub all_asked : List Step → List AskedBody
all_asked ss = map asked_in ss

asked_by_steps : (client : ℕ) (ss : List Step) → asked_by client (all_asked ss) ≡ all_asked (of client ss)
asked_by_steps client [] = refl
asked_by_steps client (s ∷ ss) = elim (s.client == client) as
    (λ b. (if b then asked_in s ∷ asked_by client (all_asked ss) else asked_by client (all_asked ss))
    ≡ all_asked (if b then s ∷ of client ss else of client ss)) [
      | true ↦ ap (λ (xs : List AskedBody). asked_in s ∷ xs) (asked_by_steps client ss)
      | false ↦ asked_by_steps client ss
    ]

bodies_asked : (ss : List Step) → map body_asked (all_asked ss) ≡ map body_in ss
bodies_asked [] = refl
bodies_asked (s ∷ ss) = ap (λ (bs : List (List ℕ)). s.body ∷ bs) (bodies_asked ss)

outcomes_asked : (ss : List Step) → map outcome_asked (all_asked ss) ≡ map outcome_in ss
outcomes_asked [] = refl
outcomes_asked (s ∷ ss) = ap (λ (os : List Outcome). s.outcome ∷ os) (outcomes_asked ss)

has_asked : (client : ℕ) (bodies : List (List ℕ)) (outcomes : List Outcome) (ss : List Step)
    → AreStepsOf client bodies outcomes ss → HasAsked client bodies outcomes (all_asked ss)
has_asked client bodies outcomes ss are = record {
  bodies' = ap (map body_asked) (asked_by_steps client ss) ∙ (bodies_asked (of client ss) ∙ sym are.bodies');
  outcomes' = ap (map outcome_asked) (asked_by_steps client ss) ∙ (outcomes_asked (of client ss) ∙ sym are.outcomes');
}

have_asked : (client : ℕ) (bodies : List (List (List ℕ))) (outcomes : List (List Outcome)) (ss : List Step)
    → AreOf client bodies outcomes ss → HaveAsked client bodies outcomes (all_asked ss)
have_asked client [] [] ss are = tt
have_asked client [] (os ∷ others) ss are = absurd are
have_asked client (bs ∷ later) [] ss are = absurd are
have_asked client (bs ∷ later) (os ∷ others) ss are =
    (has_asked client bs os ss are.0, have_asked (client + 1) later others ss are.1)

asked_within : (many : ℕ) (ss : List Step) → AllByRecursion (IsWithin 1 many) ss
    → AllByRecursion (λ (one : AskedBody). (1 ≤ one.client) × (one.client ≤ many)) (all_asked ss)
asked_within many [] within = tt
asked_within many (s ∷ ss) within =
    ((within.0.0, let below = within.0.1 in omega (arith, below)), asked_within many ss within.1)

were_asked : (bodies : List (List (List ℕ))) (outcomes : List (List Outcome)) (ss : List Step)
    → AreStepsOfAll bodies outcomes ss → WereAsked bodies outcomes (all_asked ss)
were_asked bodies outcomes ss are = record {
  each = have_asked 1 bodies outcomes ss are.clients;
  nobody_else = asked_within (length bodies) ss are.nobody_else;
}

-- ---- they are the offers

-- each of these Asks has its outcome
abbrev pub AllTaken : (Claim → Option Outcome) → List Claim → Type 0
AllTaken f cs = AllByRecursion (λ (c : Claim). (o : Outcome) × (f c ≡ Some o)) cs

offers_same : (number : ℕ) (f : Claim → Option Outcome) (cs : List Claim) → AllTaken f cs
    → offers_of_asks number cs ≡ offers_of number (all_asked (steps_of cs (map f cs)))
offers_same number f [] all = refl
offers_same number f (c ∷ cs) all = subst
    (λ (o : Option Outcome).
    offers_of_asks number (c ∷ cs) ≡ offers_of number (all_asked (step_for c o ++ steps_of cs (map f cs))))
    (sym all.0.1)
    (ap (λ (xs : List Offered). offer_of number c ∷ xs) (offers_same (number + 1) f cs all.1))

became_asked : (f : Claim → Option Outcome) (cs : List Claim) → AllTaken f cs
    → map f cs ≡ map (λ (one : AskedBody). Some one.outcome) (all_asked (steps_of cs (map f cs)))
became_asked f [] all = refl
became_asked f (c ∷ cs) all = subst
    (λ (o : Option Outcome).
    o ∷ map f cs ≡ map (λ (one : AskedBody). Some one.outcome) (all_asked (step_for c o ++ steps_of cs (map f cs))))
    (sym all.0.1)
    (ap (λ (os : List (Option Outcome)). Some all.0.0 ∷ os) (became_asked f cs all.1))

were_offered : (down : Bool) (cs : List Claim) (offered : List Offered) (asked : List AskedBody)
    (events : List RunEvent) → offers_in events ≡ offered → offers_of_asks 0 cs ≡ offers_of 0 asked
    → AreOffersOf down cs offered → WereOffered down asked events
were_offered false cs offered asked events are same is = are ∙ (is ∙ same)
were_offered true cs offered asked events are same is =
    subst (λ (xs : List Offered). IsPrefix xs (offers_of 0 asked)) (sym are) (subst (IsPrefix offered) same is)

-- ---- nobody waits at the end, so the lane is not spent

none_unsettled : (number : ℕ) (f : Claim → Option Outcome) (cs : List Claim) → AllTaken f cs
    → unsettled_from number (map f cs) ≡ []
none_unsettled number f [] all = refl
none_unsettled number f (c ∷ cs) all = subst
    (λ (o : Option Outcome). unsettled_from number (o ∷ map f cs) ≡ []) (sym all.0.1)
    (none_unsettled (number + 1) f cs all.1)

empty_front : (xs ys : List ℕ) → xs ++ ys ≡ [] → xs ≡ []
empty_front [] ys none = refl
empty_front (x ∷ xs) ys none = absurd cc

none_waited : (sent : List Offered) (os : List OpenPlace) → awaited_tags sent os ≡ [] → some_waited os ≡ false
none_waited sent [] none = refl
none_waited sent (o ∷ os) none = elim (o.waited) as
    (λ b. (if b then tag_at sent o.place ∷ awaited_tags sent os else awaited_tags sent os) ≡ []
    → (b || some_waited os) ≡ false) [
      | true ↦ λ some. absurd cc
      | false ↦ λ later. none_waited sent os later
    ] none

not_waiting : (hub : Hub) (items : List Item) (became : List (Option Outcome)) → IsLegal items became
    → IsFinished items → Agrees hub.sent hub.queue hub.open_places (claims items) became → is_waiting hub ≡ false
not_waiting hub items became legal done agrees =
    let queued = finished_hub items became hub.sent hub.queue hub.open_places legal done agrees in
    let none : unsettled_from 0 became ≡ [] = ap (unsettled_from 0) (outcomes_taken items became legal done)
    ∙ none_unsettled 0 (outcome_taken items) (claims items) done in
    let waited = none_waited hub.sent hub.open_places
    (empty_front (awaited_tags hub.sent hub.open_places) (tags hub.queue) (agrees.waits ∙ none)) in
    ap (λ (q : List Offered). some_queued q || some_waited hub.open_places) queued.nothing_queued ∙ waited

not_spent : (down spent : Bool) (hub : Hub) (items : List Item) (became : List (Option Outcome))
    → IsLegal items became → IsFinished items
    → Agrees hub.sent (if down then [] else hub.queue) (if down then [] else hub.open_places) (claims items) became
    → (spent ≡ true → is_waiting hub ≡ true) → (down ≡ true) ⊎ (spent ≡ false)
not_spent true spent hub items became legal done agrees waits = inl refl
not_spent false false hub items became legal done agrees waits = inr refl
not_spent false true hub items became legal done agrees waits =
    let none = not_waiting hub items became legal done agrees in
    let some = waits refl in absurd (let both : true ≡ false = sym some ∙ none in cc)

passed_all : (down spent : Bool) (whole passed : List Passed) → (down ≡ true) ⊎ (spent ≡ false)
    → PassesAs (ending_of down spent) whole passed → PassedAll down whole passed
passed_all true true whole passed ends is = is
passed_all true false whole passed ends is = is
passed_all false false whole passed ends is = is
passed_all false true whole passed (inl down) is = absurd cc
passed_all false true whole passed (inr spent) is = absurd cc

-- ---- all of it

-- the board of a lane's run, which ends as that run does
pub record HasMachine (settings : Limits) (payload : ℕ) (run : BoardRun) (link : LinkReport)
    (lates : List (Option (List ℕ))) : Type 0 where
  pub board : IsMachineBoard settings payload run link
  pub late : AreLatesAt board.end lates

pub machine_board : (settings : Limits) (payload : ℕ) (run : BoardRun) (link : LinkReport) (items : List Item)
    (became : List (Option Outcome)) (lates : List (Option (List ℕ)))
    → map outcomes_in_order (dispatches_by_client run) ≡ outcomes_by_client run
    → IsRecordOf (bodies_by_client run) (dispatches_by_client run) items → IsLegal items became
    → AreLatesOf lates (outcomes_by_client run) (lates_by_client run)
    → bodies_in (order (bodies_by_client run) (outcomes_by_client run)) ≡ bodies_sent (first_sends items)
    → RanOver settings payload link items became lates → HasMachine settings payload run link lates
machine_board settings payload run link items became lates same is legal of_lane ordered ran =
    let bodies = bodies_by_client run in
    let dispatches = dispatches_by_client run in
    let done = finished bodies dispatches items became is legal in
    let asked = all_asked (steps items) in
    let runs = ran.has_run.runs in
    let first = ran.status.next in
    let window = min settings.window ran.status.buffers in
    let board : IsMachineBoard settings payload run link = record {
      status = ran.status;
      told = ran.told;
      packets = ran.packets;
      greeting = ran.has_run.greeting;
      greeted = ran.has_run.greeted;
      asked = asked;
      of_clients = subst (λ (oss : List (List Outcome)). WereAsked bodies oss asked) same
          (were_asked bodies (map outcomes_in_order dispatches) (steps items)
          (steps_of_all bodies dispatches items became is legal));
      events = runs.events;
      traffic = runs.traffic;
      end = runs.end;
      machine = runs.machine;
      fresh = subst (IsFreshRun first window) runs.run_is ran.has_run.fresh;
      failed = ran.down;
      only_failed = ran.failed;
      offered = were_offered ran.down (claims items) ran.has_run.offered asked runs.events runs.offers
          (offers_same 0 (outcome_taken items) (claims items) done) ran.has_run.offers;
      passed = passed_all ran.down ran.spent (ran.has_run.greeting ++ runs.traffic) link.traffic
          (not_spent ran.down ran.spent ran.hub items became legal done ran.agrees ran.has_run.waits) runs.passes;
      sent = ap (λ (h : Hub). bodies_of h.sent) runs.hub_is
          ∙ ((finished_hub items became ran.hub.sent (if ran.down then [] else ran.hub.queue)
          (if ran.down then [] else ran.hub.open_places) legal done ran.agrees).bodies ∙ sym ordered);
      fates = subst (AreFatesAt runs.end)
          (outcomes_taken items became legal done ∙ became_asked (outcome_taken items) (claims items) done)
          ran.has_run.became;
      late = lates_heard lates runs.end ran.has_run.late (outcomes_by_client run) (lates_by_client run) of_lane;
    }
    in record { board = board; late = ran.has_run.late }
