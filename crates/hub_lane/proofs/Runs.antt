-- Runs of the machine, one behind the other, whether or not fates were handed out between them.
use Rattle.std.proofs.Common.{◌≡◌, ◌⊎◌, ◌∙◌, inl, inr, ap, refl, sym, subst, ℕ, true}
use Rattle.std.proofs.Common.{List, [], ◌∷◌, ◌++◌, Option, Some, None, append_assoc}
use Rattle.std.specs.Prelude.{◌↔◌}
use Rattle.std.proofs.lemmas.List.{append-nil}
use Rattle.world_model.specs.declared.offered.Offered.{Offered}
use Rattle.world_model.specs.Hub.{Hub, after_handing_out, hear_quiet, is_waiting, take_message}
use Rattle.world_model.specs.Sends.{Next, bytes_to_send, next_send}
use Rattle.reliable_engine.specs.Answers.{hub_next}
use Rattle.reliable_engine.specs.MachineRuns.{IsMachineRun, ListensInVain, MayAllCome, MayCome, RunEvent, offers_in}
use Rattle.reliable_engine.specs.MachineRuns.{Heard, Offer, Quiet, Send, passed_in, passed_next, run_event, run_events, traffic_of}
use Rattle.reliable_engine.specs.Traffic.{Got, Passed, Sent}
use Rattle.reliable_engine.specs.Traffic as passes
use Rattle.std.specs.Prelude.{Result, Ok}
use Rattle.world_model.specs.Messages.{to_hub}
use Rattle.links.specs.declared.link.Received.{Received}
use Rattle.links.specs.declared.link.Received.TheVariants as received
use Rattle.links.specs.Traffic.{received_after}
use Rattle.hub_lane.specs.declared.answers.Pumped.{Pumped}
use Rattle.hub_lane.specs.declared.answers.Pumped.TheVariants as pumps
use Rattle.hub_lane.specs.Exchange.{Hears}
use Rattle.hub_lane.specs.Hearing.{IsHeardAs, hub_after}
use Rattle.links.specs.declared.link.LinkFault.{LinkFault}
use Rattle.links.specs.declared.link.LinkFault.TheVariants.{Failed, NoMemory}
use Rattle.hub_lane.specs.Run.{Ending, GoesOn, IsUnheard, LinkFailed, MemoryRanOut, PassesAs, RunsOn, RunsTo, ending_by}
use Rattle.hub_lane.specs.Run.{events_of, passed_of}
use Rattle.hub_lane.specs.RunLaws.{HandingOutLaws}

-- ---- one list of events behind another

pub run_more : (h : Hub) (events more : List RunEvent)
    → run_events h (events ++ more) ≡ run_events (run_events h events) more
run_more h [] more = refl
run_more h (event ∷ events) more = run_more (run_event h event) events more

traffic_more : (h : Hub) (events more : List RunEvent)
    → traffic_of h (events ++ more) ≡ traffic_of h events ++ traffic_of (run_events h events) more
traffic_more h [] more = refl
traffic_more h (event ∷ events) more =
    ap (λ (xs : List Passed). passed_in h event ++ xs) (traffic_more (run_event h event) events more)
    ∙ sym (append_assoc (passed_in h event) (traffic_of (run_event h event) events)
    (traffic_of (run_events (run_event h event) events) more))

may_come_more : (h : Hub) (events more : List RunEvent) → MayAllCome h events
    → MayAllCome (run_events h events) more → MayAllCome h (events ++ more)
may_come_more h [] more all then = then
may_come_more h (event ∷ events) more all then = (all.0, may_come_more (run_event h event) events more all.1 then)

offers_more : (events more : List RunEvent) → offers_in (events ++ more) ≡ offers_in events ++ offers_in more
offers_more [] more = refl
offers_more (Offer tag body ∷ events) more =
    ap (λ (xs : List Offered). record { tag = tag; body = body } ∷ xs) (offers_more events more)
offers_more (Send ∷ events) more = offers_more events more
offers_more (Heard bytes ∷ events) more = offers_more events more
offers_more (Quiet ∷ events) more = offers_more events more

-- ---- hubs that differ in what they handed out

module _ (laws : HandingOutLaws) where
  handed_run : (events : List RunEvent) (h : Hub)
      → after_handing_out (run_events (after_handing_out h) events) ≡ after_handing_out (run_events h events)
  handed_run [] h = refl
  handed_run (event ∷ events) h =
      sym (handed_run events (run_event (after_handing_out h) event))
      ∙ (ap (λ (x : Hub). after_handing_out (run_events x events)) (laws.same h event)
      ∙ handed_run events (run_event h event))

  handed_traffic : (events : List RunEvent) (h : Hub) → traffic_of (after_handing_out h) events ≡ traffic_of h events
  handed_traffic [] h = refl
  handed_traffic (event ∷ events) h =
      ap (λ (xs : List Passed). xs ++ traffic_of (run_event (after_handing_out h) event) events) (laws.passes h event)
      ∙ ap (λ (xs : List Passed). passed_in h event ++ xs)
      (sym (handed_traffic events (run_event (after_handing_out h) event))
      ∙ (ap (λ (x : Hub). traffic_of x events) (laws.same h event)
      ∙ handed_traffic events (run_event h event)))

  none_next : (h : Hub) (r : Option Next) → next_send h ≡ r → next_send (after_handing_out h) ≡ None
      → next_send h ≡ None
  none_next h None is none = is
  none_next h (Some next) is none = absurd (let some = laws.next h next is in cc)

  some_next : (h : Hub) (r : Option Next) → next_send h ≡ r
      → (next : Next) × (next_send (after_handing_out h) ≡ Some next) → (next : Next) × (next_send h ≡ Some next)
  some_next h None is some = absurd (let none = laws.no_next h is in let e = some.1 in cc)
  some_next h (Some next) is some = (next, is)

  handed_may : (h : Hub) (event : RunEvent) → MayCome (after_handing_out h) event → MayCome h event
  handed_may h (Offer tag body) may = tt
  handed_may h Send may = some_next h (next_send h) refl may
  handed_may h (Heard bytes) may = none_next h (next_send h) refl may
  handed_may h Quiet may = record { all_sent = none_next h (next_send h) refl may.all_sent; waits = may.waits }

  may_handed : (h : Hub) (event : RunEvent) → MayCome h event → MayCome (after_handing_out h) event
  may_handed h (Offer tag body) may = tt
  may_handed h Send may = (_, laws.next h may.0 may.1)
  may_handed h (Heard bytes) may = laws.no_next h may
  may_handed h Quiet may = record { all_sent = laws.no_next h may.all_sent; waits = may.waits }

  handed_all : (events : List RunEvent) (h : Hub)
      → MayAllCome (after_handing_out h) events ↔ MayAllCome h events
  handed_all [] h = (λ all. tt, λ all. tt)
  handed_all (event ∷ events) h =
      let one = handed_all events (run_event (after_handing_out h) event) in
      let other = handed_all events (run_event h event) in (
        λ all. (
          handed_may h event all.0,
          other.0 (subst (λ (x : Hub). MayAllCome x events) (laws.same h event) (one.1 all.1)),
        ),
        λ all. (
          may_handed h event all.0,
          one.0 (subst (λ (x : Hub). MayAllCome x events) (sym (laws.same h event)) (other.1 all.1)),
        ),
      )

  -- a run of one of them is a run of the other
  module _ (x y : Hub) (alike : after_handing_out x ≡ after_handing_out y) (events : List RunEvent) where
    run_alike : after_handing_out (run_events x events) ≡ after_handing_out (run_events y events)
    run_alike = sym (handed_run events x)
        ∙ (ap (λ (h : Hub). after_handing_out (run_events h events)) alike ∙ handed_run events y)

    traffic_alike : traffic_of x events ≡ traffic_of y events
    traffic_alike = sym (handed_traffic events x)
        ∙ (ap (λ (h : Hub). traffic_of h events) alike ∙ handed_traffic events y)

    may_alike : MayAllCome x events → MayAllCome y events
    may_alike all = (handed_all events y).0
        (subst (λ (h : Hub). MayAllCome h events) alike ((handed_all events x).1 all))

  -- ---- one behind the other

  pub runs_then : {ending : Ending} {first second : List Offered} {a b c : Hub} {run mid_run run_now : List RunEvent}
      {before mid now : List Passed} → (one : RunsOn GoesOn first a b run mid_run before mid)
      → (two : RunsOn ending second b c mid_run run_now mid now)
      → (all : RunsOn ending (first ++ second) a c run run_now before now)
      × (all.end ≡ run_events one.end two.events)
  runs_then {ending} {first} {second} {a} {b} {c} {run} {mid_run} {run_now} {before} {mid} {now} one two =
      let es = one.events in
      let fs = two.events in
      let end : run_events a es ≡ one.end = one.machine.end_is in
      let alike : after_handing_out (run_events a es) ≡ after_handing_out b = ap after_handing_out end ∙ one.hub_is in
      let back = sym alike in
      let then : traffic_of (run_events a es) fs ≡ two.traffic =
      sym (traffic_alike b (run_events a es) back fs) ∙ two.machine.traffic_is in (
        record {
          events = es ++ fs;
          traffic = one.traffic ++ two.traffic;
          end = run_events a (es ++ fs);
          machine = record {
            may_come = may_come_more a es fs one.machine.may_come
                (may_alike b (run_events a es) back fs two.machine.may_come);
            traffic_is = traffic_more a es fs
                ∙ (ap (λ (xs : List Passed). xs ++ traffic_of (run_events a es) fs) one.machine.traffic_is
                ∙ ap (λ (xs : List Passed). one.traffic ++ xs) then);
            end_is = refl;
            fates_are = refl;
          };
          run_is = two.run_is ∙ (ap (λ (xs : List RunEvent). xs ++ fs) one.run_is ∙ append_assoc run es fs);
          offers = offers_more es fs ∙ (ap (λ (xs : List Offered). xs ++ offers_in fs) one.offers
              ∙ ap (λ (xs : List Offered). first ++ xs) two.offers);
          hub_is = ap after_handing_out (run_more a es fs)
              ∙ (sym (run_alike b (run_events a es) back fs)
              ∙ (ap after_handing_out two.machine.end_is ∙ two.hub_is));
          passes = subst (λ (xs : List Passed). PassesAs ending xs now)
              (ap (λ (xs : List Passed). xs ++ two.traffic) one.passes ∙ append_assoc before one.traffic two.traffic)
              two.passes;
        },
        run_more a es fs ∙ ap (λ (h : Hub). run_events h fs) end,
      )

  -- where nothing was handed out in between
  pub goes_then : {ending : Ending} {first second : List Offered} {a b c : Hub} {run mid_run run_now : List RunEvent}
      {before mid now : List Passed} → RunsTo GoesOn first a b run mid_run before mid
      → RunsTo ending second b c mid_run run_now mid now
      → RunsTo ending (first ++ second) a c run run_now before now
  goes_then one two =
      let all = runs_then one.runs two.runs in
      record {
        runs = all.0;
        end_is = all.1 ∙ (ap (λ (h : Hub). run_events h two.runs.events) one.end_is
            ∙ (two.runs.machine.end_is ∙ two.end_is));
      }

-- fates and late answers may have been handed out at the end
pub handed_on : {ending : Ending} {offered : List Offered} {hub end now : Hub} {run run_now : List RunEvent}
    {passed passed_now : List Passed} → RunsTo ending offered hub end run run_now passed passed_now
    → after_handing_out end ≡ after_handing_out now
    → (on : RunsOn ending offered hub now run run_now passed passed_now) × (on.end ≡ end)
handed_on ran alike = (
  record {
    events = ran.runs.events;
    traffic = ran.runs.traffic;
    end = ran.runs.end;
    machine = ran.runs.machine;
    run_is = ran.runs.run_is;
    offers = ran.runs.offers;
    hub_is = ran.runs.hub_is ∙ alike;
    passes = ran.runs.passes;
  },
  ran.end_is,
)

-- nothing came
pub runs_here : (h : Hub) (run : List RunEvent) (passed : List Passed) → RunsTo GoesOn [] h h run run passed passed
runs_here h run passed = record {
  runs = record {
    events = [];
    traffic = [];
    end = h;
    machine = record { may_come = tt; traffic_is = refl; end_is = refl; fates_are = refl };
    run_is = sym (append-nil run);
    offers = refl;
    hub_is = refl;
    passes = sym (append-nil passed);
  };
  end_is = refl;
}

-- one event that may come
pub runs_once : {ending : Ending} (h now : Hub) (event : RunEvent) (traffic : List Passed) (run run_now : List RunEvent)
    (passed passed_now : List Passed) → MayCome h event → passed_in h event ≡ traffic → run_event h event ≡ now
    → run_now ≡ run ++ event ∷ [] → PassesAs ending (passed ++ traffic) passed_now
    → RunsTo ending (offers_in (event ∷ [])) h now run run_now passed passed_now
runs_once h now event traffic run run_now passed passed_now may traffic_is now_is run_is passes = record {
  runs = record {
    events = event ∷ [];
    traffic = traffic;
    end = run_event h event;
    machine = record {
      may_come = (may, tt);
      traffic_is = append-nil (passed_in h event) ∙ traffic_is;
      end_is = refl;
      fates_are = refl;
    };
    run_is = run_is;
    offers = refl;
    hub_is = ap after_handing_out now_is;
    passes = passes;
  };
  end_is = now_is;
}

-- a send that was taken from a hub
pub runs_send : {ending : Ending} (h : Hub) (next : Next) (now : Hub) (run run_now : List RunEvent)
    (passed passed_now : List Passed) → next_send h ≡ Some next → now ≡ next.hub → run_now ≡ run ++ Send ∷ []
    → PassesAs ending (passed ++ Sent (bytes_to_send next.hub next.send) ∷ []) passed_now
    → RunsTo ending [] h now run run_now passed passed_now
runs_send h next now run run_now passed passed_now is now_is run_is passes =
    runs_once h now Send (Sent (bytes_to_send next.hub next.send) ∷ []) run run_now passed passed_now (next, is)
    (ap passed_next is) (ap (hub_next h) is ∙ sym now_is) run_is passes

-- whatever the fault, the last send may be missing
pub lacks_last : (fault : LinkFault) (passed : List Passed) (bytes : List ℕ) {passed_now : List Passed}
    → passed_now ≡ passed → PassesAs (ending_by fault) (passed ++ Sent bytes ∷ []) passed_now
lacks_last Failed passed bytes same = inr (bytes, ap (λ (xs : List Passed). xs ++ Sent bytes ∷ []) (sym same))
lacks_last NoMemory passed bytes same =
    inr (inl (bytes, ap (λ (xs : List Passed). xs ++ Sent bytes ∷ []) (sym same)))

-- the fault is this one
pub ran_by : {offered : List Offered} {hub end : Hub} {run run_now : List RunEvent} {passed passed_now : List Passed}
    (which fault : LinkFault) → fault ≡ which
    → RunsTo (ending_by fault) offered hub end run run_now passed passed_now
    → RunsTo (ending_by which) offered hub end run run_now passed passed_now
ran_by {offered} {hub} {end} {run} {run_now} {passed} {passed_now} which fault is =
    subst (λ (e : LinkFault). RunsTo (ending_by e) offered hub end run run_now passed passed_now) is

-- ---- a receive

pub got_traffic : (r : Received) (bytes : List ℕ) (before : List Passed) {now : List Passed} → r ≡ received.Got
    → now ≡ received_after (Ok r) bytes before → now ≡ before ++ Got bytes ∷ []
got_traffic r bytes before {now} e is = subst (λ (x : Received). now ≡ received_after (Ok x) bytes before) e is

pub quiet_traffic : (r : Received) (bytes : List ℕ) (before : List Passed) {now : List Passed} → r ≡ received.Quiet
    → now ≡ received_after (Ok r) bytes before → now ≡ before ++ passes.Quiet ∷ []
quiet_traffic r bytes before {now} e is = subst (λ (x : Received). now ≡ received_after (Ok x) bytes before) e is

pub got_passed : (pumped : Pumped) (bytes : List ℕ) (hub : Hub) (before : List Passed) {now : List Passed}
    → IsHeardAs hub (to_hub bytes) pumped → now ≡ before ++ Got bytes ∷ [] → now ≡ passed_of pumped bytes before
got_passed (pumps.Reply place) bytes hub before heard is = is
got_passed pumps.Status bytes hub before heard is = is
got_passed pumps.Stray bytes hub before heard is = is
got_passed pumps.Quiet bytes hub before heard is = absurd heard
got_passed pumps.Idle bytes hub before heard is = absurd heard
got_passed pumps.LinkDown bytes hub before heard is = absurd heard

-- all was sent, and a receive came to this
pub runs_received : (pumped : Pumped) (bytes : List ℕ) (mid heard : Hub) (run run_now : List RunEvent)
    (before after : List Passed) → next_send mid ≡ None → is_waiting mid ≡ true → Hears pumped bytes mid heard
    → run_now ≡ run ++ events_of pumped bytes → after ≡ passed_of pumped bytes before
    → RunsTo GoesOn [] mid (hub_after pumped bytes mid) run run_now before after
runs_received (pumps.Reply place) bytes mid heard run run_now before after none waits hears run_is after_is =
    runs_once mid (take_message mid (to_hub bytes)) (Heard bytes) (Got bytes ∷ []) run run_now before after none refl
    refl run_is after_is
runs_received pumps.Status bytes mid heard run run_now before after none waits hears run_is after_is =
    runs_once mid (take_message mid (to_hub bytes)) (Heard bytes) (Got bytes ∷ []) run run_now before after none refl
    refl run_is after_is
runs_received pumps.Stray bytes mid heard run run_now before after none waits hears run_is after_is =
    runs_once mid (take_message mid (to_hub bytes)) (Heard bytes) (Got bytes ∷ []) run run_now before after none refl
    refl run_is after_is
runs_received pumps.Quiet bytes mid heard run run_now before after none waits hears run_is after_is =
    runs_once mid (hear_quiet mid) Quiet (passes.Quiet ∷ []) run run_now before after
    (record { all_sent = none; waits = waits }) refl refl run_is after_is
runs_received pumps.Idle bytes mid heard run run_now before after none waits hears run_is after_is =
    absurd hears.event
runs_received pumps.LinkDown bytes mid heard run run_now before after none waits hears run_is after_is =
    absurd hears.event

-- a receive that failed
pub unheard_same : (fault : LinkFault) (before after : List Passed) → after ≡ before → IsUnheard fault before after
unheard_same Failed before after same = same
unheard_same NoMemory before after same = inl same

unheard_passes : (fault : LinkFault) (before after : List Passed) → IsUnheard fault before after
    → PassesAs (ending_by fault) (before ++ []) after
unheard_passes Failed before after same = inl (same ∙ sym (append-nil before))
unheard_passes NoMemory before after (inl same) = inl (same ∙ sym (append-nil before))
unheard_passes NoMemory before after (inr came) =
    inr (inr (came.0, came.1 ∙ ap (λ (xs : List Passed). xs ++ Got came.0 ∷ []) (sym (append-nil before))))

-- nothing was heard
pub runs_unheard : (fault : LinkFault) (hub now : Hub) (run : List RunEvent) (before after : List Passed) → now ≡ hub
    → IsUnheard fault before after → RunsTo (ending_by fault) [] hub now run run before after
runs_unheard fault hub now run before after same is = record {
  runs = record {
    events = [];
    traffic = [];
    end = hub;
    machine = record { may_come = tt; traffic_is = refl; end_is = refl; fates_are = refl };
    run_is = sym (append-nil run);
    offers = refl;
    hub_is = ap after_handing_out (sym same);
    passes = unheard_passes fault before after is;
  };
  end_is = sym same;
}
