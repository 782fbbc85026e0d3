-- The run of a lane, call by call.
use Rattle.std.proofs.Common.{◌≡◌, ◌∙◌, inl, inr, ap, refl, sym, subst, ℕ, ◌+◌, ◌≤◌, min, Bool, true, false, cond}
use Rattle.std.proofs.Common.{List, [], ◌∷◌, ◌++◌, length, Option, Some, None, append_assoc, arith}
use Rattle.std.proofs.lemmas.List.{append-nil}
use Rattle.ipb_base.specs.Lists.{IsPrefix}
use Rattle.ipb_base.proofs.AllLemmas.{AllByRecursion-append}
use Rattle.packet_ids.specs.Identifier.{IsIdentifier}
use Rattle.status_packet.specs.Range.{IsBufferCount}
use Rattle.world_model.specs.declared.offered.Offered.{Offered}
use Rattle.world_model.specs.declared.settings.TheConstants.{MAX_WINDOW}
use Rattle.world_model.specs.Facts.{AreSendable, IsSendable}
use Rattle.world_model.specs.Hub.{Hub, IsDrained, after_handing_out, is_waiting, new_hub, offer}
use Rattle.world_model.specs.Settings.{AreLimits, Limits}
use Rattle.reliable_engine.specs.MachineRuns.{IsFreshRun, Offer, RunEvent, offers_in}
use Rattle.reliable_engine.specs.Traffic.{Passed}
use Rattle.lane_record.specs.declared.item.Item.{Item}
use Rattle.lane_record.specs.declared.outcome.Outcome.{Outcome}
use Rattle.lane_record.specs.declared.outcome.Outcome.TheVariants.{LinkLost}
use Rattle.lane_record.specs.Claims.{Claim, claims}
use Rattle.lane_record.specs.Offers.{offer_of}
use Rattle.hub_lane.specs.Lanes.{BoardStatus}
use Rattle.hub_lane.specs.Run.{AreOffersOf, Ending, GoesOn, HasRun, IsGreetingOf, RunsOn, RunsTo, ending_of}
use Rattle.hub_lane.specs.Run.{offers_of_asks}
use Rattle.hub_lane.specs.RunLaws.{HandingOutLaws}
use Rattle.hub_lane.proofs.Fates.{Told, fates_now, lates_now_are, lost_unsent, no_fates, no_lates, none_yet, told_asked}
use Rattle.hub_lane.proofs.Joined.{Joined, joined, joined_none}
use Rattle.hub_lane.proofs.LostPlaces.{AreLostAt}
use Rattle.hub_lane.proofs.Runs.{handed_on, runs_here, runs_once, runs_then}

-- ---- what was offered

offers_behind : (number : ℕ) (cs : List Claim) (c : Claim) (last : ℕ) → last ≡ number + length cs
    → offers_of_asks number (cs ++ c ∷ []) ≡ offers_of_asks number cs ++ offer_of last c ∷ []
offers_behind number [] c last is = ap (λ (n : ℕ). offer_of n c ∷ []) (omega (arith, is))
offers_behind number (b ∷ cs) c last is =
    ap (λ (xs : List Offered). offer_of number b ∷ xs) (offers_behind (number + 1) cs c last (omega (arith, is)))

-- the link failed
offers_cut : (down : Bool) (cs : List Claim) (offered : List Offered) → AreOffersOf down cs offered
    → AreOffersOf true cs offered
offers_cut false cs offered is = ([], sym is ∙ sym (append-nil offered))
offers_cut true cs offered is = is

offers_now : (down down_now : Bool) (cs : List Claim) (offered : List Offered) → (down ≡ true → down_now ≡ true)
    → AreOffersOf down cs offered → AreOffersOf down_now cs offered
offers_now down true cs offered later is = offers_cut down cs offered is
offers_now false false cs offered later is = is
offers_now true false cs offered later is = absurd (let e = later refl in cc)

-- one more was asked, and offered unless the link failed
pub offers_asked : (down : Bool) (cs : List Claim) (c : Claim) (offered : List Offered) → AreOffersOf down cs offered
    → AreOffersOf down (cs ++ c ∷ []) (cond down offered (offered ++ offer_of (length cs) c ∷ []))
offers_asked false cs c offered is =
    ap (λ (xs : List Offered). xs ++ offer_of (length cs) c ∷ []) is ∙ sym (offers_behind 0 cs c (length cs) (omega arith))
offers_asked true cs c offered is = (
  is.0 ++ offer_of (length cs) c ∷ [],
  offers_behind 0 cs c (length cs) (omega arith)
      ∙ (ap (λ (xs : List Offered). xs ++ offer_of (length cs) c ∷ []) is.1
      ∙ append_assoc offered is.0 (offer_of (length cs) c ∷ [])),
)

-- ---- a lane

offers_of_run : {ending : Ending} {offered : List Offered} {start hub : Hub} {run : List RunEvent}
    {greeting passed : List Passed} → RunsOn ending offered start hub [] run greeting passed
    → offers_in run ≡ offered
offers_of_run runs = ap offers_in runs.run_is ∙ runs.offers

-- the record grew by an entry that asks nothing, or stayed
pub run_claims : {settings : Limits} {status : BoardStatus} {hub : Hub} {items now : List Item}
    {outcomes : List (Option Outcome)} {lates : List (Option (List ℕ))} {down spent : Bool} {run : List RunEvent}
    {passed : List Passed} → claims now ≡ claims items
    → HasRun settings status hub items outcomes lates down spent run passed
    → HasRun settings status hub now outcomes lates down spent run passed
run_claims {down = down} same is = record {
  greeting = is.greeting;
  greeted = is.greeted;
  offered = is.offered;
  runs = is.runs;
  offers = subst (λ (cs : List Claim). AreOffersOf down cs is.offered) (sym same) is.offers;
  fresh = is.fresh;
  became = is.became;
  late = is.late;
  waits = is.waits;
  still_up = is.still_up;
}

-- a lane over a link whose board told its status
pub run_begun : {settings : Limits} {status : BoardStatus} {hub : Hub} {items : List Item}
    {outcomes : List (Option Outcome)} {lates : List (Option (List ℕ))} {run : List RunEvent} {passed : List Passed}
    → hub ≡ new_hub status.next (min settings.window status.buffers) settings.rounds → items ≡ [] → outcomes ≡ []
    → lates ≡ [] → run ≡ [] → IsIdentifier status.next → AreLimits settings → IsBufferCount status.buffers
    → IsGreetingOf settings.rounds status passed
    → HasRun settings status hub items outcomes lates false false run passed
run_begun {settings} {status} {passed = passed} hub_is no_items no_outcomes none_late no_events identifier limits
    buffers greeted =
    let start = new_hub status.next (min settings.window status.buffers) settings.rounds in
    let here : RunsTo GoesOn [] start start [] [] passed passed = runs_here start [] passed in
    let begun : HasRun settings status start [] [] [] false false [] passed = record {
      greeting = passed;
      greeted = greeted;
      offered = [];
      runs = here.runs;
      offers = refl;
      fresh = record {
        identifier = identifier;
        some_window = (let w = limits.some_window in let b = buffers in omega (arith, w, b));
        window_in_range = (let w = limits.window_in_range in omega (arith, w));
        sendable = tt;
      };
      became = no_fates here.runs.end (ap (λ (h : Hub). h.fates) here.end_is);
      late = no_lates here.runs.end (ap (λ (h : Hub). h.lates) here.end_is);
      waits = λ spent. absurd cc;
      still_up = λ spent. refl;
    } in
    rw (hub_is, no_items, no_outcomes, none_late, no_events) begun

-- what was lost with the link was lost where the run ended
lost_at_end : {ending : Ending} {offered : List Offered} {start hub : Hub} {run : List RunEvent}
    {greeting passed : List Passed} (runs : RunsOn ending offered start hub [] run greeting passed)
    (outcomes : List (Option Outcome)) → AreLostAt hub.sent outcomes → AreLostAt runs.end.sent outcomes
lost_at_end runs outcomes lost =
    subst (λ (sent : List Offered). AreLostAt sent outcomes) (sym (ap (λ (h : Hub). h.sent) runs.hub_is)) lost

-- memory ran out only where somebody waits and the link did not fail
abbrev pub WaitsUp : Hub → Bool → Bool → Type 0
WaitsUp hub down spent = spent ≡ true → (is_waiting hub ≡ true) × (down ≡ false)

module _ (laws : HandingOutLaws) where
  -- the lane went on, or stopped, and offered nothing
  run_now : {settings : Limits} {status : BoardStatus} {hub hub_now event : Hub} {items : List Item}
      {outcomes outcomes_now : List (Option Outcome)} {lates lates_now : List (Option (List ℕ))}
      {down_now spent_now : Bool} {run run_after : List RunEvent} {passed passed_now : List Passed} → IsDrained hub
      → HasRun settings status hub items outcomes lates false false run passed
      → after_handing_out event ≡ after_handing_out hub_now
      → Told event.fates event.lates outcomes outcomes_now lates lates_now → AreLostAt hub_now.sent outcomes_now
      → RunsTo (ending_of down_now spent_now) [] hub event run run_after passed passed_now
      → WaitsUp hub_now down_now spent_now
      → HasRun settings status hub_now items outcomes_now lates_now down_now spent_now run_after passed_now
  run_now {settings} {status} {hub} {hub_now} {event} {items} {outcomes} {outcomes_now} {lates} {lates_now} {down_now}
      {spent_now} {run} {run_after} {passed} {passed_now} drained is alike told lost ran waits =
      let on = handed_on ran alike in
      let both = runs_then laws is.runs on.0 in
      let all = both.0 in
      let comes : Joined is.runs.end all.end event.fates event.lates =
      joined laws is.runs.end hub event all.end is.runs.hub_is drained on.0.events
      (on.0.machine.end_is ∙ on.1) both.1 in
      record {
        greeting = is.greeting;
        greeted = is.greeted;
        offered = is.offered ++ [];
        runs = all;
        offers = subst (AreOffersOf down_now (claims items)) (sym (append-nil is.offered))
            (offers_now false down_now (claims items) is.offered (λ e. absurd cc) is.offers);
        fresh = record {
          identifier = is.fresh.identifier;
          some_window = is.fresh.some_window;
          window_in_range = is.fresh.window_in_range;
          sendable = subst AreSendable
              (offers_of_run is.runs ∙ sym (offers_of_run all ∙ append-nil is.offered)) is.fresh.sendable;
        };
        became = fates_now told is.runs.end all.end comes (lost_at_end all outcomes_now lost) is.became;
        late = lates_now_are told is.runs.end all.end comes is.late;
        waits = λ spent. (waits spent).0;
        still_up = λ spent. (waits spent).1;
      }

  -- a lane that is neither down nor spent
  module _ {settings : Limits} {status : BoardStatus} {hub : Hub} {items : List Item}
      {outcomes : List (Option Outcome)} {lates : List (Option (List ℕ))} {down spent : Bool} {run : List RunEvent}
      {passed : List Passed} (d : down ≡ false) (s : spent ≡ false) (drained : IsDrained hub)
      (is : HasRun settings status hub items outcomes lates down spent run passed) where
    up_run : HasRun settings status hub items outcomes lates false false run passed
    up_run = subst (λ (x : Bool). HasRun settings status hub items outcomes lates false x run passed) s
        (subst (λ (x : Bool). HasRun settings status hub items outcomes lates x spent run passed) d is)

    -- it goes on
    pub run_on : {hub_now event : Hub} {outcomes_now : List (Option Outcome)} {lates_now : List (Option (List ℕ))}
        {run_after : List RunEvent} {passed_now : List Passed} → after_handing_out event ≡ after_handing_out hub_now
        → Told event.fates event.lates outcomes outcomes_now lates lates_now → AreLostAt hub_now.sent outcomes_now
        → RunsTo GoesOn [] hub event run run_after passed passed_now
        → HasRun settings status hub_now items outcomes_now lates_now down spent run_after passed_now
    run_on {hub_now} {outcomes_now = outcomes_now} {lates_now = lates_now} {run_after = run_after}
        {passed_now = passed_now} alike told lost ran =
        subst (λ (x : Bool). HasRun settings status hub_now items outcomes_now lates_now x spent run_after passed_now)
        (sym d)
        (subst (λ (x : Bool). HasRun settings status hub_now items outcomes_now lates_now false x run_after passed_now)
        (sym s) (run_now {down_now = false} {spent_now = false} drained up_run alike told lost ran
        (λ e. absurd cc)))

    -- its link fails
    pub run_down : {hub_now : Hub} {outcomes_now : List (Option Outcome)} {lates_now : List (Option (List ℕ))}
        {run_after : List RunEvent} {passed_now : List Passed}
        → Told hub_now.fates hub_now.lates outcomes outcomes_now lates lates_now → AreLostAt hub_now.sent outcomes_now
        → RunsTo (ending_of true false) [] hub hub_now run run_after passed passed_now
        → HasRun settings status hub_now items outcomes_now lates_now true spent run_after passed_now
    run_down {hub_now} {outcomes_now} {lates_now} {run_after} {passed_now} told lost ran =
        subst (λ (x : Bool). HasRun settings status hub_now items outcomes_now lates_now true x run_after passed_now)
        (sym s) (run_now {down_now = true} {spent_now = false} drained up_run refl told lost ran (λ e. absurd cc))

    -- memory runs out
    pub run_spent : {hub_now : Hub} {outcomes_now : List (Option Outcome)} {lates_now : List (Option (List ℕ))}
        {run_after : List RunEvent} {passed_now : List Passed} → is_waiting hub_now ≡ true
        → Told hub_now.fates hub_now.lates outcomes outcomes_now lates lates_now → AreLostAt hub_now.sent outcomes_now
        → RunsTo (ending_of false true) [] hub hub_now run run_after passed passed_now
        → HasRun settings status hub_now items outcomes_now lates_now down true run_after passed_now
    run_spent {hub_now} {outcomes_now} {lates_now} {run_after} {passed_now} waiting told lost ran =
        subst (λ (x : Bool). HasRun settings status hub_now items outcomes_now lates_now x true run_after passed_now)
        (sym d) (run_now {down_now = false} {spent_now = true} drained up_run refl told lost ran
        (λ e. (waiting, refl)))

  -- ---- an Ask

  -- the link failed before
  asked_down : {settings : Limits} {status : BoardStatus} {hub : Hub} {items now : List Item}
      {outcomes outcomes_now : List (Option Outcome)} {lates lates_now : List (Option (List ℕ))} {spent : Bool}
      {run : List RunEvent} {passed : List Passed} (claim : Claim) → claims now ≡ claims items ++ claim ∷ []
      → Told [] [] outcomes outcomes_now lates lates_now → AreLostAt hub.sent outcomes_now
      → HasRun settings status hub items outcomes lates true spent run passed
      → HasRun settings status hub now outcomes_now lates_now true spent run passed
  asked_down {items = items} {outcomes_now = outcomes_now} claim more told lost is = record {
    greeting = is.greeting;
    greeted = is.greeted;
    offered = is.offered;
    runs = is.runs;
    offers = subst (λ (cs : List Claim). AreOffersOf true cs is.offered) (sym more)
        (offers_asked true (claims items) claim is.offered is.offers);
    fresh = is.fresh;
    became = fates_now told is.runs.end is.runs.end (joined_none is.runs.end) (lost_at_end is.runs outcomes_now lost)
        is.became;
    late = lates_now_are told is.runs.end is.runs.end (joined_none is.runs.end) is.late;
    waits = is.waits;
    still_up = is.still_up;
  }

  -- the body is offered
  asked_up : {settings : Limits} {status : BoardStatus} {hub : Hub} {items now : List Item}
      {outcomes outcomes_now : List (Option Outcome)} {lates lates_now : List (Option (List ℕ))}
      {run run_after : List RunEvent} {passed : List Passed} (claim : Claim) (tag : ℕ) → IsDrained hub
      → claims now ≡ claims items ++ claim ∷ [] → tag ≡ length (claims items)
      → run_after ≡ run ++ Offer tag claim.body ∷ [] → IsSendable claim.body
      → Told hub.fates hub.lates outcomes outcomes_now lates lates_now → AreLostAt hub.sent outcomes_now
      → HasRun settings status hub items outcomes lates false false run passed
      → HasRun settings status (offer hub (record { tag = tag; body = claim.body })) now outcomes_now lates_now false
      false run_after passed
  asked_up {hub = hub} {items = items} {outcomes_now = outcomes_now} {run = run} {run_after = run_after}
      {passed = passed} claim tag drained more number run_is can told lost is =
      let one : Offered = record { tag = tag; body = claim.body } in
      let on : RunsTo GoesOn (one ∷ []) hub (offer hub one) run run_after passed passed =
      runs_once hub (offer hub one) (Offer tag claim.body) [] run run_after passed passed tt refl refl run_is
      (sym (append-nil passed)) in
      let both = runs_then laws is.runs on.runs in
      let all = both.0 in
      let comes : Joined is.runs.end all.end hub.fates hub.lates =
      joined laws is.runs.end hub (offer hub one) all.end is.runs.hub_is drained on.runs.events
      (on.runs.machine.end_is ∙ on.end_is) both.1 in
      let number_is : one ≡ offer_of (length (claims items)) claim = ap (λ (n : ℕ). offer_of n claim) number in
      record {
        greeting = is.greeting;
        greeted = is.greeted;
        offered = is.offered ++ one ∷ [];
        runs = all;
        offers = subst (λ (cs : List Claim). AreOffersOf false cs (is.offered ++ one ∷ [])) (sym more)
            (ap (λ (x : Offered). is.offered ++ x ∷ []) number_is
            ∙ offers_asked false (claims items) claim is.offered is.offers);
        fresh = record {
          identifier = is.fresh.identifier;
          some_window = is.fresh.some_window;
          window_in_range = is.fresh.window_in_range;
          sendable = subst AreSendable (sym (offers_of_run all))
              (AllByRecursion-append (λ (x : Offered). IsSendable x.body) is.offered (one ∷ [])
              (subst AreSendable (offers_of_run is.runs) is.fresh.sendable) (can, tt));
        };
        became = fates_now told is.runs.end all.end comes (lost_at_end all outcomes_now lost) is.became;
        late = lates_now_are told is.runs.end all.end comes is.late;
        waits = λ spent. absurd cc;
        still_up = λ spent. refl;
      }

  -- a body was asked, and offered unless the link failed before
  pub run_asked : {settings : Limits} {status : BoardStatus} {hub hub_now : Hub} {items now : List Item}
      {outcomes outcomes_now : List (Option Outcome)} {lates lates_now : List (Option (List ℕ))} {spent : Bool}
      {run run_after : List RunEvent} {passed : List Passed} (down : Bool) (claim : Claim) (tag : ℕ)
      → spent ≡ false → IsDrained hub → claims now ≡ claims items ++ claim ∷ [] → tag ≡ length (claims items)
      → hub_now ≡ cond down hub (offer hub (record { tag = tag; body = claim.body }))
      → run_after ≡ cond down run (run ++ Offer tag claim.body ∷ []) → IsSendable claim.body
      → outcomes_now ≡ outcomes ++ cond down (Some (LinkLost None)) None ∷ [] → lates_now ≡ lates ++ None ∷ []
      → AreLostAt hub_now.sent outcomes_now → HasRun settings status hub items outcomes lates down spent run passed
      → HasRun settings status hub_now now outcomes_now lates_now down spent run_after passed
  run_asked {settings} {status} {hub} {hub_now} {items} {now} {outcomes} {outcomes_now} {lates} {lates_now} {spent}
      {run} {run_after} {passed} true claim tag unspent drained more number hub_is run_is can outcomes_are lates_are
      lost is =
      let told : Told [] [] outcomes outcomes_now lates lates_now =
      told_asked (Some (LinkLost None)) lost_unsent refl refl outcomes_are lates_are in
      let lost_here : AreLostAt hub.sent outcomes_now =
      subst (λ (h : Hub). AreLostAt h.sent outcomes_now) hub_is lost in
      subst (λ (h : Hub). HasRun settings status h now outcomes_now lates_now true spent run_after passed) (sym hub_is)
      (subst (λ (r : List RunEvent). HasRun settings status hub now outcomes_now lates_now true spent r passed)
      (sym run_is) (asked_down claim more told lost_here is))
  run_asked {settings} {status} {hub} {hub_now} {items} {now} {outcomes} {outcomes_now} {lates} {lates_now} {spent}
      {run} {run_after} {passed} false claim tag unspent drained more number hub_is run_is can outcomes_are lates_are
      lost is =
      let told : Told hub.fates hub.lates outcomes outcomes_now lates lates_now =
      told_asked None none_yet drained.fates drained.lates outcomes_are lates_are in
      let lost_here : AreLostAt hub.sent outcomes_now =
      subst (λ (h : Hub). AreLostAt h.sent outcomes_now) hub_is lost in
      let up = subst (λ (x : Bool). HasRun settings status hub items outcomes lates false x run passed) unspent is in
      subst (λ (x : Bool). HasRun settings status hub_now now outcomes_now lates_now false x run_after passed)
      (sym unspent)
      (subst (λ (h : Hub). HasRun settings status h now outcomes_now lates_now false false run_after passed)
      (sym hub_is) (asked_up claim tag drained more number run_is can told lost_here up))
