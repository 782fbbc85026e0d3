-- What holds of a lane, kept by a pump.
use Rattle.std.proofs.Common.{◌≡◌, ℕ, ◌≤◌, Bool, true, false, List, []}
use Rattle.std.proofs.Common.{length, Option, refl, sym, ap, ◌∙◌, subst, arith, ◌⊎◌, inl, inr, ⊎_elim}
use Rattle.std.specs.Prelude.{IfSome}
use Rattle.ipb_base.specs.Faults.{Rose}
use Rattle.world_model.specs.declared.offered.Offered.{Offered}
use Rattle.world_model.specs.declared.offered.OpenPlace.{OpenPlace}
use Rattle.world_model.specs.Messages.{ToHub}
use Rattle.world_model.specs.Hub.{Hub, after_handing_out, hear_quiet, is_waiting}
use Rattle.world_model.specs.Hub.{take_message}
use Rattle.world_model.specs.Sends.{pending}
use Rattle.world_model.specs.Facts.{HasBodies}
use Rattle.world_model.specs.Settings.{Limits}
use Rattle.links.specs.Telling.{Telling}
use Rattle.lane_record.specs.declared.outcome.Outcome.{Outcome}
use Rattle.lane_record.specs.declared.item.Item.{Item}
use Rattle.lane_record.specs.Claims.{Claim, claims}
use Rattle.lane_record.specs.Outcomes.{is_lost}
use Rattle.lane_record.specs.Lates.{KeepsLates, put_lates}
use Rattle.lane_record.specs.Offers.{AddsOnly, Agrees, KeepsOutcomes, all_lost, put_all}
use Rattle.lane_record.proofs.Lengths.{all_lost_short}
use Rattle.lane_record.proofs.Rounds.{all_lost_tell}
use Rattle.hub_lane.specs.Below.{LateLaws}
use Rattle.hub_lane.specs.declared.answers.Pumped.{Pumped}
use Rattle.hub_lane.specs.Heard.{HasHeard, HasListened}
use Rattle.hub_lane.specs.Hearing.{IsEventAs, give_ups_of, gots_of, hub_after, quiets_of, receives_of}
use Rattle.hub_lane.specs.Lanes.{BoardStatus, IsLane, board_of}
use Rattle.hub_lane.specs.Sends.{HasSent, all_sent}
use Rattle.hub_lane.specs.Standing.{GoesOn, IsRunning, IsStopped, IsUnanswered, NoneOpenHanded, StaysUnanswered, Stops}
use Rattle.hub_lane.specs.PumpLaws.{GaveUpLaw, LostLaw, MessageSettles, PumpLaws, QuietSettles, RepliedLaw}
use Rattle.hub_lane.proofs.Datagrams.{heard_after}
use Rattle.hub_lane.proofs.Exchanges.{IsAfter, IsMid}
use Rattle.hub_lane.proofs.Exchanges.{event_after, event_late, event_settles, mid_after, mid_sent, more_give_ups}
use Rattle.hub_lane.proofs.Exchanges.{same_length}
use Rattle.hub_lane.proofs.Fates.{Told, told_settled}
use Rattle.hub_lane.proofs.Lanes.{told_still, up_unanswered}
use Rattle.hub_lane.proofs.LateAnswers.{HandsOver, late_still, lost_late}
use Rattle.hub_lane.proofs.Listened.{event_listened, listened_sent, same_answers, same_prefix}
use Rattle.hub_lane.proofs.Standing.{if_told, lost_stopped}

-- ---- an exchange

-- what a pump keeps of a lane
pub record Pumps (settings : Limits) (status : BoardStatus) (hub : Hub) (items : List Item)
    (old outcomes : List (Option Outcome)) (old_lates lates : List (Option (List ℕ))) (old_give_ups give_ups : ℕ)
    (down spent : Bool) (telling : Option Telling) (faults quiets : ℕ) : Type 0 where
  pub lane : IsLane settings status hub items outcomes lates give_ups down spent telling faults quiets
  pub keeps : KeepsOutcomes old outcomes
  pub keeps_lates : KeepsLates old_lates lates
  pub more : old_give_ups ≤ give_ups

pub lane_received : LateLaws → MessageSettles → RepliedLaw → QuietSettles → GaveUpLaw
    → (settings : Limits) (status : BoardStatus) (hub mid new : Hub) (bytes : List ℕ) (pumped : Pumped)
    (items : List Item) (outcomes outcomes_now : List (Option Outcome)) (lates lates_now : List (Option (List ℕ)))
    (give_ups give_ups_now : ℕ) (telling telling_now : Option Telling) (faults faults_now quiets quiets_now : ℕ)
    → ((message : Option ToHub) → HasBodies (length outcomes) (take_message mid message))
    → HasBodies (length outcomes) (hear_quiet mid)
    → IsMid (length outcomes) (claims items) outcomes hub mid
    → is_waiting hub ≡ true → IsEventAs mid bytes pumped
    → new ≡ after_handing_out (hub_after pumped bytes mid)
    → outcomes_now ≡ put_all (hub_after pumped bytes mid).fates outcomes
    → lates_now ≡ put_lates (hub_after pumped bytes mid).lates lates
    → give_ups_now ≡ give_ups_of pumped (hub_after pumped bytes mid) give_ups
    → quiets_now ≡ quiets_of pumped quiets
    → IfSome telling_now (IsRunning settings new outcomes_now lates_now) → IfSome telling_now (NoneOpenHanded new)
    → board_of telling_now ≡ board_of telling
    → IsLane settings status hub items outcomes lates give_ups false false telling faults quiets
    → Pumps settings status new items outcomes outcomes_now lates lates_now give_ups give_ups_now false false
    telling_now faults_now quiets_now
lane_received late message replied quiet gave_up settings status hub mid new bytes pumped items outcomes outcomes_now
    lates lates_now give_ups give_ups_now telling telling_now faults faults_now quiets quiets_now bodies quiet_bodies at
    waiting event hub_is outcomes_are lates_are give_ups_are quiets_are running none same_board is =
    let before = mid_after settings status hub mid items outcomes lates give_ups telling faults quiets at is in
    let done = event_after message replied quiet gave_up settings status mid bytes pumped items outcomes give_ups quiets
    bodies quiet_bodies (at.same.waits ∙ waiting) event before in
    let after = subst (λ (h : Hub). IsAfter settings status h items outcomes outcomes_now give_ups_now quiets_now)
    (sym hub_is) (subst (λ (os : List (Option Outcome)). IsAfter settings status (after_handing_out (hub_after pumped bytes
    mid))
    items outcomes os give_ups_now quiets_now) (sym outcomes_are)
    (subst (λ (n : ℕ). IsAfter settings status (after_handing_out (hub_after pumped bytes mid)) items outcomes
    (put_all (hub_after pumped bytes mid).fates outcomes) n quiets_now) (sym give_ups_are)
    (subst (λ (q : ℕ). IsAfter settings status (after_handing_out (hub_after pumped bytes mid)) items outcomes
    (put_all (hub_after pumped bytes mid).fates outcomes)
    (give_ups_of pumped (hub_after pumped bytes mid) give_ups) q) (sym quiets_are) done))) in
    let event_is = hub_after pumped bytes mid in
    let hands = subst (λ (h : Hub). HandsOver event_is outcomes_now lates lates_now h) (sym hub_is)
    (subst (λ (os : List (Option Outcome)). HandsOver event_is os lates lates_now (after_handing_out event_is))
    (sym outcomes_are)
    (subst (λ (ls : List (Option (List ℕ))). HandsOver event_is (put_all event_is.fates outcomes) lates ls
    (after_handing_out event_is)) (sym lates_are)
    (event_late late message quiet mid bytes pumped items outcomes lates bodies quiet_bodies event at.ready at.agrees
    (late_still hub mid outcomes lates at.ready.drained at.account is.late)))) in
    record {
      lane = record {
        knows = after.knows;
        ready = after.ready;
        agrees = after.agrees;
        kept = after.kept;
        waited = after.waited;
        fewer = after.fewer;
        fits = is.fits;
        fault = λ e. absurd cc;
        lost = after.lost;
        tells = after.tells;
        short = after.short;
        late = hands.late;
        standing = running;
        unanswered = if_told (NoneOpenHanded new) (IsUnanswered new false false) telling_now none (λ t is. inl is);
        told = told_still status telling telling_now same_board is.told;
      };
      keeps = after.keeps;
      keeps_lates = hands.keeps;
      more = (let h = more_give_ups pumped (hub_after pumped bytes mid) give_ups in omega (arith, h, give_ups_are));
    }

-- ---- an exchange that failed

-- where no reply of an open place was handed out none is, whatever became of the lane
still_unanswered : (settings : Limits) (outcomes : List (Option Outcome)) (lates : List (Option (List ℕ)))
    (hub mid : Hub) (down spent : Bool) (telling telling_now : Option Telling)
    → StaysUnanswered telling hub telling_now mid → IfSome telling (IsRunning settings hub outcomes lates)
    → IfSome telling (IsUnanswered hub false false) → IfSome telling_now (IsUnanswered mid down spent)
still_unanswered settings outcomes lates hub mid down spent telling telling_now stays running none =
    if_told (NoneOpenHanded mid) (IsUnanswered mid down spent) telling_now
    (stays settings outcomes lates running
    (if_told (IsUnanswered hub false false) (NoneOpenHanded hub) telling none
    (λ t is. up_unanswered hub false false t refl is)))
    (λ t is. inl is)

pub lane_down : LostLaw
    → ((sent queue : List Offered) (os : List OpenPlace) (cs : List Claim) (outs : List (Option Outcome))
    → Agrees sent queue os cs outs → Agrees sent [] [] cs (all_lost (length sent) outs))
    → ((sent : ℕ) (outs : List (Option Outcome)) → KeepsOutcomes outs (all_lost sent outs))
    → ((sent : ℕ) (outs : List (Option Outcome)) → AddsOnly is_lost outs (all_lost sent outs))
    → (settings : Limits) (status : BoardStatus) (hub mid : Hub) (items : List Item)
    (outcomes before_lost outcomes_now : List (Option Outcome)) (lates lates_now : List (Option (List ℕ)))
    (give_ups give_ups_now sent : ℕ)
    (telling telling_now : Option Telling) (faults faults_now quiets quiets_now : ℕ)
    → IsMid (length outcomes) (claims items) outcomes hub mid
    → Stops telling hub telling_now mid → StaysUnanswered telling hub telling_now mid → Rose faults faults_now
    → quiets_now ≡ quiets
    → give_ups_now ≡ give_ups → before_lost ≡ outcomes → lates_now ≡ lates → sent ≡ length mid.sent
    → outcomes_now ≡ all_lost sent before_lost → board_of telling_now ≡ board_of telling
    → IsLane settings status hub items outcomes lates give_ups false false telling faults quiets
    → IsLane settings status mid items outcomes_now lates_now give_ups_now true false telling_now faults_now quiets_now
lane_down lost agrees keeps adds settings status hub mid items outcomes before_lost outcomes_now lates lates_now
    give_ups give_ups_now sent telling telling_now faults faults_now quiets quiets_now at stops stays rose same_quiets
    same_give_ups same_outcomes same_lates sent_is outcomes_are same_board is =
    let before = mid_after settings status hub mid items outcomes lates give_ups telling faults quiets at is in
    let new = all_lost (length mid.sent) outcomes in
    let a = agrees mid.sent mid.queue mid.open_places (claims items) outcomes before.agrees in
    let same = same_length (claims items) outcomes new before.agrees.counts.each a.counts.each in
    let new_is : outcomes_now ≡ new = outcomes_are ∙ (ap (λ (n : ℕ). all_lost n before_lost) sent_is
    ∙ ap (all_lost (length mid.sent)) same_outcomes) in
    subst (λ (os : List (Option Outcome)). IsLane settings status mid items os lates_now give_ups_now true false
    telling_now faults_now quiets_now) (sym new_is)
    (subst (λ (ls : List (Option (List ℕ))). IsLane settings status mid items new ls give_ups_now true false telling_now
    faults_now quiets_now) (sym same_lates)
    (subst (λ (g : ℕ). IsLane settings status mid items new lates g true false telling_now faults_now quiets_now)
    (sym same_give_ups)
    (subst (λ (q : ℕ). IsLane settings status mid items new lates give_ups true false telling_now faults_now q)
    (sym same_quiets) (record {
      knows = before.knows;
      ready = record {
        drained = before.ready.drained;
        window = before.ready.window;
        bodies = record {
          few = (let h = before.ready.bodies.few in omega (arith, h, same));
          sent = before.ready.bodies.sent;
          queue = before.ready.bodies.queue;
        };
      };
      agrees = a;
      kept = lost items outcomes new mid.window give_ups before.kept (keeps (length mid.sent) outcomes)
          (adds (length mid.sent) outcomes) a.counts;
      waited = before.waited;
      fewer = (let h = before.fewer in omega (arith, h, same));
      fits = is.fits;
      fault = λ e. omega (arith, rose);
      lost = λ k o e l. refl;
      tells = all_lost_tell settings.rounds (length mid.sent) outcomes is.tells;
      short = all_lost_short (length mid.sent) outcomes is.short;
      late = lost_late hub mid outcomes new lates at.ready.drained at.account (keeps (length mid.sent) outcomes) same
          is.late;
      standing = if_told (IsStopped settings mid outcomes lates) (IsStopped settings mid new lates) telling_now
          (stops settings outcomes lates is.standing)
          (λ t stopped. lost_stopped settings outcomes lates mid (length mid.sent) t stopped);
      unanswered = still_unanswered settings outcomes lates hub mid true false telling telling_now stays is.standing
          is.unanswered;
      told = told_still status telling telling_now same_board is.told;
    }))))

-- what became of an Ask stays
pub lost_keeps : ((sent : ℕ) (outs : List (Option Outcome)) → KeepsOutcomes outs (all_lost sent outs)) → (sent : ℕ)
    {old before new : List (Option Outcome)} → before ≡ old → new ≡ all_lost sent before → KeepsOutcomes old new
lost_keeps keeps sent {old} same lost =
    subst (KeepsOutcomes old) (sym (lost ∙ ap (all_lost sent) same)) (keeps sent old)

-- all sends went out, and nothing else happened
lane_sent : (settings : Limits) (status : BoardStatus) (hub mid : Hub) (items : List Item)
    (outcomes : List (Option Outcome)) (lates : List (Option (List ℕ))) (give_ups : ℕ)
    (telling telling_now : Option Telling) (faults faults_now quiets quiets_now : ℕ)
    → IsMid (length outcomes) (claims items) outcomes hub mid
    → GoesOn telling hub telling_now mid → StaysUnanswered telling hub telling_now mid → quiets_now ≡ quiets
    → board_of telling_now ≡ board_of telling
    → IsLane settings status hub items outcomes lates give_ups false false telling faults quiets
    → IsLane settings status mid items outcomes lates give_ups false false telling_now faults_now quiets_now
lane_sent settings status hub mid items outcomes lates give_ups telling telling_now faults faults_now quiets quiets_now
    at goes stays same_quiets same_board is =
    let before = mid_after settings status hub mid items outcomes lates give_ups telling faults quiets at is in
    record {
      knows = before.knows;
      ready = before.ready;
      agrees = before.agrees;
      kept = before.kept;
      waited = (let w = before.waited in omega (arith, w, same_quiets));
      fewer = before.fewer;
      fits = is.fits;
      fault = λ e. absurd cc;
      lost = before.lost;
      tells = before.tells;
      short = before.short;
      late = late_still hub mid outcomes lates at.ready.drained at.account is.late;
      standing = goes settings outcomes lates is.standing;
      unanswered = still_unanswered settings outcomes lates hub mid false false telling telling_now stays is.standing
          is.unanswered;
      told = told_still status telling telling_now same_board is.told;
    }

pub lane_spent : (settings : Limits) (status : BoardStatus) (hub mid : Hub) (items : List Item)
    (outcomes outcomes_now : List (Option Outcome)) (lates lates_now : List (Option (List ℕ)))
    (give_ups give_ups_now : ℕ)
    (telling telling_now : Option Telling) (faults faults_now quiets quiets_now : ℕ)
    → IsMid (length outcomes) (claims items) outcomes hub mid
    → Stops telling hub telling_now mid
    → StaysUnanswered telling hub telling_now mid ⊎ (is_waiting mid ≡ true) → quiets ≤ quiets_now
    → give_ups_now ≡ give_ups → outcomes_now ≡ outcomes → lates_now ≡ lates → board_of telling_now ≡ board_of telling
    → IsLane settings status hub items outcomes lates give_ups false false telling faults quiets
    → IsLane settings status mid items outcomes_now lates_now give_ups_now false true telling_now faults_now quiets_now
lane_spent settings status hub mid items outcomes outcomes_now lates lates_now give_ups give_ups_now telling telling_now
    faults faults_now quiets quiets_now at stops stays more same_give_ups same_outcomes same_lates same_board is =
    let before = mid_after settings status hub mid items outcomes lates give_ups telling faults quiets at is in
    subst (λ (os : List (Option Outcome)). IsLane settings status mid items os lates_now give_ups_now false true
    telling_now faults_now quiets_now) (sym same_outcomes)
    (subst (λ (ls : List (Option (List ℕ))). IsLane settings status mid items outcomes ls give_ups_now false true
    telling_now faults_now quiets_now) (sym same_lates)
    (subst (λ (g : ℕ). IsLane settings status mid items outcomes lates g false true telling_now faults_now quiets_now)
    (sym same_give_ups) (record {
      knows = before.knows;
      ready = before.ready;
      agrees = before.agrees;
      kept = before.kept;
      waited = (let w = before.waited in omega (arith, w, more));
      fewer = before.fewer;
      fits = is.fits;
      fault = λ e. absurd cc;
      lost = before.lost;
      tells = before.tells;
      short = before.short;
      late = late_still hub mid outcomes lates at.ready.drained at.account is.late;
      standing = stops settings outcomes lates is.standing;
      unanswered = ⊎_elim
          (λ (goes : StaysUnanswered telling hub telling_now mid). still_unanswered settings outcomes lates hub mid
          false true telling telling_now goes is.standing is.unanswered)
          (λ (waits : is_waiting mid ≡ true). if_told (IsStopped settings mid outcomes lates)
          (IsUnanswered mid false true) telling_now (stops settings outcomes lates is.standing)
          (λ t _. inr (record { ran_out = refl; link_up = refl; waits = waits })))
          stays;
      told = told_still status telling telling_now same_board is.told;
    })))

-- ---- a pump

up : (settings : Limits) (status : BoardStatus) (hub : Hub) (items : List Item) (outcomes : List (Option Outcome))
    (lates : List (Option (List ℕ))) (give_ups : ℕ) (down spent : Bool) (telling : Option Telling) (faults quiets : ℕ)
    → down ≡ false → spent ≡ false
    → IsLane settings status hub items outcomes lates give_ups down spent telling faults quiets
    → IsLane settings status hub items outcomes lates give_ups false false telling faults quiets
up settings status hub items outcomes lates give_ups down spent telling faults quiets d s is =
    subst (λ (x : Bool). IsLane settings status hub items outcomes lates give_ups false x telling faults quiets) s
    (subst (λ (x : Bool). IsLane settings status hub items outcomes lates give_ups x spent telling faults quiets) d is)

module _ (laws : PumpLaws) {settings : Limits} {status : BoardStatus} {hub : Hub} {items : List Item}
    {outcomes : List (Option Outcome)} {lates : List (Option (List ℕ))} {give_ups : ℕ} {down spent : Bool}
    {telling : Option Telling} {faults quiets : ℕ} (d : down ≡ false) (s : spent ≡ false)
    (is : IsLane settings status hub items outcomes lates give_ups down spent telling faults quiets) where
  is_up : IsLane settings status hub items outcomes lates give_ups false false telling faults quiets
  is_up = up settings status hub items outcomes lates give_ups down spent telling faults quiets d s is

  -- so is its link
  pub up_standing : IfSome telling (IsRunning settings hub outcomes lates)
  up_standing = is_up.standing

  pub up_none : IfSome telling (NoneOpenHanded hub)
  up_none = if_told (IsUnanswered hub false false) (NoneOpenHanded hub) telling is_up.unanswered
      (λ t is. up_unanswered hub false false t refl is)

  at_mid : (mid : Hub) → HasSent hub mid → IsMid (length outcomes) (claims items) outcomes hub mid
  at_mid mid sent = mid_sent laws.fates laws.bodies laws.agrees laws.late (length outcomes) (claims items) outcomes hub
      mid sent is_up.ready is_up.agrees

  pub pump_received : {new : Hub} (bytes : List ℕ) (pumped : Pumped) {outcomes_now : List (Option Outcome)}
      {lates_now : List (Option (List ℕ))} {give_ups_now : ℕ} (telling_now : Option Telling) (faults_now : ℕ)
      {quiets_now : ℕ}
      → is_waiting hub ≡ true → IsEventAs (all_sent hub) bytes pumped
      → new ≡ after_handing_out (hub_after pumped bytes (all_sent hub))
      → outcomes_now ≡ put_all (hub_after pumped bytes (all_sent hub)).fates outcomes
      → lates_now ≡ put_lates (hub_after pumped bytes (all_sent hub)).lates lates
      → give_ups_now ≡ give_ups_of pumped (hub_after pumped bytes (all_sent hub)) give_ups
      → quiets_now ≡ quiets_of pumped quiets
      → ((limits : Limits) → IfSome telling (IsRunning limits hub outcomes lates)
      → IfSome telling_now (IsRunning limits new outcomes_now lates_now))
      → StaysUnanswered telling hub telling_now new
      → board_of telling_now ≡ board_of telling
      → Pumps settings status new items outcomes outcomes_now lates lates_now give_ups give_ups_now down spent
      telling_now faults_now quiets_now
  pump_received {new} bytes pumped {outcomes_now} {lates_now} {give_ups_now} telling_now faults_now {quiets_now} waiting
      event hub_is outcomes_are lates_are give_ups_are quiets_are running stays same_board =
      let mid = all_sent hub in
      let at = at_mid mid (record { count = pending hub; sends = refl }) in
      let done = lane_received laws.late laws.message laws.replied laws.quiet laws.gave_up settings status hub mid new
      bytes pumped items outcomes outcomes_now lates lates_now give_ups give_ups_now telling telling_now faults
      faults_now quiets quiets_now
      (λ message. laws.message_bodies (length outcomes) mid message at.ready.bodies)
      (laws.quiet_bodies (length outcomes) mid at.ready.bodies) at waiting event hub_is outcomes_are lates_are
      give_ups_are quiets_are (running settings is_up.standing) (stays settings outcomes lates is_up.standing up_none)
      same_board is_up in
      subst (λ (x : Bool). Pumps settings status new items outcomes outcomes_now lates lates_now give_ups give_ups_now
      x spent telling_now faults_now quiets_now) (sym d)
      (subst (λ (x : Bool). Pumps settings status new items outcomes outcomes_now lates lates_now give_ups give_ups_now
      false x telling_now faults_now quiets_now) (sym s) done)

  pub pump_sent : {mid : Hub} {telling_now : Option Telling} {faults_now quiets_now : ℕ}
      → HasSent hub mid → GoesOn telling hub telling_now mid → StaysUnanswered telling hub telling_now mid
      → quiets_now ≡ quiets → board_of telling_now ≡ board_of telling
      → IsLane settings status mid items outcomes lates give_ups down spent telling_now faults_now quiets_now
  pump_sent {mid} {telling_now} {faults_now} {quiets_now} went goes stays same_quiets same_board =
      subst (λ (x : Bool). IsLane settings status mid items outcomes lates give_ups x spent telling_now faults_now
      quiets_now) (sym d)
      (subst (λ (x : Bool). IsLane settings status mid items outcomes lates give_ups false x telling_now faults_now
      quiets_now) (sym s)
      (lane_sent settings status hub mid items outcomes lates give_ups telling telling_now faults faults_now quiets
      quiets_now (at_mid mid went) goes stays same_quiets same_board is_up))

  pub pump_down : {mid : Hub} {before_lost outcomes_now : List (Option Outcome)} {lates_now : List (Option (List ℕ))}
      {give_ups_now sent : ℕ} {telling_now : Option Telling} {faults_now quiets_now : ℕ}
      → HasSent hub mid → Stops telling hub telling_now mid → StaysUnanswered telling hub telling_now mid
      → Rose faults faults_now → quiets_now ≡ quiets
      → give_ups_now ≡ give_ups → before_lost ≡ outcomes → lates_now ≡ lates → sent ≡ length mid.sent
      → outcomes_now ≡ all_lost sent before_lost → board_of telling_now ≡ board_of telling
      → IsLane settings status mid items outcomes_now lates_now give_ups_now true spent telling_now faults_now
      quiets_now
  pump_down {mid} {before_lost} {outcomes_now} {lates_now} {give_ups_now} {sent} {telling_now} {faults_now} {quiets_now}
      went stops stays rose same_quiets same_give_ups same_outcomes same_lates sent_is outcomes_are same_board =
      subst (λ (x : Bool). IsLane settings status mid items outcomes_now lates_now give_ups_now true x telling_now
      faults_now quiets_now) (sym s)
      (lane_down laws.lost laws.lost_agrees laws.lost_keeps laws.lost_adds settings status hub mid items outcomes
      before_lost outcomes_now lates lates_now give_ups give_ups_now sent telling telling_now faults faults_now quiets
      quiets_now (at_mid mid went) stops stays rose same_quiets same_give_ups same_outcomes same_lates sent_is
      outcomes_are same_board is_up)

  -- memory ran out: in a send, or in a receive, and then a body waits
  pub pump_spent : {mid : Hub} {outcomes_now : List (Option Outcome)} {lates_now : List (Option (List ℕ))}
      {give_ups_now : ℕ} {telling_now : Option Telling} {faults_now quiets_now : ℕ}
      → HasSent hub mid → Stops telling hub telling_now mid
      → StaysUnanswered telling hub telling_now mid ⊎ (is_waiting hub ≡ true) → quiets ≤ quiets_now
      → give_ups_now ≡ give_ups → outcomes_now ≡ outcomes → lates_now ≡ lates
      → board_of telling_now ≡ board_of telling
      → IsLane settings status mid items outcomes_now lates_now give_ups_now down true telling_now faults_now quiets_now
  pump_spent {mid} {outcomes_now} {lates_now} {give_ups_now} {telling_now} {faults_now} {quiets_now} went stops stays
      more same_give_ups same_outcomes same_lates same_board =
      let at = at_mid mid went in
      subst (λ (x : Bool). IsLane settings status mid items outcomes_now lates_now give_ups_now x true telling_now
      faults_now quiets_now) (sym d)
      (lane_spent settings status hub mid items outcomes outcomes_now lates lates_now give_ups give_ups_now telling
      telling_now faults faults_now quiets quiets_now at stops
      (⊎_elim (λ (goes : StaysUnanswered telling hub telling_now mid). inl goes)
      (λ (waits : is_waiting hub ≡ true). inr (at.same.waits ∙ waits)) stays)
      more same_give_ups same_outcomes same_lates same_board is_up)

  -- what the event told stands among the outcomes and the late answers
  pub pump_told : (bytes : List ℕ) (pumped : Pumped) {outcomes_now : List (Option Outcome)}
      {lates_now : List (Option (List ℕ))} → IsEventAs (all_sent hub) bytes pumped
      → outcomes_now ≡ put_all (hub_after pumped bytes (all_sent hub)).fates outcomes
      → lates_now ≡ put_lates (hub_after pumped bytes (all_sent hub)).lates lates
      → Told (hub_after pumped bytes (all_sent hub)).fates (hub_after pumped bytes (all_sent hub)).lates outcomes
      outcomes_now lates lates_now
  pump_told bytes pumped event outcomes_are lates_are =
      let mid = all_sent hub in
      let at = at_mid mid (record { count = pending hub; sends = refl }) in
      let hands = event_late laws.late laws.message laws.quiet mid bytes pumped items outcomes lates
      (λ message. laws.message_bodies (length outcomes) mid message at.ready.bodies)
      (laws.quiet_bodies (length outcomes) mid at.ready.bodies) event at.ready at.agrees
      (late_still hub mid outcomes lates at.ready.drained at.account is_up.late) in
      let some = event_settles laws.message laws.quiet mid bytes pumped (claims items) outcomes event at.ready
      at.agrees in
      told_settled (hub_after pumped bytes mid) (claims items) some.kind some.most some.settles hands.keeps hands.there
      outcomes_are lates_are

  pub pump_heard : (bytes : List ℕ) (pumped : Pumped) {outcomes_now : List (Option Outcome)} (gots : ℕ) {gots_now : ℕ}
      → IsEventAs (all_sent hub) bytes pumped
      → outcomes_now ≡ put_all (hub_after pumped bytes (all_sent hub)).fates outcomes
      → gots_now ≡ gots_of pumped gots → HasHeard outcomes gots → HasHeard outcomes_now gots_now
  pump_heard bytes pumped gots {gots_now} event outcomes_are rose heard =
      let mid = all_sent hub in
      let at = at_mid mid (record { count = pending hub; sends = refl }) in
      let settled = laws.quiet mid (claims items) outcomes at.ready.window at.ready.drained.fates at.agrees in
      subst (λ (os : List (Option Outcome)). HasHeard os gots_now) (sym outcomes_are)
      (heard_after mid bytes pumped outcomes gots gots_now at.ready.drained.fates
      (same_length (claims items) outcomes (put_all (hear_quiet mid).fates outcomes) at.agrees.counts.each
      settled.agrees.counts.each) settled.adds event rose heard)

  pub pump_listened : (bytes : List ℕ) (pumped : Pumped) {hub_now : Hub} {outcomes_now : List (Option Outcome)}
      {lates_now : List (Option (List ℕ))} {give_ups_now : ℕ} {receives receives_now : List (Option (List ℕ))}
      → is_waiting hub ≡ true → IsEventAs (all_sent hub) bytes pumped
      → hub_now ≡ after_handing_out (hub_after pumped bytes (all_sent hub))
      → outcomes_now ≡ put_all (hub_after pumped bytes (all_sent hub)).fates outcomes
      → lates_now ≡ put_lates (hub_after pumped bytes (all_sent hub)).lates lates
      → give_ups_now ≡ give_ups_of pumped (hub_after pumped bytes (all_sent hub)) give_ups
      → receives_now ≡ receives_of pumped bytes receives → HasListened status hub outcomes lates give_ups receives
      → HasListened status hub_now outcomes_now lates_now give_ups_now receives_now
  pump_listened bytes pumped {receives} waiting event hub_is outcomes_are lates_are give_ups_are receives_are listened =
      let mid = all_sent hub in
      let sent : HasSent hub mid = record { count = pending hub; sends = refl } in
      let at = at_mid mid sent in
      let before : HasListened status mid outcomes lates give_ups receives =
      listened_sent sent refl (same_answers refl refl) (same_prefix refl) listened in
      rw (hub_is, outcomes_are, lates_are, give_ups_are, receives_are)
      (event_listened status mid bytes pumped outcomes lates give_ups receives (at.same.first ∙ is_up.knows.first)
      at.ready.drained (at.same.waits ∙ waiting) event before)
