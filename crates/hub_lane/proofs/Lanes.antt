-- What holds of a lane, as it begins and with each entry.
use Rattle.std.proofs.Common.{◌≡◌, ℕ, ◌+◌, ◌≤◌, Bool, true, false, cond, List, [], ◌∷◌, ◌++◌}
use Rattle.std.proofs.Common.{length, Option, Some, None, refl, sym, ap, ◌∙◌, subst, arith, length-append}
use Rattle.std.proofs.Common.{inl, inr}
use Rattle.std.specs.Prelude.{IfSome, min}
use Rattle.std.specs.List.{AllByRecursion}
use Rattle.std.specs.Option.{option_or, unwrap_or}
use Rattle.ipb_base.specs.Numbers.{payload_of}
use Rattle.ipb_base.proofs.AllLemmas.{AllByRecursion-append}
use Rattle.packet_ids.specs.Identifier.{IsIdentifier}
use Rattle.status_packet.specs.Range.{IsBufferCount, IsMtu}
use Rattle.world_model.specs.declared.offered.Offered.{Offered}
use Rattle.world_model.specs.Board.{Board}
use Rattle.world_model.specs.Hub.{Hub, is_waiting, new_hub, offer}
use Rattle.world_model.specs.Facts.{HasBodies, IsSendable}
use Rattle.world_model.proofs.Lists.{either}
use Rattle.world_model.specs.Settings.{AreLimits, Limits}
use Rattle.links.specs.Telling.{Telling}
use Rattle.lane_record.specs.declared.outcome.Outcome.{Outcome}
use Rattle.lane_record.specs.declared.outcome.Outcome.TheVariants as became
use Rattle.lane_record.specs.declared.item.Item.{Item}
use Rattle.lane_record.specs.Items.{ask_in, told_by_first, is_of, plan_in}
use Rattle.lane_record.specs.Claims.{Claim, claims}
use Rattle.lane_record.specs.Bounds.{IsKept}
use Rattle.lane_record.specs.Offers.{Agrees, AgreesWith, offer_of}
use Rattle.lane_record.specs.NextEntry.{ask_of}
use Rattle.lane_record.proofs.Lookups.{claims_push}
use Rattle.lane_record.proofs.Lengths.{ShortIfThere}
use Rattle.lane_record.proofs.Rounds.{TellsIfThere}
use Rattle.lane_tables.proofs.AskedRows.{same_claims}
use Rattle.hub_lane.specs.Below.{LateLaws}
use Rattle.hub_lane.specs.Lanes.{BoardStatus, HasToldStatus, IsGreeted, FitsBoard, IsFittingPlan, IsLane, board_of}
use Rattle.hub_lane.specs.Standing.{IsRunning, IsStopped, IsUnanswered, NoneOpenHanded}
use Rattle.hub_lane.proofs.Closed.{begins_closed, offered_closed}
use Rattle.hub_lane.proofs.Datagrams.{at_most_one}
use Rattle.hub_lane.proofs.LateAnswers.{asked_late, begins_late}
use Rattle.hub_lane.proofs.Standing.{BeginLaw, OfferLaw, asked_lost, asked_running, begins_running, if_told}
use Rattle.hub_lane.proofs.Standing.{offered_running, pushed_get}
use Rattle.hub_lane.proofs.Windows.{new_windowed, offer_windowed}

-- ---- the status that a board told

abbrev pub HasTold : BoardStatus → Telling → Type 0
HasTold status t = HasToldStatus status t.told.board

told_by : (status : BoardStatus) (old new : Board) → record new { log = [] } ≡ record old { log = [] }
    → HasToldStatus status old → HasToldStatus status new
told_by status old new same is = record {
  mtu = is.mtu ∙ sym (ap (λ (b : Board). b.mtu) same);
  buffers = is.buffers ∙ sym (ap (λ (b : Board). b.buffers) same);
  next = is.next ∙ sym (ap (λ (b : Board). b.first) same);
}

-- the board of a link is the same but for what it executed
pub told_still : (status : BoardStatus) (old new : Option Telling) → board_of new ≡ board_of old
    → IfSome old (HasTold status) → IfSome new (HasTold status)
told_still status None None same is = tt
told_still status None (Some u) same is = absurd cc
told_still status (Some t) None same is = tt
told_still status (Some t) (Some u) same is =
    let bare : record u.told.board { log = [] } ≡ record t.told.board { log = [] } = cc in
    told_by status t.told.board u.told.board bare is

-- ---- a lane begins

begins_standing : BeginLaw → (settings : Limits) (status : BoardStatus) (t : Telling) → IsGreeted settings status t
    → IsRunning settings (new_hub status.next (min settings.window status.buffers) settings.rounds) [] [] t
begins_standing law settings status t is =
    subst (λ (next : ℕ). IsRunning settings (new_hub next (min settings.window status.buffers) settings.rounds) [] [] t)
    (sym is.told.next)
    (subst (λ (buffers : ℕ). IsRunning settings (new_hub t.told.board.first (min settings.window buffers)
    settings.rounds) [] [] t) (sym is.told.buffers) (begins_running law settings t is.begins))

pub lane_begins : BeginLaw → LateLaws → (settings : Limits) (status : BoardStatus) (telling : Option Telling)
    (faults quiets : ℕ)
    → ((first window rounds : ℕ) → AgreesWith (new_hub first window rounds) [] [])
    → ((window : ℕ) → IsKept [] [] window 0)
    → AreLimits settings → IsMtu status.mtu → IsBufferCount status.buffers → IsIdentifier status.next
    → IfSome telling (IsGreeted settings status)
    → IsLane settings status (new_hub status.next (min settings.window status.buffers) settings.rounds) [] [] [] 0
    false false telling faults quiets
lane_begins law late settings status telling faults quiets agrees kept limits mtu buffers next greeted =
    let w = min settings.window status.buffers in
    let few = limits.window_in_range in
    let one = limits.some_window in
    let some = buffers.0 in
    record {
      knows = record {
        limits = limits;
        mtu = mtu;
        buffers = buffers;
        identifier = next;
        first = refl;
        window = refl;
        rounds = refl;
      };
      ready = record {
        drained = record { fates = refl; lates = refl };
        window = new_windowed status.next w settings.rounds (omega (arith, few)) (omega (arith, one, some));
        bodies = record { few = omega arith; sent = tt; queue = tt };
      };
      agrees = agrees status.next w settings.rounds;
      kept = kept w;
      waited = omega arith;
      fewer = omega arith;
      fits = tt;
      fault = λ e. absurd cc;
      lost = λ k o e is. absurd cc;
      tells = tt;
      short = tt;
      late = begins_late late status.next w settings.rounds;
      standing = if_told (IsGreeted settings status)
          (IsRunning settings (new_hub status.next w settings.rounds) [] []) telling greeted
          (λ t is. begins_standing law settings status t is);
      unanswered = if_told (IsGreeted settings status)
          (IsUnanswered (new_hub status.next w settings.rounds) false false) telling greeted
          (λ t is. inl (begins_closed status.next w settings.rounds t is.in_air));
      told = if_told (IsGreeted settings status) (HasTold status) telling greeted (λ t is. is.told);
    }

pub lane_begun : BeginLaw → LateLaws → (settings : Limits) (status : BoardStatus) (hub : Hub) (items : List Item)
    (outcomes : List (Option Outcome)) (lates : List (Option (List ℕ))) (telling : Option Telling) (faults quiets : ℕ)
    → ((first window rounds : ℕ) → AgreesWith (new_hub first window rounds) [] [])
    → ((window : ℕ) → IsKept [] [] window 0)
    → AreLimits settings → IsMtu status.mtu → IsBufferCount status.buffers → IsIdentifier status.next
    → IfSome telling (IsGreeted settings status)
    → hub ≡ new_hub status.next (min settings.window status.buffers) settings.rounds → items ≡ [] → outcomes ≡ []
    → lates ≡ []
    → IsLane settings status hub items outcomes lates 0 false false telling faults quiets
lane_begun law late settings status hub items outcomes lates telling faults quiets agrees kept limits mtu buffers next
    greeted h i o l =
    let begun = new_hub status.next (min settings.window status.buffers) settings.rounds in
    subst (λ (x : Hub). IsLane settings status x items outcomes lates 0 false false telling faults quiets) (sym h)
    (subst (λ (xs : List Item). IsLane settings status begun xs outcomes lates 0 false false telling faults quiets)
    (sym i)
    (subst (λ (os : List (Option Outcome)). IsLane settings status begun [] os lates 0 false false telling faults
    quiets) (sym o)
    (subst (λ (ls : List (Option (List ℕ))). IsLane settings status begun [] [] ls 0 false false telling faults quiets)
    (sym l)
    (lane_begins law late settings status telling faults quiets agrees kept limits mtu buffers next greeted))))

-- ---- an entry that is no Ask

pub lane_entry : (settings : Limits) (status : BoardStatus) (hub : Hub) (items : List Item)
    (outcomes : List (Option Outcome)) (lates : List (Option (List ℕ))) (give_ups : ℕ) (down spent : Bool)
    (telling : Option Telling) (faults quiets : ℕ) (x : Item) → ask_in x.what ≡ None
    → IsFittingPlan (payload_of status.mtu) x
    → (IsKept items outcomes hub.window give_ups → IsKept (items ++ x ∷ []) outcomes hub.window give_ups)
    → IsLane settings status hub items outcomes lates give_ups down spent telling faults quiets
    → IsLane settings status hub (items ++ x ∷ []) outcomes lates give_ups down spent telling faults quiets
lane_entry settings status hub items outcomes lates give_ups down spent telling faults quiets x ask fits kept is =
    record {
      knows = is.knows;
      ready = is.ready;
      agrees = subst (λ (cs : List Claim). Agrees hub.sent (cond down [] hub.queue) (cond down [] hub.open_places) cs
          outcomes) (sym (same_claims items x ask)) is.agrees;
      kept = kept is.kept;
      waited = is.waited;
      fewer = is.fewer;
      fits = AllByRecursion-append (IsFittingPlan (payload_of status.mtu)) items (x ∷ []) is.fits (fits, tt);
      fault = is.fault;
      lost = is.lost;
      tells = is.tells;
      short = is.short;
      late = is.late;
      standing = is.standing;
      unanswered = is.unanswered;
      told = is.told;
    }

-- a lane whose record has the same entries
pub lane_still : {settings : Limits} {status : BoardStatus} {hub : Hub} {items items_now : List Item}
    {outcomes : List (Option Outcome)} {lates : List (Option (List ℕ))} {give_ups : ℕ} {down spent : Bool}
    {telling : Option Telling} {faults quiets : ℕ} → items_now ≡ items
    → IsLane settings status hub items outcomes lates give_ups down spent telling faults quiets
    → IsLane settings status hub items_now outcomes lates give_ups down spent telling faults quiets
lane_still {settings} {status} {hub} {items} {items_now} {outcomes} {lates} {give_ups} {down} {spent} {telling} {faults}
    {quiets} same =
    subst (λ (xs : List Item). IsLane settings status hub xs outcomes lates give_ups down spent telling faults quiets)
    (sym same)

-- ---- an Ask

-- a lane that is not spent lost no late answer
pub up_unanswered : (hub : Hub) (down spent : Bool) (t : Telling) → spent ≡ false → IsUnanswered hub down spent t
    → NoneOpenHanded hub t
up_unanswered hub down spent t up (inl none) = none
up_unanswered hub down spent t up (inr waits) =
    absurd (let bad : true ≡ false = sym waits.ran_out ∙ up in cc)

abbrev pub claim_of : ℕ → ℕ → ℕ → List ℕ → Claim
claim_of client seq g body = record { client = client; seq = seq; give_ups = g; body = body }

pub asked_claims : (items : List Item) (client seq g : ℕ) (body : List ℕ) → told_by_first plan_in client seq items ≡ Some body
    → claims (items ++ ask_of client seq g ∷ []) ≡ claims items ++ claim_of client seq g body ∷ []
asked_claims items client seq g body there = claims_push items (ask_of client seq g)
    ∙ ap (λ (o : Option (List ℕ)). claims items ++ claim_of client seq g (unwrap_or o []) ∷ []) there

pub lane_offered : OfferLaw → LateLaws → (settings : Limits) (status : BoardStatus) (hub : Hub) (items : List Item)
    (outcomes : List (Option Outcome)) (lates : List (Option (List ℕ))) (give_ups : ℕ) (telling : Option Telling)
    (faults quiets : ℕ) (client seq : ℕ) (body : List ℕ)
    → ((most : ℕ) (h : Hub) (o : Offered) → IsSendable o.body → HasBodies most h → HasBodies (most + 1) (offer h o))
    → ((h : Hub) (cs : List Claim) (os : List (Option Outcome)) (c : Claim) → AgreesWith h cs os
    → AgreesWith (offer h (offer_of (length cs) c)) (cs ++ c ∷ []) (os ++ None ∷ []))
    → (IsKept items outcomes hub.window give_ups
    → IsKept (items ++ ask_of client seq give_ups ∷ []) (outcomes ++ None ∷ []) hub.window give_ups)
    → told_by_first plan_in client seq items ≡ Some body → IsSendable body
    → IsLane settings status hub items outcomes lates give_ups false false telling faults quiets
    → IsLane settings status (offer hub (record { tag = length outcomes; body = body }))
    (items ++ ask_of client seq give_ups ∷ []) (outcomes ++ None ∷ []) (lates ++ None ∷ []) give_ups false false telling
    faults quiets
lane_offered law late settings status hub items outcomes lates give_ups telling faults quiets client seq body bodies
    agree kept
    there can is =
    let o : Offered = record { tag = length outcomes; body = body } in
    let longer = length-append outcomes (None ∷ []) in
    let each = is.agrees.counts.each in
    let more = bodies (length outcomes) hub o can is.ready.bodies in
    let agrees = agree hub (claims items) outcomes (claim_of client seq give_ups body) is.agrees in
    record {
      knows = record {
        limits = is.knows.limits;
        mtu = is.knows.mtu;
        buffers = is.knows.buffers;
        identifier = is.knows.identifier;
        first = is.knows.first;
        window = is.knows.window;
        rounds = is.knows.rounds;
      };
      ready = record {
        drained = record { fates = is.ready.drained.fates; lates = is.ready.drained.lates };
        window = offer_windowed hub o is.ready.window;
        bodies = record { few = (let h = more.few in omega (arith, h, longer)); sent = more.sent; queue = more.queue };
      };
      agrees = subst (λ (n : ℕ). AgreesWith (offer hub (record { tag = n; body = body }))
          (claims (items ++ ask_of client seq give_ups ∷ [])) (outcomes ++ None ∷ [])) (sym each)
          (subst (λ (cs : List Claim). AgreesWith (offer hub (record { tag = length (claims items); body = body })) cs
          (outcomes ++ None ∷ [])) (sym (asked_claims items client seq give_ups body there)) agrees);
      kept = kept is.kept;
      waited = is.waited;
      fewer = (let h = is.fewer in let w = at_most_one (is_waiting (offer hub o)) in omega (arith, h, longer, w));
      fits = AllByRecursion-append (IsFittingPlan (payload_of status.mtu)) items (ask_of client seq give_ups ∷ [])
          is.fits (tt, tt);
      fault = is.fault;
      lost = λ k outcome e lost. elim (pushed_get outcomes None k outcome e) [
        | inl none ↦ absurd cc
        | inr old ↦ is.lost k outcome old lost
      ];
      tells = AllByRecursion-append (TellsIfThere settings.rounds) outcomes (None ∷ []) is.tells (tt, tt);
      short = AllByRecursion-append ShortIfThere outcomes (None ∷ []) is.short (tt, tt);
      late = asked_late hub (offer hub o) outcomes lates None
          (record { fates = is.ready.drained.fates; lates = is.ready.drained.lates })
          (λ out account. late.offered out hub o account) is.late;
      standing = if_told (IsRunning settings hub outcomes lates)
          (IsRunning settings (offer hub o) (outcomes ++ None ∷ []) (lates ++ None ∷ [])) telling is.standing
          (λ t running. asked_running settings outcomes lates (offer hub o) t
          (offered_running law settings outcomes lates hub o t can is.ready.drained running));
      unanswered = if_told (IsUnanswered hub false false) (IsUnanswered (offer hub o) false false) telling is.unanswered
          (λ t none. inl (offered_closed hub o t (up_unanswered hub false false t refl none)));
      told = is.told;
    }

pub lane_asked_in_vain : (settings : Limits) (status : BoardStatus) (hub : Hub) (items : List Item)
    (outcomes : List (Option Outcome)) (lates : List (Option (List ℕ))) (give_ups : ℕ) (spent : Bool)
    (telling : Option Telling) (faults quiets : ℕ) (client seq : ℕ) (body : List ℕ)
    → ((sent : List Offered) (cs : List Claim) (os : List (Option Outcome)) (c : Claim) → Agrees sent [] [] cs os
    → Agrees sent [] [] (cs ++ c ∷ []) (os ++ Some (became.LinkLost None) ∷ []))
    → (IsKept items outcomes hub.window give_ups
    → IsKept (items ++ ask_of client seq give_ups ∷ []) (outcomes ++ Some (became.LinkLost None) ∷ []) hub.window
    give_ups)
    → told_by_first plan_in client seq items ≡ Some body
    → IsLane settings status hub items outcomes lates give_ups true spent telling faults quiets
    → IsLane settings status hub (items ++ ask_of client seq give_ups ∷ [])
    (outcomes ++ Some (became.LinkLost None) ∷ []) (lates ++ None ∷ []) give_ups true spent telling faults quiets
lane_asked_in_vain settings status hub items outcomes lates give_ups spent telling faults quiets client seq body agree
    kept
    there is =
    let longer = length-append outcomes (Some (became.LinkLost None) ∷ []) in
    record {
      knows = is.knows;
      ready = record {
        drained = is.ready.drained;
        window = is.ready.window;
        bodies = record {
          few = (let h = is.ready.bodies.few in omega (arith, h, longer));
          sent = is.ready.bodies.sent;
          queue = is.ready.bodies.queue;
        };
      };
      agrees = subst (λ (cs : List Claim). Agrees hub.sent [] [] cs (outcomes ++ Some (became.LinkLost None) ∷ []))
          (sym (asked_claims items client seq give_ups body there))
          (agree hub.sent (claims items) outcomes (claim_of client seq give_ups body) is.agrees);
      kept = kept is.kept;
      waited = is.waited;
      fewer = (let h = is.fewer in omega (arith, h, longer));
      fits = AllByRecursion-append (IsFittingPlan (payload_of status.mtu)) items (ask_of client seq give_ups ∷ [])
          is.fits (tt, tt);
      fault = is.fault;
      lost = λ k outcome e lost. refl;
      tells = AllByRecursion-append (TellsIfThere settings.rounds) outcomes (Some (became.LinkLost None) ∷ []) is.tells
          (tt, tt);
      short = AllByRecursion-append ShortIfThere outcomes (Some (became.LinkLost None) ∷ []) is.short (tt, tt);
      late = asked_late hub hub outcomes lates (Some (became.LinkLost None)) is.ready.drained (λ out account. account)
          is.late;
      standing = if_told (IsStopped settings hub outcomes lates)
          (IsStopped settings hub (outcomes ++ Some (became.LinkLost None) ∷ []) (lates ++ None ∷ [])) telling
          is.standing (λ t stopped. asked_lost settings outcomes lates hub t stopped);
      unanswered = is.unanswered;
      told = is.told;
    }

-- ---- an Ask of a lane that is down or not

or_cases : (o p : Option (List ℕ)) (body : List ℕ) (P : Type 0) → (o ≡ Some body → P) → (p ≡ Some body → P)
    → option_or o p ≡ Some body → P
or_cases None p body P first later is = later is
or_cases (Some x) p body P first later is = first is

fits_here : (payload : ℕ) (o : Option (List ℕ)) (body : List ℕ) → IfSome o (FitsBoard payload) → o ≡ Some body
    → FitsBoard payload body
fits_here payload o body is e = subst (λ (r : Option (List ℕ)). IfSome r (FitsBoard payload)) e is

found_first : (payload : ℕ) (x : Item) (xs : List Item) (client seq : ℕ) (body : List ℕ) → IsFittingPlan payload x
    → (told_by_first plan_in client seq xs ≡ Some body → FitsBoard payload body)
    → told_by_first plan_in client seq (x ∷ xs) ≡ Some body → FitsBoard payload body
found_first payload x xs client seq body fits later there =
    or_cases (cond (is_of client seq x) (plan_in x.what) None) (told_by_first plan_in client seq xs) body
    (FitsBoard payload body)
    (λ here. either (λ (o : Option (List ℕ)). o ≡ Some body → FitsBoard payload body) (is_of client seq x)
    (plan_in x.what) None (λ _ e. fits_here payload (plan_in x.what) body fits e) (λ _ e. absurd cc) here)
    later there

-- a body that is found in a record fits
pub found_fits : (payload : ℕ) (items : List Item) (client seq : ℕ) (body : List ℕ)
    → AllByRecursion (IsFittingPlan payload) items → told_by_first plan_in client seq items ≡ Some body
    → FitsBoard payload body
found_fits payload [] client seq body all there = absurd cc
found_fits payload (x ∷ xs) client seq body all there = found_first payload x xs client seq body all.0
    (λ later. found_fits payload xs client seq body all.1 later) there

pub body_sendable : (mtu : ℕ) (body : List ℕ) → IsMtu mtu → FitsBoard (payload_of mtu) body → length body ≤ 2242
body_sendable mtu body is fits = let short = fits.short in let most = is.1 in omega (arith, short, most)

pub lane_asks : OfferLaw → LateLaws
    → ((most : ℕ) (h : Hub) (o : Offered) → IsSendable o.body → HasBodies most h → HasBodies (most + 1) (offer h o))
    → ((h : Hub) (cs : List Claim) (os : List (Option Outcome)) (c : Claim) → AgreesWith h cs os
    → AgreesWith (offer h (offer_of (length cs) c)) (cs ++ c ∷ []) (os ++ None ∷ []))
    → ((sent : List Offered) (cs : List Claim) (os : List (Option Outcome)) (c : Claim) → Agrees sent [] [] cs os
    → Agrees sent [] [] (cs ++ c ∷ []) (os ++ Some (became.LinkLost None) ∷ []))
    → (settings : Limits) (status : BoardStatus) (hub new : Hub) (items items_now : List Item)
    (outcomes outcomes_now : List (Option Outcome)) (lates lates_now : List (Option (List ℕ))) (give_ups : ℕ)
    (down spent : Bool) (telling : Option Telling)
    (faults quiets : ℕ) (client seq : ℕ) (body : List ℕ)
    → (IsKept items outcomes hub.window give_ups
    → IsKept (items ++ ask_of client seq give_ups ∷ []) (outcomes ++ None ∷ []) hub.window give_ups)
    → (IsKept items outcomes hub.window give_ups
    → IsKept (items ++ ask_of client seq give_ups ∷ []) (outcomes ++ Some (became.LinkLost None) ∷ []) hub.window
    give_ups)
    → told_by_first plan_in client seq items ≡ Some body → IsSendable body → spent ≡ false
    → new ≡ cond down hub (offer hub (record { tag = length outcomes; body = body }))
    → items_now ≡ items ++ ask_of client seq give_ups ∷ []
    → outcomes_now ≡ outcomes ++ cond down (Some (became.LinkLost None)) None ∷ []
    → lates_now ≡ lates ++ None ∷ []
    → IsLane settings status hub items outcomes lates give_ups down spent telling faults quiets
    → IsLane settings status new items_now outcomes_now lates_now give_ups down spent telling faults quiets
lane_asks law late bodies agree later settings status hub new items items_now outcomes outcomes_now lates lates_now
    give_ups true spent telling faults quiets client seq body kept vain there can up hub_is items_are outcomes_are
    lates_are is =
    subst (λ (h : Hub). IsLane settings status h items_now outcomes_now lates_now give_ups true spent telling faults
    quiets) (sym hub_is)
    (subst (λ (xs : List Item). IsLane settings status hub xs outcomes_now lates_now give_ups true spent telling faults
    quiets) (sym items_are)
    (subst (λ (os : List (Option Outcome)). IsLane settings status hub (items ++ ask_of client seq give_ups ∷ []) os
    lates_now give_ups true spent telling faults quiets) (sym outcomes_are)
    (subst (λ (ls : List (Option (List ℕ))). IsLane settings status hub (items ++ ask_of client seq give_ups ∷ [])
    (outcomes ++ Some (became.LinkLost None) ∷ []) ls give_ups true spent telling faults quiets) (sym lates_are)
    (lane_asked_in_vain settings status hub items outcomes lates give_ups spent telling faults quiets client seq body
    later vain there is))))
lane_asks law late bodies agree later settings status hub new items items_now outcomes outcomes_now lates lates_now
    give_ups false spent telling faults quiets client seq body kept vain there can up hub_is items_are outcomes_are
    lates_are is =
    let is_up = subst (λ (s : Bool). IsLane settings status hub items outcomes lates give_ups false s telling faults
    quiets) up is in
    let o : Offered = record { tag = length outcomes; body = body } in
    let asked = items ++ ask_of client seq give_ups ∷ [] in
    subst (λ (s : Bool). IsLane settings status new items_now outcomes_now lates_now give_ups false s telling faults
    quiets) (sym up)
    (subst (λ (h : Hub). IsLane settings status h items_now outcomes_now lates_now give_ups false false telling faults
    quiets) (sym hub_is)
    (subst (λ (xs : List Item). IsLane settings status (offer hub o) xs outcomes_now lates_now give_ups false false
    telling faults quiets) (sym items_are)
    (subst (λ (os : List (Option Outcome)). IsLane settings status (offer hub o) asked os lates_now give_ups false false
    telling faults quiets) (sym outcomes_are)
    (subst (λ (ls : List (Option (List ℕ))). IsLane settings status (offer hub o) asked (outcomes ++ None ∷ []) ls
    give_ups false false telling faults quiets) (sym lates_are)
    (lane_offered law late settings status hub items outcomes lates give_ups telling faults quiets client seq body
    bodies agree kept there can is_up)))))
