-- A step of a client.
use Rattle.std.proofs.Common.{◌≡◌, ◌⊎◌, ⊎_elim, ◌<◌, ◌+◌, ◌||◌, ◌==◌, ℕ, zero, suc, inl, inr, Bool, true, false}
use Rattle.std.proofs.Common.{if◌then◌else◌, List, [], ◌∷◌, ◌++◌, Option, Some, None, IfSome, refl, sym, ap, subst, ◌∙◌}
use Rattle.std.proofs.Common.{arith, eqb-true}
use Rattle.std.specs.List.{slice_get}
use Rattle.ipb_base.specs.Faults.{Rose}
use Rattle.world_model.specs.declared.offered.Offered.{Offered}
use Rattle.world_model.specs.declared.offered.OpenPlace.{OpenPlace}
use Rattle.world_model.specs.Hub.{Hub, is_waiting, some_queued, some_waited}
use Rattle.links.specs.declared.link.Link.{Ghosts}
use Rattle.links.specs.Receives.{receives_in}
use Rattle.links.specs.Telling.{IfTelling, Telling}
use Rattle.lane_record.specs.declared.outcome.Outcome.{Outcome}
use Rattle.lane_record.specs.declared.item.Item.{Item}
use Rattle.lane_record.specs.Claims.{Claim, claim_in, claims, claims_behind}
use Rattle.lane_record.specs.Items.{ask_in, asked_count, told_by_first, is_of}
use Rattle.lane_record.specs.Lates.{late_in}
use Rattle.lane_record.specs.Legal.{IsLegal}
use Rattle.lane_record.specs.Offers.{Agrees, awaited_tags, tags, unsettled_from}
use Rattle.lane_record.proofs.Asks.{apart}
use Rattle.lane_record.proofs.Lookups.{and_true, first_or, found_below, if_some}
use Rattle.hub_lane.specs.declared.answers.Pumped.{Pumped}
use Rattle.hub_lane.specs.declared.answers.Pumped.TheVariants.{Reply, Status, Stray, Quiet, Idle, LinkDown}
use Rattle.hub_lane.specs.Calls.{GoesDown, IsSameRecord, PumpsAs, TakesNothing, WasAsked}
use Rattle.hub_lane.specs.Carrying.{Pumping}
use Rattle.hub_lane.specs.Hearing.{gots_of, quiets_of}
use Rattle.hub_lane.specs.Lanes.{LaneState, opening_of}
use Rattle.hub_lane.specs.Links.{KeepsCounting}
use Rattle.hub_lane.specs.Step.{IsPump, PumpsOnce}
use Rattle.lane_tables.specs.Taken.{IsOldest}

-- ---- an asked body has its Ask

abbrev pub ClaimAt : List Claim → ℕ → ℕ → Type 0
ClaimAt cs client seq = (k : ℕ) × (claim : Claim) × (slice_get cs k ≡ Some claim) × (claim.client ≡ client)
    × (claim.seq ≡ seq)

one_behind : (front : List Item) (x : Item) (o : Option ℕ) (rest : List Claim) (client seq : ℕ)
    → ClaimAt rest client seq → ClaimAt (claim_in front x o ++ rest) client seq
one_behind front x None rest client seq c = c
one_behind front x (Some g) rest client seq (k, claim, there, same_client, same_seq) =
    (suc k, claim, there, same_client, same_seq)

first_claim : (front : List Item) (x : Item) (o : Option ℕ) (g : ℕ) (rest : List Claim) (client seq : ℕ) → o ≡ Some g
    → x.client ≡ client → x.seq ≡ seq → ClaimAt (claim_in front x o ++ rest) client seq
first_claim front x None g rest client seq e same_client same_seq = cc
first_claim front x (Some h) g rest client seq e same_client same_seq = (0, _, refl, same_client, same_seq)

claim_found : (client seq g : ℕ) (front xs : List Item) → told_by_first ask_in client seq xs ≡ Some g
    → ClaimAt (claims_behind front xs) client seq
claim_found client seq g front [] e = cc
claim_found client seq g front (x ∷ xs) e = ⊎_elim
    (λ (h : (if is_of client seq x then ask_in x.what else None) ≡ Some g).
    let r = if_some (is_of client seq x) (ask_in x.what) g h in
    let parts = and_true (x.client == client) (x.seq == seq) r.0 in
    first_claim front x (ask_in x.what) g (claims_behind (front ++ x ∷ []) xs) client seq r.1
    (eqb-true x.client client parts.0) (eqb-true x.seq seq parts.1))
    (λ (h : told_by_first ask_in client seq xs ≡ Some g). one_behind front x (ask_in x.what)
    (claims_behind (front ++ x ∷ []) xs) client seq (claim_found client seq g (front ++ x ∷ []) xs h))
    (first_or (if is_of client seq x then ask_in x.what else None) (told_by_first ask_in client seq xs) g e)

pub was_asked : (items : List Item) (outcomes : List (Option Outcome)) (client seq : ℕ) → IsLegal items outcomes
    → IsOldest items client seq → WasAsked items client seq
was_asked items outcomes client seq legal oldest =
    let f = found_below ask_in client seq items legal.asks_follow_plans.count oldest.is_asked in
    let at = claim_found client seq f.0 [] items f.1 in record {
      number = at.0;
      untaken = record {
        claim = at.1;
        ask = record { there = at.2; same_client = at.3; same_seq = at.4 };
        once = oldest.untaken;
      };
    }

pub each_asked : (items : List Item) (outcomes : List (Option Outcome)) (client : ℕ) (r : Option ℕ)
    → IsLegal items outcomes → IfSome r (λ seq. IsOldest items client seq)
    → IfSome r (λ seq. WasAsked items client seq)
each_asked items outcomes client None legal oldest = tt
each_asked items outcomes client (Some seq) legal oldest = was_asked items outcomes client seq legal oldest

-- an asked body is below the number of those that were asked
pub asked_below : (items : List Item) (outcomes : List (Option Outcome)) (client seq : ℕ) → IsLegal items outcomes
    → WasAsked items client seq → seq < asked_count client items
asked_below items outcomes client seq legal was =
    let body = was.untaken in
    let below = (apart items legal.asks_follow_plans.count).below was.number body.claim body.ask.there in
    subst (λ (n : ℕ). n < asked_count client items) body.ask.same_seq
    (subst (λ (c : ℕ). body.claim.seq < asked_count c items) body.ask.same_client below)

-- ---- whoever has no outcome is waited for

none_unsettled : (n : ℕ) (outcomes : List (Option Outcome)) (k : ℕ) → unsettled_from n outcomes ≡ []
    → slice_get outcomes k ≡ Some None → ⊥
none_unsettled n [] k e there = cc
none_unsettled n (None ∷ os) k e there = cc
none_unsettled n (Some o ∷ os) zero e there = cc
none_unsettled n (Some o ∷ os) (suc k) e there = none_unsettled (n + 1) os k e there

none_awaited : (sent : List Offered) (places : List OpenPlace) → some_waited places ≡ false → awaited_tags sent places ≡ []
none_awaited sent [] e = refl
none_awaited sent (o ∷ os) e = cases o.waited e (none_awaited sent os)
  where
    cases : (b : Bool) → (b || some_waited os) ≡ false → (some_waited os ≡ false → awaited_tags sent os ≡ [])
        → (if b then Rattle.lane_record.specs.Offers.tag_at sent o.place ∷ awaited_tags sent os else awaited_tags sent os) ≡ []
    cases true e rest = cc
    cases false e rest = rest e

nobody : (hub : Hub) → is_waiting hub ≡ false → awaited_tags hub.sent hub.open_places ++ tags hub.queue ≡ []
nobody hub e = cases hub.queue e
  where
    cases : (queue : List Offered) → (some_queued queue || some_waited hub.open_places) ≡ false
        → awaited_tags hub.sent hub.open_places ++ tags queue ≡ []
    cases [] e = ap (λ l. l ++ []) (none_awaited hub.sent hub.open_places e)
    cases (q ∷ qs) e = cc

-- so a lane in which a body has no outcome is not down, and its hub waits
pub not_down : (down : Bool) (hub : Hub) (cs : List Claim) (outcomes : List (Option Outcome)) (k : ℕ)
    → Agrees hub.sent (if down then [] else hub.queue) (if down then [] else hub.open_places) cs outcomes
    → slice_get outcomes k ≡ Some None → down ≡ true → ⊥
not_down true hub cs outcomes k a none is = none_unsettled 0 outcomes k (sym a.waits) none
not_down false hub cs outcomes k a none is = cc

pub waits_for : (down : Bool) (hub : Hub) (cs : List Claim) (outcomes : List (Option Outcome)) (k : ℕ)
    → Agrees hub.sent (if down then [] else hub.queue) (if down then [] else hub.open_places) cs outcomes
    → slice_get outcomes k ≡ Some None → is_waiting hub ≡ false → ⊥
waits_for true hub cs outcomes k a none is = none_unsettled 0 outcomes k (sym a.waits) none
waits_for false hub cs outcomes k a none is = none_unsettled 0 outcomes k (sym a.waits ∙ nobody hub is) none

-- a pump after which the body has no outcome received
pub pumped_in_vain : {L : Type 0} (old new : LaneState L) (telling : Option Telling)
    (before now : List (Option (List ℕ))) (pumped : Pumped) (k q q' g g' : ℕ)
    → PumpsAs old telling before now new pumped
    → Agrees new.hub.sent (if new.down then [] else new.hub.queue) (if new.down then [] else new.hub.open_places)
    (claims new.items) new.outcomes → slice_get new.outcomes k ≡ Some None
    → q' ≡ quiets_of pumped q → g' ≡ gots_of pumped g → Rose q q' ⊎ Rose g g'
pumped_in_vain old new telling before now (Reply place) k q q' g g' p a none quiets gots = inr (omega (arith, gots))
pumped_in_vain old new telling before now Status k q q' g g' p a none quiets gots = inr (omega (arith, gots))
pumped_in_vain old new telling before now Stray k q q' g g' p a none quiets gots = inr (omega (arith, gots))
pumped_in_vain old new telling before now Quiet k q q' g g' p a none quiets gots = inl (omega (arith, quiets))
pumped_in_vain {L} old new telling before now Idle k q q' g g' p a none quiets gots =
    absurd (waits_for new.down new.hub (claims new.items) new.outcomes k a none
    (ap (λ (l : LaneState L). is_waiting l.hub) p.0 ∙ p.1))
pumped_in_vain {L} old new telling before now LinkDown k q q' g g' p a none quiets gots = absurd
    (not_down new.down new.hub (claims new.items) new.outcomes k a none (⊎_elim
    (λ (h : (old.down ≡ true) × (new ≡ old)). ap (λ (l : LaneState L). l.down) h.1 ∙ h.0)
    (λ (h : (old.down ≡ false) × (is_waiting old.hub ≡ true) × GoesDown old new). h.2.down) p.1))

-- ---- the same record

pub same_record : {L : Type 0} (old new : LaneState L) → new ≡ old → IsSameRecord old new
same_record {L} old new e = record {
  number = ap (λ (l : LaneState L). l.number) e;
  settings = ap (λ (l : LaneState L). l.settings) e;
  status = ap (λ (l : LaneState L). l.status) e;
  items = ap (λ (l : LaneState L). l.items) e;
  outcomes = λ k outcome there. ap (λ (l : LaneState L). slice_get l.outcomes k) e ∙ there;
  lates = λ place words there. ap (λ (l : LaneState L). late_in l.lates place) e ∙ there;
  give_ups = let same = ap (λ (l : LaneState L). l.give_ups) e in omega (arith, same);
}

-- ---- a pump between two takes

-- what a pump counted is counted from the lane before the take in vain before it, and on to the link behind it
pub pump_counts : {L : Type 0} (seen : Ghosts L) {old before : LaneState L} {now link : L} → before ≡ old
    → link ≡ now → KeepsCounting seen before.link now → KeepsCounting seen old.link link
pump_counts {L} seen {old} {before} {now} {link} same after counts =
    subst (λ (l : L). KeepsCounting seen old.link l) (sym after)
    (subst (λ (lane : LaneState L). KeepsCounting seen lane.link now) same counts)

pub pump_opening : {L : Type 0} (seen : Ghosts L) {old before : LaneState L} {now link : L} → before ≡ old
    → link ≡ now → opening_of (seen.telling now) ≡ opening_of (seen.telling before.link)
    → opening_of (seen.telling link) ≡ opening_of (seen.telling old.link)
pump_opening {L} seen {old} {before} {now} {link} same after opens =
    ap (λ (l : L). opening_of (seen.telling l)) after
    ∙ (opens ∙ ap (λ (lane : LaneState L). opening_of (seen.telling lane.link)) same)

-- ---- one pump

pub one_pump : {L : Type 0} (seen : Ghosts L) (old before new : LaneState L) (came_to : Pumped) (client seq : ℕ)
    → IsOldest old.items client seq → TakesNothing old client seq before
    → PumpsAs before (seen.telling new.link) (receives_in (seen.traffic before.link)) (receives_in (seen.traffic new.link)) new came_to
    → IfTelling (seen.telling before.link) (seen.telling new.link) (Pumping came_to before.hub new.hub)
    → PumpsOnce seen old client new
one_pump {L} seen old before new came_to client seq oldest nothing became carried = record {
  first = record {
    seq = seq;
    oldest = oldest;
    none_yet = record {
      number = nothing.number;
      untaken = nothing.untaken;
      none_yet = nothing.none_yet;
      same = refl;
    };
  };
  came_to = came_to;
  pump = subst (λ (lane : LaneState L). IsPump seen lane came_to new) nothing.same
      (record { became = became; carried = carried });
}

-- a pump adds no entry
pub oldest_still : {L : Type 0} (old before new : LaneState L) (client seq : ℕ) → IsOldest old.items client seq
    → TakesNothing old client seq before → IsSameRecord before new → IsOldest new.items client seq
oldest_still {L} old before new client seq oldest nothing same =
    subst (λ (items : List Item). IsOldest items client seq)
    (sym (same.items ∙ ap (λ (lane : LaneState L). lane.items) nothing.same)) oldest
