-- The place of a body that was lost with the link: that of its first send, or none.
use Rattle.std.proofs.Common.{◌≡◌, ◌≢◌, ◌∙◌, ℕ, zero, suc, ◌+◌, Bool, true, false, cond, List, [], ◌∷◌, ◌++◌, length}
use Rattle.std.proofs.Common.{Option, Some, None, arith, ap, refl, sym, subst}
use Rattle.std.specs.Prelude.{is_some}
use Rattle.std.specs.List.{slice_get}
use Rattle.std.proofs.lemmas.List.{append-nil}
use Rattle.world_model.specs.declared.offered.Offered.{Offered}
use Rattle.world_model.specs.Facts.{IsTagged}
use Rattle.world_model.specs.Hub.{Hub}
use Rattle.world_model.specs.Places.{at_place}
use Rattle.world_model.specs.Settings.{Limits}
use Rattle.links.specs.Telling.{Telling}
use Rattle.lane_record.specs.declared.outcome.Outcome.{Outcome}
use Rattle.lane_record.specs.declared.outcome.Outcome.TheVariants.{LinkLost}
use Rattle.lane_record.specs.declared.item.Item.{Item}
use Rattle.lane_record.specs.Claims.{Claim, claims}
use Rattle.lane_record.specs.FirstSends.{HavePlacesAfter, may_have_place}
use Rattle.lane_record.specs.Offers.{Agrees, offers_from}
use Rattle.lane_record.specs.Outcomes.{is_sent, place_of}
use Rattle.lane_record.proofs.Offers.{offers_least}
use Rattle.hub_lane.specs.Fates.{IsLostAt}
use Rattle.hub_lane.specs.Lanes.{BoardStatus, IsLane}

-- ---- a place of the first sends

-- the body of this tag stands there, so many behind the first one
record StandsAt (p place tag : ℕ) (sent : List Offered) : Type 0 where
  behind : ℕ
  place_is : place ≡ p + behind + 1
  offered : Offered
  there : slice_get sent behind ≡ Some offered
  tag_is : offered.tag ≡ tag

stands_here : (n p place : ℕ) (d : Claim) (rest : List Offered) (o : Outcome) (b : Bool) → is_sent o ≡ b → b ≡ true
    → (is_sent o ≡ true → place_of o ≡ Some (p + 1)) → place_of o ≡ Some place
    → StandsAt p place (n + zero) (cond b (record { tag = n; body = d.body } ∷ rest) rest)
stands_here n p place d rest o true sent is at place_is =
    let both : Some (p + 1) ≡ Some place = sym (at sent) ∙ place_is in
    let same : p + 1 ≡ place = cc in
    record {
      behind = 0;
      place_is = omega (arith, same);
      offered = record { tag = n; body = d.body };
      there = refl;
      tag_is = omega arith;
    }
stands_here n p place d rest o false sent is at place_is = absurd cc

stands_later : (n k p place : ℕ) (d : Claim) (rest : List Offered) (b : Bool)
    → StandsAt (cond b (p + 1) p) place (n + 1 + k) rest
    → StandsAt p place (n + suc k) (cond b (record { tag = n; body = d.body } ∷ rest) rest)
stands_later n k p place d rest true at = record {
  behind = suc at.behind;
  place_is = (let is = at.place_is in omega (arith, is));
  offered = at.offered;
  there = at.there;
  tag_is = (let is = at.tag_is in omega (arith, is));
}
stands_later n k p place d rest false at = record {
  behind = at.behind;
  place_is = at.place_is;
  offered = at.offered;
  there = at.there;
  tag_is = (let is = at.tag_is in omega (arith, is));
}

has_place : (o : Outcome) (place : ℕ) → place_of o ≡ Some place → is_sent o ≡ true
has_place o place e = ap is_some e

-- a body with a place stands there among the offers
stands_from : (n p k place : ℕ) (cs : List Claim) (os : List (Option Outcome)) (o : Outcome) → length os ≡ length cs
    → HavePlacesAfter p os → slice_get os k ≡ Some (Some o) → place_of o ≡ Some place
    → StandsAt p place (n + k) (offers_from n cs os)
stands_from n p k place cs [] o len are there at = absurd cc
stands_from n p k place [] (y ∷ os) o len are there at = absurd (omega (arith, len))
stands_from n p zero place (d ∷ cs) (None ∷ os) o len are there at = absurd cc
stands_from n p zero place (d ∷ cs) (Some x ∷ os) o len are there at =
    let same : x ≡ o = cc in
    let sent : is_sent x ≡ true = ap is_sent same ∙ has_place o place at in
    stands_here n p place d (offers_from (n + 1) cs os) x (is_sent x) refl sent are.0 (ap place_of same ∙ at)
stands_from n p (suc k) place (d ∷ cs) (y ∷ os) o len are there at =
    let later : length os ≡ length cs = omega (arith, len) in
    stands_later n k p place d (offers_from (n + 1) cs os) (may_have_place y)
    (stands_from (n + 1) (cond (may_have_place y) (p + 1) p) k place cs os o later are.1 there at)

-- ---- a body that was not sent

split_at : (xs : List Offered) (k : ℕ) (x : Offered) → slice_get xs k ≡ Some x
    → (front : List Offered) × (back : List Offered) × (xs ≡ front ++ x ∷ back)
split_at [] k x there = absurd cc
split_at (y ∷ xs) zero x there = ([], xs, cc)
split_at (y ∷ xs) (suc k) x there =
    let cut = split_at xs k x there in (y ∷ cut.0, cut.1, ap (λ (l : List Offered). y ∷ l) cut.2)

none_first : (n : ℕ) (cs : List Claim) (os : List (Option Outcome)) (behind : ℕ) (x : Offered)
    → slice_get (offers_from (n + 1) cs os) behind ≡ Some x → x.tag ≢ n
none_first n cs os behind x there same =
    let cut = split_at (offers_from (n + 1) cs os) behind x there in
    let least = offers_least (n + 1) cs os cut.0 cut.1 x cut.2 in
    omega (arith, least, same)

none_later : (n k : ℕ) (d : Claim) (rest : List Offered) (b : Bool)
    → ((behind : ℕ) (x : Offered) → slice_get rest behind ≡ Some x → x.tag ≢ n + 1 + k)
    → (behind : ℕ) (x : Offered)
    → slice_get (cond b (record { tag = n; body = d.body } ∷ rest) rest) behind ≡ Some x → x.tag ≢ n + suc k
none_later n k d rest true later zero x there same =
    let is : record { tag = n; body = d.body } ≡ x = cc in
    let tag : n ≡ x.tag = ap (λ (o : Offered). o.tag) is in
    omega (arith, tag, same)
none_later n k d rest true later (suc behind) x there same = later behind x there (omega (arith, same))
none_later n k d rest false later behind x there same = later behind x there (omega (arith, same))

none_from : (n k : ℕ) (cs : List Claim) (os : List (Option Outcome)) (o : Outcome) → slice_get os k ≡ Some (Some o)
    → is_sent o ≡ false → (behind : ℕ) (x : Offered) → slice_get (offers_from n cs os) behind ≡ Some x
    → x.tag ≢ n + k
none_from n k cs [] o there unsent behind x at same = cc
none_from n k [] (y ∷ os) o there unsent behind x at same = cc
none_from n zero (d ∷ cs) (None ∷ os) o there unsent behind x at same = cc
none_from n zero (d ∷ cs) (Some z ∷ os) o there unsent behind x at same =
    let one : z ≡ o = cc in
    let none : is_sent z ≡ false = ap is_sent one ∙ unsent in
    none_first n cs os behind x
    (subst (λ (b : Bool). slice_get (cond b (record { tag = n; body = d.body } ∷ offers_from (n + 1) cs os)
    (offers_from (n + 1) cs os)) behind ≡ Some x) none at) (omega (arith, same))
none_from n (suc k) (d ∷ cs) (y ∷ os) o there unsent behind x at same =
    none_later n k d (offers_from (n + 1) cs os) (may_have_place y) (none_from (n + 1) k cs os o there unsent) behind x
    at same

-- ---- what was lost

-- each body that was lost with the link has the place of its first send, or was not sent
abbrev pub AreLostAt : List Offered → List (Option Outcome) → Type 0
AreLostAt sent outcomes = (tag : ℕ) (place : Option ℕ) → slice_get outcomes tag ≡ Some (Some (LinkLost place))
    → IsLostAt sent tag place

tagged_at : (sent : List Offered) (tag place : ℕ) → StandsAt 0 place (0 + tag) sent → IsTagged sent tag place
tagged_at sent tag place at =
    let same : place ≡ suc at.behind = (let is = at.place_is in omega (arith, is)) in
    record {
      offered = at.offered;
      at = subst (λ (p : ℕ). at_place sent p ≡ Some at.offered) (sym same) at.there;
      tag_is = (let is = at.tag_is in omega (arith, is));
    }

untagged : (sent : List Offered) (tag : ℕ)
    → ((behind : ℕ) (x : Offered) → slice_get sent behind ≡ Some x → x.tag ≢ 0 + tag) → (place : ℕ)
    → IsTagged sent tag place → ⊥
untagged sent tag none zero is = (let at = is.at in absurd cc)
untagged sent tag none (suc behind) is =
    none behind is.offered is.at (let tag_is = is.tag_is in omega (arith, tag_is))

lost_in : (sent : List Offered) (cs : List Claim) (os : List (Option Outcome)) → Agrees sent [] [] cs os
    → AreLostAt sent os
lost_in sent cs os is tag (Some place) there =
    let offers : offers_from 0 cs os ≡ sent = sym is.offered ∙ append-nil sent in
    tagged_at sent tag place (subst (StandsAt 0 place (0 + tag)) offers
    (stands_from 0 0 tag place cs os (LinkLost (Some place)) is.counts.each is.counts.places there refl))
lost_in sent cs os is tag None there =
    let offers : offers_from 0 cs os ≡ sent = sym is.offered ∙ append-nil sent in
    untagged sent tag (subst (λ (l : List Offered). (behind : ℕ) (x : Offered) → slice_get l behind ≡ Some x
    → x.tag ≢ 0 + tag) offers (none_from 0 tag cs os (LinkLost None) there refl))

-- in a lane a body is lost only where the link failed, and then nothing is queued any more
lost_down : (hub : Hub) (cs : List Claim) (os : List (Option Outcome)) (down : Bool)
    → Agrees hub.sent (cond down [] hub.queue) (cond down [] hub.open_places) cs os → down ≡ true
    → AreLostAt hub.sent os
lost_down hub cs os true is down = lost_in hub.sent cs os is
lost_down hub cs os false is down = absurd cc

pub lost_places : {settings : Limits} {status : BoardStatus} {hub : Hub} {items : List Item}
    {outcomes : List (Option Outcome)} {lates : List (Option (List ℕ))} {give_ups : ℕ} {down spent : Bool}
    {telling : Option Telling} {faults quiets : ℕ}
    → IsLane settings status hub items outcomes lates give_ups down spent telling faults quiets
    → AreLostAt hub.sent outcomes
lost_places {hub = hub} {items = items} {outcomes = outcomes} {down = down} is = λ tag place there.
    lost_down hub (claims items) outcomes down is.agrees (is.lost tag (LinkLost place) there refl) tag place there
