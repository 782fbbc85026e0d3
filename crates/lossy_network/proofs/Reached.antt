-- A hub over a simulated link goes from one state of a run to another.
use Rattle.std.proofs.Common.{◌≡◌, ◌⊎◌, inl, inr, ◌∙◌, ℕ, zero, suc, Bool, true, false, cond, List, [], ◌∷◌}
use Rattle.std.proofs.Common.{Option, Some, None, refl, sym, ap, subst}
use Rattle.std.specs.Prelude.{◌&&◌}
use Rattle.std.specs.List.{AllByRecursion}
use Rattle.world_model.specs.declared.offered.Offered.{Offered}
use Rattle.world_model.specs.Facts.{IsSendable}
use Rattle.world_model.specs.Hub.{Hub, HandedOut, IsDrained, after_handing_out, hands_out}
use Rattle.world_model.specs.Hub.{hear_quiet, is_waiting, offer, take_message}
use Rattle.world_model.specs.Links.{IsHanded, IsHeard, Told, hears_all, sent_on, then_told}
use Rattle.world_model.specs.Messages.{to_hub}
use Rattle.world_model.specs.Sends.{Next, bytes_to_send, next_send}
use Rattle.world_model.specs.World.{World}
use Rattle.links.specs.States.{IsReached}
use Rattle.links.specs.declared.link.Received.{Received}
use Rattle.links.specs.declared.link.Received.TheVariants.{Got, Quiet}
use Rattle.lossy_network.specs.Network.{ForHub, Front, Network, Nothing, Receipt, Taken, Taking, all_taken, with_call_counted}
use Rattle.lossy_network.specs.Network.{fails}
use Rattle.lossy_network.specs.Network.{front, most_takings, network_receipt, takes}
use Rattle.lossy_network.specs.HubSteps.{CannotReceive, HandsOut, HubAndLink, HubStep, IsHubStep, Offers, Receives}
use Rattle.lossy_network.specs.HubSteps.{Sends, after_step}
use Rattle.lossy_network.specs.HubSteps.{after_steps, steps_on, hears_answer, is_drained, is_none, is_silent}
use Rattle.lossy_network.specs.HubSteps.{may_receive, sends_on}
use Rattle.lossy_network.proofs.Takings.{still, takes_one}
use Rattle.lossy_network.proofs.Along.{WasDropped, WasHeard, was_taken}
use Rattle.lossy_network.proofs.Receipts.{the_got, the_quiet}

-- ---- the events of a run, a law of `links`

pub record RunEvents (begin : World) : Type 0 where
  pub offered : (so_far : HandedOut) (hub : Hub) (told : Told) (body : Offered) → IsReached begin so_far hub told
      → IsSendable body.body → IsDrained hub → IsReached begin so_far (offer hub body) told
  pub one_sent : (so_far : HandedOut) (hub : Hub) (told : Told) (next : Next) → IsReached begin so_far hub told
      → next_send hub ≡ Some next
      → IsReached begin so_far next.hub (sent_on told (bytes_to_send next.hub next.send))
  pub some_heard : (so_far : HandedOut) (hub : Hub) (old new : Told) → IsReached begin so_far hub old
      → next_send hub ≡ None → IsDrained hub → IsHeard old new → IsReached begin so_far hub new
  pub handed : (so_far : HandedOut) (hub : Hub) (told : Told) (bytes : List ℕ) → IsReached begin so_far hub told
      → next_send hub ≡ None → IsDrained hub → IsHanded told bytes
      → IsReached begin so_far (take_message hub (to_hub bytes)) told
  pub quiet : (so_far : HandedOut) (hub : Hub) (told : Told) → IsReached begin so_far hub told
      → next_send hub ≡ None → IsDrained hub → is_waiting hub ≡ true → IsReached begin so_far (hear_quiet hub) told
  pub out : (so_far : HandedOut) (hub : Hub) (told : Told) → IsReached begin so_far hub told
      → IsReached begin (hands_out so_far hub) (after_handing_out hub) told

-- ---- takings are hearings

heard_by_one : (net after : Network) (taking : Taking) (places : List ℕ) (new : Told)
    → WasDropped net after taking ⊎ WasHeard net after taking → hears_all after.told places ≡ Some new
    → IsHeard net.told new
heard_by_one net after taking places new (inl was) is =
    record { places = places; heard = ap (λ (t : Told). hears_all t places) (sym was.told) ∙ is }
heard_by_one net after taking places new (inr was) is = record {
  places = was.place ∷ places;
  heard = ap (λ (r : Option Told). then_told r (λ t. hears_all t places)) was.by_board ∙ is;
}

heard_as_it_is : (net : Network) (new : Network) → new ≡ net → IsHeard net.told new.told
heard_as_it_is net new same = record { places = []; heard = ap (λ (n : Network). Some n.told) (sym same) }

heard_by_front : (k : ℕ) (net : Network) (f : Front) → front net ≡ f
    → ((after : Network) → IsHeard after.told (takes k after).told) → IsHeard net.told (takes (suc k) net).told
heard_by_front k net Nothing is later = heard_as_it_is net (takes (suc k) net) (still (suc k) net Nothing is refl)
heard_by_front k net (ForHub place bytes) is later =
    heard_as_it_is net (takes (suc k) net) (still (suc k) net (ForHub place bytes) is refl)
heard_by_front k net (Taken taking after) is later =
    let more = later after in
    heard_by_one net after taking more.places (takes (suc k) net).told (was_taken net after taking is)
    (more.heard ∙ ap (λ (n : Network). Some n.told) (sym (takes_one k net after taking is)))

takes_heard : (k : ℕ) (net : Network) → IsHeard net.told (takes k net).told
takes_heard zero net = record { places = []; heard = refl }
takes_heard (suc k) net = heard_by_front k net (front net) refl (takes_heard k)

-- ---- tests

left_true : (b c : Bool) → (b && c) ≡ true → b ≡ true
left_true true c is = refl
left_true false c is = absurd cc

right_true : (b c : Bool) → (b && c) ≡ true → c ≡ true
right_true true c is = is
right_true false c is = absurd cc

none_left : {T : Type 0} (xs : List T) → is_none xs ≡ true → xs ≡ []
none_left [] is = refl
none_left (x ∷ xs) is = absurd cc

drained_is : (hub : Hub) → is_drained hub ≡ true → IsDrained hub
drained_is hub is = record {
  fates = none_left hub.fates (left_true _ _ is);
  lates = none_left hub.lates (right_true _ _ is);
}

silent_none : (r : Option Next) → is_silent r ≡ true → r ≡ None
silent_none None is = refl
silent_none (Some next) is = absurd cc

some_is : {A : Type 0} (x y : A) → Some x ≡ Some y → y ≡ x
some_is x y is = cc

if_some : {A : Type 0} (b : Bool) (r : Option A) (x : A) → cond b r None ≡ Some x → (b ≡ true) × (r ≡ Some x)
if_some true r x is = (refl, is)
if_some false r x is = absurd cc

if_none : {A : Type 0} (b : Bool) (r : Option A) (x : A) → cond b None r ≡ Some x → r ≡ Some x
if_none true r x is = absurd cc
if_none false r x is = is

-- ---- steps

abbrev pub IsThere : World → HubAndLink → Type 0
IsThere begin both = IsReached begin both.so_far both.hub both.net.told

module _ (begin : World) (events : RunEvents begin) where
  sends_there : (both after : HubAndLink) (r : Option Next) → next_send both.hub ≡ r → IsThere begin both
      → sends_on both r ≡ Some after → IsThere begin after
  sends_there both after None is here done = absurd cc
  sends_there both after (Some next) is here done =
      let same = some_is _ after (if_none (fails both.net) _ after done) in
      subst (IsThere begin) (sym same) (events.one_sent both.so_far both.hub both.net.told next here is)

  received_there : (both after : HubAndLink) (answer : Received) → answer ≡ (network_receipt both.net).answer
      → IsThere begin both → next_send both.hub ≡ None → IsDrained both.hub
      → hears_answer both (network_receipt both.net) answer ≡ Some after → IsThere begin after
  received_there both after Got is here silent told done =
      let got = the_got both.net is in
      let heard = takes_heard (most_takings (with_call_counted both.net)) (with_call_counted both.net) in
      let mid = events.some_heard both.so_far both.hub both.net.told (all_taken (with_call_counted both.net)).told here silent told
      heard in
      let handed = events.handed both.so_far both.hub (all_taken (with_call_counted both.net)).told got.bytes mid silent told
      (record { place = got.place; at = got.there }) in
      subst (IsThere begin) (sym (some_is _ after done))
      (subst (λ (r : Receipt). IsReached begin both.so_far (take_message both.hub (to_hub r.bytes)) r.after.told)
      (sym got.is) handed)
  received_there both after Quiet is here silent told done =
      let quiet = the_quiet both.net is in
      let heard = takes_heard (most_takings (with_call_counted both.net)) (with_call_counted both.net) in
      let mid = events.some_heard both.so_far both.hub both.net.told (all_taken (with_call_counted both.net)).told here silent told
      heard in
      let waits = if_some (is_waiting both.hub) _ after done in
      let noticed = events.quiet both.so_far both.hub (all_taken (with_call_counted both.net)).told mid silent told waits.0 in
      subst (IsThere begin) (sym (some_is _ after waits.1))
      (subst (λ (r : Receipt). IsReached begin both.so_far (hear_quiet both.hub) r.after.told) (sym quiet.is) noticed)

  told_of_may : (both : HubAndLink) → may_receive both ≡ true → IsDrained both.hub
  told_of_may both is = drained_is both.hub (left_true _ _ (left_true _ _ is))

  silent_of_may : (both : HubAndLink) → may_receive both ≡ true → next_send both.hub ≡ None
  silent_of_may both is = silent_none (next_send both.hub) (right_true _ _ (left_true _ _ is))

  step_there : (both after : HubAndLink) (step : HubStep) → IsHubStep step → IsThere begin both
      → after_step both step ≡ Some after → IsThere begin after
  step_there both after (Offers offered) is here done =
      let told = if_some (is_drained both.hub) _ after done in
      subst (IsThere begin) (sym (some_is _ after told.1))
      (events.offered both.so_far both.hub both.net.told offered here is (drained_is both.hub told.0))
  step_there both after Sends is here done = sends_there both after (next_send both.hub) refl here done
  step_there both after Receives is here done =
      let may = if_some (may_receive both) _ after done in
      received_there both after (network_receipt both.net).answer refl here (silent_of_may both may.0) (told_of_may both may.0)
      may.1
  step_there both after (CannotReceive taken) is here done =
      let may = if_some (may_receive both) _ after done in
      subst (IsThere begin) (sym (some_is _ after may.1))
      (events.some_heard both.so_far both.hub both.net.told (takes taken (with_call_counted both.net)).told here
      (silent_of_may both may.0) (told_of_may both may.0) (takes_heard taken (with_call_counted both.net)))
  step_there both after HandsOut is here done = subst (IsThere begin) (sym (some_is _ after done))
      (events.out both.so_far both.hub both.net.told here)

  steps_by : (r : Option HubAndLink) (steps : List HubStep) (after : HubAndLink)
      → ((mid : HubAndLink) → r ≡ Some mid → after_steps mid steps ≡ Some after → IsThere begin after)
      → steps_on r (λ mid. after_steps mid steps) ≡ Some after → IsThere begin after
  steps_by None steps after later done = absurd cc
  steps_by (Some mid) steps after later done = later mid refl done

  pub steps_there : (steps : List HubStep) (both after : HubAndLink) → AllByRecursion IsHubStep steps
      → IsThere begin both → after_steps both steps ≡ Some after → IsThere begin after
  steps_there [] both after are here done = subst (IsThere begin) (sym (some_is both after done)) here
  steps_there (step ∷ steps) both after are here done = steps_by (after_step both step) steps after
      (λ mid one more. steps_there steps mid after are.1 (step_there both mid step are.0 here one) more) done
