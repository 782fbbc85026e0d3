-- Fates wait in the order of their places, and then those of bodies that were never sent.
use Rattle.std.proofs.Common.{◌≡◌, ℕ, ◌≤◌, List, [], ◌∷◌, ◌++◌, drop, map, Some, refl, arith}
use Rattle.std.specs.Prelude.{nat_lt}
use Rattle.std.proofs.lemmas.Bool.{ltb-false, ltb-true}
use Rattle.world_model.specs.declared.offered.OpenPlace.{OpenPlace}
use Rattle.world_model.specs.declared.offered.Offered.{Offered}
use Rattle.world_model.specs.declared.offered.Fate.{Fate}
use Rattle.world_model.specs.declared.offered.Fate.TheVariants.{Replied, TimedOut, Unsent}
use Rattle.world_model.specs.Places.{at_place}
use Rattle.world_model.specs.Hub.{Hub, insert_fate, settle, tag_of, time_out, unsent_fate}
use Rattle.world_model.proofs.Lists.{either}
use Rattle.reliable_engine.specs.Events.{HubEvent, after_event, after_events}
use Rattle.reliable_engine.specs.ToldFates.{AreByPlace, AreUnsent}
use Rattle.reliable_engine.proofs.Cases.{after_is}

abbrev IsOf : ℕ → ℕ × Fate → Type 0
IsOf place (tag, Replied other words) = other ≡ place
IsOf place (tag, TimedOut other rounds) = other ≡ place
IsOf place (tag, Unsent) = ⊥

put_first : (from place : ℕ) (new : ℕ × Fate) (fates : List (ℕ × Fate)) → IsOf place new → from ≤ place
    → AreByPlace place fates → AreByPlace from (new ∷ fates)
put_first from place (tag, Replied other words) fates is up all = rw is (up, all)
put_first from place (tag, TimedOut other rounds) fates is up all = rw is (up, all)
put_first from place (tag, Unsent) fates is up all = absurd is

inserted : (from place : ℕ) (new : ℕ × Fate) (fates : List (ℕ × Fate)) → IsOf place new → from ≤ place
    → AreByPlace from fates → AreByPlace from (insert_fate place new fates)
inserted from place new [] is up all = put_first from place new [] is up tt
inserted from place new ((tag, Replied other words) ∷ fates) is up all =
    either (AreByPlace from) (nat_lt place other) _ _
    (λ e. put_first from place new ((tag, Replied other words) ∷ fates) is up
    (let below = ltb-true place other e in omega arith, all.1))
    (λ e. (all.0, inserted other place new fates is (ltb-false place other e) all.1))
inserted from place new ((tag, TimedOut other rounds) ∷ fates) is up all =
    either (AreByPlace from) (nat_lt place other) _ _
    (λ e. put_first from place new ((tag, TimedOut other rounds) ∷ fates) is up
    (let below = ltb-true place other e in omega arith, all.1))
    (λ e. (all.0, inserted other place new fates is (ltb-false place other e) all.1))
inserted from place new ((tag, Unsent) ∷ fates) is up all = put_first from place new ((tag, Unsent) ∷ fates) is up all

timed_out : (rounds : ℕ) (sent : List Offered) (os : List OpenPlace) (fates : List (ℕ × Fate)) → AreByPlace 0 fates
    → AreByPlace 0 (time_out rounds sent os fates)
timed_out rounds sent [] fates all = all
timed_out rounds sent (o ∷ os) fates all =
    let new : ℕ × Fate = (tag_of (at_place sent o.place), TimedOut o.place rounds) in
    timed_out rounds sent os _ (either (AreByPlace 0) o.waited (insert_fate o.place new fates) fates
    (λ _. inserted 0 o.place new fates refl (omega arith) all) (λ _. all))

more_unsent : (fates : List (ℕ × Fate)) (queue : List Offered) → AreUnsent fates → AreUnsent (fates ++ map unsent_fate queue)
more_unsent [] [] all = tt
more_unsent [] (x ∷ xs) all = more_unsent [] xs tt
more_unsent ((tag, Replied place words) ∷ fates) queue all = absurd all
more_unsent ((tag, TimedOut place rounds) ∷ fates) queue all = absurd all
more_unsent ((tag, Unsent) ∷ fates) queue all = more_unsent fates queue all

unsent_last : (from : ℕ) (fates : List (ℕ × Fate)) (queue : List Offered) → AreByPlace from fates
    → AreByPlace from (fates ++ map unsent_fate queue)
unsent_last from [] [] all = tt
unsent_last from [] (x ∷ xs) all = more_unsent [] xs tt
unsent_last from ((tag, Replied place words) ∷ fates) queue all = (all.0, unsent_last place fates queue all.1)
unsent_last from ((tag, TimedOut place rounds) ∷ fates) queue all = (all.0, unsent_last place fates queue all.1)
unsent_last from ((tag, Unsent) ∷ fates) queue all = more_unsent fates queue all

from_lower : (from : ℕ) (fates : List (ℕ × Fate)) → AreByPlace from fates → AreByPlace 0 fates
from_lower from [] all = tt
from_lower from ((tag, Replied place words) ∷ fates) all = (omega arith, all.1)
from_lower from ((tag, TimedOut place rounds) ∷ fates) all = (omega arith, all.1)
from_lower from ((tag, Unsent) ∷ fates) all = all

never_sent : (fates : List (ℕ × Fate)) → AreUnsent fates → AreByPlace 0 fates
never_sent [] all = tt
never_sent ((tag, Replied place words) ∷ fates) all = absurd all
never_sent ((tag, TimedOut place rounds) ∷ fates) all = absurd all
never_sent ((tag, Unsent) ∷ fates) all = all

without_first : (fates : List (ℕ × Fate)) → AreByPlace 0 fates → AreByPlace 0 (drop 1 fates)
without_first [] all = tt
without_first ((tag, Replied place words) ∷ fates) all = from_lower place fates all.1
without_first ((tag, TimedOut place rounds) ∷ fates) all = from_lower place fates all.1
without_first ((tag, Unsent) ∷ fates) all = never_sent fates all

settled_by_place : (h : Hub) (words : List ℕ) (o : OpenPlace) → AreByPlace 0 h.fates
    → AreByPlace 0 (settle h words (Some o)).fates
settled_by_place h words o all =
    let new : ℕ × Fate = (tag_of (at_place h.sent o.place), Replied o.place words) in
    either (AreByPlace 0) o.waited (insert_fate o.place new h.fates) h.fates
    (λ _. inserted 0 o.place new h.fates refl (omega arith) all) (λ _. all)

event_by_place : (h : Hub) (event : HubEvent) → AreByPlace 0 h.fates → AreByPlace 0 (after_event h event).fates
event_by_place h event all = after_is (λ _ after. AreByPlace 0 after.fates) h (record {
  offered = λ _. all;
  same = all;
  told = λ _. all;
  settled = λ id words o told. settled_by_place h words o all;
  wants_status = all;
  gives_up = unsent_last 0 (time_out h.rounds h.sent h.open_places h.fates) h.queue
      (timed_out h.rounds h.sent h.open_places h.fates all);
  asked = all;
  wished = λ _ _. all;
  sent_first = λ _ _ _ _. all;
  handed = without_first h.fates all;
  late_handed = all;
}) event

pub by_place : (h : Hub) (events : List HubEvent) → AreByPlace 0 h.fates → AreByPlace 0 (after_events h events).fates
by_place h [] all = all
by_place h (event ∷ events) all = by_place (after_event h event) events (event_by_place h event all)
