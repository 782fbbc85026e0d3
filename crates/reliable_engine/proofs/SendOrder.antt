-- Sends go by place, and first sends after them.
use Rattle.std.proofs.Common.{◌≡◌, ◌≤◌, ◌<◌, ℕ, ◌+◌, true, false, List, [], ◌∷◌, length, Option, Some, None, refl}
use Rattle.std.proofs.Common.{subst}
use Rattle.std.proofs.Common.{arith}
use Rattle.std.specs.Prelude.{IfSome, nat_le}
use Rattle.std.specs.List.{AllByRecursion}
use Rattle.world_model.specs.declared.offered.OpenPlace.{OpenPlace}
use Rattle.world_model.specs.declared.offered.Offered.{Offered}
use Rattle.world_model.specs.declared.sending.Sending.{Sending}
use Rattle.world_model.specs.declared.sending.Sending.TheVariants as sends
use Rattle.world_model.specs.Hub.{Hub, least, low, places}
use Rattle.world_model.specs.Sends.{Next, Wanted, after_open, first_send, next_send, first_wanted, wanted_or_first}
use Rattle.world_model.specs.Facts.{AreRising}
use Rattle.world_model.proofs.Hubs.{has_first, has_later}
use Rattle.world_model.proofs.Lists.{either}
use Rattle.reliable_engine.specs.Answers.{IsQuiet, sent_next}
use Rattle.reliable_engine.specs.SendOrder.{GoesByPlace, HasNothingWanted, IsForLowest, IsQuietBelow}
use Rattle.reliable_engine.proofs.Hubs.{quiet}
use Rattle.reliable_engine.proofs.Runs.{IsHub}

-- ---- what is wanted of open places

none_below : (place from past : ℕ) (os : List OpenPlace) → place ≤ from → AreRising from past (places os)
    → IsQuietBelow place os
none_below place from past [] up rising = tt
none_below place from past (o ∷ os) up rising = (
  λ below. absurd (omega (arith, rising.0)),
  none_below place (o.place + 1) past os (omega (arith, rising.0)) rising.1,
)

none_at : (place from past : ℕ) (os : List OpenPlace) → place < from → AreRising from past (places os)
    → AllByRecursion (λ (o : OpenPlace). o.place ≡ place → o.resend ≡ false) os
none_at place from past [] up rising = tt
none_at place from past (o ∷ os) up rising = (
  λ here. absurd (omega (arith, rising.0)),
  none_at place (o.place + 1) past os (omega (arith, rising.0)) rising.1,
)

for_later : (first : ℕ) (o : OpenPlace) (os : List OpenPlace) (s : Sending) → IsQuiet o → IsForLowest first os s
    → IsForLowest first (o ∷ os) s
for_later first o os sends.Status calm is = tt
for_later first o os (sends.Resend id) calm is =
    record {
      place = is.place;
      there = has_later is.place o.place (places os) is.there;
      identifier = is.identifier;
      lowest = (λ _. calm, is.lowest);
    }
for_later first o os (sends.Control place id) calm is =
    record { lowest = (λ _. calm, is.lowest); asked = (λ _. calm.no_resend, is.asked) }

abbrev IsLowestOr : ℕ → List OpenPlace → Option Wanted → Type 0
IsLowestOr first os r = IfSome r (λ (w : Wanted). IsForLowest first os w.send)

wanted_later : (first : ℕ) (o : OpenPlace) (os : List OpenPlace) (r : Option Wanted) → IsQuiet o → IsLowestOr first os r
    → IsLowestOr first (o ∷ os) (after_open o r)
wanted_later first o os None calm is = tt
wanted_later first o os (Some w) calm is = for_later first o os w.send calm is

wanted_lowest : (first from past : ℕ) (os : List OpenPlace) → AreRising from past (places os)
    → IsLowestOr first os (first_wanted first os)
wanted_lowest first from past [] rising = tt
wanted_lowest first from past (o ∷ os) rising =
    let below : IsQuietBelow o.place (o ∷ os) =
    (λ itself. absurd (omega arith), none_below o.place (o.place + 1) past os (omega arith) rising.1) in
    either (IsLowestOr first (o ∷ os)) o.resend _ _
    (λ _. record {
      place = o.place;
      there = has_first o.place (places os);
      identifier = refl;
      lowest = below;
    })
    (λ a. either (IsLowestOr first (o ∷ os)) o.control _ _
    (λ _. record { lowest = below; asked = (λ _. a, none_at o.place (o.place + 1) past os (omega arith) rising.1) })
    (λ b. wanted_later first o os (first_wanted first os) (record { no_resend = a; no_control = b })
    (wanted_lowest first (o.place + 1) past os rising.1)))

-- ---- the next send

quiet_below : (place : ℕ) (os : List OpenPlace) → AllByRecursion IsQuiet os → IsQuietBelow place os
quiet_below place [] all = tt
quiet_below place (o ∷ os) all = (λ _. all.0, quiet_below place os all.1)

none_asked : (place : ℕ) (os : List OpenPlace) → AllByRecursion IsQuiet os
    → AllByRecursion (λ (o : OpenPlace). o.place ≡ place → o.resend ≡ false) os
none_asked place [] all = tt
none_asked place (o ∷ os) all = (λ _. all.0.no_resend, none_asked place os all.1)

abbrev Goes : Hub → Option Next → Type 0
Goes h r = IfSome r (λ (n : Next). GoesByPlace h n.send)

first_goes : (h : Hub) (queue : List Offered) → AllByRecursion IsQuiet h.open_places → Goes h (first_send h queue)
first_goes h [] all = tt
first_goes h (x ∷ later) all = either (Goes h) (nat_le (length h.sent + 1 + 1) (h.window + low h)) _ _
    (λ _. record {
      lowest = quiet_below (length h.sent + 1) h.open_places all;
      asked = none_asked (length h.sent + 1) h.open_places all;
    })
    (λ _. tt)

wanted_goes : (h : Hub) (r : Option Wanted) → first_wanted h.first h.open_places ≡ r → IsLowestOr h.first h.open_places r
    → Goes h (wanted_or_first h r)
wanted_goes h None e is = first_goes h h.queue (quiet h.first h.open_places e)
wanted_goes h (Some w) e is = is

pub goes_by_place : (h : Hub) (next : Next) → IsHub h → next_send h ≡ Some next → GoesByPlace h next.send
goes_by_place h next is e = subst (Goes h) e (either (Goes h) h.status_wanted _ _
    (λ _. tt)
    (λ _. wanted_goes h (first_wanted h.first h.open_places) refl
    (wanted_lowest h.first (least (places h.open_places) (length h.sent + 1)) (length h.sent + 1) h.open_places
    is.rising)))

abbrev IsLast : Hub → Option Next → Type 0
IsLast h r = IfSome r (λ (n : Next). length h.sent < length n.hub.sent → HasNothingWanted h)

last_by : (h : Hub) (r : Option Next) → HasNothingWanted h → IsLast h r
last_by h None is = tt
last_by h (Some n) is = λ _. is

wanted_last : (h : Hub) (r : Option Wanted) → h.status_wanted ≡ false → first_wanted h.first h.open_places ≡ r
    → IsLast h (wanted_or_first h r)
wanted_last h None status e = last_by h (first_send h h.queue)
    (record { no_status = status; quiet = quiet h.first h.open_places e })
wanted_last h (Some w) status e = λ more. absurd (omega arith)

pub new_last : (h : Hub) (next : Next) → next_send h ≡ Some next → length h.sent < length next.hub.sent
    → HasNothingWanted h
new_last h next e = subst (IsLast h) e (either (IsLast h) h.status_wanted _ _
    (λ _. λ more. absurd (omega arith))
    (λ status. wanted_last h (first_wanted h.first h.open_places) status refl))

pub status_first : (h : Hub) → h.status_wanted ≡ true → sent_next (next_send h) ≡ Some sends.Status
status_first h wanted = rw wanted refl
