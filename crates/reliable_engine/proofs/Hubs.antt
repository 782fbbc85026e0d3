-- The hub that an engine is, and what it answers.
use Rattle.std.proofs.Common.{◌≡◌, ◌≤◌, ◌<◌, ℕ, zero, suc, Bool, true, false, cond, ◌⊎◌, length, take, drop}
use Rattle.std.proofs.Common.{get_or, List, [], ◌∷◌, ◌++◌, ◌+◌, ◌-◌, Option, Some, None, refl, sym, ap, ◌∙◌, subst}
use Rattle.std.proofs.Common.{◌^◌, if◌then◌else◌}
use Rattle.std.proofs.Common.{arith}
use Rattle.std.proofs.Common.{inl, inr}
use Rattle.std.specs.Prelude.{◌↔◌}
use Rattle.std.specs.List.{slice_get, AllByRecursion}
use Rattle.std.specs.Option.{IsNone}
use Rattle.std.proofs.lemmas.Bool.{cases_lt, le-leb, lt-leb}
use Rattle.std.proofs.lemmas.Option.{slice_get-get_or}
use Rattle.std.proofs.lemmas.Bool.Decides.{eqb_tells}
use Rattle.std.proofs.lemmas.List.{map-append, length-drop, length-take, length-take-le, get_or-take, drop_more}
use Rattle.std.proofs.lemmas.List.{take_more}
use Rattle.packet_ids.specs.Identifier.{identifier_at, IsIdentifier, IsPlaceOf}
use Rattle.world_model.specs.declared.offered.OpenPlace.{OpenPlace}
use Rattle.world_model.specs.declared.offered.Offered.{Offered}
use Rattle.world_model.specs.declared.offered.Fate.{Fate}
use Rattle.world_model.specs.declared.offered.Fate.TheVariants.{Replied}
use Rattle.world_model.specs.declared.sending.Sending.{Sending}
use Rattle.world_model.specs.declared.sending.Sending.TheVariants as sends
use Rattle.world_model.specs.Places.{at_place}
use Rattle.world_model.specs.Hub.{Hub, low, least, places, place_of, some_queued, settle, told_place, insert_fate}
use Rattle.world_model.specs.Hub.{insert_late}
use Rattle.world_model.specs.Hub.{tag_of, open_with, without, place_with}
use Rattle.world_model.specs.Sends.{Next, Wanted, after_open, first_wanted, opened_place, first_send, next_send}
use Rattle.world_model.specs.Facts.{has}
use Rattle.reliable_engine.specs.declared.engine.Engine.TheInside.{Inside}
use Rattle.reliable_engine.specs.Answers.{IsOpen, NamesOpenPlace, TellsPlace, IsQuiet, IsWindowFull, HasNothingToSend}
use Rattle.reliable_engine.specs.Answers.{IsSendOf}
use Rattle.reliable_engine.specs.Answers.{sent_next}
use Rattle.reliable_engine.specs.Steps.{places_after, places_wanted, sending_of}
use Rattle.reliable_engine.specs.View.{hub_of, IsKept, Keeps}
use Rattle.std.specs.Prelude.{IfSome, nat_lt}
use Rattle.world_model.specs.Facts.{IsWindow}
use Rattle.world_model.specs.Hub.{hear_status, after_recovery}
use Rattle.std.proofs.lemmas.Bool.{lt-ltb, ltb-true}
use Rattle.world_model.proofs.Flushing.{send_cases}
use Rattle.world_model.proofs.Hubs.{IsWantedOr, IsWish, wanted_is}
use Rattle.world_model.proofs.Lists.{either}
use Rattle.world_model.proofs.Places.{has_last, one_place}
use Rattle.reliable_engine.proofs.Places.{open_sent}
use Rattle.reliable_engine.proofs.Keeping.{found, keeps_less}
use Rattle.reliable_engine.proofs.Steps.{here_resend, here_control, here_none}

-- ---- bodies, sent and queued

pub sent_of : (i : Inside) (h : Hub) → hub_of i ≡ h → IsKept i → length h.sent ≡ i.sent
sent_of i h view is = ap (λ (x : Hub). length x.sent) (sym view) ∙ length-take-le i.sent i.bodies.items is.within

pub few_bodies : (i : Inside) (h : Hub) → hub_of i ≡ h → length h.sent + length h.queue < 2 ^ 62
    → length i.bodies.items < 2 ^ 62
few_bodies i h view few =
    let kept : length (hub_of i).sent + length (hub_of i).queue < 2 ^ 62 =
    subst (λ (x : Hub). length x.sent + length x.queue < 2 ^ 62) (sym view) few in
    omega (arith, kept, length-take i.sent i.bodies.items, length-drop i.sent i.bodies.items)

pub low_of : (i : Inside) (h : Hub) → hub_of i ≡ h → IsKept i → low h ≡ least (places i.open_places) (i.sent + 1)
low_of i h view is =
    ap low (sym view)
    ∙ ap (λ (n : ℕ). least (places i.open_places) (n + 1)) (length-take-le i.sent i.bodies.items is.within)

pub open_of : (i : Inside) (h : Hub) (place : ℕ) → hub_of i ≡ h → IsKept i → IsOpen h place
    → (1 ≤ place) × (place ≤ i.sent)
open_of i h place view is there =
    open_sent i.window i.sent place (places i.open_places) is.in_window
    (ap (λ (x : Hub). has place (places x.open_places)) view ∙ there)

pub found_sent : (i : Inside) (id : ℕ) (o : OpenPlace) → IsKept i → open_with i.first id i.open_places ≡ Some o
    → (1 ≤ o.place) × (o.place ≤ i.sent)
found_sent i id o is told =
    open_sent i.window i.sent o.place (places i.open_places) is.in_window
    (found i.first id i.open_places o told).gone.there

get_front_of : (all : List Offered) (sent k : ℕ) (d : Offered) → k < sent → sent ≤ length all
    → slice_get (take sent all) k ≡ Some (get_or all k d)
get_front_of all sent k d within few =
    let len = length-take-le sent all few in
    slice_get-get_or (take sent all) k d (omega arith) ∙ ap Some (get_or-take sent all k d within)

pub at_front_of : (all : List Offered) (sent place : ℕ) (d : Offered) → 1 ≤ place → place ≤ sent → sent ≤ length all
    → at_place (take sent all) place ≡ Some (get_or all (place - 1) d)
at_front_of all sent zero d one within few = absurd (omega arith)
at_front_of all sent (suc k) d one within few =
    let same : k ≡ suc k - 1 = omega arith in
    get_front_of all sent k d (omega arith) few ∙ ap (λ (n : ℕ). Some (get_or all n d)) same

record Split (all : List Offered) (sent : ℕ) : Type 0 where
  one : Offered
  queue : drop sent all ≡ one ∷ drop (sent + 1) all
  front : take (sent + 1) all ≡ take sent all ++ one ∷ []

split : (all : List Offered) (sent : ℕ) → sent < length all → Split all sent
split [] sent h = absurd (omega arith)
split (x ∷ xs) sent h = record {
  one = get_or (x ∷ xs) sent x;
  queue = drop_more (x ∷ xs) sent x h;
  front = take_more (x ∷ xs) sent x h;
}

pub queued : (all : List Offered) (sent : ℕ) → sent < length all → some_queued (drop sent all) ≡ true
queued all sent h = let s = split all sent h in ap some_queued s.queue

-- ---- the next first send

-- the hub after the first send of its front
abbrev pub sent_one : Hub → Offered → List Offered → Next
sent_one h x later = record {
  send = sends.Control (length h.sent + 1) (identifier_at h.first (length h.sent + 1));
  hub = record h {
    sent = h.sent ++ x ∷ [];
    queue = later;
    open_places = h.open_places ++ opened_place (length h.sent + 1) ∷ [];
  };
}

first_of : (h : Hub) (x : Offered) (later : List Offered) → length h.sent + 1 + 1 ≤ h.window + low h
    → first_send h (x ∷ later) ≡ Some (sent_one h x later)
first_of h x later room = rw (le-leb _ _ room) refl

-- what an engine is after it
abbrev pub with_sent : Inside → ℕ → List OpenPlace → Hub
with_sent i n os = record (hub_of i) {
  sent = take n i.bodies.items;
  queue = drop n i.bodies.items;
  open_places = os;
}

abbrev sent_as : Inside → ℕ → List Offered → List OpenPlace → Option Next
sent_as i n front os = Some (record {
  send = sends.Control (n + 1) (identifier_at i.first (n + 1));
  hub = record (hub_of i) { sent = front; queue = drop (i.sent + 1) i.bodies.items; open_places = os };
})

pub first_sent : (i : Inside) (h : Hub) (os : List OpenPlace) → hub_of i ≡ h → IsKept i → i.sent < length i.bodies.items
    → i.sent + 1 + 1 ≤ i.window + low h → os ≡ i.open_places ++ opened_place (i.sent + 1) ∷ []
    → first_send h h.queue ≡ Some (record {
      send = sends.Control (i.sent + 1) (identifier_at i.first (i.sent + 1));
      hub = with_sent i (i.sent + 1) os;
    })
first_sent i h os view is more room pushed =
    let all = i.bodies.items in
    let x = split all i.sent more in
    let v = hub_of i in
    let len : length v.sent ≡ i.sent = length-take-le i.sent all is.within in
    let free : length v.sent + 1 + 1 ≤ v.window + low v = omega (arith, ap low view) in
    ap (λ (y : Hub). first_send y y.queue) (sym view)
    ∙ (ap (first_send v) x.queue
    ∙ (first_of v x.one (drop (i.sent + 1) all) free
    ∙ (ap (λ (n : ℕ). sent_as i n (v.sent ++ x.one ∷ []) (v.open_places ++ opened_place (n + 1) ∷ [])) len
    ∙ (ap (λ (front : List Offered). sent_as i i.sent front (v.open_places ++ opened_place (i.sent + 1) ∷ [])) (sym x.front)
    ∙ ap (sent_as i i.sent (take (i.sent + 1) all)) (sym pushed)))))

pub last_open : (os qs : List OpenPlace) (place : ℕ) → qs ≡ os ++ opened_place place ∷ [] → has place (places qs) ≡ true
last_open os qs place same =
    ap (λ (xs : List OpenPlace). has place (places xs)) same
    ∙ (ap (has place) (map-append place_of os (opened_place place ∷ [])) ∙ has_last place (places os))

-- ---- a reply

-- the fates after a reply to an open place
abbrev pub fates_with : Hub → OpenPlace → List ℕ → List (ℕ × Fate)
fates_with h o words = cond o.waited
    (insert_fate o.place (tag_of (at_place h.sent o.place), Replied o.place words) h.fates)
    h.fates

abbrev pub lates_with : Hub → OpenPlace → List ℕ → List (ℕ × List ℕ)
lates_with h o words = cond o.waited h.lates (insert_late (o.place, words) h.lates)

pub settle_is : (h : Hub) (words : List ℕ) (o : OpenPlace) (os : List OpenPlace) (fates : List (ℕ × Fate))
    (lates : List (ℕ × List ℕ)) (r : Option OpenPlace) → r ≡ Some o → os ≡ without o.place h.open_places
    → fates ≡ fates_with h o words → lates ≡ lates_with h o words
    → record h { open_places = os; status_requests = 0; fates = fates; lates = lates } ≡ settle h words r
settle_is h words o os fates lates r is e f l = rw (e, f, l, is) refl

pub lates_waited : (h : Hub) (o : OpenPlace) (words : List ℕ) → o.waited ≡ true → lates_with h o words ≡ h.lates
lates_waited h o words e = rw e refl

pub lates_not_waited : (h : Hub) (o : OpenPlace) (words : List ℕ) → o.waited ≡ false
    → lates_with h o words ≡ insert_late (o.place, words) h.lates
lates_not_waited h o words e = rw e refl

pub fates_not_waited : (h : Hub) (o : OpenPlace) (words : List ℕ) → o.waited ≡ false → fates_with h o words ≡ h.fates
fates_not_waited h o words e = rw e refl

pub fates_waited : (h : Hub) (o : OpenPlace) (words : List ℕ) → o.waited ≡ true
    → fates_with h o words ≡ insert_fate o.place (tag_of (at_place h.sent o.place), Replied o.place words) h.fates
fates_waited h o words e = rw e refl

pub names : (h : Hub) (id : ℕ) (o : OpenPlace) → open_with h.first id h.open_places ≡ Some o → NamesOpenPlace h id
names h id o told =
    let f = found h.first id h.open_places o told in
    record { place = o.place; open_there = f.gone.there; identifier = f.named }

unnamed : (first id : ℕ) (os : List OpenPlace) (place : ℕ) → open_with first id os ≡ None → has place (places os) ≡ true
    → identifier_at first place ≡ id → ⊥
unnamed first id [] place none there same = absurd (cc)
unnamed first id (o ∷ os) place none there same = elim (eqb_tells (identifier_at first o.place) id) [
  | inl here ↦ absurd (
      let e : open_with first id (o ∷ os) ≡ Some o = rw here.0 refl in
      let bad : Some o ≡ None = sym e ∙ none in cc)
  | inr other ↦
      let later : open_with first id os ≡ None =
      (let e : open_with first id (o ∷ os) ≡ open_with first id os = rw other.0 refl in sym e ∙ none) in
      elim (eqb_tells o.place place) [
        | inl this ↦ other.1 (ap (identifier_at first) this.1 ∙ same)
        | inr apart ↦ unnamed first id os place later
            (let e : has place (places (o ∷ os)) ≡ has place (places os) = rw apart.0 refl in sym e ∙ there) same
      ]
]

pub names_none : (h : Hub) (id : ℕ) → open_with h.first id h.open_places ≡ None → NamesOpenPlace h id → ⊥
names_none h id none names = unnamed h.first id h.open_places names.place none names.open_there names.identifier

-- what is kept after the open place with an identifier was taken out
pub reply_keeps : (i : Inside) (id : ℕ) (o : OpenPlace) (r : Option OpenPlace) (os : List OpenPlace) (fl fr ll lr : ℕ)
    → IsKept i → r ≡ open_with i.first id i.open_places → r ≡ Some o → os ≡ places_after i.open_places r
    → fl ≤ i.fates.len + (if o.waited then 1 else 0) → i.fates.cap ≤ fr → ll ≤ i.lates.len + 1 → i.lates.cap ≤ lr
    → Keeps i.first i.window i.sent (length i.bodies.items) os fl fr ll lr
reply_keeps i id o r os fl fr ll lr is taken some after fates grown late more =
    let all = i.open_places in
    let told : open_with i.first id all ≡ Some o = sym taken ∙ some in
    let left : os ≡ without o.place all = after ∙ ap (places_after all) some in
    rw left (keeps_less i.first i.window i.sent (length i.bodies.items) all o i.fates.len i.fates.cap i.lates.len
    i.lates.cap fl fr ll lr is (found i.first id all o told).gone fates grown late more)

-- ---- the place that a status reply tells

place_with_found : (first low count id place : ℕ) → IsIdentifier first → 1 ≤ low → count < 65535
    → IsPlaceOf first low count id place → place_with first low count id ≡ Some place
place_with_found first low zero id place f one few is = absurd (omega (arith, is.from_low, is.within))
place_with_found first low (suc count) id place f one few is = elim (eqb_tells (identifier_at first low) id) [
  | inl here ↦ rw here.0 (ap Some (one_place first low place f one (omega (arith, is.from_low))
      (omega (arith, is.from_low)) (omega (arith, is.within)) (here.1 ∙ sym is.identifier)))
  | inr other ↦ rw other.0 (elim (cases_lt low place) [
    | inl later ↦ place_with_found first (low + 1) count id place f (omega arith) (omega arith) (record {
      from_low = omega arith;
      within = omega (arith, is.within);
      identifier = is.identifier;
    })
    | inr same ↦ absurd (other.1 (
        let e : low ≡ place = omega (arith, is.from_low) in ap (identifier_at first) e ∙ is.identifier))
  ])
]

place_with_none : (first low count id : ℕ) → ((place : ℕ) → IsPlaceOf first low count id place → ⊥)
    → place_with first low count id ≡ None
place_with_none first low zero id none = refl
place_with_none first low (suc count) id none = elim (eqb_tells (identifier_at first low) id) [
  | inl here ↦ absurd (none low (record { from_low = omega arith; within = omega arith; identifier = here.1 }))
  | inr other ↦ rw other.0 (place_with_none first (low + 1) count id (λ place is. none place (record {
    from_low = omega (arith, is.from_low);
    within = omega (arith, is.within);
    identifier = is.identifier;
  })))
]

place_with_is : (first low count id place : ℕ) → place_with first low count id ≡ Some place
    → IsPlaceOf first low count id place
place_with_is first low zero id place e = absurd (cc)
place_with_is first low (suc count) id place e = elim (eqb_tells (identifier_at first low) id) [
  | inl here ↦
      let same : Some low ≡ Some place =
      (let f : place_with first low (suc count) id ≡ Some low = rw here.0 refl in sym f ∙ e) in
      let at : low ≡ place = cc in
      record {
        from_low = omega arith;
        within = omega arith;
        identifier = ap (identifier_at first) (sym at) ∙ here.1;
      }
  | inr other ↦
      let f : place_with first low (suc count) id ≡ place_with first (low + 1) count id = rw other.0 refl in
      let later = place_with_is first (low + 1) count id place (sym f ∙ e) in
      record {
        from_low = omega (arith, later.from_low);
        within = omega (arith, later.within);
        identifier = later.identifier;
      }
]

no_place_with : (first low count id place : ℕ) → place_with first low count id ≡ None
    → IsPlaceOf first low count id place → ⊥
no_place_with first low zero id place e is = omega (arith, is.from_low, is.within)
no_place_with first low (suc count) id place e is = elim (eqb_tells (identifier_at first low) id) [
  | inl here ↦ absurd (
      let f : place_with first low (suc count) id ≡ Some low = rw here.0 refl in
      let bad : Some low ≡ None = sym f ∙ e in cc)
  | inr other ↦
      let f : place_with first low (suc count) id ≡ place_with first (low + 1) count id = rw other.0 refl in
      elim (cases_lt low place) [
        | inl later ↦ no_place_with first (low + 1) count id place (sym f ∙ e) (record {
          from_low = omega arith;
          within = omega (arith, is.within);
          identifier = is.identifier;
        })
        | inr same ↦ other.1 (
            let at : low ≡ place = omega (arith, is.from_low) in ap (identifier_at first) at ∙ is.identifier)
      ]
]

-- places counted from a lowest one have the identifiers counted from its own
counted_from : (first low k : ℕ) → IsIdentifier first → 1 ≤ low → 1 ≤ k
    → identifier_at (identifier_at first low) k ≡ identifier_at first (low + k - 1)
counted_from first low k is from one = omega (arith, is.from_one)

from_lowest : (first low count id place : ℕ) → IsIdentifier first → 1 ≤ low → IsPlaceOf first low count id place
    → IsPlaceOf (identifier_at first low) 1 count id (place + 1 - low)
from_lowest first low count id place f one is =
    let at : low + (place + 1 - low) - 1 ≡ place = omega (arith, is.from_low) in
    record {
      from_low = omega (arith, is.from_low);
      within = omega (arith, is.from_low, is.within);
      identifier = counted_from first low (place + 1 - low) f one (omega (arith, is.from_low))
          ∙ (ap (identifier_at first) at ∙ is.identifier);
    }

to_place : (first low count id k : ℕ) → IsIdentifier first → 1 ≤ low → IsPlaceOf (identifier_at first low) 1 count id k
    → IsPlaceOf first low count id (low + k - 1)
to_place first low count id k f one is = record {
  from_low = omega (arith, is.from_low);
  within = omega (arith, is.from_low, is.within);
  identifier = sym (counted_from first low k f one is.from_low) ∙ is.identifier;
}

-- the places that may be told, as an engine counts them
abbrev told_by : ℕ → ℕ → ℕ → ℕ → Option ℕ
told_by first low sent next = place_with first low (sent + 2 - low) next

told_as : (h : Hub) (first low0 sent next : ℕ) → h.first ≡ first → low0 ≡ low h → length h.sent ≡ sent
    → told_place h next ≡ told_by first low0 sent next
told_as h first low0 sent next f l s =
    ap (λ (x : ℕ). told_by x (low h) (length h.sent) next) f
    ∙ (ap (λ (x : ℕ). told_by first x (length h.sent) next) (sym l) ∙ ap (λ (x : ℕ). told_by first low0 x next) s)

pub told_none : (h : Hub) (first low0 sent next : ℕ) → h.first ≡ first → low0 ≡ low h → length h.sent ≡ sent
    → IsIdentifier first → 1 ≤ low0
    → ((k : ℕ) → IsPlaceOf (identifier_at first low0) 1 (sent + 2 - low0) next k → ⊥) → told_place h next ≡ None
told_none h first low0 sent next f l s id one none =
    told_as h first low0 sent next f l s
    ∙ place_with_none first low0 (sent + 2 - low0) next
    (λ place is. none (place + 1 - low0) (from_lowest first low0 (sent + 2 - low0) next place id one is))

pub told_some : (h : Hub) (first low0 sent next k : ℕ) → h.first ≡ first → low0 ≡ low h → length h.sent ≡ sent
    → IsIdentifier first → 1 ≤ low0 → sent + 2 - low0 < 65535
    → IsPlaceOf (identifier_at first low0) 1 (sent + 2 - low0) next k → told_place h next ≡ Some (low0 + k - 1)
told_some h first low0 sent next k f l s id one few is =
    told_as h first low0 sent next f l s
    ∙ place_with_found first low0 (sent + 2 - low0) next (low0 + k - 1) id one few
    (to_place first low0 (sent + 2 - low0) next k id one is)

pub tells : (h : Hub) (next place : ℕ) → 0 < h.status_requests → told_place h next ≡ Some place → TellsPlace h next
tells h next place round told =
    let is = place_with_is h.first (low h) (length h.sent + 2 - low h) next place told in
    record {
      under_way = round;
      place = place;
      from_low = is.from_low;
      up_to_next = omega (arith, is.from_low, is.within);
      identifier = is.identifier;
    }

pub tells_none : (h : Hub) (next : ℕ) → told_place h next ≡ None → TellsPlace h next → ⊥
tells_none h next none is =
    no_place_with h.first (low h) (length h.sent + 2 - low h) next is.place none (record {
      from_low = is.from_low;
      within = omega (arith, is.from_low, is.up_to_next);
      identifier = is.identifier;
    })

-- a status reply that tells a place recovers the open ones by it
pub told_recovers : (h : Hub) (next : ℕ) (told : TellsPlace h next) → IsIdentifier h.first
    → IsWindow h.window (length h.sent) (places h.open_places) → hear_status h next ≡ after_recovery h (Some told.place)
told_recovers h next told id is =
    let few : length h.sent + 2 - low h < 65535 = omega (arith, is.within, is.few) in
    let at : told_place h next ≡ Some told.place =
    place_with_found h.first (low h) (length h.sent + 2 - low h) next told.place id is.from_one few (record {
      from_low = told.from_low;
      within = omega (arith, told.from_low, told.up_to_next);
      identifier = told.identifier;
    }) in
    rw (lt-ltb 0 h.status_requests told.under_way) (ap (after_recovery h) at)

untold : (h : Hub) (next : ℕ) (r : Option ℕ) → told_place h next ≡ r → 0 < h.status_requests → (TellsPlace h next → ⊥)
    → after_recovery h r ≡ h
untold h next None e round none = refl
untold h next (Some place) e round none = absurd (none (tells h next place round e))

pub stray_status : (h : Hub) (next : ℕ) → (TellsPlace h next → ⊥) → hear_status h next ≡ h
stray_status h next none = either (λ (x : Hub). x ≡ h) (nat_lt 0 h.status_requests) _ _
    (λ e. untold h next (told_place h next) refl (ltb-true 0 h.status_requests e) none)
    (λ _. refl)

-- ---- nothing to send

after_none : (o : OpenPlace) (r : Option Wanted) → after_open o r ≡ None → r ≡ None
after_none o None e = refl
after_none o (Some w) e = absurd (cc)

either_way : (b : Bool) → (b ≡ true) ⊎ (b ≡ false)
either_way true = inl refl
either_way false = inr refl

quiet_here : (first : ℕ) (o : OpenPlace) (os : List OpenPlace) → first_wanted first (o ∷ os) ≡ None → IsQuiet o
quiet_here first o os e = elim (either_way o.resend) [
  | inl is ↦ absurd (let bad = sym (here_resend first o os is) ∙ e in cc)
  | inr is ↦ elim (either_way o.control) [
    | inl other ↦ absurd (let bad = sym (here_control first o os is other) ∙ e in cc)
    | inr other ↦ record { no_resend = is; no_control = other }
  ]
]

pub quiet : (first : ℕ) (os : List OpenPlace) → first_wanted first os ≡ None → AllByRecursion IsQuiet os
quiet first [] e = tt
quiet first (o ∷ os) e =
    let is = quiet_here first o os e in
    let later = sym (here_none first o os is.no_resend is.no_control) ∙ e in
    (is, quiet first os (after_none o (first_wanted first os) later))

pub quiet_none : (first : ℕ) (os : List OpenPlace) → AllByRecursion IsQuiet os → first_wanted first os ≡ None
quiet_none first [] all = refl
quiet_none first (o ∷ os) all =
    here_none first o os all.0.no_resend all.0.no_control ∙ ap (after_open o) (quiet_none first os all.1)

no_first : (h : Hub) (queue : List Offered) → IsNone (sent_next (first_send h queue)) → (queue ≡ []) ⊎ IsWindowFull h
no_first h [] none = inl refl
no_first h (x ∷ later) none = elim (cases_lt (h.window + low h) (length h.sent + 1 + 1)) [
  | inl full ↦ inr (omega arith)
  | inr room ↦ absurd (
      let e = first_of h x later room in
      let bad = ap (λ (r : Option Next). IsNone (sent_next r)) e in cc)
]

first_none : (h : Hub) (queue : List Offered) → (queue ≡ []) ⊎ IsWindowFull h → first_send h queue ≡ None
first_none h queue (inl empty) = ap (first_send h) empty
first_none h [] (inr full) = refl
first_none h (x ∷ later) (inr full) = rw (lt-leb (length h.sent + 1 + 1) (h.window + low h) (omega arith)) refl

-- where something is wanted of the open places, not all of them are quiet
pub not_quiet : (first : ℕ) (os : List OpenPlace) (s : Sending) → sending_of (first_wanted first os) ≡ Some s
    → AllByRecursion IsQuiet os → ⊥
not_quiet first os s told all =
    let none = ap sending_of (quiet_none first os all) in
    absurd (let bad : None ≡ Some s = sym none ∙ told in cc)

wanted_none_of : (r : Option Wanted) → sending_of r ≡ None → r ≡ None
wanted_none_of None e = refl
wanted_none_of (Some w) e = absurd (cc)

pub nothing_wanted : (first : ℕ) (os : List OpenPlace) → sending_of (first_wanted first os) ≡ None → first_wanted first os ≡ None
nothing_wanted first os e = wanted_none_of (first_wanted first os) e

-- after nothing else is wanted, nothing is to be sent exactly where no body may be sent first
pub nothing : (h : Hub) (r : Option Sending) → h.status_wanted ≡ false → first_wanted h.first h.open_places ≡ None
    → r ≡ sent_next (first_send h h.queue) → IsNone r ↔ HasNothingToSend h
nothing h r status told is = (
  λ none. record {
    no_status = status;
    quiet = quiet h.first h.open_places told;
    no_first = no_first h h.queue (subst IsNone is none);
  },
  λ nothing. subst IsNone (sym is) (
      subst (λ (n : Option Next). IsNone (sent_next n)) (sym (first_none h h.queue nothing.no_first)) refl),
)

-- ---- what is sent for a place is sent for an open one

wish_sendable : (h : Hub) (os : List OpenPlace) (s : Sending) → places h.open_places ≡ places os
    → IsWish h.first (places os) s → IsSendOf h s
wish_sendable h os sends.Status same wish = tt
wish_sendable h os (sends.Resend id) same wish = record {
  place = wish.place;
  open_there = ap (has wish.place) same ∙ wish.there;
  identifier = wish.identifier;
}
wish_sendable h os (sends.Control place id) same wish = ap (has place) same ∙ wish.0

pub sendable : (h : Hub) (os : List OpenPlace) (r : Option Wanted) (s : Sending) → h.open_places ≡ places_wanted os r
    → IsWantedOr h.first os r → sending_of r ≡ Some s → IsSendOf h s
sendable h os None s same is told = absurd (cc)
sendable h os (Some w) s same is told =
    let e : w.send ≡ s = cc in
    wish_sendable h os s (ap places same ∙ is.same) (subst (IsWish h.first (places os)) e is.wish)

-- the send of a hub is that of one of its open places
pub send_open : (h : Hub) (next : Next) → next_send h ≡ Some next → IsSendOf next.hub next.send
send_open h next e = subst (λ (r : Option Next). IfSome r (λ (n : Next). IsSendOf n.hub n.send)) e
    (send_cases (λ (n : Next). IsSendOf n.hub n.send) h tt
    (λ w told. sendable (record h { open_places = w.open_places }) h.open_places (Some w) w.send refl
    (subst (IsWantedOr h.first h.open_places) told (wanted_is h.first h.open_places)) refl)
    (λ x later queue room. last_open h.open_places (h.open_places ++ opened_place (length h.sent + 1) ∷ [])
    (length h.sent + 1) refl))
