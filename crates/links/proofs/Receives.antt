-- Receives, step by step.
use Rattle.std.proofs.Common.{◌⊎◌}
use Rattle.std.proofs.Common.{◌≡◌, inl, inr, ℕ, ◌+◌, ◌<◌, ◌≤◌, Bool, true, false, cond, List, []}
use Rattle.std.proofs.Common.{◌∷◌, ◌++◌, length, Option, Some, None, refl, sym, ap, ◌∙◌, subst, arith}
use Rattle.std.proofs.Common.{length-append}
use Rattle.std.specs.List.{Contains, slice_get}
use Rattle.std.proofs.lemmas.List.{append-nil}
use Rattle.std.proofs.lemmas.List.Elements.{Contains-append_cases, Contains-push_cases}
use Rattle.std.proofs.lemmas.List.Elements.{Contains-append_left, Contains-append_right, Contains-push}
use Rattle.std.proofs.lemmas.Bool.{cases_lt}
use Rattle.ipb_base.specs.Faults.{Rose}
use Rattle.world_model.specs.declared.datagram.Datagram.{Datagram}
use Rattle.world_model.specs.declared.datagram.Direction.TheVariants.{ToBoard}
use Rattle.world_model.specs.Board.{hear}
use Rattle.world_model.specs.Air.{goes_to, is_alive}
use Rattle.world_model.specs.World.{air_after_answer}
use Rattle.world_model.specs.Links.{IsHandedAt, IsHeard, Told, first_sends, heard_by, heard_on, hears_all}
use Rattle.world_model.specs.Links.{then_told}
use Rattle.links.specs.Telling.{IsGot, IsReceived, IsSettled, KeepsBut, Telling}

-- ---- lists of places

no_item : (x : ℕ) → Contains {X = ℕ} [] x → ⊥
no_item x is = omega (arith, is.1)

-- ---- nothing

pub nothing_received : (held : ℕ) (telling : Telling) → IsReceived [] held held telling telling
nothing_received held telling = record {
  by_board = record { places = []; heard = refl };
  handed = sym (append-nil telling.handed);
  stays = λ place is. inl is;
  joins = λ place from below. absurd (omega arith);
}

-- ---- one datagram

-- the board hears one: at most one answer joins the air
one_answer : (birth : ℕ) (r : Option (List ℕ)) → length (air_after_answer birth r) ≤ 1
one_answer birth None = omega arith
one_answer birth (Some bytes) = omega arith

abbrev pub GrowsByOne : Told → Option Told → Type 0
GrowsByOne told None = Unit {0}
GrowsByOne told (Some new) = length new.air ≤ length told.air + 1

if_grows : (told new : Told) (b : Bool) (r : Option Told) → GrowsByOne told r → GrowsByOne told (cond b r None)
if_grows told new true r is = is
if_grows told new false r is = tt

heard_grows : (told : Told) (r : Option Datagram) → GrowsByOne told (heard_by told r)
heard_grows told None = tt
heard_grows told (Some d) = if_grows told told (goes_to ToBoard d.direction) _
    (if_grows told told (is_alive (first_sends told) d) (Some (heard_on told d.bytes))
    (let more = air_after_answer (first_sends told) (hear told.board d.bytes).answer in
    let total = length-append told.air more in
    omega (arith, total, one_answer (first_sends told) (hear told.board d.bytes).answer)))

pub heard_received : (held place : ℕ) (old new : Telling)
    → heard_by old.told (slice_get old.told.air place) ≡ Some new.told → new.handed ≡ old.handed
    → KeepsBut place old.due new.due
    → (length old.told.air < length new.told.air → Contains new.due (length old.told.air))
    → IsReceived [] held held old new
heard_received held place old new heard handed keeps joins = record {
  by_board = record {
    places = place ∷ [];
    heard = ap (λ (r : Option Told). then_told r (λ after. Some after)) heard;
  };
  handed = handed ∙ sym (append-nil old.handed);
  stays = λ other is. elim (keeps other is) [
    | inl same ↦ inr (inl (subst (Contains (place ∷ [])) same (Contains-push [] place)))
    | inr kept ↦ inl kept
  ];
  joins = λ other from below.
      let grows : length new.told.air ≤ length old.told.air + 1 = subst (GrowsByOne old.told) heard
      (heard_grows old.told (slice_get old.told.air place)) in
      let same : length old.told.air ≡ other = omega arith in
      inl (subst (Contains new.due) same (joins (omega arith)));
}

-- one is given up
pub given_up_received : (before now place : ℕ) (old new : Telling) → new.told ≡ old.told → new.handed ≡ old.handed
    → KeepsBut place old.due new.due → Rose before now → IsReceived [] before now old new
given_up_received before now place old new told handed keeps rose = record {
  by_board = record { places = []; heard = ap (λ (t : Told). Some t) (sym told) };
  handed = handed ∙ sym (append-nil old.handed);
  stays = λ other is. inr (inr (inr rose));
  joins = λ other from below. inr (inr (inr rose));
}

-- one is handed out
out_received : (held place : ℕ) (old new : Telling) → new.told ≡ old.told → new.handed ≡ old.handed ++ place ∷ []
    → KeepsBut place old.due new.due → IsReceived (place ∷ []) held held old new
out_received held place old new told handed keeps = record {
  by_board = record { places = []; heard = ap (λ (t : Told). Some t) (sym told) };
  handed = handed;
  stays = λ other is. elim (keeps other is) [
    | inl same ↦ inr (inr (inl (subst (Contains (place ∷ [])) same (Contains-push [] place))))
    | inr kept ↦ inl kept
  ];
  joins = λ other from below. absurd (let length_is = ap (λ (t : Told). length t.air) told in omega arith);
}

pub handed_out_received : (held place : ℕ) (bytes : List ℕ) (old new : Telling) → new.told ≡ old.told
    → new.handed ≡ old.handed ++ place ∷ [] → KeepsBut place old.due new.due → IsHandedAt new.told bytes place
    → IsGot bytes held held old new
handed_out_received held place bytes old new told handed keeps there =
    record { place = place; there = there; received = out_received held place old new told handed keeps }

-- ---- one step after another

then_of : (r : Option Told) (one two : Told → Option Told) (f : Told → Option Told)
    → ((t : Told) → two t ≡ then_told (one t) f) → then_told r two ≡ then_told (then_told r one) f
then_of None one two f same = refl
then_of (Some t) one two f same = same t

hears_append : (told : Told) (front back : List ℕ)
    → hears_all told (front ++ back) ≡ then_told (hears_all told front) (λ after. hears_all after back)
hears_append told [] back = refl
hears_append told (place ∷ front) back = then_of (heard_by told (slice_get told.air place))
    (λ after. hears_all after front) (λ after. hears_all after (front ++ back)) (λ after. hears_all after back)
    (λ after. hears_append after front back)

heard_then : (old between new : Told) → (one : IsHeard old between) → (two : IsHeard between new)
    → hears_all old (one.places ++ two.places) ≡ Some new
heard_then old between new one two = hears_append old one.places two.places
    ∙ (ap (λ (r : Option Told). then_told r (λ after. hears_all after two.places)) one.heard ∙ two.heard)

rose_first : (first mid last : ℕ) → Rose first mid → mid ≤ last → Rose first last
rose_first first mid last rose later = omega (arith, rose, later)

rose_last : (first mid last : ℕ) → first ≤ mid → Rose mid last → Rose first last
rose_last first mid last earlier rose = omega (arith, rose, earlier)

-- what is settled after the second step is settled after both
settled_then : (front back by_hub : List ℕ) (first mid last : ℕ) (new : Telling) (place : ℕ) → first ≤ mid
    → IsSettled back by_hub mid last new place → IsSettled (front ++ back) by_hub first last new place
settled_then front back by_hub first mid last new place earlier (inl due) = inl due
settled_then front back by_hub first mid last new place earlier (inr (inl heard)) =
    inr (inl (Contains-append_right front back place heard))
settled_then front back by_hub first mid last new place earlier (inr (inr (inl handed))) = inr (inr (inl handed))
settled_then front back by_hub first mid last new place earlier (inr (inr (inr rose))) =
    inr (inr (inr (rose_last first mid last earlier rose)))

-- and so is what is settled after the first
settled_on : (front back by_hub : List ℕ) (first mid last : ℕ) (between new : Telling) (place : ℕ) → first ≤ mid
    → mid ≤ last → ((other : ℕ) → Contains between.due other → IsSettled back by_hub mid last new other)
    → IsSettled front [] first mid between place → IsSettled (front ++ back) by_hub first last new place
settled_on front back by_hub first mid last between new place earlier later goes (inl due) =
    settled_then front back by_hub first mid last new place earlier (goes place due)
settled_on front back by_hub first mid last between new place earlier later goes (inr (inl heard)) =
    inr (inl (Contains-append_left front back place heard))
settled_on front back by_hub first mid last between new place earlier later goes (inr (inr (inl handed))) =
    absurd (no_item place handed)
settled_on front back by_hub first mid last between new place earlier later goes (inr (inr (inr rose))) =
    inr (inr (inr (rose_first first mid last rose later)))

pub received_then : (by_hub : List ℕ) (first mid last : ℕ) (old between new : Telling) → first ≤ mid → mid ≤ last
    → IsReceived [] first mid old between → IsReceived by_hub mid last between new
    → IsReceived by_hub first last old new
received_then by_hub first mid last old between new earlier later one two =
    let front = one.by_board.places in
    let back = two.by_board.places in
    let on = settled_on front back by_hub first mid last between new in
    record {
      by_board = record {
        places = front ++ back;
        heard = heard_then old.told between.told new.told one.by_board two.by_board;
      };
      handed = two.handed ∙ ap (λ (xs : List ℕ). xs ++ by_hub) (one.handed ∙ append-nil old.handed);
      stays = λ place is. on place earlier later two.stays (one.stays place is);
      joins = λ place from below. elim (cases_lt place (length between.told.air)) [
        | inl within ↦ on place earlier later two.stays (one.joins place from within)
        | inr past ↦ settled_then front back by_hub first mid last new place earlier (two.joins place past below)
      ];
    }

-- ---- what a link in memory tells

abbrev pub telling_with : Told → List ℕ → List ℕ → Telling
telling_with told due handed = record { told = told; due = due; handed = handed }

one_item : (place other : ℕ) → Contains (place ∷ []) other → place ≡ other
one_item place other is = elim (Contains-push_cases [] place other is) [
  | inl none ↦ absurd (no_item other none)
  | inr same ↦ same
]

-- one place more in front
front_cases : (place : ℕ) (places : List ℕ) (other : ℕ) → Contains (place ∷ places) other
    → (place ≡ other) ⊎ Contains places other
front_cases place places other is = elim (Contains-append_cases (place ∷ []) places other is) [
  | inl here ↦ inl (one_item place other here)
  | inr later ↦ inr later
]

-- what stands in two lists stands there when the second one grows
still_there : (front back more : List ℕ) (other : ℕ) → Contains (front ++ back) other
    → Contains (front ++ (back ++ more)) other
still_there front back more other is = elim (Contains-append_cases front back other is) [
  | inl here ↦ Contains-append_left front (back ++ more) other here
  | inr later ↦ Contains-append_right front (back ++ more) other (Contains-append_left back more other later)
]

-- the board heard all, and then some were given up
pub all_heard : (first mid last : ℕ) (old : Telling) (air : Told) (to_board to_hub fewer handed : List ℕ)
    → first ≤ mid → mid ≤ last → to_board ≡ []
    → IsReceived [] first mid old (telling_with air (to_board ++ to_hub) handed)
    → IsReceived [] mid last (telling_with air to_hub handed) (telling_with air fewer handed)
    → IsReceived [] first last old (telling_with air (to_board ++ fewer) handed)
all_heard first mid last old air to_board to_hub fewer handed earlier later none one two =
    let here = subst (λ (xs : List ℕ). IsReceived [] first mid old (telling_with air (xs ++ to_hub) handed)) none one in
    subst (λ (xs : List ℕ). IsReceived [] first last old (telling_with air (xs ++ fewer) handed)) (sym none)
    (received_then [] first mid last old (telling_with air to_hub handed) (telling_with air fewer handed) earlier later
    here two)
