-- The entries of one client in a record.
use Rattle.std.proofs.Common.{◌≡◌, ℕ, ◌≤◌, Bool, false, cond, ◌==◌, ◌&&◌, List, [], ◌∷◌, ◌++◌}
use Rattle.std.proofs.Common.{Option, Some, None, refl, ap, arith, if◌then◌else◌}
use Rattle.std.specs.Prelude.{is_some}
use Rattle.std.specs.List.{AllByRecursion}
use Rattle.std.specs.Option.{option_or}
use Rattle.std.proofs.lemmas.Bool.{eqb-true, eq-eqb}
use Rattle.std.proofs.lemmas.List.Elements.{filter-append}
use Rattle.world_model.proofs.Lists.{either}
use Rattle.lane_record.specs.declared.item.Item.{Item}
use Rattle.lane_record.specs.declared.item.What.{What}
use Rattle.lane_record.specs.Lists.{NeverFalls}
use Rattle.lane_record.specs.Items.{numbers, told_by_first, is_of, give_ups, give_ups_in, and_number}
use Rattle.lane_record.specs.Dispatches.{entries_by}

abbrev pub is_by : ℕ → Item → Bool
is_by client x = x.client == client

pub by_append : (client : ℕ) (xs ys : List Item)
    → entries_by client (xs ++ ys) ≡ entries_by client xs ++ entries_by client ys
by_append client xs ys = filter-append (is_by client) xs ys

-- all of them are the client's
abbrev pub IsBy : ℕ → Item → Type 0
IsBy client x = x.client ≡ client

pub all_by : (client : ℕ) (xs : List Item) → AllByRecursion (IsBy client) (entries_by client xs)
all_by client [] = tt
all_by client (x ∷ xs) = either (AllByRecursion (IsBy client)) (x.client == client) (x ∷ entries_by client xs)
    (entries_by client xs) (λ e. (eqb-true x.client client e, all_by client xs)) (λ _. all_by client xs)

-- where all are of other clients there are none
pub none_by : (client : ℕ) (xs : List Item) → AllByRecursion (λ (x : Item). (x.client == client) ≡ false) xs
    → entries_by client xs ≡ []
none_by client [] all = refl
none_by client (x ∷ xs) all = rw all.0 (none_by client xs all.1)

-- where all are the client's there are no others
pub only_by : (client : ℕ) (xs : List Item) → AllByRecursion (IsBy client) xs → entries_by client xs ≡ xs
only_by client [] all = refl
only_by client (x ∷ xs) all =
    rw (eq-eqb x.client client all.0) (ap (λ (ys : List Item). x ∷ ys) (only_by client xs all.1))

-- ---- look-ups see the client's entries alone

pub own_found : {A : Type 0} (kind : What → Option A) (client seq : ℕ) (xs : List Item)
    → told_by_first kind client seq xs ≡ told_by_first kind client seq (entries_by client xs)
own_found kind client seq [] = refl
own_found kind client seq (x ∷ xs) = either
    (λ (r : List Item). told_by_first kind client seq (x ∷ xs) ≡ told_by_first kind client seq r) (x.client == client)
    (x ∷ entries_by client xs) (entries_by client xs)
    (λ _. ap (option_or (if is_of client seq x then kind x.what else None)) (own_found kind client seq xs))
    (λ e. rw e (own_found kind client seq xs))

pub own_numbers : {A : Type 0} (kind : What → Option A) (client : ℕ) (xs : List Item)
    → numbers kind client xs ≡ numbers kind client (entries_by client xs)
own_numbers kind client [] = refl
own_numbers kind client (x ∷ xs) = either
    (λ (r : List Item). numbers kind client (x ∷ xs) ≡ numbers kind client r) (x.client == client)
    (x ∷ entries_by client xs) (entries_by client xs)
    (λ _. ap (λ (ns : List ℕ). cond ((x.client == client) && is_some (kind x.what)) (x.seq ∷ ns) ns)
    (own_numbers kind client xs))
    (λ e. rw e (own_numbers kind client xs))

-- ---- numbers that never fall, and end within

-- none is less than the one before, the first is at least `from` and `to` is at least the last
abbrev pub Climbs : ℕ → ℕ → List ℕ → Type 0
Climbs from to [] = from ≤ to
Climbs from to (n ∷ ns) = (from ≤ n) × Climbs n to ns

pub climbs_of : (from to : ℕ) (ns : List ℕ) → from ≤ to → NeverFalls from ns → AllByRecursion (λ (n : ℕ). n ≤ to) ns
    → Climbs from to ns
climbs_of from to [] le falls within = le
climbs_of from to (n ∷ ns) le falls within = (falls.0, climbs_of n to ns within.0 falls.1 within.1)

pub climbs_lower : (a b to : ℕ) (ns : List ℕ) → a ≤ b → Climbs b to ns → Climbs a to ns
climbs_lower a b to [] h c = omega (arith, c)
climbs_lower a b to (n ∷ ns) h c = (omega (arith, c.0), c.1)

climbs_over : (from to : ℕ) (o : Option ℕ) (ns ms : List ℕ) → Climbs from to (and_number o ns)
    → ((k : ℕ) → Climbs k to ns → Climbs k to ms) → Climbs from to (and_number o ms)
climbs_over from to None ns ms c f = f from c
climbs_over from to (Some n) ns ms c f = (c.0, f n c.1)

climbs_past : (from to : ℕ) (o : Option ℕ) (ns ms : List ℕ) → Climbs from to (and_number o ns)
    → ((k : ℕ) → Climbs k to ns → Climbs k to ms) → Climbs from to ms
climbs_past from to None ns ms c f = f from c
climbs_past from to (Some n) ns ms c f = climbs_lower from n to ms c.0 (f n c.1)

pub own_climbs : (client from to : ℕ) (xs : List Item) → Climbs from to (give_ups xs)
    → Climbs from to (give_ups (entries_by client xs))
own_climbs client from to [] c = c
own_climbs client from to (x ∷ xs) c = either (λ (r : List Item). Climbs from to (give_ups r)) (x.client == client)
    (x ∷ entries_by client xs) (entries_by client xs)
    (λ _. climbs_over from to (give_ups_in x.what) (give_ups xs) (give_ups (entries_by client xs)) c
    (λ k d. own_climbs client k to xs d))
    (λ _. climbs_past from to (give_ups_in x.what) (give_ups xs) (give_ups (entries_by client xs)) c
    (λ k d. own_climbs client k to xs d))
