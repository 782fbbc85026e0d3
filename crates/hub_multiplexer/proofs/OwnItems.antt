-- The entries of a pass's client in a record that it was told of.
use Rattle.std.proofs.Common.{◌≡◌, ℕ, ◌<◌, eqb, Bool, true, false, cond, List, [], ◌∷◌, ◌++◌, map, length, drop, Option}
use Rattle.std.proofs.Common.{Some, None, is_some, if◌then◌else◌, ◌==◌, ◌&&◌, refl, sym, ap, subst, ◌∙◌}
use Rattle.std.specs.List.{filter_map}
use Rattle.std.specs.Option.{option_or}
use Rattle.std.proofs.Math.Seq.{drop-append_seam}
use Rattle.std.proofs.lemmas.List.Elements.{filter-append}
use Rattle.turn_pass.specs.Record.{Record, Recorded, made_by, past}
use Rattle.turn_pass.specs.Pass.{Knowledge, Told}
use Rattle.lane_record.specs.declared.item.Item.{Item}
use Rattle.lane_record.specs.declared.item.What.{What}
use Rattle.lane_record.specs.Coding.{Head, item_from, record_of, as_recorded}
use Rattle.lane_record.specs.Items.{ask_in, asked_count, told_by_first, numbers, plan_in, planned_count, took_in}
use Rattle.hub_multiplexer.specs.OwnItems.{of_client, own_items}
use Rattle.lane_tables.specs.Taken.{HasTakenAll, IsOldest}

-- every entry can be read back
abbrev pub CanBeRead : Type 0
CanBeRead = (item : Item) → item_from (as_recorded item) ≡ Some item

made_items : CanBeRead → (n : ℕ) (items : List Item)
    → filter_map item_from (made_by n (map as_recorded items)) ≡ of_client n items
made_items read n [] = refl
made_items read n (x ∷ xs) = cases (eqb x.client n) (made_items read n xs)
  where
    cases : (b : Bool) → filter_map item_from (made_by n (map as_recorded xs)) ≡ of_client n xs
        → filter_map item_from (cond b (as_recorded x ∷ made_by n (map as_recorded xs)) (made_by n (map as_recorded xs))) ≡ cond
        b (x ∷ of_client n xs) (of_client n xs)
    cases true e = rw (read x) (ap (λ l. x ∷ l) e)
    cases false e = e

-- all entries of the maker are those of the opening and those past it
all_made : (k : Knowledge) (r : Record) → Told k r
    → made_by k.number k.opening.entries ++ k.mine ≡ made_by k.number r.entries
all_made k r told =
    let rest = told.opening_begins.entries in
    let later : past k.opening r ≡ rest.0 = ap (drop (length k.opening.entries)) rest.1
    ∙ drop-append_seam k.opening.entries rest.0 in
    ap (λ l. made_by k.number k.opening.entries ++ l) (told.own ∙ ap (made_by k.number) later)
    ∙ sym (ap (made_by k.number) rest.1 ∙ filter-append (λ (x : Recorded). eqb x.entry.maker k.number) k.opening.entries
    rest.0)

pub own_are : CanBeRead → (k : Knowledge) (head : Head) (items : List Item) (r : Record) → r ≡ record_of head items
    → Told k r → own_items k ≡ of_client k.number items
own_are read k head items r is told =
    ap (filter_map item_from) (all_made k r told ∙ ap (λ (z : Record). made_by k.number z.entries) is)
    ∙ made_items read k.number items

-- a client's entries tell its numbers and what it took
pub numbers_own : {A : Type 0} (kind : What → Option A) (client : ℕ) (items : List Item)
    → numbers kind client (of_client client items) ≡ numbers kind client items
numbers_own kind client [] = refl
numbers_own kind client (x ∷ xs) = cases (x.client == client) refl (numbers_own kind client xs)
  where
    cases : (b : Bool) → (x.client == client) ≡ b → numbers kind client (of_client client xs) ≡ numbers kind client xs
        → numbers kind client (cond b (x ∷ of_client client xs) (of_client client xs)) ≡
        (if b && is_some (kind x.what) then x.seq ∷ numbers kind client xs else numbers kind client xs)
    cases true e rest = λ i. if e i && is_some (kind x.what) then x.seq ∷ rest i else rest i
    cases false e rest = rest

pub found_own : {A : Type 0} (kind : What → Option A) (client seq : ℕ) (items : List Item)
    → told_by_first kind client seq (of_client client items) ≡ told_by_first kind client seq items
found_own kind client seq [] = refl
found_own kind client seq (x ∷ xs) = cases (x.client == client) refl (found_own kind client seq xs)
  where
    cases : (b : Bool) → (x.client == client) ≡ b
        → told_by_first kind client seq (of_client client xs) ≡ told_by_first kind client seq xs
        → told_by_first kind client seq (cond b (x ∷ of_client client xs) (of_client client xs)) ≡ option_or
        (if b && (x.seq == seq) then kind x.what else None) (told_by_first kind client seq xs)
    cases true e rest = λ i. option_or (if e i && (x.seq == seq) then kind x.what else None) (rest i)
    cases false e rest = rest

pub planned_own : (client : ℕ) (items : List Item) → planned_count client (of_client client items) ≡ planned_count client items
planned_own client items = ap length (numbers_own plan_in client items)

pub asked_own : (client : ℕ) (items : List Item) → asked_count client (of_client client items) ≡ asked_count client items
asked_own client items = ap length (numbers_own ask_in client items)

pub oldest_own : (client seq : ℕ) (items : List Item) → IsOldest items client seq
    → IsOldest (of_client client items) client seq
oldest_own client seq items o = record {
  is_asked = subst (λ n. seq < n) (sym (asked_own client items)) o.is_asked;
  untaken = found_own took_in client seq items ∙ o.untaken;
  before = λ n low. ap is_some (found_own took_in client n items) ∙ o.before n low;
}

pub taken_own : (client : ℕ) (items : List Item) → HasTakenAll items client
    → HasTakenAll (of_client client items) client
taken_own client items all n low = ap is_some (found_own took_in client n items)
    ∙ all n (subst (λ m. n < m) (asked_own client items) low)
