-- What a record tells that a hub hands back: the entries that it came with, and behind them those of the passes that
-- were taken in.
use Rattle.std.proofs.Common.{◌≡◌, ℕ, zero, suc, ◌<◌, true, false, cond, ◌==◌, List, [], ◌∷◌, ◌++◌, length, map}
use Rattle.std.proofs.Common.{drop, refl, ap, subst, ◌∙◌, arith}
use Rattle.std.specs.List.{AllByRecursion, Contains}
use Rattle.std.proofs.Math.Seq.{drop-append_seam}
use Rattle.std.proofs.lemmas.List.{map-append}
use Rattle.ipb_base.specs.Lists.{IsPrefix}
use Rattle.ipb_base.proofs.AllLemmas.{all-map}
use Rattle.turn_pass.specs.Record.{Begins, Record, Recorded, made_by, past}
use Rattle.turn_pass.specs.Pass.{Joined, Knowledge, Stands}
use Rattle.lane_record.specs.declared.item.Item.{Item}
use Rattle.lane_record.specs.Coding.{Head, record_of, as_recorded}
use Rattle.lane_record.specs.Dispatches.{entries_by}
use Rattle.lane_record.proofs.Coding.{one_item, spelled_fronts}
use Rattle.hub_multiplexer.specs.Ends.{Ends, numbers_joined}
use Rattle.client_threads.specs.Clients.{TookIn}
use Rattle.client_history.specs.Clients.{came_with}

-- ---- entries as they are spelled

pub made_recorded : (client : ℕ) (items : List Item)
    → made_by client (map as_recorded items) ≡ map as_recorded (entries_by client items)
made_recorded client [] = refl
made_recorded client (x ∷ xs) = elim (x.client == client) as
    (λ b. cond b (as_recorded x ∷ made_by client (map as_recorded xs)) (made_by client (map as_recorded xs))
    ≡ map as_recorded (cond b (x ∷ entries_by client xs) (entries_by client xs))) [
      | true ↦ ap (λ (l : List Recorded). as_recorded x ∷ l) (made_recorded client xs)
      | false ↦ made_recorded client xs
    ]

pub one_list : (xs ys : List Item) → map as_recorded xs ≡ map as_recorded ys → xs ≡ ys
one_list [] [] e = refl
one_list [] (y ∷ ys) e = absurd cc
one_list (x ∷ xs) [] e = absurd cc
one_list (x ∷ xs) (y ∷ ys) e =
    let first : as_recorded x ≡ as_recorded y = cc in
    let later : map as_recorded xs ≡ map as_recorded ys = cc in
    ap (λ (z : Item). z ∷ xs) (one_item x y first) ∙ ap (λ (l : List Item). y ∷ l) (one_list xs ys later)

made_of_each : (P : ℕ → Type 0) (xs : List Item)
    → AllByRecursion (λ (r : Recorded). P r.entry.maker) (map as_recorded xs)
    → AllByRecursion (λ (x : Item). P x.client) xs
made_of_each P [] all = tt
made_of_each P (x ∷ xs) all = (all.0, made_of_each P xs all.1)

-- what holds of each element of a list holds of one that it contains
pub of_contained : (P : ℕ → Type 0) (xs : List ℕ) (n : ℕ) → AllByRecursion P xs → Contains xs n → P n
of_contained P [] n all (k, inside, at) = let none : k < 0 = inside in absurd (omega arith)
of_contained P (x ∷ xs) n all (zero, inside, at) = subst P at all.0
of_contained P (x ∷ xs) n all (suc k, inside, at) = of_contained P xs n all.1 (k, omega (arith, inside), at)

-- ---- the record

abbrev pub numbers_of : List Joined → List ℕ
numbers_of passes = map (λ (j : Joined). j.number) passes

-- a pass's entries are those with its number among these
abbrev pub StandsIn : List Item → Joined → Type 0
StandsIn more j = j.mine ≡ made_by j.number (map as_recorded more)

-- Behind the entries that a lane came with stand these, each of one of the passes.
pub record Handed (head head_now : Head) (items items_now more : List Item) (passes : List Joined) : Type 0 where
  pub same_head : head_now ≡ head
  pub grown : items_now ≡ items ++ more
  pub stand : AllByRecursion (StandsIn more) passes
  pub by_passes : AllByRecursion (λ (x : Item). Contains (numbers_of passes) x.client) more

past_is : (head head_now : Head) (items items_now more : List Item) → items_now ≡ items ++ more
    → past (record_of head items) (record_of head_now items_now) ≡ map as_recorded more
past_is head head_now items items_now more grown =
    ap (λ (l : List Item). drop (length (map as_recorded items)) (map as_recorded l)) grown
    ∙ (ap (drop (length (map as_recorded items))) (map-append as_recorded items more)
    ∙ drop-append_seam (map as_recorded items) (map as_recorded more))

pub handed : (head head_now : Head) (items items_now : List Item) (passes : List Joined) (after : Knowledge)
    (final : Record) → TookIn passes (came_with head items) after → Ends after final
    → final ≡ record_of head_now items_now
    → (more : List Item) × Handed head head_now items items_now more passes
handed head head_now items items_now passes after final took ends is =
    let begins : Begins (record_of head items) (record_of head_now items_now) =
    subst (Begins (record_of head items)) is
    (subst (λ (r : Record). Begins r final) took.opening ends.told.opening_begins) in
    let fronts = spelled_fronts head head_now items items_now begins in
    let more = fronts.1.0 in
    let later : past after.opening final ≡ map as_recorded more =
    (λ i. past (took.opening i) (is i)) ∙ past_is head head_now items items_now more fronts.1.1 in
    let joined : after.joined ≡ passes = took.joined' in (
      more,
      record {
        same_head = fronts.0;
        grown = fronts.1.1;
        stand = all-map (Stands after.opening final) (StandsIn more) passes
            (λ j stands. stands.mine ∙ ap (made_by j.number) later)
            (subst (AllByRecursion (Stands after.opening final)) joined ends.told.joined_stand);
        by_passes = made_of_each (Contains (numbers_of passes)) more
            (subst (λ (js : List Joined). AllByRecursion (λ (r : Recorded). Contains (numbers_of js) r.entry.maker)
            (map as_recorded more)) joined
            (subst (AllByRecursion (λ (r : Recorded). Contains (numbers_joined after) r.entry.maker)) later
            ends.only_joined));
      },
    )

pub comes_back : (head head_now : Head) (items items_now : List Item) (passes : List Joined) (after : Knowledge)
    (final : Record) → TookIn passes (came_with head items) after → Ends after final
    → final ≡ record_of head_now items_now → (head_now ≡ head) × IsPrefix items items_now
comes_back head head_now items items_now passes after final took ends is =
    let h = handed head head_now items items_now passes after final took ends is in
    (h.1.same_head, (h.0, h.1.grown))
