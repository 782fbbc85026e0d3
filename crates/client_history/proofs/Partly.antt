-- What clients left on a lane, whatever came of them.
use Rattle.std.proofs.Common.{◌≡◌, ℕ, ◌≤◌, true, false, ◌==◌, cond, List, [], ◌∷◌, ◌++◌, length, None}
use Rattle.std.proofs.Common.{refl, sym, subst, ◌∙◌, arith, append_assoc, append-nil}
use Rattle.std.specs.List.{AllByRecursion, Contains}
use Rattle.std.proofs.lemmas.Bool.{eq-eqb}
use Rattle.std.proofs.lemmas.List.Elements.{Contains-append_left}
use Rattle.turn_pass.specs.Record.{Record}
use Rattle.turn_pass.specs.Pass.{Joined, Knowledge}
use Rattle.lane_record.specs.declared.item.Item.{Item}
use Rattle.lane_record.specs.Coding.{Head, record_of}
use Rattle.lane_record.specs.Dispatches.{entries_by}
use Rattle.lane_record.specs.Items.{plan_in}
use Rattle.hub_multiplexer.specs.Ends.{Ends}
use Rattle.client_threads.specs.declared.plan.ClientPlan.{ClientPlan}
use Rattle.client_threads.specs.Clients.{AreOfClientsFrom, HasNoPlan, HaveGoneOn}
use Rattle.board_history.specs.Records.{IsPartlyPlanned}
use Rattle.client_history.specs.Clients.{came_with}
use Rattle.client_history.proofs.Handed.{StandsIn, handed, made_recorded, numbers_of, of_contained, one_list}
use Rattle.client_history.proofs.Did.{one_of_clients}

abbrev IsNoPlan : Item → Type 0
IsNoPlan x = plan_in x.what ≡ None

-- a client's entries plan nothing
abbrev HasPlannedNone : List Item → ℕ → Type 0
HasPlannedNone more n = AllByRecursion IsNoPlan (entries_by n more)

none_planned : (more : List Item) (passes : List Joined) → AllByRecursion (StandsIn more) passes
    → AllByRecursion HasNoPlan passes → AllByRecursion (HasPlannedNone more) (numbers_of passes)
none_planned more [] stand none = tt
none_planned more (j ∷ js) stand none =
    let one = none.0 in
    let own : entries_by j.number more ≡ one.items = one_list (entries_by j.number more) one.items
    (sym (made_recorded j.number more) ∙ (sym stand.0 ∙ one.coded)) in
    (subst (AllByRecursion IsNoPlan) (sym own) one.none, none_planned more js stand.1 none.1)

-- what holds of the entries of each client holds of each entry
each_entry : (P : Item → Type 0) (good : ℕ → Type 0) (xs : List Item)
    → ((n : ℕ) → good n → AllByRecursion P (entries_by n xs)) → AllByRecursion (λ (x : Item). good x.client) xs
    → AllByRecursion P xs
each_entry P good [] own all = tt
each_entry P good (x ∷ xs) own all =
    let mine : (x.client == x.client) ≡ true = eq-eqb x.client x.client refl in
    let first : AllByRecursion P (x ∷ entries_by x.client xs) =
    subst (λ b. AllByRecursion P (cond b (x ∷ entries_by x.client xs) (entries_by x.client xs))) mine
    (own x.client all.0) in
    (first.0, each_entry P good xs (λ n is. rest_of P x xs n (own n is)) all.1)
  where
    rest_of : (P : Item → Type 0) (x : Item) (xs : List Item) (n : ℕ) → AllByRecursion P (entries_by n (x ∷ xs))
        → AllByRecursion P (entries_by n xs)
    rest_of P x xs n = elim (x.client == n) as
        (λ b. AllByRecursion P (cond b (x ∷ entries_by n xs) (entries_by n xs)) → AllByRecursion P (entries_by n xs)) [
          | true ↦ λ all. all.1
          | false ↦ λ all. all
        ]

abbrev pub MoreLaw : Type 0
MoreLaw = (bodies : List (List (List ℕ))) (items : List Item) (x : Item) → plan_in x.what ≡ None
    → x.client ≤ length bodies → IsPartlyPlanned bodies items → IsPartlyPlanned bodies (items ++ x ∷ [])

all_more : MoreLaw → (bodies : List (List (List ℕ))) (items more : List Item) → AllByRecursion IsNoPlan more
    → AllByRecursion (λ (x : Item). x.client ≤ length bodies) more → IsPartlyPlanned bodies items
    → IsPartlyPlanned bodies (items ++ more)
all_more law bodies items [] none within is = subst (IsPartlyPlanned bodies) (sym (append-nil items)) is
all_more law bodies items (x ∷ more) none within is = subst (IsPartlyPlanned bodies) (append_assoc items (x ∷ []) more)
    (all_more law bodies (items ++ x ∷ []) more none.1 within.1 (law bodies items x none.0 within.0 is))

pub partly_planned : MoreLaw → (plans : List ClientPlan) (seats : ℕ) (bodies : List (List (List ℕ)))
    (head head_now : Head) (items items_now : List Item) (after : Knowledge) (final : Record)
    → AreOfClientsFrom 1 plans → length plans ≡ length bodies → IsPartlyPlanned bodies items
    → HaveGoneOn plans seats (came_with head items) after → Ends after final → final ≡ record_of head_now items_now
    → IsPartlyPlanned bodies items_now
partly_planned law plans seats bodies head head_now items items_now after final are many some gone ends is =
    let back = handed head head_now items items_now gone.passes after final gone.took_in ends is in
    let more = back.0 in
    let h = back.1 in
    let rest = gone.clients.0 in
    let none = none_planned more gone.passes h.stand gone.no_plan in
    let good : ℕ → Type 0 = Contains (numbers_of gone.passes) in
    let no_plans : AllByRecursion IsNoPlan more = each_entry IsNoPlan good more
    (λ n there. of_contained (HasPlannedNone more) (numbers_of gone.passes) n none there) h.by_passes in
    let within : (n : ℕ) → good n → n ≤ length bodies = λ n there.
    let from = one_of_clients plans n are (subst (λ (ns : List ℕ). Contains ns n) (sym gone.clients.1)
    (Contains-append_left (numbers_of gone.passes) rest n there)) in
    omega (arith, from.high, many) in
    subst (IsPartlyPlanned bodies) (sym h.grown) (all_more law bodies items more no_plans
    (all_of bodies good more within h.by_passes) some)
  where
    all_of : (bodies : List (List (List ℕ))) (good : ℕ → Type 0) (more : List Item)
        → ((n : ℕ) → good n → n ≤ length bodies) → AllByRecursion (λ (x : Item). good x.client) more
        → AllByRecursion (λ (x : Item). x.client ≤ length bodies) more
    all_of bodies good [] within all = tt
    all_of bodies good (x ∷ more) within all = (within x.client all.0, all_of bodies good more within all.1)
