-- What connections plan on a lane is among what they submit.
use Rattle.std.proofs.Common.{◌≡◌, ℕ, zero, suc, ◌+◌, ◌≤◌, ◌<◌, ◌==◌, ◌||◌, true, false, cond, List, [], ◌∷◌, ◌++◌}
use Rattle.std.proofs.Common.{length, map, refl, sym, ap, subst, ◌∙◌, arith}
use Rattle.std.specs.Prelude.{sum_by}
use Rattle.std.proofs.lemmas.List.Sums.{sum_by-cons}
use Rattle.std.specs.List.{AllByRecursion, Contains}
use Rattle.std.proofs.lemmas.Bool.{eq-eqb}
use Rattle.ipb_base.specs.Lists.{IsPrefix}
use Rattle.turn_pass.specs.Record.{Record}
use Rattle.turn_pass.specs.Pass.{Joined, Knowledge}
use Rattle.transaction_codec.specs.Answer.{reply_room}
use Rattle.lane_record.specs.declared.item.Item.{Item}
use Rattle.lane_record.specs.declared.item.What.TheVariants.{Plan, Seal, Ask, Took}
use Rattle.lane_record.specs.Items.{is_seal, is_sealed, plan_in}
use Rattle.lane_record.specs.Coding.{Head, record_of}
use Rattle.lane_record.specs.Dispatches.{Action, Asked, NumberedAction, Planned, Sealed, Taken, action_of}
use Rattle.lane_record.specs.Dispatches.{entries_by, numbered_action}
use Rattle.lane_record.specs.Submissions.{Submission, submissions_from}
use Rattle.lane_tables.specs.Planned.{one_with, planned_bodies, planned_words, words_with}
use Rattle.hub_multiplexer.specs.Ends.{Ends}
use Rattle.client_history.specs.Clients.{came_with}
use Rattle.client_history.proofs.Handed.{StandsIn, handed, numbers_of}
use Rattle.client_history.specs.Connections.{AllSubmitted, WereServedOn}
use Rattle.client_history.specs.Planned.{IsAmongSubmitted, words_in}
use Rattle.client_history.proofs.Leaving.{own_entries}

-- ---- what is counted of an entry

abbrev pub a_body : Action → ℕ
a_body (Planned body) = 1
a_body Sealed = 0
a_body Asked = 0
a_body (Taken outcome) = 0

abbrev pub its_words : Action → ℕ
its_words (Planned body) = length body + reply_room body
its_words Sealed = 0
its_words Asked = 0
its_words (Taken outcome) = 0

abbrev pub a_seal : Action → ℕ
a_seal (Planned body) = 0
a_seal Sealed = 1
a_seal Asked = 0
a_seal (Taken outcome) = 0

-- ---- all entries

abbrev pub total : (Action → ℕ) → List Item → ℕ
total g [] = 0
total g (x ∷ xs) = g (action_of x.what) + total g xs

abbrev pub total_said : (Action → ℕ) → List NumberedAction → ℕ
total_said g [] = 0
total_said g (a ∷ as') = g a.action + total_said g as'

pub said : (g : Action → ℕ) (xs : List Item) → total g xs ≡ total_said g (map numbered_action xs)
said g [] = refl
said g (x ∷ xs) = ap (λ n. g (action_of x.what) + n) (said g xs)

pub front_total : (g : Action → ℕ) (front rest : List Item) → total g front ≤ total g (front ++ rest)
front_total g [] rest = omega arith
front_total g (x ∷ front) rest = let later = front_total g front rest in omega (arith, later)

pub bodies_total : (xs : List Item) → planned_bodies xs ≡ total a_body xs
bodies_total [] = refl
bodies_total (x ∷ xs) = elim x.what as
    (λ w. one_with (plan_in w) (planned_bodies xs) ≡ a_body (action_of w) + total a_body xs) [
      | Plan body ↦ ap (λ n. 1 + n) (bodies_total xs)
      | Seal ↦ (let h = bodies_total xs in omega (arith, h))
      | Ask n ↦ (let h = bodies_total xs in omega (arith, h))
      | Took o n ↦ (let h = bodies_total xs in omega (arith, h))
    ]

pub words_total : (xs : List Item) → planned_words xs ≡ total its_words xs
words_total [] = refl
words_total (x ∷ xs) = elim x.what as
    (λ w. words_with (plan_in w) (planned_words xs) ≡ its_words (action_of w) + total its_words xs) [
      | Plan body ↦ ap (λ n. length body + reply_room body + n) (words_total xs)
      | Seal ↦ (let h = words_total xs in omega (arith, h))
      | Ask n ↦ (let h = words_total xs in omega (arith, h))
      | Took o n ↦ (let h = words_total xs in omega (arith, h))
    ]

pub none_sealed : (xs : List Item) → total a_seal xs ≤ 0 → is_sealed xs ≡ false
none_sealed [] le = refl
none_sealed (x ∷ xs) le = elim x.what as
    (λ w. a_seal (action_of w) + total a_seal xs ≤ 0 → (is_seal w || is_sealed xs) ≡ false) [
      | Plan body ↦ λ low. none_sealed xs (omega (arith, low))
      | Seal ↦ λ low. absurd (omega (arith, low))
      | Ask n ↦ λ low. none_sealed xs (omega (arith, low))
      | Took o n ↦ λ low. none_sealed xs (omega (arith, low))
    ] le

-- ---- the entries of each pass

abbrev pub of_passes : (Action → ℕ) → List Joined → List Item → ℕ
of_passes g [] items = 0
of_passes g (j ∷ js) items = total g (entries_by j.number items) + of_passes g js items

pub by_one : (g : Action → ℕ) (n : ℕ) (x : Item) (xs : List Item)
    → total g (entries_by n xs) ≤ total g (entries_by n (x ∷ xs))
by_one g n x xs = elim (x.client == n) as
    (λ b. total g (entries_by n xs) ≤ total g (cond b (x ∷ entries_by n xs) (entries_by n xs))) [
      | true ↦ omega arith
      | false ↦ omega arith
    ]

by_all : (g : Action → ℕ) (js : List Joined) (x : Item) (xs : List Item)
    → of_passes g js xs ≤ of_passes g js (x ∷ xs)
by_all g [] x xs = omega arith
by_all g (j ∷ js) x xs =
    let one = by_one g j.number x xs in let later = by_all g js x xs in omega (arith, one, later)

by_its_own : (g : Action → ℕ) (n : ℕ) (x : Item) (xs : List Item) → n ≡ x.client
    → total g (entries_by n (x ∷ xs)) ≡ g (action_of x.what) + total g (entries_by n xs)
by_its_own g n x xs is = ap (λ b. total g (cond b (x ∷ entries_by n xs) (entries_by n xs))) (eq-eqb x.client n (sym is))

by_some : (g : Action → ℕ) (js : List Joined) (x : Item) (xs : List Item) → Contains (numbers_of js) x.client
    → g (action_of x.what) + of_passes g js xs ≤ of_passes g js (x ∷ xs)
by_some g [] x xs (k, inside, at) = let none : k < 0 = inside in absurd (omega arith)
by_some g (j ∷ js) x xs (zero, inside, at) =
    let own = by_its_own g j.number x xs at in let later = by_all g js x xs in omega (arith, own, later)
by_some g (j ∷ js) x xs (suc k, inside, at) =
    let one = by_one g j.number x xs in
    let later = by_some g js x xs (k, omega (arith, inside), at) in
    omega (arith, one, later)

pub by_passes_all : (g : Action → ℕ) (js : List Joined) (xs : List Item)
    → AllByRecursion (λ (x : Item). Contains (numbers_of js) x.client) xs → total g xs ≤ of_passes g js xs
by_passes_all g js [] all = omega arith
by_passes_all g js (x ∷ xs) all =
    let one = by_some g js x xs all.0 in let later = by_passes_all g js xs all.1 in omega (arith, one, later)

-- ---- what each connection submitted

-- a connection's submissions count so much
abbrev pub Counts : (Action → ℕ) → (List Submission → ℕ) → Type 0
Counts g f = (seq : ℕ) (submissions : List Submission) → total_said g (submissions_from seq submissions) ≡ f submissions

pub counts_bodies : Counts a_body (λ (submissions : List Submission). length submissions)
counts_bodies seq [] = refl
counts_bodies seq (s ∷ ss) = let later = counts_bodies (seq + 1) ss in omega (arith, later)

pub counts_words : Counts its_words (λ (submissions : List Submission). sum_by words_in submissions)
counts_words seq [] = refl
counts_words seq (s ∷ ss) =
    let later = counts_words (seq + 1) ss in
    let added = sum_by-cons words_in s ss in
    omega (arith, later, added)

pub counts_no_seal : Counts a_seal (λ (submissions : List Submission). 0)
counts_no_seal seq [] = refl
counts_no_seal seq (s ∷ ss) = let later = counts_no_seal (seq + 1) ss in omega (arith, later)

pub all_counted : (g : Action → ℕ) (f : List Submission → ℕ) → Counts g f → (client : ℕ)
    (connections : List (List Submission)) (passes : List Joined) (more : List Item)
    → AllSubmitted client connections passes → AllByRecursion (StandsIn more) passes
    → of_passes g passes more ≡ sum_by f connections
all_counted g f counts client [] [] more did stand = refl
all_counted g f counts client [] (j ∷ js) more did stand = absurd did
all_counted g f counts client (s ∷ ss) [] more did stand = absurd did
all_counted g f counts client (s ∷ ss) (j ∷ js) more did stand =
    let own : total g (entries_by j.number more) ≡ f s = said g (entries_by j.number more)
    ∙ (ap (λ (xs : List Item). total_said g (map numbered_action xs)) (sym (own_entries j.number more j refl stand.0))
    ∙ (ap (total_said g) did.0.actions ∙ counts 0 s)) in
    let later = all_counted g f counts (client + 1) ss js more did.1 stand.1 in
    let added = sum_by-cons f s ss in
    omega (arith, own, later, added)

-- ---- all together

pub none_at_all : (connections : List (List Submission))
    → sum_by (λ (submissions : List Submission). 0) connections ≡ 0
none_at_all [] = refl
none_at_all (s ∷ ss) =
    let added = sum_by-cons (λ (submissions : List Submission). 0) s ss in
    let later = none_at_all ss in
    omega (arith, added, later)

pub planned_among : (connections : List (List Submission)) (head head_now : Head) (items front : List Item)
    (after : Knowledge) (final : Record) → WereServedOn connections (came_with head []) after → Ends after final
    → final ≡ record_of head_now items → IsPrefix front items → IsAmongSubmitted connections front
planned_among connections head head_now items front after final served ends is begins =
    let back = handed head head_now [] items served.passes after final served.took_in ends is in
    let more = back.0 in
    let h = back.1 in
    let whole : more ≡ front ++ begins.0 = sym h.grown ∙ begins.1 in
    let within : (g : Action → ℕ) (f : List Submission → ℕ) → Counts g f → total g front ≤ sum_by f connections =
    λ g f counts. (let first = front_total g front begins.0 in
    let same = ap (total g) whole in
    let all = by_passes_all g served.passes more h.by_passes in
    let counted = all_counted g f counts 1 connections served.passes more served.each h.stand in
    omega (arith, first, same, all, counted)) in
    record {
      unsealed = none_sealed front (subst (λ n. total a_seal front ≤ n) (none_at_all connections)
          (within a_seal (λ (submissions : List Submission). 0) counts_no_seal));
      bodies = subst (λ n. n ≤ sum_by (λ (submissions : List Submission). length submissions) connections)
          (sym (bodies_total front))
          (within a_body (λ (submissions : List Submission). length submissions) counts_bodies);
      words = subst (λ n. n ≤ sum_by (λ (submissions : List Submission). sum_by words_in submissions) connections)
          (sym (words_total front))
          (within its_words (λ (submissions : List Submission). sum_by words_in submissions) counts_words);
    }
