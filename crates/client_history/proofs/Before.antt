-- What is planned in a front of a record is among what connections submitted, and of one of them among what it
-- submitted first.
use Rattle.std.proofs.Common.{◌≡◌, ℕ, zero, suc, ◌+◌, ◌≤◌, List, [], ◌∷◌, ◌++◌, length, map, Some, refl, sym, ap, subst}
use Rattle.std.proofs.Common.{◌∙◌, arith}
use Rattle.std.specs.Prelude.{sum_by}
use Rattle.std.specs.List.{AllByRecursion, Contains, slice_get, slice_set}
use Rattle.std.proofs.lemmas.List.{map-append}
use Rattle.std.proofs.lemmas.List.Sums.{sum_by-cons}
use Rattle.std.proofs.lemmas.Option.{none-some, same_Some}
use Rattle.ipb_base.specs.Lists.{IsPrefix}
use Rattle.turn_pass.specs.Record.{Record}
use Rattle.turn_pass.specs.Pass.{Joined, Knowledge}
use Rattle.lane_record.specs.declared.item.Item.{Item}
use Rattle.lane_record.specs.Coding.{Head, record_of}
use Rattle.lane_record.specs.Dispatches.{Action, NumberedAction, Planned, Asked, Taken, entries_by, numbered_action}
use Rattle.lane_record.specs.Items.{planned_count}
use Rattle.lane_record.specs.Submissions.{Submission, submissions_from}
use Rattle.hub_multiplexer.specs.Ends.{Ends}
use Rattle.client_history.specs.Clients.{came_with}
use Rattle.client_history.proofs.Handed.{StandsIn, handed, numbers_of}
use Rattle.board_history.proofs.Own as own_entries_of
use Rattle.client_history.specs.Connections.{AllSubmitted, WereServedOn}
use Rattle.client_history.specs.Planned.{IsAmongSubmitted, words_in}
use Rattle.client_history.proofs.Leaving.{own_entries}
use Rattle.client_history.proofs.Limits.{by_append, planned_total}
use Rattle.client_history.proofs.Planning.{Counts, a_body, a_seal, bodies_total, by_passes_all, counts_bodies}
use Rattle.client_history.proofs.Planning.{counts_no_seal, counts_words, its_words, none_at_all, none_sealed, of_passes}
use Rattle.client_history.proofs.Planning.{said}
use Rattle.client_history.proofs.Planning.{total, total_said, words_total}

-- ---- the first actions of a connection

none_first : (g : Action → ℕ) (n : ℕ) (later : List Submission) (as' bs : List NumberedAction)
    → as' ++ bs ≡ submissions_from n later → total_said a_body as' ≡ 0 → total_said g as' ≤ 0
none_first g n later [] bs e none = omega arith
none_first g n [] (a ∷ as') bs e none = absurd cc
none_first g n (s ∷ later) (a ∷ as') bs e none =
    let first : a ≡ record { seq = n; action = Planned s.body } = cc in
    let one : a_body a.action ≡ 1 = ap (λ (z : NumberedAction). a_body z.action) first in
    absurd (omega (arith, one, none))

first_actions : (g : Action → ℕ) (n : ℕ) (own later : List Submission) (as' bs : List NumberedAction)
    → as' ++ bs ≡ submissions_from n (own ++ later) → total_said a_body as' ≡ length own
    → total_said g as' ≤ total_said g (submissions_from n own)
first_actions g n [] later as' bs e none = none_first g n later as' bs e none
first_actions g n (s ∷ own) later [] bs e count = absurd (omega (arith, count))
first_actions g n (s ∷ own) later (a ∷ []) bs e count =
    let first : a ≡ record { seq = n; action = Planned s.body } = cc in
    let same : g a.action ≡ g (Planned s.body) = ap (λ (z : NumberedAction). g z.action) first in
    omega (arith, same)
first_actions g n (s ∷ own) later (a ∷ b ∷ []) bs e count =
    let first : a ≡ record { seq = n; action = Planned s.body } = cc in
    let second : b ≡ record { seq = n; action = Asked } = cc in
    let same : g a.action ≡ g (Planned s.body) = ap (λ (z : NumberedAction). g z.action) first in
    let next : g b.action ≡ g Asked = ap (λ (z : NumberedAction). g z.action) second in
    omega (arith, same, next)
first_actions g n (s ∷ own) later (a ∷ b ∷ c ∷ as') bs e count =
    let first : a ≡ record { seq = n; action = Planned s.body } = cc in
    let second : b ≡ record { seq = n; action = Asked } = cc in
    let third : c ≡ record { seq = n; action = Taken s.outcome } = cc in
    let rest : as' ++ bs ≡ submissions_from (n + 1) (own ++ later) = cc in
    let one : a_body a.action ≡ 1 = ap (λ (z : NumberedAction). a_body z.action) first in
    let none : a_body b.action ≡ 0 = ap (λ (z : NumberedAction). a_body z.action) second in
    let none' : a_body c.action ≡ 0 = ap (λ (z : NumberedAction). a_body z.action) third in
    let later' = first_actions g (n + 1) own later as' bs rest (omega (arith, count, one, none, none')) in
    let same : g a.action ≡ g (Planned s.body) = ap (λ (z : NumberedAction). g z.action) first in
    let next : g b.action ≡ g Asked = ap (λ (z : NumberedAction). g z.action) second in
    let last : g c.action ≡ g (Taken s.outcome) = ap (λ (z : NumberedAction). g z.action) third in
    omega (arith, same, next, last, later')

-- ---- one connection

module _ (g : Action → ℕ) (f : List Submission → ℕ) (counts : Counts g f) (front rest more : List Item)
    (is : more ≡ front ++ rest) where
  -- what it did in all
  did_all : (j : Joined) (submissions : List Submission)
      → map numbered_action (entries_by j.number more) ≡ submissions_from 0 submissions
      → total g (entries_by j.number front) ≤ f submissions
  did_all j submissions did =
      let all = said g (entries_by j.number more) ∙ (ap (total_said g) did ∙ counts 0 submissions) in
      let parts = by_append g j.number front rest in
      let whole = ap (λ (xs : List Item). total g (entries_by j.number xs)) is in
      omega (arith, all, parts, whole)

  did_first : (j : Joined) (own later : List Submission)
      → map numbered_action (entries_by j.number more) ≡ submissions_from 0 (own ++ later)
      → planned_count j.number front ≡ length own → total g (entries_by j.number front) ≤ f own
  did_first j own later did many =
      let xs = entries_by j.number front in
      let ys = entries_by j.number rest in
      let split : map numbered_action xs ++ map numbered_action ys ≡ submissions_from 0 (own ++ later) =
      sym (map-append numbered_action xs ys) ∙ (ap (map numbered_action)
      (sym (ap (entries_by j.number) is ∙ own_entries_of.by_append j.number front rest)) ∙ did) in
      let count : total_said a_body (map numbered_action xs) ≡ length own =
      sym (said a_body xs) ∙ (sym (planned_total j.number front) ∙ many) in
      let first = first_actions g 0 own later (map numbered_action xs) (map numbered_action ys) split count in
      let spelled = said g xs in
      let counted = counts 0 own in
      omega (arith, first, spelled, counted)

-- ---- all connections

module _ (g : Action → ℕ) (f : List Submission → ℕ) (counts : Counts g f) (front rest more : List Item)
    (is : more ≡ front ++ rest) where
  each_all : (client : ℕ) (connections : List (List Submission)) (passes : List Joined)
      → AllSubmitted client connections passes → AllByRecursion (StandsIn more) passes
      → of_passes g passes front ≤ sum_by f connections
  each_all client [] [] did stand = omega arith
  each_all client [] (j ∷ js) did stand = absurd did
  each_all client (s ∷ ss) [] did stand = absurd did
  each_all client (s ∷ ss) (j ∷ js) did stand =
      let one = did_all g f counts front rest more is j s
      (ap (map numbered_action) (sym (own_entries j.number more j refl stand.0)) ∙ did.0.actions) in
      let later = each_all (client + 1) ss js did.1 stand.1 in
      let added = sum_by-cons f s ss in
      omega (arith, one, later, added)

  each_but_one : (client : ℕ) (connections : List (List Submission)) (passes : List Joined) (index : ℕ)
      (own later : List Submission) → AllSubmitted client connections passes → AllByRecursion (StandsIn more) passes
      → slice_get connections index ≡ Some (own ++ later) → planned_count (client + index) front ≡ length own
      → of_passes g passes front ≤ sum_by f (slice_set connections index own)
  each_but_one client [] passes index own later did stand at many = absurd (none-some (own ++ later) at)
  each_but_one client (s ∷ ss) [] index own later did stand at many = absurd did
  each_but_one client (s ∷ ss) (j ∷ js) zero own later did stand at many =
      let number : client + 0 ≡ j.number = (let n = did.0.number in omega (arith, n)) in
      let one = did_first g f counts front rest more is j own later
      (ap (map numbered_action) (sym (own_entries j.number more j refl stand.0))
      ∙ (did.0.actions ∙ ap (submissions_from 0) (same_Some s (own ++ later) at)))
      (subst (λ c. planned_count c front ≡ length own) number many) in
      let others = each_all (client + 1) ss js did.1 stand.1 in
      let added = sum_by-cons f own ss in
      omega (arith, one, others, added)
  each_but_one client (s ∷ ss) (j ∷ js) (suc index) own later did stand at many =
      let one = did_all g f counts front rest more is j s
      (ap (map numbered_action) (sym (own_entries j.number more j refl stand.0)) ∙ did.0.actions) in
      let others = each_but_one (client + 1) ss js index own later did.1 stand.1 at
      (subst (λ c. planned_count c front ≡ length own) (omega arith) many) in
      let added = sum_by-cons f s (slice_set ss index own) in
      omega (arith, one, others, added)

all_in_front : (P : Item → Type 0) (xs ys : List Item) → AllByRecursion P (xs ++ ys) → AllByRecursion P xs
all_in_front P [] ys all = tt
all_in_front P (x ∷ xs) ys all = (all.0, all_in_front P xs ys all.1)

pub first_among : (connections : List (List Submission)) (head head_now : Head) (items front : List Item)
    (after : Knowledge) (final : Record) → WereServedOn connections (came_with head []) after → Ends after final
    → final ≡ record_of head_now items → IsPrefix front items → (index : ℕ) (own later : List Submission)
    → slice_get connections index ≡ Some (own ++ later) → planned_count (1 + index) front ≡ length own
    → IsAmongSubmitted (slice_set connections index own) front
first_among connections head head_now items front after final served ends is begins index own later at many =
    let back = handed head head_now [] items served.passes after final served.took_in ends is in
    let more = back.0 in
    let h = back.1 in
    let rest = begins.0 in
    let whole : more ≡ front ++ rest = sym h.grown ∙ begins.1 in
    let by = all_in_front (λ (x : Item). Contains (numbers_of served.passes) x.client) front rest
    (subst (AllByRecursion (λ (x : Item). Contains (numbers_of served.passes) x.client)) whole h.by_passes) in
    let within : (g : Action → ℕ) (f : List Submission → ℕ) → Counts g f
    → total g front ≤ sum_by f (slice_set connections index own) =
    λ g f counts. (let all = by_passes_all g served.passes front by in
    let each = each_but_one g f counts front rest more whole 1 connections served.passes index own later served.each
    h.stand at many in
    omega (arith, all, each)) in
    let cut = slice_set connections index own in
    record {
      unsealed = none_sealed front (subst (λ n. total a_seal front ≤ n) (none_at_all cut)
          (within a_seal (λ (submissions : List Submission). 0) counts_no_seal));
      bodies = subst (λ n. n ≤ sum_by (λ (submissions : List Submission). length submissions) cut)
          (sym (bodies_total front))
          (within a_body (λ (submissions : List Submission). length submissions) counts_bodies);
      words = subst (λ n. n ≤ sum_by (λ (submissions : List Submission). sum_by words_in submissions) cut)
          (sym (words_total front))
          (within its_words (λ (submissions : List Submission). sum_by words_in submissions) counts_words);
    }
