-- What the result of a client tells of its pass.
use Rattle.std.proofs.Common.{◌≡◌, ℕ, ◌+◌, ◌<◌, ◌≤◌, ◌↔◌, zero, suc, List, [], ◌∷◌, ◌++◌, map, length, sum, Some, None}
use Rattle.std.proofs.Common.{inl, inr, sym, ap, ◌∙◌, subst, arith}
use Rattle.std.proofs.lemmas.Bool.{cases_lt}
use Rattle.std.proofs.lemmas.Option.{none-some, same_Some, get_or_from_slice_get, slice_get-map, slice_get_cases}
use Rattle.std.proofs.lemmas.Option.{slice_get_past, slice_get_within}
use Rattle.std.specs.List.{slice_get}
use Rattle.std.specs.Option.{option_and_then, option_map}
use Rattle.turn_pass.specs.Record.{Recorded}
use Rattle.turn_pass.specs.Pass.{Joined}
use Rattle.lane_record.specs.declared.outcome.Outcome.{Outcome}
use Rattle.lane_record.specs.declared.item.Item.{Item}
use Rattle.lane_record.specs.declared.item.What.{What}
use Rattle.lane_record.specs.declared.item.What.TheVariants.{Plan, Seal, Ask, Took}
use Rattle.lane_record.specs.Coding.{as_recorded}
use Rattle.lane_record.specs.NextEntry.{took_of}
use Rattle.lane_record.specs.Dispatches.{Taken, NumberedAction, action_of, asks_from, dispatches_from, outcomes_in_order}
use Rattle.lane_record.specs.Dispatches.{numbered_action, tooks_from}
use Rattle.client_threads.specs.declared.plan.ClientPlan.{ClientPlan}
use Rattle.client_threads.specs.declared.result.ClientResult.{ClientResult}
use Rattle.client_threads.specs.Clients.{DidPlan, HasTook, counts_on, outcome_of}
use Rattle.client_threads.proofs.Each.{sum_joined}
use Rattle.client_threads.proofs.Jobs.{all_get, map_get}
use Rattle.client_threads.proofs.Actions.{taken_now}

-- x stands in xs
abbrev Has : {A : Type 0} → List A → A → Type 0
Has xs x = (i : ℕ) × (slice_get xs i ≡ Some x)

get_front : {A : Type 0} (xs ys : List A) (i : ℕ) (x : A) → slice_get xs i ≡ Some x → slice_get (xs ++ ys) i ≡ Some x
get_front [] ys i x e = absurd (none-some x e)
get_front (z ∷ zs) ys zero x e = e
get_front (z ∷ zs) ys (suc i) x e = get_front zs ys i x e

has_first : {A : Type 0} (xs ys : List A) (x : A) → Has xs x → Has (xs ++ ys) x
has_first xs ys x h = (h.0, get_front xs ys h.0 x h.1)

has_second : {A : Type 0} (xs ys : List A) (x : A) → Has ys x → Has (xs ++ ys) x
has_second [] ys x h = h
has_second (z ∷ zs) ys x h = let later = has_second zs ys x h in (suc later.0, later.1)

took_there : (seq : ℕ) (outcomes : List Outcome) (i : ℕ) (outcome : Outcome) → slice_get outcomes i ≡ Some outcome
    → Has (tooks_from seq outcomes) (taken_now (seq + i) outcome)
took_there seq [] i outcome e = absurd (none-some outcome e)
took_there seq (o ∷ os) zero outcome e =
    let n : seq ≡ seq + 0 = omega arith in
    (0, ap Some ((λ j. taken_now (n j) (same_Some o outcome e j))))
took_there seq (o ∷ os) (suc i) outcome e =
    let later = took_there (seq + 1) os i outcome e in
    let n : seq + 1 + i ≡ seq + suc i = omega arith in
    (suc later.0, later.1 ∙ ap (λ (m : ℕ). Some (taken_now m outcome)) n)

get_second : {A : Type 0} (xs ys : List A) (i : ℕ) (x : A) → length xs ≤ i → slice_get (xs ++ ys) i ≡ Some x
    → (k : ℕ) × (length xs + k ≡ i) × (slice_get ys k ≡ Some x)
get_second [] ys i x le e = (i, omega arith, e)
get_second (z ∷ zs) ys zero x le e = absurd (omega arith)
get_second (z ∷ zs) ys (suc i) x le e = let k = get_second zs ys i x (omega arith) e in let m = k.1 in
    (k.0, omega arith, k.2)

get_first : {A : Type 0} (xs ys : List A) (i : ℕ) (x : A) → i < length xs → slice_get (xs ++ ys) i ≡ Some x
    → slice_get xs i ≡ Some x
get_first [] ys i x low e = absurd (omega arith)
get_first (z ∷ zs) ys zero x low e = e
get_first (z ∷ zs) ys (suc i) x low e = get_first zs ys i x (omega arith) e

dispatch_there : (seq : ℕ) (ds : List (List Outcome)) (i : ℕ) (outcome : Outcome)
    → slice_get (outcomes_in_order ds) i ≡ Some outcome → Has (dispatches_from seq ds) (taken_now (seq + i) outcome)
dispatch_there seq [] i outcome e = absurd (none-some outcome e)
dispatch_there seq (o ∷ ds) i outcome e =
    let asks = asks_from seq (length o) in
    let tooks = tooks_from seq o in
    let rest = dispatches_from (seq + length o) ds in
    has_second asks (tooks ++ rest) (taken_now (seq + i) outcome) (elim (cases_lt i (length o)) [
      | inl low ↦ has_first tooks rest (taken_now (seq + i) outcome)
          (took_there seq o i outcome (get_first o (outcomes_in_order ds) i outcome low e))
      | inr le ↦ let k = get_second o (outcomes_in_order ds) i outcome le e in
          let m = k.1 in
          let n : seq + length o + k.0 ≡ seq + i = omega arith in
          has_second tooks rest (taken_now (seq + i) outcome) (subst (λ (q : ℕ). Has rest (taken_now q outcome)) n
          (dispatch_there (seq + length o) ds k.0 outcome k.2))
    ])

took_is : (w : What) (outcome : Outcome) → action_of w ≡ Taken outcome → (give_ups : ℕ) × (w ≡ Took outcome give_ups)
took_is (Plan body) outcome e = absurd (cc)
took_is Seal outcome e = absurd (cc)
took_is (Ask give_ups) outcome e = absurd (cc)
took_is (Took other give_ups) outcome e = let same : other ≡ outcome = cc in
    (give_ups, ap (λ (o : Outcome). Took o give_ups) same)

outcome_read : (lane seq : ℕ) (plan : ClientPlan) (result : ClientResult) (pass : Joined)
    (d : DidPlan lane plan result pass) → outcome_of result lane seq ≡ slice_get (outcomes_in_order d.dispatches) seq
outcome_read lane seq plan result pass d = ap (option_and_then (λ (os : List Outcome). slice_get os seq)) d.outcomes

pub outcomes_asked : (lane seq : ℕ) (plan : ClientPlan) (result : ClientResult) (pass : Joined)
    → DidPlan lane plan result pass → (outcome_of result lane seq ≡ None) ↔ (sum (counts_on lane plan) ≤ seq)
outcomes_asked lane seq plan result pass d =
    let all = outcomes_in_order d.dispatches in
    let read = outcome_read lane seq plan result pass d in
    let long : length all ≡ sum (counts_on lane plan) = sum_joined d.dispatches ∙ ap sum d.cut in (
      λ none. elim ((slice_get_cases all seq).1) [
        | inl here ↦ absurd (none-some here.0 (sym none ∙ (read ∙ here.2)))
        | inr past ↦ let le = past.0 in omega arith
      ],
      λ le. read ∙ slice_get_past all seq (omega arith),
    )

pub outcome_took : (lane seq : ℕ) (plan : ClientPlan) (result : ClientResult) (pass : Joined) (outcome : Outcome)
    → DidPlan lane plan result pass → outcome_of result lane seq ≡ Some outcome → HasTook plan.client seq outcome pass
outcome_took lane seq plan result pass outcome d e =
    let zero_more : 0 + seq ≡ seq = omega arith in
    let action = dispatch_there 0 d.dispatches seq outcome (sym (outcome_read lane seq plan result pass d) ∙ e) in
    let at : slice_get (map numbered_action d.items) action.0 ≡ Some (taken_now seq outcome) =
    ap (λ (l : List NumberedAction). slice_get l action.0) d.actions
    ∙ (action.1 ∙ ap (λ (q : ℕ). Some (taken_now q outcome)) zero_more) in
    let item = map_get numbered_action d.items action.0 (taken_now seq outcome) at in
    let number : item.0.seq ≡ seq = ap (λ (a : NumberedAction). a.seq) item.2 in
    let what = took_is item.0.what outcome (ap (λ (a : NumberedAction). a.action) item.2) in
    let client : item.0.client ≡ plan.client = all_get (λ (x : Item). x.client ≡ plan.client) d.items action.0 item.0
    d.makers item.1 in
    let whole : item.0 ≡ took_of plan.client seq outcome what.0 =
    λ j. record { client = client j; seq = number j; what = what.1 j } in
    let r : Recorded = as_recorded (took_of plan.client seq outcome what.0) in
    let there : slice_get pass.mine action.0 ≡ Some r = ap (λ (l : List Recorded). slice_get l action.0) d.coded
    ∙ (slice_get-map as_recorded d.items action.0 ∙ (ap (option_map as_recorded) item.1
    ∙ ap (λ (x : Item). Some (as_recorded x)) whole)) in record {
      give_ups = what.0;
      entry = (
        action.0,
        slice_get_within pass.mine action.0 r there,
        get_or_from_slice_get pass.mine action.0 r r
            there,
      );
    }
