-- What one call of a client on a lane does to how far the client came there.
use Rattle.std.proofs.Common.{◌≡◌, ℕ, ◌+◌, ◌≤◌, ◌<◌, true, List, [], ◌∷◌, ◌++◌, map, length, None, is_some, inl, inr, refl}
use Rattle.std.proofs.Common.{sym, ap, ◌∙◌, subst, arith, append-nil, append_assoc}
use Rattle.std.proofs.lemmas.Bool.{cases_lt}
use Rattle.std.proofs.lemmas.List.{map-append}
use Rattle.std.specs.List.{AllByRecursion, filter_map}
use Rattle.turn_pass.specs.Record.{Recorded, made_by}
use Rattle.turn_pass.specs.Pass.{Knowledge}
use Rattle.lane_record.specs.declared.outcome.Outcome.{Outcome}
use Rattle.lane_record.specs.declared.item.Item.{Item}
use Rattle.lane_record.specs.Items.{ask_in, numbers, plan_in, took_in, told_by_first}
use Rattle.lane_record.specs.NextEntry.{ask_of, took_of}
use Rattle.lane_record.specs.Coding.{item_from, as_recorded}
use Rattle.lane_record.specs.Dispatches.{Asked, Taken, NumberedAction, asks_from, dispatches_from, outcomes_in_order}
use Rattle.lane_record.specs.Dispatches.{numbered_action, plans_from, tooks_from}
use Rattle.lane_record.proofs.Coding.{read_item}
use Rattle.hub_lane.specs.declared.answers.Asked.TheVariants as asks
use Rattle.hub_multiplexer.specs.OwnItems.{IsOldestOf, asked_by, own_items, planned_by}
use Rattle.hub_multiplexer.specs.Calls.{Adds, AskMeans, FoundLane, IsNone, MadeInTime, PerformMeans}
use Rattle.hub_multiplexer.specs.declared.answers.Performed.TheVariants as performs
use Rattle.hub_multiplexer.proofs.AskedAll.{read_back}
use Rattle.client_threads.specs.Running.{AddsNoPlan, HasAskedMore, HasTakenThese, IsAt, Position, actions_at, asking}
use Rattle.client_threads.specs.Running.{behind, between, taking}
use Rattle.client_threads.proofs.Actions.{AreOf, Takes, asked_counted, asked_so_far, asks_push, count, count_append}
use Rattle.client_threads.proofs.Actions.{dispatch_done, found_taken, of_append, one_if_asked, one_if_planned}
use Rattle.client_threads.proofs.Actions.{planned_counted, planned_so_far, plans_are_of, plans_ask_nothing}
use Rattle.client_threads.proofs.Actions.{plans_counted, plans_take_nothing, taken_of, taken_so_far, takes_append}
use Rattle.client_threads.proofs.Actions.{tooks_push}

-- ---- what the client's own entries are

-- the Plans and then what was done
abbrev all_items : (p : Position) (k : Knowledge) → IsAt p k → List Item
all_items p k i = plans_from p.client 0 i.plans.bodies ++ i.items

own_are : (p : Position) (k : Knowledge) (i : IsAt p k) → own_items k ≡ all_items p k i
own_are p k i =
    let plans = plans_from p.client 0 i.plans.bodies in
    let there : made_by k.number k.opening.entries ≡ map as_recorded plans =
    ap (λ (n : ℕ). made_by n k.opening.entries) i.number ∙ i.plans.entries in
    ap (λ (l : List Recorded). filter_map item_from (l ++ k.mine)) there
    ∙ (ap (λ (l : List Recorded). filter_map item_from (map as_recorded plans ++ l)) i.coded
    ∙ (ap (filter_map item_from) (sym (map-append as_recorded plans i.items)) ∙ read_back read_item (plans ++ i.items)))

all_are_of : (p : Position) (k : Knowledge) (i : IsAt p k) → AreOf p.client (all_items p k i)
all_are_of p k i = of_append p.client (plans_from p.client 0 i.plans.bodies) i.items
    (plans_are_of p.client 0 i.plans.bodies) i.makers

actions_are : (p : Position) (k : Knowledge) (i : IsAt p k) → map numbered_action
    (all_items p k i) ≡ map numbered_action (plans_from p.client 0 i.plans.bodies) ++ actions_at p
actions_are p k i =
    let plans = plans_from p.client 0 i.plans.bodies in
    map-append numbered_action plans i.items ∙ ap (λ (l : List NumberedAction). map numbered_action plans ++ l)
    i.actions

pub asked_is : (p : Position) (k : Knowledge) → IsAt p k → asked_by k ≡ behind p + p.asks
asked_is p k i =
    let plans = plans_from p.client 0 i.plans.bodies in
    let own : asked_by k ≡ length (numbers ask_in p.client (all_items p k i)) =
    (λ j. length (numbers ask_in (i.number j) (own_are p k i j))) in
    let counted = asked_counted p.client (all_items p k i) (all_are_of p k i) in
    let parts : count one_if_asked (map numbered_action (all_items p k i)) ≡ count one_if_asked
    (map numbered_action plans) + count one_if_asked (actions_at p) = ap (count one_if_asked) (actions_are p k i)
    ∙ count_append one_if_asked (map numbered_action plans) (actions_at p) in
    let none = plans_ask_nothing p.client 0 i.plans.bodies in
    let some = asked_so_far p.done p.asks p.taken in
    omega arith

pub enough_planned : (p : Position) (k : Knowledge) → IsAt p k → p.planned ≤ planned_by k
enough_planned p k i =
    let plans = plans_from p.client 0 i.plans.bodies in
    let own : planned_by k ≡ length (numbers plan_in p.client (all_items p k i)) =
    (λ j. length (numbers plan_in (i.number j) (own_are p k i j))) in
    let counted = planned_counted p.client (all_items p k i) (all_are_of p k i) in
    let parts : count one_if_planned (map numbered_action (all_items p k i)) ≡ count one_if_planned
    (map numbered_action plans) + count one_if_planned (actions_at p) = ap (count one_if_planned)
    (actions_are p k i) ∙ count_append one_if_planned (map numbered_action plans) (actions_at p) in
    let all = plans_counted p.client 0 i.plans.bodies in
    let none = planned_so_far p.done p.asks p.taken in
    let enough = i.plans.enough in
    omega arith

-- which of the client's bodies were taken
own_taken : (p : Position) (k : Knowledge) (i : IsAt p k) → (seq : ℕ)
    → told_by_first took_in k.number seq (own_items k) ≡ taken_of seq
    (map numbered_action (plans_from p.client 0 i.plans.bodies) ++ actions_at p)
own_taken p k i seq = (λ j. told_by_first took_in (i.number j) seq (own_are p k i j))
    ∙ (found_taken p.client seq (all_items p k i) (all_are_of p k i) ∙ ap (taken_of seq) (actions_are p k i))

taken_are : (p : Position) (k : Knowledge) (i : IsAt p k) → Takes 0 (behind p + length p.taken)
    (map numbered_action (plans_from p.client 0 i.plans.bodies) ++ actions_at p)
taken_are p k i = takes_append 0 0 (behind p + length p.taken)
    (map numbered_action (plans_from p.client 0 i.plans.bodies)) (actions_at p)
    (plans_take_nothing p.client i.plans.bodies) (taken_so_far p.done p.asks p.taken) (omega arith) (omega arith)

pub oldest_is : (p : Position) (k : Knowledge) (seq : ℕ) → IsAt p k → IsOldestOf k seq → seq ≡ behind p + length p.taken
oldest_is p k seq i o =
    let high = behind p + length p.taken in
    let t = taken_are p k i in
    elim (cases_lt seq high) [
      | inl lt ↦ let yes = t.inside seq (omega arith) lt in
          let none : taken_of seq (map numbered_action (plans_from p.client 0 i.plans.bodies) ++ actions_at p) ≡ None =
          sym (own_taken p k i seq) ∙ o.untaken in
          absurd (let e : is_some {T = Outcome} None ≡ true = ap is_some (sym none) ∙ yes in cc)
      | inr ge ↦ elim (cases_lt high seq) [
        | inl lt ↦ let yes : is_some
            (taken_of high (map numbered_action (plans_from p.client 0 i.plans.bodies) ++ actions_at p)) ≡ true =
            ap is_some (sym (own_taken p k i high)) ∙ o.before high lt in
            let none = t.behind high (omega arith) in
            absurd (let e : is_some {T = Outcome} None ≡ true = ap is_some (sym none) ∙ yes in cc)
        | inr le ↦ omega arith
      ]
    ]

-- ---- calls

-- after a call that added these entries
added_at : (p q : Position) (k after : Knowledge) (lane : FoundLane) (added : List Item) → IsAt p k
    → Adds k lane added after → q.client ≡ p.client → q.planned ≡ p.planned → AreOf p.client added
    → actions_at q ≡ actions_at p ++ map numbered_action added → IsAt q after
added_at p q k after lane added i a same_client same_planned makers more =
    let rest = a.rest_same in record {
      number = ap (λ (z : Knowledge). z.number) rest ∙ (i.number ∙ sym same_client);
      plans = record {
        bodies = i.plans.bodies;
        enough = subst (λ (n : ℕ). n ≤ length i.plans.bodies) (sym same_planned) i.plans.enough;
        entries = (λ j. made_by (same_client j) (rest j).opening.entries)
            ∙ (i.plans.entries ∙ ap (λ (c : ℕ). map as_recorded (plans_from c 0 i.plans.bodies)) (sym same_client));
      };
      items = i.items ++ added;
      coded = a.mine_now ∙ (ap (λ (l : List Recorded). l ++ map as_recorded added) i.coded
          ∙ sym (map-append as_recorded i.items added));
      makers = subst (λ (c : ℕ). AreOf c (i.items ++ added)) (sym same_client)
          (of_append p.client i.items added i.makers makers);
      actions = map-append numbered_action i.items added
          ∙ (ap (λ (l : List NumberedAction). l ++ map numbered_action added) i.actions ∙ sym more);
    }

-- one Ask more
pub asked_at : (k after : Knowledge) (seq : ℕ) → MadeInTime k (AskMeans k (asks.Asked seq)) after
    → HasAskedMore 1 k after
asked_at k after seq m p i none =
    let h = m.meaning in
    let front = dispatches_from 0 p.done in
    let n = behind p in
    let number : seq ≡ n + p.asks = h.next ∙ asked_is p k i in
    let asks_more : NumberedAction = record { seq = n + p.asks; action = Asked } in
    let added : List Item = ask_of p.client seq h.give_ups ∷ [] in
    let entry : m.added ≡ added = h.entry ∙ ap (λ (c : ℕ). ask_of c seq h.give_ups ∷ []) i.number in
    let now : actions_at (asking 1 p) ≡ front ++ (asks_from n p.asks ++ asks_more ∷ []) =
    (λ j. front ++ (asks_push n p.asks j ++ tooks_from n (none j)))
    ∙ ap (λ (l : List NumberedAction). front ++ l) (append-nil (asks_from n p.asks ++ asks_more ∷ [])) in
    let was : actions_at p ≡ front ++ asks_from n p.asks = (λ j.
    front ++ (asks_from n p.asks ++ tooks_from n (none j)))
    ∙ ap (λ (l : List NumberedAction). front ++ l) (append-nil (asks_from n p.asks)) in
    let one : map numbered_action added ≡ asks_more ∷ [] = ap (λ (s : ℕ). record { seq = s; action = Asked } ∷ [])
    number in
    added_at p (asking 1 p) k after m.lane added i (subst (λ (l : List Item). Adds k m.lane l after) entry m.adds) refl
    refl (refl, tt)
    (now ∙ (sym (append_assoc front (asks_from n p.asks) (asks_more ∷ [])) ∙ (λ j. sym was j ++ sym one j)))

-- there was a body to ask
pub not_all_asked : (p : Position) (k after : Knowledge) → IsAt p k → behind p + p.asks < p.planned
    → MadeInTime k (AskMeans k asks.Nothing) after → ⊥
not_all_asked p k after i less m =
    let a = asked_is p k i in
    let b = enough_planned p k i in
    let e = m.meaning.0 in
    omega arith

-- one Took more
pub took_at : (k after : Knowledge) (outcome : Outcome) → MadeInTime k (PerformMeans k (performs.Ready outcome)) after
    → HasTakenThese (outcome ∷ []) k after
took_at k after outcome m p i =
    let h = m.meaning in
    let front = dispatches_from 0 p.done in
    let n = behind p in
    let number : h.seq ≡ n + length p.taken = oldest_is p k h.seq i h.oldest in
    let took : NumberedAction = record { seq = n + length p.taken; action = Taken outcome } in
    let added : List Item = took_of p.client h.seq outcome h.give_ups ∷ [] in
    let entry : m.added ≡ added = h.entry ∙ ap (λ (c : ℕ). took_of c h.seq outcome h.give_ups ∷ []) i.number in
    let asks_now = asks_from n p.asks in
    let tooks_now = tooks_from n p.taken in
    let now : actions_at (taking (outcome ∷ []) p) ≡ front ++ (asks_now ++ (tooks_now ++ took ∷ [])) =
    ap (λ (l : List NumberedAction). front ++ (asks_now ++ l)) (tooks_push n p.taken outcome) in
    let one : map numbered_action added ≡ took ∷ [] = ap (λ (s : ℕ). record { seq = s; action = Taken outcome } ∷ [])
    number in
    let out : front ++ (asks_now ++ (tooks_now ++ took ∷ [])) ≡ (front ++ (asks_now ++ tooks_now)) ++ took ∷ [] =
    ap (λ (l : List NumberedAction). front ++ l) (sym (append_assoc asks_now tooks_now (took ∷ [])))
    ∙ sym (append_assoc front (asks_now ++ tooks_now) (took ∷ [])) in
    added_at p (taking (outcome ∷ []) p) k after m.lane added i
    (subst (λ (l : List Item). Adds k m.lane l after) entry m.adds) refl refl (refl, tt)
    (now ∙ (out ∙ ap (λ (l : List NumberedAction). actions_at p ++ l) (sym one)))

-- there was a body to take
pub not_all_taken : (p : Position) (k after : Knowledge) → IsAt p k → length p.taken < p.asks
    → MadeInTime k (PerformMeans k performs.Nothing) after → ⊥
not_all_taken p k after i less m =
    let high = behind p + length p.taken in
    let a = asked_is p k i in
    let yes = m.meaning.0 high (omega arith) in
    let none = (taken_are p k i).behind high (omega arith) in
    let e : is_some {T = Outcome} None ≡ true = ap is_some (sym (own_taken p k i high ∙ none)) ∙ yes in
    cc

-- ---- several calls

pub asked_none : (k : Knowledge) → HasAskedMore 0 k k
asked_none k p i none = let e : p.asks ≡ p.asks + 0 = omega arith in
    subst (λ (n : ℕ). IsAt (record p { asks = n }) k) e i

pub asked_then : (a b : ℕ) (k mid after : Knowledge) → HasAskedMore a k mid → HasAskedMore b mid after
    → HasAskedMore (a + b) k after
asked_then a b k mid after one two p i none =
    let e : p.asks + a + b ≡ p.asks + (a + b) = omega arith in
    subst (λ (n : ℕ). IsAt (record p { asks = n }) after) e (two (asking a p) (one p i none) none)

pub took_none : (k : Knowledge) → HasTakenThese [] k k
took_none k p i = subst (λ (l : List Outcome). IsAt (record p { taken = l }) k) (sym (append-nil p.taken)) i

pub took_then : (xs ys : List Outcome) (k mid after : Knowledge) → HasTakenThese xs k mid → HasTakenThese ys mid after
    → HasTakenThese (xs ++ ys) k after
took_then xs ys k mid after one two p i =
    subst (λ (l : List Outcome). IsAt (record p { taken = l }) after) (append_assoc p.taken xs ys)
    (two (taking xs p) (one p i))

-- a dispatch is done
pub dispatch_done_at : (client planned : ℕ) (done : List (List Outcome)) (more : List Outcome) (n : ℕ)
    (k mid after : Knowledge) → IsAt (between client planned done) k → HasAskedMore n k mid
    → HasTakenThese more mid after → length more ≡ n
    → IsAt (between client planned (done ++ more ∷ [])) after
dispatch_done_at client planned done more n k mid after i ask took many =
    let j = took (asking n (between client planned done)) (ask (between client planned done) i refl) in
    let e : 0 + n ≡ length more = omega arith in record {
      number = j.number;
      plans = j.plans;
      items = j.items;
      coded = j.coded;
      makers = j.makers;
      actions = j.actions ∙ (ap (λ (m : ℕ). dispatches_from 0
          done ++ (asks_from (length (outcomes_in_order done)) m ++ tooks_from (length (outcomes_in_order done)) more)) e
          ∙ dispatch_done done more);
    }

-- ---- no Plan

pub no_plan_none : (k : Knowledge) → AddsNoPlan k k
no_plan_none k = record {
  same_number = refl;
  same_joined = refl;
  added = [];
  grew = sym (append-nil k.mine);
  none = tt;
}

none_append : (xs ys : List Item) → AllByRecursion (λ (x : Item). plan_in x.what ≡ None) xs
    → AllByRecursion (λ (x : Item). plan_in x.what ≡ None) ys
    → AllByRecursion (λ (x : Item). plan_in x.what ≡ None) (xs ++ ys)
none_append [] ys a b = b
none_append (x ∷ xs) ys a b = (a.0, none_append xs ys a.1 b)

pub no_plan_then : (k mid after : Knowledge) → AddsNoPlan k mid → AddsNoPlan mid after → AddsNoPlan k after
no_plan_then k mid after a b = record {
  same_number = b.same_number ∙ a.same_number;
  same_joined = b.same_joined ∙ a.same_joined;
  added = a.added ++ b.added;
  grew = b.grew ∙ (ap (λ (l : List Recorded). l ++ map as_recorded b.added) a.grew
      ∙ (append_assoc k.mine (map as_recorded a.added) (map as_recorded b.added)
      ∙ ap (λ (l : List Recorded). k.mine ++ l) (sym (map-append as_recorded a.added b.added))));
  none = none_append a.added b.added a.none b.none;
}

no_plan_added : (k after : Knowledge) (lane : FoundLane) (added : List Item) → Adds k lane added after
    → AllByRecursion (λ (x : Item). plan_in x.what ≡ None) added → AddsNoPlan k after
no_plan_added k after lane added a none = record {
  same_number = ap (λ (z : Knowledge). z.number) a.rest_same;
  same_joined = ap (λ (z : Knowledge). z.joined) a.rest_same;
  added = added;
  grew = a.mine_now;
  none = none;
}

abbrev PlansNothing : List Item → Type 0
PlansNothing items = AllByRecursion (λ (x : Item). plan_in x.what ≡ None) items

pub no_plan_looked : (k after : Knowledge) → MadeInTime k IsNone after → AddsNoPlan k after
no_plan_looked k after m = no_plan_added k after m.lane m.added m.adds (subst PlansNothing (sym m.meaning) tt)

pub no_plan_asked : (k after : Knowledge) (seq : ℕ) → MadeInTime k (AskMeans k (asks.Asked seq)) after
    → AddsNoPlan k after
no_plan_asked k after seq m = no_plan_added k after m.lane m.added m.adds
    (subst PlansNothing (sym m.meaning.entry) (refl, tt))

pub no_plan_took : (k after : Knowledge) (outcome : Outcome)
    → MadeInTime k (PerformMeans k (performs.Ready outcome)) after → AddsNoPlan k after
no_plan_took k after outcome m = no_plan_added k after m.lane m.added m.adds
    (subst PlansNothing (sym m.meaning.entry) (refl, tt))
