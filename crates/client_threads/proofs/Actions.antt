-- What a list of actions tells: how many bodies were asked or planned, and which were taken.
use Rattle.std.proofs.Common.{◌≡◌, ℕ, ◌+◌, ◌<◌, ◌≤◌, zero, suc, Bool, true, false, ◌==◌, if◌then◌else◌, List, [], ◌∷◌}
use Rattle.std.proofs.Common.{◌++◌, map, length, Option, Some, None, is_some, inl, inr, refl, sym, ap, ◌∙◌, subst}
use Rattle.std.proofs.Common.{arith, length-append, append-nil, append_assoc}
use Rattle.std.proofs.lemmas.Bool.{eq-eqb, eqb-true, cases_lt}
use Rattle.std.specs.List.{AllByRecursion}
use Rattle.std.specs.Option.{option_or}
use Rattle.lane_record.specs.declared.outcome.Outcome.{Outcome}
use Rattle.lane_record.specs.declared.item.Item.{Item}
use Rattle.lane_record.specs.declared.item.What.{What}
use Rattle.lane_record.specs.declared.item.What.TheVariants.{Plan, Seal, Ask, Took}
use Rattle.lane_record.specs.Items.{ask_in, told_by_first, numbers, plan_in, took_in}
use Rattle.lane_record.specs.Dispatches.{Action, Planned, Sealed, Asked, Taken, NumberedAction, action_of, asks_from}
use Rattle.lane_record.specs.Dispatches.{dispatches_from, outcomes_in_order, numbered_action, plans_from, tooks_from}
use Rattle.lane_tables.proofs.TakenRows.{or_right}

-- ---- counts of actions

abbrev pub one_if_asked : Action → ℕ
one_if_asked (Planned body) = 0
one_if_asked Sealed = 0
one_if_asked Asked = 1
one_if_asked (Taken outcome) = 0

abbrev pub one_if_planned : Action → ℕ
one_if_planned (Planned body) = 1
one_if_planned Sealed = 0
one_if_planned Asked = 0
one_if_planned (Taken outcome) = 0

abbrev pub count : (Action → ℕ) → List NumberedAction → ℕ
count f [] = 0
count f (x ∷ xs) = f x.action + count f xs

pub count_append : (f : Action → ℕ) (xs ys : List NumberedAction) → count f (xs ++ ys) ≡ count f xs + count f ys
count_append f [] ys = omega arith
count_append f (x ∷ xs) ys = let h = count_append f xs ys in omega arith

abbrev pub one_if : Bool → ℕ
one_if b = if b then 1 else 0

one_more : (b : Bool) (n : ℕ) (ns : List ℕ) (w rest : ℕ) → one_if b ≡ w → length ns ≡ rest
    → length (if b then n ∷ ns else ns) ≡ w + rest
one_more true n ns w rest e h = omega arith
one_more false n ns w rest e h = omega arith

abbrev pub AreOf : ℕ → List Item → Type 0
AreOf client items = AllByRecursion (λ (x : Item). x.client ≡ client) items

pub of_append : (client : ℕ) (xs ys : List Item) → AreOf client xs → AreOf client ys → AreOf client (xs ++ ys)
of_append client [] ys a b = b
of_append client (x ∷ xs) ys a b = (a.0, of_append client xs ys a.1 b)

-- the numbers of a client's entries of one kind are as many as its actions of that kind
counted : {A : Type 0} (kind : What → Option A) (f : Action → ℕ)
    → ((w : What) → one_if (is_some (kind w)) ≡ f (action_of w)) → (client : ℕ) (items : List Item) → AreOf client items
    → length (numbers kind client items) ≡ count f (map numbered_action items)
counted kind f same client [] a = refl
counted kind f same client (x ∷ xs) a =
    let rest = counted kind f same client xs a.1 in
    rw (eq-eqb x.client client a.0) (one_more (is_some (kind x.what)) x.seq (numbers kind client xs)
    (f (action_of x.what)) (count f (map numbered_action xs)) (same x.what) rest)

asked_one : (w : What) → one_if (is_some (ask_in w)) ≡ one_if_asked (action_of w)
asked_one (Plan body) = refl
asked_one Seal = refl
asked_one (Ask give_ups) = refl
asked_one (Took outcome give_ups) = refl

planned_one : (w : What) → one_if (is_some (plan_in w)) ≡ one_if_planned (action_of w)
planned_one (Plan body) = refl
planned_one Seal = refl
planned_one (Ask give_ups) = refl
planned_one (Took outcome give_ups) = refl

pub asked_counted : (client : ℕ) (items : List Item) → AreOf client items
    → length (numbers ask_in client items) ≡ count one_if_asked (map numbered_action items)
asked_counted = counted ask_in one_if_asked asked_one

pub planned_counted : (client : ℕ) (items : List Item) → AreOf client items
    → length (numbers plan_in client items) ≡ count one_if_planned (map numbered_action items)
planned_counted = counted plan_in one_if_planned planned_one

-- ---- what was taken

abbrev pub outcome_in : Action → Option Outcome
outcome_in (Planned body) = None
outcome_in Sealed = None
outcome_in Asked = None
outcome_in (Taken outcome) = Some outcome

abbrev pub taken_of : ℕ → List NumberedAction → Option Outcome
taken_of seq [] = None
taken_of seq (x ∷ xs) = option_or (if x.seq == seq then outcome_in x.action else None) (taken_of seq xs)

took_same : (w : What) → took_in w ≡ outcome_in (action_of w)
took_same (Plan body) = refl
took_same Seal = refl
took_same (Ask give_ups) = refl
took_same (Took outcome give_ups) = refl

pub found_taken : (client seq : ℕ) (items : List Item) → AreOf client items
    → told_by_first took_in client seq items ≡ taken_of seq (map numbered_action items)
found_taken client seq [] a = refl
found_taken client seq (x ∷ xs) a =
    let rest = found_taken client seq xs a.1 in
    rw (eq-eqb x.client client a.0) (λ i. option_or (if x.seq == seq then took_same x.what i else None) (rest i))

or_assoc : {A : Type 0} (o p q : Option A) → option_or o (option_or p q) ≡ option_or (option_or o p) q
or_assoc None p q = refl
or_assoc (Some x) p q = refl

taken_append : (seq : ℕ) (xs ys : List NumberedAction) → taken_of seq (xs ++ ys) ≡ option_or (taken_of seq xs)
    (taken_of seq ys)
taken_append seq [] ys = refl
taken_append seq (x ∷ xs) ys =
    ap (option_or (if x.seq == seq then outcome_in x.action else None)) (taken_append seq xs ys)
    ∙ or_assoc (if x.seq == seq then outcome_in x.action else None) (taken_of seq xs) (taken_of seq ys)

some_first : {A : Type 0} (o p : Option A) → is_some o ≡ true → is_some (option_or o p) ≡ true
some_first None p e = absurd (cc)
some_first (Some x) p e = refl

none_both : {A : Type 0} (o p : Option A) → o ≡ None → p ≡ None → option_or o p ≡ None
none_both None p e f = f
none_both (Some x) p e f = absurd (cc)

none_either : {A : Type 0} (b : Bool) (o : Option A) → option_or (if b then None else None) o ≡ o
none_either true o = refl
none_either false o = refl

-- the bodies from one number up to another were taken, and no others
pub record Takes (low high : ℕ) (xs : List NumberedAction) : Type 0 where
  pub inside : (seq : ℕ) → low ≤ seq → seq < high → is_some (taken_of seq xs) ≡ true
  pub before : (seq : ℕ) → seq < low → taken_of seq xs ≡ None
  pub behind : (seq : ℕ) → high ≤ seq → taken_of seq xs ≡ None

pub takes_append : (a b c : ℕ) (xs ys : List NumberedAction) → Takes a b xs → Takes b c ys → a ≤ b → b ≤ c
    → Takes a c (xs ++ ys)
takes_append a b c xs ys t u le le' = record {
  inside = λ seq low high. subst (λ o. is_some o ≡ true) (sym (taken_append seq xs ys)) (elim (cases_lt seq b) [
    | inl lt ↦ some_first (taken_of seq xs) (taken_of seq ys) (t.inside seq low lt)
    | inr ge ↦ or_right (taken_of seq xs) (taken_of seq ys) (u.inside seq ge high)
  ]);
  before = λ seq lt. taken_append seq xs ys ∙ none_both (taken_of seq xs) (taken_of seq ys) (t.before seq lt)
      (u.before seq (omega arith));
  behind = λ seq ge. taken_append seq xs ys ∙ none_both (taken_of seq xs) (taken_of seq ys)
      (t.behind seq (omega arith)) (u.behind seq ge);
}

takes_nothing : (n : ℕ) (xs : List NumberedAction) → ((seq : ℕ) → taken_of seq xs ≡ None) → Takes n n xs
takes_nothing n xs none = record {
  inside = λ seq low high. absurd (omega arith);
  before = λ seq lt. none seq;
  behind = λ seq ge. none seq;
}

-- ---- the Asks and Tooks of a dispatch

pub asks_counted : (seq many : ℕ) → count one_if_asked (asks_from seq many) ≡ many
asks_counted seq zero = refl
asks_counted seq (suc many) = let h = asks_counted (seq + 1) many in omega arith

asks_plan_nothing : (seq many : ℕ) → count one_if_planned (asks_from seq many) ≡ 0
asks_plan_nothing seq zero = refl
asks_plan_nothing seq (suc many) = let h = asks_plan_nothing (seq + 1) many in omega arith

asks_take_nothing : (q seq many : ℕ) → taken_of q (asks_from seq many) ≡ None
asks_take_nothing q seq zero = refl
asks_take_nothing q seq (suc many) = none_either (seq == q) (taken_of q (asks_from (seq + 1) many))
    ∙ asks_take_nothing q (seq + 1) many

tooks_ask_nothing : (seq : ℕ) (outcomes : List Outcome) → count one_if_asked (tooks_from seq outcomes) ≡ 0
tooks_ask_nothing seq [] = refl
tooks_ask_nothing seq (o ∷ os) = let h = tooks_ask_nothing (seq + 1) os in omega arith

tooks_plan_nothing : (seq : ℕ) (outcomes : List Outcome) → count one_if_planned (tooks_from seq outcomes) ≡ 0
tooks_plan_nothing seq [] = refl
tooks_plan_nothing seq (o ∷ os) = let h = tooks_plan_nothing (seq + 1) os in omega arith

abbrev pub taken_now : ℕ → Outcome → NumberedAction
taken_now seq outcome = record { seq = seq; action = Taken outcome }

if_same : {A : Type 0} (a b : ℕ) (o p : Option A) → a ≡ b → (if a == b then o else p) ≡ o
if_same a b o p e = rw (eq-eqb a b e) refl

if_other : {A : Type 0} (a b : ℕ) (o p : Option A) → (a ≡ b → ⊥) → (if a == b then o else p) ≡ p
if_other a b o p ne = elim (a == b) as (λ t. (a == b) ≡ t → (if t then o else p) ≡ p) [
  | true ↦ λ e. absurd (ne (eqb-true a b e))
  | false ↦ λ e. refl
] refl

took_takes : (seq : ℕ) (outcome : Outcome) → Takes seq (seq + 1) (taken_now seq outcome ∷ [])
took_takes seq outcome = record {
  inside = λ q low high. ap (λ (o : Option Outcome). is_some (option_or o None))
      (if_same seq q (Some outcome) None (omega arith));
  before = λ q lt. ap (λ (o : Option Outcome). option_or o None)
      (if_other seq q (Some outcome) None (λ e. omega arith));
  behind = λ q ge. ap (λ (o : Option Outcome). option_or o None)
      (if_other seq q (Some outcome) None (λ e. omega arith));
}

pub tooks_take : (seq : ℕ) (outcomes : List Outcome) → Takes seq (seq + length outcomes) (tooks_from seq outcomes)
tooks_take seq [] = let e : seq + 0 ≡ seq = omega arith in subst (λ n. Takes seq n []) (sym e)
    (takes_nothing seq [] (λ q. refl))
tooks_take seq (o ∷ os) =
    let e : seq + 1 + length os ≡ seq + length (o ∷ os) = omega arith in
    takes_append seq (seq + 1) (seq + length (o ∷ os)) (taken_now seq o ∷ []) (tooks_from (seq + 1) os)
    (took_takes seq o) (subst (λ n. Takes (seq + 1) n (tooks_from (seq + 1) os)) e (tooks_take (seq + 1) os))
    (omega arith) (omega arith)

-- one more of each
pub asks_push : (seq many : ℕ) → asks_from seq (many + 1) ≡ asks_from seq
    many ++ record { seq = seq + many; action = Asked } ∷ []
asks_push seq zero = let e : seq ≡ seq + 0 = omega arith in ap (λ (n : ℕ). record { seq = n; action = Asked } ∷ []) e
asks_push seq (suc many) =
    let e : suc many + 1 ≡ suc (many + 1) = omega arith in
    let f : seq + 1 + many ≡ seq + suc many = omega arith in
    ap (asks_from seq) e
    ∙ ap (λ (l : List NumberedAction). record { seq = seq; action = Asked } ∷ l) (asks_push (seq + 1) many
    ∙ ap (λ (n : ℕ). asks_from (seq + 1) many ++ record { seq = n; action = Asked } ∷ []) f)

pub tooks_push : (seq : ℕ) (outcomes : List Outcome) (outcome : Outcome)
    → tooks_from seq (outcomes ++ outcome ∷ []) ≡ tooks_from seq outcomes ++ taken_now
    (seq + length outcomes) outcome ∷ []
tooks_push seq [] outcome = let e : seq ≡ seq + 0 = omega arith in ap (λ (n : ℕ). taken_now n outcome ∷ []) e
tooks_push seq (o ∷ os) outcome =
    let f : seq + 1 + length os ≡ seq + length (o ∷ os) = omega arith in
    ap (λ (l : List NumberedAction). taken_now seq o ∷ l) (tooks_push (seq + 1) os outcome
    ∙ ap (λ (n : ℕ). tooks_from (seq + 1) os ++ taken_now n outcome ∷ []) f)

-- ---- whole dispatches

length_joined : (o : List Outcome) (ds : List (List Outcome)) → length (outcomes_in_order (o ∷ ds)) ≡ length o + length (outcomes_in_order ds)
length_joined o ds = length-append o (outcomes_in_order ds)

pub dispatches_counted : (seq : ℕ) (ds : List (List Outcome))
    → count one_if_asked (dispatches_from seq ds) ≡ length (outcomes_in_order ds)
dispatches_counted seq [] = refl
dispatches_counted seq (o ∷ ds) =
    let rest = dispatches_counted (seq + length o) ds in
    let one = count_append one_if_asked (asks_from seq (length o))
    (tooks_from seq o ++ dispatches_from (seq + length o) ds) in
    let two = count_append one_if_asked (tooks_from seq o) (dispatches_from (seq + length o) ds) in
    omega (arith, asks_counted seq (length o), tooks_ask_nothing seq o, length_joined o ds)

pub dispatches_plan_nothing : (seq : ℕ) (ds : List (List Outcome)) → count one_if_planned (dispatches_from seq ds) ≡ 0
dispatches_plan_nothing seq [] = refl
dispatches_plan_nothing seq (o ∷ ds) =
    let rest = dispatches_plan_nothing (seq + length o) ds in
    let one = count_append one_if_planned (asks_from seq (length o))
    (tooks_from seq o ++ dispatches_from (seq + length o) ds) in
    let two = count_append one_if_planned (tooks_from seq o) (dispatches_from (seq + length o) ds) in
    omega (arith, asks_plan_nothing seq (length o), tooks_plan_nothing seq o)

pub dispatches_take : (seq : ℕ) (ds : List (List Outcome)) → Takes seq (seq + length (outcomes_in_order ds))
    (dispatches_from seq ds)
dispatches_take seq [] = let e : seq + 0 ≡ seq = omega arith in
    subst (λ n. Takes seq n []) (sym e) (takes_nothing seq [] (λ q. refl))
dispatches_take seq (o ∷ ds) =
    let long = length_joined o ds in
    let e : seq + length o + length (outcomes_in_order ds) ≡ seq + length (outcomes_in_order (o ∷ ds)) = omega arith in
    let rest = subst (λ n. Takes (seq + length o) n (dispatches_from (seq + length o) ds)) e
    (dispatches_take (seq + length o) ds) in
    takes_append seq seq (seq + length (outcomes_in_order (o ∷ ds))) (asks_from seq (length o))
    (tooks_from seq o ++ dispatches_from (seq + length o) ds)
    (takes_nothing seq (asks_from seq (length o)) (λ q. asks_take_nothing q seq (length o)))
    (takes_append seq (seq + length o) (seq + length (outcomes_in_order (o ∷ ds))) (tooks_from seq o)
    (dispatches_from (seq + length o) ds) (tooks_take seq o) rest (omega arith) (omega arith)) (omega arith)
    (omega arith)

-- what a client did so far: whole dispatches, and of the next one so many Asks and the Tooks of these outcomes
abbrev pub so_far : List (List Outcome) → ℕ → List Outcome → List NumberedAction
so_far ds asks outcomes = dispatches_from 0 ds ++ (asks_from (length (outcomes_in_order ds)) asks ++ tooks_from
    (length (outcomes_in_order ds)) outcomes)

pub asked_so_far : (ds : List (List Outcome)) (asks : ℕ) (outcomes : List Outcome)
    → count one_if_asked (so_far ds asks outcomes) ≡ length (outcomes_in_order ds) + asks
asked_so_far ds asks outcomes =
    let n = length (outcomes_in_order ds) in
    let one = count_append one_if_asked (dispatches_from 0 ds) (asks_from n asks ++ tooks_from n outcomes) in
    let two = count_append one_if_asked (asks_from n asks) (tooks_from n outcomes) in
    omega (arith, dispatches_counted 0 ds, asks_counted n asks, tooks_ask_nothing n outcomes)

pub planned_so_far : (ds : List (List Outcome)) (asks : ℕ) (outcomes : List Outcome)
    → count one_if_planned (so_far ds asks outcomes) ≡ 0
planned_so_far ds asks outcomes =
    let n = length (outcomes_in_order ds) in
    let one = count_append one_if_planned (dispatches_from 0 ds) (asks_from n asks ++ tooks_from n outcomes) in
    let two = count_append one_if_planned (asks_from n asks) (tooks_from n outcomes) in
    omega (arith, dispatches_plan_nothing 0 ds, asks_plan_nothing n asks, tooks_plan_nothing n outcomes)

pub taken_so_far : (ds : List (List Outcome)) (asks : ℕ) (outcomes : List Outcome)
    → Takes 0 (length (outcomes_in_order ds) + length outcomes) (so_far ds asks outcomes)
taken_so_far ds asks outcomes =
    let n = length (outcomes_in_order ds) in
    let e : 0 + n ≡ n = omega arith in
    let front = subst (λ m. Takes 0 m (dispatches_from 0 ds)) e (dispatches_take 0 ds) in
    takes_append 0 n (n + length outcomes) (dispatches_from 0 ds) (asks_from n asks ++ tooks_from n outcomes) front
    (takes_append n n (n + length outcomes) (asks_from n asks) (tooks_from n outcomes)
    (takes_nothing n (asks_from n asks) (λ q. asks_take_nothing q n asks)) (tooks_take n outcomes) (omega arith)
    (omega arith)) (omega arith) (omega arith)

-- one more dispatch
pub joined_more : (ds : List (List Outcome)) (o : List Outcome) → outcomes_in_order (ds ++ o ∷ []) ≡ outcomes_in_order ds ++ o
joined_more [] o = append-nil o
joined_more (d ∷ ds) o = ap (λ (l : List Outcome). d ++ l) (joined_more ds o) ∙ sym (append_assoc d (outcomes_in_order ds) o)

dispatch_push : (seq : ℕ) (ds : List (List Outcome)) (o : List Outcome)
    → dispatches_from seq (ds ++ o ∷ []) ≡ dispatches_from seq
    ds ++ (asks_from (seq + length (outcomes_in_order ds)) (length o) ++ tooks_from (seq + length (outcomes_in_order ds)) o)
dispatch_push seq [] o =
    let e : seq ≡ seq + 0 = omega arith in
    ap (λ (l : List NumberedAction). asks_from seq (length o) ++ l) (append-nil (tooks_from seq o))
    ∙ ap (λ (n : ℕ). asks_from n (length o) ++ tooks_from n o) e
dispatch_push seq (d ∷ ds) o =
    let long = length_joined d ds in
    let e : seq + length d + length (outcomes_in_order ds) ≡ seq + length (outcomes_in_order (d ∷ ds)) = omega arith in
    let asks = asks_from seq (length d) in
    let tooks = tooks_from seq d in
    let rest = dispatches_from (seq + length d) ds in
    let last = λ (n : ℕ). asks_from n (length o) ++ tooks_from n o in
    ap (λ (l : List NumberedAction). asks ++ (tooks ++ l)) (dispatch_push (seq + length d) ds o
    ∙ ap (λ (n : ℕ). rest ++ last n) e)
    ∙ (ap (λ (l : List NumberedAction). asks ++ l)
    (sym (append_assoc tooks rest (last (seq + length (outcomes_in_order (d ∷ ds))))))
    ∙ sym (append_assoc asks (tooks ++ rest) (last (seq + length (outcomes_in_order (d ∷ ds))))))

pub dispatch_done : (ds : List (List Outcome)) (o : List Outcome) → so_far ds (length o) o ≡ so_far (ds ++ o ∷ []) 0 []
dispatch_done ds o =
    let e : 0 + length (outcomes_in_order ds) ≡ length (outcomes_in_order ds) = omega arith in
    sym (append-nil (dispatches_from 0 (ds ++ o ∷ [])) ∙ (dispatch_push 0 ds o
    ∙ ap (λ (n : ℕ). dispatches_from 0 ds ++ (asks_from n (length o) ++ tooks_from n o)) e))

-- ---- the Plans of a client

pub plans_are_of : (client seq : ℕ) (bodies : List (List ℕ)) → AreOf client (plans_from client seq bodies)
plans_are_of client seq [] = tt
plans_are_of client seq (b ∷ bs) = (refl, plans_are_of client (seq + 1) bs)

pub plans_ask_nothing : (client seq : ℕ) (bodies : List (List ℕ))
    → count one_if_asked (map numbered_action (plans_from client seq bodies)) ≡ 0
plans_ask_nothing client seq [] = refl
plans_ask_nothing client seq (b ∷ bs) = let h = plans_ask_nothing client (seq + 1) bs in omega arith

pub plans_counted : (client seq : ℕ) (bodies : List (List ℕ))
    → count one_if_planned (map numbered_action (plans_from client seq bodies)) ≡ length bodies
plans_counted client seq [] = refl
plans_counted client seq (b ∷ bs) = let h = plans_counted client (seq + 1) bs in omega arith

plans_take_none : (q client seq : ℕ) (bodies : List (List ℕ))
    → taken_of q (map numbered_action (plans_from client seq bodies)) ≡ None
plans_take_none q client seq [] = refl
plans_take_none q client seq (b ∷ bs) = none_either (seq == q)
    (taken_of q (map numbered_action (plans_from client (seq + 1) bs))) ∙ plans_take_none q client (seq + 1) bs

pub plans_take_nothing : (client : ℕ) (bodies : List (List ℕ))
    → Takes 0 0 (map numbered_action (plans_from client 0 bodies))
plans_take_nothing client bodies = takes_nothing 0 (map numbered_action (plans_from client 0 bodies))
    (λ q. plans_take_none q client 0 bodies)
