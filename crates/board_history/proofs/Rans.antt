-- The entries of a client that ran its dispatches, with their numbers of give-ups.
use Rattle.std.proofs.Common.{◌≡◌, ℕ, zero, suc, ◌+◌, List, [], ◌∷◌, ◌++◌, length, map}
use Rattle.std.proofs.Common.{refl, ap, ◌∙◌, subst}
use Rattle.std.specs.List.{AllByRecursion, flat_map}
use Rattle.std.proofs.lemmas.List.{length-map}
use Rattle.lane_record.specs.declared.outcome.Outcome.{Outcome}
use Rattle.lane_record.specs.declared.item.Item.{Item}
use Rattle.lane_record.specs.declared.item.What.{What}
use Rattle.lane_record.specs.declared.item.What.TheVariants.{Plan, Seal, Ask, Took}
use Rattle.lane_record.specs.Dispatches.{action_of, NumberedAction, numbered_action}
use Rattle.lane_record.specs.Dispatches.{Asked, Taken}
use Rattle.lane_record.specs.Dispatches.{asks_from, tooks_from, dispatches_from}
use Rattle.board_history.proofs.Own.{IsBy}

-- what was taken, and how many times the lane had given up then
pub record Taking : Type 0 where
  pub outcome : Outcome
  pub give_ups : ℕ

-- one dispatch: how many times the lane had given up at its Asks, and what was taken
pub record Ran : Type 0 where
  pub asked : List ℕ
  pub took : List Taking

abbrev pub outcome_took : Taking → Outcome
outcome_took t = t.outcome

abbrev pub outcomes_ran : Ran → List Outcome
outcomes_ran r = map outcome_took r.took

abbrev pub ask_items : ℕ → ℕ → List ℕ → List Item
ask_items client seq [] = []
ask_items client seq (n ∷ ns) = record { client = client; seq = seq; what = Ask n } ∷ ask_items client (seq + 1) ns

abbrev pub took_items : ℕ → ℕ → List Taking → List Item
took_items client seq [] = []
took_items client seq (t ∷ ts) =
    record { client = client; seq = seq; what = Took t.outcome t.give_ups } ∷ took_items client (seq + 1) ts

abbrev pub ran_items : ℕ → ℕ → List Ran → List Item
ran_items client seq [] = []
ran_items client seq (r ∷ rs) =
    ask_items client seq r.asked ++ (took_items client seq r.took ++ ran_items client (seq + length r.took) rs)

abbrev pub AreWhole : List Ran → Type 0
AreWhole [] = Unit {0}
AreWhole (r ∷ rs) = (length r.asked ≡ length r.took) × AreWhole rs

abbrev pub all_asked : List Ran → List ℕ
all_asked rs = flat_map (λ (r : Ran). r.asked) rs

abbrev pub all_took : List Ran → List Taking
all_took rs = flat_map (λ (r : Ran). r.took) rs

-- ---- from what was done to the entries

-- a list of actions in two parts
pub record InParts (xs : List Item) (as' bs : List NumberedAction) : Type 0 where
  pub front : List Item
  pub back : List Item
  pub parts : xs ≡ front ++ back
  pub first : map numbered_action front ≡ as'
  pub second : map numbered_action back ≡ bs

in_parts : (xs : List Item) (as' bs : List NumberedAction) → map numbered_action xs ≡ as' ++ bs → InParts xs as' bs
in_parts xs [] bs e = record { front = []; back = xs; parts = refl; first = refl; second = e }
in_parts [] (a ∷ as') bs e = absurd cc
in_parts (x ∷ xs) (a ∷ as') bs e =
    let tail : map numbered_action xs ≡ as' ++ bs = cc in
    let head : numbered_action x ≡ a = cc in
    let later = in_parts xs as' bs tail in
    record {
      front = x ∷ later.front;
      back = later.back;
      parts = ap (λ (ys : List Item). x ∷ ys) later.parts;
      first =
          ap (λ (y : NumberedAction). y ∷ map numbered_action later.front) head
          ∙ ap (λ (ys : List NumberedAction). a ∷ ys) later.first;
      second = later.second;
    }

-- an entry that says Asked, or Taken
pub record IsAsk (what : What) : Type 0 where
  pub give_ups : ℕ
  pub same : what ≡ Ask give_ups

is_ask : (what : What) → action_of what ≡ Asked → IsAsk what
is_ask (Plan body) e = absurd cc
is_ask Seal e = absurd cc
is_ask (Ask n) e = record { give_ups = n; same = refl }
is_ask (Took outcome n) e = absurd cc

pub record IsTook (what : What) (outcome : Outcome) : Type 0 where
  pub give_ups : ℕ
  pub same : what ≡ Took outcome give_ups

is_took : (what : What) (outcome : Outcome) → action_of what ≡ Taken outcome → IsTook what outcome
is_took (Plan body) outcome e = absurd cc
is_took Seal outcome e = absurd cc
is_took (Ask n) outcome e = absurd cc
is_took (Took o n) outcome e =
    record { give_ups = n; same = let s : o ≡ outcome = cc in ap (λ (z : Outcome). Took z n) s }

same_item : (x : Item) (client seq : ℕ) (what : What) → x.client ≡ client → x.seq ≡ seq → x.what ≡ what
    → x ≡ record { client = client; seq = seq; what = what }
same_item x client seq what c s w =
    ap (λ (k : ℕ). record { client = k; seq = x.seq; what = x.what }) c
    ∙ ap (λ (k : ℕ). record { client = client; seq = k; what = x.what }) s
    ∙ ap (λ (k : What). record { client = client; seq = seq; what = k }) w

pub record AsksIn (client seq many : ℕ) (xs : List Item) : Type 0 where
  pub asked : List ℕ
  pub items : xs ≡ ask_items client seq asked
  pub count : length asked ≡ many

asks_in : (client seq many : ℕ) (xs : List Item) → AllByRecursion (IsBy client) xs
    → map numbered_action xs ≡ asks_from seq many
    → AsksIn client seq many xs
asks_in client seq zero [] by e = record { asked = []; items = refl; count = refl }
asks_in client seq zero (x ∷ xs) by e = absurd cc
asks_in client seq (suc many) [] by e = absurd cc
asks_in client seq (suc many) (x ∷ xs) by e =
    let head : numbered_action x ≡ record { seq = seq; action = Asked } = cc in
    let s : x.seq ≡ seq = ap (λ (a : NumberedAction). a.seq) head in
    let d : action_of x.what ≡ Asked = ap (λ (a : NumberedAction). a.action) head in
    let tail : map numbered_action xs ≡ asks_from (seq + 1) many = cc in
    let what = is_ask x.what d in
    let later = asks_in client (seq + 1) many xs by.1 tail in
    record {
      asked = what.give_ups ∷ later.asked;
      items = ap (λ (y : Item). y ∷ xs) (same_item x client seq (Ask what.give_ups) by.0 s what.same)
          ∙ ap (λ (ys : List Item). record { client = client; seq = seq; what = Ask what.give_ups } ∷ ys) later.items;
      count = ap suc later.count;
    }

pub record TooksIn (client seq : ℕ) (outcomes : List Outcome) (xs : List Item) : Type 0 where
  pub took : List Taking
  pub items : xs ≡ took_items client seq took
  pub same : outcomes ≡ map outcome_took took

tooks_in : (client seq : ℕ) (outcomes : List Outcome) (xs : List Item) → AllByRecursion (IsBy client) xs
    → map numbered_action xs ≡ tooks_from seq outcomes → TooksIn client seq outcomes xs
tooks_in client seq [] [] by e = record { took = []; items = refl; same = refl }
tooks_in client seq [] (x ∷ xs) by e = absurd cc
tooks_in client seq (o ∷ os) [] by e = absurd cc
tooks_in client seq (o ∷ os) (x ∷ xs) by e =
    let head : numbered_action x ≡ record { seq = seq; action = Taken o } = cc in
    let s : x.seq ≡ seq = ap (λ (a : NumberedAction). a.seq) head in
    let d : action_of x.what ≡ Taken o = ap (λ (a : NumberedAction). a.action) head in
    let tail : map numbered_action xs ≡ tooks_from (seq + 1) os = cc in
    let what = is_took x.what o d in
    let later = tooks_in client (seq + 1) os xs by.1 tail in
    record {
      took = record { outcome = o; give_ups = what.give_ups } ∷ later.took;
      items = ap (λ (y : Item). y ∷ xs) (same_item x client seq (Took o what.give_ups) by.0 s what.same)
          ∙ ap (λ (ys : List Item). record { client = client; seq = seq; what = Took o what.give_ups } ∷ ys)
          later.items;
      same = ap (λ (zs : List Outcome). o ∷ zs) later.same;
    }

-- ---- all dispatches

pub record RansIn (client seq : ℕ) (dispatches : List (List Outcome)) (xs : List Item) : Type 0 where
  pub rans : List Ran
  pub whole : AreWhole rans
  pub items : xs ≡ ran_items client seq rans
  pub same : dispatches ≡ map outcomes_ran rans

front_by : (client : ℕ) (xs ys zs : List Item) → xs ≡ ys ++ zs → AllByRecursion (IsBy client) xs
    → AllByRecursion (IsBy client) ys × AllByRecursion (IsBy client) zs
front_by client xs [] zs e all = (tt, subst (AllByRecursion (IsBy client)) e all)
front_by client [] (y ∷ ys) zs e all = absurd cc
front_by client (x ∷ xs) (y ∷ ys) zs e all =
    let tail : xs ≡ ys ++ zs = cc in
    let head : x ≡ y = cc in
    let later = front_by client xs ys zs tail all.1 in
    ((subst (IsBy client) head all.0, later.0), later.1)

pub rans_in : (client seq : ℕ) (dispatches : List (List Outcome)) (xs : List Item) → AllByRecursion (IsBy client) xs
    → map numbered_action xs ≡ dispatches_from seq dispatches → RansIn client seq dispatches xs
rans_in client seq [] [] by e = record { rans = []; whole = tt; items = refl; same = refl }
rans_in client seq [] (x ∷ xs) by e = absurd cc
rans_in client seq (outcomes ∷ later) xs by e =
    let one = in_parts xs (asks_from seq (length outcomes))
    (tooks_from seq outcomes ++ dispatches_from (seq + length outcomes) later) e in
    let two = in_parts one.back (tooks_from seq outcomes) (dispatches_from (seq + length outcomes) later) one.second in
    let by_one = front_by client xs one.front one.back one.parts by in
    let by_two = front_by client one.back two.front two.back two.parts by_one.1 in
    let asks = asks_in client seq (length outcomes) one.front by_one.0 one.first in
    let tooks = tooks_in client seq outcomes two.front by_two.0 two.first in
    let count : length outcomes ≡ length tooks.took =
    ap length tooks.same ∙ length-map tooks.took outcome_took in
    let rest = rans_in client (seq + length tooks.took) later two.back by_two.1
    (subst (λ (k : ℕ). map numbered_action two.back ≡ dispatches_from (seq + k) later) count two.second) in
    let run : Ran = record { asked = asks.asked; took = tooks.took } in
    record {
      rans = run ∷ rest.rans;
      whole = (asks.count ∙ count, rest.whole);
      items = one.parts ∙ ap (λ (ys : List Item). ys ++ one.back) asks.items
          ∙ ap (λ (ys : List Item). ask_items client seq asks.asked ++ ys)
          (two.parts ∙ ap (λ (ys : List Item). ys ++ two.back) tooks.items
          ∙ ap (λ (ys : List Item). took_items client seq tooks.took ++ ys) rest.items);
      same = ap (λ (os : List Outcome). os ∷ later) tooks.same
          ∙ ap (λ (oss : List (List Outcome)). map outcome_took tooks.took ∷ oss) rest.same;
    }
