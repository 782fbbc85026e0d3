-- Look-ups in the entries of a client that ran its dispatches.
use Rattle.std.proofs.Common.{◌≡◌, ℕ, zero, suc, ◌+◌, ◌-◌, ◌≤◌, Bool, true, false, ◌==◌, ◌&&◌, List, [], ◌∷◌, ◌++◌}
use Rattle.std.proofs.Common.{length, map, Option, Some, None, refl, sym, ap, ◌∙◌, arith, length-append, if◌then◌else◌}
use Rattle.std.specs.Prelude.{is_some}
use Rattle.std.specs.List.{AllByRecursion, slice_get}
use Rattle.std.specs.Option.{option_or}
use Rattle.std.proofs.lemmas.Bool.{eq-eqb}
use Rattle.std.proofs.lemmas.Bool.Decides.{nat_tests}
use Rattle.std.proofs.lemmas.List.{length-map, map-append}
use Rattle.ipb_base.proofs.AllLemmas.{AllByRecursion-append}
use Rattle.world_model.proofs.Lists.{either}
use Rattle.lane_record.specs.declared.outcome.Outcome.{Outcome}
use Rattle.lane_record.specs.declared.item.Item.{Item}
use Rattle.lane_record.specs.declared.item.What.{What}
use Rattle.lane_record.specs.declared.item.What.TheVariants.{Plan, Ask, Took}
use Rattle.lane_record.specs.Items.{plan_in, ask_in, took_in, numbers, told_by_first, is_of}
use Rattle.lane_record.proofs.Lookups.{found_append, numbers_append}
use Rattle.lane_record.specs.Dispatches.{plans_from}
use Rattle.board_history.proofs.Rans.{Taking, Ran, outcome_took, ask_items, took_items, ran_items, AreWhole}
use Rattle.board_history.proofs.Rans.{all_asked, all_took}

-- ---- entries of other kinds

abbrev pub IsNot : {A : Type 0} → (What → Option A) → Item → Type 0
IsNot kind x = kind x.what ≡ None

pub not_here : {A : Type 0} (b : Bool) (o later : Option A) → o ≡ None → option_or (if b then o else None) later ≡ later
not_here true None later e = refl
not_here true (Some y) later e = absurd cc
not_here false o later e = refl

pub none_found : {A : Type 0} (kind : What → Option A) (client seq : ℕ) (xs : List Item)
    → AllByRecursion (IsNot kind) xs → told_by_first kind client seq xs ≡ None
none_found kind client seq [] all = refl
none_found kind client seq (x ∷ xs) all =
    not_here (is_of client seq x) (kind x.what) (told_by_first kind client seq xs) all.0
    ∙ none_found kind client seq xs all.1

pub no_number : {A : Type 0} (b : Bool) (o : Option A) (seq : ℕ) (ns : List ℕ) → o ≡ None
    → (if b && is_some o then seq ∷ ns else ns) ≡ ns
no_number true None seq ns e = refl
no_number true (Some y) seq ns e = absurd cc
no_number false o seq ns e = refl

pub no_numbers : {A : Type 0} (kind : What → Option A) (client : ℕ) (xs : List Item)
    → AllByRecursion (IsNot kind) xs → numbers kind client xs ≡ []
no_numbers kind client [] all = refl
no_numbers kind client (x ∷ xs) all =
    no_number (x.client == client) (kind x.what) x.seq (numbers kind client xs) all.0
    ∙ no_numbers kind client xs all.1

pub plans_are_not : {A : Type 0} (kind : What → Option A) (client seq : ℕ) (bodies : List (List ℕ))
    → ((body : List ℕ) → kind (Plan body) ≡ None) → AllByRecursion (IsNot kind) (plans_from client seq bodies)
plans_are_not kind client seq [] f = tt
plans_are_not kind client seq (b ∷ bs) f = (f b, plans_are_not kind client (seq + 1) bs f)

asks_are_not : {A : Type 0} (kind : What → Option A) (client seq : ℕ) (ns : List ℕ)
    → ((n : ℕ) → kind (Ask n) ≡ None) → AllByRecursion (IsNot kind) (ask_items client seq ns)
asks_are_not kind client seq [] f = tt
asks_are_not kind client seq (n ∷ ns) f = (f n, asks_are_not kind client (seq + 1) ns f)

pub tooks_are_not : {A : Type 0} (kind : What → Option A) (client seq : ℕ) (ts : List Taking)
    → ((o : Outcome) (n : ℕ) → kind (Took o n) ≡ None) → AllByRecursion (IsNot kind) (took_items client seq ts)
tooks_are_not kind client seq [] f = tt
tooks_are_not kind client seq (t ∷ ts) f = (f t.outcome t.give_ups, tooks_are_not kind client (seq + 1) ts f)

pub rans_are_no_plans : (client seq : ℕ) (rs : List Ran) → AllByRecursion (IsNot plan_in) (ran_items client seq rs)
rans_are_no_plans client seq [] = tt
rans_are_no_plans client seq (r ∷ rs) =
    AllByRecursion-append (IsNot plan_in) (ask_items client seq r.asked)
    (took_items client seq r.took ++ ran_items client (seq + length r.took) rs)
    (asks_are_not plan_in client seq r.asked (λ n. refl))
    (AllByRecursion-append (IsNot plan_in) (took_items client seq r.took)
    (ran_items client (seq + length r.took) rs)
    (tooks_are_not plan_in client seq r.took (λ o n. refl)) (rans_are_no_plans client (seq + length r.took) rs))

-- ---- the first entry

-- the first entry of a list is found under its number, and no other number
found_first : {A : Type 0} (kind : What → Option A) (client seq : ℕ) (what : What) (rest : List Item) (y : A)
    → kind what ≡ Some y
    → told_by_first kind client (seq + 0) (record { client = client; seq = seq; what = what } ∷ rest) ≡ Some y
found_first kind client seq what rest y e =
    let same : seq ≡ seq + 0 = omega arith in
    rw (eq-eqb client client refl) (rw (eq-eqb seq (seq + 0) same) (rw e refl))

found_rest : {A : Type 0} (kind : What → Option A) (client seq j : ℕ) (what : What) (rest : List Item)
    → told_by_first kind client (seq + suc j) (record { client = client; seq = seq; what = what } ∷ rest)
    ≡ told_by_first kind client (seq + 1 + j) rest
found_rest kind client seq j what rest =
    let on : seq + suc j ≡ seq + 1 + j = omega arith in
    ap (option_or (if is_of client (seq + suc j) (record { client = client; seq = seq; what = what })
    then kind what else None)) (ap (λ (k : ℕ). told_by_first kind client k rest) on)
    ∙ (either (λ (o : Option _). option_or o (told_by_first kind client (seq + 1 + j) rest)
    ≡ told_by_first kind client (seq + 1 + j) rest)
    (is_of client (seq + suc j) (record { client = client; seq = seq; what = what })) (kind what) None
    (λ e. absurd (grind (arith, nat_tests))) (λ _. refl))

-- ---- the Ask of a number

pub found_asks : (client seq j : ℕ) (ns : List ℕ)
    → told_by_first ask_in client (seq + j) (ask_items client seq ns) ≡ slice_get ns j
found_asks client seq j [] = refl
found_asks client seq zero (n ∷ ns) =
    found_first ask_in client seq (Ask n) (ask_items client (seq + 1) ns) n refl
found_asks client seq (suc j) (n ∷ ns) =
    found_rest ask_in client seq j (Ask n) (ask_items client (seq + 1) ns) ∙ found_asks client (seq + 1) j ns

-- ---- the Took of a number

found_tooks : (client seq j : ℕ) (ts : List Taking)
    → told_by_first took_in client (seq + j) (took_items client seq ts) ≡ slice_get (map outcome_took ts) j
found_tooks client seq j [] = refl
found_tooks client seq zero (t ∷ ts) =
    found_first took_in client seq (Took t.outcome t.give_ups) (took_items client (seq + 1) ts) t.outcome refl
found_tooks client seq (suc j) (t ∷ ts) =
    found_rest took_in client seq j (Took t.outcome t.give_ups) (took_items client (seq + 1) ts)
    ∙ found_tooks client (seq + 1) j ts

-- what stands at a number in one list or behind it
or_behind : {A : Type 0} (xs ys : List A) (j : ℕ) (o : Option A)
    → (length xs ≤ j → o ≡ slice_get ys (j - length xs)) → option_or (slice_get xs j) o ≡ slice_get (xs ++ ys) j
or_behind [] ys j o f =
    let none : j - 0 ≡ j = omega arith in
    f (omega arith) ∙ ap (slice_get ys) none
or_behind (x ∷ xs) ys zero o f = refl
or_behind (x ∷ xs) ys (suc j) o f =
    let less : suc j - suc (length xs) ≡ j - length xs = omega arith in
    or_behind xs ys j o (λ le. f (omega arith) ∙ ap (slice_get ys) less)

found_ran : (client seq j : ℕ) (rs : List Ran)
    → told_by_first took_in client (seq + j) (ran_items client seq rs) ≡ slice_get (map outcome_took (all_took rs)) j
found_ran client seq j [] = refl
found_ran client seq j (r ∷ rs) =
    let asks = ask_items client seq r.asked in
    let tooks = took_items client seq r.took in
    let later = ran_items client (seq + length r.took) rs in
    let later_took = map outcome_took (all_took rs) in
    let behind : length (map outcome_took r.took) ≤ j
    → told_by_first took_in client (seq + j) later ≡ slice_get later_took (j - length (map outcome_took r.took)) =
    λ le.
    let count = length-map r.took outcome_took in
    let number : seq + j ≡ seq + length r.took + (j - length (map outcome_took r.took)) = omega (arith, le) in
    ap (λ (k : ℕ). told_by_first took_in client k later) number
    ∙ found_ran client (seq + length r.took) (j - length (map outcome_took r.took)) rs in
    found_append took_in client (seq + j) asks (tooks ++ later)
    ∙ ap (λ (o : Option Outcome). option_or o (told_by_first took_in client (seq + j) (tooks ++ later)))
    (none_found took_in client (seq + j) asks (asks_are_not took_in client seq r.asked (λ n. refl)))
    ∙ found_append took_in client (seq + j) tooks later
    ∙ ap (λ (o : Option Outcome). option_or o (told_by_first took_in client (seq + j) later)) (found_tooks client seq j r.took)
    ∙ or_behind (map outcome_took r.took) later_took j (told_by_first took_in client (seq + j) later) behind
    ∙ ap (λ (os : List Outcome). slice_get os j) (sym (map-append outcome_took r.took (all_took rs)))

-- ---- how many Asks

asks_count : (client seq : ℕ) (ns : List ℕ) → length (numbers ask_in client (ask_items client seq ns)) ≡ length ns
asks_count client seq [] = refl
asks_count client seq (n ∷ ns) = rw (eq-eqb client client refl) (ap suc (asks_count client (seq + 1) ns))

pub rans_count : (client seq : ℕ) (rs : List Ran)
    → length (numbers ask_in client (ran_items client seq rs)) ≡ length (all_asked rs)
rans_count client seq [] = refl
rans_count client seq (r ∷ rs) =
    let asks = ask_items client seq r.asked in
    let tooks = took_items client seq r.took in
    let later = ran_items client (seq + length r.took) rs in
    let first = numbers_append ask_in client asks (tooks ++ later) in
    let second = numbers_append ask_in client tooks later in
    let none = no_numbers ask_in client tooks (tooks_are_not ask_in client seq r.took (λ o n. refl)) in
    ap length first ∙ length-append (numbers ask_in client asks) (numbers ask_in client (tooks ++ later))
    ∙ ap (λ (k : ℕ). k + length (numbers ask_in client (tooks ++ later))) (asks_count client seq r.asked)
    ∙ ap (λ (ns : List ℕ). length r.asked + length ns)
    (second ∙ ap (λ (ns : List ℕ). ns ++ numbers ask_in client later) none)
    ∙ ap (λ (k : ℕ). length r.asked + k) (rans_count client (seq + length r.took) rs)
    ∙ sym (length-append r.asked (all_asked rs))

pub same_counts : (rs : List Ran) → AreWhole rs → length (all_asked rs) ≡ length (all_took rs)
same_counts [] whole = refl
same_counts (r ∷ rs) whole =
    length-append r.asked (all_asked rs) ∙ ap (λ (n : ℕ). n + length (all_asked rs)) whole.0
    ∙ ap (λ (n : ℕ). length r.took + n) (same_counts rs whole.1) ∙ sym (length-append r.took (all_took rs))

-- ---- the first number

pub own_took : (client seq : ℕ) (rs : List Ran)
    → told_by_first took_in client seq (ran_items client 0 rs) ≡ slice_get (map outcome_took (all_took rs)) seq
own_took client seq rs =
    let same : seq ≡ 0 + seq = omega arith in
    ap (λ (k : ℕ). told_by_first took_in client k (ran_items client 0 rs)) same ∙ found_ran client 0 seq rs
