-- The bodies that were asked, in the order of the Asks, each with what became of it.
use Rattle.std.proofs.Common.{◌≡◌, ℕ, zero, suc, ◌+◌, ◌<◌, ◌≤◌, true, false, cond, ◌==◌, ◌&&◌, List, [], ◌∷◌, ◌++◌}
use Rattle.std.proofs.Common.{length, map, drop, Option, Some, None, refl, sym, ap, ◌∙◌, subst, arith, if◌then◌else◌}
use Rattle.std.proofs.Common.{inl, inr}
use Rattle.std.specs.Prelude.{is_some}
use Rattle.std.specs.List.{AllByRecursion, slice_get}
use Rattle.std.proofs.lemmas.Bool.{eqb-true, eq-eqb, cases_lt}
use Rattle.std.proofs.lemmas.List.{length-map, map-append}
use Rattle.ipb_base.proofs.AllLemmas.{AllByRecursion-append, all-map}
use Rattle.world_model.proofs.Lists.{either, all_get}
use Rattle.lane_record.specs.declared.outcome.Outcome.{Outcome}
use Rattle.lane_record.specs.declared.item.Item.{Item}
use Rattle.lane_record.specs.declared.item.What.{What}
use Rattle.lane_record.specs.declared.item.What.TheVariants.{Plan, Seal, Ask, Took}
use Rattle.lane_record.specs.Lists.{CountsFrom}
use Rattle.lane_record.specs.Items.{plan_in, ask_in, took_in, numbers, told_by_first}
use Rattle.lane_record.specs.Claims.{Claim, claims, claims_behind, claim_in, outcome_taken, taken_outcomes, IsTaken, IsFinished}
use Rattle.lane_record.specs.Legal.{HasMaker, IsLegal, IsMade}
use Rattle.lane_record.proofs.Finished.{asked_as_planned}
use Rattle.lane_record.specs.Dispatches.{entries_by, outcomes_in_order}
use Rattle.board_history.specs.Records.{IsRecordOf}
use Rattle.board_history.proofs.Own.{own_found, own_numbers}
use Rattle.board_history.proofs.Rans.{Ran, outcome_took, outcomes_ran, all_took}
use Rattle.board_history.proofs.Lookups.{own_took, rans_count, same_counts}
use Rattle.board_history.proofs.Beside.{found_beside, numbers_beside}
use Rattle.board_history.proofs.Planned.{plan_at}
use Rattle.board_history.proofs.Opening.{ClientRan, AllRan, IsAskWithin, each_ran}

pub record Step : Type 0 where
  pub client : ℕ
  pub seq : ℕ
  pub body : List ℕ
  pub outcome : Outcome

abbrev pub step_for : Claim → Option Outcome → List Step
step_for c None = []
step_for c (Some outcome) = record { client = c.client; seq = c.seq; body = c.body; outcome = outcome } ∷ []

abbrev pub steps_of : List Claim → List (Option Outcome) → List Step
steps_of [] os = []
steps_of (c ∷ cs) [] = []
steps_of (c ∷ cs) (o ∷ os) = step_for c o ++ steps_of cs os

abbrev pub steps : List Item → List Step
steps items = steps_of (claims items) (taken_outcomes items)

abbrev pub body_in : Step → List ℕ
body_in s = s.body

abbrev pub outcome_in : Step → Outcome
outcome_in s = s.outcome

-- those of one client
abbrev pub of : ℕ → List Step → List Step
of client [] = []
of client (s ∷ ss) = if s.client == client then s ∷ of client ss else of client ss

pub of_append : (client : ℕ) (xs ys : List Step) → of client (xs ++ ys) ≡ of client xs ++ of client ys
of_append client [] ys = refl
of_append client (x ∷ xs) ys = elim (x.client == client) as
    (λ b. cond b (x ∷ of client (xs ++ ys)) (of client (xs ++ ys))
    ≡ cond b (x ∷ of client xs) (of client xs) ++ of client ys) [
      | true ↦ ap (λ (zs : List Step). x ∷ zs) (of_append client xs ys)
      | false ↦ of_append client xs ys
    ]

pub all_of : (P : Step → Type 0) (client : ℕ) (ss : List Step) → AllByRecursion P ss → AllByRecursion P (of client ss)
all_of P client [] all = tt
all_of P client (s ∷ ss) all = either (AllByRecursion P) (s.client == client) (s ∷ of client ss) (of client ss)
    (λ _. (all.0, all_of P client ss all.1)) (λ _. all_of P client ss all.1)

pub of_client : (client : ℕ) (ss : List Step) → AllByRecursion (λ (s : Step). s.client ≡ client) (of client ss)
of_client client [] = tt
of_client client (s ∷ ss) = either (AllByRecursion (λ (t : Step). t.client ≡ client)) (s.client == client)
    (s ∷ of client ss) (of client ss) (λ e. (eqb-true s.client client e, of_client client ss))
    (λ _. of_client client ss)

-- ---- what is so at each place is so of all

pub all_at : {A : Type 0} (P : A → Type 0) (xs : List A) → ((k : ℕ) (x : A) → slice_get xs k ≡ Some x → P x)
    → AllByRecursion P xs
all_at P [] f = tt
all_at P (x ∷ xs) f = (f 0 x refl, all_at P xs (λ k y e. f (suc k) y e))

-- what two facts tell of each
pub all_both : {A : Type 0} (P Q R : A → Type 0) (xs : List A) → ((x : A) → P x → Q x → R x) → AllByRecursion P xs
    → AllByRecursion Q xs → AllByRecursion R xs
all_both P Q R [] f ps qs = tt
all_both P Q R (x ∷ xs) f ps qs = (f x ps.0 qs.0, all_both P Q R xs f ps.1 qs.1)

-- ---- the claims of a record

-- what holds of the entry of each Ask
pub claims_of_asks : (P : ℕ → Type 0) (front xs : List Item)
    → AllByRecursion (λ (x : Item). is_some (ask_in x.what) ≡ true → P x.client) xs
    → AllByRecursion (λ (c : Claim). P c.client) (claims_behind front xs)
claims_of_asks P front [] all = tt
claims_of_asks P front (x ∷ xs) all = AllByRecursion-append (λ (c : Claim). P c.client)
    (claim_in front x (ask_in x.what)) (claims_behind (front ++ x ∷ []) xs)
    (elim (ask_in x.what) as (λ o. (is_some o ≡ true → P x.client)
    → AllByRecursion (λ (c : Claim). P c.client) (claim_in front x o)) [
      | None ↦ λ f. tt
      | Some n ↦ λ f. (f refl, tt)
    ] all.0)
    (claims_of_asks P (front ++ x ∷ []) xs all.1)

-- the numbers of a client's claims
abbrev pub seqs_of : ℕ → List Claim → List ℕ
seqs_of client [] = []
seqs_of client (c ∷ cs) = if c.client == client then c.seq ∷ seqs_of client cs else seqs_of client cs

seq_first : (client : ℕ) (front : List Item) (x : Item) (later : List Claim) (o : Option ℕ)
    → seqs_of client (claim_in front x o ++ later)
    ≡ (if (x.client == client) && is_some o then x.seq ∷ seqs_of client later else seqs_of client later)
seq_first client front x later None = elim (x.client == client) as
    (λ b. seqs_of client later ≡ (if b && false then x.seq ∷ seqs_of client later else seqs_of client later)) [
      | true ↦ refl
      | false ↦ refl
    ]
seq_first client front x later (Some n) = elim (x.client == client) as
    (λ b. (if b then x.seq ∷ seqs_of client later else seqs_of client later)
    ≡ (if b && true then x.seq ∷ seqs_of client later else seqs_of client later)) [
      | true ↦ refl
      | false ↦ refl
    ]

pub claims_seqs : (client : ℕ) (front xs : List Item)
    → seqs_of client (claims_behind front xs) ≡ numbers ask_in client xs
claims_seqs client front [] = refl
claims_seqs client front (x ∷ xs) =
    seq_first client front x (claims_behind (front ++ x ∷ []) xs) (ask_in x.what)
    ∙ ap (λ (ns : List ℕ). if (x.client == client) && is_some (ask_in x.what) then x.seq ∷ ns else ns)
    (claims_seqs client (front ++ x ∷ []) xs)

-- the numbers of a client's steps are those of its claims, where each claim has its outcome
abbrev pub seq_in : Step → ℕ
seq_in s = s.seq

steps_seqs : (client : ℕ) (f : Claim → Option Outcome) (cs : List Claim)
    → AllByRecursion (λ (c : Claim). (o : Outcome) × (f c ≡ Some o)) cs
    → map seq_in (of client (steps_of cs (map f cs))) ≡ seqs_of client cs
steps_seqs client f [] all = refl
steps_seqs client f (c ∷ cs) all =
    let s : Step = record { client = c.client; seq = c.seq; body = c.body; outcome = all.0.0 } in
    ap (λ (o : Option Outcome). map seq_in (of client (step_for c o ++ steps_of cs (map f cs)))) all.0.1
    ∙ (elim (c.client == client) as
    (λ b. map seq_in (if b then s ∷ of client (steps_of cs (map f cs)) else of client (steps_of cs (map f cs)))
    ≡ (if b then c.seq ∷ seqs_of client cs else seqs_of client cs)) [
      | true ↦ ap (λ (ns : List ℕ). c.seq ∷ ns) (steps_seqs client f cs all.1)
      | false ↦ steps_seqs client f cs all.1
    ])

-- what holds of each claim and its outcome
pub steps_all : (P : Step → Type 0) (f : Claim → Option Outcome) (cs : List Claim)
    → AllByRecursion
    (λ (c : Claim). (o : Outcome) → f c ≡ Some o
    → P (record { client = c.client; seq = c.seq; body = c.body; outcome = o })) cs
    → AllByRecursion P (steps_of cs (map f cs))
steps_all P f [] all = tt
steps_all P f (c ∷ cs) all = AllByRecursion-append P (step_for c (f c)) (steps_of cs (map f cs))
    (elim (f c) as (λ o. ((p : Outcome) → o ≡ Some p
    → P (record { client = c.client; seq = c.seq; body = c.body; outcome = p }))
    → AllByRecursion P (step_for c o)) [
      | None ↦ λ g. tt
      | Some o ↦ λ g. (g o refl, tt)
    ] all.0)
    (steps_all P f cs all.1)

-- ---- a list is read off its numbers

drop_at : {A : Type 0} (k : ℕ) (xs : List A) (x : A) → slice_get xs k ≡ Some x → drop k xs ≡ x ∷ drop (suc k) xs
drop_at k [] x e = absurd cc
drop_at zero (y ∷ xs) x e = let s : y ≡ x = cc in ap (λ z. z ∷ xs) s
drop_at (suc k) (y ∷ xs) x e = drop_at k xs x e

drop_all : {A : Type 0} (k : ℕ) (xs : List A) → length xs ≤ k → drop k xs ≡ []
drop_all zero [] le = refl
drop_all zero (x ∷ xs) le = absurd (omega (arith, le))
drop_all (suc k) [] le = refl
drop_all (suc k) (x ∷ xs) le = drop_all k xs (omega (arith, le))

read_off : {A : Type 0} (f : Step → A) (k : ℕ) (ss : List Step) (xs : List A) → CountsFrom k (map seq_in ss)
    → AllByRecursion (λ (s : Step). slice_get xs s.seq ≡ Some (f s)) ss → length xs ≤ k + length ss
    → map f ss ≡ drop k xs
read_off f k [] xs counts all le = sym (drop_all k xs (omega (arith, le)))
read_off f k (s ∷ ss) xs counts all le =
    let here : slice_get xs k ≡ Some (f s) = subst (λ (n : ℕ). slice_get xs n ≡ Some (f s)) counts.0 all.0 in
    let up : k + 1 ≡ suc k = omega arith in
    sym (drop_at k xs (f s) here
    ∙ ap (λ ys. f s ∷ ys)
    (ap (λ (n : ℕ). drop n xs) (sym up)
    ∙ sym (read_off f (k + 1) ss xs counts.1 all.1 (omega (arith, le)))))

-- ---- every Ask has its Took

joined_outcomes : (rs : List Ran) → outcomes_in_order (map outcomes_ran rs) ≡ map outcome_took (all_took rs)
joined_outcomes [] = refl
joined_outcomes (r ∷ rs) =
    ap (λ (os : List Outcome). map outcome_took r.took ++ os) (joined_outcomes rs)
    ∙ sym (map-append outcome_took r.took (all_took rs))

get_below : {A : Type 0} (xs : List A) (k : ℕ) → k < length xs → (x : A) × (slice_get xs k ≡ Some x)
get_below [] k lt = absurd (omega (arith, lt))
get_below (x ∷ xs) zero lt = (x, refl)
get_below (x ∷ xs) (suc k) lt = get_below xs k (omega (arith, lt))

-- what the record has of a client
pub record Holds (client : ℕ) (bodies : List (List ℕ)) (outcomes : List Outcome) (items : List Item) : Type 0 where
  pub plan_is : (seq : ℕ) (body : List ℕ) → told_by_first plan_in client seq items ≡ Some body
      → slice_get bodies seq ≡ Some body
  pub took_is : (seq : ℕ) → told_by_first took_in client seq items ≡ slice_get outcomes seq
  pub asked : length (numbers ask_in client items) ≡ length outcomes
  pub same : length outcomes ≡ length bodies

pub holds : (client : ℕ) (bodies : List (List ℕ)) (dispatches : List (List Outcome)) (items : List Item)
    → CountsFrom 0 (numbers plan_in client items) → ClientRan client bodies dispatches items
    → Holds client bodies (outcomes_in_order dispatches) items
holds client bodies dispatches items counts ran =
    let mine = entries_by client items in
    let outcomes : outcomes_in_order dispatches ≡ map outcome_took (all_took ran.rans) =
    ap outcomes_in_order ran.same ∙ joined_outcomes ran.rans in
    record {
      plan_is = λ seq body f. subst (λ (bs : List (List ℕ)). slice_get bs seq ≡ Some body) ran.planned
          (plan_at client seq body items counts f);
      took_is = λ seq. own_found took_in client seq items ∙ found_beside took_in client seq mine (λ b. refl)
          ∙ ap (told_by_first took_in client seq) ran.entries
          ∙ own_took client seq ran.rans ∙ ap (λ (os : List Outcome). slice_get os seq) (sym outcomes);
      asked = ap length (own_numbers ask_in client items ∙ numbers_beside ask_in client mine (λ b. refl)
          ∙ ap (numbers ask_in client) ran.entries)
          ∙ rans_count client 0 ran.rans ∙ same_counts ran.rans ran.whole
          ∙ sym (length-map (all_took ran.rans) outcome_took) ∙ ap length (sym outcomes);
      same = ran.count;
    }

-- any client's
pub record HoldsSome (client : ℕ) (items : List Item) : Type 0 where
  pub bodies : List (List ℕ)
  pub outcomes : List Outcome
  pub holds' : Holds client bodies outcomes items

pub holds_at : (from client : ℕ) (bodies : List (List (List ℕ))) (outcomes : List (List (List Outcome)))
    (items : List Item) → ((c : ℕ) → CountsFrom 0 (numbers plan_in c items)) → AllRan from bodies outcomes items
    → from ≤ client → client < from + length bodies → HoldsSome client items
holds_at from client [] outcomes items counts all low high = absurd (omega (arith, low, high))
holds_at from client (bs ∷ later) [] items counts all low high = absurd all
holds_at from client (bs ∷ later) (os ∷ others) items counts all low high = elim (cases_lt from client) [
  | inl after ↦
      holds_at (from + 1) client later others items counts all.1 (omega (arith, after)) (omega (arith, high))
  | inr here ↦ let same : from ≡ client = omega (arith, low, here) in
      subst (λ (c : ℕ). HoldsSome c items) same
      (record { bodies = bs; outcomes = outcomes_in_order os; holds' = holds from bs os items (counts from) all.0 })
]

-- the number of a client's claim is one of its numbers
seq_among : (from client : ℕ) (cs : List Claim) (k : ℕ) (c : Claim) → slice_get cs k ≡ Some c → c.client ≡ client
    → CountsFrom from (seqs_of client cs) → c.seq < from + length (seqs_of client cs)
seq_among from client [] k c e s counts = absurd cc
seq_among from client (d ∷ cs) zero c e s counts =
    let same : d ≡ c = cc in
    let own : (d.client == client) ≡ true = eq-eqb d.client client (ap (λ (x : Claim). x.client) same ∙ s) in
    let seq : d.seq ≡ c.seq = ap (λ (x : Claim). x.seq) same in
    let counted : CountsFrom from (d.seq ∷ seqs_of client cs) = rw own at counts in
    rw own (omega (arith, counted.0, seq))
seq_among from client (d ∷ cs) (suc k) c e s counts = elim (d.client == client) as
    (λ b. CountsFrom from (if b then d.seq ∷ seqs_of client cs else seqs_of client cs)
    → c.seq < from + length (if b then d.seq ∷ seqs_of client cs else seqs_of client cs)) [
      | true ↦ λ counted. let later = seq_among (from + 1) client cs k c e s counted.1 in omega (arith, later)
      | false ↦ λ counted. seq_among from client cs k c e s counted
    ] counts

claim_below : (items : List Item) (k : ℕ) (c : Claim) → slice_get (claims items) k ≡ Some c
    → CountsFrom 0 (numbers ask_in c.client items) → c.seq < length (numbers ask_in c.client items)
claim_below items k c e counts =
    let own : numbers ask_in c.client items ≡ seqs_of c.client (claims items) = sym (claims_seqs c.client [] items) in
    let below = seq_among 0 c.client (claims items) k c e refl (subst (CountsFrom 0) own counts) in
    subst (λ (ns : List ℕ). c.seq < length ns) (sym own) (omega (arith, below))

pub claims_within : (many : ℕ) (items : List Item) → AllByRecursion (IsAskWithin many) items
    → AllByRecursion (λ (c : Claim). (1 ≤ c.client) × (c.client ≤ many)) (claims items)
claims_within many items within = claims_of_asks (λ (n : ℕ). (1 ≤ n) × (n ≤ many)) [] items within

ask_made : (many client seq : ℕ) (what : What) → HasMaker client seq what → client ≤ many
    → is_some (ask_in what) ≡ true → (1 ≤ client) × (client ≤ many)
ask_made many client seq (Plan body) made le e = absurd cc
ask_made many client seq Seal made le e = absurd cc
ask_made many client seq (Ask n) made le e = (made, le)
ask_made many client seq (Took o n) made le e = absurd cc

-- in a record in which nobody else has an entry each Ask is of one of the clients
pub asked_within : (many : ℕ) (items : List Item) → AllByRecursion IsMade items
    → AllByRecursion (λ (x : Item). x.client ≤ many) items → AllByRecursion (IsAskWithin many) items
asked_within many items made within =
    all_both IsMade (λ (x : Item). x.client ≤ many) (IsAskWithin many) items
    (λ x made le e. ask_made many x.client x.seq x.what made le e) made within

pub finished : (bodies : List (List (List ℕ))) (outcomes : List (List (List Outcome))) (items : List Item)
    (became : List (Option Outcome)) → IsRecordOf bodies outcomes items → IsLegal items became → IsFinished items
finished bodies outcomes items became is legal =
    let within = claims_within (length bodies) items
    (asked_within (length bodies) items legal.made is.nobody_else) in
    all_at (IsTaken items) (claims items) (λ k c e.
    let inside = all_get (λ (d : Claim). (1 ≤ d.client) × (d.client ≤ length bodies)) (claims items) k c within e in
    let has = holds_at 1 c.client bodies outcomes items legal.plans_count.count (each_ran bodies outcomes items is)
    inside.0 (omega (arith, inside.1)) in
    let below = claim_below items k c e (legal.asks_follow_plans.count c.client) in
    let took = get_below has.outcomes c.seq (omega (arith, below, has.holds'.asked)) in
    (took.0, has.holds'.took_is c.seq ∙ took.1))

-- ---- the steps of each client

pub step_planned : (items : List Item) (became : List (Option Outcome)) → IsLegal items became
    → AllByRecursion (λ (c : Claim). told_by_first plan_in c.client c.seq items ≡ Some c.body) (claims items)
step_planned items became legal =
    all_at (λ (c : Claim). told_by_first plan_in c.client c.seq items ≡ Some c.body) (claims items) (λ k c e.
    asked_as_planned items became k c.client c.seq c legal
    (record { there = e; same_client = refl; same_seq = refl }))

-- the record has its body and its outcome
pub record IsFoundIn (items : List Item) (s : Step) : Type 0 where
  pub plan : told_by_first plan_in s.client s.seq items ≡ Some s.body
  pub took : told_by_first took_in s.client s.seq items ≡ Some s.outcome

pub steps_found : (items : List Item) (became : List (Option Outcome)) → IsLegal items became
    → AllByRecursion (IsFoundIn items) (steps items)
steps_found items became legal = steps_all (IsFoundIn items) (outcome_taken items) (claims items)
    (all-map (λ (c : Claim). told_by_first plan_in c.client c.seq items ≡ Some c.body)
    (λ (c : Claim). (o : Outcome) → outcome_taken items c ≡ Some o
    → IsFoundIn items (record { client = c.client; seq = c.seq; body = c.body; outcome = o }))
    (claims items) (λ c plan o took. record { plan = plan; took = took }) (step_planned items became legal))

-- these are the bodies and outcomes of a client
pub record AreStepsOf (client : ℕ) (bodies : List (List ℕ)) (outcomes : List Outcome) (ss : List Step) : Type 0 where
  pub bodies' : bodies ≡ map body_in (of client ss)
  pub outcomes' : outcomes ≡ map outcome_in (of client ss)

client_steps : (client : ℕ) (bodies : List (List ℕ)) (outcomes : List Outcome) (items : List Item)
    (became : List (Option Outcome)) → IsLegal items became → IsFinished items → Holds client bodies outcomes items
    → AreStepsOf client bodies outcomes (steps items)
client_steps client bodies outcomes items became legal done has =
    let mine = of client (steps items) in
    let numbered : map seq_in mine ≡ numbers ask_in client items =
    steps_seqs client (outcome_taken items) (claims items) done ∙ claims_seqs client [] items in
    let counts : CountsFrom 0 (map seq_in mine) =
    subst (CountsFrom 0) (sym numbered) (legal.asks_follow_plans.count client) in
    let many : length mine ≡ length outcomes = sym (length-map mine seq_in) ∙ ap length numbered ∙ has.asked in
    let both : AllByRecursion (IsFoundIn items) mine =
    all_of (IsFoundIn items) client (steps items) (steps_found items became legal) in
    let own = of_client client (steps items) in
    let at_bodies : AllByRecursion (λ (s : Step). slice_get bodies s.seq ≡ Some s.body) mine =
    all_both (IsFoundIn items) (λ (s : Step). s.client ≡ client)
    (λ (s : Step). slice_get bodies s.seq ≡ Some s.body) mine
    (λ s f c. has.plan_is s.seq s.body (ap (λ (k : ℕ). told_by_first plan_in k s.seq items) (sym c) ∙ f.plan)) both own in
    let at_outcomes : AllByRecursion (λ (s : Step). slice_get outcomes s.seq ≡ Some s.outcome) mine =
    all_both (IsFoundIn items) (λ (s : Step). s.client ≡ client)
    (λ (s : Step). slice_get outcomes s.seq ≡ Some s.outcome) mine
    (λ s f c. sym (has.took_is s.seq) ∙ ap (λ (k : ℕ). told_by_first took_in k s.seq items) (sym c) ∙ f.took) both own in
    record {
      bodies' = sym (read_off body_in 0 mine bodies counts at_bodies (omega (arith, many, has.same)));
      outcomes' = sym (read_off outcome_in 0 mine outcomes counts at_outcomes (omega (arith, many)));
    }

-- the steps are of these clients, from this number on
abbrev pub AreOf : ℕ → List (List (List ℕ)) → List (List Outcome) → List Step → Type 0
AreOf client [] [] ss = Unit {0}
AreOf client [] (os ∷ others) ss = ⊥
AreOf client (bs ∷ later) [] ss = ⊥
AreOf client (bs ∷ later) (os ∷ others) ss = AreStepsOf client bs os ss × AreOf (client + 1) later others ss

abbrev pub IsWithin : ℕ → ℕ → Step → Type 0
IsWithin from many s = (from ≤ s.client) × (s.client < from + many)

pub record AreStepsOfAll (bodies : List (List (List ℕ))) (outcomes : List (List Outcome)) (ss : List Step)
    : Type 0 where
  pub clients : AreOf 1 bodies outcomes ss
  pub nobody_else : AllByRecursion (IsWithin 1 (length bodies)) ss

clients_steps : (client : ℕ) (bodies : List (List (List ℕ))) (outcomes : List (List (List Outcome))) (items : List Item)
    (became : List (Option Outcome)) → IsLegal items became → IsFinished items → AllRan client bodies outcomes items
    → AreOf client bodies (map outcomes_in_order outcomes) (steps items)
clients_steps client [] [] items became legal done all = tt
clients_steps client [] (os ∷ others) items became legal done all = absurd all
clients_steps client (bs ∷ later) [] items became legal done all = absurd all
clients_steps client (bs ∷ later) (os ∷ others) items became legal done all = (
  client_steps client bs (outcomes_in_order os) items became legal done
      (holds client bs os items (legal.plans_count.count client) all.0),
  clients_steps (client + 1) later others items became legal done all.1,
)

pub steps_of_all : (bodies : List (List (List ℕ))) (outcomes : List (List (List Outcome))) (items : List Item)
    (became : List (Option Outcome)) → IsRecordOf bodies outcomes items → IsLegal items became
    → AreStepsOfAll bodies (map outcomes_in_order outcomes) (steps items)
steps_of_all bodies outcomes items became is legal =
    let done = finished bodies outcomes items became is legal in
    let within = claims_within (length bodies) items
    (asked_within (length bodies) items legal.made is.nobody_else) in
    record {
      clients = clients_steps 1 bodies outcomes items became legal done (each_ran bodies outcomes items is);
      nobody_else = steps_all (IsWithin 1 (length bodies)) (outcome_taken items) (claims items)
          (all-map (λ (c : Claim). (1 ≤ c.client) × (c.client ≤ length bodies))
          (λ (c : Claim). (o : Outcome) → outcome_taken items c ≡ Some o
          → IsWithin 1 (length bodies) (record { client = c.client; seq = c.seq; body = c.body; outcome = o }))
          (claims items) (λ c w o _. (w.0, omega (arith, w.1))) within);
    }
