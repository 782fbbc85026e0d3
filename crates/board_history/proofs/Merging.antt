-- What stands in the order of a board is a merge of its clients' bodies.
use Rattle.std.proofs.Common.{◌≡◌, ℕ, zero, suc, ◌+◌, ◌<◌, ◌≤◌, true, false, ◌==◌, List, [], ◌∷◌, ◌++◌}
use Rattle.std.proofs.Common.{length, map, take, Option, Some, None, refl, sym, ap, ◌∙◌, subst, arith, append_assoc}
use Rattle.std.proofs.Common.{if◌then◌else◌, append-nil, inl, inr}
use Rattle.std.specs.Prelude.{nat_le}
use Rattle.std.specs.List.{AllByRecursion}
use Rattle.std.proofs.lemmas.Bool.{eq-eqb}
use Rattle.std.proofs.lemmas.Bool.Decides.{nat_tests}
use Rattle.std.proofs.lemmas.List.{length-map, map-append}
use Rattle.ipb_base.specs.Lists.{IsPrefix}
use Rattle.ipb_base.proofs.AllLemmas.{AllByRecursion-append}
use Rattle.world_model.proofs.Lists.{either}
use Rattle.lane_record.specs.declared.outcome.Outcome.{Outcome}
use Rattle.lane_record.specs.declared.outcome.Outcome.TheVariants.{Replied, TimedOut, Unsent, LinkLost}
use Rattle.lane_record.specs.Outcomes.{place_of}
use Rattle.lane_record.specs.Lists.{CountsFrom}
use Rattle.board_history.specs.Order.{Placed, with_place, bodies_with_places, all_placed, insert, by_place, order, places_of}
use Rattle.board_history.specs.Order.{bodies_in, RisesFrom}
use Rattle.board_history.specs.Parts.{HasOneOrder, KeepsScripts, IsExecuted, IsExecutedOnce, IsReplied, AllReplied}
use Rattle.board_history.specs.Merges.{IsSubsequence, Owned, bodies_by, bodies_owned, IsOfClients, AreSubsequences}
use Rattle.board_history.specs.Merges.{AreMerged, IsMergeOfSome, IsMergeOfAll}
use Rattle.board_history.proofs.Sorting as sorting
use Rattle.board_history.proofs.Only.{client_placed, one_by_one}

-- ---- a front of a merge is a merge

sub_take : {A : Type 0} (n : ℕ) (xs ys : List A) → IsSubsequence xs ys → IsSubsequence (take n xs) ys
sub_take zero xs ys s = tt
sub_take (suc n) [] ys s = tt
sub_take (suc n) (x ∷ xs) [] s = absurd s
sub_take (suc n) (x ∷ xs) (y ∷ ys) s = elim s [
  | inl same ↦ inl (same.0, sub_take n xs ys same.1)
  | inr later ↦ inr (sub_take (suc n) (x ∷ xs) ys later)
]

-- those of a client in a front are a front
front_by : (client n : ℕ) (os : List Owned) → (k : ℕ) × (bodies_by client (take n os) ≡ take k (bodies_by client os))
front_by client zero os = (0, refl)
front_by client (suc n) [] = (0, refl)
front_by client (suc n) (o ∷ os) =
    let later = front_by client n os in
    elim (o.client == client) as
    (λ b. (k : ℕ) × ((if b then o.body ∷ bodies_by client (take n os) else bodies_by client (take n os))
    ≡ take k (if b then o.body ∷ bodies_by client os else bodies_by client os))) [
      | true ↦ (suc later.0, ap (λ (bs : List (List ℕ)). o.body ∷ bs) later.1)
      | false ↦ later
    ]

fronts : (n client : ℕ) (bodies : List (List (List ℕ))) (os : List Owned) → AreSubsequences client bodies os
    → AreSubsequences client bodies (take n os)
fronts n client [] os each = tt
fronts n client (bs ∷ later) os each =
    let front = front_by client n os in (
      subst (λ (xs : List (List ℕ)). IsSubsequence xs bs) (sym front.1)
          (sub_take front.0 (bodies_by client os) bs each.0),
      fronts n (client + 1) later os each.1,
    )

all_take : {A : Type 0} (P : A → Type 0) (n : ℕ) (xs : List A) → AllByRecursion P xs → AllByRecursion P (take n xs)
all_take P zero xs all = tt
all_take P (suc n) [] all = tt
all_take P (suc n) (x ∷ xs) all = (all.0, all_take P n xs all.1)

take_front : (done rest : List (List ℕ)) (os : List Owned) → bodies_owned os ≡ done ++ rest
    → done ≡ bodies_owned (take (length done) os)
take_front [] rest os e = refl
take_front (b ∷ done) rest [] e = absurd cc
take_front (b ∷ done) rest (o ∷ os) e =
    let head : o.body ≡ b = cc in
    let tail : bodies_owned os ≡ done ++ rest = cc in
    ap (λ (z : List ℕ). z ∷ done) (sym head) ∙ ap (λ (bs : List (List ℕ)). o.body ∷ bs) (take_front done rest os tail)

pub front_of_merge : (bodies : List (List (List ℕ))) (done : List (List ℕ)) (os : List Owned)
    → IsPrefix done (bodies_owned os) → AreSubsequences 1 bodies os
    → AllByRecursion (IsOfClients (length bodies)) os → IsMergeOfSome bodies done
front_of_merge bodies done os front each nobody_else = record {
  owned = take (length done) os;
  same = take_front done front.0 os front.1;
  each = fronts (length done) 1 bodies os each;
  nobody_else = all_take (IsOfClients (length bodies)) (length done) os nobody_else;
}

-- ---- bodies with their places and clients

pub record Tagged : Type 0 where
  pub place : ℕ
  pub client : ℕ
  pub body : List ℕ

abbrev pub as_placed : Tagged → Placed
as_placed t = record { place = t.place; body = t.body }

abbrev pub as_owned : Tagged → Owned
as_owned t = record { client = t.client; body = t.body }

abbrev pub body_in : Tagged → List ℕ
body_in t = t.body

abbrev pub with_tag : ℕ → List ℕ → Option ℕ → List Tagged
with_tag client body None = []
with_tag client body (Some place) = record { place = place; client = client; body = body } ∷ []

abbrev pub tagged : ℕ → List (List ℕ) → List Outcome → List Tagged
tagged client [] outcomes = []
tagged client (body ∷ bodies) [] = []
tagged client (body ∷ bodies) (outcome ∷ outcomes) =
    with_tag client body (place_of outcome) ++ tagged client bodies outcomes

abbrev pub all_tagged : ℕ → List (List (List ℕ)) → List (List Outcome) → List Tagged
all_tagged client [] outcomes = []
all_tagged client (bodies ∷ later) [] = []
all_tagged client (bodies ∷ later) (outcomes ∷ others) =
    tagged client bodies outcomes ++ all_tagged (client + 1) later others

abbrev pub tag_insert : Tagged → List Tagged → List Tagged
tag_insert x [] = x ∷ []
tag_insert x (y ∷ ys) = if nat_le x.place y.place then x ∷ y ∷ ys else y ∷ tag_insert x ys

abbrev pub tag_sort : List Tagged → List Tagged
tag_sort [] = []
tag_sort (x ∷ xs) = tag_insert x (tag_sort xs)

-- ---- without their clients they are the order

insert_placed : (x : Tagged) (ys : List Tagged)
    → map as_placed (tag_insert x ys) ≡ insert (as_placed x) (map as_placed ys)
insert_placed x [] = refl
insert_placed x (y ∷ ys) = elim (nat_le x.place y.place) as
    (λ b. map as_placed (if b then x ∷ y ∷ ys else y ∷ tag_insert x ys)
    ≡ (if b then as_placed x ∷ as_placed y ∷ map as_placed ys
    else as_placed y ∷ insert (as_placed x) (map as_placed ys))) [
      | true ↦ refl
      | false ↦ ap (λ (ps : List Placed). as_placed y ∷ ps) (insert_placed x ys)
    ]

sort_placed : (ts : List Tagged) → map as_placed (tag_sort ts) ≡ by_place (map as_placed ts)
sort_placed [] = refl
sort_placed (t ∷ ts) = insert_placed t (tag_sort ts) ∙ ap (insert (as_placed t)) (sort_placed ts)

one_tag : (client : ℕ) (body : List ℕ) (place : Option ℕ) (ts : List Tagged) (ps : List Placed)
    → map as_placed ts ≡ ps → map as_placed (with_tag client body place ++ ts) ≡ with_place body place ++ ps
one_tag client body None ts ps e = e
one_tag client body (Some place) ts ps e =
    ap (λ (qs : List Placed). record { place = place; body = body } ∷ qs) e

tagged_placed : (client : ℕ) (bodies : List (List ℕ)) (outcomes : List Outcome)
    → map as_placed (tagged client bodies outcomes) ≡ bodies_with_places bodies outcomes
tagged_placed client [] outcomes = refl
tagged_placed client (b ∷ bs) [] = refl
tagged_placed client (b ∷ bs) (o ∷ os) =
    one_tag client b (place_of o) (tagged client bs os) (bodies_with_places bs os) (tagged_placed client bs os)

all_tagged_placed : (client : ℕ) (bodies : List (List (List ℕ))) (outcomes : List (List Outcome))
    → map as_placed (all_tagged client bodies outcomes) ≡ all_placed bodies outcomes
all_tagged_placed client [] outcomes = refl
all_tagged_placed client (bs ∷ later) [] = refl
all_tagged_placed client (bs ∷ later) (os ∷ others) =
    map-append as_placed (tagged client bs os) (all_tagged (client + 1) later others)
    ∙ ap (λ (ps : List Placed). ps ++ map as_placed (all_tagged (client + 1) later others))
    (tagged_placed client bs os)
    ∙ ap (λ (ps : List Placed). bodies_with_places bs os ++ ps) (all_tagged_placed (client + 1) later others)

same_bodies : (ts : List Tagged) → bodies_in (map as_placed ts) ≡ bodies_owned (map as_owned ts)
same_bodies [] = refl
same_bodies (t ∷ ts) = ap (λ (bs : List (List ℕ)). t.body ∷ bs) (same_bodies ts)

-- the order, each body with its client
abbrev pub sorted : List (List (List ℕ)) → List (List Outcome) → List Tagged
sorted bodies outcomes = tag_sort (all_tagged 1 bodies outcomes)

order_owned : (bodies : List (List (List ℕ))) (outcomes : List (List Outcome))
    → bodies_in (order bodies outcomes) ≡ bodies_owned (map as_owned (sorted bodies outcomes))
order_owned bodies outcomes =
    ap bodies_in (sym (sort_placed (all_tagged 1 bodies outcomes) ∙ ap by_place (all_tagged_placed 1 bodies outcomes)))
    ∙ same_bodies (sorted bodies outcomes)

-- ---- sorting keeps each client's

abbrev pub IsFrom : ℕ → Tagged → Type 0
IsFrom place t = place ≤ t.place

abbrev pub AreSorted : List Tagged → Type 0
AreSorted [] = Unit {0}
AreSorted (t ∷ ts) = AllByRecursion (IsFrom t.place) ts × AreSorted ts

all_inserted : (P : Tagged → Type 0) (x : Tagged) (ys : List Tagged) → P x → AllByRecursion P ys
    → AllByRecursion P (tag_insert x ys)
all_inserted P x [] p all = (p, tt)
all_inserted P x (y ∷ ys) p all = either (AllByRecursion P) (nat_le x.place y.place) (x ∷ (y ∷ ys))
    (y ∷ tag_insert x ys) (λ _. (p, all)) (λ _. (all.0, all_inserted P x ys p all.1))

all_sorted : (P : Tagged → Type 0) (ts : List Tagged) → AllByRecursion P ts → AllByRecursion P (tag_sort ts)
all_sorted P [] all = tt
all_sorted P (t ∷ ts) all = all_inserted P t (tag_sort ts) all.0 (all_sorted P ts all.1)

all_from : (a b : ℕ) (ts : List Tagged) → a ≤ b → AllByRecursion (IsFrom b) ts → AllByRecursion (IsFrom a) ts
all_from a b [] le all = tt
all_from a b (t ∷ ts) le all = (omega (arith, le, all.0), all_from a b ts le all.1)

insert_sorted : (x : Tagged) (ys : List Tagged) → AreSorted ys → AreSorted (tag_insert x ys)
insert_sorted x [] s = (tt, tt)
insert_sorted x (y ∷ ys) s = either AreSorted (nat_le x.place y.place) (x ∷ (y ∷ ys)) (y ∷ tag_insert x ys)
    (λ e. let le : x.place ≤ y.place = grind (arith, nat_tests) in ((le, all_from x.place y.place ys le s.0), s))
    (λ e. let le : y.place ≤ x.place = grind (arith, nat_tests) in
    (all_inserted (IsFrom y.place) x ys le s.0, insert_sorted x ys s.1))

sort_sorted : (ts : List Tagged) → AreSorted (tag_sort ts)
sort_sorted [] = tt
sort_sorted (t ∷ ts) = insert_sorted t (tag_sort ts) (sort_sorted ts)

-- those of one client
abbrev pub own : ℕ → List Tagged → List Tagged
own client [] = []
own client (t ∷ ts) = if t.client == client then t ∷ own client ts else own client ts

all_own : (P : Tagged → Type 0) (client : ℕ) (ts : List Tagged) → AllByRecursion P ts → AllByRecursion P (own client ts)
all_own P client [] all = tt
all_own P client (t ∷ ts) all = either (AllByRecursion P) (t.client == client) (t ∷ own client ts) (own client ts)
    (λ _. (all.0, all_own P client ts all.1)) (λ _. all_own P client ts all.1)

insert_first : (x : Tagged) (ys : List Tagged) → AllByRecursion (IsFrom x.place) ys → tag_insert x ys ≡ x ∷ ys
insert_first x [] all = refl
insert_first x (y ∷ ys) all = either (λ (r : List Tagged). r ≡ x ∷ (y ∷ ys)) (nat_le x.place y.place) (x ∷ (y ∷ ys))
    (y ∷ tag_insert x ys) (λ _. refl) (λ e. absurd (grind (arith, nat_tests, all.0)))

insert_later : (x y : Tagged) (ys : List Tagged) → nat_le x.place y.place ≡ false
    → tag_insert x (y ∷ ys) ≡ y ∷ tag_insert x ys
insert_later x y ys e = rw e refl

-- an own one goes in among the own ones, and another changes nothing
own_insert : (client : ℕ) (x : Tagged) (ys : List Tagged) → AreSorted ys → (x.client == client) ≡ true
    → own client (tag_insert x ys) ≡ tag_insert x (own client ys)
own_insert client x [] s mine = rw mine refl
own_insert client x (y ∷ ys) s mine = either
    (λ (r : List Tagged). own client r ≡ tag_insert x (own client (y ∷ ys))) (nat_le x.place y.place)
    (x ∷ (y ∷ ys)) (y ∷ tag_insert x ys)
    (λ e.
    let le : x.place ≤ y.place = grind (arith, nat_tests) in
    let above : AllByRecursion (IsFrom x.place) (y ∷ ys) = (le, all_from x.place y.place ys le s.0) in
    rw mine (sym (insert_first x (own client (y ∷ ys)) (all_own (IsFrom x.place) client (y ∷ ys) above))))
    (λ e. elim (y.client == client) as
    (λ b. (if b then y ∷ own client (tag_insert x ys) else own client (tag_insert x ys))
    ≡ tag_insert x (if b then y ∷ own client ys else own client ys)) [
      | true ↦ ap (λ (ts : List Tagged). y ∷ ts) (own_insert client x ys s.1 mine)
          ∙ sym (insert_later x y (own client ys) e)
      | false ↦ own_insert client x ys s.1 mine
    ])

other_insert : (client : ℕ) (x : Tagged) (ys : List Tagged) → (x.client == client) ≡ false
    → own client (tag_insert x ys) ≡ own client ys
other_insert client x [] other = rw other refl
other_insert client x (y ∷ ys) other = either (λ (r : List Tagged). own client r ≡ own client (y ∷ ys))
    (nat_le x.place y.place) (x ∷ (y ∷ ys)) (y ∷ tag_insert x ys)
    (λ _. rw other refl)
    (λ _. elim (y.client == client) as
    (λ b. (if b then y ∷ own client (tag_insert x ys) else own client (tag_insert x ys))
    ≡ (if b then y ∷ own client ys else own client ys)) [
      | true ↦ ap (λ (ts : List Tagged). y ∷ ts) (other_insert client x ys other)
      | false ↦ other_insert client x ys other
    ])

own_sorted : (client : ℕ) (ts : List Tagged) → own client (tag_sort ts) ≡ tag_sort (own client ts)
own_sorted client [] = refl
own_sorted client (t ∷ ts) = either (λ (r : List Tagged). own client (tag_sort (t ∷ ts)) ≡ tag_sort r)
    (t.client == client) (t ∷ own client ts) (own client ts)
    (λ e. own_insert client t (tag_sort ts) (sort_sorted ts) e ∙ ap (tag_insert t) (own_sorted client ts))
    (λ e. other_insert client t (tag_sort ts) e ∙ own_sorted client ts)

-- ---- one client

-- where the places rise, sorting changes nothing
rises_from : (k : ℕ) (ts : List Tagged) → RisesFrom k (places_of (map as_placed ts)) → AllByRecursion (IsFrom k) ts
rises_from k [] r = tt
rises_from k (t ∷ ts) r =
    (r.0, all_from k (t.place + 1) ts (omega (arith, r.0)) (rises_from (t.place + 1) ts r.1))

sorted_again : (k : ℕ) (ts : List Tagged) → RisesFrom k (places_of (map as_placed ts)) → tag_sort ts ≡ ts
sorted_again k [] r = refl
sorted_again k (t ∷ ts) r =
    ap (tag_insert t) (sorted_again (t.place + 1) ts r.1)
    ∙ insert_first t ts (all_from t.place (t.place + 1) ts (omega arith) (rises_from (t.place + 1) ts r.1))

own_append : (client : ℕ) (xs ys : List Tagged) → own client (xs ++ ys) ≡ own client xs ++ own client ys
own_append client [] ys = refl
own_append client (x ∷ xs) ys = elim (x.client == client) as
    (λ b. (if b then x ∷ own client (xs ++ ys) else own client (xs ++ ys))
    ≡ (if b then x ∷ own client xs else own client xs) ++ own client ys) [
      | true ↦ ap (λ (zs : List Tagged). x ∷ zs) (own_append client xs ys)
      | false ↦ own_append client xs ys
    ]

own_tag : (client : ℕ) (body : List ℕ) (place : Option ℕ) → own client (with_tag client body place)
    ≡ with_tag client body place
own_tag client body None = refl
own_tag client body (Some place) = rw (eq-eqb client client refl) refl

own_tagged : (client : ℕ) (bodies : List (List ℕ)) (outcomes : List Outcome)
    → own client (tagged client bodies outcomes) ≡ tagged client bodies outcomes
own_tagged client [] outcomes = refl
own_tagged client (b ∷ bs) [] = refl
own_tagged client (b ∷ bs) (o ∷ os) =
    own_append client (with_tag client b (place_of o)) (tagged client bs os)
    ∙ ap (λ (ts : List Tagged). ts ++ own client (tagged client bs os)) (own_tag client b (place_of o))
    ∙ ap (λ (ts : List Tagged). with_tag client b (place_of o) ++ ts) (own_tagged client bs os)

other_tag : (client other : ℕ) (body : List ℕ) (place : Option ℕ) → (other == client) ≡ false
    → own client (with_tag other body place) ≡ []
other_tag client other body None e = refl
other_tag client other body (Some place) e = rw e refl

other_tagged : (client other : ℕ) (bodies : List (List ℕ)) (outcomes : List Outcome) → (other == client) ≡ false
    → own client (tagged other bodies outcomes) ≡ []
other_tagged client other [] outcomes e = refl
other_tagged client other (b ∷ bs) [] e = refl
other_tagged client other (b ∷ bs) (o ∷ os) e =
    own_append client (with_tag other b (place_of o)) (tagged other bs os)
    ∙ ap (λ (ts : List Tagged). ts ++ own client (tagged other bs os)) (other_tag client other b (place_of o) e)
    ∙ other_tagged client other bs os e

later_tagged : (client from : ℕ) (bodies : List (List (List ℕ))) (outcomes : List (List Outcome)) → client < from
    → own client (all_tagged from bodies outcomes) ≡ []
later_tagged client from [] outcomes h = refl
later_tagged client from (bs ∷ later) [] h = refl
later_tagged client from (bs ∷ later) (os ∷ others) h =
    let apart : (from == client) ≡ false = grind (arith, nat_tests) in
    own_append client (tagged from bs os) (all_tagged (from + 1) later others)
    ∙ ap (λ (ts : List Tagged). ts ++ own client (all_tagged (from + 1) later others))
    (other_tagged client from bs os apart)
    ∙ later_tagged client (from + 1) later others (omega (arith, h))

owned_by : (client : ℕ) (ts : List Tagged) → bodies_by client (map as_owned ts) ≡ map body_in (own client ts)
owned_by client [] = refl
owned_by client (t ∷ ts) = elim (t.client == client) as
    (λ b. (if b then t.body ∷ bodies_by client (map as_owned ts) else bodies_by client (map as_owned ts))
    ≡ map body_in (if b then t ∷ own client ts else own client ts)) [
      | true ↦ ap (λ (bs : List (List ℕ)). t.body ∷ bs) (owned_by client ts)
      | false ↦ owned_by client ts
    ]

as_bodies : (ts : List Tagged) → bodies_in (map as_placed ts) ≡ map body_in ts
as_bodies [] = refl
as_bodies (t ∷ ts) = ap (λ (bs : List (List ℕ)). t.body ∷ bs) (as_bodies ts)

pub sub_skip : (xs : List (List ℕ)) (y : List ℕ) (ys : List (List ℕ)) → IsSubsequence xs ys → IsSubsequence xs (y ∷ ys)
sub_skip [] y ys s = tt
sub_skip (x ∷ xs) y ys s = inr s

first_place : (body : List ℕ) (place : Option ℕ) (ps : List Placed) (bodies : List (List ℕ))
    → IsSubsequence (bodies_in ps) bodies → IsSubsequence (bodies_in (with_place body place ++ ps)) (body ∷ bodies)
first_place body None ps bodies s = sub_skip (bodies_in ps) body bodies s
first_place body (Some place) ps bodies s = inl (refl, s)

-- a client's bodies in the order are those of its bodies that have a place, in its order
client_bodies : (client : ℕ) (front : List Tagged) (bodies : List (List ℕ)) (later : List (List (List ℕ)))
    (outcomes : List Outcome) (others : List (List Outcome)) → own client front ≡ []
    → RisesFrom 1 (places_of (bodies_with_places bodies outcomes))
    → bodies_by client (map as_owned (tag_sort (front ++ all_tagged client (bodies ∷ later) (outcomes ∷ others))))
    ≡ bodies_in (bodies_with_places bodies outcomes)
client_bodies client front bodies later outcomes others none rises =
    let mine = tagged client bodies outcomes in
    let rest = all_tagged (client + 1) later others in
    let all = front ++ (mine ++ rest) in
    let only : own client all ≡ mine =
    own_append client front (mine ++ rest) ∙ ap (λ (ts : List Tagged). ts ++ own client (mine ++ rest)) none
    ∙ own_append client mine rest ∙ ap (λ (ts : List Tagged). ts ++ own client rest) (own_tagged client bodies outcomes)
    ∙ ap (λ (ts : List Tagged). mine ++ ts) (later_tagged client (client + 1) later others (omega arith))
    ∙ append-nil mine in
    let again : tag_sort mine ≡ mine =
    sorted_again 1 mine (subst (λ (ps : List Placed). RisesFrom 1 (places_of ps))
    (sym (tagged_placed client bodies outcomes)) rises) in
    owned_by client (tag_sort all) ∙ ap (map body_in) (own_sorted client all ∙ ap tag_sort only ∙ again)
    ∙ sym (as_bodies mine) ∙ ap bodies_in (tagged_placed client bodies outcomes)

placed_subsequence : (bodies : List (List ℕ)) (outcomes : List Outcome)
    → IsSubsequence (bodies_in (bodies_with_places bodies outcomes)) bodies
placed_subsequence [] outcomes = tt
placed_subsequence (b ∷ bs) [] = tt
placed_subsequence (b ∷ bs) (o ∷ os) = first_place b (place_of o) (bodies_with_places bs os) bs (placed_subsequence bs os)

each_sub : (client : ℕ) (front all : List Tagged) (bodies : List (List (List ℕ))) (outcomes : List (List Outcome))
    → all ≡ front ++ all_tagged client bodies outcomes
    → ((other : ℕ) → client ≤ other → own other front ≡ []) → map length outcomes ≡ map length bodies
    → KeepsScripts bodies outcomes → AreSubsequences client bodies (map as_owned (tag_sort all))
each_sub client front all [] outcomes e none shape keeps = tt
each_sub client front all (bs ∷ later) [] e none shape keeps = absurd cc
each_sub client front all (bs ∷ later) (os ∷ others) e none shape keeps =
    let mine = tagged client bs os in
    let here = client_bodies client front bs later os others (none client (omega arith)) keeps.0 in
    let next : (other : ℕ) → client + 1 ≤ other → own other (front ++ mine) ≡ [] =
    λ other le.
    let apart : (client == other) ≡ false = grind (arith, nat_tests) in
    own_append other front mine ∙ ap (λ (ts : List Tagged). ts ++ own other mine) (none other (omega (arith, le)))
    ∙ other_tagged other client bs os apart in (
      subst (λ (ts : List Tagged). IsSubsequence (bodies_by client (map as_owned (tag_sort ts))) bs) (sym e)
          (subst (λ (xs : List (List ℕ)). IsSubsequence xs bs) (sym here) (placed_subsequence bs os)),
      each_sub (client + 1) (front ++ mine) all later others
          (e ∙ sym (append_assoc front mine (all_tagged (client + 1) later others))) next
          (one_by_one bs later os others shape).rest keeps.1,
    )

each_whole : (client : ℕ) (front all : List Tagged) (bodies : List (List (List ℕ))) (outcomes : List (List Outcome))
    → all ≡ front ++ all_tagged client bodies outcomes
    → ((other : ℕ) → client ≤ other → own other front ≡ []) → map length outcomes ≡ map length bodies
    → AllReplied outcomes → KeepsScripts bodies outcomes → AreMerged client bodies (map as_owned (tag_sort all))
each_whole client front all [] outcomes e none shape replied keeps = tt
each_whole client front all (bs ∷ later) [] e none shape replied keeps = absurd cc
each_whole client front all (bs ∷ later) (os ∷ others) e none shape replied keeps =
    let mine = tagged client bs os in
    let lengths = one_by_one bs later os others shape in
    let here = client_bodies client front bs later os others (none client (omega arith)) keeps.0 in
    let next : (other : ℕ) → client + 1 ≤ other → own other (front ++ mine) ≡ [] =
    λ other le.
    let apart : (client == other) ≡ false = grind (arith, nat_tests) in
    own_append other front mine ∙ ap (λ (ts : List Tagged). ts ++ own other mine) (none other (omega (arith, le)))
    ∙ other_tagged other client bs os apart in (
      ap (λ (ts : List Tagged). bodies_by client (map as_owned (tag_sort ts))) e ∙ here
          ∙ client_placed bs os lengths.first replied.0,
      each_whole (client + 1) (front ++ mine) all later others
          (e ∙ sym (append_assoc front mine (all_tagged (client + 1) later others))) next lengths.rest replied.1
          keeps.1,
    )

-- ---- nobody else's

abbrev pub IsTagOf : ℕ → Tagged → Type 0
IsTagOf many t = (1 ≤ t.client) × (t.client ≤ many)

tag_of : (many client : ℕ) (body : List ℕ) (place : Option ℕ) → 1 ≤ client → client ≤ many
    → AllByRecursion (IsTagOf many) (with_tag client body place)
tag_of many client body None low high = tt
tag_of many client body (Some place) low high = ((low, high), tt)

tags_of : (many client : ℕ) (bodies : List (List ℕ)) (outcomes : List Outcome) → 1 ≤ client → client ≤ many
    → AllByRecursion (IsTagOf many) (tagged client bodies outcomes)
tags_of many client [] outcomes low high = tt
tags_of many client (b ∷ bs) [] low high = tt
tags_of many client (b ∷ bs) (o ∷ os) low high = AllByRecursion-append (IsTagOf many)
    (with_tag client b (place_of o)) (tagged client bs os) (tag_of many client b (place_of o) low high)
    (tags_of many client bs os low high)

all_tags_of : (many client : ℕ) (bodies : List (List (List ℕ))) (outcomes : List (List Outcome)) → 1 ≤ client
    → client + length bodies ≤ many + 1 → AllByRecursion (IsTagOf many) (all_tagged client bodies outcomes)
all_tags_of many client [] outcomes low high = tt
all_tags_of many client (bs ∷ later) [] low high = tt
all_tags_of many client (bs ∷ later) (os ∷ others) low high = AllByRecursion-append (IsTagOf many)
    (tagged client bs os) (all_tagged (client + 1) later others)
    (tags_of many client bs os low (omega (arith, high)))
    (all_tags_of many (client + 1) later others (omega arith) (omega (arith, high)))

all_owned : (many : ℕ) (ts : List Tagged) → AllByRecursion (IsTagOf many) ts
    → AllByRecursion (IsOfClients many) (map as_owned ts)
all_owned many [] all = tt
all_owned many (t ∷ ts) all = (all.0, all_owned many ts all.1)

owners : (bodies : List (List (List ℕ))) (outcomes : List (List Outcome))
    → AllByRecursion (IsOfClients (length bodies)) (map as_owned (sorted bodies outcomes))
owners bodies outcomes = all_owned (length bodies) (sorted bodies outcomes)
    (all_sorted (IsTagOf (length bodies)) (all_tagged 1 bodies outcomes)
    (all_tags_of (length bodies) 1 bodies outcomes (omega arith) (omega arith)))

-- ---- what was executed

pub executed_some : (bodies : List (List (List ℕ))) (outcomes : List (List Outcome))
    (lates : List (List (Option (List ℕ)))) (executed : List (List ℕ)) → map length outcomes ≡ map length bodies
    → KeepsScripts bodies outcomes → IsExecutedOnce (order bodies outcomes) outcomes lates executed
    → IsMergeOfSome bodies executed
executed_some bodies outcomes lates executed shape keeps once =
    front_of_merge bodies executed (map as_owned (sorted bodies outcomes))
    (subst (IsPrefix executed) (order_owned bodies outcomes) once.front)
    (each_sub 1 [] (all_tagged 1 bodies outcomes) bodies outcomes refl (λ other le. refl) shape keeps)
    (owners bodies outcomes)

pub order_whole : (bodies : List (List (List ℕ))) (outcomes : List (List Outcome))
    → map length outcomes ≡ map length bodies → KeepsScripts bodies outcomes → AllReplied outcomes
    → IsMergeOfAll bodies (bodies_in (order bodies outcomes))
order_whole bodies outcomes shape keeps replied = record {
  owned = map as_owned (sorted bodies outcomes);
  same = order_owned bodies outcomes;
  each = each_whole 1 [] (all_tagged 1 bodies outcomes) bodies outcomes refl (λ other le. refl) shape replied keeps;
  nobody_else = owners bodies outcomes;
}

-- where all are replied to within what was executed, the whole order was executed
abbrev pub IsWithin : ℕ → Placed → Type 0
IsWithin most p = p.place ≤ most

replied_within : (most : ℕ) (bodies : List (List ℕ)) (outcomes : List Outcome) → AllByRecursion IsReplied outcomes
    → AllByRecursion (IsExecuted most) outcomes → AllByRecursion (IsWithin most) (bodies_with_places bodies outcomes)
replied_within most [] outcomes replied executed = tt
replied_within most (b ∷ bs) [] replied executed = tt
replied_within most (b ∷ bs) (Replied place words ∷ os) replied executed =
    (executed.0, replied_within most bs os replied.1 executed.1)
replied_within most (b ∷ bs) (TimedOut place rounds ∷ os) replied executed = absurd replied.0
replied_within most (b ∷ bs) (Unsent ∷ os) replied executed = absurd replied.0
replied_within most (b ∷ bs) (LinkLost place ∷ os) replied executed = absurd replied.0

all_within : (most : ℕ) (bodies : List (List (List ℕ))) (outcomes : List (List Outcome)) → AllReplied outcomes
    → AllByRecursion (AllByRecursion (IsExecuted most)) outcomes
    → AllByRecursion (IsWithin most) (all_placed bodies outcomes)
all_within most [] outcomes replied executed = tt
all_within most (bs ∷ later) [] replied executed = tt
all_within most (bs ∷ later) (os ∷ others) replied executed = AllByRecursion-append (IsWithin most) (bodies_with_places bs os)
    (all_placed later others) (replied_within most bs os replied.0 executed.0)
    (all_within most later others replied.1 executed.1)

last_within : (k most : ℕ) (ps : List Placed) → CountsFrom k (places_of ps) → AllByRecursion (IsWithin most) ps
    → k ≤ most + 1 → k + length ps ≤ most + 1
last_within k most [] counts all le = omega (arith, le)
last_within k most (p ∷ ps) counts all le =
    let later = last_within (k + 1) most ps counts.1 all.1 (omega (arith, counts.0, all.0)) in
    omega (arith, later)

whole_front : (xs ys : List (List ℕ)) → length (xs ++ ys) ≤ length xs → xs ≡ xs ++ ys
whole_front [] [] le = refl
whole_front [] (y ∷ ys) le = absurd (omega (arith, le))
whole_front (x ∷ xs) ys le = ap (λ (zs : List (List ℕ)). x ∷ zs) (whole_front xs ys (omega (arith, le)))

pub executed_whole : (bodies : List (List (List ℕ))) (outcomes : List (List Outcome))
    (lates : List (List (Option (List ℕ)))) (executed : List (List ℕ)) → HasOneOrder bodies outcomes
    → AllReplied outcomes → IsExecutedOnce (order bodies outcomes) outcomes lates executed
    → executed ≡ bodies_in (order bodies outcomes)
executed_whole bodies outcomes lates executed one replied once =
    let n = length executed in
    let within = sorting.all_sorted (IsWithin n) (all_placed bodies outcomes)
    (all_within n bodies outcomes replied once.replied) in
    let end = last_within 1 n (order bodies outcomes) one within (omega arith) in
    let count = length-map (order bodies outcomes) (λ (p : Placed). p.body) in
    let short : length (bodies_in (order bodies outcomes)) ≤ n = omega (arith, end, count) in
    whole_front executed once.front.0 (subst (λ (bs : List (List ℕ)). length bs ≤ n) once.front.1 short)
    ∙ sym once.front.1
