-- The places of a run: those of an order, each of one body, and rising with the bodies of a client.
use Rattle.std.proofs.Common.{◌≡◌, ◌≢◌, ℕ, zero, suc, ◌+◌, ◌<◌, ◌≤◌, List, [], ◌∷◌, ◌++◌, length, map}
use Rattle.std.proofs.Common.{Option, Some, None, refl, ap, subst, inl, inr, arith, append-nil}
use Rattle.std.specs.Prelude.{nat_le, option_and_then}
use Rattle.std.specs.List.{AllByRecursion, Any, slice_get}
use Rattle.std.proofs.lemmas.Option.{same_Some}
use Rattle.ipb_base.proofs.AllLemmas.{back_of_all, front_of_all}
use Rattle.mtu_packer.proofs.AnyLemmas.{any_append, any_cases, any_here, any_later, any_nowhere}
use Rattle.world_model.proofs.Lists.{either}
use Rattle.lane_record.specs.declared.outcome.Outcome.{Outcome}
use Rattle.lane_record.specs.Lists.{CountsFrom}
use Rattle.lane_record.specs.Outcomes.{place_of}
use Rattle.script_plans.specs.declared.board_run.ClientPart.{ClientPart}
use Rattle.board_history.specs.Order.{Placed, RisesFrom, all_placed, by_place, insert, order, bodies_with_places, places_of, with_place}
use Rattle.board_history.specs.Parts.{HasOneOrder, KeepsScripts}
use Rattle.board_history.proofs.OwnPlaces.{AreApart, IsApart, back_apart, counting_apart, front_apart, sorted_apart}
use Rattle.board_history.proofs.PlacesShown.{IsAt, reached}
use Rattle.board_history.proofs.Sorting.{sorted_all}
use Rattle.audit_laws.proofs.ShownPieces.{place_in_parts}

abbrev bodies_in : List ClientPart → List (List (List ℕ))
bodies_in parts = map (λ (p : ClientPart). p.planned.bodies) parts

abbrev outcomes_in : List ClientPart → List (List Outcome)
outcomes_in parts = map (λ (p : ClientPart). p.outcomes) parts

-- each body has an outcome
abbrev IsInShape : List ClientPart → Type 0
IsInShape parts = map length (outcomes_in parts) ≡ map length (bodies_in parts)

-- the place of body k, by the outcomes of its client
abbrev place_at : List Outcome → ℕ → Option ℕ
place_at outcomes k = option_and_then place_of (slice_get outcomes k)

-- ---- what holds of all places holds of each

here_all : (P : ℕ → Type 0) (body : List ℕ) (found : Option ℕ) (rest : List Placed) (place : ℕ) → found ≡ Some place
    → AllByRecursion (λ (p : Placed). P p.place) (with_place body found ++ rest) → P place
here_all P body None rest place is all = absurd cc
here_all P body (Some n) rest place is all = subst P (same_Some n place is) all.0

client_all : (P : ℕ → Type 0) (bodies : List (List ℕ)) (outcomes : List Outcome) (k place : ℕ)
    → length outcomes ≡ length bodies → place_at outcomes k ≡ Some place
    → AllByRecursion (λ (p : Placed). P p.place) (bodies_with_places bodies outcomes) → P place
client_all P bodies [] k place long is all = absurd cc
client_all P [] (o ∷ outcomes) k place long is all = absurd (omega arith)
client_all P (b ∷ bodies) (o ∷ outcomes) zero place long is all =
    here_all P b (place_of o) (bodies_with_places bodies outcomes) place is all
client_all P (b ∷ bodies) (o ∷ outcomes) (suc k) place long is all =
    client_all P bodies outcomes k place (omega arith) is
    (back_of_all (λ (p : Placed). P p.place) (with_place b (place_of o)) (bodies_with_places bodies outcomes) all)

parts_all : (P : ℕ → Type 0) (parts : List ClientPart) (client k place : ℕ) → IsInShape parts
    → place_in_parts parts client k ≡ Some place
    → AllByRecursion (λ (p : Placed). P p.place) (all_placed (bodies_in parts) (outcomes_in parts)) → P place
parts_all P [] client k place shape is all = absurd cc
parts_all P (part ∷ parts) zero k place shape is all =
    let here : length part.outcomes ≡ length part.planned.bodies = cc in
    client_all P part.planned.bodies part.outcomes k place here is
    (front_of_all (λ (p : Placed). P p.place) (bodies_with_places part.planned.bodies part.outcomes)
    (all_placed (bodies_in parts) (outcomes_in parts)) all)
parts_all P (part ∷ parts) (suc client) k place shape is all =
    let rest : map length (outcomes_in parts) ≡ map length (bodies_in parts) = cc in
    parts_all P parts client k place rest is
    (back_of_all (λ (p : Placed). P p.place) (bodies_with_places part.planned.bodies part.outcomes)
    (all_placed (bodies_in parts) (outcomes_in parts)) all)

-- ---- a place of the order is that of a body

here_found : (body : List ℕ) (found : Option ℕ) (place : ℕ) → Any (IsAt place) (with_place body found)
    → found ≡ Some place
here_found body None place any = absurd (any_nowhere (IsAt place) any)
here_found body (Some n) place any =
    elim (any_cases (IsAt place) (record { place = n; body = body }) [] any) [
      | inl same ↦ ap (λ m. Some m) same
      | inr none ↦ absurd (any_nowhere (IsAt place) none)
    ]

client_found : (bodies : List (List ℕ)) (outcomes : List Outcome) (place : ℕ)
    → Any (IsAt place) (bodies_with_places bodies outcomes) → (k : ℕ) × (place_at outcomes k ≡ Some place)
client_found [] outcomes place any = absurd (any_nowhere (IsAt place) any)
client_found (b ∷ bodies) [] place any = absurd (any_nowhere (IsAt place) any)
client_found (b ∷ bodies) (o ∷ outcomes) place any =
    elim (any_append (IsAt place) (with_place b (place_of o)) (bodies_with_places bodies outcomes) any) [
      | inl here ↦ (0, here_found b (place_of o) place here)
      | inr later ↦ let found = client_found bodies outcomes place later in (suc found.0, found.1)
    ]

parts_found : (parts : List ClientPart) (place : ℕ)
    → Any (IsAt place) (all_placed (bodies_in parts) (outcomes_in parts))
    → (client : ℕ) × (k : ℕ) × (place_in_parts parts client k ≡ Some place)
parts_found [] place any = absurd (any_nowhere (IsAt place) any)
parts_found (part ∷ parts) place any =
    elim (any_append (IsAt place) (bodies_with_places part.planned.bodies part.outcomes)
    (all_placed (bodies_in parts) (outcomes_in parts)) any) [
      | inl here ↦
          let found = client_found part.planned.bodies part.outcomes place here in (0, found.0, found.1)
      | inr later ↦ let found = parts_found parts place later in (suc found.0, found.1, found.2)
    ]

-- ---- sorting

insert_any : (P : Placed → Type 0) (x : Placed) (ys : List Placed) → Any P (insert x ys) → Any P (x ∷ ys)
insert_any P x [] = λ any. any
insert_any P x (y ∷ ys) =
    either (λ (r : List Placed). Any P r → Any P (x ∷ (y ∷ ys))) (nat_le x.place y.place) (x ∷ (y ∷ ys))
    (y ∷ insert x ys) (λ _ any. any)
    (λ _ any. elim (any_cases P y (insert x ys) any) [
      | inl here ↦ any_later P x (y ∷ ys) (any_here P y ys here)
      | inr later ↦ elim (any_cases P x ys (insert_any P x ys later)) [
        | inl first ↦ any_here P x (y ∷ ys) first
        | inr last ↦ any_later P x (y ∷ ys) (any_later P y ys last)
      ]
    ])

any_sorted : (P : Placed → Type 0) (ps : List Placed) → Any P (by_place ps) → Any P ps
any_sorted P [] any = any
any_sorted P (p ∷ ps) any = elim (any_cases P p (by_place ps) (insert_any P p (by_place ps) any)) [
  | inl here ↦ any_here P p ps here
  | inr later ↦ any_later P p ps (any_sorted P ps later)
]

-- ---- places that count

abbrev IsBetween : ℕ → ℕ → Placed → Type 0
IsBetween low high p = (low ≤ p.place) × (p.place < high)

counts_between : (low high k : ℕ) (ps : List Placed) → CountsFrom k (places_of ps) → low ≤ k → k + length ps ≤ high
    → AllByRecursion (IsBetween low high) ps
counts_between low high k [] counts from to = tt
counts_between low high k (p ∷ ps) counts from to = (
  (omega (arith, counts.0), omega (arith, counts.0)),
  counts_between low high (k + 1) ps counts.1 (omega arith) (omega arith),
)

-- ---- places that stand apart

-- each of the first list has another place than each of the second
across : (xs ys : List Placed) → AreApart (xs ++ ys) → AllByRecursion (λ x. AllByRecursion (IsApart x) ys) xs
across [] ys apart = tt
across (x ∷ xs) ys apart = (back_of_all (IsApart x) xs ys apart.0, across xs ys apart.1)

-- all of these have another place
abbrev AreOther : List Placed → ℕ → Type 0
AreOther ps place = AllByRecursion (λ (p : Placed). place ≢ p.place) ps

client_apart : (bodies : List (List ℕ)) (outcomes : List Outcome) (i j place : ℕ) → length outcomes ≡ length bodies
    → AreApart (bodies_with_places bodies outcomes) → place_at outcomes i ≡ Some place → place_at outcomes j ≡ Some place → i ≡ j
client_apart bodies [] i j place long apart is also = absurd cc
client_apart [] (o ∷ outcomes) i j place long apart is also = absurd (omega arith)
client_apart (b ∷ bodies) (o ∷ outcomes) zero zero place long apart is also = refl
client_apart (b ∷ bodies) (o ∷ outcomes) zero (suc j) place long apart is also =
    let others = here_all (AreOther (bodies_with_places bodies outcomes)) b (place_of o) [] place is
    (rw append-nil (across (with_place b (place_of o)) (bodies_with_places bodies outcomes) apart)) in
    absurd (client_all (λ n. place ≢ n) bodies outcomes j place (omega arith) also others refl)
client_apart (b ∷ bodies) (o ∷ outcomes) (suc i) zero place long apart is also =
    let others = here_all (AreOther (bodies_with_places bodies outcomes)) b (place_of o) [] place also
    (rw append-nil (across (with_place b (place_of o)) (bodies_with_places bodies outcomes) apart)) in
    absurd (client_all (λ n. place ≢ n) bodies outcomes i place (omega arith) is others refl)
client_apart (b ∷ bodies) (o ∷ outcomes) (suc i) (suc j) place long apart is also =
    ap suc (client_apart bodies outcomes i j place (omega arith)
    (back_apart (with_place b (place_of o)) (bodies_with_places bodies outcomes) apart) is also)

-- one client has the place, and a later one too
clients_apart : (part : ClientPart) (parts : List ClientPart) (i client j place : ℕ) → IsInShape (part ∷ parts)
    → AreApart (all_placed (bodies_in (part ∷ parts)) (outcomes_in (part ∷ parts)))
    → place_at part.outcomes i ≡ Some place → place_in_parts parts client j ≡ Some place → ⊥
clients_apart part parts i client j place shape apart is also =
    let here : length part.outcomes ≡ length part.planned.bodies = cc in
    let rest : map length (outcomes_in parts) ≡ map length (bodies_in parts) = cc in
    let later = all_placed (bodies_in parts) (outcomes_in parts) in
    let others = client_all (AreOther later) part.planned.bodies part.outcomes i place here is
    (across (bodies_with_places part.planned.bodies part.outcomes) later apart) in
    parts_all (λ n. place ≢ n) parts client j place rest also others refl

parts_apart : (parts : List ClientPart) (client other i j place : ℕ) → IsInShape parts
    → AreApart (all_placed (bodies_in parts) (outcomes_in parts)) → place_in_parts parts client i ≡ Some place
    → place_in_parts parts other j ≡ Some place → (client ≡ other) × (i ≡ j)
parts_apart [] client other i j place shape apart is also = absurd cc
parts_apart (part ∷ parts) zero zero i j place shape apart is also =
    let here : length part.outcomes ≡ length part.planned.bodies = cc in (
      refl,
      client_apart part.planned.bodies part.outcomes i j place here
          (front_apart (bodies_with_places part.planned.bodies part.outcomes)
          (all_placed (bodies_in parts) (outcomes_in parts)) apart) is also,
    )
parts_apart (part ∷ parts) zero (suc other) i j place shape apart is also =
    absurd (clients_apart part parts i other j place shape apart is also)
parts_apart (part ∷ parts) (suc client) zero i j place shape apart is also =
    absurd (clients_apart part parts j client i place shape apart also is)
parts_apart (part ∷ parts) (suc client) (suc other) i j place shape apart is also =
    let rest : map length (outcomes_in parts) ≡ map length (bodies_in parts) = cc in
    let both = parts_apart parts client other i j place rest
    (back_apart (bodies_with_places part.planned.bodies part.outcomes) (all_placed (bodies_in parts) (outcomes_in parts)) apart)
    is also in
    (ap suc both.0, both.1)

-- ---- places that rise

rises_low : (from low : ℕ) (ps : List Placed) → low ≤ from → RisesFrom from (places_of ps)
    → AllByRecursion (λ (p : Placed). low ≤ p.place) ps
rises_low from low [] le rises = tt
rises_low from low (p ∷ ps) le rises =
    (omega (arith, rises.0), rises_low (p.place + 1) low ps (omega (arith, rises.0)) rises.1)

-- behind a body with a place they rise from there
rises_here : (from place : ℕ) (body : List ℕ) (found : Option ℕ) (rest : List Placed) → found ≡ Some place
    → RisesFrom from (places_of (with_place body found ++ rest)) → RisesFrom (place + 1) (places_of rest)
rises_here from place body None rest is rises = absurd cc
rises_here from place body (Some n) rest is rises =
    subst (λ m. RisesFrom (m + 1) (places_of rest)) (same_Some n place is) rises.1

rises_later : (from : ℕ) (body : List ℕ) (found : Option ℕ) (rest : List Placed)
    → RisesFrom from (places_of (with_place body found ++ rest)) → (low : ℕ) × RisesFrom low (places_of rest)
rises_later from body None rest rises = (from, rises)
rises_later from body (Some n) rest rises = (n + 1, rises.1)

client_rises : (from : ℕ) (bodies : List (List ℕ)) (outcomes : List Outcome) (i j one other : ℕ)
    → length outcomes ≡ length bodies → RisesFrom from (places_of (bodies_with_places bodies outcomes)) → i < j
    → place_at outcomes i ≡ Some one → place_at outcomes j ≡ Some other → one < other
client_rises from bodies [] i j one other long rises less is also = absurd cc
client_rises from [] (o ∷ outcomes) i j one other long rises less is also = absurd (omega arith)
client_rises from (b ∷ bodies) (o ∷ outcomes) i zero one other long rises less is also = absurd (omega arith)
client_rises from (b ∷ bodies) (o ∷ outcomes) zero (suc j) one other long rises less is also =
    let later = rises_here from one b (place_of o) (bodies_with_places bodies outcomes) is rises in
    let above = client_all (λ n. one + 1 ≤ n) bodies outcomes j other (omega arith) also
    (rises_low (one + 1) (one + 1) (bodies_with_places bodies outcomes) (omega arith) later) in
    omega (arith, above)
client_rises from (b ∷ bodies) (o ∷ outcomes) (suc i) (suc j) one other long rises less is also =
    let later = rises_later from b (place_of o) (bodies_with_places bodies outcomes) rises in
    client_rises later.0 bodies outcomes i j one other (omega arith) later.1 (omega arith) is also

parts_rise : (parts : List ClientPart) (client i j one other : ℕ) → IsInShape parts
    → KeepsScripts (bodies_in parts) (outcomes_in parts) → i < j → place_in_parts parts client i ≡ Some one
    → place_in_parts parts client j ≡ Some other → one < other
parts_rise [] client i j one other shape keeps less is also = absurd cc
parts_rise (part ∷ parts) zero i j one other shape keeps less is also =
    let here : length part.outcomes ≡ length part.planned.bodies = cc in
    client_rises 1 part.planned.bodies part.outcomes i j one other here keeps.0 less is also
parts_rise (part ∷ parts) (suc client) i j one other shape keeps less is also =
    let rest : map length (outcomes_in parts) ≡ map length (bodies_in parts) = cc in
    parts_rise parts client i j one other rest keeps.1 less is also

-- ---- what the places of a run are

module _ (parts : List ClientPart) (shape : IsInShape parts) where
  -- the places of bodies are 1, 2, .. up to the number of bodies in the order
  pub place_between : (client k place : ℕ) → HasOneOrder (bodies_in parts) (outcomes_in parts)
      → place_in_parts parts client k ≡ Some place
      → (1 ≤ place) × (place ≤ length (order (bodies_in parts) (outcomes_in parts)))
  place_between client k place one is =
      let all = all_placed (bodies_in parts) (outcomes_in parts) in
      let within = parts_all (λ n. (1 ≤ n) × (n < 1 + length (by_place all))) parts client k place shape is
      (sorted_all (IsBetween 1 (1 + length (by_place all))) all
      (counts_between 1 (1 + length (by_place all)) 1 (by_place all) one (omega arith) (omega arith))) in
      (within.0, omega (arith, within.1))

  pub place_found : (place : ℕ) → HasOneOrder (bodies_in parts) (outcomes_in parts) → 1 ≤ place
      → place ≤ length (order (bodies_in parts) (outcomes_in parts))
      → (client : ℕ) × (k : ℕ) × (place_in_parts parts client k ≡ Some place)
  place_found place one low high =
      let all = all_placed (bodies_in parts) (outcomes_in parts) in
      parts_found parts place
      (any_sorted (IsAt place) all (reached 1 (by_place all) place one low (omega arith)))

  -- each belongs to one body
  pub place_once : (client other i j place : ℕ) → HasOneOrder (bodies_in parts) (outcomes_in parts)
      → place_in_parts parts client i ≡ Some place → place_in_parts parts other j ≡ Some place
      → (client ≡ other) × (i ≡ j)
  place_once client other i j place one is also =
      let all = all_placed (bodies_in parts) (outcomes_in parts) in
      parts_apart parts client other i j place shape
      (sorted_apart all (counting_apart 1 (by_place all) one)) is also

  -- those of a client rise
  pub place_rises : (client i j one other : ℕ) → KeepsScripts (bodies_in parts) (outcomes_in parts) → i < j
      → place_in_parts parts client i ≡ Some one → place_in_parts parts client j ≡ Some other → one < other
  place_rises client i j one other keeps less is also =
      parts_rise parts client i j one other shape keeps less is also
