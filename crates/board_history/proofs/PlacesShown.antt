-- The places that lines show of a board are 1, 2, .. up to the number of its first sends.
use Rattle.std.proofs.Common.{◌≡◌, ◌↔◌, ℕ, suc, ◌+◌, ◌<◌, ◌≤◌, List, [], ◌∷◌, length, map, Option, Some}
use Rattle.std.proofs.Common.{None, refl, sym, ap, subst, ◌∙◌, inl, inr, arith, drop, get_or}
use Rattle.std.specs.Prelude.{nat_le}
use Rattle.std.specs.List.{AllByRecursion, Any, count_by, slice_get}
use Rattle.std.proofs.lemmas.Bool.{cases_eq}
use Rattle.std.proofs.lemmas.Option.{same_Some}
use Rattle.mtu_packer.proofs.AnyLemmas.{any_nowhere, any_here, any_later, any_cases, any_front, any_back, any_append}
use Rattle.world_model.proofs.Lists.{either}
use Rattle.script_steps.specs.declared.operation.Step.{Step}
use Rattle.script_plans.specs.declared.greeting.Greeting.{Greeting}
use Rattle.script_plans.specs.declared.greeting.Greeting.TheVariants.{Live, Silent, Down}
use Rattle.lane_record.specs.declared.outcome.Outcome.{Outcome}
use Rattle.script_plans.specs.declared.board_run.ClientPart.{ClientPart}
use Rattle.script_plans.specs.declared.board_run.BoardRun.{BoardRun}
use Rattle.lane_record.specs.Outcomes.{place_of}
use Rattle.transcript.specs.Ends.{end_of, ends_with}
use Rattle.lane_record.specs.Outcomes.{is_sent}
use Rattle.script_plans.specs.Runs.{outcomes_on, IsPlanned, ArePlanned}
use Rattle.transcript.specs.Lines.{board_line, lines_from, transcript_of}
use Rattle.transcript.specs.Shown.{IsShown, EndsAt, HasBodyAt, IsPlaceOn}
use Rattle.transcript.specs.Shown.{ShowPlacesOf, ShowsAllPlaces}
use Rattle.transcript.proofs.ShownLines.{planned_there, place_on_live}
use Rattle.board_history.specs.Order.{Placed, with_place, bodies_with_places, all_placed, insert, by_place, places_of}
use Rattle.lane_record.specs.Lists.{CountsFrom}
use Rattle.board_history.specs.History.{IsOrdered, bodies_by_client, outcomes_by_client}
use Rattle.board_history.proofs.Sends.{sends_are_the_order}

abbrev pub IsAt : ℕ → Placed → Type 0
IsAt place p = p.place ≡ place

-- ---- bodies with a place

here_placed : (body : List ℕ) (place : ℕ) (found : Option ℕ) → found ≡ Some place
    → Any (IsAt place) (with_place body found)
here_placed body place None is = absurd cc
here_placed body place (Some n) is =
    any_here (IsAt place) (record { place = n; body = body }) [] (same_Some n place is)

placed_here : (body : List ℕ) (place : ℕ) (found : Option ℕ) → Any (IsAt place) (with_place body found)
    → found ≡ Some place
placed_here body place None any = absurd (any_nowhere (IsAt place) any)
placed_here body place (Some n) any = elim (any_cases (IsAt place) (record { place = n; body = body }) [] any) [
  | inl same ↦ ap (λ m. Some m) same
  | inr none ↦ absurd (any_nowhere (IsAt place) none)
]

client_placed : (place : ℕ) (bodies : List (List ℕ)) (outcomes : List Outcome) (lates : List (Option (List ℕ)))
    → Any (EndsAt place) (ends_with bodies outcomes lates) → Any (IsAt place) (bodies_with_places bodies outcomes)
client_placed place [] outcomes lates any = absurd (any_nowhere (EndsAt place) any)
client_placed place (b ∷ bodies) [] lates any = absurd (any_nowhere (EndsAt place) any)
client_placed place (b ∷ bodies) (o ∷ outcomes) lates any =
    elim (any_cases (EndsAt place) (end_of b o (get_or lates 0 None)) (ends_with bodies outcomes (drop 1 lates)) any) [
      | inl here ↦ any_front (IsAt place) (with_place b (place_of o)) (bodies_with_places bodies outcomes)
          (here_placed b place (place_of o) here)
      | inr later ↦ any_back (IsAt place) (with_place b (place_of o)) (bodies_with_places bodies outcomes)
          (client_placed place bodies outcomes (drop 1 lates) later)
    ]

placed_client : (place : ℕ) (bodies : List (List ℕ)) (outcomes : List Outcome) (lates : List (Option (List ℕ)))
    → Any (IsAt place) (bodies_with_places bodies outcomes) → Any (EndsAt place) (ends_with bodies outcomes lates)
placed_client place [] outcomes lates any = absurd (any_nowhere (IsAt place) any)
placed_client place (b ∷ bodies) [] lates any = absurd (any_nowhere (IsAt place) any)
placed_client place (b ∷ bodies) (o ∷ outcomes) lates any =
    let end = end_of b o (get_or lates 0 None) in
    let rest = ends_with bodies outcomes (drop 1 lates) in
    elim (any_append (IsAt place) (with_place b (place_of o)) (bodies_with_places bodies outcomes) any) [
      | inl front ↦ any_here (EndsAt place) end rest (placed_here b place (place_of o) front)
      | inr back ↦ any_later (EndsAt place) end rest (placed_client place bodies outcomes (drop 1 lates) back)
    ]

abbrev bodies_in : List ClientPart → List (List (List ℕ))
bodies_in parts = map (λ (p : ClientPart). p.planned.bodies) parts

abbrev outcomes_in : List ClientPart → List (List Outcome)
outcomes_in parts = map (λ (p : ClientPart). p.outcomes) parts

parts_placed : (place : ℕ) (parts : List ClientPart) → Any (HasBodyAt place) parts
    → Any (IsAt place) (all_placed (bodies_in parts) (outcomes_in parts))
parts_placed place [] any = absurd (any_nowhere (HasBodyAt place) any)
parts_placed place (part ∷ parts) any =
    let first = bodies_with_places part.planned.bodies part.outcomes in
    let rest = all_placed (bodies_in parts) (outcomes_in parts) in
    elim (any_cases (HasBodyAt place) part parts any) [
      | inl here ↦ any_front (IsAt place) first rest
          (client_placed place part.planned.bodies part.outcomes part.lates here)
      | inr later ↦ any_back (IsAt place) first rest (parts_placed place parts later)
    ]

placed_parts : (place : ℕ) (parts : List ClientPart)
    → Any (IsAt place) (all_placed (bodies_in parts) (outcomes_in parts)) → Any (HasBodyAt place) parts
placed_parts place [] any = absurd (any_nowhere (IsAt place) any)
placed_parts place (part ∷ parts) any =
    elim (any_append (IsAt place) (bodies_with_places part.planned.bodies part.outcomes)
    (all_placed (bodies_in parts) (outcomes_in parts)) any) [
      | inl front ↦ any_here (HasBodyAt place) part parts
          (placed_client place part.planned.bodies part.outcomes part.lates front)
      | inr back ↦ any_later (HasBodyAt place) part parts (placed_parts place parts back)
    ]

-- ---- sorting

module _ (P : Placed → Type 0) where
  insert_any : (x : Placed) (ys : List Placed) → Any P (x ∷ ys) → Any P (insert x ys)
  insert_any x [] = λ any. any
  insert_any x (y ∷ ys) =
      either (λ (r : List Placed). Any P (x ∷ (y ∷ ys)) → Any P r) (nat_le x.place y.place)
      (x ∷ (y ∷ ys)) (y ∷ insert x ys)
      (λ _ any. any)
      (λ _ any. elim (any_cases P x (y ∷ ys) any) [
        | inl here ↦ any_later P y (insert x ys) (insert_any x ys (any_here P x ys here))
        | inr later ↦ elim (any_cases P y ys later) [
          | inl first ↦ any_here P y (insert x ys) first
          | inr rest ↦ any_later P y (insert x ys) (insert_any x ys (any_later P x ys rest))
        ]
      ])

  any_insert : (x : Placed) (ys : List Placed) → Any P (insert x ys) → Any P (x ∷ ys)
  any_insert x [] = λ any. any
  any_insert x (y ∷ ys) =
      either (λ (r : List Placed). Any P r → Any P (x ∷ (y ∷ ys))) (nat_le x.place y.place)
      (x ∷ (y ∷ ys)) (y ∷ insert x ys)
      (λ _ any. any)
      (λ _ any. elim (any_cases P y (insert x ys) any) [
        | inl first ↦ any_later P x (y ∷ ys) (any_here P y ys first)
        | inr later ↦ elim (any_cases P x ys (any_insert x ys later)) [
          | inl here ↦ any_here P x (y ∷ ys) here
          | inr rest ↦ any_later P x (y ∷ ys) (any_later P y ys rest)
        ]
      ])

  sorted_any : (ps : List Placed) → Any P ps → Any P (by_place ps)
  sorted_any [] any = any
  sorted_any (p ∷ ps) any = insert_any p (by_place ps) (elim (any_cases P p ps any) [
    | inl here ↦ any_here P p (by_place ps) here
    | inr later ↦ any_later P p (by_place ps) (sorted_any ps later)
  ])

  any_sorted : (ps : List Placed) → Any P (by_place ps) → Any P ps
  any_sorted [] any = any
  any_sorted (p ∷ ps) any = elim (any_cases P p (by_place ps) (any_insert p (by_place ps) any)) [
    | inl here ↦ any_here P p ps here
    | inr later ↦ any_later P p ps (any_sorted ps later)
  ]

-- ---- counting

counted : (k : ℕ) (ps : List Placed) (place : ℕ) → CountsFrom k (places_of ps) → Any (IsAt place) ps
    → (k ≤ place) × (place < k + length ps)
counted k [] place counts any = absurd (any_nowhere (IsAt place) any)
counted k (p ∷ ps) place counts any = elim (any_cases (IsAt place) p ps any) [
  | inl here ↦ (omega (arith, counts.0), omega (arith, counts.0))
  | inr later ↦
      let both = counted (k + 1) ps place counts.1 later in
      (omega (arith, both.0), omega (arith, both.1))
]

pub reached : (k : ℕ) (ps : List Placed) (place : ℕ) → CountsFrom k (places_of ps) → k ≤ place → place < k + length ps
    → Any (IsAt place) ps
reached k [] place counts low high = absurd (omega arith)
reached k (p ∷ ps) place counts low high = elim (cases_eq place k) [
  | inl same ↦ any_here (IsAt place) p ps (counts.0 ∙ sym same)
  | inr other ↦ any_later (IsAt place) p ps (reached (k + 1) ps place counts.1 (omega arith) (omega arith))
]

-- ---- a board

place_in_order : (run : BoardRun) (place : ℕ) → IsOrdered run
    → (IsPlaceOn run place ↔ ((1 ≤ place) × (place ≤ count_by is_sent (outcomes_on run))))
place_in_order run place is =
    let all = all_placed (bodies_by_client run) (outcomes_by_client run) in
    let sent = sends_are_the_order run is.shape in (
      λ on.
          let both = counted 1 (by_place all) place is.one_order
          (sorted_any (IsAt place) all (parts_placed place run.parts on)) in
          (both.0, omega (arith, both.1, sent)),
      λ both. placed_parts place run.parts
          (any_sorted (IsAt place) all
          (reached 1 (by_place all) place is.one_order both.0 (omega (arith, both.1, sent)))),
    )

-- ---- the lines

-- what lines show of a board are the places of its bodies
abbrev pub ShowBodies : List (List Step) → List BoardRun → Type 0
ShowBodies scripts runs =
    (board : ℕ) (run : BoardRun) (place : ℕ) → slice_get runs board ≡ Some run
    → (IsShown run.name place (transcript_of scripts runs).clients ↔ IsPlaceOn run place)

module _ (scripts : List (List Step)) (runs : List BoardRun) (law : ShowBodies scripts runs) where
  live_board : (board : ℕ) (run : BoardRun) → slice_get runs board ≡ Some run → IsOrdered run → (place : ℕ)
      → (IsShown run.name place (lines_from runs 0 scripts)
      ↔ ((1 ≤ place) × (place ≤ count_by is_sent (outcomes_on run))))
  live_board board run at is place =
      let shown = law board run place at in
      let ordered = place_in_order run place is in
      (λ there. ordered.0 (shown.0 there), λ both. shown.1 (ordered.1 both))

  other_board : (board : ℕ) (run : BoardRun) → slice_get runs board ≡ Some run
      → ((place : ℕ) → IsPlaceOn run place → ⊥) → (place : ℕ)
      → (IsShown run.name place (lines_from runs 0 scripts) ↔ ((1 ≤ place) × (place ≤ 0)))
  other_board board run at none place =
      let shown = law board run place at in
      (λ there. absurd (none place (shown.0 there)), λ both. absurd (omega (arith, both.0, both.1)))

  board_shown : (board : ℕ) (run : BoardRun) (told : Greeting) → IsPlanned board scripts run → run.greeting ≡ told
      → slice_get runs board ≡ Some run → IsOrdered run
      → ShowPlacesOf (lines_from runs 0 scripts) (board_line run)
  board_shown board run (Live payload) plans told at is = rw told (live_board board run at is)
  board_shown board run Silent plans told at is =
      rw told (other_board board run at (λ place on.
      let live = place_on_live scripts board run place plans on in
      let no : Silent ≡ Live live.0 = sym told ∙ live.1 in cc))
  board_shown board run Down plans told at is =
      rw told (other_board board run at (λ place on.
      let live = place_on_live scripts board run place plans on in
      let no : Down ≡ Live live.0 = sym told ∙ live.1 in cc))

  all_boards : (rest : List BoardRun) → AllByRecursion IsOrdered rest
      → ((k : ℕ) (run : BoardRun) → slice_get rest k ≡ Some run → IsOrdered run
      → ShowPlacesOf (lines_from runs 0 scripts) (board_line run))
      → AllByRecursion (ShowPlacesOf (lines_from runs 0 scripts)) (map board_line rest)
  all_boards [] ordered look = tt
  all_boards (run ∷ rest) ordered look = (
    look 0 run refl ordered.0,
    all_boards rest ordered.1 (λ k other at is. look (suc k) other at is),
  )

  pub all_shown : ArePlanned 0 scripts runs → AllByRecursion IsOrdered runs
      → ShowsAllPlaces (transcript_of scripts runs)
  all_shown plans ordered =
      all_boards runs ordered (λ board run at is.
      let first : 0 + board ≡ board = omega arith in
      let planned = subst (λ n. IsPlanned n scripts run) first (planned_there scripts 0 runs board run plans at) in
      board_shown board run run.greeting planned refl at is)
