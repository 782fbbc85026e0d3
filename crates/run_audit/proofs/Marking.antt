-- Rows of places, as pieces mark them.
use Rattle.std.proofs.Common.{◌≡◌, ◌≢◌, ℕ, zero, suc, ◌+◌, ◌<◌, ◌≤◌, List, [], ◌∷◌, length, map, refl, ap, sym}
use Rattle.std.proofs.Common.{◌∙◌, arith, Option, Some, None}
use Rattle.std.specs.Prelude.{unwrap_or, set, get_or}
use Rattle.std.proofs.lemmas.Bool.Decides.{nat_tests}
use Rattle.script_plans.specs.Plan.{ClientBodies}
use Rattle.run_audit.specs.AskedLines.{ShownPiece}
use Rattle.run_audit.specs.Replay.{place_shown}
use Rattle.run_audit.specs.Replaying.{all_marked, with_mark, marked_in, no_places, row_from, rows_from}

-- ---- what is known counts first

abbrev pub or_shown : Option ℕ → Option ℕ → Option ℕ
or_shown (Some known) shown = Some known
or_shown None shown = shown

known_stays : (known : Option ℕ) → or_shown known None ≡ known
known_stays (Some place) = refl
known_stays None = refl

known_first : (known : Option ℕ) (place : ℕ) (later : Option ℕ)
    → or_shown (Some (unwrap_or known place)) later ≡ or_shown known (Some place)
known_first (Some other) place later = refl
known_first None place later = refl

-- what pieces show beside what is known of the bodies of a client from a number on
abbrev pub over_row : List ShownPiece → ℕ → ℕ → List (Option ℕ) → List (Option ℕ)
over_row pieces client number [] = []
over_row pieces client number (known ∷ row) =
    or_shown known (place_shown pieces client number) ∷ over_row pieces client (number + 1) row

abbrev pub over_rows : List ShownPiece → ℕ → List (List (Option ℕ)) → List (List (Option ℕ))
over_rows pieces client [] = []
over_rows pieces client (row ∷ rows) = over_row pieces client 0 row ∷ over_rows pieces (client + 1) rows

-- ---- a piece more

-- one of this body comes first
shown_here : (piece : ShownPiece) (pieces : List ShownPiece) (client body : ℕ) → piece.client ≡ client → piece.body ≡ body
    → place_shown (piece ∷ pieces) client body ≡ Some piece.place
shown_here piece pieces client body at of = grind (arith, nat_tests)

shown_of_others : (piece : ShownPiece) (pieces : List ShownPiece) (client body : ℕ) → piece.client ≢ client
    → place_shown (piece ∷ pieces) client body ≡ place_shown pieces client body
shown_of_others piece pieces client body at = grind (arith, nat_tests)

shown_elsewhere : (piece : ShownPiece) (pieces : List ShownPiece) (client body : ℕ) → piece.body ≢ body
    → place_shown (piece ∷ pieces) client body ≡ place_shown pieces client body
shown_elsewhere piece pieces client body at = grind (arith, nat_tests)

past_row : (piece : ShownPiece) (pieces : List ShownPiece) (client number : ℕ) (row : List (Option ℕ))
    → piece.body < number → over_row pieces client number row ≡ over_row (piece ∷ pieces) client number row
past_row piece pieces client number [] past = refl
past_row piece pieces client number (known ∷ row) past =
    let here = shown_elsewhere piece pieces client number (omega arith) in
    rw here (ap (λ rest. or_shown known (place_shown pieces client number) ∷ rest)
    (past_row piece pieces client (number + 1) row (omega arith)))

other_row : (piece : ShownPiece) (pieces : List ShownPiece) (client number : ℕ) (row : List (Option ℕ))
    → piece.client ≢ client → over_row pieces client number row ≡ over_row (piece ∷ pieces) client number row
other_row piece pieces client number [] other = refl
other_row piece pieces client number (known ∷ row) other =
    let here = shown_of_others piece pieces client number other in
    rw here (ap (λ rest. or_shown known (place_shown pieces client number) ∷ rest)
    (other_row piece pieces client (number + 1) row other))

marked_row : (piece : ShownPiece) (pieces : List ShownPiece) (client number at : ℕ) (row : List (Option ℕ))
    → piece.client ≡ client → piece.body ≡ number + at
    → over_row pieces client number (with_mark at piece.place row) ≡ over_row (piece ∷ pieces) client number row
marked_row piece pieces client number at [] of here = refl
marked_row piece pieces client number zero (known ∷ row) of here =
    let first = shown_here piece pieces client number of (omega arith) in
    rw (first, known_first known piece.place (place_shown pieces client number))
    (ap (λ rest. or_shown known (Some piece.place) ∷ rest)
    (past_row piece pieces client (number + 1) row (omega arith)))
marked_row piece pieces client number (suc at) (known ∷ row) of here =
    let first = shown_elsewhere piece pieces client number (omega arith) in
    rw first (ap (λ rest. or_shown known (place_shown pieces client number) ∷ rest)
    (marked_row piece pieces client (number + 1) at row of (omega arith)))

past_rows : (piece : ShownPiece) (pieces : List ShownPiece) (client : ℕ) (rows : List (List (Option ℕ)))
    → piece.client < client → over_rows pieces client rows ≡ over_rows (piece ∷ pieces) client rows
past_rows piece pieces client [] past = refl
past_rows piece pieces client (row ∷ rows) past =
    let here = other_row piece pieces client 0 row (omega arith) in
    let rest = past_rows piece pieces (client + 1) rows (omega arith) in
    cc

marked_rows : (piece : ShownPiece) (pieces : List ShownPiece) (client at : ℕ) (rows : List (List (Option ℕ)))
    → piece.client ≡ client + at
    → over_rows pieces client (marked_in at piece.body piece.place rows) ≡ over_rows (piece ∷ pieces) client rows
marked_rows piece pieces client at [] here = refl
marked_rows piece pieces client zero (row ∷ rows) here =
    let first = marked_row piece pieces client 0 piece.body row (omega arith) (omega arith) in
    let rest = past_rows piece pieces (client + 1) rows (omega arith) in
    cc
marked_rows piece pieces client (suc at) (row ∷ rows) here =
    let first = other_row piece pieces client 0 row (omega arith) in
    let rest = marked_rows piece pieces (client + 1) at rows (omega arith) in
    cc

-- ---- all pieces

nothing_over_row : (client number : ℕ) (row : List (Option ℕ)) → over_row [] client number row ≡ row
nothing_over_row client number [] = refl
nothing_over_row client number (known ∷ row) =
    let first = known_stays known in
    let rest = nothing_over_row client (number + 1) row in
    cc

nothing_over : (client : ℕ) (rows : List (List (Option ℕ))) → over_rows [] client rows ≡ rows
nothing_over client [] = refl
nothing_over client (row ∷ rows) =
    let first = nothing_over_row client 0 row in
    let rest = nothing_over (client + 1) rows in
    cc

all_over : (pieces : List ShownPiece) (rows : List (List (Option ℕ))) → all_marked pieces rows ≡ over_rows pieces 0 rows
all_over [] rows = sym (nothing_over 0 rows)
all_over (piece ∷ pieces) rows =
    all_over pieces (marked_in piece.client piece.body piece.place rows)
    ∙ marked_rows piece pieces 0 piece.client rows (omega arith)

over_none : (pieces : List ShownPiece) (client number : ℕ) (bodies : List (List ℕ))
    → over_row pieces client number (no_places bodies) ≡ row_from pieces client number bodies
over_none pieces client number [] = refl
over_none pieces client number (body ∷ bodies) =
    ap (λ rest. place_shown pieces client number ∷ rest) (over_none pieces client (number + 1) bodies)

over_no_rows : (pieces : List ShownPiece) (client : ℕ) (plans : List ClientBodies)
    → over_rows pieces client (map (λ (plan : ClientBodies). no_places plan.bodies) plans)
    ≡ rows_from pieces client plans
over_no_rows pieces client [] = refl
over_no_rows pieces client (plan ∷ plans) =
    let first = over_none pieces client 0 plan.bodies in
    let rest = over_no_rows pieces (client + 1) plans in
    cc

-- marking all rows of a board gives the places that are shown
pub all_are_marked : (pieces : List ShownPiece) (plans : List ClientBodies)
    → all_marked pieces (map (λ (plan : ClientBodies). no_places plan.bodies) plans) ≡ rows_from pieces 0 plans
all_are_marked pieces plans =
    all_over pieces (map (λ (plan : ClientBodies). no_places plan.bodies) plans) ∙ over_no_rows pieces 0 plans

-- ---- what the code does to a row

pub mark_is_set : (row : List (Option ℕ)) (at place : ℕ) (d : Option ℕ) → at < length row
    → set row at (Some (unwrap_or (get_or row at d) place)) ≡ with_mark at place row
mark_is_set [] at place d within = absurd (omega arith)
mark_is_set (known ∷ row) zero place d within = refl
mark_is_set (known ∷ row) (suc at) place d within =
    ap (λ rest. known ∷ rest) (mark_is_set row at place d (omega arith))

pub mark_is_past : (row : List (Option ℕ)) (at place : ℕ) → length row ≤ at → with_mark at place row ≡ row
mark_is_past [] at place past = refl
mark_is_past (known ∷ row) zero place past = absurd (omega arith)
mark_is_past (known ∷ row) (suc at) place past = ap (λ rest. known ∷ rest) (mark_is_past row at place (omega arith))

pub row_is_set : (rows : List (List (Option ℕ))) (at body place : ℕ) (d : List (Option ℕ)) → at < length rows
    → set rows at (with_mark body place (get_or rows at d)) ≡ marked_in at body place rows
row_is_set [] at body place d within = absurd (omega arith)
row_is_set (first ∷ rows) zero body place d within = refl
row_is_set (first ∷ rows) (suc at) body place d within =
    ap (λ rest. first ∷ rest) (row_is_set rows at body place d (omega arith))

pub rows_are_past : (rows : List (List (Option ℕ))) (at body place : ℕ) → length rows ≤ at
    → marked_in at body place rows ≡ rows
rows_are_past [] at body place past = refl
rows_are_past (row ∷ rows) zero body place past = absurd (omega arith)
rows_are_past (row ∷ rows) (suc at) body place past =
    ap (λ rest. row ∷ rest) (rows_are_past rows at body place (omega arith))
