-- Each body has a place of its own.
use Rattle.std.proofs.Common.{◌≡◌, ◌≢◌, ℕ, zero, suc, ◌+◌, List, [], ◌∷◌, ◌++◌, map, Option, Some, None, refl, sym}
use Rattle.std.proofs.Common.{ap, ◌∙◌, subst, arith, drop, get_or}
use Rattle.std.specs.Prelude.{nat_le}
use Rattle.std.specs.List.{AllByRecursion, slice_get}
use Rattle.std.proofs.lemmas.Option.{same_Some}
use Rattle.ipb_base.proofs.AllLemmas.{front_of_all, back_of_all, all-map}
use Rattle.world_model.proofs.Lists.{either}
use Rattle.lane_record.specs.declared.outcome.Outcome.{Outcome}
use Rattle.transcript.specs.declared.body_end.BodyEnd.{BodyEnd}
use Rattle.script_plans.specs.declared.board_run.ClientPart.{ClientPart}
use Rattle.lane_record.specs.Outcomes.{place_of}
use Rattle.transcript.specs.Ends.{end_of, ends_of, ends_with}
use Rattle.script_plans.specs.Claims.{Rises}
use Rattle.transcript.specs.Claims.{HaveOwnPlaces}
use Rattle.board_history.specs.Order.{Placed, with_place, bodies_with_places, all_placed, insert, by_place, order, places_of}
use Rattle.lane_record.specs.Lists.{CountsFrom}
use Rattle.board_history.specs.Parts.{HasOneOrder}
use Rattle.board_history.proofs.Sorting.{IsAbove, counts_above, inserted_all, sorted_all}

abbrev pub IsApart : Placed → Placed → Type 0
IsApart p q = p.place ≢ q.place

abbrev pub AreApart : List Placed → Type 0
AreApart ps = Rises IsApart ps

-- ---- what stands by place stands apart

pub counting_apart : (k : ℕ) (ps : List Placed) → CountsFrom k (places_of ps) → AreApart ps
counting_apart k [] c = tt
counting_apart k (p ∷ ps) c = (
  all-map (IsAbove p.place) (IsApart p) ps (λ q above same. omega arith)
      (counts_above (k + 1) p.place ps (omega (arith, c.0)) c.1),
  counting_apart (k + 1) ps c.1,
)

-- ---- and so does what was sorted

inserted_apart : (x : Placed) (ys : List Placed) → AreApart (insert x ys) → AllByRecursion (IsApart x) ys × AreApart ys
inserted_apart x [] = λ apart. apart
inserted_apart x (y ∷ ys) =
    either (λ (r : List Placed). AreApart r → AllByRecursion (IsApart x) (y ∷ ys) × AreApart (y ∷ ys))
    (nat_le x.place y.place) (x ∷ (y ∷ ys)) (y ∷ insert x ys)
    (λ _ apart. apart)
    (λ _ apart.
    let later = inserted_apart x ys apart.1 in
    let first = inserted_all (IsApart y) x ys apart.0 in
    (((λ same. first.0 (sym same)), later.0), (first.1, later.1)))

pub sorted_apart : (ps : List Placed) → AreApart (by_place ps) → AreApart ps
sorted_apart [] apart = tt
sorted_apart (p ∷ ps) apart =
    let both = inserted_apart p (by_place ps) apart in
    (sorted_all (IsApart p) ps both.0, sorted_apart ps both.1)

pub front_apart : (xs ys : List Placed) → AreApart (xs ++ ys) → AreApart xs
front_apart [] ys apart = tt
front_apart (x ∷ xs) ys apart = (front_of_all (IsApart x) xs ys apart.0, front_apart xs ys apart.1)

pub back_apart : (xs ys : List Placed) → AreApart (xs ++ ys) → AreApart ys
back_apart [] ys apart = apart
back_apart (x ∷ xs) ys apart = back_apart xs ys apart.1

-- ---- the bodies of one client

-- what holds of each place of a client's bodies holds of the place of one of them
placed_there : (P : ℕ → Type 0) (body : List ℕ) (found : Option ℕ) (rest : List Placed) (place : ℕ)
    → found ≡ Some place → AllByRecursion (λ (p : Placed). P p.place) (with_place body found ++ rest) → P place
placed_there P body None rest place is all = absurd cc
placed_there P body (Some other) rest place is all = subst P (same_Some other place is) all.0

placed_at : (P : ℕ → Type 0) (bodies : List (List ℕ)) (outcomes : List Outcome) (lates : List (Option (List ℕ)))
    (j : ℕ) (end : BodyEnd) (place : ℕ) → slice_get (ends_with bodies outcomes lates) j ≡ Some end
    → end.place ≡ Some place → AllByRecursion (λ (p : Placed). P p.place) (bodies_with_places bodies outcomes) → P place
placed_at P [] outcomes lates j end place there is all = absurd cc
placed_at P (b ∷ bs) [] lates j end place there is all = absurd cc
placed_at P (b ∷ bs) (o ∷ os) lates zero end place there is all =
    placed_there P b (place_of o) (bodies_with_places bs os) place
    (ap (λ (e : BodyEnd). e.place) (same_Some (end_of b o (get_or lates 0 None)) end there) ∙ is) all
placed_at P (b ∷ bs) (o ∷ os) lates (suc j) end place there is all =
    placed_at P bs os (drop 1 lates) j end place there is
    (back_of_all (λ (p : Placed). P p.place) (with_place b (place_of o)) (bodies_with_places bs os) all)

-- the first body has another place than each later one
first_apart : (body : List ℕ) (found : Option ℕ) (bs : List (List ℕ)) (os : List Outcome)
    (lates : List (Option (List ℕ))) (j : ℕ) (end : BodyEnd) (place : ℕ) → found ≡ Some place
    → slice_get (ends_with bs os lates) j ≡ Some end → end.place ≡ Some place
    → AreApart (with_place body found ++ bodies_with_places bs os) → ⊥
first_apart body None bs os lates j end place is there also apart = cc
first_apart body (Some other) bs os lates j end place is there also apart =
    placed_at (λ (n : ℕ). other ≢ n) bs os lates j end place there also apart.0 (same_Some other place is)

client_apart : (bodies : List (List ℕ)) (outcomes : List Outcome) (lates : List (Option (List ℕ)))
    → AreApart (bodies_with_places bodies outcomes) → HaveOwnPlaces (ends_with bodies outcomes lates)
client_apart [] outcomes lates apart i j one other place at also is same = absurd cc
client_apart (b ∷ bs) [] lates apart i j one other place at also is same = absurd cc
client_apart (b ∷ bs) (o ∷ os) lates apart zero zero one other place at also is same = refl
client_apart (b ∷ bs) (o ∷ os) lates apart zero (suc j) one other place at also is same =
    absurd (first_apart b (place_of o) bs os (drop 1 lates) j other place
    (ap (λ (e : BodyEnd). e.place) (same_Some (end_of b o (get_or lates 0 None)) one at) ∙ is) also same apart)
client_apart (b ∷ bs) (o ∷ os) lates apart (suc i) zero one other place at also is same =
    absurd (first_apart b (place_of o) bs os (drop 1 lates) i one place
    (ap (λ (e : BodyEnd). e.place) (same_Some (end_of b o (get_or lates 0 None)) other also) ∙ same) at is apart)
client_apart (b ∷ bs) (o ∷ os) lates apart (suc i) (suc j) one other place at also is same =
    ap suc (client_apart bs os (drop 1 lates) (back_apart (with_place b (place_of o)) (bodies_with_places bs os) apart) i j one
    other place at also is same)

-- ---- all clients

parts_apart : (parts : List ClientPart)
    → AreApart (all_placed (map (λ (p : ClientPart). p.planned.bodies) parts)
    (map (λ (p : ClientPart). p.outcomes) parts))
    → AllByRecursion (λ (part : ClientPart). HaveOwnPlaces (ends_of part)) parts
parts_apart [] apart = tt
parts_apart (part ∷ parts) apart =
    let here = bodies_with_places part.planned.bodies part.outcomes in
    let later = all_placed (map (λ (p : ClientPart). p.planned.bodies) parts)
    (map (λ (p : ClientPart). p.outcomes) parts) in (
      client_apart part.planned.bodies part.outcomes part.lates (front_apart here later apart),
      parts_apart parts (back_apart here later apart),
    )

pub own_places : (parts : List ClientPart)
    → HasOneOrder (map (λ (p : ClientPart). p.planned.bodies) parts) (map (λ (p : ClientPart). p.outcomes) parts)
    → AllByRecursion (λ (part : ClientPart). HaveOwnPlaces (ends_of part)) parts
own_places parts one =
    let bodies = map (λ (p : ClientPart). p.planned.bodies) parts in
    let outcomes = map (λ (p : ClientPart). p.outcomes) parts in
    parts_apart parts (sorted_apart (all_placed bodies outcomes) (counting_apart 1 (order bodies outcomes) one))
