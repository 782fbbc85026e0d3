-- Which pieces are misplaced, or disagree with one that is shown before them.
use Rattle.std.proofs.Common.{◌≡◌, ◌≢◌, ◌⊎◌, ℕ, zero, suc, ◌+◌, ◌<◌, ◌≤◌, ◌==◌, ◌&&◌, ◌||◌, Bool, true, false, not, nat_le}
use Rattle.std.proofs.Common.{length, get_or, map, option_map, take, drop, List, [], ◌∷◌, ◌++◌, Option, Some, None, MatchOption, refl, sym, ap}
use Rattle.std.proofs.Common.{subst, ◌∙◌, inl, inr, arith, add-one, eq-eqb, eqb-true, le-leb, leb-true}
use Rattle.std.specs.List.{AllByRecursion, Any, list_any, slice_get}
use Rattle.std.proofs.lemmas.Bool.{cases_eq, cases_lt, false≢true}
use Rattle.std.proofs.lemmas.Bool.Decides.{eqb_tells}
use Rattle.std.proofs.lemmas.List.{take_at}
use Rattle.std.proofs.lemmas.Option.{same_Some, slice_get-get_or, slice_get-map, slice_get_read, slice_get_within}
use Rattle.ipb_base.proofs.AllLemmas.{AllByRecursion-append}
use Rattle.script_plans.proofs.Lookups.{all_at}
use Rattle.script_plans.specs.Claims.{Rises}
use Rattle.run_audit.specs.AskedLines.{ShownPiece}
use Rattle.run_audit.specs.Places.{AreOfOneBody, Disagree, HasMisplaced, IsMisplaced}
use Rattle.run_audit.specs.Steps.{IsFirstBroken, StandsBefore, disagrees}

-- ---- lists

module _ {T : Type 0} where
  any_here : (P : T → Type 0) (x : T) (xs : List T) → P x → Any P (x ∷ xs)
  any_here P x xs holds = (0, x, omega arith, refl, holds)

  any_there : (P : T → Type 0) (x : T) (xs : List T) → Any P xs → Any P (x ∷ xs)
  any_there P x xs any = (suc any.0, any.1, omega (arith, any.2), any.3, any.4)

  any_at : (P : T → Type 0) (xs : List T) (any : Any P xs) → slice_get xs any.0 ≡ Some any.1
  any_at P xs any = slice_get_read xs (length xs) any.0 any.1 refl any.2 (sym any.3)

  pub any_both : (P Q R : T → Type 0) (xs : List T) → AllByRecursion Q xs → Any P xs
      → ((x : T) → Q x → P x → R x) → Any R xs
  any_both P Q R xs all any f =
      (any.0, any.1, any.2, any.3, f any.1 (all_at Q xs any.0 any.1 (any_at P xs any) all) any.4)

  pub none_among : (P Q : T → Type 0) (xs : List T) → AllByRecursion Q xs → ((x : T) → Q x → P x → ⊥) → Any P xs → ⊥
  none_among P Q xs all f any = f any.1 (all_at Q xs any.0 any.1 (any_at P xs any) all) any.4

  all_both : (P Q R : T → Type 0) (xs : List T) → AllByRecursion P xs → AllByRecursion Q xs
      → ((x : T) → P x → Q x → R x) → AllByRecursion R xs
  all_both P Q R [] ps qs f = tt
  all_both P Q R (x ∷ xs) ps qs f = (f x ps.0 qs.0, all_both P Q R xs ps.1 qs.1 f)

  pub take_next : (xs : List T) (i : ℕ) (x : T) → slice_get xs i ≡ Some x → take (i + 1) xs ≡ take i xs ++ x ∷ []
  take_next [] i x at = cc
  take_next (y ∷ ys) zero x at = ap (λ z. z ∷ []) (same_Some y x at)
  take_next (y ∷ ys) (suc i) x at = rw add-one (ap (λ zs. y ∷ zs) (rw add-one at (take_next ys i x at)))

  pub split_at : (xs : List T) (i : ℕ) (x : T) → slice_get xs i ≡ Some x → xs ≡ take i xs ++ x ∷ drop (suc i) xs
  split_at [] i x at = cc
  split_at (y ∷ ys) zero x at = ap (λ z. z ∷ ys) (same_Some y x at)
  split_at (y ∷ ys) (suc i) x at = ap (λ zs. y ∷ zs) (split_at ys i x at)

  read_at : (front : List T) (x : T) (behind : List T) → slice_get (front ++ x ∷ behind) (length front) ≡ Some x
  read_at [] x behind = refl
  read_at (y ∷ front) x behind = read_at front x behind

  module _ (R : T → T → Type 0) where
    -- each item before one stands so to it
    pub rises_before : (xs : List T) (i : ℕ) (x : T) → Rises R xs → slice_get xs i ≡ Some x
        → AllByRecursion (λ y. R y x) (take i xs)
    rises_before [] i x rises at = cc
    rises_before (y ∷ ys) zero x rises at = tt
    rises_before (y ∷ ys) (suc i) x rises at =
        (all_at (R y) ys i x at rises.0, rises_before ys i x rises.1 at)

    pub rises_pair : (xs : List T) (i j : ℕ) (x y : T) → Rises R xs → i < j → slice_get xs i ≡ Some x
        → slice_get xs j ≡ Some y → R x y
    rises_pair [] i j x y rises before at there = cc
    rises_pair (z ∷ zs) zero zero x y rises before at there = absurd (omega arith)
    rises_pair (z ∷ zs) zero (suc j) x y rises before at there =
        subst (λ w. R w y) (same_Some z x at) (all_at (R z) zs j y there rises.0)
    rises_pair (z ∷ zs) (suc i) zero x y rises before at there = absurd (omega arith)
    rises_pair (z ∷ zs) (suc i) (suc j) x y rises before at there =
        rises_pair zs i j x y rises.1 (omega arith) at there

-- an element that was read, through a function
pub read_mapped : {A B : Type 0} (f : A → B) (xs : List A) (i : ℕ) (d : A) → i < length xs
    → slice_get (map f xs) i ≡ Some (f (get_or xs i d))
read_mapped f xs i d within = slice_get-map f xs i ∙ ap (option_map f) (slice_get-get_or xs i d within)

-- ---- three pieces: an earlier one, the last one and the next

-- a piece between two of one client
pub record IsBetween (earlier last next : ShownPiece) : Type 0 where
  pub client : earlier.client ≡ last.client
  pub client' : last.client ≡ next.client
  pub body : earlier.body ≤ last.body
  pub body' : last.body ≤ next.body

between : (earlier last next : ShownPiece) → StandsBefore earlier last → StandsBefore last next
    → earlier.client ≡ next.client → IsBetween earlier last next
between earlier last next one other same =
    elim one.body [
      | inl below ↦ elim other.body [
        | inl more ↦ absurd (omega arith)
        | inr (client, body) ↦ absurd (omega arith)
      ]
      | inr (client, body) ↦ elim other.body [
        | inl more ↦ absurd (omega arith)
        | inr (client', body') ↦ record { client = client; client' = client'; body = body; body' = body' }
      ]
    ]

-- the next one in the body of the last, at its place, agrees as that does
agree_same : (earlier last next : ShownPiece) → (Disagree earlier last → ⊥) → AreOfOneBody last next
    → last.place ≡ next.place → Disagree earlier next → ⊥
agree_same earlier last next agree one place (inl (of_one, apart)) =
    agree (inl ((of_one.0 ∙ sym one.0, of_one.1 ∙ sym one.1), λ same. apart (same ∙ place)))
agree_same earlier last next agree one place (inr (inl (other, same))) =
    agree (inr (inl (λ of_one. other (of_one.0 ∙ one.0, of_one.1 ∙ one.1), same ∙ sym place)))
agree_same earlier last next agree one place (inr (inr (client, below, least))) =
    let bodies : last.body ≡ next.body = one.1 in
    agree (inr (inr (client ∙ sym one.0, omega arith, omega arith)))

same_place : (one other : ShownPiece) → (Disagree one other → ⊥) → AreOfOneBody one other → one.place ≡ other.place
same_place one other agree of_one =
    elim (cases_eq one.place other.place) [
      | inl same ↦ same
      | inr apart ↦ absurd (agree (inl (of_one, apart)))
    ]

-- the next one in another body, at a place that is free and behind that of the last of its client, agrees
agree_next : (earlier last next : ShownPiece) → StandsBefore earlier last → (Disagree earlier last → ⊥)
    → StandsBefore last next → (AreOfOneBody last next → ⊥) → earlier.place ≢ next.place
    → (last.client ≡ next.client → last.place < next.place) → Disagree earlier next → ⊥
agree_next earlier last next before agree next_to other free above (inl (of_one, apart)) =
    let amid = between earlier last next before next_to of_one.0 in
    let bodies : last.body ≡ next.body = omega (arith, amid.body, amid.body', of_one.1) in
    other (amid.client', bodies)
agree_next earlier last next before agree next_to other free above (inr (inl (apart, same))) = free same
agree_next earlier last next before agree next_to other free above (inr (inr (client, below, least))) =
    let amid = between earlier last next before next_to client in
    let low : last.place < next.place = above amid.client' in
    elim (cases_eq earlier.body last.body) [
      | inl same ↦
          let place : earlier.place ≡ last.place = same_place earlier last agree (amid.client, same) in
          absurd (omega arith)
      | inr apart ↦
          let less : earlier.body < last.body = omega (arith, amid.body) in
          let most : last.place ≤ earlier.place = omega arith in
          agree (inr (inr (amid.client, less, most)))
    ]

-- one at the place of the next, where the last is in another body
taken_disagrees : (earlier last next : ShownPiece) → StandsBefore earlier last → StandsBefore last next
    → (AreOfOneBody last next → ⊥) → earlier.place ≡ next.place → Disagree earlier next
taken_disagrees earlier last next before next_to other same =
    inr (inl (
      (λ of_one.
          let amid = between earlier last next before next_to of_one.0 in
          let bodies : last.body ≡ next.body = omega (arith, amid.body, amid.body', of_one.1) in
          other (amid.client', bodies)),
      same,
    ))

low_disagrees : (last next : ShownPiece) → StandsBefore last next → (AreOfOneBody last next → ⊥)
    → last.client ≡ next.client → next.place ≤ last.place → Disagree last next
low_disagrees last next next_to other client low =
    elim next_to.body [
      | inl less ↦ absurd (omega arith)
      | inr (same, body) ↦ elim (cases_eq last.body next.body) [
        | inl bodies ↦ absurd (other (client, bodies))
        | inr apart ↦ inr (inr (client, (let less : last.body < next.body = omega arith in less), low))
      ]
    ]

itself_agrees : (piece : ShownPiece) → Disagree piece piece → ⊥
itself_agrees piece (inl (of_one, apart)) = apart refl
itself_agrees piece (inr (inl (other, same))) = other (refl, refl)
itself_agrees piece (inr (inr (client, below, least))) = omega arith

-- ---- all that are shown before

-- This piece is the last of those before: it stands behind all of them, and agrees with them.
pub record IsLast (before : List ShownPiece) (last : ShownPiece) : Type 0 where
  pub among : Any (λ earlier. earlier ≡ last) before
  pub up_to : AllByRecursion (λ earlier. StandsBefore earlier last) before
  pub agree : AllByRecursion (λ earlier. Disagree earlier last → ⊥) before

or_none : (b : Bool) → (b || false) ≡ b
or_none true = refl
or_none false = refl

or_again : (a b c : Bool) → (a || (b || c)) ≡ ((a || b) || c)
or_again true b c = refl
or_again false b c = refl

pub not_not : (b : Bool) → not (not b) ≡ b
not_not true = refl
not_not false = refl

-- whether some piece has this place
abbrev pub has_place : ℕ → List ShownPiece → Bool
has_place place pieces = list_any (λ (piece : ShownPiece). place == piece.place) pieces

place_push : (place : ℕ) (pieces : List ShownPiece) (piece : ShownPiece)
    → has_place place (pieces ++ piece ∷ []) ≡ (has_place place pieces || (place == piece.place))
place_push place [] piece = or_none (place == piece.place)
place_push place (other ∷ pieces) piece =
    ap (λ b. (place == other.place) || b) (place_push place pieces piece)
    ∙ or_again (place == other.place) (has_place place pieces) (place == piece.place)

-- the places of one piece more
pub place_more : (place : ℕ) (pieces : List ShownPiece) (i : ℕ) (piece : ShownPiece) → slice_get pieces i ≡ Some piece
    → has_place place (take (i + 1) pieces) ≡ (has_place place (take i pieces) || (place == piece.place))
place_more place pieces i piece at =
    ap (has_place place) (take_next pieces i piece at) ∙ place_push place (take i pieces) piece

no_place : (place : ℕ) (pieces : List ShownPiece) → has_place place pieces ≡ false
    → AllByRecursion (λ (piece : ShownPiece). piece.place ≢ place) pieces
no_place place [] none = tt
no_place place (piece ∷ pieces) none =
    elim (eqb_tells place piece.place) [
      | inl (is_true, same) ↦ absurd (false≢true (sym none ∙ rw is_true refl))
      | inr (is_false, apart) ↦ ((λ same. apart (sym same)), no_place place pieces (rw is_false at none))
    ]

some_place : (place : ℕ) (pieces : List ShownPiece) → has_place place pieces ≡ true
    → Any (λ (piece : ShownPiece). piece.place ≡ place) pieces
some_place place [] some = absurd (false≢true some)
some_place place (piece ∷ pieces) some =
    elim (eqb_tells place piece.place) [
      | inl (is_true, same) ↦ any_here (λ (p : ShownPiece). p.place ≡ place) piece pieces (sym same)
      | inr (is_false, apart) ↦ any_there (λ (p : ShownPiece). p.place ≡ place) piece pieces
          (some_place place pieces (rw is_false at some))
    ]

one_body_cases : (one other : ShownPiece)
    → (((one.client == other.client && one.body == other.body) ≡ true) × AreOfOneBody one other)
    ⊎ (((one.client == other.client && one.body == other.body) ≡ false) × (AreOfOneBody one other → ⊥))
one_body_cases one other =
    elim (eqb_tells one.client other.client) [
      | inl (is_true, client) ↦ elim (eqb_tells one.body other.body) [
        | inl (is_true', body) ↦ inl (rw (is_true, is_true') refl, (client, body))
        | inr (is_false', apart) ↦ inr (rw (is_true, is_false') refl, λ of_one. apart of_one.1)
      ]
      | inr (is_false, apart) ↦ inr (rw is_false refl, λ of_one. apart of_one.0)
    ]

or_false : (a b : Bool) → (a || b) ≡ false → (a ≡ false) × (b ≡ false)
or_false true b none = absurd (false≢true (sym none))
or_false false b none = (refl, none)

or_true : (a b : Bool) → (a || b) ≡ true → (a ≡ true) ⊎ (b ≡ true)
or_true true b some = inl refl
or_true false b some = inr some

and_true : (a b : Bool) → (a && b) ≡ true → (a ≡ true) × (b ≡ true)
and_true true b both = (refl, both)
and_true false b both = absurd (false≢true both)

low_cases : (last next : ShownPiece) → (last.client == next.client && nat_le next.place last.place) ≡ false
    → last.client ≡ next.client → last.place < next.place
low_cases last next is_false client =
    elim (cases_lt last.place next.place) [
      | inl less ↦ less
      | inr most ↦ absurd (false≢true (sym is_false ∙ rw (eq-eqb _ _ client, le-leb _ _ most) refl))
    ]

module _ (before : List ShownPiece) (last next : ShownPiece) (is_last : IsLast before last)
    (next_to : StandsBefore last next) where
  agrees : (taken : Bool) → taken ≡ has_place next.place before → disagrees (Some last) taken next ≡ false
      → AllByRecursion (λ earlier. Disagree earlier next → ⊥) before
  agrees taken is is_false =
      elim (one_body_cases last next) [
        | inl (is_true, one) ↦
            let told : not (last.place == next.place) ≡ false = rw is_true at is_false in
            let place : last.place ≡ next.place = elim (eqb_tells last.place next.place) [
              | inl (t, same) ↦ same
              | inr (f, apart) ↦ absurd (false≢true (sym told ∙ rw f refl))
            ] in
            all_both (λ earlier. StandsBefore earlier last) (λ earlier. Disagree earlier last → ⊥) _ before is_last.up_to
            is_last.agree (λ earlier up agree. agree_same earlier last next agree one place)
        | inr (f, other) ↦
            let told = or_false taken _ (rw f at is_false) in
            let free = no_place next.place before (sym is ∙ told.0) in
            all_both (λ earlier. StandsBefore earlier last × (Disagree earlier last → ⊥))
            (λ (earlier : ShownPiece). earlier.place ≢ next.place) _ before
            (all_both (λ earlier. StandsBefore earlier last) (λ earlier. Disagree earlier last → ⊥) _ before is_last.up_to
            is_last.agree (λ earlier up agree. (up, agree))) free
            (λ earlier both apart. agree_next earlier last next both.0 both.1 next_to other apart
            (low_cases last next told.1))
      ]

  one_disagrees : (taken : Bool) → taken ≡ has_place next.place before → disagrees (Some last) taken next ≡ true
      → Any (λ earlier. Disagree earlier next) before
  one_disagrees taken is is_true =
      let of_last : Disagree last next → Any (λ earlier. Disagree earlier next) before =
      λ d. any_both (λ earlier. earlier ≡ last) (λ earlier. StandsBefore earlier last)
      (λ earlier. Disagree earlier next) before is_last.up_to is_last.among
      (λ earlier up same. subst (λ e. Disagree e next) (sym same) d) in
      elim (one_body_cases last next) [
        | inl (t, one) ↦
            let told : not (last.place == next.place) ≡ true = rw t at is_true in
            of_last (inl (one, λ same. false≢true (sym (rw (eq-eqb _ _ same) refl) ∙ told)))
        | inr (f, other) ↦ elim (or_true taken _ (rw f at is_true)) [
          | inl is_taken ↦
              any_both (λ (earlier : ShownPiece). earlier.place ≡ next.place) (λ earlier. StandsBefore earlier last)
              (λ earlier. Disagree earlier next) before is_last.up_to
              (some_place next.place before (sym is ∙ is_taken))
              (λ earlier up same. taken_disagrees earlier last next up next_to other same)
          | inr low ↦
              let both = and_true _ _ low in
              of_last (low_disagrees last next next_to other (eqb-true _ _ both.0) (leb-true _ _ both.1))
        ]
      ]

-- ---- a walk over pieces

-- a piece is at fault behind these
abbrev pub IsWrong : ℕ → List ShownPiece → ShownPiece → Type 0
IsWrong sent before piece = IsMisplaced sent piece ⊎ Any (λ earlier. Disagree earlier piece) before

-- none of the first `i` pieces is at fault, and this is the last of them
pub record IsPlacing (sent : ℕ) (pieces : List ShownPiece) (i : ℕ) (last : Option ShownPiece) : Type 0 where
  pub last' : MatchOption last (take i pieces ≡ []) (IsLast (take i pieces))
  pub clean : (j : ℕ) (piece : ShownPiece) → j < i → slice_get pieces j ≡ Some piece
      → IsWrong sent (take j pieces) piece → ⊥

pub placing_none : (sent : ℕ) (pieces : List ShownPiece) → IsPlacing sent pieces 0 None
placing_none sent pieces = record { last' = refl; clean = λ j piece before at wrong. absurd (omega arith) }

behind_itself : (piece : ShownPiece) → StandsBefore piece piece
behind_itself piece = record { line = omega arith; body = inr (refl, omega arith) }

any_last : (xs : List ShownPiece) (x : ShownPiece) → Any (λ y. y ≡ x) (xs ++ x ∷ [])
any_last [] x = any_here (λ y. y ≡ x) x [] refl
any_last (y ∷ ys) x = any_there (λ y. y ≡ x) y (ys ++ x ∷ []) (any_last ys x)

module _ (sent : ℕ) (pieces : List ShownPiece) (i : ℕ) (piece : ShownPiece) (rises : Rises StandsBefore pieces)
    (at : slice_get pieces i ≡ Some piece) (taken : Bool) (is_taken : taken ≡ has_place piece.place (take i pieces)) where
  up_to : AllByRecursion (λ earlier. StandsBefore earlier piece) (take i pieces)
  up_to = rises_before StandsBefore pieces i piece rises at

  last_before : (last : ShownPiece) → IsLast (take i pieces) last → StandsBefore last piece
  last_before last is_last =
      let any = is_last.among in
      subst (λ e. StandsBefore e piece) any.4
      (all_at (λ earlier. StandsBefore earlier piece) (take i pieces) any.0 any.1
      (any_at (λ earlier. earlier ≡ last) (take i pieces) any) up_to)

  agree_with : (last : Option ShownPiece) → MatchOption last (take i pieces ≡ []) (IsLast (take i pieces))
      → disagrees last taken piece ≡ false → AllByRecursion (λ earlier. Disagree earlier piece → ⊥) (take i pieces)
  agree_with None none is_false = rw none tt
  agree_with (Some last) is_last is_false =
      agrees (take i pieces) last piece is_last (last_before last is_last) taken is_taken is_false

  disagree_with : (last : Option ShownPiece) → MatchOption last (take i pieces ≡ []) (IsLast (take i pieces))
      → disagrees last taken piece ≡ true → Any (λ earlier. Disagree earlier piece) (take i pieces)
  disagree_with None none is_true = absurd (false≢true is_true)
  disagree_with (Some last) is_last is_true =
      one_disagrees (take i pieces) last piece is_last (last_before last is_last) taken is_taken is_true

  module _ (last : Option ShownPiece) (so_far : IsPlacing sent pieces i last) where
    pub placing_more : (IsMisplaced sent piece → ⊥) → disagrees last taken piece ≡ false
        → IsPlacing sent pieces (i + 1) (Some piece)
    placing_more right is_false =
        let agree = agree_with last so_far.last' is_false in
        let next : take (i + 1) pieces ≡ take i pieces ++ piece ∷ [] = take_next pieces i piece at in
        record {
          last' = subst (λ before. IsLast before piece) (sym next) (record {
            among = any_last (take i pieces) piece;
            up_to = AllByRecursion-append (λ earlier. StandsBefore earlier piece) (take i pieces) (piece ∷ []) up_to
                (behind_itself piece, tt);
            agree = AllByRecursion-append (λ earlier. Disagree earlier piece → ⊥) (take i pieces) (piece ∷ []) agree
                (itself_agrees piece, tt);
          });
          clean = λ j other before there wrong. elim (cases_eq j i) [
            | inl same ↦
                let one : other ≡ piece =
                same_Some other piece (sym there ∙ (ap (λ k. slice_get pieces k) same ∙ at)) in
                let here : IsWrong sent (take i pieces) piece =
                subst (λ k. IsWrong sent (take k pieces) piece) same
                (subst (λ p. IsWrong sent (take j pieces) p) one wrong) in
                elim here [
                  | inl misplaced ↦ right misplaced
                  | inr any ↦ none_among (λ earlier. Disagree earlier piece) (λ earlier. Disagree earlier piece → ⊥)
                      (take i pieces) agree (λ earlier agrees disagrees. agrees disagrees) any
                ]
            | inr apart ↦ so_far.clean j other (omega arith) there wrong
          ];
        }

    pub placing_found : IsMisplaced sent piece ⊎ (disagrees last taken piece ≡ true)
        → IsFirstBroken (HasMisplaced sent pieces) (Some piece.line)
    placing_found fault = (
      record {
        before = take i pieces;
        piece = piece;
        behind = drop (suc i) pieces;
        all = split_at pieces i piece at;
        here = refl;
        wrong = elim fault [
          | inl misplaced ↦ inl misplaced
          | inr is_true ↦ inr (disagree_with last so_far.last' is_true)
        ];
      },
      λ earlier less other.
          let j = length other.before in
          let there : slice_get pieces j ≡ Some other.piece =
          ap (λ ps. slice_get ps j) other.all ∙ read_at other.before other.piece other.behind in
          let front : take j pieces ≡ other.before =
          ap (λ ps. take j ps) other.all ∙ take_at other.before (other.piece ∷ other.behind) j refl in
          let wrong : IsWrong sent (take j pieces) other.piece =
          subst (λ before. IsWrong sent before other.piece) (sym front) other.wrong in
          elim (cases_lt j i) [
            | inl before ↦ so_far.clean j other.piece before there wrong
            | inr from ↦ elim (cases_eq i j) [
              | inl same ↦
                  let one : piece ≡ other.piece =
                  same_Some piece other.piece (sym at ∙ (ap (λ k. slice_get pieces k) same ∙ there)) in
                  let line : piece.line ≡ other.piece.line = ap (λ (p : ShownPiece). p.line) one in
                  absurd (omega (arith, other.here))
              | inr apart ↦
                  let more = rises_pair StandsBefore pieces i j piece other.piece rises (omega arith) at there in
                  absurd (omega (arith, other.here, more.line))
            ]
          ],
    )

pub placing_all : (sent : ℕ) (pieces : List ShownPiece) (i : ℕ) (last : Option ShownPiece) → length pieces ≤ i
    → IsPlacing sent pieces i last → IsFirstBroken (HasMisplaced sent pieces) None
placing_all sent pieces i last over so_far = λ line other.
    let j = length other.before in
    let there : slice_get pieces j ≡ Some other.piece =
    ap (λ ps. slice_get ps j) other.all ∙ read_at other.before other.piece other.behind in
    let front : take j pieces ≡ other.before =
    ap (λ ps. take j ps) other.all ∙ take_at other.before (other.piece ∷ other.behind) j refl in
    so_far.clean j other.piece (omega (arith, slice_get_within pieces j other.piece there)) there
    (subst (λ before. IsWrong sent before other.piece) (sym front) other.wrong)
