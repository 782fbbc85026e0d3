-- Places where no line is at fault.
use Rattle.std.proofs.Common.{◌≡◌, ◌↔◌, ℕ, suc, ◌+◌, ◌<◌, ◌≤◌, length, take, drop, List, [], ◌∷◌, Some, sym, ap}
use Rattle.std.proofs.Common.{◌∙◌, inl, inr, arith, refl}
use Rattle.std.specs.List.{Any, slice_get}
use Rattle.std.proofs.lemmas.Bool.{cases_eq, cases_lt}
use Rattle.std.proofs.lemmas.List.{get_or-take, length-take}
use Rattle.std.proofs.lemmas.Option.{get_or_from_slice_get, same_Some, slice_get_within}
use Rattle.ipb_base.proofs.AllLemmas.{all-map}
use Rattle.board_specs.specs.declared.spec.BoardSpec.{BoardSpec}
use Rattle.script_plans.specs.Claims.{Rises}
use Rattle.script_steps.specs.declared.operation.Step.{Step}
use Rattle.transcript.specs.Shown.{places_told}
use Rattle.transcript.specs.declared.line.BoardLine.{BoardLine}
use Rattle.transcript_reader.specs.declared.shown.Shown.{Shown}
use Rattle.run_audit.specs.AskedLines.{AskedLine, ShownPiece, asked_lines, pieces_shown}
use Rattle.run_audit.specs.Places.{AreOfOneBody, Disagree, IsMisplaced, IsMisplacedAt}
use Rattle.run_audit.specs.Steps.{StandsBefore}
use Rattle.run_audit.proofs.Misplacing.{IsWrong, rises_pair, split_at}
use Rattle.run_audit.proofs.TextOrder.{ComesBefore, lines_rise, shown_rise}

rises_weaker : {T : Type 0} (R S : T → T → Type 0) (xs : List T) → ((x y : T) → R x y → S x y) → Rises R xs → Rises S xs
rises_weaker R S [] f rises = tt
rises_weaker R S (x ∷ xs) f rises = (all-map (R x) (S x) xs (f x) rises.0, rises_weaker R S xs f rises.1)

pub each_in_its_line : (scripts : List (List Step)) (shown : Shown)
    → Rises (λ (earlier later : AskedLine). earlier.line < later.line) (asked_lines scripts shown)
each_in_its_line scripts shown =
    rises_weaker ComesBefore _ (asked_lines scripts shown) (λ one other before. before.line) (lines_rise scripts shown)

not_above : (one other : AskedLine) → ComesBefore one other → one.client ≤ other.client
not_above one other before = elim before.client [ inl less ↦ omega arith | inr (same, number) ↦ omega arith ]

pub client_behind_client : (scripts : List (List Step)) (shown : Shown)
    → Rises (λ (earlier later : AskedLine). earlier.client ≤ later.client) (asked_lines scripts shown)
client_behind_client scripts shown =
    rises_weaker ComesBefore _ (asked_lines scripts shown) not_above (lines_rise scripts shown)

any_taken : {T : Type 0} (P : T → Type 0) (xs : List T) (i n : ℕ) (x : T) → i < n → slice_get xs i ≡ Some x → P x
    → Any P (take n xs)
any_taken P xs i n x before at holds =
    let within : i < length xs = slice_get_within xs i x at in
    let long : i < length (take n xs) = omega (arith, length-take n xs) in
    (i, x, long, get_or-take n xs i x before ∙ get_or_from_slice_get xs i x x at, holds)

module _ (boards : List BoardSpec) (scripts : List (List Step)) (shown : Shown) (board : ℕ) (told : BoardLine)
    (right : (line : ℕ) → IsMisplacedAt boards scripts shown line → ⊥) (there : slice_get shown.boards board ≡ Some told)
  where
    abbrev pieces : List ShownPiece
    pieces = pieces_shown boards scripts board (asked_lines scripts shown)

    not_wrong : (j : ℕ) (piece : ShownPiece) → slice_get pieces j ≡ Some piece
        → IsWrong (places_told told) (take j pieces) piece → ⊥
    not_wrong j piece at wrong = right piece.line (record {
      board = board;
      told = told;
      there = there;
      misplaced = record {
        before = take j pieces;
        piece = piece;
        behind = drop (suc j) pieces;
        all = split_at pieces j piece at;
        here = refl;
        wrong = wrong;
      };
    })

    agree : (i j : ℕ) (one other : ShownPiece) → i < j → slice_get pieces i ≡ Some one → slice_get pieces j ≡ Some other
        → Disagree one other → ⊥
    agree i j one other before at at' disagree =
        not_wrong j other at' (inr (any_taken (λ earlier. Disagree earlier other) pieces i j one before at disagree))

    in_order : (i j : ℕ) (one other : ShownPiece) → i < j → slice_get pieces i ≡ Some one
        → slice_get pieces j ≡ Some other → StandsBefore one other
    in_order i j one other before at at' =
        rises_pair StandsBefore pieces i j one other (shown_rise boards scripts board shown) before at at'

    one_body_one_place : (i j : ℕ) (one other : ShownPiece) → i < j → slice_get pieces i ≡ Some one
        → slice_get pieces j ≡ Some other → AreOfOneBody one other ↔ (one.place ≡ other.place)
    one_body_one_place i j one other before at at' = (
      λ of_one. elim (cases_eq one.place other.place) [
        | inl same ↦ same
        | inr apart ↦ absurd (agree i j one other before at at' (inl (of_one, apart)))
      ],
      λ same. elim (cases_eq one.client other.client) [
        | inl client ↦ elim (cases_eq one.body other.body) [
          | inl body ↦ (client, body)
          | inr apart ↦ absurd (agree i j one other before at at' (inr (inl ((λ of_one. apart of_one.1), same))))
        ]
        | inr apart ↦ absurd (agree i j one other before at at' (inr (inl ((λ of_one. apart of_one.0), same))))
      ],
    )

    pub same_body : (i j : ℕ) (one other : ShownPiece) → slice_get pieces i ≡ Some one → slice_get pieces j ≡ Some other
        → AreOfOneBody one other ↔ (one.place ≡ other.place)
    same_body i j one other at at' =
        elim (cases_eq i j) [
          | inl same ↦
              let here : one ≡ other = same_Some one other (sym at ∙ (ap (λ k. slice_get pieces k) same ∙ at')) in (
                (λ of_one. ap (λ (p : ShownPiece). p.place) here),
                (λ place. (ap (λ (p : ShownPiece). p.client) here, ap (λ (p : ShownPiece). p.body) here)),
              )
          | inr apart ↦ elim (cases_lt i j) [
            | inl before ↦ one_body_one_place i j one other before at at'
            | inr behind ↦
                let back = one_body_one_place j i other one (omega arith) at' at in (
                  (λ of_one. sym (back.0 (sym of_one.0, sym of_one.1))),
                  (λ place. let of_one = back.1 (sym place) in (sym of_one.0, sym of_one.1)),
                )
          ]
        ]

    pub later_place : (i j : ℕ) (one other : ShownPiece) → slice_get pieces i ≡ Some one → slice_get pieces j ≡ Some other
        → one.client ≡ other.client → one.body < other.body → one.place < other.place
    later_place i j one other at at' client less =
        elim (cases_lt one.place other.place) [
          | inl rises ↦ rises
          | inr low ↦ elim (cases_eq i j) [
            | inl same ↦
                let here : one ≡ other = same_Some one other (sym at ∙ (ap (λ k. slice_get pieces k) same ∙ at')) in
                let body : one.body ≡ other.body = ap (λ (p : ShownPiece). p.body) here in
                absurd (omega arith)
            | inr apart ↦ elim (cases_lt i j) [
              | inl before ↦ absurd (agree i j one other before at at' (inr (inr (client, less, low))))
              | inr behind ↦
                  let order : StandsBefore other one = in_order j i other one (omega arith) at' at in
                  elim order.body [
                    | inl more ↦ absurd (omega arith)
                    | inr (same, most) ↦ absurd (omega arith)
                  ]
            ]
          ]
        ]

    pub counted_place : (i : ℕ) (piece : ShownPiece) → slice_get pieces i ≡ Some piece
        → (1 ≤ piece.place) × (piece.place ≤ places_told told) × (piece.transaction ≡ piece.index + 1)
    counted_place i piece at =
        let fine : IsMisplaced (places_told told) piece → ⊥ = λ misplaced. not_wrong i piece at (inl misplaced) in (
          elim (cases_eq piece.place 0) [ inl none ↦ absurd (fine (inr (inl none))) | inr some ↦ omega arith ],
          elim (cases_lt (places_told told) piece.place) [
            | inl above ↦ absurd (fine (inr (inr above)))
            | inr within ↦ within
          ],
          elim (cases_eq piece.transaction (piece.index + 1)) [
            | inl same ↦ same
            | inr apart ↦ absurd (fine (inl apart))
          ],
        )
