-- The places that lines show are those of bodies.
use Rattle.std.proofs.Common.{◌≡◌, ◌↔◌, ℕ, zero, suc, ◌+◌, ◌<◌, ◌==◌, cond, List, [], ◌∷◌, ◌++◌, length}
use Rattle.std.proofs.Common.{drop, map, Option, Some, None, option_to_list, refl, sym, ap, subst, ◌∙◌, inl, inr, arith}
use Rattle.std.specs.List.{Any, slice_get}
use Rattle.std.specs.Option.{option_map}
use Rattle.std.proofs.lemmas.Bool.{cases_Bool, cases_lt}
use Rattle.std.proofs.lemmas.Bool.Decides.{nat_tests}
use Rattle.std.proofs.lemmas.List.Sums.{sum_by-cons}
use Rattle.std.proofs.lemmas.Option.{same_Some, slice_get_within, get_or_from_slice_get}
use Rattle.mtu_packer.proofs.AnyLemmas.{any_nowhere, any_here, any_later, any_cases, any_front, any_back, any_append}
use Rattle.mtu_packer.proofs.AnyLemmas.{any_at, at_any}
use Rattle.script_steps.specs.declared.operation.RegOp.{RegOp}
use Rattle.script_steps.specs.declared.operation.Step.{Step}
use Rattle.script_steps.specs.Rulings.{Asked, asked_operations, allowed_operations}
use Rattle.script_plans.specs.declared.greeting.Greeting.{Greeting}
use Rattle.script_plans.specs.declared.greeting.Greeting.TheVariants.{Live, Silent, Down}
use Rattle.lane_record.specs.declared.outcome.Outcome.{Outcome}
use Rattle.script_plans.specs.declared.planned.PieceAt.{PieceAt}
use Rattle.transcript.specs.declared.body_end.BodyEnd.{BodyEnd}
use Rattle.script_plans.specs.declared.board_run.ClientPart.{ClientPart}
use Rattle.script_plans.specs.declared.board_run.BoardRun.{BoardRun}
use Rattle.transcript.specs.declared.line.OpLine.{OpLine}
use Rattle.script_plans.specs.Plan.{ClientBodies, operations, plan, planned_on, all_dispatches, count_on}
use Rattle.transcript.specs.Ends.{ends_of, ends_with, place_at, place_in, piece_place}
use Rattle.transcript.specs.Results.{op_places}
use Rattle.transcript.specs.Lines.{by_pieces, in_part, showing, shown_behind, line_of, lines_behind}
use Rattle.transcript.specs.Lines.{client_lines, lines_from}
use Rattle.transcript.specs.Shown.{ShowsPlace, IsShown, EndsAt, HasBodyAt, IsPlaceOn}
use Rattle.script_plans.specs.Runs.{IsPlanned, ArePlanned, HaveOwnNames}
use Rattle.script_plans.specs.Claims.{HasPiece}
use Rattle.script_plans.proofs.Covering.{count_by-append, each_has_pieces}
use Rattle.script_plans.proofs.EachBody.{BodiesHavePieces, each_body}
use Rattle.transcript.proofs.Allowed.{allowed-append, asked_allowed}

abbrev IsAtPlace : ℕ → ℕ × ℕ → Type 0
IsAtPlace place at = at.0 ≡ place

-- ---- the places of an operation

placed_end : (end : BodyEnd) (place index : ℕ) (found : Option ℕ) → end.place ≡ found
    → Any (IsAtPlace place) (place_at found index) → EndsAt place end
placed_end end place index None is any = absurd (any_nowhere (IsAtPlace place) any)
placed_end end place index (Some here) is any =
    elim (any_cases (IsAtPlace place) (here, index + 1) [] any) [
      | inl same ↦ is ∙ ap (λ n. Some n) same
      | inr none ↦ absurd (any_nowhere (IsAtPlace place) none)
    ]

piece_end : (ends : List BodyEnd) (place body index : ℕ) (found : Option BodyEnd) → slice_get ends body ≡ found
    → Any (IsAtPlace place) (place_in found index) → Any (EndsAt place) ends
piece_end ends place body index None at any = absurd (any_nowhere (IsAtPlace place) any)
piece_end ends place body index (Some end) at any =
    any_at (EndsAt place) ends body end at (placed_end end place index end.place refl any)

op_end : (ends : List BodyEnd) (place : ℕ) (pieces : List PieceAt) → Any (IsAtPlace place) (op_places ends pieces)
    → Any (EndsAt place) ends
op_end ends place [] any = absurd (any_nowhere (IsAtPlace place) any)
op_end ends place (p ∷ ps) any =
    elim (any_append (IsAtPlace place) (piece_place ends p) (op_places ends ps) any) [
      | inl here ↦ piece_end ends place p.body p.index (slice_get ends p.body) refl here
      | inr later ↦ op_end ends place ps later
    ]

end_op : (ends : List BodyEnd) (place body : ℕ) (end : BodyEnd) → slice_get ends body ≡ Some end → EndsAt place end
    → (pieces : List PieceAt) → Any (λ (p : PieceAt). p.body ≡ body) pieces
    → Any (IsAtPlace place) (op_places ends pieces)
end_op ends place body end at is [] any = absurd (any_nowhere (λ (p : PieceAt). p.body ≡ body) any)
end_op ends place body end at is (p ∷ ps) any =
    elim (any_cases (λ (q : PieceAt). q.body ≡ body) p ps any) [
      | inl same ↦
          let there : slice_get ends p.body ≡ Some end = ap (λ n. slice_get ends n) same ∙ at in
          any_front (IsAtPlace place) (piece_place ends p) (op_places ends ps)
          (subst (λ (o : Option BodyEnd). Any (IsAtPlace place) (place_in o p.index)) (sym there)
          (subst (λ (o : Option ℕ). Any (IsAtPlace place) (place_at o p.index)) (sym is)
          (any_here (IsAtPlace place) (place, p.index + 1) [] refl)))
      | inr later ↦ any_back (IsAtPlace place) (piece_place ends p) (op_places ends ps)
          (end_op ends place body end at is ps later)
    ]

-- ---- what is told of an operation on a board

pieces_place : (part : ClientPart) (op : RegOp) (place : ℕ) (found : Option (List PieceAt))
    → Any (IsAtPlace place) (by_pieces part op found).1 → HasBodyAt place part
pieces_place part op place None any = absurd (any_nowhere (IsAtPlace place) any)
pieces_place part op place (Some pieces) any = op_end (ends_of part) place pieces any

part_place : (parts : List ClientPart) (client k : ℕ) (op : RegOp) (place : ℕ) (found : Option ClientPart)
    → slice_get parts client ≡ found → Any (IsAtPlace place) (in_part found k op).1 → Any (HasBodyAt place) parts
part_place parts client k op place None at any = absurd (any_nowhere (IsAtPlace place) any)
part_place parts client k op place (Some part) at any =
    any_at (HasBodyAt place) parts client part at
    (pieces_place part op place (slice_get part.planned.pieces k) any)

shown_place : (run : BoardRun) (client k : ℕ) (op : RegOp) (place : ℕ) (told : Greeting) → run.greeting ≡ told
    → Any (IsAtPlace place) (showing run client k op).1 → IsPlaceOn run place
shown_place run client k op place (Live payload) is any =
    part_place run.parts client k op place (slice_get run.parts client) refl (rw is at any)
shown_place run client k op place Silent is any = absurd (any_nowhere (IsAtPlace place) (rw is at any))
shown_place run client k op place Down is any = absurd (any_nowhere (IsAtPlace place) (rw is at any))

-- ---- lines

-- what is shown has no place where a rule denies the operation
ask_place : (run : BoardRun) (client : ℕ) (before : List Asked) (op : RegOp) (denied : Option ℕ) (place : ℕ)
    → Any (IsAtPlace place) (shown_behind run client before op denied).1 → IsPlaceOn run place
ask_place run client before op None place any =
    shown_place run client (count_on op.board (allowed_operations before)) op place run.greeting refl any
ask_place run client before op (Some rule) place any = absurd (any_nowhere (IsAtPlace place) any)

module _ (P : OpLine → Type 0) (runs : List BoardRun) (client : ℕ) where
  record Line : Type 0 where
    before : List Asked
    ask : Asked
    run : BoardRun
    there : slice_get runs ask.op.board ≡ Some run
    holds : P (line_of client before ask run)

  one_line : (before : List Asked) (ask : Asked) (found : Option BoardRun) → slice_get runs ask.op.board ≡ found
      → Any P (option_to_list (option_map (line_of client before ask) found)) → Line
  one_line before ask None at any = absurd (any_nowhere P any)
  one_line before ask (Some run) at any = elim (any_cases P (line_of client before ask run) [] any) [
    | inl here ↦ record { before = before; ask = ask; run = run; there = at; holds = here }
    | inr none ↦ absurd (any_nowhere P none)
  ]

  line_found : (before asks : List Asked) → Any P (lines_behind runs client before asks) → Line
  line_found before [] any = absurd (any_nowhere P any)
  line_found before (ask ∷ asks) any =
      elim (any_append P (option_to_list (option_map (line_of client before ask) (slice_get runs ask.op.board)))
      (lines_behind runs client (before ++ ask ∷ []) asks) any) [
        | inl here ↦ one_line before ask (slice_get runs ask.op.board) refl here
        | inr later ↦ line_found (before ++ ask ∷ []) asks later
      ]

  module _ (board : ℕ) (run : BoardRun) (there : slice_get runs board ≡ Some run) where
    -- what holds of the line of operation n, from 0, of those on the board that are not denied, and follow some
    abbrev HoldsAt : ℕ → Type 0
    HoldsAt n = (before : List Asked) (op : RegOp) → op.board ≡ board → count_on board (allowed_operations before) ≡ n
        → P (line_of client before (record { op = op; denied = None }) run)

    counted : (op : RegOp) (ops : List RegOp) → count_on board (op ∷ ops) ≡ cond (op.board == board) 1 0 + count_on
        board ops
    counted op ops = sum_by-cons (λ (o : RegOp). cond (o.board == board) 1 0) op ops

    both_counted : (before : List Asked) (ask : Asked) → count_on board (allowed_operations (before ++ ask ∷ []))
        ≡ count_on board (allowed_operations before) + count_on board (allowed_operations (ask ∷ []))
    both_counted before ask =
        ap (count_on board) (allowed-append before (ask ∷ []))
        ∙ count_by-append (λ (o : RegOp). o.board == board) (allowed_operations before) (allowed_operations (ask ∷ []))

    -- the first of them, or a later one
    line_there : (before : List Asked) (op : RegOp) (asks : List Asked) (k n : ℕ) → op.board ≡ board
        → count_on board (allowed_operations before) ≡ n → HoldsAt (n + k)
        → ((j : ℕ) → k ≡ suc j
        → Any P (lines_behind runs client (before ++ record { op = op; denied = None } ∷ []) asks))
        → Any P (lines_behind runs client before (record { op = op; denied = None } ∷ asks))
    line_there before op asks zero n same count holds later =
        let ask : Asked = record { op = op; denied = None } in
        let at : slice_get runs op.board ≡ Some run = ap (λ b. slice_get runs b) same ∙ there in
        any_front P (option_to_list (option_map (line_of client before ask) (slice_get runs op.board)))
        (lines_behind runs client (before ++ ask ∷ []) asks)
        (subst (λ (o : Option BoardRun). Any P (option_to_list (option_map (line_of client before ask) o))) (sym at)
        (any_here P (line_of client before ask run) [] (holds before op same (omega arith))))
    line_there before op asks (suc j) n same count holds later =
        let ask : Asked = record { op = op; denied = None } in
        any_back P (option_to_list (option_map (line_of client before ask) (slice_get runs op.board)))
        (lines_behind runs client (before ++ ask ∷ []) asks) (later j refl)

    -- the line of an operation among these that is not denied
    abbrev IsLater : List Asked → List Asked → Type 0
    IsLater before asks = (k n : ℕ) → count_on board (allowed_operations before) ≡ n → k < count_on board (allowed_operations asks)
        → HoldsAt (n + k) → Any P (lines_behind runs client before asks)

    next_shown : (before : List Asked) (op : RegOp) (denied : Option ℕ) (asks : List Asked)
        → IsLater (before ++ record { op = op; denied = denied } ∷ []) asks
        → IsLater before (record { op = op; denied = denied } ∷ asks)
    next_shown before op (Some rule) asks later k n count within holds =
        let ask : Asked = record { op = op; denied = Some rule } in
        any_back P (option_to_list (option_map (line_of client before ask) (slice_get runs op.board)))
        (lines_behind runs client (before ++ ask ∷ []) asks)
        (later k n (omega (arith, both_counted before ask)) within holds)
    next_shown before op None asks later k n count within holds =
        let ask : Asked = record { op = op; denied = None } in
        let longer = both_counted before ask in
        let last = counted op [] in
        let all = counted op (allowed_operations asks) in
        elim (cases_Bool (op.board == board)) [
          | inl here ↦
              let same : op.board ≡ board = grind (arith, nat_tests) in
              let one : cond {A = ℕ} (op.board == board) 1 0 ≡ 1 = ap (λ b. cond {A = ℕ} b 1 0) here in
              line_there before op asks k n same count holds
              (λ j is.
              let next : n + k ≡ (n + 1) + j = omega arith in
              later j (n + 1) (omega arith) (omega arith) (subst (λ m. HoldsAt m) next holds))
          | inr away ↦
              let none : cond {A = ℕ} (op.board == board) 1 0 ≡ 0 = ap (λ b. cond {A = ℕ} b 1 0) away in
              any_back P (option_to_list (option_map (line_of client before ask) (slice_get runs op.board)))
              (lines_behind runs client (before ++ ask ∷ []) asks)
              (later k n (omega arith) (omega arith) holds)
        ]

    line_shown : (before asks : List Asked) → IsLater before asks
    line_shown before [] k n count within holds = absurd (omega arith)
    line_shown before (ask ∷ asks) k n count within holds =
        next_shown before ask.op ask.denied asks (line_shown (before ++ ask ∷ []) asks) k n count within holds

-- ---- clients

module _ (Q : List OpLine → Type 0) (runs : List BoardRun) where
  record Client (first : ℕ) (scripts : List (List Step)) : Type 0 where
    number : ℕ
    steps : List Step
    at' : slice_get scripts number ≡ Some steps
    holds : Q (client_lines runs (first + number) steps)

  client_found : (first : ℕ) (scripts : List (List Step)) → Any Q (lines_from runs first scripts)
      → Client first scripts
  client_found first [] any = absurd (any_nowhere Q any)
  client_found first (steps ∷ scripts) any =
      let none : first ≡ first + 0 = omega arith in
      elim (any_cases Q (client_lines runs first steps) (lines_from runs (first + 1) scripts) any) [
        | inl here ↦ record {
          number = 0;
          steps = steps;
          at' = refl;
          holds = subst (λ n. Q (client_lines runs n steps)) none here;
        }
        | inr later ↦
            let found = client_found (first + 1) scripts later in
            let next : first + 1 + found.number ≡ first + suc found.number = omega arith in
            record {
              number = suc found.number;
              steps = found.steps;
              at' = found.at';
              holds = subst (λ n. Q (client_lines runs n found.steps)) next found.holds;
            }
      ]

  client_shown : (first : ℕ) (scripts : List (List Step)) (number : ℕ) (steps : List Step)
      → slice_get scripts number ≡ Some steps → Q (client_lines runs (first + number) steps)
      → Any Q (lines_from runs first scripts)
  client_shown first [] number steps at holds = absurd cc
  client_shown first (s ∷ scripts) zero steps at holds =
      let none : first + 0 ≡ first = omega arith in
      any_here Q (client_lines runs first s) (lines_from runs (first + 1) scripts)
      (subst (λ n. Q (client_lines runs n s)) none
      (subst (λ (x : List Step). Q (client_lines runs (first + 0) x)) (sym (same_Some s steps at)) holds))
  client_shown first (s ∷ scripts) (suc number) steps at holds =
      let next : first + suc number ≡ first + 1 + number = omega arith in
      any_later Q (client_lines runs first s) (lines_from runs (first + 1) scripts)
      (client_shown (first + 1) scripts number steps at
      (subst (λ n. Q (client_lines runs n steps)) next holds))

-- ---- boards

-- where two lists read as one, so does the element that the other has at a position
pub matched : {A B C : Type 0} (f : A → C) (g : B → C) (xs : List A) (ys : List B) (k : ℕ) (x : A) → map f xs ≡ map g ys
    → slice_get xs k ≡ Some x → (y : B) × (slice_get ys k ≡ Some y) × (f x ≡ g y)
matched f g [] ys k x same at = absurd cc
matched f g (z ∷ xs) [] k x same at = absurd cc
matched f g (z ∷ xs) (y ∷ ys) zero x same at =
    let first : f z ≡ g y = cc in
    (y, refl, ap f (sym (same_Some z x at)) ∙ first)
matched f g (z ∷ xs) (y ∷ ys) (suc k) x same at =
    let rest : map f xs ≡ map g ys = cc in
    matched f g xs ys k x rest at

pub planned_there : (scripts : List (List Step)) (first : ℕ) (runs : List BoardRun) (k : ℕ) (run : BoardRun)
    → ArePlanned first scripts runs → slice_get runs k ≡ Some run → IsPlanned (first + k) scripts run
planned_there scripts first [] k run are at = absurd cc
planned_there scripts first (r ∷ runs) zero run are at =
    let none : first ≡ first + 0 = omega arith in
    subst (λ n. IsPlanned n scripts run) none
    (subst (λ (x : BoardRun). IsPlanned first scripts x) (same_Some r run at) are.0)
planned_there scripts first (r ∷ runs) (suc k) run are at =
    let next : first + 1 + k ≡ first + suc k = omega arith in
    subst (λ n. IsPlanned n scripts run) next (planned_there scripts (first + 1) runs k run are.1 at)

-- boards of one name stand at one position
one_position : (runs : List BoardRun) → HaveOwnNames runs → (i j : ℕ) (one other : BoardRun)
    → slice_get runs i ≡ Some one → slice_get runs j ≡ Some other → one.name ≡ other.name → i ≡ j
one_position runs own i j one other at also same =
    elim (cases_lt i j) [
      | inl less ↦ absurd (own i j one less (slice_get_within runs j other also)
          (ap (λ (r : BoardRun). r.name) (get_or_from_slice_get runs i one one at) ∙ same
          ∙ sym (ap (λ (r : BoardRun). r.name) (get_or_from_slice_get runs j other one also))))
      | inr more ↦ elim (cases_lt j i) [
        | inl less ↦ absurd (own j i one less (slice_get_within runs i one at)
            (ap (λ (r : BoardRun). r.name) (get_or_from_slice_get runs j other one also) ∙ sym same
            ∙ sym (ap (λ (r : BoardRun). r.name) (get_or_from_slice_get runs i one one at))))
        | inr few ↦ omega arith
      ]
    ]

-- ---- from lines to bodies

shown_on : (scripts : List (List Step)) (runs : List BoardRun) (board : ℕ) (run : BoardRun) (place : ℕ)
    → HaveOwnNames runs → slice_get runs board ≡ Some run → IsShown run.name place (lines_from runs 0 scripts)
    → IsPlaceOn run place
shown_on scripts runs board run place own at shown =
    let client = client_found (Any (ShowsPlace run.name place)) runs 0 scripts shown in
    let number = 0 + client.number in
    let line = line_found (ShowsPlace run.name place) runs number [] (asked_operations client.steps) client.holds in
    let here = one_position runs own line.ask.op.board board line.run run line.there at line.holds.board' in
    let same : line.run ≡ run =
    same_Some line.run run (sym line.there ∙ ap (λ n. slice_get runs n) here ∙ at) in
    subst (λ (r : BoardRun). IsPlaceOn r place) same
    (ask_place line.run number line.before line.ask.op line.ask.denied place line.holds.shown)

-- ---- from bodies to lines

ends_within : (bodies : List (List ℕ)) (outcomes : List Outcome) (lates : List (Option (List ℕ))) (j : ℕ)
    (end : BodyEnd) → slice_get (ends_with bodies outcomes lates) j ≡ Some end → j < length bodies
ends_within [] outcomes lates j end at = absurd cc
ends_within (b ∷ bodies) [] lates j end at = absurd cc
ends_within (b ∷ bodies) (o ∷ outcomes) lates zero end at = omega arith
ends_within (b ∷ bodies) (o ∷ outcomes) lates (suc j) end at =
    omega (arith, ends_within bodies outcomes (drop 1 lates) j end at)

not_live : (part : ClientPart) (j : ℕ) (end : BodyEnd) → part.planned.bodies ≡ []
    → slice_get (ends_of part) j ≡ Some end → ⊥
not_live part j end none at =
    let within = ends_within part.planned.bodies part.outcomes part.lates j end at in
    omega (arith, ap length none)

module _ (law : BodiesHavePieces) where
  live_shown : (scripts : List (List Step)) (runs : List BoardRun) (board : ℕ) (run : BoardRun) (payload client : ℕ)
      (part : ClientPart) (steps : List Step) (j : ℕ) (end : BodyEnd) (place : ℕ)
      → slice_get runs board ≡ Some run → run.greeting ≡ Live payload → slice_get run.parts client ≡ Some part
      → slice_get scripts client ≡ Some steps → part.planned ≡ all_dispatches (plan payload board steps)
      → slice_get (ends_of part) j ≡ Some end → EndsAt place end
      → IsShown run.name place (lines_from runs 0 scripts)
  live_shown scripts runs board run payload client part steps j end place there live at script planned ended is =
      let within = ends_within part.planned.bodies part.outcomes part.lates j end ended in
      let has : HasPiece j part.planned.pieces =
      subst (λ (p : ClientBodies). j < length p.bodies → HasPiece j p.pieces) (sym planned)
      (each_body law payload board steps j) within in
      let found = at_any (Any (λ (p : PieceAt). p.body ≡ j)) part.planned.pieces has in
      let k = found.0 in
      let count : length part.planned.pieces ≡ count_on board (operations steps) =
      ap (λ (p : ClientBodies). length p.pieces) planned ∙ each_has_pieces payload board steps in
      let below : k < count_on board (allowed_operations (asked_operations steps)) =
      omega (
        arith,
        count,
        slice_get_within part.planned.pieces k found.1 found.2,
        ap (count_on board) (asked_allowed steps),
      ) in
      let shown = end_op (ends_of part) place j end ended is found.1 found.3 in
      let number : client ≡ 0 + client = omega arith in
      client_shown (Any (ShowsPlace run.name place)) runs 0 scripts client steps script
      (subst (λ n. Any (ShowsPlace run.name place) (client_lines runs n steps)) number
      (line_shown (ShowsPlace run.name place) runs client board run there [] (asked_operations steps) k 0 refl below
      (λ before op same counted. record {
        board' = refl;
        shown =
            let same_count : count_on op.board (allowed_operations before) ≡ k =
            ap (λ b. count_on b (allowed_operations before)) same ∙ counted ∙ omega arith in
            rw live (rw at (rw same_count (rw found.2 shown)));
      })))

  by_greeting : (scripts : List (List Step)) (runs : List BoardRun) (board : ℕ) (run : BoardRun) (client : ℕ)
      (part : ClientPart) (steps : List Step) (j : ℕ) (end : BodyEnd) (place : ℕ) (told : Greeting)
      → slice_get runs board ≡ Some run → run.greeting ≡ told → slice_get run.parts client ≡ Some part
      → slice_get scripts client ≡ Some steps → part.planned ≡ planned_on board told steps
      → slice_get (ends_of part) j ≡ Some end → EndsAt place end
      → IsShown run.name place (lines_from runs 0 scripts)
  by_greeting scripts runs board run client part steps j end place (Live payload) there live at script planned ended
      is =
      live_shown scripts runs board run payload client part steps j end place there live at script planned ended is
  by_greeting scripts runs board run client part steps j end place Silent there silent at script planned ended is =
      absurd (not_live part j end (ap (λ (p : ClientBodies). p.bodies) planned) ended)
  by_greeting scripts runs board run client part steps j end place Down there down at script planned ended is =
      absurd (not_live part j end (ap (λ (p : ClientBodies). p.bodies) planned) ended)

  placed_shown : (scripts : List (List Step)) (runs : List BoardRun) (board : ℕ) (run : BoardRun) (place : ℕ)
      → IsPlanned board scripts run → slice_get runs board ≡ Some run → IsPlaceOn run place
      → IsShown run.name place (lines_from runs 0 scripts)
  placed_shown scripts runs board run place plans at placed =
      let part = at_any (HasBodyAt place) run.parts placed in
      let end = at_any (EndsAt place) (ends_of part.1) part.3 in
      let steps = matched (λ (p : ClientPart). p.planned) (planned_on board run.greeting) run.parts scripts part.0
      part.1 plans part.2 in
      by_greeting scripts runs board run part.0 part.1 steps.0 end.0 end.1 place run.greeting at refl part.2 steps.1
      steps.2 end.2 end.3

  pub shown_places : (scripts : List (List Step)) (runs : List BoardRun) (board : ℕ) (run : BoardRun) (place : ℕ)
      → HaveOwnNames runs → ArePlanned 0 scripts runs → slice_get runs board ≡ Some run
      → (IsShown run.name place (lines_from runs 0 scripts) ↔ IsPlaceOn run place)
  shown_places scripts runs board run place own plans at =
      let first : 0 + board ≡ board = omega arith in
      let planned = subst (λ n. IsPlanned n scripts run) first (planned_there scripts 0 runs board run plans at) in (
        λ shown. shown_on scripts runs board run place own at shown,
        λ placed. placed_shown scripts runs board run place planned at placed,
      )

-- only a live board has places
live_by : (run : BoardRun) (part : ClientPart) (steps : List Step) (board j : ℕ) (end : BodyEnd) (told : Greeting)
    → run.greeting ≡ told → part.planned ≡ planned_on board told steps → slice_get (ends_of part) j ≡ Some end
    → (payload : ℕ) × (run.greeting ≡ Live payload)
live_by run part steps board j end (Live payload) is planned at = (payload, is)
live_by run part steps board j end Silent is planned at =
    absurd (not_live part j end (ap (λ (p : ClientBodies). p.bodies) planned) at)
live_by run part steps board j end Down is planned at =
    absurd (not_live part j end (ap (λ (p : ClientBodies). p.bodies) planned) at)

pub place_on_live : (scripts : List (List Step)) (board : ℕ) (run : BoardRun) (place : ℕ) → IsPlanned board scripts run
    → IsPlaceOn run place → (payload : ℕ) × (run.greeting ≡ Live payload)
place_on_live scripts board run place plans placed =
    let part = at_any (HasBodyAt place) run.parts placed in
    let end = at_any (EndsAt place) (ends_of part.1) part.3 in
    let steps = matched (λ (p : ClientPart). p.planned) (planned_on board run.greeting) run.parts scripts part.0
    part.1 plans part.2 in
    live_by run part.1 steps.0 board end.0 end.1 run.greeting refl steps.2 end.2
