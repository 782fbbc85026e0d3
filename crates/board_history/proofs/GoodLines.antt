-- Where all lines of a run are good, each body was replied to.
use Rattle.std.proofs.Common.{◌≡◌, ℕ, zero, suc, ◌+◌, ◌<◌, ◌==◌, cond, true, false, List, [], ◌∷◌, ◌++◌, length}
use Rattle.std.proofs.Common.{map, Option, Some, None, option_to_list, refl, sym, ap, subst, ◌∙◌, inl, inr, arith}
use Rattle.std.proofs.Common.{drop, get_or, if◌then◌else◌}
use Rattle.std.specs.Prelude.{unwrap_or}
use Rattle.std.specs.List.{AllByRecursion, Any, flat_map, slice_get}
use Rattle.std.specs.Option.{option_map}
use Rattle.std.proofs.lemmas.Bool.{cases_Bool}
use Rattle.std.proofs.lemmas.Bool.Decides.{nat_tests}
use Rattle.std.proofs.lemmas.List.Sums.{sum_by-cons}
use Rattle.std.proofs.lemmas.Option.{same_Some, slice_get_within}
use Rattle.mtu_packer.proofs.AnyLemmas.{any_nowhere, any_cases, at_any}
use Rattle.script_steps.specs.declared.operation.RegOp.{RegOp}
use Rattle.script_steps.specs.declared.operation.Step.{Step}
use Rattle.script_steps.specs.Rulings.{Asked, asked_operations, allowed_operations}
use Rattle.lane_record.specs.declared.outcome.Outcome.{Outcome}
use Rattle.lane_record.specs.declared.outcome.Outcome.TheVariants.{Replied, TimedOut, Unsent, LinkLost}
use Rattle.script_plans.specs.declared.greeting.Greeting.{Greeting}
use Rattle.script_plans.specs.declared.greeting.Greeting.TheVariants.{Live, Silent, Down}
use Rattle.script_plans.specs.declared.planned.PieceAt.{PieceAt}
use Rattle.script_plans.specs.declared.board_run.ClientPart.{ClientPart}
use Rattle.script_plans.specs.declared.board_run.BoardRun.{BoardRun}
use Rattle.script_plans.specs.Plan.{ClientBodies, operations, plan, planned_on, plans_on, all_dispatches, count_on}
use Rattle.script_plans.specs.Claims.{HasPiece}
use Rattle.script_plans.specs.Runs.{ArePlanned}
use Rattle.script_plans.proofs.Covering.{count_by-append, each_has_pieces}
use Rattle.transcript.specs.declared.body_end.BodyEnd.{BodyEnd}
use Rattle.transcript.specs.declared.line.OpLine.{OpLine}
use Rattle.script_steps.specs.declared.operation.Verb.{Verb}
use Rattle.transcript.specs.declared.line.OpResult.{OpResult}
use Rattle.transcript.specs.Claims.{IsDone, IsDoneResult}
use Rattle.transcript.specs.Ends.{end_of, ends_of, ends_with, told_of, told_timed_out, told_at, result_in, piece_result}
use Rattle.transcript.specs.Results.{first_not_done, is_good, op_result, shown_result, shown_not_done, values_in}
use Rattle.transcript.specs.Lines.{showing, line_of, lines_behind, client_lines, lines_from}
use Rattle.transcript.proofs.Allowed.{allowed-append, asked_allowed}
use Rattle.transcript.proofs.GoodResults.{shown_as_good}
use Rattle.board_history.specs.Parts.{IsReplied, AllReplied}
use Rattle.board_history.specs.History.{IsOrdered, outcomes_by_client}

abbrev pub IsGood : OpLine → Type 0
IsGood line = is_good line.result ≡ true

-- ---- lines that are done are good

done_is_good : (r : OpResult) → IsDoneResult r → is_good r ≡ true
done_is_good r (inl (words, is)) = ap is_good is
done_is_good r (inr (inl is)) = ap is_good is
done_is_good r (inr (inr (word, is))) = ap is_good is

lines_are_good : (lines : List OpLine) → AllByRecursion IsDone lines → AllByRecursion IsGood lines
lines_are_good [] done = tt
lines_are_good (line ∷ lines) done = (done_is_good line.result done.0, lines_are_good lines done.1)

pub all_are_good : (clients : List (List OpLine)) → AllByRecursion (AllByRecursion IsDone) clients
    → AllByRecursion (AllByRecursion IsGood) clients
all_are_good [] done = tt
all_are_good (lines ∷ clients) done = (lines_are_good lines done.0, all_are_good clients done.1)

-- ---- from lines to operations

-- what is told of operation n, from 0, of those of a client on the board
record WasGood (run : BoardRun) (client n : ℕ) : Type 0 where
  op : RegOp
  good : is_good (showing run client n op).0 ≡ true

module _ (runs : List BoardRun) (client board : ℕ) (run : BoardRun) (there : slice_get runs board ≡ Some run) where
  first_good : (before : List Asked) (ask : Asked) (rest : List OpLine) (found : Option BoardRun) → found ≡ Some run
      → AllByRecursion IsGood (option_to_list (option_map (line_of client before ask) found) ++ rest)
      → IsGood (line_of client before ask run)
  first_good before ask rest None is all = absurd cc
  first_good before ask rest (Some r) is all =
      subst (λ (x : BoardRun). IsGood (line_of client before ask x)) (same_Some r run is) all.0

  rest_good : (before : List Asked) (ask : Asked) (rest : List OpLine) (found : Option BoardRun)
      → AllByRecursion IsGood (option_to_list (option_map (line_of client before ask) found) ++ rest)
      → AllByRecursion IsGood rest
  rest_good before ask rest None all = all
  rest_good before ask rest (Some r) all = all.1

  counted : (op : RegOp) (ops : List RegOp) → count_on board (op ∷ ops) ≡ cond (op.board == board) 1 0 + count_on
      board ops
  counted op ops = sum_by-cons (λ (o : RegOp). cond (o.board == board) 1 0) op ops

  both_counted : (before : List Asked) (ask : Asked) → count_on board (allowed_operations (before ++ ask ∷ []))
      ≡ count_on board (allowed_operations before) + count_on board (allowed_operations (ask ∷ []))
  both_counted before ask =
      ap (count_on board) (allowed-append before (ask ∷ []))
      ∙ count_by-append (λ (o : RegOp). o.board == board) (allowed_operations before) (allowed_operations (ask ∷ []))

  -- an operation among these that is not denied was good
  abbrev GoodAmong : List Asked → List Asked → Type 0
  GoodAmong before asks = (k n : ℕ) → count_on board (allowed_operations before) ≡ n → k < count_on board (allowed_operations asks)
      → AllByRecursion IsGood (lines_behind runs client before asks) → WasGood run client (n + k)

  here_or_later : (before : List Asked) (op : RegOp) (asks : List Asked) (k n : ℕ) → op.board ≡ board
      → count_on board (allowed_operations before) ≡ n
      → AllByRecursion IsGood (lines_behind runs client before (record { op = op; denied = None } ∷ asks))
      → ((j : ℕ) → k ≡ suc j → WasGood run client (n + k)) → WasGood run client (n + k)
  here_or_later before op asks zero n same count all later =
      let ask : Asked = record { op = op; denied = None } in
      let at : slice_get runs op.board ≡ Some run = ap (λ b. slice_get runs b) same ∙ there in
      let good = first_good before ask (lines_behind runs client (before ++ ask ∷ []) asks)
      (slice_get runs op.board) at all in
      let number : count_on op.board (allowed_operations before) ≡ n + 0 =
      ap (λ b. count_on b (allowed_operations before)) same ∙ (count ∙ omega arith) in
      record { op = op; good = subst (λ m. is_good (showing run client m op).0 ≡ true) number good }
  here_or_later before op asks (suc j) n same count all later = later j refl

  next_good : (before : List Asked) (op : RegOp) (denied : Option ℕ) (asks : List Asked)
      → GoodAmong (before ++ record { op = op; denied = denied } ∷ []) asks
      → GoodAmong before (record { op = op; denied = denied } ∷ asks)
  next_good before op (Some rule) asks later k n count within all =
      let ask : Asked = record { op = op; denied = Some rule } in
      later k n (omega (arith, both_counted before ask)) within
      (rest_good before ask (lines_behind runs client (before ++ ask ∷ []) asks) (slice_get runs op.board) all)
  next_good before op None asks later k n count within all =
      let ask : Asked = record { op = op; denied = None } in
      let longer = both_counted before ask in
      let last = counted op [] in
      let whole = counted op (allowed_operations asks) in
      let rest = rest_good before ask (lines_behind runs client (before ++ ask ∷ []) asks)
      (slice_get runs op.board) all in
      elim (cases_Bool (op.board == board)) [
        | inl here ↦
            let same : op.board ≡ board = grind (arith, nat_tests) in
            let one : cond {A = ℕ} (op.board == board) 1 0 ≡ 1 = ap (λ b. cond {A = ℕ} b 1 0) here in
            here_or_later before op asks k n same count all
            (λ j is.
            let next : (n + 1) + j ≡ n + k = omega arith in
            subst (λ m. WasGood run client m) next (later j (n + 1) (omega arith) (omega arith) rest))
        | inr away ↦
            let none : cond {A = ℕ} (op.board == board) 1 0 ≡ 0 = ap (λ b. cond {A = ℕ} b 1 0) away in
            later k n (omega arith) (omega arith) rest
      ]

  among : (before asks : List Asked) → GoodAmong before asks
  among before [] k n count within all = absurd (omega arith)
  among before (ask ∷ asks) k n count within all =
      next_good before ask.op ask.denied asks (among (before ++ ask ∷ []) asks) k n count within all

-- ---- from operations to pieces

faults_are_bad : (rs : List OpResult) (r : OpResult) → first_not_done rs ≡ Some r → is_good r ≡ false
faults_are_bad [] r is = absurd cc
faults_are_bad (x ∷ xs) r is = elim (is_good x) as
    (λ b. is_good x ≡ b → (if b then first_not_done xs else Some x) ≡ Some r → is_good r ≡ false) [
      | true ↦ λ _ h. faults_are_bad xs r h
      | false ↦ λ bad h. subst (λ y. is_good y ≡ false) (same_Some x r h) bad
    ] refl is

none_bad : (v : Verb) (mask : ℕ) (rs : List OpResult) (otherwise : OpResult) (found : Option OpResult)
    → first_not_done rs ≡ found → is_good (unwrap_or (option_map (shown_not_done v mask) found) otherwise) ≡ true
    → first_not_done rs ≡ None
none_bad v mask rs otherwise None is good = is
none_bad v mask rs otherwise (Some r) is good =
    let bad = shown_as_good v mask r ∙ faults_are_bad rs r is in
    let both : true ≡ false = sym good ∙ bad in absurd cc

record BothGood (r : OpResult) (rs : List OpResult) : Type 0 where
  first : is_good r ≡ true
  rest : first_not_done rs ≡ None

both_good : (r : OpResult) (rs : List OpResult) → first_not_done (r ∷ rs) ≡ None → BothGood r rs
both_good r rs is = elim (is_good r) as
    (λ b. is_good r ≡ b → (if b then first_not_done rs else Some r) ≡ None → BothGood r rs) [
      | true ↦ λ good h. record { first = good; rest = h }
      | false ↦ λ _ h. absurd cc
    ] refl is

-- what is told of some transaction of the body is good
abbrev ToldGood : BodyEnd → Type 0
ToldGood end = (index : ℕ) × (is_good (told_at end.told index) ≡ true)

told_good : (ends : List BodyEnd) (body : ℕ) (end : BodyEnd) → slice_get ends body ≡ Some end
    → (pieces : List PieceAt) → first_not_done (map (piece_result ends) pieces) ≡ None
    → Any (λ (p : PieceAt). p.body ≡ body) pieces → ToldGood end
told_good ends body end at [] none any = absurd (any_nowhere (λ (p : PieceAt). p.body ≡ body) any)
told_good ends body end at (p ∷ ps) none any =
    let both = both_good (piece_result ends p) (map (piece_result ends) ps) none in
    elim (any_cases (λ (q : PieceAt). q.body ≡ body) p ps any) [
      | inl same ↦
          let there : slice_get ends p.body ≡ Some end = ap (λ n. slice_get ends n) same ∙ at in (
            p.index,
            subst (λ (o : Option BodyEnd). is_good (result_in o p.index) ≡ true) there both.first,
          )
      | inr later ↦ told_good ends body end at ps both.rest later
    ]

op_good : (ends : List BodyEnd) (op : RegOp) (pieces : List PieceAt) → is_good (op_result ends op pieces) ≡ true
    → first_not_done (map (piece_result ends) pieces) ≡ None
op_good ends op pieces good =
    none_bad op.verb op.mask (map (piece_result ends) pieces)
    (shown_result op.verb op.mask (flat_map values_in (map (piece_result ends) pieces)))
    (first_not_done (map (piece_result ends) pieces)) refl good

-- ---- from pieces to bodies

late_is_bad : (body : List ℕ) (rounds : ℕ) (late : Option (List ℕ)) (index : ℕ)
    → is_good (told_at (told_timed_out body rounds late) index) ≡ false
late_is_bad body rounds None index = refl
late_is_bad body rounds (Some words) index = refl

good_was_replied : (body : List ℕ) (o : Outcome) (late : Option (List ℕ)) (index : ℕ)
    → is_good (told_at (told_of body o late) index) ≡ true → IsReplied o
good_was_replied body (Replied place words) late index good = tt
good_was_replied body (TimedOut place rounds) late index good =
    absurd (let both : true ≡ false = sym good ∙ late_is_bad body rounds late index in cc)
good_was_replied body Unsent late index good = absurd cc
good_was_replied body (LinkLost place) late index good = absurd cc

all_good_were_replied : (bodies : List (List ℕ)) (outcomes : List Outcome) (lates : List (Option (List ℕ)))
    → length outcomes ≡ length bodies
    → ((j : ℕ) (end : BodyEnd) → j < length bodies → slice_get (ends_with bodies outcomes lates) j ≡ Some end
    → ToldGood end) → AllByRecursion IsReplied outcomes
all_good_were_replied [] [] lates long good = tt
all_good_were_replied [] (o ∷ os) lates long good = absurd (omega (arith, long))
all_good_were_replied (b ∷ bs) [] lates long good = tt
all_good_were_replied (b ∷ bs) (o ∷ os) lates long good =
    let late = get_or lates 0 None in
    let here = good 0 (end_of b o late) (omega arith) refl in (
      good_was_replied b o late here.0 here.1,
      all_good_were_replied bs os (drop 1 lates) (omega (arith, long))
          (λ j end within at. good (suc j) end (omega (arith, within)) at),
    )

nothing_asked : (part : ClientPart) → length part.outcomes ≡ length part.planned.bodies → part.planned.bodies ≡ []
    → AllByRecursion IsReplied part.outcomes
nothing_asked part long none = all_good_were_replied part.planned.bodies part.outcomes part.lates long
    (λ j end within at. absurd (omega (arith, within, ap length none)))

shown_good : (run : BoardRun) (client k payload : ℕ) (op : RegOp) (part : ClientPart) (pieces : List PieceAt)
    → run.greeting ≡ Live payload → slice_get run.parts client ≡ Some part
    → slice_get part.planned.pieces k ≡ Some pieces → is_good (showing run client k op).0 ≡ true
    → is_good (op_result (ends_of part) op pieces) ≡ true
shown_good run client k payload op part pieces greeted at there good = rw there at (rw at at (rw greeted at good))

module _ (law : (payload board : ℕ) (steps : List Step) (body : ℕ)
    → body < length (all_dispatches (plan payload board steps)).bodies
    → HasPiece body (all_dispatches (plan payload board steps)).pieces) (runs : List BoardRun) where
  module _ (board : ℕ) (run : BoardRun) (there : slice_get runs board ≡ Some run) where
    live_part : (payload client : ℕ) (steps : List Step) (part : ClientPart) → run.greeting ≡ Live payload
        → slice_get run.parts client ≡ Some part → part.planned ≡ all_dispatches (plan payload board steps)
        → length part.outcomes ≡ length part.planned.bodies
        → AllByRecursion IsGood (client_lines runs client steps) → AllByRecursion IsReplied part.outcomes
    live_part payload client steps part greeted at planned long all =
        all_good_were_replied part.planned.bodies part.outcomes part.lates long (λ j end within ended.
        let has : HasPiece j part.planned.pieces =
        subst (λ (p : ClientBodies). j < length p.bodies → HasPiece j p.pieces) (sym planned)
        (law payload board steps j) within in
        let found = at_any (Any (λ (p : PieceAt). p.body ≡ j)) part.planned.pieces has in
        let count : length part.planned.pieces ≡ count_on board (operations steps) =
        ap (λ (p : ClientBodies). length p.pieces) planned ∙ each_has_pieces payload board steps in
        let below : found.0 < count_on board (allowed_operations (asked_operations steps)) =
        omega (
          arith,
          count,
          slice_get_within part.planned.pieces found.0 found.1 found.2,
          ap (count_on board) (asked_allowed steps),
        ) in
        let first : 0 + found.0 ≡ found.0 = omega arith in
        let was : WasGood run client found.0 = subst (λ n. WasGood run client n) first
        (among runs client board run there [] (asked_operations steps) found.0 0 refl below all) in
        let good = shown_good run client found.0 payload was.op part found.1 greeted at found.2 was.good in
        told_good (ends_of part) j end ended found.1 (op_good (ends_of part) was.op found.1 good) found.3)

    told_part : (told : Greeting) (client : ℕ) (steps : List Step) (part : ClientPart) → run.greeting ≡ told
        → slice_get run.parts client ≡ Some part → part.planned ≡ planned_on board told steps
        → length part.outcomes ≡ length part.planned.bodies
        → AllByRecursion IsGood (client_lines runs client steps) → AllByRecursion IsReplied part.outcomes
    told_part (Live payload) client steps part greeted at planned long all =
        live_part payload client steps part greeted at planned long all
    told_part Silent client steps part greeted at planned long all =
        nothing_asked part long (ap (λ (p : ClientBodies). p.bodies) planned)
    told_part Down client steps part greeted at planned long all =
        nothing_asked part long (ap (λ (p : ClientBodies). p.bodies) planned)

    all_parts : (first : ℕ) (scripts : List (List Step)) (parts : List ClientPart)
        → ((k : ℕ) (part : ClientPart) → slice_get parts k ≡ Some part → slice_get run.parts (first + k) ≡ Some part)
        → map (λ (p : ClientPart). p.planned) parts ≡ plans_on board run.greeting scripts
        → map length (map (λ (p : ClientPart). p.outcomes) parts)
        ≡ map length (map (λ (p : ClientPart). p.planned.bodies) parts)
        → AllByRecursion (AllByRecursion IsGood) (lines_from runs first scripts)
        → AllReplied (map (λ (p : ClientPart). p.outcomes) parts)
    all_parts first [] [] at plans long all = tt
    all_parts first [] (part ∷ parts) at plans long all = absurd cc
    all_parts first (steps ∷ scripts) [] at plans long all = tt
    all_parts first (steps ∷ scripts) (part ∷ parts) at plans long all =
        let planned : part.planned ≡ planned_on board run.greeting steps = cc in
        let others : map (λ (p : ClientPart). p.planned) parts ≡ plans_on board run.greeting scripts = cc in
        let here : length part.outcomes ≡ length part.planned.bodies = cc in
        let later : map length (map (λ (p : ClientPart). p.outcomes) parts)
        ≡ map length (map (λ (p : ClientPart). p.planned.bodies) parts) = cc in
        let none : first + 0 ≡ first = omega arith in (
          told_part run.greeting first steps part refl
              (subst (λ n. slice_get run.parts n ≡ Some part) none (at 0 part refl)) planned here all.0,
          all_parts (first + 1) scripts parts
              (λ k p is.
              let next : first + suc k ≡ first + 1 + k = omega arith in
              subst (λ n. slice_get run.parts n ≡ Some p) next (at (suc k) p is)) others later all.1,
        )

  pub all_runs : (scripts : List (List Step)) (first : ℕ) (rest : List BoardRun)
      → ((k : ℕ) (run : BoardRun) → slice_get rest k ≡ Some run → slice_get runs (first + k) ≡ Some run)
      → ArePlanned first scripts rest → AllByRecursion IsOrdered rest
      → AllByRecursion (AllByRecursion IsGood) (lines_from runs 0 scripts)
      → AllByRecursion (λ (run : BoardRun). AllReplied (outcomes_by_client run)) rest
  all_runs scripts first [] at plans ordered all = tt
  all_runs scripts first (run ∷ rest) at plans ordered all =
      let none : first + 0 ≡ first = omega arith in (
        all_parts first run (subst (λ n. slice_get runs n ≡ Some run) none (at 0 run refl)) 0 scripts run.parts
            (λ k part is.
            let same : k ≡ 0 + k = omega arith in subst (λ n. slice_get run.parts n ≡ Some part) same is)
            plans.0 ordered.0.shape all,
        all_runs scripts (first + 1) rest
            (λ k r is.
            let next : first + suc k ≡ first + 1 + k = omega arith in
            subst (λ n. slice_get runs n ≡ Some r) next (at (suc k) r is)) plans.1 ordered.1 all,
      )
