-- Lines show a rule exactly where it denies their operation.
use Rattle.std.proofs.Common.{◌≡◌, ℕ, ◌+◌, List, [], ◌∷◌, ◌++◌, map, Option, Some, None, refl, ap, ◌∙◌, inl, inr, arith}
use Rattle.std.specs.List.{AllByRecursion, slice_get}
use Rattle.std.specs.Option.{option_map}
use Rattle.std.specs.Prelude.{IfSome, option_to_list, unwrap_or}
use Rattle.std.proofs.lemmas.Bool.{cases_Bool}
use Rattle.std.proofs.lemmas.Option.{slice_get_cases}
use Rattle.ipb_base.proofs.AllLemmas.{AllByRecursion-append}
use Rattle.reply_join.specs.declared.answer.Answer.{Answer}
use Rattle.reply_join.specs.declared.answer.Answer.TheVariants as answer
use Rattle.script_steps.specs.Rulings.{Asked, asked_operations}
use Rattle.script_steps.specs.declared.operation.RegOp.{RegOp}
use Rattle.script_steps.specs.declared.operation.Step.{Step}
use Rattle.script_steps.specs.declared.operation.Verb.{Verb}
use Rattle.script_steps.specs.declared.operation.Verb.TheVariants.{Read, Write, ReadBlock, WriteBlock, RmwBits, RmwSum}
use Rattle.script_plans.specs.declared.greeting.Greeting.{Greeting}
use Rattle.script_plans.specs.declared.greeting.Greeting.TheVariants.{Live, Silent, Down}
use Rattle.script_plans.specs.declared.planned.PieceAt.{PieceAt}
use Rattle.script_plans.specs.declared.board_run.ClientPart.{ClientPart}
use Rattle.script_plans.specs.declared.board_run.BoardRun.{BoardRun}
use Rattle.transcript.specs.declared.body_end.Told.{Told}
use Rattle.transcript.specs.declared.body_end.Told.TheVariants as told
use Rattle.transcript.specs.declared.body_end.BodyEnd.{BodyEnd}
use Rattle.transcript.specs.declared.line.OpResult.{OpResult}
use Rattle.transcript.specs.declared.line.OpResult.TheVariants.{Late}
use Rattle.transcript.specs.Ends.{ends_of, answer_result, told_at, result_in, piece_result}
use Rattle.transcript.specs.Results.{is_good, first_not_done, word_before, shown_result, shown_not_done}
use Rattle.transcript.specs.Lines.{by_pieces, in_part, showing, shown_behind, line_of, lines_behind}
use Rattle.transcript.specs.Lines.{lines_from}
use Rattle.transcript.specs.Claims.{AreOnBoards, HasNoPlaceIfDenied, IsOnBoard, rule_in, rules_of, rules_shown}

-- ---- what boards answer shows no rule

IsNotDenied : OpResult → Type 0
IsNotDenied r = rule_in r ≡ None

answered_so : (one : Option Answer) → IsNotDenied (answer_result one)
unfolding IsNotDenied
answered_so (Some (answer.Values words)) = refl
answered_so (Some answer.Done) = refl
answered_so (Some (answer.Fault code after)) = refl
answered_so (Some answer.Skipped) = refl
answered_so None = refl

told_so : (what : Told) (index : ℕ) → IsNotDenied (told_at what index)
unfolding IsNotDenied
told_so (told.Answered list) index = answered_so (slice_get list index)
told_so told.Garbled index = refl
told_so (told.TimedOut rounds) index = refl
told_so (told.Late rounds list) index = refl
told_so told.Unsent index = refl
told_so told.LinkLost index = refl

result_so : (found : Option BodyEnd) (index : ℕ) → IsNotDenied (result_in found index)
unfolding IsNotDenied
result_so (Some end) index = told_so end.told index
result_so None index = refl

before_so : (words : List ℕ) → IsNotDenied (word_before words)
unfolding IsNotDenied
before_so [] = refl
before_so (word ∷ words) = refl

shown_so : (verb : Verb) (mask : ℕ) (words : List ℕ) → IsNotDenied (shown_result verb mask words)
unfolding IsNotDenied
shown_so Read mask words = refl
shown_so Write mask words = refl
shown_so ReadBlock mask words = refl
shown_so WriteBlock mask words = refl
shown_so RmwBits mask words = before_so words
shown_so RmwSum mask words = before_so words

fault_so : (verb : Verb) (mask : ℕ) (fault : OpResult) → IsNotDenied fault
    → IsNotDenied (shown_not_done verb mask fault)
unfolding IsNotDenied
fault_so verb mask (Late rounds answer) is = refl
fault_so verb mask other is = is

pieces_so : (verb : Verb) (mask : ℕ) (ends : List BodyEnd) (pieces : List PieceAt) (other : OpResult)
    → IsNotDenied other → IsNotDenied
    (unwrap_or (option_map (shown_not_done verb mask) (first_not_done (map (piece_result ends) pieces))) other)
pieces_so verb mask ends [] other is = is
pieces_so verb mask ends (piece ∷ pieces) other is =
    elim (cases_Bool (is_good (piece_result ends piece))) [
      | inl good ↦ rw good (pieces_so verb mask ends pieces other is)
      | inr failed ↦ rw failed (fault_so verb mask (piece_result ends piece)
          (result_so (slice_get ends piece.body) piece.index))
    ]

by_pieces_so : (part : ClientPart) (op : RegOp) (found : Option (List PieceAt))
    → IsNotDenied (by_pieces part op found).0
unfolding IsNotDenied
by_pieces_so part op None = refl
by_pieces_so part op (Some pieces) = pieces_so op.verb op.mask (ends_of part) pieces _ (shown_so op.verb op.mask _)

in_part_so : (found : Option ClientPart) (k : ℕ) (op : RegOp) → IsNotDenied (in_part found k op).0
unfolding IsNotDenied
in_part_so None k op = refl
in_part_so (Some part) k op = by_pieces_so part op (slice_get part.planned.pieces k)

showing_so : (run : BoardRun) (client k : ℕ) (op : RegOp) (greeting : Greeting) → run.greeting ≡ greeting
    → IsNotDenied (showing run client k op).0
unfolding IsNotDenied
showing_so run client k op (Live payload) is = rw is (in_part_so (slice_get run.parts client) k op)
showing_so run client k op Silent is = rw is refl
showing_so run client k op Down is = rw is refl

-- ---- lines

rule_behind : (run : BoardRun) (client : ℕ) (before : List Asked) (op : RegOp) (denied : Option ℕ)
    → rule_in (shown_behind run client before op denied).0 ≡ denied
unfolding IsNotDenied
rule_behind run client before op None = showing_so run client _ op run.greeting refl
rule_behind run client before op (Some rule) = refl

rules_behind : (runs : List BoardRun) (client : ℕ) (before asks : List Asked) → AllByRecursion (IsOnBoard runs) asks
    → rules_shown (lines_behind runs client before asks) ≡ map (λ (ask : Asked). ask.denied) asks
rules_behind runs client before [] all = refl
rules_behind runs client before (ask ∷ asks) all =
    elim (slice_get_cases runs ask.op.board).1 [
      | inl (run, within, at, again) ↦ rw at (
          ap (λ (rule : Option ℕ). rule ∷ rules_shown (lines_behind runs client (before ++ ask ∷ []) asks))
          (rule_behind run client before ask.op ask.denied)
          ∙ ap (λ (rules : List (Option ℕ)). ask.denied ∷ rules)
          (rules_behind runs client (before ++ ask ∷ []) asks all.1)
          )
      | inr (past, none) ↦ absurd (omega (arith, all.0))
    ]

rules_from : (runs : List BoardRun) (client : ℕ) (scripts : List (List Step))
    → AllByRecursion (AreOnBoards runs) scripts
    → map rules_shown (lines_from runs client scripts) ≡ map rules_of scripts
rules_from runs client [] all = refl
rules_from runs client (steps ∷ scripts) all =
    ap (λ (rules : List (Option ℕ)). rules ∷ map rules_shown (lines_from runs (client + 1) scripts))
    (rules_behind runs client [] (asked_operations steps) all.0)
    ∙ ap (λ (rules : List (List (Option ℕ))). rules_of steps ∷ rules) (rules_from runs (client + 1) scripts all.1)

pub rules_told : (scripts : List (List Step)) (runs : List BoardRun) → AllByRecursion (AreOnBoards runs) scripts
    → map rules_shown (lines_from runs 0 scripts) ≡ map rules_of scripts
rules_told scripts runs all = rules_from runs 0 scripts all

-- ---- places

no_place : (run : BoardRun) (client : ℕ) (before : List Asked) (op : RegOp) (denied : Option ℕ)
    → IfSome (rule_in (shown_behind run client before op denied).0)
    (λ _. (shown_behind run client before op denied).1 ≡ [])
unfolding IsNotDenied
no_place run client before op None = rw (showing_so run client _ op run.greeting refl) tt
no_place run client before op (Some rule) = refl

no_place_behind : (runs : List BoardRun) (client : ℕ) (before asks : List Asked)
    → AllByRecursion HasNoPlaceIfDenied (lines_behind runs client before asks)
no_place_behind runs client before [] = tt
no_place_behind runs client before (ask ∷ asks) =
    AllByRecursion-append HasNoPlaceIfDenied _ (lines_behind runs client (before ++ ask ∷ []) asks)
    (one (slice_get runs ask.op.board)) (no_place_behind runs client (before ++ ask ∷ []) asks) where
      one : (found : Option BoardRun)
          → AllByRecursion HasNoPlaceIfDenied (option_to_list (option_map (line_of client before ask) found))
      one None = tt
      one (Some run) = (no_place run client before ask.op ask.denied, tt)

pub no_places : (runs : List BoardRun) (client : ℕ) (scripts : List (List Step))
    → AllByRecursion (AllByRecursion HasNoPlaceIfDenied) (lines_from runs client scripts)
no_places runs client [] = tt
no_places runs client (steps ∷ scripts) =
    (no_place_behind runs client [] (asked_operations steps), no_places runs (client + 1) scripts)
