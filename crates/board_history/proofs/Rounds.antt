-- A line that was timed out shows the rounds of the session.
use Rattle.std.proofs.Common.{◌≡◌, ℕ, zero, suc, ◌+◌, List, [], ◌∷◌, map, Option, Some}
use Rattle.std.proofs.Common.{None, drop, get_or, refl, subst, inl, inr}
use Rattle.std.specs.Prelude.{unwrap_or}
use Rattle.std.specs.List.{AllByRecursion, slice_get, flat_map}
use Rattle.std.specs.Option.{option_map}
use Rattle.std.proofs.lemmas.Bool.{cases_Bool}
use Rattle.std.proofs.lemmas.Option.{same_Some}
use Rattle.board_specs.specs.declared.spec.BoardSpec.{BoardSpec}
use Rattle.world_model.specs.Settings.{Limits}
use Rattle.reply_join.specs.declared.answer.Answer.{Answer}
use Rattle.reply_join.specs.declared.answer.Answer.TheVariants as answer
use Rattle.reply_join.specs.ByWords.{answers}
use Rattle.script_steps.specs.declared.operation.RegOp.{RegOp}
use Rattle.script_steps.specs.declared.operation.Step.{Step}
use Rattle.script_steps.specs.Rulings.{Asked, allowed_operations}
use Rattle.script_steps.specs.declared.operation.Verb.{Verb}
use Rattle.script_steps.specs.declared.operation.Verb.TheVariants as verb
use Rattle.lane_record.specs.declared.outcome.Outcome.{Outcome}
use Rattle.lane_record.specs.declared.outcome.Outcome.TheVariants.{Replied, TimedOut, Unsent, LinkLost}
use Rattle.lane_record.specs.Outcomes.{TellsRounds}
use Rattle.script_plans.specs.declared.board_run.ClientPart.{ClientPart}
use Rattle.script_plans.specs.declared.board_run.BoardRun.{BoardRun}
use Rattle.script_plans.specs.declared.greeting.Greeting.{Greeting}
use Rattle.script_plans.specs.declared.greeting.Greeting.TheVariants.{Live, Silent, Down}
use Rattle.transcript.specs.declared.line.OpResult.{OpResult}
use Rattle.transcript.specs.declared.line.OpResult.TheVariants as result
use Rattle.script_plans.specs.declared.planned.PieceAt.{PieceAt}
use Rattle.script_plans.specs.Plan.{count_on}
use Rattle.transcript.specs.Ends.{answer_result, ends_of, ends_with, piece_result, result_in, told_at, told_by}
use Rattle.transcript.specs.Ends.{told_timed_out}
use Rattle.transcript.specs.Ends.{told_of}
use Rattle.transcript.specs.Lines.{by_pieces, in_part, showing, shown_behind}
use Rattle.transcript.specs.Results.{first_not_done, is_good, shown_result, shown_not_done, values_in, word_before}
use Rattle.board_history.specs.History.{outcomes_by_client}
use Rattle.board_history.specs.Links.{LinkReport}
use Rattle.board_history.specs.LinkRuns.{AreRunsOver, IsAsTold, ShowsRounds}

module _ (rounds : ℕ) where
  -- ---- one piece

  answer_rounds : (one : Option Answer) → ShowsRounds rounds (answer_result one)
  answer_rounds None = tt
  answer_rounds (Some (answer.Values words)) = tt
  answer_rounds (Some answer.Done) = tt
  answer_rounds (Some (answer.Fault code after)) = tt
  answer_rounds (Some answer.Skipped) = tt

  told_rounds : (found : Option (List Answer)) (index : ℕ) → ShowsRounds rounds (told_at (told_by found) index)
  told_rounds None index = tt
  told_rounds (Some list) index = answer_rounds (slice_get list index)

  late_rounds : (body : List ℕ) (told : ℕ) (late : Option (List ℕ)) (index : ℕ) → told ≡ rounds
      → ShowsRounds rounds (told_at (told_timed_out body told late) index)
  late_rounds body told None index tells = tells
  late_rounds body told (Some words) index tells = tells

  outcome_rounds : (body : List ℕ) (outcome : Outcome) (late : Option (List ℕ)) (index : ℕ)
      → TellsRounds rounds outcome → ShowsRounds rounds (told_at (told_of body outcome late) index)
  outcome_rounds body (Replied place words) late index tells = told_rounds (answers body words) index
  outcome_rounds body (TimedOut place told) late index tells = late_rounds body told late index tells
  outcome_rounds body Unsent late index tells = tt
  outcome_rounds body (LinkLost place) late index tells = tt

  end_rounds : (bodies : List (List ℕ)) (outcomes : List Outcome) (lates : List (Option (List ℕ))) (k index : ℕ)
      → AllByRecursion (TellsRounds rounds) outcomes
      → ShowsRounds rounds (result_in (slice_get (ends_with bodies outcomes lates) k) index)
  end_rounds [] outcomes lates k index tells = tt
  end_rounds (body ∷ bodies) [] lates k index tells = tt
  end_rounds (body ∷ bodies) (o ∷ os) lates zero index tells =
      outcome_rounds body o (get_or lates 0 None) index tells.0
  end_rounds (body ∷ bodies) (o ∷ os) lates (suc k) index tells = end_rounds bodies os (drop 1 lates) k index tells.1

  pieces_rounds : (part : ClientPart) (pieces : List PieceAt) → AllByRecursion (TellsRounds rounds) part.outcomes
      → AllByRecursion (ShowsRounds rounds) (map (piece_result (ends_of part)) pieces)
  pieces_rounds part [] tells = tt
  pieces_rounds part (p ∷ ps) tells =
      (end_rounds part.planned.bodies part.outcomes part.lates p.body p.index tells, pieces_rounds part ps tells)

  -- ---- one operation

  before_rounds : (words : List ℕ) → ShowsRounds rounds (word_before words)
  before_rounds [] = tt
  before_rounds (word ∷ words) = tt

  shown_rounds : (v : Verb) (mask : ℕ) (words : List ℕ) → ShowsRounds rounds (shown_result v mask words)
  shown_rounds verb.Read mask words = tt
  shown_rounds verb.Write mask words = tt
  shown_rounds verb.ReadBlock mask words = tt
  shown_rounds verb.WriteBlock mask words = tt
  shown_rounds verb.RmwBits mask words = before_rounds words
  shown_rounds verb.RmwSum mask words = before_rounds words

  fault_rounds : (rs : List OpResult) (r : OpResult) → AllByRecursion (ShowsRounds rounds) rs
      → first_not_done rs ≡ Some r → ShowsRounds rounds r
  fault_rounds [] r all is = absurd cc
  fault_rounds (x ∷ xs) r all is =
      elim (cases_Bool (is_good x)) [
        | inl good ↦ fault_rounds xs r all.1 (rw good at is)
        | inr bad ↦
            (let same : Some x ≡ Some r = rw bad at is in subst (ShowsRounds rounds) (same_Some x r same) all.0)
      ]

  fault_shown : (v : Verb) (mask : ℕ) (r : OpResult) → ShowsRounds rounds r
      → ShowsRounds rounds (shown_not_done v mask r)
  fault_shown v mask (result.Late told answer) shows = shows
  fault_shown v mask other shows = shows

  by_fault : (v : Verb) (mask : ℕ) (rs : List OpResult) (found : Option OpResult)
      → AllByRecursion (ShowsRounds rounds) rs → first_not_done rs ≡ found
      → ShowsRounds rounds (unwrap_or (option_map (shown_not_done v mask) found) (shown_result v mask (flat_map values_in rs)))
  by_fault v mask rs (Some r) all is = fault_shown v mask r (fault_rounds rs r all is)
  by_fault v mask rs None all is = shown_rounds v mask (flat_map values_in rs)

  pieces_shown : (part : ClientPart) (op : RegOp) (pieces : Option (List PieceAt))
      → AllByRecursion (TellsRounds rounds) part.outcomes → ShowsRounds rounds (by_pieces part op pieces).0
  pieces_shown part op None tells = tt
  pieces_shown part op (Some pieces) tells =
      let rs = map (piece_result (ends_of part)) pieces in
      by_fault op.verb op.mask rs (first_not_done rs) (pieces_rounds part pieces tells) refl

  part_shown : (parts : List ClientPart) (client k : ℕ) (op : RegOp)
      → AllByRecursion (AllByRecursion (TellsRounds rounds)) (map (λ (part : ClientPart). part.outcomes) parts)
      → ShowsRounds rounds (in_part (slice_get parts client) k op).0
  part_shown [] client k op tells = tt
  part_shown (part ∷ parts) zero k op tells = pieces_shown part op (slice_get part.planned.pieces k) tells.0
  part_shown (part ∷ parts) (suc client) k op tells = part_shown parts client k op tells.1

  -- what is known of the outcomes on a board
  abbrev TellIfLive : BoardRun → Greeting → Type 0
  TellIfLive run (Live payload) = AllByRecursion (AllByRecursion (TellsRounds rounds)) (outcomes_by_client run)
  TellIfLive run Silent = Unit {0}
  TellIfLive run Down = Unit {0}

  shown_by : (run : BoardRun) (told : Greeting) (client k : ℕ) (op : RegOp) → run.greeting ≡ told → TellIfLive run told
      → ShowsRounds rounds (showing run client k op).0
  shown_by run (Live payload) client k op is tells = rw is (part_shown run.parts client k op tells)
  shown_by run Silent client k op is tells = rw is tt
  shown_by run Down client k op is tells = rw is tt

-- ---- a session

tells_over : (settings : Limits) (spec : BoardSpec) (run : BoardRun) (link : LinkReport) (told : Greeting)
    → IsAsTold settings spec run link told → TellIfLive settings.rounds run told
tells_over settings spec run link (Live payload) is = is.any_link.tells
tells_over settings spec run link Silent is = tt
tells_over settings spec run link Down is = tt

pub rounds_at : (settings : Limits) (board : ℕ) (specs : List BoardSpec) (scripts : List (List Step))
    (runs : List BoardRun) (links : List LinkReport) → AreRunsOver settings board specs scripts runs links
    → (at : ℕ) (run : BoardRun) → slice_get runs at ≡ Some run → (client k : ℕ) (op : RegOp)
    → ShowsRounds settings.rounds (showing run client k op).0
rounds_at settings board [] scripts [] [] is at run there client k op = absurd cc
rounds_at settings board [] scripts [] (l ∷ links) is at run there client k op = absurd is
rounds_at settings board [] scripts (r ∷ runs) links is at run there client k op = absurd is
rounds_at settings board (spec ∷ specs) scripts [] links is at run there client k op = absurd is
rounds_at settings board (spec ∷ specs) scripts (r ∷ runs) [] is at run there client k op = absurd is
rounds_at settings board (spec ∷ specs) scripts (r ∷ runs) (l ∷ links) is zero run there client k op =
    subst (λ (x : BoardRun). ShowsRounds settings.rounds (showing x client k op).0) (same_Some r run there)
    (shown_by settings.rounds r r.greeting client k op refl (tells_over settings spec r l r.greeting is.0.as_told))
rounds_at settings board (spec ∷ specs) scripts (r ∷ runs) (l ∷ links) is (suc at) run there client k op =
    rounds_at settings (board + 1) specs scripts runs links is.1 at run there client k op

-- an operation that a rule denies was not timed out
pub rounds_of_ask : (settings : Limits) (specs : List BoardSpec) (scripts : List (List Step)) (runs : List BoardRun)
    (links : List LinkReport) → AreRunsOver settings 0 specs scripts runs links
    → (run : BoardRun) (client : ℕ) (before : List Asked) (op : RegOp) (denied : Option ℕ)
    → slice_get runs op.board ≡ Some run
    → ShowsRounds settings.rounds (shown_behind run client before op denied).0
rounds_of_ask settings specs scripts runs links is run client before op None there =
    rounds_at settings 0 specs scripts runs links is op.board run there client (count_on op.board (allowed_operations before)) op
rounds_of_ask settings specs scripts runs links is run client before op (Some rule) there = tt
