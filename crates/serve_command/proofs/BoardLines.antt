-- The line of a board tells the numbers of its answers.
use Rattle.std.proofs.Common.{◌≡◌, ℕ, suc, ◌+◌, Bool, List, [], ◌∷◌, map, Some, count_by}
use Rattle.std.proofs.Common.{refl, sym, ap, ap₂, ◌∙◌, subst, cond, arith, ◌++◌, append-nil}
use Rattle.std.specs.List.{AllByRecursion, flat_map, slice_get}
use Rattle.std.proofs.lemmas.List.Sums.{sum_by-append}
use Rattle.board_specs.specs.declared.spec.BoardSpec.{BoardSpec}
use Rattle.lane_record.specs.declared.outcome.Outcome.{Outcome}
use Rattle.lane_record.specs.Outcomes.{is_replied, is_sent, is_timed_out}
use Rattle.lane_record.specs.Submissions.{Submission}
use Rattle.hub_lane.specs.declared.answers.BoardState.{BoardState}
use Rattle.hub_lane.specs.declared.answers.BoardState.TheVariants as stands
use Rattle.script_plans.specs.declared.greeting.Greeting.{Greeting}
use Rattle.script_plans.specs.declared.greeting.Greeting.TheVariants.{Live, Silent, Down}
use Rattle.transcript.specs.declared.line.BoardLine.TheVariants as board_lines
use Rattle.transcript.specs.Lines.{board_line, is_lost}
use Rattle.board_history.proofs.Waits.{count_cons}
use Rattle.hub_session.specs.Codes.{replied_code, timed_out_code}
use Rattle.hub_session.specs.Exchanges.{Exchange, submissions_on}
use Rattle.client_history.specs.Boards.{ServedBoard, run_of}
use Rattle.client_history.specs.Connections.{outcomes_of}
use Rattle.session_serve.specs.Boards.{lines_of, states_of}
use Rattle.session_serve.specs.Connections.{Conversation, exchanges_of, submissions_to}
use Rattle.serve_command.specs.Answers.{AllTellAnswers, TellsAnswers, answers_by, has_code_at}
use Rattle.serve_command.proofs.Asked.{AreAsked}
use Rattle.serve_command.proofs.AtLane.{coded_are}
use Rattle.serve_command.proofs.Counting.{IsCodeOf, replied_is, timed_out_is}
use Rattle.serve_command.proofs.EachBoard.{AskedOf, submitted, told_at}
use Rattle.serve_command.proofs.Lanes.{lane_at, one_place}
use Rattle.serve_command.proofs.Whole.{IsAllAnswered}

abbrev pub LineLaw : Type 0
LineLaw = (spec : BoardSpec) (served : ServedBoard) (payload : ℕ) → served.told ≡ Live payload
    → board_line (run_of spec served) ≡ board_lines.Live spec.name
    (count_by is_sent (flat_map outcomes_of served.connections))
    (count_by is_replied (flat_map outcomes_of served.connections))
    (count_by is_timed_out (flat_map outcomes_of served.connections))
    (count_by is_lost (flat_map outcomes_of served.connections))

module _ (law : LineLaw) (boards : List ServedBoard) (conversations : List Conversation)
    (whole : AllByRecursion IsAllAnswered conversations)
    (all_asked : AllByRecursion (AreAsked (states_of boards)) conversations)
    (asked : AskedOf boards conversations) where
  abbrev states : List BoardState
  states = states_of boards

  -- of a board at a position that has this lane
  module _ (kind : Outcome → Bool) (code position lane : ℕ) (is : IsCodeOf kind code)
      (here : slice_get states position ≡ Some (stands.Lane lane)) where
    alone : (at : ℕ) → slice_get states at ≡ Some (stands.Lane lane) → at ≡ position
    alone at there = one_place 0 (map (λ (b : ServedBoard). b.told) boards) at position lane there here

    of_submissions : (s : List Submission)
        → count_by kind (outcomes_of s) ≡ count_by (λ (x : Submission). kind x.outcome) s
    of_submissions [] = refl
    of_submissions (x ∷ xs) =
        count_cons kind x.outcome (outcomes_of xs)
        ∙ ap (λ (n : ℕ). cond (kind x.outcome) 1 0 + n) (of_submissions xs)
        ∙ sym (count_cons (λ (y : Submission). kind y.outcome) x xs)

    one_counted : (c : Conversation) → IsAllAnswered c → AreAsked states c
        → count_by kind (outcomes_of (submissions_to states (stands.Lane lane) c))
        ≡ count_by (has_code_at code position states) c.answered
    one_counted c all asked =
        of_submissions (submissions_on states lane (exchanges_of c))
        ∙ sym (coded_are states position lane here alone code kind is (exchanges_of c) asked)
        ∙ ap (count_by (has_code_at code position states))
        (ap (λ (es : List Exchange). c.answered ++ es) all ∙ append-nil c.answered)

    all_counted : (cs : List Conversation) → AllByRecursion IsAllAnswered cs → AllByRecursion (AreAsked states) cs
        → count_by kind (flat_map outcomes_of (map (submissions_to states (stands.Lane lane)) cs))
        ≡ answers_by code position states cs
    all_counted [] all asked = refl
    all_counted (c ∷ cs) all asked =
        sum_by-append (λ (o : Outcome). cond (kind o) 1 0) (outcomes_of (submissions_to states (stands.Lane lane) c))
        (flat_map outcomes_of (map (submissions_to states (stands.Lane lane)) cs))
        ∙ ap₂ (λ (m n : ℕ). m + n) (one_counted c all.0 asked.0) (all_counted cs all.1 asked.1)

  counts : (position lane : ℕ) (b : ServedBoard) (kind : Outcome → Bool) (code : ℕ) → IsCodeOf kind code
      → slice_get boards position ≡ Some b → slice_get states position ≡ Some (stands.Lane lane)
      → count_by kind (flat_map outcomes_of b.connections) ≡ answers_by code position states conversations
  counts position lane b kind code is at here =
      ap (λ cs. count_by kind (flat_map outcomes_of cs))
      (submitted boards conversations asked position (stands.Lane lane) b at here)
      ∙ all_counted kind code position lane is here conversations whole all_asked

  tells_by : (position : ℕ) (spec : BoardSpec) (b : ServedBoard) (told : Greeting) → b.told ≡ told
      → slice_get boards position ≡ Some b
      → TellsAnswers states conversations position (board_line (run_of spec b))
  tells_by position spec b (Live payload) greeted at =
      let lane = lane_at 0 (map (λ (c : ServedBoard). c.told) boards) position payload
      (told_at boards position b (Live payload) at greeted) in
      subst (TellsAnswers states conversations position) (sym (law spec b payload greeted)) (
        counts position lane.0 b is_replied replied_code replied_is at lane.1,
        counts position lane.0 b is_timed_out timed_out_code timed_out_is at lane.1,
      )
  tells_by position spec b Silent greeted at = rw greeted tt
  tells_by position spec b Down greeted at = rw greeted tt

  pub all_tell : (position : ℕ) (specs : List BoardSpec) (later : List ServedBoard)
      → ((i : ℕ) (b : ServedBoard) → slice_get later i ≡ Some b → slice_get boards (position + i) ≡ Some b)
      → AllTellAnswers states conversations position (lines_of specs later)
  all_tell position [] later at = tt
  all_tell position (spec ∷ specs) [] at = tt
  all_tell position (spec ∷ specs) (b ∷ later) at =
      let zeroth : position + 0 ≡ position = omega arith in (
        tells_by position spec b b.told refl
            (subst (λ (n : ℕ). slice_get boards n ≡ Some b) zeroth (at 0 b refl)),
        all_tell (position + 1) specs later
            (λ i c there.
            let next : position + suc i ≡ position + 1 + i = omega arith in
            subst (λ (n : ℕ). slice_get boards n ≡ Some c) next (at (suc i) c there)),
      )
