-- What the line of an operation would show, had its board replied in time.
use Rattle.std.proofs.Common.{◌≡◌, ◌==◌, ◌&&◌, ◌+◌, ◌<◌, ◌∙◌, ℕ, zero, suc, Bool, true, false, List, [], ◌∷◌, ◌++◌, Option, Some, None}
use Rattle.std.proofs.Common.{ap, arith, cond, get_or, length, map, not, refl, subst, sym}
use Rattle.std.specs.Prelude.{IsSomeAnd, MatchOption, is_none, option_map}
use Rattle.std.specs.List.{AllByRecursion, AllZip, flat_map, position, position_or_len, slice_get}
use Rattle.std.proofs.lemmas.Bool.{and_from, eq-eqb, eqb-true, lt-ltb}
use Rattle.std.proofs.lemmas.List.Quantifiers.{position-Some}
use Rattle.std.proofs.lemmas.Option.{none-some, same_Some, slice_get-get_or, slice_get-map, slice_get_within}
use Rattle.std.proofs.lemmas.Slice.Zip.{AllZip-left}
use Rattle.board_specs.specs.declared.spec.BoardSpec.{BoardSpec}
use Rattle.ipb_base.proofs.AllLemmas.{AllByRecursion-append}
use Rattle.script_plans.specs.declared.board_run.BoardRun.{BoardRun}
use Rattle.script_plans.specs.declared.greeting.Greeting.{Greeting}
use Rattle.script_steps.specs.declared.operation.Step.{Step}
use Rattle.script_steps.specs.Rulings.{Asked, asked_operations}
use Rattle.transcript.specs.declared.line.BoardLine.{BoardLine}
use Rattle.transcript.specs.declared.line.OpLine.{OpLine}
use Rattle.transcript.specs.declared.line.OpResult.{OpResult}
use Rattle.transcript.specs.Lines.{Showing, lines_from}
use Rattle.transcript_reader.specs.declared.shown.Shown.{Shown}
use Rattle.transcript_reader.specs.Entries.{CanShowIn, IsLineOf}
use Rattle.transcript_reader.specs.Shown.{CanShowAll, greetings_in}
use Rattle.run_audit.specs.declared.asking.AskedOp.{AskedOp}
use Rattle.run_audit.specs.AskedLines as session
use Rattle.run_audit.specs.AskedLines.{AskedLine, asked_lines}
use Rattle.run_audit.specs.Agreeing.{IsLineBeside}
use Rattle.run_audit.specs.Replay.{replay_of_board}
use Rattle.run_audit.specs.Replaying.{AreReplayed}
use Rattle.run_audit.specs.Results.{IsInTime}
use Rattle.run_audit.specs.Steps.{asking, replays_from}
use Rattle.run_audit.proofs.Aligned.{replay_beside}

-- ---- the first that passes a test

one_on : (b : Bool) (n m : ℕ) → n < m → cond (not b) (1 + n) 0 < suc m
one_on true n m less = omega arith
one_on false n m less = omega arith

module _ {A : Type 0} (p : A → Bool) where
  -- one that passes is not behind the first
  before_end : (xs : List A) (k : ℕ) (x : A) → slice_get xs k ≡ Some x → p x ≡ true
      → position_or_len p xs < length xs
  before_end [] k x there passes = absurd (omega (arith, slice_get_within [] k x there))
  before_end (y ∷ xs) zero x there passes =
      let first : p y ≡ true = ap p (same_Some y x there) ∙ passes in
      rw first (omega arith)
  before_end (y ∷ xs) (suc k) x there passes =
      one_on (p y) (position_or_len p xs) (length xs) (before_end xs k x there passes)

  none_passes : (xs : List A) → position p xs ≡ None → (k : ℕ) (x : A) → slice_get xs k ≡ Some x → p x ≡ true → ⊥
  none_passes xs none k x there passes =
      none-some (position_or_len p xs) (sym none ∙ ap (λ b. cond b (Some (position_or_len p xs)) None)
      (lt-ltb (position_or_len p xs) (length xs) (before_end xs k x there passes)))

  this_passes : (xs : List A) (k : ℕ) → position p xs ≡ Some k → (x : A) × (slice_get xs k ≡ Some x) × (p x ≡ true)
  this_passes [] k found = absurd (none-some k found)
  this_passes (y ∷ xs) k found =
      let at = position-Some p (y ∷ xs) k y found in
      (get_or (y ∷ xs) k y, slice_get-get_or (y ∷ xs) k y at.0, at.1)

-- ---- the operation of a line that no rule denies

abbrev is_allowed_in : ℕ → AskedOp → Bool
is_allowed_in line op = op.line == line && is_none op.denied

allowed_and : (same : Bool) (denied : Option ℕ) → (same && is_none denied) ≡ true → (same ≡ true) × (denied ≡ None)
allowed_and true None both = (refl, refl)
allowed_and true (Some rule) both = (cc, cc)
allowed_and false denied both = (cc, cc)

both_hold : (line number : ℕ) (denied : Option ℕ) → (number == line && is_none denied) ≡ true
    → (number ≡ line) × (denied ≡ None)
both_hold line number denied both =
    let each = allowed_and (number == line) denied both in
    (eqb-true number line each.0, each.1)

hold_both : (line number : ℕ) (denied : Option ℕ) → number ≡ line → denied ≡ None
    → (number == line && is_none denied) ≡ true
hold_both line number denied same none =
    and_from (number == line) (is_none denied) (eq-eqb number line same) (ap is_none none)

-- what the code keeps of one of them
kept : (ops : List AskedOp) (k : ℕ) (one : AskedLine) → slice_get (map asking ops) k ≡ Some one
    → (op : AskedOp) × (slice_get ops k ≡ Some op) × (asking op ≡ one)
kept [] k one there = absurd (omega (arith, slice_get_within [] k one there))
kept (op ∷ ops) zero one there = (op, refl, same_Some (asking op) one there)
kept (op ∷ ops) (suc k) one there = kept ops k one there

pub none_allowed : (ops : List AskedOp) (boards : List BoardSpec) (scripts : List (List Step)) (shown : Shown) (line : ℕ)
    (result : OpResult) → position (is_allowed_in line) ops ≡ None → map asking ops ≡ asked_lines scripts shown
    → ¬ IsInTime boards scripts shown line result
none_allowed ops boards scripts shown line result none all is =
    let there : slice_get (map asking ops) is.at ≡ Some is.asking = ap (λ l. slice_get l is.at) all ∙ is.there in
    let one = kept ops is.at is.asking there in
    none_passes (is_allowed_in line) ops none is.at one.0 one.1
    (hold_both line one.0.line one.0.denied (ap (λ (a : AskedLine). a.line) one.2 ∙ is.here)
    (ap (λ (a : AskedLine). a.ask.denied) one.2 ∙ is.allowed'))

-- ---- the boards of operations are there

abbrev IsOn : List BoardSpec → AskedLine → Type 0
IsOn boards one = (spec : BoardSpec) × (slice_get boards one.ask.op.board ≡ Some spec)

present : {A : Type 0} (xs : List A) (k : ℕ) → k < length xs → (x : A) × (slice_get xs k ≡ Some x)
present [] k within = absurd (omega arith)
present (x ∷ xs) zero within = (x, refl)
present (x ∷ xs) (suc k) within = present xs k (omega arith)

each_told : (boards : List BoardSpec) (lines : List BoardLine) → AllZip IsLineOf boards lines
    → length (greetings_in boards lines) ≡ length boards
each_told [] [] all = refl
each_told [] (line ∷ lines) all = absurd all
each_told (spec ∷ boards) [] all = absurd all
each_told (spec ∷ boards) (line ∷ lines) all = ap suc (each_told boards lines all.1)

module _ (boards : List BoardSpec) (told : List Greeting) (level : length told ≡ length boards) where
  client_on : (line client : ℕ) (before asks : List Asked) (shows : List Showing) → AllZip (CanShowIn told) asks shows
      → AllByRecursion (IsOn boards) (session.asked_behind line client before asks shows)
  client_on line client before [] shows all = tt
  client_on line client before (ask ∷ asks) [] all = absurd all
  client_on line client before (ask ∷ asks) (first ∷ shows) all =
      let within = slice_get_within told ask.op.board all.0.0 all.0.1 in
      (present boards ask.op.board (omega arith), client_on (line + 1) client (before ++ ask ∷ []) asks shows all.1)

  all_on : (line client : ℕ) (scripts : List (List Step)) (clients : List (List Showing))
      → AllZip (CanShowAll told) scripts clients
      → AllByRecursion (IsOn boards) (session.asked_from line client scripts clients)
  all_on line client [] clients all = tt
  all_on line client (steps ∷ scripts) [] all = absurd all
  all_on line client (steps ∷ scripts) (shows ∷ clients) all =
      AllByRecursion-append (IsOn boards) (session.asked_behind (line + 1) client [] (asked_operations steps) shows)
      (session.asked_from (line + 1 + length (asked_operations steps)) (client + 1) scripts clients)
      (client_on (line + 1) client [] (asked_operations steps) shows all.0)
      (all_on (line + 1 + length (asked_operations steps)) (client + 1) scripts clients all.1)

one_of_all : {A : Type 0} (P : A → Type 0) (xs : List A) (k : ℕ) (x : A) → AllByRecursion P xs → slice_get xs k ≡ Some x
    → P x
one_of_all P [] k x all there = absurd (omega (arith, slice_get_within [] k x there))
one_of_all P (y ∷ xs) zero x all there = subst P (same_Some y x there) all.0
one_of_all P (y ∷ xs) (suc k) x all there = one_of_all P xs k x all.1 there

-- ---- the runs of boards

run_at : (boards : List BoardSpec) (scripts : List (List Step)) (lines : List AskedLine) (board : ℕ)
    (specs : List BoardSpec) (k : ℕ) (spec : BoardSpec) → slice_get specs k ≡ Some spec
    → slice_get (replays_from boards scripts lines board specs) k ≡ Some (replay_of_board boards scripts lines spec (board + k))
run_at boards scripts lines board [] k spec there = absurd (omega (arith, slice_get_within [] k spec there))
run_at boards scripts lines board (first ∷ specs) zero spec there =
    let same : board ≡ board + 0 = omega arith in
    ap (λ s. Some (replay_of_board boards scripts lines s board)) (same_Some first spec there)
    ∙ ap (λ b. Some (replay_of_board boards scripts lines spec b)) same
run_at boards scripts lines board (first ∷ specs) (suc k) spec there =
    let same : board + 1 + k ≡ board + suc k = omega arith in
    run_at boards scripts lines (board + 1) specs k spec there
    ∙ ap (λ b. Some (replay_of_board boards scripts lines spec b)) same

-- ---- the line of the replay

module _ (boards : List BoardSpec) (scripts : List (List Step)) (shown : Shown) (line : ℕ) where
  abbrev pub IsTold : Option OpResult → Type 0
  IsTold found = MatchOption found ((result : OpResult) → ¬ IsInTime boards scripts shown line result)
      (IsInTime boards scripts shown line)

  told_beside : (runs : List BoardRun) (at : ℕ) (one : AskedLine) → AreReplayed boards scripts shown runs (asked_lines scripts shown)
      → slice_get (asked_lines scripts shown) at ≡ Some one → one.line ≡ line → one.ask.denied ≡ None
      → (found : Option OpLine) → IsSomeAnd found (IsLineBeside runs one)
      → IsTold (option_map (λ (l : OpLine). l.result) found)
  told_beside runs at one are there here free None beside = absurd beside
  told_beside runs at one are there here free (Some told) beside =
      let level = each_told boards shown.boards are.boards' in
      let on = one_of_all (IsOn boards) (asked_lines scripts shown) at one
      (all_on boards (greetings_in boards shown.boards) level 1 0 scripts shown.clients are.clients') there in
      let counted : 0 + one.ask.op.board ≡ one.ask.op.board = omega arith in
      record {
        at = at;
        asking = one;
        there = there;
        here = here;
        allowed' = free;
        spec = on.0;
        on = on.1;
        same = beside (replay_of_board boards scripts (asked_lines scripts shown) on.0 one.ask.op.board)
            (ap (λ r. slice_get r one.ask.op.board) are.runs'
            ∙ run_at boards scripts (asked_lines scripts shown) 0 boards one.ask.op.board on.0 on.1
            ∙ ap (λ b. Some (replay_of_board boards scripts (asked_lines scripts shown) on.0 b)) counted) free;
      }

  pub told_in_time : (runs : List BoardRun) (ops : List AskedOp) (all : List OpLine) (at : ℕ)
      → AreReplayed boards scripts shown runs (map asking ops) → position (is_allowed_in line) ops ≡ Some at
      → all ≡ flat_map (λ lines. lines) (lines_from runs 0 scripts)
      → IsTold (option_map (λ (l : OpLine). l.result) (slice_get all at))
  told_in_time runs ops all at are found same =
      let op = this_passes (is_allowed_in line) ops at found in
      let is = both_hold line op.0.line op.0.denied op.2 in
      let there : slice_get (map asking ops) at ≡ Some (asking op.0) =
      slice_get-map asking ops at ∙ ap (option_map asking) op.1 in
      let zip = AllZip-left (IsLineBeside runs) (map asking ops) (flat_map (λ lines. lines) (lines_from runs 0 scripts))
      (replay_beside boards scripts shown runs (map asking ops) are) at in
      let beside : IsSomeAnd (slice_get all at) (IsLineBeside runs (asking op.0)) =
      subst (λ l. IsSomeAnd (slice_get l at) (IsLineBeside runs (asking op.0))) (sym same)
      (subst (λ o. MatchOption o (Unit {0})
      (λ x. IsSomeAnd (slice_get (flat_map (λ lines. lines) (lines_from runs 0 scripts)) at) (IsLineBeside runs x)))
      there zip) in
      told_beside runs at (asking op.0)
      (subst (λ l. AreReplayed boards scripts shown runs l) are.lines' are)
      (ap (λ l. slice_get l at) (sym are.lines') ∙ there) is.0 is.1 (slice_get all at) beside
