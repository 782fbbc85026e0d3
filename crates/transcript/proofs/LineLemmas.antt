-- The lines of a client, operation by operation.
use Rattle.std.proofs.Common.{◌≡◌, ℕ, suc, ◌+◌, ◌<◌, ◌≤◌, ◌==◌, cond, length, get_or, take, drop, List, [], ◌∷◌, ◌++◌}
use Rattle.std.proofs.Common.{sym, ap, ◌∙◌, inl, inr, arith, zero-add, append_assoc, append-nil, add-one, drop-cons}
use Rattle.std.proofs.Common.{length-append, length-set}
use Rattle.std.specs.List.{slice_get}
use Rattle.std.specs.Option.{option_map}
use Rattle.std.specs.Prelude.{Option, Some, None, option_to_list, slice_index}
use Rattle.std.proofs.lemmas.Bool.{cases_eq, cases_lt}
use Rattle.std.proofs.lemmas.Bool.Decides.{nat_tests}
use Rattle.std.proofs.lemmas.Grind.{get_or-set_at}
use Rattle.std.proofs.lemmas.List.{drop_all, get_or_past, take_more, get_or-set_other}
use Rattle.std.proofs.lemmas.List.Elements.{filter_map-append}
use Rattle.std.proofs.lemmas.List.Sums.{count_by-le-length}
use Rattle.std.proofs.lemmas.Option.{slice_get_cases}
use Rattle.script_steps.specs.declared.operation.RegOp.{RegOp}
use Rattle.script_steps.specs.declared.operation.Step.{Step}
use Rattle.script_steps.specs.declared.operation.Step.TheVariants.{Do, Denied, Dispatch}
use Rattle.script_steps.specs.Rulings.{Asked, asked_in, asked_operations, allowed_operations}
use Rattle.script_plans.specs.declared.board_run.BoardRun.{BoardRun}
use Rattle.transcript.specs.declared.line.OpLine.{OpLine}
use Rattle.script_plans.specs.Plan.{count_on}
use Rattle.transcript.proofs.Allowed.{allowed-append}
use Rattle.transcript.specs.Lines.{client_lines, line_of, lines_behind}
use Rattle.transcript.specs.Steps.{AreBelow, denied_line, line_on, one_more_at, IsProgress}
use Rattle.script_plans.proofs.Covering.{count_by-append}

-- the count at a place that is raised, and at the others
bumped_at : (counts : List ℕ) (at b : ℕ) → b < length counts
    → slice_index (one_more_at at counts) b ≡ slice_index counts b + cond (at == b) 1 0
bumped_at counts at b within =
    elim (cases_eq b at) [
      | inl same ↦ grind (arith, nat_tests, get_or-set_at counts at b (get_or counts at 0 + 1) 0 same)
      | inr other ↦ grind (arith, nat_tests, get_or-set_other counts at b (get_or counts at 0 + 1) 0 other)
    ]

-- ---- allowed operations

few_more : (found : Option ℕ) (op : RegOp) (asks : List Asked) (n : ℕ) → length (allowed_operations asks) ≤ n
    → length (allowed_operations (record { op = op; denied = found } ∷ asks)) ≤ suc n
few_more None op asks n few = omega arith
few_more (Some rule) op asks n few = omega arith

-- the operations that are not denied are no more than all
few_allowed : (asks : List Asked) → length (allowed_operations asks) ≤ length asks
few_allowed [] = omega arith
few_allowed (ask ∷ asks) = few_more ask.denied ask.op asks (length asks) (few_allowed asks)

-- ---- one step more

module _ (steps : List Step) (i : ℕ) (step : Step) (within : i < length steps) (is : step ≡ get_or steps i step) where
  pub asked_taken : asked_operations (take (i + 1) steps)
      ≡ asked_operations (take i steps) ++ asked_operations (step ∷ [])
  asked_taken =
      ap asked_operations (take_more steps i step within)
      ∙ (filter_map-append asked_in (take i steps) (get_or steps i step ∷ [])
      ∙ ap (λ s. asked_operations (take i steps) ++ asked_operations (s ∷ [])) (sym is))

  pub asked_left : asked_operations (drop i steps)
      ≡ asked_operations (step ∷ []) ++ asked_operations (drop (i + 1) steps)
  asked_left =
      ap asked_operations (drop-cons steps i step within ∙ ap (λ s. s ∷ drop (suc i) steps) (sym is))
      ∙ (filter_map-append asked_in (step ∷ []) (drop (suc i) steps) ∙ rw add-one)

-- the line of an operation behind others is the one by their number and count
same_line : (runs : List BoardRun) (client number k : ℕ) (before : List Asked) (op : RegOp) → number ≡ length before
    → (op.board < length runs → k ≡ count_on op.board (allowed_operations before))
    → option_map (line_on client (number + 1) k op) (slice_get runs op.board)
    ≡ option_map (line_of client before (record { op = op; denied = None })) (slice_get runs op.board)
same_line runs client number k before op same count =
    elim (slice_get_cases runs op.board).1 [
      | inl (run, within, at, again) ↦ rw at (rw (same, count within))
      | inr (past, none) ↦ rw none
    ]

module _ (runs : List BoardRun) (client : ℕ) (steps : List Step) (i : ℕ) (made : List OpLine) (number : ℕ)
    (counts : List ℕ) (so_far : IsProgress runs client steps i made number counts) where
  -- no board has more operations than are counted
  pub counts_below : AreBelow number counts
  counts_below b =
      elim (cases_lt b (length runs)) [
        | inl there ↦ omega (
          arith,
          so_far.counts' b there,
          so_far.operations',
          count_by-le-length (λ (o : RegOp). o.board == b) (allowed_operations (asked_operations (take i steps))),
          few_allowed (asked_operations (take i steps)),
        )
        | inr past ↦ omega (arith, get_or_past counts b 0 (omega (arith, so_far.boards)))
      ]

  -- behind the last step there are all lines
  pub lines_at_end : length steps ≤ i → made ≡ client_lines runs client steps
  lines_at_end past =
      sym (append-nil made)
      ∙ (ap (λ left. made ++ lines_behind runs client (asked_operations (take i steps)) (asked_operations left))
      (sym (drop_all i steps past)) ∙ so_far.lines)

  module _ (step : Step) (within : i < length steps) (is : step ≡ get_or steps i step) where
    -- a dispatch is no operation
    pub after_dispatch : step ≡ Dispatch → IsProgress runs client steps (i + 1) made number counts
    after_dispatch none =
        let before : asked_operations (take (i + 1) steps) ≡ asked_operations (take i steps) =
        asked_taken steps i step within is
        ∙ (ap (λ s. asked_operations (take i steps) ++ asked_operations (s ∷ [])) none ∙ append-nil _) in
        let rest : asked_operations (drop i steps) ≡ asked_operations (drop (i + 1) steps) =
        asked_left steps i step within is
        ∙ ap (λ s. asked_operations (s ∷ []) ++ asked_operations (drop (i + 1) steps)) none in
        record {
          lines = rw (before, ← rest) so_far.lines;
          operations' = rw before so_far.operations';
          boards = so_far.boards;
          counts' = rw before so_far.counts';
        }

    module _ (ask : Asked) (asks : asked_operations (step ∷ []) ≡ ask ∷ []) where
      before : asked_operations (take (i + 1) steps) ≡ asked_operations (take i steps) ++ ask ∷ []
      before =
          asked_taken steps i step within is
          ∙ ap (λ (more : List Asked). asked_operations (take i steps) ++ more) asks

      rest : asked_operations (drop i steps) ≡ ask ∷ asked_operations (drop (i + 1) steps)
      rest =
          asked_left steps i step within is
          ∙ ap (λ (more : List Asked). more ++ asked_operations (drop (i + 1) steps)) asks

      one_more : number + 1 ≡ length (asked_operations (take (i + 1) steps))
      one_more = rw (before, length-append) (omega (arith, so_far.operations'))

      -- with the line of the operation, where its board is there
      line_more : (made ++ option_to_list (option_map (line_of client (asked_operations (take i steps)) ask)
          (slice_get runs ask.op.board))) ++ lines_behind runs client (asked_operations (take (i + 1) steps))
          (asked_operations (drop (i + 1) steps)) ≡ client_lines runs client steps
      line_more = rw (before, append_assoc) (rw rest at so_far.lines)

    -- an operation has the next line
    pub after_operation : (op : RegOp) → step ≡ Do op
        → IsProgress runs client steps (i + 1)
        (made ++ option_to_list (option_map (line_on client (number + 1) (slice_index counts op.board) op)
        (slice_get runs op.board)))
        (number + 1) (one_more_at op.board counts)
    after_operation op does =
        let ask : Asked = record { op = op; denied = None } in
        let asks : asked_operations (step ∷ []) ≡ ask ∷ [] = ap (λ s. asked_operations (s ∷ [])) does in
        let counted : allowed_operations (asked_operations (take (i + 1) steps)) ≡ allowed_operations (asked_operations (take i steps)) ++ op ∷ [] =
        ap allowed_operations (before ask asks) ∙ allowed-append (asked_operations (take i steps)) (ask ∷ []) in
        record {
          lines =
              rw (same_line runs client number (slice_index counts op.board) (asked_operations (take i steps)) op
              so_far.operations' (so_far.counts' op.board)) (line_more ask asks);
          operations' = one_more ask asks;
          boards = length-set counts _ _ ∙ so_far.boards;
          counts' = λ b there. rw counted (
              bumped_at counts op.board b (omega (arith, so_far.boards))
              ∙ (ap (λ n. n + cond (op.board == b) 1 0) (so_far.counts' b there)
              ∙ (ap (λ n. count_on b (allowed_operations (asked_operations (take i steps))) + n) (sym (zero-add (cond (op.board == b) 1 0)))
              ∙ sym (count_by-append (λ (o : RegOp). o.board == b) (allowed_operations (asked_operations (take i steps))) (op ∷ []))))
              );
        }

    -- one that is denied has the next line too, and is counted on no board
    pub after_denied : (rule : ℕ) (op : RegOp) → step ≡ Denied rule op
        → IsProgress runs client steps (i + 1)
        (made ++ option_to_list (option_map (denied_line (number + 1) op rule) (slice_get runs op.board)))
        (number + 1) counts
    after_denied rule op denies =
        let ask : Asked = record { op = op; denied = Some rule } in
        let asks : asked_operations (step ∷ []) ≡ ask ∷ [] = ap (λ s. asked_operations (s ∷ [])) denies in
        let counted : allowed_operations (asked_operations (take (i + 1) steps)) ≡ allowed_operations (asked_operations (take i steps)) =
        ap allowed_operations (before ask asks) ∙ (allowed-append (asked_operations (take i steps)) (ask ∷ []) ∙ append-nil _) in
        record {
          lines = rw so_far.operations' (line_more ask asks);
          operations' = one_more ask asks;
          boards = so_far.boards;
          counts' = rw counted so_far.counts';
        }
