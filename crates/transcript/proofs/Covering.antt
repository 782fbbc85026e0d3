-- Every operation has its line.
use Rattle.std.proofs.Common.{◌≡◌, ℕ, ◌+◌, length, map, List, [], ◌∷◌, ◌++◌, refl, ap, ◌∙◌, inl, inr, arith}
use Rattle.std.proofs.Common.{length-append}
use Rattle.std.specs.List.{AllByRecursion, range_with_len}
use Rattle.std.proofs.lemmas.Option.{slice_get_cases}
use Rattle.script_steps.specs.Rulings.{Asked, asked_operations}
use Rattle.script_steps.specs.declared.operation.Step.{Step}
use Rattle.script_plans.specs.declared.board_run.BoardRun.{BoardRun}
use Rattle.transcript.specs.declared.line.OpLine.{OpLine}
use Rattle.transcript.specs.Lines.{lines_behind, client_lines}
use Rattle.transcript.specs.Claims.{AreOnBoards, IsOnBoard}

numbers_behind : (runs : List BoardRun) (client : ℕ) (before asks : List Asked) → AllByRecursion (IsOnBoard runs) asks
    → map (λ (line : OpLine). line.number) (lines_behind runs client before asks)
    ≡ range_with_len (length before + 1) (length asks)
numbers_behind runs client before [] all = refl
numbers_behind runs client before (ask ∷ asks) all =
    elim (slice_get_cases runs ask.op.board).1 [
      | inl (run, within, at, again) ↦ rw at (
          let long : length (before ++ ask ∷ []) ≡ length before + 1 = omega (arith, length-append before (ask ∷ [])) in
          ap (λ numbers. (length before + 1) ∷ numbers)
          (numbers_behind runs client (before ++ ask ∷ []) asks all.1
          ∙ ap (λ n. range_with_len (n + 1) (length asks)) long)
          )
      | inr (past, none) ↦ absurd (omega (arith, all.0))
    ]

pub each_numbered : (runs : List BoardRun) (client : ℕ) (steps : List Step) → AreOnBoards runs steps
    → map (λ (line : OpLine). line.number) (client_lines runs client steps)
    ≡ range_with_len 1 (length (asked_operations steps))
each_numbered runs client steps all = numbers_behind runs client [] (asked_operations steps) all
