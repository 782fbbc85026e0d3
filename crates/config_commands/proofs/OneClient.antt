-- The steps of one client are those of the first, and so are its lines.
use Rattle.std.proofs.Common.{◌≡◌, ◌<◌, List, [], ◌∷◌, length, get_or, map, arith}
use Rattle.script_steps.specs.declared.operation.Step.{Step}
use Rattle.script_plans.specs.declared.board_run.BoardRun.{BoardRun}
use Rattle.transcript.specs.declared.line.OpLine.{OpLine}
use Rattle.transcript.specs.Lines.{client_lines, lines_from}
use Rattle.config_commands.specs.Steps.{first_of}

module _ {A : Type 0} (lines : A → List OpLine) (runs : List BoardRun) where
  pub some_client : (clients : List A) (steps : List (List Step)) → map lines clients ≡ lines_from runs 0 steps
      → length steps ≡ 1 → 0 < length clients
  some_client clients [] are alone = absurd cc
  some_client [] (one ∷ steps) are alone = absurd cc
  some_client (client ∷ clients) (one ∷ steps) are alone = omega arith

  pub first_lines : (clients : List A) (steps : List (List Step)) (d : A) → map lines clients ≡ lines_from runs 0 steps
      → length steps ≡ 1 → lines (get_or clients 0 d) ≡ client_lines runs 0 (first_of steps)
  first_lines clients [] d are alone = absurd cc
  first_lines [] (one ∷ steps) d are alone = absurd cc
  first_lines (client ∷ clients) (one ∷ steps) d are alone = cc
