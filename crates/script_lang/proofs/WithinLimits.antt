-- Scripts without faults have together no more operations, and no more words in them, than a session may have.
use Rattle.std.proofs.Common.{◌≡◌, ℕ, ◌+◌, ◌≤◌, suc, List, [], ◌∷◌, length, sum_by, Some, None, Ok, Err, refl, ap, ◌∙◌}
use Rattle.std.proofs.Common.{arith}
use Rattle.std.proofs.lemmas.List.Sums.{sum_by-append}
use Rattle.std.proofs.Math.ListN.{length-append}
use Rattle.board_specs.specs.declared.spec.BoardSpec.{BoardSpec}
use Rattle.node_tree.specs.Maps.{RegisterMap}
use Rattle.transaction_codec.specs.Request.{op_count}
use Rattle.script_steps.specs.declared.operation.Step.{Step}
use Rattle.script_steps.specs.declared.operation.Step.TheVariants.{Do, Denied, Dispatch}
use Rattle.script_steps.specs.Packing.{AreWithinLimits, all_operations, operations}
use Rattle.script_lang.specs.Scripts.{Meaning, ScriptLine, all_lines, block_words_in, count_in, count_of}
use Rattle.script_lang.specs.Scripts.{line_meaning, lines_from, operations_in, script_faults, steps_from, steps_of}
use Rattle.script_lang.proofs.FewPieces.{count_more, same_count, steps_in, total, within}

module _ (boards : List BoardSpec) (indexes : List RegisterMap) where
  abbrev count : List ScriptLine → ℕ
  count lines = count_of boards indexes operations_in lines

  abbrev words : List ScriptLine → ℕ
  words lines = count_of boards indexes block_words_in lines

  line_operations : (line : ScriptLine) (lines : List ScriptLine) (m : Meaning)
      → line_meaning boards indexes line ≡ m
      → length (operations (steps_in boards indexes lines)) ≤ count lines
      → length (operations (steps_in boards indexes (line ∷ lines))) ≤ count (line ∷ lines)
  line_operations line lines (Err why) is rest = rw is (omega (arith, rest))
  line_operations line lines (Ok None) is rest = rw is (omega (arith, rest))
  line_operations line lines (Ok (Some Dispatch)) is rest = rw is (omega (arith, rest))
  line_operations line lines (Ok (Some (Denied rule op))) is rest =
      let one : count (line ∷ lines) ≡ 1 + count lines = count_more boards indexes operations_in line lines ∙ rw is refl
      in
      let steps : steps_in boards indexes (line ∷ lines) ≡ Denied rule op ∷ steps_in boards indexes lines = rw is refl in
      let same : length (operations (steps_in boards indexes (line ∷ lines)))
      ≡ length (operations (steps_in boards indexes lines)) =
      ap (λ (all : List Step). length (operations all)) steps in
      omega (arith, rest, one, same)
  line_operations line lines (Ok (Some (Do op))) is rest =
      let one : count (line ∷ lines) ≡ 1 + count lines = count_more boards indexes operations_in line lines ∙ rw is refl
      in
      let steps : steps_in boards indexes (line ∷ lines) ≡ Do op ∷ steps_in boards indexes lines = rw is refl in
      let more : length (operations (steps_in boards indexes (line ∷ lines)))
      ≡ suc (length (operations (steps_in boards indexes lines))) =
      ap (λ (all : List Step). length (operations all)) steps in
      omega (arith, rest, one, more)

  -- the operations of the steps of some lines
  few_operations : (lines : List ScriptLine) → length (operations (steps_in boards indexes lines)) ≤ count lines
  few_operations [] = omega arith
  few_operations (line ∷ lines) =
      line_operations line lines (line_meaning boards indexes line) refl (few_operations lines)

  -- those of all clients
  all_counts : (client : ℕ) (scripts : List (List (List ℕ)))
      → length (all_operations (steps_of boards indexes scripts)) ≤ count (all_lines client scripts)
  all_counts client [] = omega arith
  all_counts client (script ∷ scripts) =
      let here = operations (steps_from boards indexes 1 script) in
      let others = all_operations (steps_of boards indexes scripts) in
      omega (
        arith,
        length-append here others,
        few_operations (lines_from 1 1 script),
        same_count boards indexes operations_in client 1 1 script,
        all_counts (client + 1) scripts,
        sum_by-append (λ line. count_in operations_in (line_meaning boards indexes line)) (lines_from client 1 script)
            (all_lines (client + 1) scripts),
      )

  all_words : (client : ℕ) (scripts : List (List (List ℕ)))
      → sum_by op_count (all_operations (steps_of boards indexes scripts))
      ≤ count (all_lines client scripts) + words (all_lines client scripts)
  all_words client [] = omega arith
  all_words client (script ∷ scripts) =
      let here = operations (steps_from boards indexes 1 script) in
      let others = all_operations (steps_of boards indexes scripts) in
      omega (
        arith,
        sum_by-append op_count here others,
        total boards indexes (lines_from 1 1 script),
        same_count boards indexes operations_in client 1 1 script,
        same_count boards indexes block_words_in client 1 1 script,
        all_words (client + 1) scripts,
        sum_by-append (λ line. count_in operations_in (line_meaning boards indexes line)) (lines_from client 1 script)
            (all_lines (client + 1) scripts),
        sum_by-append (λ line. count_in block_words_in (line_meaning boards indexes line)) (lines_from client 1 script)
            (all_lines (client + 1) scripts),
      )

  pub within_limits : (scripts : List (List (List ℕ))) → script_faults boards indexes scripts ≡ []
      → AreWithinLimits (steps_of boards indexes scripts)
  within_limits scripts none =
      let limits = within boards indexes scripts none in record {
        operations' = omega (arith, limits.operations, all_counts 1 scripts);
        words' = omega (arith, limits.operations, limits.words, all_words 1 scripts);
      }
