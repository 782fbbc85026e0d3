-- What compiling the script lines of a generated session makes of them.
use Rattle.std.proofs.Common.{◌≡◌, ℕ, zero, suc, ◌+◌, ◌*◌, List, [], ◌∷◌, map, Some, Option, Ok, refl, ap, sym, ◌∙◌}
use Rattle.std.proofs.Common.{subst, arith}
use Rattle.std.specs.Prelude.{codes}
use Rattle.std.specs.FinMap.{get}
use Rattle.std.specs.List.{cons_option}
use Rattle.address_table.specs.declared.nodes.Node.{Node}
use Rattle.address_table.specs.declared.kinds.Mode.TheVariants.{Single}
use Rattle.ipb_base.specs.Digits.{digit_value}
use Rattle.node_tree.specs.declared.register.Register.{Register}
use Rattle.node_tree.specs.Examples.{full_register}
use Rattle.node_tree.specs.Maps.{RegisterMap, TableMap}
use Rattle.node_tree.specs.Names.{IsIndexOf, Names, itself, name_at, register_at}
use Rattle.transaction_codec.specs.declared.request.Op.TheVariants.{RmwSum as adds}
use Rattle.script_steps.specs.declared.operation.RegOp.{RegOp}
use Rattle.script_steps.specs.declared.operation.Step.{Step}
use Rattle.script_steps.specs.declared.operation.Step.TheVariants.{Do, Dispatch}
use Rattle.script_steps.specs.declared.operation.Verb.TheVariants.{RmwSum}
use Rattle.script_lang.specs.Operations.{as_step, meaning, use_at}
use Rattle.script_lang.specs.Scripts.{Meaning, step_in, steps_from, steps_of}
use Rattle.load_run.specs.Generated.{boards, operation, shares, steps, steps_behind}
use Rattle.load_run.specs.ScriptLines.{HasCountAlone, lines_of, scripts, table_name}

abbrev count_register : Register
count_register = full_register 0 Single 1

-- the index of the table has the register
named : (tables : TableMap) (index : RegisterMap) → HasCountAlone tables → IsIndexOf tables table_name index
    → get index (codes "count") ≡ Some count_register
named tables index has is =
    let first : Names tables (has.node ∷ []) [] 0 (name_at [] has.node 0) (register_at 0 has.node 0) =
    itself has.node [] [] 0 0 (omega arith) in
    let name : name_at [] has.node 0 ≡ codes "count" = rw (has.id', has.no_indexes) refl in
    let called : Names tables (has.node ∷ []) [] 0 (codes "count") (register_at 0 has.node 0) =
    subst (λ (x : List ℕ). Names tables (has.node ∷ []) [] 0 x (register_at 0 has.node 0)) name first in
    let registered : Names tables (has.node ∷ []) [] 0 (codes "count") count_register =
    subst (λ (r : Register). Names tables (has.node ∷ []) [] 0 (codes "count") r) has.register' called in
    (is (codes "count") count_register).1
    (subst (λ (ns : List Node). Names tables ns [] 0 (codes "count") count_register) (sym has.one) registered)

-- what the line of an operation of this number means, where the name stands for this
abbrev means : ℕ → Option Register → Meaning
means number r =
    as_step (use_at number 0 (record { verb = RmwSum; board = codes "b0"; name = codes "count"; numbers = 1 ∷ [] }) r)

-- the operation in a line of this number
abbrev asks : ℕ → RegOp
asks number = record {
  line = number;
  verb = RmwSum;
  board = 0;
  name = codes "count";
  mask = 0xffffffff;
  op = adds 0 1;
}

module _ (count : ℕ) (index : RegisterMap) (found : get index (codes "count") ≡ Some count_register) where
  one-line : (number : ℕ)
      → meaning (boards count) (index ∷ []) number (codes "rmwsum b0:count 1") ≡ Ok (Some (Do (asks number)))
  unfolding digit_value
  one-line number = ap (means number) found

  client-steps : (n before number : ℕ) → number ≡ 2 * before + 1
      → steps_from (boards count) (index ∷ []) number (lines_of n) ≡ steps_behind before n
  client-steps zero before number same = refl
  client-steps (suc n) before number same =
      let rest = steps_from (boards count) (index ∷ []) (number + 1 + 1) (lines_of n) in
      ap (λ (m : Meaning). cons_option (step_in (boards count) (index ∷ []) m) (Dispatch ∷ rest)) (one-line number)
      ∙ (ap (λ (k : ℕ). Do (asks k) ∷ Dispatch ∷ rest) same
      ∙ ap (λ (ss : List Step). Do (operation before) ∷ Dispatch ∷ ss)
      (client-steps n (before + 1) (number + 1 + 1) (omega (arith, same))))

  all-steps : (ns : List ℕ)
      → map (steps_from (boards count) (index ∷ []) 1) (map lines_of ns) ≡ map (steps_behind 0) ns
  all-steps [] = refl
  all-steps (n ∷ ns) =
      ap (λ (ss : List Step). ss ∷ map (steps_from (boards count) (index ∷ []) 1) (map lines_of ns))
      (client-steps n 0 1 (omega arith))
      ∙ ap (λ (rest : List (List Step)). steps_behind 0 n ∷ rest) (all-steps ns)

pub compiled : (count : ℕ) (tables : TableMap) (index : RegisterMap) → HasCountAlone tables
    → IsIndexOf tables table_name index
    → steps_of (boards count) (index ∷ []) (scripts count) ≡ steps count
compiled count tables index has is = all-steps count index (named tables index has is) (shares count)
