-- What the scripts of a session ask can be packed, has 32 bits, and is what its verb asks for.
use Rattle.std.proofs.Common.{◌≡◌, ℕ, zero, suc, ◌+◌, List, [], ◌∷◌, Bool, true, false, slice_index}
use Rattle.std.proofs.Common.{Option, Some, None, Ok, Err, refl, sym, subst, arith}
use Rattle.std.specs.Prelude.{bit_and}
use Rattle.std.specs.List.{AllByRecursion, AllZip, cons_option, slice_get}
use Rattle.std.specs.Option.{option_and_then}
use Rattle.std.specs.FinMap.{get}
use Rattle.std.proofs.lemmas.Bool.Decides.{nat_tests}
use Rattle.std.proofs.lemmas.Nat.{and_le_r}
use Rattle.std.proofs.lemmas.Option.{same_Some}
use Rattle.ipb_base.specs.Word.{IsWord, AreWords}
use Rattle.address_table.specs.Rules.{first_broken}
use Rattle.toml.specs.Data.{Members}
use Rattle.board_specs.specs.declared.spec.BoardSpec.{BoardSpec}
use Rattle.masked_fields.specs.Field.{shifted_value}
use Rattle.mtu_packer.specs.Cutting.{HasWords}
use Rattle.node_tree.specs.Maps.{RegisterMap}
use Rattle.node_tree.specs.Names.{IsIndexOf}
use Rattle.node_tree.specs.Refusals.{KeepsRules}
use Rattle.node_tree.specs.declared.register.Register.{Register}
use Rattle.script_lang.specs.declared.call.Call.{Call}
use Rattle.script_lang.specs.declared.call.Command.{Command}
use Rattle.script_lang.specs.declared.call.Command.TheVariants as says
use Rattle.script_steps.specs.declared.operation.Step.{Step}
use Rattle.script_steps.specs.declared.operation.Verb.{Verb}
use Rattle.script_steps.specs.declared.operation.Verb.TheVariants.{Read, Write, ReadBlock, WriteBlock, RmwBits, RmwSum}
use Rattle.script_lang.specs.declared.script_refusal.ScriptWhy.{ScriptWhy}
use Rattle.script_lang.specs.declared.session.Session.{Session}
use Rattle.script_lang.specs.Document.{IsSession}
use Rattle.script_steps.specs.Executable.{FitsVerb, CanBeDone, AreExecutable}
use Rattle.script_lang.specs.Lines.{command_of, takes, words}
use Rattle.script_lang.specs.Operations.{use_rules, is_full, is_port, fits_mask, fits_field, write_op}
use Rattle.script_lang.specs.Operations.{read_block_op, write_block_op, op_on, by_rules, use_at, use_on, as_step}
use Rattle.script_lang.specs.Operations.{step_of, board_from, register_at, meaning}
use Rattle.script_lang.specs.Scripts.{Meaning, step_in, steps_from, steps_of}
use Rattle.script_lang.proofs.Asking.{numbers_asked, takes_asked}
use Rattle.script_lang.proofs.MaskedValues.{field_kept}
use Rattle.script_lang.proofs.Packable.{can_be_cut}
use Rattle.script_lang.proofs.Registers.{IsSoundRegister, AreSoundRegisters, session_registers}

-- ---- words

at_index : (numbers : List ℕ) (k : ℕ) → AreWords numbers → IsWord (slice_index numbers k)
at_index [] k are = omega arith
at_index (n ∷ numbers) zero are = are.0
at_index (n ∷ numbers) (suc k) are = at_index numbers k are.1

own_address : (r : Register) → IsSoundRegister r → IsWord r.address
own_address r is = omega (arith, is.register'.last)

shifted_small : (mask value : ℕ) → IsWord mask → fits_mask mask value ≡ true → IsWord (shifted_value mask value)
shifted_small mask value small fits =
    let same : bit_and (shifted_value mask value) mask ≡ shifted_value mask value = grind (arith, nat_tests) in
    omega (arith, and_le_r (shifted_value mask value) mask)

by_bool : (P : Type 0) (b : Bool) → (b ≡ true → P) → (b ≡ false → P) → P
by_bool P true is other = is refl
by_bool P false is other = other refl

write_words : (r : Register) (numbers : List ℕ) → IsSoundRegister r → AreWords numbers
    → fits_mask r.mask (slice_index numbers 0) ≡ true → HasWords (write_op r numbers)
write_words r numbers is are fits =
    by_bool (HasWords (write_op r numbers)) (is_full r.mask)
    (λ full. rw full (own_address r is, are))
    (λ part.
    let small = shifted_small r.mask (slice_index numbers 0) is.mask' fits in
    rw part (own_address r is, (omega arith, (small, tt))))

read_block_words : (r : Register) (count : ℕ) → IsSoundRegister r → HasWords (read_block_op r count)
read_block_words r count is =
    by_bool (HasWords (read_block_op r count)) (is_port r.mode)
    (λ port. rw port (own_address r is, tt)) (λ no_port. rw no_port (own_address r is, tt))

write_block_words : (r : Register) (numbers : List ℕ) → IsSoundRegister r → AreWords numbers
    → HasWords (write_block_op r numbers)
write_block_words r numbers is are =
    by_bool (HasWords (write_block_op r numbers)) (is_port r.mode)
    (λ port. rw port (own_address r is, are)) (λ no_port. rw no_port (own_address r is, are))

verb_words : (r : Register) (verb : Verb) (numbers : List ℕ) → IsSoundRegister r → AreWords numbers
    → fits_field r verb numbers ≡ true → HasWords (op_on r verb numbers)
verb_words r Read numbers is are fits = (own_address r is, tt)
verb_words r Write numbers is are fits = write_words r numbers is are fits
verb_words r ReadBlock numbers is are fits = read_block_words r (slice_index numbers 0) is
verb_words r WriteBlock numbers is are fits = write_block_words r numbers is are
verb_words r RmwBits numbers is are fits = (own_address r is, (at_index numbers 0 are, (at_index numbers 1 are, tt)))
verb_words r RmwSum numbers is are fits = (own_address r is, (at_index numbers 0 are, tt))

-- ---- verbs

verb_fits : (r : Register) (verb : Verb) (numbers : List ℕ) → FitsVerb verb (op_on r verb numbers)
verb_fits r Read numbers = tt
verb_fits r Write numbers = tt
verb_fits r ReadBlock numbers = tt
verb_fits r WriteBlock numbers = tt
verb_fits r RmwBits numbers = tt
verb_fits r RmwSum numbers = tt

-- ---- lines

-- what a line means can be done
abbrev MeansWell : Meaning → Type 0
MeansWell (Ok (Some step)) = CanBeDone step
MeansWell (Ok None) = Unit {0}
MeansWell (Err why) = Unit {0}

one_sound : (indexes : List RegisterMap) (k : ℕ) (index : RegisterMap) → AllByRecursion AreSoundRegisters indexes
    → slice_get indexes k ≡ Some index → AreSoundRegisters index
one_sound [] k index all at = absurd cc
one_sound (other ∷ indexes) zero index all at =
    subst AreSoundRegisters (same_Some other index at) all.0
one_sound (other ∷ indexes) (suc k) index all at = one_sound indexes k index all.1 at

register_sound : (indexes : List RegisterMap) (board : ℕ) (name : List ℕ) (found : Option RegisterMap) (r : Register)
    → AllByRecursion AreSoundRegisters indexes → slice_get indexes board ≡ found
    → option_and_then (λ (index : RegisterMap). get index name) found ≡ Some r → IsSoundRegister r
register_sound indexes board name None r all at there = absurd cc
register_sound indexes board name (Some index) r all at there = one_sound indexes board index all at name r there

-- a call of which it is known that its numbers are those of its verb, and words
record IsAsking (call : Call) : Type 0 where
  taken : takes call.verb call.numbers ≡ true
  numbers : AreWords call.numbers

rules_well : (line board : ℕ) (call : Call) (r : Register) (broken : Option ScriptWhy)
    → first_broken (use_rules r call) ≡ broken → IsAsking call → IsSoundRegister r
    → MeansWell (as_step (by_rules broken (record {
      line = line;
      verb = call.verb;
      board = board;
      name = call.name;
      mask = r.mask;
      op = op_on r call.verb call.numbers;
    })))
rules_well line board call r (Some why) kept asking is = tt
rules_well line board call r None kept asking is = record {
  cut' = can_be_cut r call is.register' asking.taken kept;
  words' = verb_words r call.verb call.numbers is asking.numbers (field_kept r call kept);
  verb' = verb_fits r call.verb call.numbers;
}

use_well : (line board : ℕ) (call : Call) (found : Option Register) → IsAsking call
    → ((r : Register) → found ≡ Some r → IsSoundRegister r) → MeansWell (as_step (use_at line board call found))
use_well line board call None asking sound = tt
use_well line board call (Some r) asking sound =
    rules_well line board call r (first_broken (use_rules r call)) refl asking (sound r refl)

module _ (boards : List BoardSpec) (indexes : List RegisterMap) (sound : AllByRecursion AreSoundRegisters indexes)
  where
    on_board : (line : ℕ) (call : Call) (found : Option ℕ) → IsAsking call
        → MeansWell (as_step (use_on indexes line call found))
    on_board line call None asking = tt
    on_board line call (Some board) asking =
        use_well line board call (register_at indexes board call.name) asking
        (λ r there. register_sound indexes board call.name (slice_get indexes board) r sound refl there)

    command_well : (line : ℕ) (command : Option Command)
        → ((call : Call) → command ≡ Some (says.Ask call) → IsAsking call)
        → MeansWell (step_of boards indexes line command)
    command_well line None asking = tt
    command_well line (Some says.Nothing) asking = tt
    command_well line (Some says.Dispatch) asking = tt
    command_well line (Some (says.Ask call)) asking =
        on_board line call (board_from 0 call.board boards) (asking call refl)

    line_well : (line : ℕ) (text : List ℕ) → MeansWell (meaning boards indexes line text)
    line_well line text =
        command_well line (command_of (words text)) (λ call is. record {
          taken = takes_asked (words text) call (sym is);
          numbers = numbers_asked (words text) call (sym is);
        })

    one_step : (m : Meaning) (steps : List Step) → MeansWell m → AreExecutable steps
        → AreExecutable (cons_option (step_in boards indexes m) steps)
    one_step (Ok (Some step)) steps well are = (well, are)
    one_step (Ok None) steps well are = are
    one_step (Err why) steps well are = are

    script_well : (number : ℕ) (script : List (List ℕ)) → AreExecutable (steps_from boards indexes number script)
    script_well number [] = tt
    script_well number (text ∷ script) =
        one_step (meaning boards indexes number text) (steps_from boards indexes (number + 1) script)
        (line_well number text) (script_well (number + 1) script)

    scripts_well : (scripts : List (List (List ℕ))) → AllByRecursion AreExecutable (steps_of boards indexes scripts)
    scripts_well [] = tt
    scripts_well (script ∷ scripts) = (script_well 1 script, scripts_well scripts)

pub session_executable : (document : Members) (session : Session) (indexes : List RegisterMap)
    → IsSession document session
    → AllByRecursion (λ (b : BoardSpec). KeepsRules session.tables b.table) session.boards
    → AllZip (λ (b : BoardSpec) (index : RegisterMap). IsIndexOf session.tables b.table index) session.boards indexes
    → AllByRecursion AreExecutable (steps_of session.boards indexes session.scripts)
session_executable document session indexes is kept are =
    scripts_well session.boards indexes (session_registers document session indexes is kept are) session.scripts
