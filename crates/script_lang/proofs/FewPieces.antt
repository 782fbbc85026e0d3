-- Scripts without faults have few lines, and their operations are cut into few pieces.
use Rattle.std.proofs.Common.{◌≡◌, inl, inr, ℕ, ◌+◌, ◌≤◌, ◌==◌, Bool, true, false, if◌then◌else◌, List, [], ◌∷◌, ◌++◌}
use Rattle.std.proofs.Common.{length, sum_by, Option, Some, None, Ok, Err, refl, sym, ap, ◌∙◌, subst, arith, suc}
use Rattle.std.specs.List.{AllByRecursion, filter_map, flat_map}
use Rattle.std.specs.Option.{option_map_or}
use Rattle.std.proofs.lemmas.Bool.Decides.{nat_tests}
use Rattle.std.proofs.lemmas.List.{append_assoc, append-nil}
use Rattle.std.proofs.lemmas.List.Sums.{sum_by-append}
use Rattle.std.proofs.Math.ListN.{length-append}
use Rattle.board_specs.specs.declared.spec.BoardSpec.{BoardSpec}
use Rattle.mtu_packer.proofs.Pieces.{pieces-le}
use Rattle.node_tree.specs.Maps.{RegisterMap}
use Rattle.node_tree.specs.declared.register.Register.{Register}
use Rattle.transaction_codec.specs.Request.{op_count}
use Rattle.transaction_codec.specs.declared.request.Op.{Op}
use Rattle.address_table.specs.Rules.{first_broken}
use Rattle.script_lang.specs.declared.call.Call.{Call}
use Rattle.script_lang.specs.declared.call.Command.{Command}
use Rattle.script_lang.specs.declared.call.Command.TheVariants as says
use Rattle.script_steps.specs.declared.operation.Step.{Step}
use Rattle.script_steps.specs.declared.operation.Step.TheVariants.{Do, Denied, Dispatch}
use Rattle.script_steps.specs.declared.operation.Verb.{Verb}
use Rattle.script_steps.specs.declared.operation.Verb.TheVariants.{Read, Write, ReadBlock, WriteBlock, RmwBits, RmwSum}
use Rattle.script_lang.specs.declared.script_refusal.ScriptWhy.{ScriptWhy}
use Rattle.script_steps.specs.declared.limits.TheConstants.{MAX_OPERATIONS, MAX_BLOCK_WORDS}
use Rattle.script_lang.specs.declared.script_refusal.TheConstants.{MAX_LINES}
use Rattle.script_lang.specs.declared.tally.Tally.{Tally}
use Rattle.script_lang.specs.Lines.{takes, command_of, words}
use Rattle.script_lang.specs.Operations.{is_full, op_on, write_op, use_rules, by_rules, board_from, register_at, use_at}
use Rattle.script_lang.specs.Operations.{use_on, as_step, step_of, meaning}
use Rattle.script_steps.specs.Packing.{operations, IsSelection, HaveFewPieces}
use Rattle.script_lang.specs.Scripts.{ScriptLine, lines_from, all_lines, LineFault, operations_in, block_words_in}
use Rattle.script_lang.specs.Scripts.{is_block, Meaning, count_in, is_over, line_meaning, count_of, tally_of, broken_by}
use Rattle.script_lang.specs.Scripts.{faults_after, script_faults, step_in, steps_from, steps_of}
use Rattle.script_lang.proofs.Asking.{AsksWell, command_asks}
use Rattle.script_lang.proofs.Kept.{parts_none}

-- an operation that is no block has one word at most
abbrev HasWords : Option Step → Type 0
HasWords None = Unit {0}
HasWords (Some Dispatch) = Unit {0}
HasWords (Some (Denied rule op)) = Unit {0}
HasWords (Some (Do op)) = op_count op.op ≤ 1 + (if is_block op.verb then op_count op.op else 0)

abbrev MeansWords : Meaning → Type 0
MeansWords (Ok step) = HasWords step
MeansWords (Err why) = Unit {0}

by_full : (P : Type 0) (test b : Bool) → test ≡ b → (test ≡ true → P) → (test ≡ false → P) → P
by_full P test true is here other = here is
by_full P test false is here other = other is

one-value : (numbers : List ℕ) → (length numbers == 1) ≡ true → length numbers ≤ 1
one-value numbers h = grind (arith, nat_tests)

write-words : (r : Register) (numbers : List ℕ) → (length numbers == 1) ≡ true → op_count (write_op r numbers) ≤ 1
write-words r numbers one =
    by_full (op_count (write_op r numbers) ≤ 1) (is_full r.mask) (is_full r.mask) refl
    (λ full. rw full (one-value numbers one))
    (λ part. rw part (omega arith))

or_none : (n : ℕ) → n ≤ 1 → n ≤ 1 + 0
or_none n h = omega arith

verb-words : (r : Register) (verb : Verb) (numbers : List ℕ) → takes verb numbers ≡ true
    → op_count (op_on r verb numbers) ≤ 1 + (if is_block verb then op_count (op_on r verb numbers) else 0)
verb-words r Read numbers taken = omega arith
verb-words r Write numbers taken = or_none (op_count (write_op r numbers)) (write-words r numbers taken)
verb-words r ReadBlock numbers taken = omega arith
verb-words r WriteBlock numbers taken = omega arith
verb-words r RmwBits numbers taken = omega arith
verb-words r RmwSum numbers taken = omega arith

rules-words : (line board : ℕ) (call : Call) (r : Register) (broken : Option ScriptWhy)
    → takes call.verb call.numbers ≡ true
    → MeansWords (as_step (by_rules broken (record {
      line = line;
      verb = call.verb;
      board = board;
      name = call.name;
      mask = r.mask;
      op = op_on r call.verb call.numbers;
    })))
rules-words line board call r None taken = verb-words r call.verb call.numbers taken
rules-words line board call r (Some why) taken = tt

register-words : (line board : ℕ) (call : Call) (found : Option Register) → takes call.verb call.numbers ≡ true
    → MeansWords (as_step (use_at line board call found))
register-words line board call None taken = tt
register-words line board call (Some r) taken = rules-words line board call r (first_broken (use_rules r call)) taken

board-words : (indexes : List RegisterMap) (line : ℕ) (call : Call) (found : Option ℕ)
    → takes call.verb call.numbers ≡ true → MeansWords (as_step (use_on indexes line call found))
board-words indexes line call None taken = tt
board-words indexes line call (Some board) taken =
    register-words line board call (register_at indexes board call.name) taken

step-words : (boards : List BoardSpec) (indexes : List RegisterMap) (line : ℕ) (command : Option Command)
    → AsksWell command → MeansWords (step_of boards indexes line command)
step-words boards indexes line None asks = tt
step-words boards indexes line (Some says.Nothing) asks = tt
step-words boards indexes line (Some says.Dispatch) asks = tt
step-words boards indexes line (Some (says.Ask call)) asks =
    board-words indexes line call (board_from 0 call.board boards) asks.0

meaning-words : (boards : List BoardSpec) (indexes : List RegisterMap) (line : ℕ) (text : List ℕ)
    → MeansWords (meaning boards indexes line text)
meaning-words boards indexes line text =
    step-words boards indexes line (command_of (words text)) (command_asks (words text))

selection-le : (ops all : List Op) → IsSelection ops all → sum_by op_count ops ≤ sum_by op_count all
selection-le [] all is = omega arith
selection-le (op ∷ ops) [] is = absurd is
selection-le (op ∷ ops) (x ∷ all) (inl is) =
    let rest : sum_by op_count ops ≤ sum_by op_count all = selection-le ops all is.1 in
    let here : op_count op ≡ op_count x = rw is.0 refl in
    omega (arith, sum_by-append op_count (op ∷ []) ops, sum_by-append op_count (x ∷ []) all)
selection-le (op ∷ ops) (x ∷ all) (inr is) =
    let rest : sum_by op_count (op ∷ ops) ≤ sum_by op_count all = selection-le (op ∷ ops) all is in
    omega (arith, sum_by-append op_count (x ∷ []) all)

pub op_more : (op : Op) (ops : List Op) → sum_by op_count (op ∷ ops) ≡ op_count op + sum_by op_count ops
op_more op ops = omega (arith, sum_by-append op_count (op ∷ []) ops)

pub record IsWithin (tally : Tally) : Type 0 where
  pub lines : tally.lines ≤ MAX_LINES
  pub operations : tally.operations ≤ MAX_OPERATIONS
  pub words : tally.words ≤ MAX_BLOCK_WORDS

within-tally : (tally : Tally) → is_over tally ≡ false → IsWithin tally
within-tally tally h =
    record { lines = grind (arith, nat_tests); operations = grind (arith, nat_tests); words = grind (arith, nat_tests) }

kept-more : {X Y : Type 0} (f : X → Option Y) (x : X) (xs : List X) (o : Option Y) → f x ≡ o
    → length (filter_map f xs) ≤ length xs
    → length (filter_map f (x ∷ xs)) ≤ length (x ∷ xs)
kept-more f x xs None is rest = rw is (omega (arith, rest))
kept-more f x xs (Some y) is rest = rw is (omega (arith, rest))

kept-length : {X Y : Type 0} (f : X → Option Y) (xs : List X) → length (filter_map f xs) ≤ length xs
kept-length f [] = omega arith
kept-length f (x ∷ xs) = kept-more f x xs (f x) refl (kept-length f xs)

module _ (boards : List BoardSpec) (indexes : List RegisterMap) where
  abbrev pub steps_in : List ScriptLine → List Step
  steps_in lines = filter_map (λ line. step_in boards indexes (line_meaning boards indexes line)) lines

  pub count_more : (count : Option Step → ℕ) (line : ScriptLine) (lines : List ScriptLine)
      → count_of boards indexes count (line ∷ lines)
      ≡ count_in count (line_meaning boards indexes line) + count_of boards indexes count lines
  count_more count line lines =
      omega (arith, sum_by-append (λ l. count_in count (line_meaning boards indexes l)) (line ∷ []) lines)

  line-total : (line : ScriptLine) (lines : List ScriptLine) (m : Meaning) → line_meaning boards indexes line ≡ m
      → MeansWords m
      → sum_by op_count (operations (steps_in lines)) ≤ count_of boards indexes operations_in lines
      + count_of boards indexes block_words_in lines
      → sum_by op_count (operations (steps_in (line ∷ lines)))
      ≤ count_of boards indexes operations_in (line ∷ lines) + count_of boards indexes block_words_in (line ∷ lines)
  line-total line lines (Err why) is has rest = rw is (omega (arith, rest))
  line-total line lines (Ok None) is has rest = rw is (omega (arith, rest))
  line-total line lines (Ok (Some Dispatch)) is has rest = rw is (omega (arith, rest))
  line-total line lines (Ok (Some (Denied rule op))) is has rest =
      let one : count_of boards indexes operations_in (line ∷ lines) ≡ 1 + count_of boards indexes operations_in lines =
      count_more operations_in line lines ∙ rw is refl in
      let words : count_of boards indexes block_words_in (line ∷ lines)
      ≡ (if is_block op.verb then op_count op.op else 0) + count_of boards indexes block_words_in lines =
      count_more block_words_in line lines ∙ rw is refl in
      let steps : steps_in (line ∷ lines) ≡ Denied rule op ∷ steps_in lines = rw is refl in
      let sum : sum_by op_count (operations (steps_in (line ∷ lines))) ≡ sum_by op_count (operations (steps_in lines)) =
      ap (λ all. sum_by op_count (operations all)) steps in
      omega (arith, rest, one, words, sum)
  line-total line lines (Ok (Some (Do op))) is has rest =
      let one : count_of boards indexes operations_in (line ∷ lines) ≡ 1 + count_of boards indexes operations_in lines =
      count_more operations_in line lines ∙ rw is refl in
      let words : count_of boards indexes block_words_in (line ∷ lines)
      ≡ (if is_block op.verb then op_count op.op else 0) + count_of boards indexes block_words_in lines =
      count_more block_words_in line lines ∙ rw is refl in
      let steps : steps_in (line ∷ lines) ≡ Do op ∷ steps_in lines = rw is refl in
      let sum : sum_by op_count (operations (steps_in (line ∷ lines)))
      ≡ op_count op.op + sum_by op_count (operations (steps_in lines)) =
      ap (λ all. sum_by op_count (operations all)) steps ∙ op_more op.op (operations (steps_in lines)) in
      omega (arith, has, rest, one, words, sum)

  -- the words of the steps of some lines
  pub total : (lines : List ScriptLine)
      → sum_by op_count (operations (steps_in lines)) ≤ count_of boards indexes operations_in lines
      + count_of boards indexes block_words_in lines
  total [] = omega arith
  total (line ∷ lines) =
      line-total line lines (line_meaning boards indexes line) refl (meaning-words boards indexes line.number line.text)
      (total lines)

  line_within : (lines : List ScriptLine) (line : ScriptLine) (m : Meaning) (over : Bool)
      → is_over (tally_of boards indexes lines) ≡ over
      → option_map_or {U = List LineFault} (λ why. (line.client, line.number, why) ∷ [])
      (broken_by boards indexes lines m) [] ≡ [] → is_over (tally_of boards indexes lines) ≡ false
  line_within lines line (Err why) over is none = cc
  line_within lines line (Ok step) false is none = is
  line_within lines line (Ok step) true is none = absurd (told (rw is at none))
    where
      told : {A : Type 0} {x : A} {xs : List A} → x ∷ xs ≡ [] → ⊥
      told h = cc

  -- lines without faults are not too many
  all_within : (earlier lines : List ScriptLine) → is_over (tally_of boards indexes earlier) ≡ false
      → faults_after boards indexes earlier lines ≡ []
      → is_over (tally_of boards indexes (earlier ++ lines)) ≡ false
  all_within earlier [] within none =
      subst (λ ls. is_over (tally_of boards indexes ls) ≡ false) (sym (append-nil earlier)) within
  all_within earlier (line ∷ lines) within none =
      let both = parts_none
      (option_map_or {U = List LineFault} (λ why. (line.client, line.number, why) ∷ [])
      (broken_by boards indexes (earlier ++ line ∷ []) (line_meaning boards indexes line)) [])
      (faults_after boards indexes (earlier ++ line ∷ []) lines) none in
      let here =
      line_within (earlier ++ line ∷ []) line (line_meaning boards indexes line)
      (is_over (tally_of boards indexes (earlier ++ line ∷ []))) refl both.0 in
      subst (λ ls. is_over (tally_of boards indexes ls) ≡ false) (append_assoc earlier (line ∷ []) lines)
      (all_within (earlier ++ line ∷ []) lines here both.1)

  -- what lines count does not depend on whose lines they are
  pub same_count : (count : Option Step → ℕ) (client other number : ℕ) (texts : List (List ℕ))
      → count_of boards indexes count (lines_from client number texts)
      ≡ count_of boards indexes count (lines_from other number texts)
  same_count count client other number [] = refl
  same_count count client other number (text ∷ texts) =
      let one =
      sum_by-append (λ line. count_in count (line_meaning boards indexes line))
      (record { client = client; number = number; text = text } ∷ []) (lines_from client (number + 1) texts) in
      let two =
      sum_by-append (λ line. count_in count (line_meaning boards indexes line))
      (record { client = other; number = number; text = text } ∷ []) (lines_from other (number + 1) texts) in
      omega (arith, one, two, same_count count client other (number + 1) texts)

  few_of : (steps : List Step) → sum_by op_count (operations steps) ≤ MAX_OPERATIONS + MAX_BLOCK_WORDS
      → HaveFewPieces steps
  few_of steps few ops payload is low =
      let pieces : length (flat_map (Rattle.mtu_packer.specs.Cutting.cut_pieces payload) ops) ≤ sum_by op_count ops =
      pieces-le payload ops low in
      omega (arith, pieces, selection-le ops (operations steps) is, few)

  each_few : (client : ℕ) (scripts : List (List (List ℕ)))
      → count_of boards indexes operations_in (all_lines client scripts) ≤ MAX_OPERATIONS
      → count_of boards indexes block_words_in (all_lines client scripts) ≤ MAX_BLOCK_WORDS
      → AllByRecursion HaveFewPieces (steps_of boards indexes scripts)
  each_few client [] ops words = tt
  each_few client (script ∷ scripts) ops words =
      let lines = lines_from client 1 script in
      let rest = all_lines (client + 1) scripts in
      let ops_both = sum_by-append (λ line. count_in operations_in (line_meaning boards indexes line)) lines rest in
      let words_both = sum_by-append (λ line. count_in block_words_in (line_meaning boards indexes line)) lines rest in
      let ops_same = same_count operations_in client 1 1 script in
      let words_same = same_count block_words_in client 1 1 script in
      let here = total (lines_from 1 1 script) in (
        few_of (steps_from boards indexes 1 script)
            (omega (arith, here, ops, words, ops_both, words_both, ops_same, words_same)),
        each_few (client + 1) scripts (omega (arith, ops, ops_both)) (omega (arith, words, words_both)),
      )

  pub within : (scripts : List (List (List ℕ))) → script_faults boards indexes scripts ≡ []
      → IsWithin (tally_of boards indexes (all_lines 1 scripts))
  within scripts none =
      within-tally (tally_of boards indexes (all_lines 1 scripts)) (all_within [] (all_lines 1 scripts) refl none)

  pub few_pieces : (scripts : List (List (List ℕ))) → script_faults boards indexes scripts ≡ []
      → AllByRecursion HaveFewPieces (steps_of boards indexes scripts)
  few_pieces scripts none = let limits = within scripts none in each_few 1 scripts limits.operations limits.words

  same_length : (client other number : ℕ) (texts : List (List ℕ))
      → length (lines_from client number texts) ≡ length (lines_from other number texts)
  same_length client other number [] = refl
  same_length client other number (text ∷ texts) = ap suc (same_length client other (number + 1) texts)

  each_short : (client : ℕ) (scripts : List (List (List ℕ))) → length (all_lines client scripts) ≤ MAX_LINES
      → AllByRecursion (λ steps. length steps ≤ MAX_LINES) (steps_of boards indexes scripts)
  each_short client [] lines = tt
  each_short client (script ∷ scripts) lines =
      let both = length-append (lines_from client 1 script) (all_lines (client + 1) scripts) in
      let same = same_length client 1 1 script in
      let kept =
      kept-length (λ line. step_in boards indexes (line_meaning boards indexes line)) (lines_from 1 1 script) in
      (omega (arith, lines, both, same, kept), each_short (client + 1) scripts (omega (arith, lines, both)))

  -- no client has more steps than all have lines
  pub short_steps : (scripts : List (List (List ℕ))) → script_faults boards indexes scripts ≡ []
      → AllByRecursion (λ steps. length steps ≤ MAX_LINES) (steps_of boards indexes scripts)
  short_steps scripts none = each_short 1 scripts (within scripts none).lines
