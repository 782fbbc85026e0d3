-- Scripts whose lines all mean a step and that are not too long have no fault.
use Rattle.std.proofs.Common.{◌≡◌, ℕ, zero, suc, ◌+◌, ◌≤◌, List, [], ◌∷◌, ◌++◌, length, map, false, ◌||◌, nat_lt}
use Rattle.std.proofs.Common.{cond, codes, Option, Some, None, Ok, slice_get, refl, sym, ap, ◌∙◌, subst, arith, append_assoc, append-nil}
use Rattle.std.specs.List.{AllByRecursion, sum_by}
use Rattle.std.proofs.lemmas.Bool.Decides.{nat_tests}
use Rattle.std.proofs.lemmas.List.{length-append}
use Rattle.std.proofs.lemmas.List.Sums.{sum_by-append, sum_by-cons}
use Rattle.board_specs.specs.declared.spec.BoardSpec.{BoardSpec}
use Rattle.node_tree.specs.Maps.{RegisterMap}
use Rattle.script_lang.specs.Operations.{meaning}
use Rattle.script_lang.specs.Scripts.{ScriptLine, lines_from, operations_in, block_words_in, is_block, is_over, line_meaning}
use Rattle.script_lang.specs.Scripts.{count_in, tally_of, broken_by, faults_after, script_faults}
use Rattle.script_lang.specs.declared.script_refusal.ScriptWhy.TheVariants.{TooMany}
use Rattle.std.specs.Option.{option_map_or}
use Rattle.transaction_codec.specs.Request.{op_count}
use Rattle.script_lang.specs.declared.script_refusal.TheConstants.{MAX_LINES}
use Rattle.script_steps.specs.declared.limits.TheConstants.{MAX_OPERATIONS, MAX_BLOCK_WORDS}
use Rattle.script_steps.specs.declared.operation.RegOp.{RegOp}
use Rattle.script_steps.specs.declared.operation.Step.{Step}
use Rattle.script_steps.specs.declared.operation.Step.TheVariants.{Do, Dispatch}

less_over : (a b d a' b' d' : ℕ) → a ≤ a' → b ≤ b' → d ≤ d'
    → ((nat_lt MAX_LINES a' || nat_lt MAX_OPERATIONS b') || nat_lt MAX_BLOCK_WORDS d') ≡ false
    → ((nat_lt MAX_LINES a || nat_lt MAX_OPERATIONS b) || nat_lt MAX_BLOCK_WORDS d) ≡ false
less_over a b d a' b' d' p q r h = grind (arith, nat_tests)

few_over : (a b d : ℕ) → a ≤ MAX_LINES → b ≤ MAX_OPERATIONS → d ≤ MAX_BLOCK_WORDS
    → ((nat_lt MAX_LINES a || nat_lt MAX_OPERATIONS b) || nat_lt MAX_BLOCK_WORDS d) ≡ false
few_over a b d p q r = grind (arith, nat_tests)

module _ (boards : List BoardSpec) (indexes : List RegisterMap) where
  -- a line of a number means a step, and no block
  pub record MeansStep (n : ℕ) (text : List ℕ) : Type 0 where
    pub step : Option Step
    pub means : meaning boards indexes n text ≡ Ok step
    pub words : block_words_in step ≡ 0

  LineMeans : ScriptLine → Type 0
  LineMeans line = MeansStep line.number line.text

  pub operations_of : ScriptLine → ℕ
  operations_of line = count_in operations_in (line_meaning boards indexes line)

  words_of : ScriptLine → ℕ
  words_of line = count_in block_words_in (line_meaning boards indexes line)

  front_within : (xs ys : List ScriptLine) → is_over (tally_of boards indexes (xs ++ ys)) ≡ false
      → is_over (tally_of boards indexes xs) ≡ false
  unfolding operations_of words_of
  front_within xs ys h =
      let longer = length-append xs ys in
      let more = sum_by-append operations_of xs ys in
      let wider = sum_by-append words_of xs ys in
      less_over (length xs) (sum_by operations_of xs) (sum_by words_of xs) (length (xs ++ ys))
      (sum_by operations_of (xs ++ ys)) (sum_by words_of (xs ++ ys)) (omega arith) (omega arith) (omega arith) h

  none_after : (earlier lines : List ScriptLine) → AllByRecursion LineMeans lines
      → is_over (tally_of boards indexes (earlier ++ lines)) ≡ false → faults_after boards indexes earlier lines ≡ []
  unfolding LineMeans
  none_after earlier [] all within = refl
  none_after earlier (line ∷ lines) all within =
      let split : (earlier ++ line ∷ []) ++ lines ≡ earlier ++ line ∷ lines = append_assoc earlier (line ∷ []) lines in
      let whole : is_over (tally_of boards indexes ((earlier ++ line ∷ []) ++ lines)) ≡ false =
      subst (λ ls. is_over (tally_of boards indexes ls) ≡ false) (sym split) within in
      let here : is_over (tally_of boards indexes (earlier ++ line ∷ [])) ≡ false =
      front_within (earlier ++ line ∷ []) lines whole in
      ap (λ fault. option_map_or (λ why. (line.client, line.number, why) ∷ []) fault []
      ++ faults_after boards indexes (earlier ++ line ∷ []) lines) (unbroken (earlier ++ line ∷ []) line all.0 here)
      ∙ none_after (earlier ++ line ∷ []) lines all.1 whole
    where
      unbroken : (front : List ScriptLine) (l : ScriptLine) → MeansStep l.number l.text
          → is_over (tally_of boards indexes front) ≡ false
          → broken_by boards indexes front (line_meaning boards indexes l) ≡ None
      unbroken front l it few =
          ap (broken_by boards indexes front) it.means ∙ ap (λ over. cond over (Some TooMany) None) few

  -- lines that mean steps, and the most operations that these are
  pub record AreFine (lines : List (List ℕ)) (most : ℕ) : Type 0 where
    pub each : AllByRecursion (λ text. (n : ℕ) → MeansStep n text) lines
    pub operations : (n : ℕ) → sum_by operations_of (lines_from 1 n lines) ≤ most

  numbered : (n : ℕ) (lines : List (List ℕ)) → AllByRecursion (λ text. (m : ℕ) → MeansStep m text) lines
      → AllByRecursion LineMeans (lines_from 1 n lines)
  unfolding LineMeans
  numbered n [] all = tt
  numbered n (text ∷ lines) all = (all.0 n, numbered (n + 1) lines all.1)

  length_numbered : (n : ℕ) (lines : List (List ℕ)) → length (lines_from 1 n lines) ≡ length lines
  length_numbered n [] = refl
  length_numbered n (text ∷ lines) = ap (λ k. suc k) (length_numbered (n + 1) lines)

  no_words : (lines : List ScriptLine) → AllByRecursion LineMeans lines → sum_by words_of lines ≡ 0
  unfolding LineMeans words_of
  no_words [] all = refl
  no_words (line ∷ lines) all =
      let rest : sum_by words_of lines ≡ 0 = no_words lines all.1 in
      let here : words_of line ≡ 0 = ap (count_in block_words_in) all.0.means ∙ all.0.words in
      let sum : sum_by words_of (line ∷ lines) ≡ words_of line + sum_by words_of lines = sum_by-cons words_of line lines in
      sum ∙ rw (here, rest) refl

  pub no_faults : (lines : List (List ℕ)) (most : ℕ) → AreFine lines most → length lines ≤ MAX_LINES
      → most ≤ MAX_OPERATIONS → script_faults boards indexes (lines ∷ []) ≡ []
  unfolding operations_of words_of
  no_faults lines most fine few small =
      let all = lines_from 1 1 lines in
      let means = numbered 1 lines fine.each in
      let long : length all ≡ length lines = length_numbered 1 lines in
      let words : sum_by words_of all ≡ 0 = no_words all means in
      let within : is_over (tally_of boards indexes all) ≡ false =
      few_over (length all) (sum_by operations_of all) (sum_by words_of all) (omega arith)
      (omega (arith, fine.operations 1)) (omega arith) in
      ap (faults_after boards indexes []) (append-nil all) ∙ none_after [] all means within

  pub lines_append : (n : ℕ) (xs ys : List (List ℕ))
      → lines_from 1 n (xs ++ ys) ≡ lines_from 1 n xs ++ lines_from 1 (n + length xs) ys
  lines_append n [] ys = let e : n + 0 ≡ n = omega arith in ap (λ m. lines_from 1 m ys) (sym e)
  lines_append n (x ∷ xs) ys =
      let e : n + 1 + length xs ≡ n + suc (length xs) = omega arith in
      ap (λ ls. record { client = 1; number = n; text = x } ∷ ls)
      (lines_append (n + 1) xs ys ∙ ap (λ m. lines_from 1 (n + 1) xs ++ lines_from 1 m ys) e)

  all_append : (P : List ℕ → Type 0) (xs ys : List (List ℕ)) → AllByRecursion P xs → AllByRecursion P ys
      → AllByRecursion P (xs ++ ys)
  all_append P [] ys one other = other
  all_append P (x ∷ xs) ys one other = (one.0, all_append P xs ys one.1 other)

  pub fine_append : (xs ys : List (List ℕ)) (v w : ℕ) → AreFine xs v → AreFine ys w → AreFine (xs ++ ys) (v + w)
  fine_append xs ys v w one other = record {
    each = all_append (λ text. (n : ℕ) → MeansStep n text) xs ys one.each other.each;
    operations = λ n.
        let parts = ap (sum_by operations_of) (lines_append n xs ys)
        ∙ sum_by-append operations_of (lines_from 1 n xs) (lines_from 1 (n + length xs) ys) in
        omega (arith, parts, one.operations n, other.operations (n + length xs));
  }

  -- a line that is an operation, and no block
  pub record MeansWord (n : ℕ) (text : List ℕ) : Type 0 where
    pub op : RegOp
    pub means : meaning boards indexes n text ≡ Ok (Some (Do op))
    pub word : is_block op.verb ≡ false

  means_step : (n : ℕ) (text : List ℕ) → MeansWord n text → MeansStep n text
  means_step n text it = record {
    step = Some (Do it.op);
    means = it.means;
    words = ap (λ b. cond b (op_count it.op.op) 0) it.word;
  }

  pub fine_map : {X : Type 0} (f : X → List ℕ) (xs : List X)
      → ((k n : ℕ) (x : X) → slice_get xs k ≡ Some x → MeansWord n (f x)) → AreFine (map f xs) (length xs)
  unfolding operations_of
  fine_map f [] all = record { each = tt; operations = λ n. omega arith }
  fine_map f (x ∷ xs) all =
      let rest = fine_map f xs (λ k n y at. all (suc k) n y at) in
      record {
        each = ((λ n. means_step n (f x) (all zero n x refl)), rest.each);
        operations = λ n.
            let here : count_in operations_in (meaning boards indexes n (f x)) ≡ 1 =
            ap (count_in operations_in) (all zero n x refl).means in
            let line : ScriptLine = record { client = 1; number = n; text = f x } in
            let sum : sum_by operations_of (line ∷ lines_from 1 (n + 1) (map f xs))
            ≡ operations_of line + sum_by operations_of (lines_from 1 (n + 1) (map f xs))
            = sum_by-cons operations_of line (lines_from 1 (n + 1) (map f xs)) in
            omega (arith, sum, here, rest.operations (n + 1));
      }

  pub fine_dispatch : AreFine (codes "dispatch" ∷ []) 0
  unfolding operations_of
  fine_dispatch = record {
    each = ((λ n. record { step = Some Dispatch; means = refl; words = refl }), tt);
    operations = λ n. omega arith;
  }
