-- A generated session can be run.
use Rattle.std.proofs.Common.{◌≡◌, ℕ, zero, suc, ◌+◌, ◌*◌, ◌^◌, ◌≤◌, List, [], ◌∷◌, length, map, refl, ap, arith}
use Rattle.std.proofs.Common.{length-append}
use Rattle.std.specs.List.{AllByRecursion, sum, sum_by}
use Rattle.std.proofs.lemmas.List.Sums.{sum_by-cons, sum_by-append}
use Rattle.transaction_codec.specs.declared.request.Op.TheVariants.{RmwSum}
use Rattle.transaction_codec.specs.Request.{op_count}
use Rattle.script_steps.specs.declared.operation.Step.{Step}
use Rattle.script_lang.specs.declared.script_refusal.TheConstants.{MAX_LINES}
use Rattle.script_steps.specs.Executable.{AreExecutable}
use Rattle.script_steps.specs.Packing.{AreWithinLimits, CanBePacked, HaveFewPieces, all_operations}
use Rattle.script_steps.specs.Packing as script
use Rattle.ipb_base.specs.Numbers.{most_operations}
use Rattle.load_run.specs.Generated.{shares, steps, steps_behind}
use Rattle.load_run.proofs.Shares.{all-shares}

executable : (before n : ℕ) → AreExecutable (steps_behind before n)
executable before zero = tt
executable before (suc n) =
    (record { cut' = tt; words' = (omega arith, (omega arith, tt)); verb' = tt }, (tt, executable (before + 1) n))

packed : (before n : ℕ) → AllByRecursion CanBePacked (steps_behind before n)
packed before zero = tt
packed before (suc n) = (tt, (tt, packed (before + 1) n))

pub steps-length : (before n : ℕ) → length (steps_behind before n) ≡ 2 * n
steps-length before zero = refl
steps-length before (suc n) = omega (arith, steps-length (before + 1) n)

pub operations-length : (before n : ℕ) → length (script.operations (steps_behind before n)) ≡ n
operations-length before zero = refl
operations-length before (suc n) = ap suc (operations-length (before + 1) n)

operations-words : (before n : ℕ) → sum_by op_count (script.operations (steps_behind before n)) ≡ n
operations-words before zero = refl
operations-words before (suc n) =
    omega (
      arith,
      operations-words (before + 1) n,
      sum_by-cons op_count (RmwSum 0 1) (script.operations (steps_behind (before + 1) n)),
    )

-- ---- of all clients

all_operations-length : (ns : List ℕ) → length (all_operations (map (steps_behind 0) ns)) ≡ sum ns
all_operations-length [] = refl
all_operations-length (n ∷ ns) =
    omega (
      arith,
      length-append (script.operations (steps_behind 0 n)) (all_operations (map (steps_behind 0) ns)),
      operations-length 0 n,
      all_operations-length ns,
      sum_by-cons (λ (x : ℕ). x) n ns,
    )

all_operations-words : (ns : List ℕ) → sum_by op_count (all_operations (map (steps_behind 0) ns)) ≡ sum ns
all_operations-words [] = refl
all_operations-words (n ∷ ns) =
    omega (
      arith,
      sum_by-append op_count (script.operations (steps_behind 0 n)) (all_operations (map (steps_behind 0) ns)),
      operations-words 0 n,
      all_operations-words ns,
      sum_by-cons (λ (x : ℕ). x) n ns,
    )

pub all-executable : (ns : List ℕ) → AllByRecursion AreExecutable (map (steps_behind 0) ns)
all-executable [] = tt
all-executable (n ∷ ns) = (executable 0 n, all-executable ns)

pub all-packed : (ns : List ℕ) → AllByRecursion (AllByRecursion CanBePacked) (map (steps_behind 0) ns)
all-packed [] = tt
all-packed (n ∷ ns) = (packed 0 n, all-packed ns)

pub all-short : (ns : List ℕ) → 2 * sum ns ≤ MAX_LINES
    → AllByRecursion (λ (steps : List Step). length steps ≤ MAX_LINES) (map (steps_behind 0) ns)
all-short [] few = tt
all-short (n ∷ ns) few =
    let first = sum_by-cons (λ (x : ℕ). x) n ns in
    (omega (arith, steps-length 0 n, first), all-short ns (omega (arith, first)))

-- what `transcript` promises
abbrev pub FewWordsLaw : Type 0
FewWordsLaw = (steps : List Step) → sum_by op_count (script.operations steps) ≤ 2 ^ 31 → HaveFewPieces steps

pub all-few : FewWordsLaw → (ns : List ℕ) → sum ns ≤ most_operations
    → AllByRecursion HaveFewPieces (map (steps_behind 0) ns)
all-few law [] few = tt
all-few law (n ∷ ns) few =
    let first = sum_by-cons (λ (x : ℕ). x) n ns in
    (law (steps_behind 0 n) (omega (arith, operations-words 0 n, first)), all-few law ns (omega (arith, first)))

pub all-within : (count : ℕ) → count ≤ most_operations → AreWithinLimits (steps count)
all-within count few = record {
  operations' = omega (arith, all_operations-length (shares count), all-shares count);
  words' = omega (arith, all_operations-words (shares count), all-shares count);
}
