-- What the lines of boards tell, one board after another.
use Rattle.std.proofs.Common.{◌≡◌, ℕ, zero, suc, ◌+◌, ◌<◌, ◌≤◌, List, [], ◌∷◌, ◌++◌, length, get_or, drop, slice_get, None}
use Rattle.std.proofs.Common.{refl, sym, ap, ◌∙◌, arith, add-one, append_assoc, length-append, drop-cons}
use Rattle.board_specs.specs.declared.spec.BoardSpec.{BoardSpec}
use Rattle.script_steps.specs.declared.operation.Step.{Step}
use Rattle.script_steps.specs.Rulings.{Asked, asked_operations}
use Rattle.script_plans.specs.declared.greeting.Greeting.{Greeting}
use Rattle.transcript_reader.specs.Entries.{clients_from, operations_from, told_by, told_from, told_in}

-- ---- counts

pub length_operations : (number : ℕ) (asks : List Asked) → length (operations_from number asks) ≡ length asks
length_operations number [] = refl
length_operations number (ask ∷ asks) = ap suc (length_operations (number + 1) asks)

pub length_client : (client : ℕ) (steps : List Step) (scripts : List (List Step))
    → length (clients_from client (steps ∷ scripts))
    ≡ 1 + length (asked_operations steps) + length (clients_from (client + 1) scripts)
length_client client steps scripts =
    omega (
      arith,
      length-append (operations_from 1 (asked_operations steps)) (clients_from (client + 1) scripts),
      length_operations 1 (asked_operations steps),
    )

pub next_item : {A : Type 0} (xs : List A) (i : ℕ) (x : A) → i < length xs → x ≡ get_or xs i x
    → drop i xs ≡ x ∷ drop (i + 1) xs
next_item xs i x low is = rw add-one (drop-cons xs i x low ∙ ap (λ y. y ∷ drop (suc i) xs) (sym is))

-- ---- greetings

-- one line less in front
told_behind : (at : ℕ) (specs : List BoardSpec) (line : List ℕ) (lines : List (List ℕ))
    → told_from (at + 1) specs (line ∷ lines) ≡ told_from at specs lines
told_behind at [] line lines = refl
told_behind at (spec ∷ specs) line lines =
    let here : slice_get (line ∷ lines) (at + 1) ≡ slice_get lines at = rw add-one refl in
    rw here (ap (λ (told : List Greeting). told_in spec (slice_get lines at) ∷ told) (told_behind (at + 1) specs line lines))

-- where no line is left, no position has one
told_of_none : (at other : ℕ) (specs : List BoardSpec) → told_from at specs [] ≡ told_from other specs []
told_of_none at other [] = refl
told_of_none at other (spec ∷ specs) =
    ap (λ (told : List Greeting). told_in spec None ∷ told) (told_of_none (at + 1) (other + 1) specs)

pub told_past : (at : ℕ) (specs : List BoardSpec) (lines : List (List ℕ))
    → told_from 0 specs (drop at lines) ≡ told_from at specs lines
told_past zero specs lines = refl
told_past (suc at) specs [] = told_of_none 0 (suc at) specs
told_past (suc at) specs (line ∷ lines) = rw (← add-one) (told_past at specs lines ∙ sym (told_behind at specs line lines))

-- the first board by the first line
pub told_first : (spec : BoardSpec) (specs : List BoardSpec) (line : List ℕ) (lines : List (List ℕ))
    → told_from 0 (spec ∷ specs) (line ∷ lines) ≡ told_by spec line ∷ told_from 0 specs lines
told_first spec specs line lines = ap (λ (told : List Greeting). told_by spec line ∷ told) (told_behind 0 specs line lines)

pub told_without : (spec : BoardSpec) (specs : List BoardSpec)
    → told_from 0 (spec ∷ specs) [] ≡ told_in spec None ∷ told_from 0 specs []
told_without spec specs = ap (λ (told : List Greeting). told_in spec None ∷ told) (told_of_none 1 0 specs)

pub told_more : (told later whole : List Greeting) (greeting : Greeting) (more : List Greeting)
    → told ++ later ≡ whole → later ≡ greeting ∷ more → (told ++ greeting ∷ []) ++ more ≡ whole
told_more told later whole greeting more all is =
    append_assoc told (greeting ∷ []) more ∙ (ap (λ (rest : List Greeting). told ++ rest) (sym is) ∙ all)
