-- The status of a run.
use Rattle.std.proofs.Common.{◌≡◌, ◌↔◌, ℕ, cond, Bool, true, false, List, [], ◌∷◌, refl, ap, inl, inr, arith}
use Rattle.std.specs.List.{AllByRecursion, list_all}
use Rattle.std.proofs.lemmas.Bool.{cases_Bool}
use Rattle.transcript.specs.declared.line.OpLine.{OpLine}
use Rattle.transcript.specs.declared.line.OpResult.{OpResult}
use Rattle.transcript.specs.declared.line.OpResult.TheVariants.{Value, Done, Was, Error, Skipped, TimedOut, Late}
use Rattle.transcript.specs.declared.line.OpResult.TheVariants.{Unsent, LinkLost, Garbled, Denied}
use Rattle.transcript.specs.Results.{is_good}
use Rattle.transcript.specs.Lines.{are_good, all_good, run_status}
use Rattle.transcript.specs.Claims.{IsDone, IsDoneResult}

is_done : (r : OpResult) → is_good r ≡ true → IsDoneResult r
is_done (Value words) good = inl (words, refl)
is_done Done good = inr (inl refl)
is_done (Was word) good = inr (inr (word, refl))
is_done (Error code after) good = cc
is_done Skipped good = cc
is_done (TimedOut rounds) good = cc
is_done (Late rounds answer) good = cc
is_done Unsent good = cc
is_done LinkLost good = cc
is_done Garbled good = cc
is_done (Denied rule) good = cc

is_good_done : (r : OpResult) → IsDoneResult r → is_good r ≡ true
is_good_done r (inl (words, is)) = ap is_good is
is_good_done r (inr (inl is)) = ap is_good is
is_good_done r (inr (inr (word, is))) = ap is_good is

-- a test of all elements, and what it says of each
all_true : {T : Type 0} (p : T → Bool) (P : T → Type 0) (xs : List T) → ((x : T) → p x ≡ true → P x)
    → list_all p xs ≡ true
    → AllByRecursion P xs
all_true p P [] f all = tt
all_true p P (x ∷ xs) f all =
    elim (cases_Bool (p x)) [
      | inl here ↦ (f x here, all_true p P xs f (rw here at all))
      | inr fails ↦ (let e = rw fails at all in cc)
    ]

true_all : {T : Type 0} (p : T → Bool) (P : T → Type 0) (xs : List T) → ((x : T) → P x → p x ≡ true)
    → AllByRecursion P xs
    → list_all p xs ≡ true
true_all p P [] f all = refl
true_all p P (x ∷ xs) f all = rw (f x all.0) (true_all p P xs f all.1)

lines_done : (lines : List OpLine) → are_good lines ≡ true → AllByRecursion IsDone lines
lines_done lines good = all_true (λ (line : OpLine). is_good line.result) IsDone lines
    (λ line is. is_done line.result is) good

done_lines : (lines : List OpLine) → AllByRecursion IsDone lines → are_good lines ≡ true
done_lines lines done = true_all (λ (line : OpLine). is_good line.result) IsDone lines
    (λ line is. is_good_done line.result is) done

zero_only : (b : Bool) → cond {A = ℕ} b 0 1 ≡ 0 → b ≡ true
zero_only true is = refl
zero_only false is = absurd (omega arith)

pub status_done : (clients : List (List OpLine)) → (run_status clients ≡ 0) ↔ AllByRecursion (AllByRecursion IsDone)
    clients
status_done clients = (
  λ zero. all_true are_good (AllByRecursion IsDone) clients lines_done (zero_only (all_good clients) zero),
  λ done. ap (λ b. cond {A = ℕ} b 0 1) (true_all are_good (AllByRecursion IsDone) clients done_lines done),
)
