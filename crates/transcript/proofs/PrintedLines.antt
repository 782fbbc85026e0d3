-- Lines that are printed one after the other.
use Rattle.std.proofs.Common.{◌≡◌, ℕ, zero, suc, Bool, true, false, List, [], ◌∷◌, ◌++◌, refl, sym, ap, ◌∙◌, append-nil}
use Rattle.std.proofs.Common.{append_assoc, length, replicate, get_or, Result, Some}
use Rattle.std.specs.Prelude.{◌&&◌, OnOk, option_map, option_to_list, string_bytes}
use Rattle.std.specs.List.{slice_get}
use Rattle.std.proofs.lemmas.List.{length-replicate}
use Rattle.script_steps.specs.declared.operation.RegOp.{RegOp}
use Rattle.script_steps.specs.declared.operation.Step.{Step}
use Rattle.script_plans.specs.declared.board_run.BoardRun.{BoardRun}
use Rattle.transcript.specs.declared.line.OpLine.{OpLine}
use Rattle.transcript.specs.declared.printing.Printer.{Printer}
use Rattle.transcript.specs.Lines.{are_good}
use Rattle.transcript.specs.Text.{line_text, lines_text}
use Rattle.transcript.specs.Printing.{HasPrinted}
use Rattle.transcript.specs.Results.{is_good}
use Rattle.transcript.specs.Steps.{denied_line, IsProgress, line_on}

text_of_both : (xs ys : List OpLine) → lines_text (xs ++ ys) ≡ lines_text xs ++ lines_text ys
text_of_both [] ys = refl
text_of_both (x ∷ xs) ys =
    ap (λ text. line_text x ++ text) (text_of_both xs ys)
    ∙ sym (append_assoc (line_text x) (lines_text xs) (lines_text ys))

and_assoc : (a b c : Bool) → ((a && b) && c) ≡ (a && (b && c))
and_assoc true b c = refl
and_assoc false b c = refl

and_true : (a : Bool) → a ≡ (a && true)
and_true true = refl
and_true false = refl

good_of_both : (xs ys : List OpLine) → are_good (xs ++ ys) ≡ (are_good xs && are_good ys)
good_of_both [] ys = refl
good_of_both (x ∷ xs) ys =
    ap (λ b. is_good x.result && b) (good_of_both xs ys)
    ∙ sym (and_assoc (is_good x.result) (are_good xs) (are_good ys))

-- what holds of two values holds of those that they are
pub of_both : {A B : Type 0} (P : A → B → Type 0) (x a : A) (y b : B) → x ≡ a → y ≡ b → P a b → P x y
of_both P x a y b one other is = rw (one, other) is

-- nothing was printed
pub none_printed : (p : Printer) → HasPrinted p p []
none_printed p = record { text' = sym (append-nil (string_bytes p.text)); good = and_true p.all_good }

-- one after the other
pub both_printed : (old mid new : Printer) (xs ys : List OpLine) → HasPrinted old mid xs → HasPrinted mid new ys
    → HasPrinted old new (xs ++ ys)
both_printed old mid new xs ys first then = record {
  text' =
      then.text' ∙ (ap (λ text. text ++ lines_text ys) first.text'
      ∙ (append_assoc (string_bytes old.text) (lines_text xs) (lines_text ys)
      ∙ ap (λ text. string_bytes old.text ++ text) (sym (text_of_both xs ys))));
  good =
      then.good ∙ (ap (λ b. b && are_good ys) first.good
      ∙ (and_assoc old.all_good (are_good xs) (are_good ys)
      ∙ ap (λ b. old.all_good && b) (sym (good_of_both xs ys))));
}

-- the line of an operation on a board that is there
pub line_printed : {X Y : Type 0} (r : Result X Y) (old new : Printer) (runs : List BoardRun) (client number k n j : ℕ)
    (op : RegOp) (run : BoardRun) → slice_get runs op.board ≡ Some run → number ≡ n → k ≡ j
    → OnOk r (HasPrinted old new (line_on client number k op run ∷ []))
    → OnOk r (HasPrinted old new (option_to_list (option_map (line_on client n j op) (slice_get runs op.board))))
line_printed r old new runs client number k n j op run at same also is = rw at (rw (sym same, sym also) is)

-- the line of one that is denied
pub denied_printed : {X Y : Type 0} (r : Result X Y) (old new : Printer) (runs : List BoardRun) (number n rule : ℕ)
    (op : RegOp) (run : BoardRun) → slice_get runs op.board ≡ Some run → number ≡ n
    → OnOk r (HasPrinted old new (denied_line number op rule run ∷ []))
    → OnOk r (HasPrinted old new (option_to_list (option_map (denied_line n op rule) (slice_get runs op.board))))
denied_printed r old new runs number n rule op run at same is = rw at (rw (sym same) is)

all_zero : (n b : ℕ) → get_or (replicate n zero) b zero ≡ zero
all_zero zero b = refl
all_zero (suc n) zero = refl
all_zero (suc n) (suc b) = all_zero n b

-- before the first step nothing is counted
pub progress_at_start : (runs : List BoardRun) (client : ℕ) (steps : List Step) (number boards : ℕ) (counts : List ℕ)
    → number ≡ 0 → counts ≡ replicate boards 0 → boards ≡ length runs
    → IsProgress runs client steps 0 [] number counts
progress_at_start runs client steps number boards counts none zeros all = record {
  lines = refl;
  operations' = none;
  boards = rw zeros (length-replicate boards 0 ∙ all);
  counts' = λ b there. rw zeros (all_zero boards b);
}
