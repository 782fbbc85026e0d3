-- The words that lines show, line by line and client by client.
use Rattle.std.proofs.Common.{◌≡◌, ℕ, ◌+◌, ◌<◌, ◌++◌, List, [], ◌∷◌, length, get_or, take, ap, sym, ◌∙◌, append-nil}
use Rattle.std.proofs.Common.{length-append}
use Rattle.std.specs.List.{sum}
use Rattle.std.proofs.lemmas.List.{take_more}
use Rattle.std.proofs.lemmas.List.Concat.{flat_map-append}
use Rattle.std.proofs.lemmas.List.Sums.{sum_by-append}
use Rattle.transcript.specs.declared.line.OpLine.{OpLine}
use Rattle.load_run.specs.Summary.{word_before, words_of_client}

-- with one line more
more_lines : (lines : List OpLine) (i : ℕ) (line : OpLine) → i < length lines → line ≡ get_or lines i line
    → words_of_client (take (i + 1) lines) ≡ words_of_client (take i lines) ++ word_before line.result
more_lines lines i line within is =
    ap words_of_client (take_more lines i line within)
    ∙ (flat_map-append (λ (l : OpLine). word_before l.result) (take i lines) (get_or lines i line ∷ [])
    ∙ (ap (λ (l : OpLine). words_of_client (take i lines) ++ (word_before l.result ++ [])) (sym is)
    ∙ ap (λ (ws : List ℕ). words_of_client (take i lines) ++ ws) (append-nil (word_before line.result))))

pub more_lines_done : (lines : List OpLine) (i : ℕ) (line : OpLine) → i < length lines → line ≡ get_or lines i line
    → length (words_of_client (take (i + 1) lines))
    ≡ length (words_of_client (take i lines)) + length (word_before line.result)
more_lines_done lines i line within is =
    ap length (more_lines lines i line within is)
    ∙ length-append (words_of_client (take i lines)) (word_before line.result)

pub more_lines_total : (lines : List OpLine) (i : ℕ) (line : OpLine) → i < length lines → line ≡ get_or lines i line
    → sum (words_of_client (take (i + 1) lines)) ≡ sum (words_of_client (take i lines)) + sum (word_before line.result)
more_lines_total lines i line within is =
    ap sum (more_lines lines i line within is)
    ∙ sum_by-append (λ (x : ℕ). x) (words_of_client (take i lines)) (word_before line.result)
