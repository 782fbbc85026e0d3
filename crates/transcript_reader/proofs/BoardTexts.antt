-- The line of a board.
use Rattle.std.proofs.Common.{◌≡◌, ◌≢◌, ℕ, ◌^◌, ◌<◌, List, [], ◌∷◌, ◌++◌, Option, Some, None, Result, Ok, Err, IfOk, codes}
use Rattle.std.proofs.Common.{refl, sym, ap, ◌∙◌, append_assoc}
use Rattle.std.specs.Fmt.{decimal}
use Rattle.ipb_base.specs.declared.no_memory.NoMemory.{NoMemory}
use Rattle.board_specs.specs.declared.spec.BoardSpec.{BoardSpec}
use Rattle.transcript.specs.declared.line.BoardLine.{BoardLine}
use Rattle.transcript.specs.declared.line.BoardLine.TheVariants.{Live, Silent, Down}
use Rattle.transcript.specs.Text.{board_text, down_text, live_text, silent_text}
use Rattle.transcript_reader.specs.Entries.{IsCount, IsLineOf}
use Rattle.ipb_base.specs.Fronts.{behind, ◌>>=◌}
use Rattle.transcript_reader.specs.Reading.{counts_at, digit_at}
use Rattle.transcript_reader.specs.Walks.{ReadsBoard, ReadsLive, board_front}
use Rattle.transcript_reader.proofs.Again.{decimal_number}
use Rattle.ipb_base.proofs.FrontWords.{behind_again}

pub counts_text : ℕ → ℕ → ℕ → ℕ → List ℕ
counts_text sent replied timed_out lost =
    codes " places " ++ (decimal sent ++ (codes " replied " ++ (decimal replied ++ (codes " timeout "
    ++ (decimal timed_out ++ (codes " lost " ++ (decimal lost ++ codes "\n")))))))

counts_again : (a b c d : ℕ) → IsCount a → IsCount b → IsCount c → IsCount d
    → counts_at (counts_text a b c d) ≡ Some (a, b, c, d)
unfolding counts_at counts_text digit_at
counts_again a b c d fa fb fc fd =
    rw (
      decimal_number a _ fa refl,
      decimal_number b _ fb refl,
      decimal_number c _ fc refl,
      decimal_number d _ fd refl,
    ) refl

live_parts : (name : List ℕ) (a b c d : ℕ) → live_text name a b c d ≡ board_front name ++ counts_text a b c d
unfolding counts_text
live_parts name a b c d = sym (append_assoc (codes "board ") name (counts_text a b c d))

pub front_again : (name line : List ℕ) (a b c d : ℕ) → line ≡ live_text name a b c d
    → behind (board_front name) line ≡ Some (counts_text a b c d)
front_again name line a b c d e =
    ap (behind (board_front name)) (e ∙ live_parts name a b c d) ∙ behind_again (board_front name) (counts_text a b c d)

-- the counts of a live board's line are read again
pub read_again : (name line text : List ℕ) (a b c d : ℕ) → IsCount a → IsCount b → IsCount c → IsCount d
    → line ≡ live_text name a b c d → behind (board_front name) line ≡ Some text → counts_at text ≡ Some (a, b, c, d)
read_again name line text a b c d fa fb fc fd e found =
    let again = front_again name line a b c d e in
    let same : text ≡ counts_text a b c d = cc in
    ap counts_at same ∙ counts_again a b c d fa fb fc fd

no_line : (spec : BoardSpec) (line : List ℕ) → line ≢ silent_text spec.name → line ≢ down_text spec.name
    → ReadsLive spec line None → (shown : BoardLine) → IsLineOf spec shown → line ≢ board_text shown
no_line spec line silent down live (Live name sent replied timed_out lost) is e =
    live sent replied timed_out lost is.1 is.2 is.3 is.4
    (e ∙ ap (λ (n : List ℕ). live_text n sent replied timed_out lost) is.0)
no_line spec line silent down live (Silent name) is e = silent (e ∙ ap silent_text is)
no_line spec line silent down live (Down name) is e = down (e ∙ ap down_text is)

neither : (spec : BoardSpec) (line : List ℕ) → line ≢ silent_text spec.name → line ≢ down_text spec.name
    → (found : Option BoardLine) → ReadsLive spec line found → ReadsBoard spec line found
neither spec line silent down (Some shown) reads = reads
neither spec line silent down None reads = λ shown is e. no_line spec line silent down reads shown is e

pub no_other : (spec : BoardSpec) (line : List ℕ) → line ≢ silent_text spec.name → line ≢ down_text spec.name
    → (found : Result (Option BoardLine) NoMemory) → IfOk found (ReadsLive spec line) → IfOk found (ReadsBoard spec line)
no_other spec line silent down (Ok found) reads = neither spec line silent down found reads
no_other spec line silent down (Err error) reads = tt
