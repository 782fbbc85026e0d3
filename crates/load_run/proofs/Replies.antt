-- What a bus with a single thread answers to bodies of which each adds 1 to the word at address 0.
use Rattle.std.proofs.Common.{◌≡◌, ℕ, zero, suc, ◌+◌, ◌%◌, ◌^◌, ◌<◌, List, [], ◌∷◌, length, Some, refl, ap, sym, ◌∙◌}
use Rattle.std.proofs.Common.{arith}
use Rattle.std.specs.List.{AllByRecursion, slice_get}
use Rattle.board_bus.specs.declared.kind.RangeKind.TheVariants.{Rw}
use Rattle.board_bus.specs.Cells.{Cell, CellMap}
use Rattle.board_bus.specs.Bodies.{Executed, run_body, replay}
use Rattle.transaction_codec.specs.Request.{request_at}
use Rattle.load_run.proofs.Plans.{body}

-- a word that may be read and written
abbrev pub cell : ℕ → Cell
cell word = record { kind = Rw; word = word }

abbrev pub others : CellMap
others =
    (1, cell 0) ∷ (2, cell 0) ∷ (3, cell 0) ∷ (4, cell 0) ∷ (5, cell 0) ∷ (6, cell 0) ∷ (7, cell 0) ∷ (8, cell 0)
    ∷ (9, cell 0) ∷ (10, cell 0) ∷ (11, cell 0) ∷ (12, cell 0) ∷ (13, cell 0) ∷ (14, cell 0) ∷ (15, cell 0) ∷ []

-- the bus with this word at address 0
abbrev pub cells : ℕ → CellMap
cells word = (0, cell word) ∷ others

-- a header with code 0 and one word, and the word before
abbrev pub reply : ℕ → List ℕ
reply word = 0x20000150 ∷ word ∷ []

abbrev executed : ℕ → Executed
executed word = record { cells = cells ((word + 1) % 2 ^ 32); reply = reply word }

run-one : (word : ℕ) → run_body (cells word) body ≡ executed word
unfolding request_at
run-one word = refl

abbrev pub AreAlike : List (List ℕ) → Type 0
AreAlike bodies = AllByRecursion (λ (b : List ℕ). b ≡ body) bodies

abbrev pub replies_on : CellMap → List (List ℕ) → List (List ℕ)
replies_on cells bodies = (replay cells bodies).replies

reply-next : (word : ℕ) (b : List ℕ) (bodies : List (List ℕ)) → b ≡ body → word + 1 < 2 ^ 32
    → replies_on (cells word) (b ∷ bodies) ≡ reply word ∷ replies_on (cells (word + 1)) bodies
reply-next word b bodies same few =
    let small : (word + 1) % 2 ^ 32 ≡ word + 1 = omega arith in
    ap (λ (x : List ℕ). replies_on (cells word) (x ∷ bodies)) same
    ∙ (ap (λ (e : Executed). e.reply ∷ replies_on e.cells bodies) (run-one word)
    ∙ ap (λ (w : ℕ). reply word ∷ replies_on (cells w) bodies) small)

-- the reply at a place has the number of bodies before it
pub replied : (word : ℕ) (bodies : List (List ℕ)) (k : ℕ) (words : List ℕ) → AreAlike bodies
    → word + length bodies < 2 ^ 32
    → slice_get (replies_on (cells word) bodies) k ≡ Some words → words ≡ reply (word + k)
replied word [] k words alike few is = let bad : ⊥ = cc in absurd bad
replied word (b ∷ bodies) zero words alike few is =
    let first : Some (reply word) ≡ Some words =
    sym (ap (λ (rs : List (List ℕ)). slice_get rs 0) (reply-next word b bodies alike.0 (omega arith))) ∙ is in
    let same : words ≡ reply word = cc in
    same ∙ ap reply (omega arith)
replied word (b ∷ bodies) (suc k) words alike few is =
    let later : slice_get (replies_on (cells (word + 1)) bodies) k ≡ Some words =
    sym (ap (λ (rs : List (List ℕ)). slice_get rs (suc k)) (reply-next word b bodies alike.0 (omega arith))) ∙ is in
    replied (word + 1) bodies k words alike.1 (omega arith) later ∙ ap reply (omega arith)
