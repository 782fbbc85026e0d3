-- The words that the lines of a generated session show, by what became of its bodies.
use Rattle.std.proofs.Common.{◌≡◌, ℕ, zero, suc, ◌+◌, ◌<◌, ◌==◌, cond, List, [], ◌∷◌, ◌++◌, length, get_or}
use Rattle.std.proofs.Common.{map, Some, None, Option, refl, ap, sym, ◌∙◌, arith, append_assoc, length-append}
use Rattle.std.specs.List.{slice_get, flat_map}
use Rattle.std.proofs.lemmas.List.Concat.{flat_map-append}
use Rattle.reply_join.specs.declared.answer.Answer.TheVariants.{Values}
use Rattle.reply_join.specs.ByWords.{answers}
use Rattle.transaction_codec.specs.Request.{request_at}
use Rattle.transaction_codec.specs.Reply.{reply_at}
use Rattle.lane_record.specs.declared.outcome.Outcome.{Outcome}
use Rattle.lane_record.specs.declared.outcome.Outcome.TheVariants.{Replied, TimedOut, Unsent, LinkLost}
use Rattle.script_steps.specs.Rulings.{Asked, allowed_operations}
use Rattle.script_steps.specs.declared.operation.RegOp.{RegOp}
use Rattle.script_steps.specs.declared.operation.Verb.TheVariants.{RmwSum}
use Rattle.script_plans.specs.declared.greeting.Greeting.TheVariants.{Live, Silent, Down}
use Rattle.script_plans.specs.declared.planned.PieceAt.{PieceAt}
use Rattle.transcript.specs.declared.body_end.BodyEnd.{BodyEnd}
use Rattle.transcript.specs.declared.line.OpResult.{OpResult}
use Rattle.script_plans.specs.declared.board_run.ClientPart.{ClientPart}
use Rattle.script_plans.specs.declared.board_run.BoardRun.{BoardRun}
use Rattle.transcript.specs.Ends.{end_of, ends_of, told_of, told_at, told_by, result_in}
use Rattle.transcript.specs.Results.{combined_result}
use Rattle.transcript.specs.Lines.{showing, in_part, by_pieces, line_of, lines_behind, lines_from}
use Rattle.script_plans.specs.Plan.{count_on}
use Rattle.transcript.specs.Lines.{client_lines}
use Rattle.script_plans.specs.Runs.{outcomes_in}
use Rattle.std.proofs.lemmas.List.Sums.{sum_by-append}
use Rattle.transcript.proofs.Allowed.{allowed-append}
use Rattle.transcript.proofs.EndsInOrder.{ends_at}
use Rattle.load_run.specs.Generated.{operation, steps_behind}
use Rattle.load_run.specs.Summary.{word_before, words_of_client, words_before}
use Rattle.load_run.proofs.Plans.{body, payload, whole, bodies_of, pieces_from, ask, asks_behind, asks-are}
use Rattle.load_run.proofs.Replies.{reply}

-- ---- one body

-- what is told of an operation whose body has this outcome and this late answer
abbrev pub result_of : Outcome → Option (List ℕ) → OpResult
result_of o late = combined_result RmwSum 0xffffffff (told_at (told_of body o late) 0 ∷ [])

abbrev pub words_of : Outcome → List ℕ
words_of o = word_before (result_of o None)

-- a late answer adds no word
late-adds-none : (o : Outcome) (late : Option (List ℕ)) → word_before (result_of o late) ≡ words_of o
late-adds-none (TimedOut place rounds) (Some words) = refl
late-adds-none (TimedOut place rounds) None = refl
late-adds-none (Replied place words) late = refl
late-adds-none Unsent late = refl
late-adds-none (LinkLost place) late = refl

answered : (word : ℕ) → answers body (reply word) ≡ Some (Values (word ∷ []) ∷ [])
unfolding request_at reply_at
answered word = refl

pub word-replied : (place word : ℕ) (words : List ℕ) → words ≡ reply word → words_of (Replied place words) ≡ word ∷ []
word-replied place word words same =
    ap (λ (ws : List ℕ). words_of (Replied place ws)) same
    ∙ ap (λ a. word_before (combined_result RmwSum 0xffffffff (told_at (told_by a) 0 ∷ []))) (answered word)

-- ---- the bodies of a client

-- what a client asked, and how many outcomes it has
pub record IsPart (part : ClientPart) (n : ℕ) : Type 0 where
  pub bodies' : part.planned.bodies ≡ bodies_of n
  pub pieces' : part.planned.pieces ≡ pieces_from 0 n
  pub outcomes' : length part.outcomes ≡ n

body-at : (n k : ℕ) → k < n → slice_get (bodies_of n) k ≡ Some body
body-at zero k within = let bad : ⊥ = omega arith in absurd bad
body-at (suc n) zero within = refl
body-at (suc n) (suc k) within = body-at n k (omega arith)

piece-at : (first n k : ℕ) → k < n → slice_get (pieces_from first n) k ≡ Some (whole (first + k))
piece-at first zero k within = let bad : ⊥ = omega arith in absurd bad
piece-at first (suc n) zero within =
    ap (λ (b : ℕ). Some (whole b)) (omega arith)
piece-at first (suc n) (suc k) within =
    piece-at (first + 1) n k (omega arith) ∙ ap (λ (b : ℕ). Some (whole b)) (omega arith)

in-middle : (front : List Outcome) (o : Outcome) (rest : List Outcome)
    → slice_get (front ++ o ∷ rest) (length front) ≡ Some o
in-middle [] o rest = refl
in-middle (x ∷ front) o rest = in-middle front o rest

-- what operation `k` of a client came to
shows : (part : ClientPart) (n before k : ℕ) (o : Outcome) → IsPart part n → k < n → slice_get part.outcomes k ≡ Some o
    → (in_part (Some part) k (operation before)).0 ≡ result_of o (get_or part.lates k None)
shows part n before k o is within at =
    let pieces : slice_get part.planned.pieces k ≡ Some (whole (0 + k)) =
    ap (λ (ps : List (List PieceAt)). slice_get ps k) is.pieces' ∙ piece-at 0 n k within in
    let same : 0 + k ≡ k = omega arith in
    let asked : slice_get part.planned.bodies k ≡ Some body =
    ap (λ (bs : List (List ℕ)). slice_get bs k) is.bodies' ∙ body-at n k within in
    let «end» : slice_get (ends_of part) k ≡ Some (end_of body o (get_or part.lates k None)) =
    ends_at part.planned.bodies part.outcomes part.lates k body o asked at in
    ap (λ (ps : Option (List PieceAt)). (by_pieces part (operation before) ps).0) pieces
    ∙ (ap (λ (b : ℕ). combined_result RmwSum 0xffffffff (result_in (slice_get (ends_of part) b) 0 ∷ [])) same
    ∙ ap (λ (e : Option BodyEnd). combined_result RmwSum 0xffffffff (result_in e 0 ∷ [])) «end»)

-- ---- the lines of a client

live-shows : (run : BoardRun) (client k : ℕ) (op : RegOp) → run.greeting ≡ Live payload
    → showing run client k op ≡ in_part (slice_get run.parts client) k op
live-shows run client k op live = rw live refl

-- one more operation on the board
one-more : (before : List Asked) (b : ℕ) → count_on 0 (allowed_operations (before ++ ask b ∷ [])) ≡ count_on 0 (allowed_operations before) + 1
one-more before b =
    ap (count_on 0) (allowed-append before (ask b ∷ []))
    ∙ sum_by-append (λ (o : RegOp). cond (o.board == 0) 1 0) (allowed_operations before) (operation b ∷ [])

module _ (run : BoardRun) (client : ℕ) (part : ClientPart) (n : ℕ) (live : run.greeting ≡ Live payload)
    (there : slice_get run.parts client ≡ Some part) (is : IsPart part n) where
  line-word : (before : List Asked) (b : ℕ) (front : List Outcome) (o : Outcome) (rest : List Outcome)
      → part.outcomes ≡ front ++ o ∷ rest → count_on 0 (allowed_operations before) ≡ length front
      → word_before (line_of client before (ask b) run).result ≡ words_of o
  line-word before b front o rest all count =
      let at : slice_get part.outcomes (length front) ≡ Some o =
      ap (λ (os : List Outcome). slice_get os (length front)) all ∙ in-middle front o rest in
      let size : length part.outcomes ≡ length (front ++ o ∷ rest) = ap length all in
      let within : length front < n = omega (arith, size, length-append front (o ∷ rest), is.outcomes') in
      ap (λ s. word_before s.0) (live-shows run client (count_on 0 (allowed_operations before)) (operation b) live)
      ∙ (ap (λ (p : Option ClientPart). word_before (in_part p (count_on 0 (allowed_operations before)) (operation b)).0) there
      ∙ (ap (λ (k : ℕ). word_before (in_part (Some part) k (operation b)).0) count
      ∙ (ap word_before (shows part n b (length front) o is within at)
      ∙ late-adds-none o (get_or part.lates (length front) None))))

  lines-words : (before : List Asked) (b : ℕ) (front rest : List Outcome) → part.outcomes ≡ front ++ rest
      → count_on 0 (allowed_operations before) ≡ length front
      → words_of_client (lines_behind (run ∷ []) client before (asks_behind b (length rest))) ≡ flat_map words_of rest
  lines-words before b front [] all count = refl
  lines-words before b front (o ∷ rest) all count =
      let next : part.outcomes ≡ (front ++ o ∷ []) ++ rest = all ∙ sym (append_assoc front (o ∷ []) rest) in
      let more : count_on 0 (allowed_operations (before ++ ask b ∷ [])) ≡ length (front ++ o ∷ []) =
      omega (arith, one-more before b, count, length-append front (o ∷ [])) in
      ap (λ (ws : List ℕ). ws ++ words_of_client (lines_behind (run ∷ []) client (before ++ ask b ∷ [])
      (asks_behind (b + 1) (length rest)))) (line-word before b front o rest all count)
      ∙ ap (λ (ws : List ℕ). words_of o ++ ws)
      (lines-words (before ++ ask b ∷ []) (b + 1) (front ++ o ∷ []) rest next more)

  pub client-words : words_of_client (client_lines (run ∷ []) client (steps_behind 0 n))
      ≡ flat_map words_of part.outcomes
  client-words =
      ap (λ (asks : List Asked). words_of_client (lines_behind (run ∷ []) client [] asks)) (asks-are 0 n)
      ∙ (ap (λ (m : ℕ). words_of_client (lines_behind (run ∷ []) client [] (asks_behind 0 m))) (sym is.outcomes')
      ∙ lines-words [] 0 [] part.outcomes refl refl)

-- ---- all clients

abbrev pub AreParts : List ClientPart → List ℕ → Type 0
AreParts [] [] = Unit {0}
AreParts [] (n ∷ ns) = ⊥
AreParts (part ∷ parts) [] = ⊥
AreParts (part ∷ parts) (n ∷ ns) = IsPart part n × AreParts parts ns

part-there : (front : List ClientPart) (part : ClientPart) (rest : List ClientPart)
    → slice_get (front ++ part ∷ rest) (length front) ≡ Some part
part-there [] part rest = refl
part-there (x ∷ front) part rest = part-there front part rest

pub all-words : (run : BoardRun) → run.greeting ≡ Live payload
    → (front parts : List ClientPart) (client : ℕ) (ns : List ℕ)
    → run.parts ≡ front ++ parts → client ≡ length front → AreParts parts ns
    → words_before (lines_from (run ∷ []) client (map (steps_behind 0) ns)) ≡ flat_map words_of (outcomes_in parts)
all-words run live front [] client [] all at is = refl
all-words run live front [] client (n ∷ ns) all at is = absurd is
all-words run live front (part ∷ parts) client [] all at is = absurd is
all-words run live front (part ∷ parts) client (n ∷ ns) all at is =
    let there : slice_get run.parts client ≡ Some part =
    ap (λ (ps : List ClientPart). slice_get ps client) all
    ∙ (ap (λ (k : ℕ). slice_get (front ++ part ∷ parts) k) at ∙ part-there front part parts) in
    let next : run.parts ≡ (front ++ part ∷ []) ++ parts = all ∙ sym (append_assoc front (part ∷ []) parts) in
    let later : client + 1 ≡ length (front ++ part ∷ []) = omega (arith, at, length-append front (part ∷ [])) in
    ap (λ (ws : List ℕ). ws ++ words_before (lines_from (run ∷ []) (client + 1) (map (steps_behind 0) ns)))
    (client-words run client part n live there is.0)
    ∙ (ap (λ (ws : List ℕ). flat_map words_of part.outcomes ++ ws)
    (all-words run live (front ++ part ∷ []) parts (client + 1) ns next later is.1)
    ∙ sym (flat_map-append words_of part.outcomes (outcomes_in parts)))

-- ---- a board that is not live

abbrev NoWords : BoardRun → Type 0
NoWords run = (client k : ℕ) (op : RegOp) → word_before (showing run client k op).0 ≡ []

pub silent-words : (run : BoardRun) → run.greeting ≡ Silent → NoWords run
silent-words run silent client k op = rw silent refl

pub down-words : (run : BoardRun) → run.greeting ≡ Down → NoWords run
down-words run down client k op = rw down refl

no-client-words : (run : BoardRun) → NoWords run → (client : ℕ) (before : List Asked) (b n : ℕ)
    → words_of_client (lines_behind (run ∷ []) client before (asks_behind b n)) ≡ []
no-client-words run none client before b zero = refl
no-client-words run none client before b (suc n) =
    ap (λ (ws : List ℕ). ws ++ words_of_client (lines_behind (run ∷ []) client (before ++ ask b ∷ [])
    (asks_behind (b + 1) n)))
    (none client (count_on 0 (allowed_operations before)) (operation b))
    ∙ no-client-words run none client (before ++ ask b ∷ []) (b + 1) n

pub no-words : (run : BoardRun) → NoWords run → (client : ℕ) (ns : List ℕ)
    → words_before (lines_from (run ∷ []) client (map (steps_behind 0) ns)) ≡ []
no-words run none client [] = refl
no-words run none client (n ∷ ns) =
    ap (λ (ws : List ℕ). ws ++ words_before (lines_from (run ∷ []) (client + 1) (map (steps_behind 0) ns)))
    (ap (λ (asks : List Asked). words_of_client (lines_behind (run ∷ []) client [] asks)) (asks-are 0 n)
    ∙ no-client-words run none client [] 0 n)
    ∙ no-words run none (client + 1) ns
