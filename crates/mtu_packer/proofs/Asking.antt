-- The pieces of an operation ask for the accesses of the operation.
use Rattle.std.proofs.Common.{◌≡◌, ℕ, zero, suc, ◌+◌, ◌-◌, ◌*◌, ◌≤◌, ◌++◌, List, [], ◌∷◌, length, map, min, take, drop}
use Rattle.std.proofs.Common.{replicate, refl, sym, ap, ◌∙◌, inl, inr, arith, append-nil, length-take, length-drop}
use Rattle.std.proofs.Common.{sum_by, length-append}
use Rattle.std.specs.Int.{div_ceil}
use Rattle.std.specs.List.{flat_map, range_with_len, zip}
use Rattle.std.proofs.lemmas.Bool.{cases_lt}
use Rattle.std.proofs.lemmas.Grind.{flat_map-append, div_ceil_times}
use Rattle.std.proofs.lemmas.List.{drop_all, take_all}
use Rattle.std.proofs.lemmas.List.FromFn.{map-range_with_len_more}
use Rattle.std.proofs.lemmas.List.Sums.{sum_by-append, sum_by-cons}
use Rattle.std.proofs.Math.Seq.{take-add, take-length}
use Rattle.transaction_codec.specs.declared.request.Op.{Op}
use Rattle.transaction_codec.specs.declared.request.Op.TheVariants.{Read, ReadPort, Write, WritePort, RmwBits, RmwSum}
use Rattle.transaction_codec.specs.Request.{op_count}
use Rattle.mtu_packer.specs.Accesses.{Access, reads, writes, updates, masks, adds, accesses}
use Rattle.mtu_packer.specs.Cutting.{cut_pieces, piece}

-- so many reads, the first at this address, each next one `step` addresses on
abbrev reads_from : ℕ → ℕ → ℕ → List Access
reads_from step base zero = []
reads_from step base (suc count) = reads base ∷ reads_from step (base + step) count

-- likewise the writes of words
abbrev writes_from : ℕ → ℕ → List ℕ → List Access
writes_from step base [] = []
writes_from step base (word ∷ words) = writes base word ∷ writes_from step (base + step) words

-- the accesses of an operation, from address to address
abbrev walk : Op → List Access
walk (Read base count) = reads_from 1 base count
walk (ReadPort base count) = reads_from 0 base count
walk (Write base words) = writes_from 1 base words
walk (WritePort base words) = writes_from 0 base words
walk (RmwBits base and_term or_term) = updates base (masks and_term or_term) ∷ []
walk (RmwSum base addend) = updates base (adds addend) ∷ []

reads_of_block : (base count : ℕ) → map reads (range_with_len base count) ≡ reads_from 1 base count
reads_of_block base zero = refl
reads_of_block base (suc count) = ap (λ rest. reads base ∷ rest) (reads_of_block (base + 1) count)

reads_of_port : (base count : ℕ) → map reads (replicate count base) ≡ reads_from 0 base count
reads_of_port base zero = refl
reads_of_port base (suc count) =
    let same : base ≡ base + 0 = omega arith in
    ap (λ rest. reads base ∷ rest) (reads_of_port base count ∙ ap (λ b. reads_from 0 b count) same)

writes_of_block : (base : ℕ) (words : List ℕ) → map (λ at. writes at.0 at.1) (zip (range_with_len base (length words))
    words) ≡ writes_from 1 base words
writes_of_block base [] = refl
writes_of_block base (word ∷ words) = ap (λ rest. writes base word ∷ rest) (writes_of_block (base + 1) words)

writes_of_port : (base : ℕ) (words : List ℕ) → map (writes base) words ≡ writes_from 0 base words
writes_of_port base [] = refl
writes_of_port base (word ∷ words) =
    let same : base ≡ base + 0 = omega arith in
    ap (λ rest. writes base word ∷ rest) (writes_of_port base words ∙ ap (λ b. writes_from 0 b words) same)

accesses_are : (op : Op) → accesses op ≡ walk op
accesses_are (Read base count) = reads_of_block base count
accesses_are (ReadPort base count) = reads_of_port base count
accesses_are (Write base words) = writes_of_block base words
accesses_are (WritePort base words) = writes_of_port base words
accesses_are (RmwBits base and_term or_term) = refl
accesses_are (RmwSum base addend) = refl

all_accesses_are : (ops : List Op) → flat_map accesses ops ≡ flat_map walk ops
all_accesses_are [] = refl
all_accesses_are (op ∷ ops) = ap (λ front. front ++ flat_map accesses ops) (accesses_are op)
    ∙ ap (λ back. walk op ++ back) (all_accesses_are ops)

reads_from-add : (step base m n : ℕ) → reads_from step base (m + n) ≡ reads_from step base m ++ reads_from step
    (base + m * step) n
reads_from-add step base zero n = let none : 0 + n ≡ n = omega arith in let same : base ≡ base + 0 * step =
    omega arith in ap (reads_from step base) none ∙ ap (λ b. reads_from step b n) same
reads_from-add step base (suc m) n =
    let one : suc m + n ≡ suc (m + n) = omega arith in
    let same : base + step + m * step ≡ base + suc m * step = omega arith in
    ap (reads_from step base) one ∙ ap (λ rest. reads base ∷ rest) (reads_from-add step (base + step) m n
    ∙ ap (λ b. reads_from step (base + step) m ++ reads_from step b n) same)

writes_from-append : (step base : ℕ) (words more : List ℕ) → writes_from step base (words ++ more) ≡ writes_from step
    base words ++ writes_from step (base + length words * step) more
writes_from-append step base [] more = let same : base ≡ base + 0 * step = omega arith in
    ap (λ b. writes_from step b more) same
writes_from-append step base (word ∷ words) more =
    let same : base + step + length words * step ≡ base + length (word ∷ words) * step = omega arith in
    ap (λ rest. writes base word ∷ rest) (writes_from-append step (base + step) words more
    ∙ ap (λ b. writes_from step (base + step) words ++ writes_from step b more) same)

reads_more : (step base limit count k : ℕ) → reads_from step base (min (k * limit) count) ++ reads_from step
    (base + k * limit * step) (min limit (count - k * limit)) ≡ reads_from step base (min ((k + 1) * limit) count)
reads_more step base limit count k = elim (cases_lt (k * limit) count) [
  | inl less ↦
      let n = min limit (count - k * limit) in
      let before : min (k * limit) count ≡ k * limit = omega arith in
      let after : k * limit + n ≡ min ((k + 1) * limit) count = omega arith in
      ap (λ m. reads_from step base m ++ reads_from step (base + k * limit * step) n) before
      ∙ sym (reads_from-add step base (k * limit) n) ∙ ap (reads_from step base) after
  | inr past ↦
      let none : min limit (count - k * limit) ≡ 0 = omega arith in
      let same : min (k * limit) count ≡ min ((k + 1) * limit) count = omega arith in
      ap (λ n. reads_from step base (min (k * limit) count) ++ reads_from step (base + k * limit * step) n) none
      ∙ append-nil (reads_from step base (min (k * limit) count)) ∙ ap (reads_from step base) same
]

take-min : (n : ℕ) (words : List ℕ) → take (min n (length words)) words ≡ take n words
take-min n words = elim (cases_lt n (length words)) [
  | inl less ↦ let same : min n (length words) ≡ n = omega arith in ap (λ m. take m words) same
  | inr past ↦ let same : min n (length words) ≡ length words = omega arith in
      ap (λ m. take m words) same ∙ take-length words ∙ sym (take_all n words past)
]

writes_more : (step base limit : ℕ) (words : List ℕ) (k : ℕ)
    → writes_from step base (take (k * limit) words) ++ writes_from step (base + k * limit * step)
    (take (min limit (length words - k * limit)) (drop (k * limit) words)) ≡ writes_from step base
    (take ((k + 1) * limit) words)
writes_more step base limit words k =
    let n = k * limit in
    let front = take n words in
    let rest = take limit (drop n words) in
    let left : min limit (length words - n) ≡ min limit (length (drop n words)) =
    ap (min limit) (sym (length-drop n words)) in
    let cut_same : take (min limit (length words - n)) (drop n words) ≡ rest = ap (λ m. take m (drop n words)) left
    ∙ take-min limit (drop n words) in
    let after : n + limit ≡ (k + 1) * limit = omega arith in
    let whole : writes_from step base (front ++ rest) ≡ writes_from step base (take ((k + 1) * limit) words) =
    ap (writes_from step base) (sym (take-add n limit words) ∙ ap (λ m. take m words) after) in
    ap (λ ws. writes_from step base front ++ writes_from step (base + n * step) ws) cut_same
    ∙ elim (cases_lt n (length words)) [
      | inl less ↦
          let long : length front ≡ n = omega (arith, length-take n words) in
          ap (λ m. writes_from step base front ++ writes_from step (base + m * step) rest) (sym long)
          ∙ sym (writes_from-append step base front rest) ∙ whole
      | inr past ↦
          let none : rest ≡ [] = ap (take limit) (drop_all n words past) ∙ take_all limit [] (omega arith) in
          ap (λ ws. writes_from step base front ++ writes_from step (base + n * step) ws) none
          ∙ append-nil (writes_from step base front)
          ∙ sym (ap (λ ws. writes_from step base (front ++ ws)) none ∙ ap (writes_from step base) (append-nil front))
          ∙ whole
    ]

reads_front : (step base limit count : ℕ) (part : ℕ → Op)
    → ((k : ℕ) → walk (part k) ≡ reads_from step (base + k * limit * step) (min limit (count - k * limit)))
    → (k : ℕ) → flat_map walk (map part (range_with_len 0 k)) ≡ reads_from step base (min (k * limit) count)
reads_front step base limit count part same zero = let none : 0 ≡ min (0 * limit) count = omega arith in
    ap (reads_from step base) none
reads_front step base limit count part same (suc k) =
    let one : suc k ≡ k + 1 = omega arith in
    ap (λ n. flat_map walk (map part (range_with_len 0 n))) one
    ∙ ap (flat_map walk) (map-range_with_len_more part 0 k k (omega arith))
    ∙ flat_map-append walk (map part (range_with_len 0 k)) (part k ∷ [])
    ∙ ap (λ done. done ++ (walk (part k) ++ [])) (reads_front step base limit count part same k)
    ∙ ap (λ more. reads_from step base (min (k * limit) count) ++ more) (append-nil (walk (part k)) ∙ same k)
    ∙ reads_more step base limit count k
    ∙ ap (λ n. reads_from step base (min (n * limit) count)) (sym one)

writes_front : (step base limit : ℕ) (words : List ℕ) (part : ℕ → Op)
    → ((k : ℕ) → walk (part k) ≡ writes_from step (base + k * limit * step)
    (take (min limit (length words - k * limit)) (drop (k * limit) words)))
    → (k : ℕ) → flat_map walk (map part (range_with_len 0 k)) ≡ writes_from step base (take (k * limit) words)
writes_front step base limit words part same zero = let none : 0 ≡ 0 * limit = omega arith in
    ap (λ n. writes_from step base (take n words)) none
writes_front step base limit words part same (suc k) =
    let one : suc k ≡ k + 1 = omega arith in
    ap (λ n. flat_map walk (map part (range_with_len 0 n))) one
    ∙ ap (flat_map walk) (map-range_with_len_more part 0 k k (omega arith))
    ∙ flat_map-append walk (map part (range_with_len 0 k)) (part k ∷ [])
    ∙ ap (λ done. done ++ (walk (part k) ++ [])) (writes_front step base limit words part same k)
    ∙ ap (λ more. writes_from step base (take (k * limit) words) ++ more) (append-nil (walk (part k)) ∙ same k)
    ∙ writes_more step base limit words k
    ∙ ap (λ n. writes_from step base (take (n * limit) words)) (sym one)

-- as many pieces as there are reach to the end
reaches_end : (count limit : ℕ) → 1 ≤ limit → min (div_ceil count limit * limit) count ≡ count
reaches_end count limit some = let bounds = div_ceil_times count limit some in omega (arith, bounds.0)

all_reads : (step base limit count : ℕ) (part : ℕ → Op) → 1 ≤ limit
    → ((k : ℕ) → walk (part k) ≡ reads_from step (base + k * limit * step) (min limit (count - k * limit)))
    → flat_map walk (map part (range_with_len 0 (div_ceil count limit))) ≡ reads_from step base count
all_reads step base limit count part some same = reads_front step base limit count part same (div_ceil count limit)
    ∙ ap (reads_from step base) (reaches_end count limit some)

all_writes : (step base limit : ℕ) (words : List ℕ) (part : ℕ → Op) → 1 ≤ limit
    → ((k : ℕ) → walk (part k) ≡ writes_from step (base + k * limit * step)
    (take (min limit (length words - k * limit)) (drop (k * limit) words)))
    → flat_map walk (map part (range_with_len 0 (div_ceil (length words) limit))) ≡ writes_from step base words
all_writes step base limit words part some same =
    let past : length words ≤ div_ceil (length words) limit * limit = (div_ceil_times (length words) limit some).0 in
    writes_front step base limit words part same (div_ceil (length words) limit) ∙ ap (writes_from step base)
    (take_all (div_ceil (length words) limit * limit) words past)

goes_on : (base n : ℕ) → base + n ≡ base + n * 1
goes_on base n = omega arith

stays : (base n : ℕ) → base ≡ base + n * 0
stays base n = omega arith

pieces_walk : (payload : ℕ) (op : Op) → 16 ≤ payload → flat_map walk (cut_pieces payload op) ≡ walk op
pieces_walk payload (Read base count) low =
    all_reads 1 base (min 255 (payload - 2)) count (piece payload (Read base count)) (omega arith)
    (λ k. ap (λ b. reads_from 1 b (min (min 255 (payload - 2)) (count - k * min 255 (payload - 2))))
    (goes_on base (k * min 255 (payload - 2))))
pieces_walk payload (ReadPort base count) low =
    all_reads 0 base (min 255 (payload - 2)) count (piece payload (ReadPort base count)) (omega arith)
    (λ k. ap (λ b. reads_from 0 b (min (min 255 (payload - 2)) (count - k * min 255 (payload - 2))))
    (stays base (k * min 255 (payload - 2))))
pieces_walk payload (Write base words) low =
    let limit = min 255 (payload - 2 - 1) in
    all_writes 1 base limit words (piece payload (Write base words)) (omega arith)
    (λ k. ap (λ b. writes_from 1 b (take (min limit (length words - k * limit)) (drop (k * limit) words)))
    (goes_on base (k * limit)))
pieces_walk payload (WritePort base words) low =
    let limit = min 255 (payload - 2 - 1) in
    all_writes 0 base limit words (piece payload (WritePort base words)) (omega arith)
    (λ k. ap (λ b. writes_from 0 b (take (min limit (length words - k * limit)) (drop (k * limit) words)))
    (stays base (k * limit)))
pieces_walk payload (RmwBits base and_term or_term) low = refl
pieces_walk payload (RmwSum base addend) low = refl

pub pieces_ask : (payload : ℕ) (op : Op) → 16 ≤ payload → flat_map accesses (cut_pieces payload op) ≡ accesses op
pieces_ask payload op low = all_accesses_are (cut_pieces payload op) ∙ pieces_walk payload op low ∙ sym (accesses_are op)

-- ---- how many accesses there are

length_reads : (step base count : ℕ) → length (reads_from step base count) ≡ count
length_reads step base zero = refl
length_reads step base (suc count) = ap suc (length_reads step (base + step) count)

length_writes : (step base : ℕ) (words : List ℕ) → length (writes_from step base words) ≡ length words
length_writes step base [] = refl
length_writes step base (word ∷ words) = ap suc (length_writes step (base + step) words)

length_walk : (op : Op) → length (walk op) ≡ op_count op
length_walk (Read base count) = length_reads 1 base count
length_walk (ReadPort base count) = length_reads 0 base count
length_walk (Write base words) = length_writes 1 base words
length_walk (WritePort base words) = length_writes 0 base words
length_walk (RmwBits base and_term or_term) = refl
length_walk (RmwSum base addend) = refl

length_all : (ops : List Op) → length (flat_map walk ops) ≡ sum_by op_count ops
length_all [] = refl
length_all (op ∷ ops) =
    omega (
      arith,
      length_all ops,
      length_walk op,
      length-append (walk op) (flat_map walk ops),
      sum_by-cons op_count op ops,
    )

-- the pieces of an operation read and write as many words as the operation
pub cut_count : (payload : ℕ) (op : Op) → 16 ≤ payload → sum_by op_count (cut_pieces payload op) ≡ op_count op
cut_count payload op low =
    sym (length_all (cut_pieces payload op)) ∙ ap length (pieces_walk payload op low) ∙ length_walk op

pub all_counts : (payload : ℕ) (ops : List Op) → 16 ≤ payload
    → sum_by op_count (flat_map (cut_pieces payload) ops) ≡ sum_by op_count ops
all_counts payload [] low = refl
all_counts payload (op ∷ ops) low =
    omega (
      arith,
      all_counts payload ops low,
      cut_count payload op low,
      sum_by-append op_count (cut_pieces payload op) (flat_map (cut_pieces payload) ops),
      sum_by-cons op_count op ops,
    )
