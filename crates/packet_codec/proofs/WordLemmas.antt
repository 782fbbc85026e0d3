-- Words and their bytes in both orders.
use Rattle.std.proofs.Common.{◌≡◌, ℕ, zero, suc, ◌+◌, ◌*◌, ◌/◌, ◌%◌, ◌<◌, ◌^◌, List, [], ◌∷◌, length, get_or, take}
use Rattle.std.proofs.Common.{lit<, drop, map, refl, ap, ◌∙◌, inl, inr, arith, take-append-drop}
use Rattle.std.specs.Simd.{first_chunks}
use Rattle.std.proofs.lemmas.Bool.{cases_lt}
use Rattle.std.proofs.lemmas.List.{take_at, drop_at, length-append, length-take, length-drop, get_or-drop, get_or-take}
use Rattle.std.proofs.lemmas.List.{get_or_past}
use Rattle.std.proofs.lemmas.Nat.{be_bytes_4, le_bytes_4, from_be_bytes-to_be_bytes_4, from_le_bytes-to_le_bytes_4}
use Rattle.ipb_base.specs.Word.{AreWords}
use Rattle.packet_codec.specs.declared.packet.Order.{Order}
use Rattle.packet_codec.specs.declared.packet.Order.TheVariants.{Big, Little}
use Rattle.packet_codec.specs.Packet.{AreBytes, in_order, word_in_order}
use Rattle.packet_codec.specs.Reading.{word_from, words_of}

-- each item is a byte
abbrev pub IsBytes : List ℕ → Type 0
IsBytes bytes = (i : ℕ) → get_or bytes i 0 < 256

pub are_bytes : (bytes : List ℕ) → AreBytes bytes → IsBytes bytes
are_bytes [] fits i = lit< tt
are_bytes (byte ∷ bytes) fits zero = omega (arith, fits.0)
are_bytes (byte ∷ bytes) fits (suc i) = are_bytes bytes fits.1 i

pub IsBytes-drop : (n : ℕ) (bytes : List ℕ) → IsBytes bytes → IsBytes (drop n bytes)
IsBytes-drop n bytes fits i = rw get_or-drop (fits (n + i))

pub IsBytes-take : (n : ℕ) (bytes : List ℕ) → IsBytes bytes → IsBytes (take n bytes)
IsBytes-take n bytes fits i =
    elim (cases_lt i n) [
      | inl below ↦ rw (get_or-take n bytes i 0 below) (fits i)
      | inr past ↦ rw (get_or_past (take n bytes) i 0 (omega (arith, length-take n bytes))) (omega arith)
    ]

-- ---- one word

pub length-word : (order : Order) (word : ℕ) → length (word_in_order order word) ≡ 4
length-word Big word = refl
length-word Little word = refl

pub word_again : (order : Order) (word : ℕ) → word < 2 ^ 32 → word_from order (word_in_order order word) ≡ word
word_again Big word fits = from_be_bytes-to_be_bytes_4 word fits
word_again Little word fits = from_le_bytes-to_le_bytes_4 word fits

pub word_back : (order : Order) (bytes : List ℕ) → length bytes ≡ 4 → IsBytes bytes → word_in_order order
    (word_from order bytes) ≡ bytes
word_back Big bytes four fits = be_bytes_4 bytes _ four fits refl
word_back Little bytes four fits = le_bytes_4 bytes _ four fits refl

pub word_below : (order : Order) (bytes : List ℕ) → IsBytes bytes → word_from order bytes < 2 ^ 32
word_below Big bytes fits = omega (arith, fits 0, fits 1, fits 2, fits 3)
word_below Little bytes fits = omega (arith, fits 0, fits 1, fits 2, fits 3)

-- ---- lists of words

pub length-in_order : (order : Order) (words : List ℕ) → length (in_order order words) ≡ 4 * length words
length-in_order order [] = refl
length-in_order order (word ∷ words) =
    length-append (word_in_order order word) (in_order order words)
    ∙ omega (arith, length-word order word, length-in_order order words)

chunks_again : (order : Order) (words : List ℕ) → AreWords words → map (word_from order)
    (first_chunks 4 (length words) (in_order order words)) ≡ words
chunks_again order [] fit = refl
chunks_again order (word ∷ words) fit =
    let front = take_at (word_in_order order word) (in_order order words) 4 (length-word order word) in
    let back = drop_at (word_in_order order word) (in_order order words) 4 (length-word order word) in
    rw (front, back, word_again order word fit.0, chunks_again order words fit.1) refl

-- what was written is read
pub words_again : (order : Order) (words : List ℕ) → AreWords words → words_of order (in_order order words) ≡ words
words_again order words fit =
    let count : length (in_order order words) / 4 ≡ length words = omega (arith, length-in_order order words) in
    ap (λ (n : ℕ). map (word_from order) (first_chunks 4 n (in_order order words))) count ∙ chunks_again order words fit

chunks_back : (order : Order) (n : ℕ) (bytes : List ℕ) → length bytes ≡ 4 * n → IsBytes bytes
    → in_order order (map (word_from order) (first_chunks 4 n bytes)) ≡ bytes
chunks_back order zero [] len fits = refl
chunks_back order zero (byte ∷ bytes) len fits = absurd (omega arith)
chunks_back order (suc n) bytes len fits =
    let four : length (take 4 bytes) ≡ 4 = omega (arith, length-take 4 bytes) in
    let rest : length (drop 4 bytes) ≡ 4 * n = omega (arith, length-drop 4 bytes) in
    rw (
      word_back order (take 4 bytes) four (IsBytes-take 4 bytes fits),
      chunks_back order n (drop 4 bytes) rest
          (IsBytes-drop 4 bytes fits),
    ) (take-append-drop 4 bytes)

-- what is read is what was written
pub words_back : (order : Order) (bytes : List ℕ) → length bytes % 4 ≡ 0 → IsBytes bytes
    → in_order order (words_of order bytes) ≡ bytes
words_back order bytes whole fits = chunks_back order (length bytes / 4) bytes (omega arith) fits

chunks_fit : (order : Order) (n : ℕ) (bytes : List ℕ) → IsBytes bytes
    → AreWords (map (word_from order) (first_chunks 4 n bytes))
chunks_fit order zero bytes fits = tt
chunks_fit order (suc n) bytes fits = (
  word_below order (take 4 bytes) (IsBytes-take 4 bytes fits),
  chunks_fit order n
      (drop 4 bytes) (IsBytes-drop 4 bytes fits),
)

pub words_fit : (order : Order) (bytes : List ℕ) → IsBytes bytes → AreWords (words_of order bytes)
words_fit order bytes fits = chunks_fit order (length bytes / 4) bytes fits

length-chunks : (order : Order) (n : ℕ) (bytes : List ℕ) → length (map (word_from order) (first_chunks 4 n bytes)) ≡ n
length-chunks order zero bytes = refl
length-chunks order (suc n) bytes = ap suc (length-chunks order n (drop 4 bytes))

pub length-words_of : (order : Order) (bytes : List ℕ) → length (words_of order bytes) ≡ length bytes / 4
length-words_of order bytes = length-chunks order (length bytes / 4) bytes
