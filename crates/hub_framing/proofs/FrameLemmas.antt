-- Bytes that begin with a whole frame are its spelling and what follows, and a spelling is that of one frame.
use Rattle.std.proofs.Common.{◌≡◌, ℕ, ◌+◌, ◌-◌, ◌^◌, ◌<◌, ◌≤◌, List, [], ◌∷◌, ◌++◌, length, get_or, take, drop}
use Rattle.std.proofs.Common.{refl, sym, ap, ap₂, subst, ◌∙◌, append_assoc, append-nil, arith, inl, inr}
use Rattle.std.specs.Int.{w32, from_be_bytes}
use Rattle.std.specs.List.{AllByRecursion}
use Rattle.std.proofs.lemmas.Bool.{cases_lt}
use Rattle.std.proofs.lemmas.Grind.{flat_map-append}
use Rattle.std.proofs.lemmas.List.{take_at, drop_at, take-append-drop, drop-drop, length-append, length-take}
use Rattle.std.proofs.lemmas.List.{length-take-le, length-drop, get_or-drop, get_or-take, get_or_past}
use Rattle.std.proofs.lemmas.Nat.{be_bytes_4, from_be_bytes-to_be_bytes_4}
use Rattle.ipb_base.specs.Word.{IsWord, word_bytes}
use Rattle.ipb_base.proofs.AllLemmas.{AllByRecursion-append}
use Rattle.hub_framing.specs.Frames.{RequestFrame, IsFrame, IsFrameStream, frame_bytes, frames_bytes, request_length}
use Rattle.hub_framing.specs.Frames.{length_field}
use Rattle.hub_framing.specs.Inside.{IsWhole, IsRest}

-- ---- four bytes are the spelling of the number that they are

abbrev pub AreBytesAt : List ℕ → Type 0
AreBytesAt bytes = (i : ℕ) → get_or bytes i 0 < 256

AreBytesAt-drop : (n : ℕ) (bytes : List ℕ) → AreBytesAt bytes → AreBytesAt (drop n bytes)
AreBytesAt-drop n bytes fits i = rw get_or-drop (fits (n + i))

AreBytesAt-take : (n : ℕ) (bytes : List ℕ) → AreBytesAt bytes → AreBytesAt (take n bytes)
AreBytesAt-take n bytes fits i =
    elim (cases_lt i n) [
      | inl below ↦ rw (get_or-take n bytes i 0 below) (fits i)
      | inr past ↦ rw (get_or_past (take n bytes) i 0 (omega (arith, length-take n bytes))) (omega arith)
    ]

word_fits : (bytes : List ℕ) → AreBytesAt bytes → from_be_bytes w32 bytes < 2 ^ 32
word_fits bytes fits = omega (arith, fits 0, fits 1, fits 2, fits 3)

word_back : (bytes : List ℕ) (n : ℕ) → AreBytesAt bytes → 4 ≤ length bytes → n ≡ length_field bytes
    → word_bytes n ≡ take 4 bytes
word_back bytes n fits long e =
    be_bytes_4 (take 4 bytes) n (length-take-le 4 bytes long) (AreBytesAt-take 4 bytes fits) e

-- ---- bytes that begin with a whole frame

regroup : (field board packet rest : List ℕ)
    → (field ++ (board ++ packet)) ++ rest ≡ field ++ (board ++ (packet ++ rest))
regroup field board packet rest =
    append_assoc field (board ++ packet) rest ∙ ap (λ (t : List ℕ). field ++ t) (append_assoc board packet rest)

parts_of : (bytes : List ℕ) (n : ℕ) → 8 ≤ n
    → bytes ≡ take 4 bytes ++ (take 4 (drop 4 bytes) ++ (take (n - 8) (drop 8 bytes) ++ drop n bytes))
parts_of bytes n long =
    let last : drop (n - 8) (drop 8 bytes) ≡ drop n bytes = drop-drop (n - 8) 8 bytes
    ∙ ap (λ (k : ℕ). drop k bytes) (omega arith) in
    let packet : drop 8 bytes ≡ take (n - 8) (drop 8 bytes) ++ drop n bytes =
    sym (take-append-drop (n - 8) (drop 8 bytes))
    ∙ ap (λ (t : List ℕ). take (n - 8) (drop 8 bytes) ++ t) last in
    let board : drop 4 bytes ≡ take 4 (drop 4 bytes) ++ drop 8 bytes = sym (take-append-drop 4 (drop 4 bytes))
    ∙ ap (λ (t : List ℕ). take 4 (drop 4 bytes) ++ t) (drop-drop 4 4 bytes) in
    sym (take-append-drop 4 bytes)
    ∙ ap (λ (t : List ℕ). take 4 bytes ++ t) (board ∙ ap (λ (t : List ℕ). take 4 (drop 4 bytes) ++ t) packet)

pub front_is : (bytes : List ℕ) (n : ℕ) (frame : RequestFrame) → AreBytesAt bytes → IsWhole n bytes
    → frame.board ≡ length_field (drop 4 bytes) → frame.packet ≡ take (n - 8) (drop 8 bytes)
    → IsFrame frame × (bytes ≡ frame_bytes frame ++ drop n bytes)
front_is bytes n frame fits is board packet =
    let after_eight : length (drop 8 bytes) ≡ length bytes - 8 = length-drop 8 bytes in
    let after_four : length (drop 4 bytes) ≡ length bytes - 4 = length-drop 4 bytes in
    let long : length frame.packet ≡ n - 8 = ap (λ (t : List ℕ). length t) packet
    ∙ length-take-le (n - 8) (drop 8 bytes) (omega (arith, after_eight, is.field, is.least, is.counted, is.within)) in
    let board_fits : IsWord frame.board = subst (λ (k : ℕ). k < 2 ^ 32) (sym board)
    (word_fits (take 4 (drop 4 bytes)) (AreBytesAt-take 4 (drop 4 bytes) (AreBytesAt-drop 4 bytes fits))) in
    let counted : request_length frame ≡ length_field bytes =
    omega (arith, long, is.field, is.least, is.counted, is.within) in
    let field_back : word_bytes (request_length frame) ≡ take 4 bytes =
    word_back bytes (request_length frame) fits is.field counted in
    let board_back : word_bytes frame.board ≡ take 4 (drop 4 bytes) = word_back (drop 4 bytes) frame.board
    (AreBytesAt-drop 4 bytes fits) (omega (arith, after_four, is.field, is.least, is.counted, is.within)) board in
    let rest = drop n bytes in (
      record {
        board = board_fits;
        shortest = omega (arith, long, is.least, is.counted);
        longest = omega (arith, long, is.greatest, is.counted);
      },
      parts_of bytes n (omega (arith, is.least, is.counted))
          ∙ ap (λ (h : List ℕ). h ++ (take 4 (drop 4 bytes) ++ (take (n - 8) (drop 8 bytes) ++ rest))) (sym field_back)
          ∙ ap (λ (m : List ℕ). word_bytes (request_length frame) ++ (m ++ (take (n - 8) (drop 8 bytes) ++ rest)))
          (sym board_back)
          ∙ ap (λ (p : List ℕ). word_bytes (request_length frame) ++ (word_bytes frame.board ++ (p ++ rest)))
          (sym packet)
          ∙ sym (regroup (word_bytes (request_length frame)) (word_bytes frame.board) frame.packet rest),
    )

-- ---- a spelling is that of one frame

field_is : (frame : RequestFrame) (more : List ℕ) → IsFrame frame
    → length_field (frame_bytes frame ++ more) ≡ request_length frame
field_is frame more is = from_be_bytes-to_be_bytes_4 (request_length frame) (omega (arith, is.longest))

board_is : (frame : RequestFrame) (more : List ℕ) → IsFrame frame
    → length_field (drop 4 (frame_bytes frame ++ more)) ≡ frame.board
board_is frame more is = from_be_bytes-to_be_bytes_4 frame.board is.board

-- lists that begin with fronts of one length
pub same_front : (p q x y : List ℕ) → length p ≡ length q → p ++ x ≡ q ++ y → (p ≡ q) × (x ≡ y)
same_front p q x y long e = (
  sym (take_at p x (length q) long) ∙ ap (λ (t : List ℕ). take (length q) t) e ∙ take_at q y (length q) refl,
  sym (drop_at p x (length q) long) ∙ ap (λ (t : List ℕ). drop (length q) t) e ∙ drop_at q y (length q) refl,
)

frame_is : (one other : RequestFrame) → one.board ≡ other.board → one.packet ≡ other.packet → one ≡ other
frame_is one other board packet =
    ap₂ (λ (b : ℕ) (p : List ℕ). record { board = b; packet = p }) board packet

pub one_front : (one other : RequestFrame) (more rest : List ℕ) → IsFrame one → IsFrame other
    → frame_bytes one ++ more ≡ frame_bytes other ++ rest → (one ≡ other) × (more ≡ rest)
one_front one other more rest is also e =
    let long : request_length one ≡ request_length other =
    sym (field_is one more is) ∙ ap length_field e ∙ field_is other rest also in
    let board : one.board ≡ other.board =
    sym (board_is one more is) ∙ ap (λ (t : List ℕ). length_field (drop 4 t)) e ∙ board_is other rest also in
    let packets = same_front one.packet other.packet more rest (omega (arith, long))
    (ap (λ (t : List ℕ). drop 8 t) e) in
    (frame_is one other board packets.0, packets.1)

-- ---- a stream has one list of frames and one rest

frame_at_front : (bytes : List ℕ) (frame : RequestFrame) (frames : List RequestFrame) (rest : List ℕ)
    → bytes ≡ frames_bytes (frame ∷ frames) ++ rest → bytes ≡ frame_bytes frame ++ (frames_bytes frames ++ rest)
frame_at_front bytes frame frames rest e = e ∙ append_assoc (frame_bytes frame) (frames_bytes frames) rest

pub one_reading : (bytes : List ℕ) (frames others : List RequestFrame) (rest left : List ℕ)
    → IsFrameStream bytes frames rest → IsFrameStream bytes others left → (frames ≡ others) × (rest ≡ left)
one_reading bytes [] [] rest left a b = (refl, sym a.whole ∙ b.whole)
one_reading bytes [] (g ∷ gs) rest left a b =
    absurd (a.no_more g (frames_bytes gs ++ left) b.each.0 (sym a.whole ∙ frame_at_front bytes g gs left b.whole))
one_reading bytes (f ∷ fs) [] rest left a b =
    absurd (b.no_more f (frames_bytes fs ++ rest) a.each.0 (sym b.whole ∙ frame_at_front bytes f fs rest a.whole))
one_reading bytes (f ∷ fs) (g ∷ gs) rest left a b =
    let front = one_front f g (frames_bytes fs ++ rest) (frames_bytes gs ++ left) a.each.0 b.each.0
    (sym (frame_at_front bytes f fs rest a.whole) ∙ frame_at_front bytes g gs left b.whole) in
    let more = one_reading (frames_bytes fs ++ rest) fs gs rest left
    (record { whole = refl; each = a.each.1; no_more = a.no_more })
    (record { whole = front.1; each = b.each.1; no_more = b.no_more }) in
    (ap₂ (λ (h : RequestFrame) (t : List RequestFrame). h ∷ t) front.0 more.0, more.1)

-- no frame is at the front of what is no whole frame
pub rest_has_none : (rest : List ℕ) → IsRest rest → (frame : RequestFrame) (more : List ℕ) → IsFrame frame
    → ¬ (rest ≡ frame_bytes frame ++ more)
rest_has_none rest is frame more fits e =
    let long : length rest ≡ 8 + (length frame.packet + length more) =
    ap (λ (t : List ℕ). length t) e ∙ omega (arith, length-append frame.packet more) in
    let shown : length_field rest ≡ request_length frame = ap length_field e ∙ field_is frame more fits in
    let short = is (omega (arith, long)) (omega (arith, shown, fits.shortest)) (omega (arith, shown, fits.longest)) in
    absurd (omega (arith, long, shown, short))

-- what a framer holds is its frames and its rest
pub held_is_stream : (waiting : List RequestFrame) (begun : List ℕ) → AllByRecursion IsFrame waiting → IsRest begun
    → IsFrameStream (frames_bytes waiting ++ begun) waiting begun
held_is_stream waiting begun each is = record { whole = refl; each = each; no_more = rest_has_none begun is }

pub one_more_frame : (frames : List RequestFrame) (frame : RequestFrame) → AllByRecursion IsFrame frames → IsFrame frame
    → AllByRecursion IsFrame (frames ++ frame ∷ [])
one_more_frame frames frame each is = AllByRecursion-append IsFrame frames (frame ∷ []) each (is, tt)

pub more_frames : (frames others : List RequestFrame) → AllByRecursion IsFrame frames → AllByRecursion IsFrame others
    → AllByRecursion IsFrame (frames ++ others)
more_frames frames others each more = AllByRecursion-append IsFrame frames others each more

-- a frame at the front of bytes is put behind others
pub one_more_spelling : (frames : List RequestFrame) (frame : RequestFrame) (bytes rest : List ℕ)
    → bytes ≡ frame_bytes frame ++ rest → frames_bytes frames ++ bytes ≡ frames_bytes (frames ++ frame ∷ []) ++ rest
one_more_spelling frames frame bytes rest front =
    ap (λ (t : List ℕ). frames_bytes frames ++ t)
    (front ∙ ap (λ (t : List ℕ). t ++ rest) (sym (append-nil (frame_bytes frame))))
    ∙ sym (append_assoc (frames_bytes frames) (frames_bytes (frame ∷ [])) rest)
    ∙ ap (λ (t : List ℕ). t ++ rest) (sym (flat_map-append frame_bytes frames (frame ∷ [])))
