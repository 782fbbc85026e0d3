-- A spelling of replies is that of one list.
use Rattle.std.proofs.Common.{◌≡◌, ℕ, ◌+◌, List, [], ◌∷◌, ◌++◌, length, take, drop, refl, sym, ap}
use Rattle.std.proofs.Common.{ap₂, ◌∙◌, arith}
use Rattle.std.specs.Int.{w16, from_be_bytes}
use Rattle.std.specs.List.{AllByRecursion, flat_map}
use Rattle.std.proofs.lemmas.Nat.{from_be_bytes-to_be_bytes_2, from_be_bytes-to_be_bytes_4}
use Rattle.hub_framing.specs.Frames.{ReplyFrame, IsReplyFrame, reply_bytes, length_field}
use Rattle.hub_framing.proofs.FrameLemmas.{same_front}

field_is : (frame : ReplyFrame) (more : List ℕ) → IsReplyFrame frame
    → length_field (reply_bytes frame ++ more) ≡ length frame.packet + 8
field_is frame more is = from_be_bytes-to_be_bytes_4 (length frame.packet + 8) (omega (arith, is.longest))

board_is : (frame : ReplyFrame) (more : List ℕ) → IsReplyFrame frame
    → length_field (drop 4 (reply_bytes frame ++ more)) ≡ frame.board
board_is frame more is = from_be_bytes-to_be_bytes_4 frame.board is.board

code_is : (frame : ReplyFrame) (more : List ℕ) → IsReplyFrame frame
    → from_be_bytes w16 (take 2 (drop 8 (reply_bytes frame ++ more))) ≡ frame.code
code_is frame more is = from_be_bytes-to_be_bytes_2 frame.code is.code

reply_is : (one other : ReplyFrame) → one.board ≡ other.board → one.code ≡ other.code → one.packet ≡ other.packet
    → one ≡ other
reply_is one other board code packet =
    ap₂ (λ (b c : ℕ). record { board = b; code = c; packet = one.packet }) board code
    ∙ ap (λ (p : List ℕ). record { board = other.board; code = other.code; packet = p }) packet

one_front : (one other : ReplyFrame) (more rest : List ℕ) → IsReplyFrame one → IsReplyFrame other
    → reply_bytes one ++ more ≡ reply_bytes other ++ rest → (one ≡ other) × (more ≡ rest)
one_front one other more rest is also e =
    let long : length one.packet + 8 ≡ length other.packet + 8 =
    sym (field_is one more is) ∙ ap length_field e ∙ field_is other rest also in
    let board : one.board ≡ other.board =
    sym (board_is one more is) ∙ ap (λ (t : List ℕ). length_field (drop 4 t)) e ∙ board_is other rest also in
    let code : one.code ≡ other.code = sym (code_is one more is)
    ∙ ap (λ (t : List ℕ). from_be_bytes w16 (take 2 (drop 8 t))) e ∙ code_is other rest also in
    let packets = same_front one.packet other.packet more rest (omega (arith, long))
    (ap (λ (t : List ℕ). drop 12 t) e) in
    (reply_is one other board code packets.0, packets.1)

none_is_shorter : (frame : ReplyFrame) (frames : List ReplyFrame) → ¬ ([] ≡ flat_map reply_bytes (frame ∷ frames))
none_is_shorter frame frames e = absurd (omega (arith, ap (λ (t : List ℕ). length t) e))

pub one_list : (replies others : List ReplyFrame) → AllByRecursion IsReplyFrame replies
    → AllByRecursion IsReplyFrame others
    → flat_map reply_bytes replies ≡ flat_map reply_bytes others → replies ≡ others
one_list [] [] is also e = refl
one_list [] (g ∷ gs) is also e = absurd (none_is_shorter g gs e)
one_list (f ∷ fs) [] is also e = absurd (none_is_shorter f fs (sym e))
one_list (f ∷ fs) (g ∷ gs) is also e =
    let front = one_front f g (flat_map reply_bytes fs) (flat_map reply_bytes gs) is.0 also.0 e in
    ap₂ (λ (h : ReplyFrame) (t : List ReplyFrame). h ∷ t) front.0 (one_list fs gs is.1 also.1 front.1)
