-- What a source that tells had, and how its connection ended.
use Rattle.std.proofs.Common.{◌≡◌, ◌≢◌, ℕ, ◌-◌, ◌^◌, ◌≤◌, min, List, [], ◌++◌, length, Option, Some, None, inl, inr}
use Rattle.std.proofs.Common.{◌⊎◌, refl, sym, ap, ◌∙◌, subst, arith, append-nil, append_assoc, length-append}
use Rattle.std.proofs.lemmas.List.{length-map}
use Rattle.std.proofs.lemmas.Option.{same_Some, none-some}
use Rattle.std.specs.Int.{w32, from_be_bytes}
use Rattle.std.specs.Io.KnownBytes.{IsAtEnd, prepend_known}
use lib.Seq.{take-append-le}
use Rattle.hub_lane.specs.declared.answers.BoardState.{BoardState}
use Rattle.hub_multiplexer.specs.Seats.{SeatState}
use Rattle.hub_framing.specs.Frames.{RequestFrame, IsFrameStream, IsTooLong, IsTooShort, frames_bytes, length_field}
use Rattle.hub_framing.proofs.FrameLemmas.{one_reading, rest_has_none}
use Rattle.hub_session.specs.declared.served.Served.{Served}
use Rattle.hub_session.specs.declared.served.SessionEnd.{SessionEnd}
use Rattle.hub_session.specs.declared.served.SessionEnd.TheVariants as ends
use Rattle.hub_session.specs.Exchanges.{Exchange, frames_of}
use Rattle.hub_session.specs.Serving.{AnswersAll, IsByInput, IsEndAt, IsInputAt, IsServed}
use Rattle.hub_session.proofs.Connections.{bad_is_rest}

-- what was read, and what is left
record Split (bytes front : List ℕ) (left : Option (List ℕ)) : Type 0 where
  rest : List ℕ
  left_is : left ≡ Some rest
  bytes_are : bytes ≡ front ++ rest

split : (before : Option (List ℕ)) (bytes front : List ℕ) (left : Option (List ℕ)) → before ≡ Some bytes
    → before ≡ prepend_known front left → Split bytes front left
split before bytes front None told taken = absurd (none-some bytes (sym taken ∙ told))
split before bytes front (Some rest) told taken = record {
  rest = rest;
  left_is = refl;
  bytes_are = same_Some bytes (front ++ rest) (sym told ∙ taken);
}

at_end : (bytes front : List ℕ) (left : Option (List ℕ)) → Split bytes front left → IsAtEnd left → bytes ≡ front
at_end bytes front left s end =
    let none : s.rest ≡ [] = subst IsAtEnd s.left_is end in
    s.bytes_are ∙ (ap (λ (l : List ℕ). front ++ l) none ∙ append-nil front)

-- a length field out of range stays so
field_stays : (held more : List ℕ) → 4 ≤ length held → length_field (held ++ more) ≡ length_field held
field_stays held more come = ap (from_be_bytes w32) (take-append-le 4 held more come)

still_bad : (held more : List ℕ) → IsTooLong held ⊎ IsTooShort held
    → IsTooLong (held ++ more) ⊎ IsTooShort (held ++ more)
still_bad held more (inl long) =
    let come = long.0 in
    let high = long.1 in
    let same = field_stays held more long.0 in
    let all = length-append held more in
    inl (omega arith, omega arith)
still_bad held more (inr short) =
    let come = short.0 in
    let low = short.1 in
    let same = field_stays held more short.0 in
    let all = length-append held more in
    inr (omega arith, omega arith)

-- the frames that were read are those of the stream, and the connection ended behind them as the stream says
record Matches (frames others : List RequestFrame) (rest : List ℕ) (end : SessionEnd) : Type 0 where
  same : frames ≡ others
  ended : IsEndAt rest end

matches : (bytes read : List ℕ) (left : Option (List ℕ)) (frames others : List RequestFrame) (rest behind : List ℕ)
    (end : SessionEnd) → Split bytes read left → IsFrameStream bytes frames rest → IsFrameStream read others behind
    → IsByInput end → IsEndAt behind end → IsInputAt left end → Matches frames others rest end
matches bytes read left frames others rest behind ends.Closed s a b all at input =
    let one = one_reading bytes frames others rest behind a
    (subst (λ (l : List ℕ). IsFrameStream l others behind) (sym (at_end bytes read left s input)) b) in
    record { same = one.0; ended = one.1 ∙ at }
matches bytes read left frames others rest behind ends.CutFrame s a b all at input =
    let one = one_reading bytes frames others rest behind a
    (subst (λ (l : List ℕ). IsFrameStream l others behind) (sym (at_end bytes read left s input)) b) in
    record { same = one.0; ended = subst (λ (l : List ℕ). IsEndAt l ends.CutFrame) (sym one.1) at }
matches bytes read left frames others rest behind ends.BadFrame s a b all at input =
    let bad = still_bad behind s.rest at in
    let one = one_reading bytes frames others rest (behind ++ s.rest) a (record {
      whole = s.bytes_are ∙ (ap (λ (l : List ℕ). l ++ s.rest) b.whole
          ∙ append_assoc (frames_bytes others) behind s.rest);
      each = b.each;
      no_more = rest_has_none (behind ++ s.rest) (bad_is_rest (behind ++ s.rest) bad);
    }) in
    record { same = one.0; ended = subst (λ (l : List ℕ). IsEndAt l ends.BadFrame) (sym one.1) bad }
matches bytes read left frames others rest behind ends.ReadFault s a b all at input = absurd all
matches bytes read left frames others rest behind ends.WriteFault s a b all at input = absurd all
matches bytes read left frames others rest behind ends.NoMemory s a b all at input = absurd all

answers_all : (end : SessionEnd) → IsByInput end → AnswersAll end
answers_all ends.Closed by = tt
answers_all ends.CutFrame by = tt
answers_all ends.BadFrame by = tt
answers_all ends.ReadFault by = absurd by
answers_all ends.WriteFault by = absurd by
answers_all ends.NoMemory by = absurd by

pub by_input : (end : SessionEnd) → end ≢ ends.ReadFault → end ≢ ends.WriteFault → end ≢ ends.NoMemory → IsByInput end
by_input ends.Closed read write memory = tt
by_input ends.CutFrame read write memory = tt
by_input ends.BadFrame read write memory = tt
by_input ends.ReadFault read write memory = absurd (read refl)
by_input ends.WriteFault read write memory = absurd (write refl)
by_input ends.NoMemory read write memory = absurd (memory refl)

pub told_end : (boards : List BoardState) (old new : SeatState) (left_before left_after : Option (List ℕ))
    (written_before written_after : Option (List ℕ)) (served : Served)
    → IsServed boards old new left_before left_after written_before written_after served
    → (bytes : List ℕ) (frames : List RequestFrame) (rest : List ℕ) → left_before ≡ Some bytes
    → IsFrameStream bytes frames rest → IsByInput served.end
    → IsEndAt rest served.end × (served.frames ≡ min (length frames) (2 ^ 64 - 1))
told_end boards old new left_before left_after written_before written_after served s bytes frames rest told stream all =
    let m = matches bytes s.bytes left_after frames (frames_of s.answered) rest s.rest served.end
    (split left_before bytes s.bytes left_after told s.taken) stream
    (s.all_frames (answers_all served.end all)) all s.ended_at s.input in
    let long : length frames ≡ length s.answered = ap length m.same
    ∙ length-map s.answered (λ (e : Exchange). e.frame) in
    (m.ended, s.counted ∙ ap (λ (n : ℕ). min n (2 ^ 64 - 1)) (sym long))
