-- A connection from its start to its end.
use Rattle.std.proofs.Common.{◌≡◌, ℕ, ◌+◌, ◌-◌, ◌^◌, min, List, [], ◌∷◌, ◌++◌, length, Option, Some, None}
use Rattle.std.proofs.Common.{take, ◌<◌}
use Rattle.std.proofs.Common.{inl, inr, ◌⊎◌, refl, sym, ap, ◌∙◌, subst, arith, append-nil, append_assoc, length-append}
use Rattle.std.proofs.lemmas.List.{map-append}
use Rattle.std.proofs.lemmas.Grind.{flat_map-append}
use Rattle.std.specs.List.{AllByRecursion}
use Rattle.std.specs.Io.KnownBytes.{append_known, prepend_known, IsAtEnd}
use Rattle.ipb_outside.proofs.Told.{appended, prepended}
use Rattle.hub_lane.specs.declared.answers.BoardState.{BoardState}
use Rattle.hub_multiplexer.specs.Seats.{SeatState}
use Rattle.hub_framing.specs.Frames.{RequestFrame, IsBegun, IsFrame, IsFrameStream, IsTooLong, IsTooShort, frame_bytes}
use Rattle.hub_framing.specs.Frames.{frames_bytes}
use Rattle.hub_framing.specs.Inside.{IsRest}
use Rattle.hub_framing.proofs.FrameLemmas.{held_is_stream, more_frames, one_more_frame, one_more_spelling}
use Rattle.hub_framing.proofs.FrameLemmas.{rest_has_none}
use Rattle.hub_framing.specs.declared.framer.FrameRefusal.{FrameRefusal}
use Rattle.hub_framing.specs.declared.framer.FrameRefusal.TheVariants as refusals
use Rattle.hub_session.specs.declared.got.Got.{Got}
use Rattle.hub_session.specs.declared.got.Got.TheVariants.{NotAsked, Refused, Came}
use Rattle.hub_session.specs.declared.served.SessionEnd.{SessionEnd}
use Rattle.hub_session.specs.declared.served.SessionEnd.TheVariants as ends
use Rattle.hub_session.specs.Exchanges.{Exchange, Exchanges, ExchangesAll, ExchangesFor, GrewBy, HasCome, IsExchange}
use Rattle.hub_session.specs.Exchanges.{IsGotFor, LaneRequest, WasRefused, answers, frames_of, request_of}
use Rattle.hub_session.specs.Serving.{AnswersAll, AskedToo, Exchanged, HasAskedToo, HasPlannedOnly, IsEndAt, IsInputAt}
use Rattle.hub_session.specs.Serving.{IsPartAt, IsUnused, Looked, PlannedOnly, Reached, Reaches, ReachesFor}
use Rattle.hub_session.specs.Serving.{Unanswered, frame_left}
use Rattle.hub_session.specs.declared.progress.Replies.{Replies}
use Rattle.hub_session.specs.Inside.{AreWaiting, AreWholeIn, ComesToEnd, Connection, GoesOn, HasAnswered, IsServing}
use Rattle.hub_session.specs.Inside.{IsAtInputEnd, Opening, StandsOf}
use Rattle.hub_session.proofs.Entries.{served_on}
use Rattle.hub_session.proofs.Seats.{as_many}
use Rattle.hub_session.proofs.Waiting.{answers_append, cut_at, none_waiting, one_more_waits, waiting_count}

appended_none : (known : Option (List ℕ)) → known ≡ append_known known []
appended_none None = refl
appended_none (Some bytes) = ap Some (sym (append-nil bytes))

prepended_none : (known : Option (List ℕ)) → known ≡ prepend_known [] known
prepended_none None = refl
prepended_none (Some bytes) = refl

-- ---- exchanges

exchange_is : (request : Option LaneRequest) (got : Got) (old new : SeatState) → ExchangesFor request got old new
    → IsGotFor request got
exchange_is None NotAsked old new e = tt
exchange_is None (Refused why) old new e = absurd e
exchange_is None (Came outcome) old new e = absurd e
exchange_is (Some request) NotAsked old new e = absurd e
exchange_is (Some request) (Refused why) old new e = tt
exchange_is (Some request) (Came outcome) old new e = e.relation.short

exchanges_are : (boards : List BoardState) (es : List Exchange) (old new : SeatState) → ExchangesAll boards es old new
    → AllByRecursion (IsExchange boards) es
exchanges_are boards [] old new all = tt
exchanges_are boards (e ∷ es) old new all =
    (exchange_is (request_of boards e.frame) e.got old all.0 all.1, exchanges_are boards es all.0 new all.2)

one_more_exchange : (boards : List BoardState) (es : List Exchange) (e : Exchange) (old mid new : SeatState)
    → ExchangesAll boards es old mid → Exchanges boards e mid new → ExchangesAll boards (es ++ e ∷ []) old new
one_more_exchange boards [] e old mid new all one =
    (new, subst (λ (s : SeatState). Exchanges boards e s new) all one, refl)
one_more_exchange boards (x ∷ es) e old mid new all one =
    (all.0, all.1, one_more_exchange boards es e all.0 mid new all.2 one)

-- the seat knows as many lanes as before

exchange_keeps : (request : Option LaneRequest) (got : Got) (old new : SeatState) → ExchangesFor request got old new
    → length new.knows ≡ length old.knows
exchange_keeps None NotAsked old new e = ap (λ (s : SeatState). length s.knows) e
exchange_keeps None (Refused why) old new e = absurd e
exchange_keeps None (Came outcome) old new e = absurd e
exchange_keeps (Some request) NotAsked old new e = absurd e
exchange_keeps (Some request) (Refused why) old new e =
    as_many request.lane old new (WasRefused request.body why) e
exchange_keeps (Some request) (Came outcome) old new e =
    as_many request.lane old new (HasCome request.body outcome) e

exchanges_keep : (boards : List BoardState) (es : List Exchange) (old new : SeatState) → ExchangesAll boards es old new
    → length new.knows ≡ length old.knows
exchanges_keep boards [] old new all = ap (λ (s : SeatState). length s.knows) all
exchanges_keep boards (e ∷ es) old new all = exchanges_keep boards es all.0 new all.2
    ∙ exchange_keeps (request_of boards e.frame) e.got old all.0 all.1

reaching_keeps : (request : Option LaneRequest) (reached : Reached) (old new : SeatState)
    → ReachesFor request reached old new → length new.knows ≡ length old.knows
reaching_keeps request (Exchanged got) old new e = exchange_keeps request got old new e
reaching_keeps None Looked old new e = absurd e
reaching_keeps None PlannedOnly old new e = absurd e
reaching_keeps None AskedToo old new e = absurd e
reaching_keeps (Some request) Looked old new e = as_many request.lane old new (GrewBy []) e
reaching_keeps (Some request) PlannedOnly old new e = as_many request.lane old new (HasPlannedOnly request.body) e
reaching_keeps (Some request) AskedToo old new e = as_many request.lane old new (HasAskedToo request.body) e

reaches_keeps : (boards : List BoardState) (unanswered : Option Unanswered) (old new : SeatState)
    → Reaches boards unanswered old new → length new.knows ≡ length old.knows
reaches_keeps boards None old new e = ap (λ (s : SeatState). length s.knows) e
reaches_keeps boards (Some u) old new e = reaching_keeps (request_of boards u.frame) u.reached old new e

-- ---- a connection goes on

pub begins : (boards : List BoardState) (start : Opening) (now : Connection) → AllByRecursion IsUnused start.seat.knows
    → now.seat ≡ start.seat → now.left ≡ start.left → now.written ≡ start.written → now.held ≡ []
    → now.replies.bytes.items ≡ [] → now.replies.lengths.items ≡ [] → now.frames ≡ 0 → IsServing boards start now
begins boards start now unused seat left written held bytes lengths none = record {
  unused = unused;
  bytes = [];
  taken = sym left ∙ prepended_none now.left;
  answered = [];
  waiting = [];
  fed = sym held;
  each_frame = tt;
  counted = none;
  written_are = written ∙ appended_none start.written;
  waiting_are = record { bytes_are = bytes; lengths_are = lengths };
  exchanged = seat;
}

-- a frame was handed out and answered
pub answered_one : (boards : List BoardState) (start : Opening) (old new : Connection) (frame : RequestFrame)
    → IsServing boards start old → IsFrame frame → old.held ≡ frame_bytes frame ++ new.held → new.left ≡ old.left
    → new.written ≡ old.written → new.frames ≡ old.frames
    → HasAnswered boards frame old.seat new.seat old.replies new.replies → IsServing boards start new
answered_one boards start old new frame s is front left written frames h =
    let e : Exchange = record { frame = frame; got = h.got } in
    let all = s.answered ++ s.waiting in
    let assoc = append_assoc s.answered s.waiting (e ∷ []) in
    let as_frames : frames_of (s.answered ++ (s.waiting ++ e ∷ [])) ≡ frames_of all ++ frame ∷ [] =
    ap frames_of (sym assoc) ∙ map-append (λ (x : Exchange). x.frame) all (e ∷ []) in
    record {
      unused = s.unused;
      bytes = s.bytes;
      taken = s.taken ∙ ap (prepend_known s.bytes) (sym left);
      answered = s.answered;
      waiting = s.waiting ++ e ∷ [];
      fed = s.fed ∙ (one_more_spelling (frames_of all) frame old.held new.held front
          ∙ ap (λ (l : List RequestFrame). frames_bytes l ++ new.held) (sym as_frames));
      each_frame = subst (AllByRecursion IsFrame) (sym as_frames)
          (one_more_frame (frames_of all) frame s.each_frame is);
      counted = frames ∙ s.counted;
      written_are = written ∙ s.written_are;
      waiting_are = one_more_waits boards old.replies new.replies s.waiting e s.waiting_are h.bytes_now h.lengths_now;
      exchanged = subst (λ (l : List Exchange). ExchangesAll boards l start.seat new.seat) assoc
          (one_more_exchange boards all e start.seat old.seat new.seat s.exchanged h.exchanged);
    }

counted_all : (n m waits k : ℕ) → n ≡ min m (2 ^ 64 - 1) → waits ≡ k
    → min (n + waits) (2 ^ 64 - 1) ≡ min (m + k) (2 ^ 64 - 1)
counted_all n m waits k e f = omega (arith, e, f)

-- all that waited was written
pub all_written : (boards : List BoardState) (start : Opening) (old new : Connection) → IsServing boards start old
    → new.seat ≡ old.seat → new.left ≡ old.left → new.held ≡ old.held
    → new.written ≡ append_known old.written old.replies.bytes.items
    → new.frames ≡ min (old.frames + length old.replies.lengths.items) (2 ^ 64 - 1)
    → new.replies.bytes.items ≡ [] → new.replies.lengths.items ≡ [] → IsServing boards start new
all_written boards start old new s seat left held written frames bytes lengths =
    let all = s.answered ++ s.waiting in
    let same = append-nil all in
    let count = counted_all old.frames (length s.answered) (length old.replies.lengths.items) (length s.waiting)
    s.counted (waiting_count boards old.replies s.waiting s.waiting_are) in
    record {
      unused = s.unused;
      bytes = s.bytes;
      taken = s.taken ∙ ap (prepend_known s.bytes) (sym left);
      answered = all;
      waiting = [];
      fed = s.fed ∙ (ap (λ (l : List Exchange). frames_bytes (frames_of l) ++ old.held) (sym same)
          ∙ ap (λ (l : List ℕ). frames_bytes (frames_of (all ++ [])) ++ l) (sym held));
      each_frame = subst (λ (l : List Exchange). AllByRecursion IsFrame (frames_of l)) (sym same) s.each_frame;
      counted = frames ∙ (count ∙ ap (λ (n : ℕ). min n (2 ^ 64 - 1)) (sym (length-append s.answered s.waiting)));
      written_are = written ∙ (ap (λ w. append_known w old.replies.bytes.items) s.written_are
          ∙ (appended start.written (answers boards s.answered) old.replies.bytes.items
          ∙ ap (append_known start.written)
          (ap (λ (l : List ℕ). answers boards s.answered ++ l) s.waiting_are.bytes_are
          ∙ sym (answers_append boards s.answered s.waiting))));
      waiting_are = record { bytes_are = bytes; lengths_are = lengths };
      exchanged = subst (λ (l : List Exchange). ExchangesAll boards l start.seat new.seat) (sym same)
          (subst (ExchangesAll boards all start.seat) (sym seat) s.exchanged);
    }

-- a piece was read and fed
pub fed_more : (boards : List BoardState) (start : Opening) (old new : Connection) (piece : List ℕ) → IsServing boards start old
    → old.left ≡ prepend_known piece new.left → new.held ≡ old.held ++ piece → new.seat ≡ old.seat
    → new.written ≡ old.written → new.replies ≡ old.replies → new.frames ≡ old.frames → IsServing boards start new
fed_more boards start old new piece s left held seat written replies frames =
    let all = s.answered ++ s.waiting in record {
      unused = s.unused;
      bytes = s.bytes ++ piece;
      taken = s.taken ∙ (ap (prepend_known s.bytes) left ∙ prepended s.bytes piece new.left);
      answered = s.answered;
      waiting = s.waiting;
      fed = ap (λ (l : List ℕ). l ++ piece) s.fed ∙ (append_assoc (frames_bytes (frames_of all)) old.held piece
          ∙ ap (λ (l : List ℕ). frames_bytes (frames_of all) ++ l) (sym held));
      each_frame = s.each_frame;
      counted = frames ∙ s.counted;
      written_are = written ∙ s.written_are;
      waiting_are = subst (λ (r : Replies). AreWaiting boards r s.waiting) (sym replies) s.waiting_are;
      exchanged = subst (ExchangesAll boards all start.seat) (sym seat) s.exchanged;
    }

-- ---- a connection ends

-- How it ends, where these answers waited to be written: the bytes that were read last, which of those answers were
-- written whole, the frame without an answer, and what stands behind all.
pub record Last (boards : List BoardState) (old new : Connection) (end : SessionEnd) (waiting : List Exchange)
    : Type 0 where
  pub piece : List ℕ
  pub whole : List Exchange
  pub unwritten : List Exchange
  pub unanswered : Option Unanswered
  pub rest : List ℕ
  pub part : List ℕ
  pub waited : waiting ≡ whole ++ unwritten
  pub read : old.left ≡ prepend_known piece new.left
  pub held : old.held ++ piece ≡ frames_bytes (frame_left unanswered) ++ rest
  pub each_frame : AllByRecursion IsFrame (frame_left unanswered)
  pub counted : (before : ℕ) → old.frames ≡ min before (2 ^ 64 - 1)
      → new.frames ≡ min (before + length whole) (2 ^ 64 - 1)
  pub written : new.written ≡ append_known old.written (answers boards whole ++ part)
  pub reached : Reaches boards unanswered old.seat new.seat
  pub no_more : AnswersAll end → (unwritten ≡ []) × (frame_left unanswered ≡ [])
      × ((frame : RequestFrame) (more : List ℕ) → IsFrame frame → ¬ (rest ≡ frame_bytes frame ++ more))
  pub part_of : IsPartAt boards unwritten unanswered part end
  pub ended_at : IsEndAt rest end
  pub input : IsInputAt new.left end

pub comes_to_end : (boards : List BoardState) (old new : Connection) (end : SessionEnd)
    → ((waiting : List Exchange) → AreWaiting boards old.replies waiting → Last boards old new end waiting)
    → ComesToEnd boards old new end
comes_to_end boards old new end last start s =
    let l = last s.waiting s.waiting_are in
    let answered = s.answered ++ l.whole in
    let all = answered ++ l.unwritten in
    let same : s.answered ++ s.waiting ≡ all = ap (λ (w : List Exchange). s.answered ++ w) l.waited
    ∙ sym (append_assoc s.answered l.whole l.unwritten) in
    let front = frames_of all in
    let more = frame_left l.unanswered in
    let bytes = s.bytes ++ l.piece in
    let before : s.bytes ≡ frames_bytes front ++ old.held = s.fed
    ∙ ap (λ (es : List Exchange). frames_bytes (frames_of es) ++ old.held) same in
    let fed : bytes ≡ frames_bytes (front ++ more) ++ l.rest = ap (λ (b : List ℕ). b ++ l.piece) before
    ∙ (append_assoc (frames_bytes front) old.held l.piece
    ∙ (ap (λ (b : List ℕ). frames_bytes front ++ b) l.held
    ∙ (sym (append_assoc (frames_bytes front) (frames_bytes more) l.rest)
    ∙ ap (λ (b : List ℕ). b ++ l.rest) (sym (flat_map-append frame_bytes front more))))) in
    let each = more_frames front more
    (subst (λ (es : List Exchange). AllByRecursion IsFrame (frames_of es)) same s.each_frame) l.each_frame in
    let exchanged = subst (λ (es : List Exchange). ExchangesAll boards es start.seat old.seat) same s.exchanged in
    record {
      bytes = bytes;
      taken = s.taken ∙ (ap (prepend_known s.bytes) l.read ∙ prepended s.bytes l.piece new.left);
      answered = answered;
      unwritten = l.unwritten;
      unanswered = l.unanswered;
      rest = l.rest;
      frames = fed;
      each_frame = each;
      all_frames = λ ends_all. let none : front ++ more ≡ frames_of answered =
          ap (λ (m : List RequestFrame). front ++ m) (l.no_more ends_all).1 ∙ (append-nil front
          ∙ (ap (λ (u : List Exchange). frames_of (answered ++ u)) (l.no_more ends_all).0
          ∙ ap frames_of (append-nil answered))) in
          record {
            whole = fed ∙ ap (λ (m : List RequestFrame). frames_bytes m ++ l.rest) none;
            each = subst (AllByRecursion IsFrame) none each;
            no_more = (l.no_more ends_all).2;
          };
      counted = l.counted (length s.answered) s.counted
          ∙ ap (λ (n : ℕ). min n (2 ^ 64 - 1)) (sym (length-append s.answered l.whole));
      part = l.part;
      written = l.written ∙ (ap (λ w. append_known w (answers boards l.whole ++ l.part)) s.written_are
          ∙ (appended start.written (answers boards s.answered) (answers boards l.whole ++ l.part)
          ∙ ap (append_known start.written)
          (sym (append_assoc (answers boards s.answered) (answers boards l.whole) l.part)
          ∙ ap (λ (b : List ℕ). b ++ l.part) (sym (answers_append boards s.answered l.whole)))));
      part_of = l.part_of;
      exchanges = exchanges_are boards all start.seat old.seat exchanged;
      between = old.seat;
      exchanged = exchanged;
      reached = l.reached;
      known = reaches_keeps boards l.unanswered old.seat new.seat l.reached
          ∙ exchanges_keep boards all start.seat old.seat exchanged;
      on_lanes = served_on boards all l.unanswered start.seat old.seat new.seat s.unused exchanged l.reached;
      ended_at = l.ended_at;
      input = l.input;
    }

counts_none : (old new before : ℕ) → new ≡ old → old ≡ min before (2 ^ 64 - 1) → new ≡ min (before + 0) (2 ^ 64 - 1)
counts_none old new before same e = omega (arith, same, e)

-- what is held is the rest
begun_is_rest : (held : List ℕ) → IsBegun held → IsRest held
begun_is_rest held begun come least greatest = (begun come).2

pub bad_is_rest : (held : List ℕ) → IsTooLong held ⊎ IsTooShort held → IsRest held
bad_is_rest held (inl long) come least greatest = let l = long.1 in absurd (omega arith)
bad_is_rest held (inr short) come least greatest = let s = short.1 in absurd (omega arith)

-- behind what is held, where no answer waits to be written
pub ends_at_rest : (boards : List BoardState) (old new : Connection) (end : SessionEnd) → IsRest old.held
    → old.replies.lengths.items ≡ [] → new.left ≡ old.left → new.seat ≡ old.seat → new.written ≡ old.written
    → new.frames ≡ old.frames → IsPartAt boards [] None [] end → IsEndAt old.held end → IsInputAt new.left end
    → ComesToEnd boards old new end
ends_at_rest boards old new end rest none left seat written frames part at input =
    comes_to_end boards old new end (λ waiting are. record {
      piece = [];
      whole = [];
      unwritten = [];
      unanswered = None;
      rest = old.held;
      part = [];
      waited = none_waiting boards old.replies waiting are none;
      read = sym left ∙ prepended_none new.left;
      held = append-nil old.held;
      each_frame = tt;
      counted = λ before e. counts_none old.frames new.frames before frames e;
      written = written ∙ appended_none old.written;
      reached = seat;
      no_more = λ all. (refl, refl, rest_has_none old.held rest);
      part_of = part;
      ended_at = at;
      input = input;
    })

no_part : (end : SessionEnd) (boards : List BoardState) → AnswersAll end → IsPartAt boards [] None [] end
no_part ends.Closed boards all = (refl, refl, refl)
no_part ends.CutFrame boards all = (refl, refl, refl)
no_part ends.BadFrame boards all = (refl, refl, refl)
no_part ends.ReadFault boards all = (refl, refl, refl)
no_part ends.WriteFault boards all = absurd all
no_part ends.NoMemory boards all = absurd all

-- by a length field out of range
pub ends_badly : (boards : List BoardState) (old new : Connection) → IsTooLong old.held ⊎ IsTooShort old.held
    → old.replies.lengths.items ≡ [] → new.left ≡ old.left → new.seat ≡ old.seat → new.written ≡ old.written
    → new.frames ≡ old.frames → ComesToEnd boards old new ends.BadFrame
ends_badly boards old new bad none left seat written frames = ends_at_rest boards old new ends.BadFrame
    (bad_is_rest old.held bad) none left seat written frames (no_part ends.BadFrame boards tt) bad tt

-- by a fault of reading
pub ends_unread : (boards : List BoardState) (old new : Connection) → IsBegun old.held
    → old.replies.lengths.items ≡ [] → new.left ≡ old.left → new.seat ≡ old.seat → new.written ≡ old.written
    → new.frames ≡ old.frames → ComesToEnd boards old new ends.ReadFault
ends_unread boards old new begun none left seat written frames = ends_at_rest boards old new ends.ReadFault
    (begun_is_rest old.held begun) none left seat written frames (no_part ends.ReadFault boards tt) begun tt

of_input : (end : SessionEnd) → IsAtInputEnd end → AnswersAll end
of_input ends.Closed is = tt
of_input ends.CutFrame is = tt
of_input ends.BadFrame is = absurd is
of_input ends.ReadFault is = absurd is
of_input ends.WriteFault is = absurd is
of_input ends.NoMemory is = absurd is

-- by the end of the input
pub ends_with_input : (boards : List BoardState) (old new : Connection) (end : SessionEnd) → IsBegun old.held
    → old.replies.lengths.items ≡ [] → new.left ≡ old.left → new.seat ≡ old.seat → new.written ≡ old.written
    → new.frames ≡ old.frames → IsAtInputEnd end → IsEndAt old.held end → IsInputAt new.left end
    → ComesToEnd boards old new end
ends_with_input boards old new end begun none left seat written frames of at input = ends_at_rest boards old new end
    (begun_is_rest old.held begun) none left seat written frames (no_part end boards (of_input end of)) at input

-- By want of memory: these bytes were read last, and the answers that wait are not written. There may be a frame
-- without an answer.
ends_short : (boards : List BoardState) (old new : Connection) (piece rest : List ℕ) (unanswered : Option Unanswered)
    → old.left ≡ prepend_known piece new.left → old.held ++ piece ≡ frames_bytes (frame_left unanswered) ++ rest
    → AllByRecursion IsFrame (frame_left unanswered) → new.written ≡ old.written → new.frames ≡ old.frames
    → Reaches boards unanswered old.seat new.seat → ComesToEnd boards old new ends.NoMemory
ends_short boards old new piece rest unanswered left held each written frames reached =
    comes_to_end boards old new ends.NoMemory (λ waiting are. record {
      piece = piece;
      whole = [];
      unwritten = waiting;
      unanswered = unanswered;
      rest = rest;
      part = [];
      waited = refl;
      read = left;
      held = held;
      each_frame = each;
      counted = λ before e. counts_none old.frames new.frames before frames e;
      written = written ∙ appended_none old.written;
      reached = reached;
      no_more = λ all. absurd all;
      part_of = refl;
      ended_at = tt;
      input = tt;
    })

-- by want of memory for a piece
pub ends_unfed : (boards : List BoardState) (old new : Connection) (piece : List ℕ)
    → old.left ≡ prepend_known piece new.left → new.seat ≡ old.seat → new.written ≡ old.written
    → new.frames ≡ old.frames → ComesToEnd boards old new ends.NoMemory
ends_unfed boards old new piece left seat written frames =
    ends_short boards old new piece (old.held ++ piece) None left refl tt written frames seat

-- by want of memory for an answer
pub ends_unanswered : (boards : List BoardState) (old new : Connection) (frame : RequestFrame) (rest : List ℕ)
    → IsFrame frame → old.held ≡ frame_bytes frame ++ rest → new.left ≡ old.left → new.written ≡ old.written
    → new.frames ≡ old.frames → StandsOf boards frame old.seat new.seat → ComesToEnd boards old new ends.NoMemory
ends_unanswered boards old new frame rest is front left written frames (inl same) =
    ends_unfed boards old new [] (sym left ∙ prepended_none new.left) same written frames
ends_unanswered boards old new frame rest is front left written frames (inr reached) =
    let u : Unanswered = record { frame = frame; reached = reached.0 } in
    ends_short boards old new [] rest (Some u) (sym left ∙ prepended_none new.left)
    (append-nil old.held ∙ (front ∙ ap (λ (l : List ℕ). l ++ rest) (sym (append-nil (frame_bytes frame)))))
    (is, tt) written frames reached.1

counts_whole : (old new whole before count : ℕ) → new ≡ min (old + whole) (2 ^ 64 - 1)
    → old ≡ min before (2 ^ 64 - 1) → whole ≡ count → new ≡ min (before + count) (2 ^ 64 - 1)
counts_whole old new whole before count n o c = omega (arith, n, o, c)

-- by a fault of writing, behind so many bytes of what waited
pub ends_unwritten : (boards : List BoardState) (old new : Connection) (done whole : ℕ) → new.left ≡ old.left
    → new.seat ≡ old.seat → done < length old.replies.bytes.items → AreWholeIn old.replies.lengths.items done whole
    → new.written ≡ append_known old.written (take done old.replies.bytes.items)
    → new.frames ≡ min (old.frames + whole) (2 ^ 64 - 1) → ComesToEnd boards old new ends.WriteFault
ends_unwritten boards old new done whole left seat below are_whole written frames =
    comes_to_end boards old new ends.WriteFault (λ waiting are.
    let c = cut_at boards old.replies waiting done whole are below are_whole in record {
      piece = [];
      whole = c.whole;
      unwritten = c.next ∷ c.later;
      unanswered = None;
      rest = old.held;
      part = c.part;
      waited = c.all;
      read = sym left ∙ prepended_none new.left;
      held = append-nil old.held;
      each_frame = tt;
      counted = λ before e. counts_whole old.frames new.frames whole before (length c.whole) frames e c.count_is;
      written = written ∙ ap (append_known old.written)
          (ap (take done) are.bytes_are ∙ c.bytes);
      reached = seat;
      no_more = λ all. absurd all;
      part_of = (refl, c.next, c.later, refl, c.is_part);
      ended_at = tt;
      input = tt;
    })

-- ---- one part of a connection behind another

pub goes_then : (boards : List BoardState) (a b c : Connection) → GoesOn boards a b → GoesOn boards b c
    → GoesOn boards a c
goes_then boards a b c one two start s = two start (one start s)

pub goes_then_ends : (boards : List BoardState) (a b c : Connection) (end : SessionEnd) → GoesOn boards a b
    → ComesToEnd boards b c end → ComesToEnd boards a c end
goes_then_ends boards a b c end one two start s = two start (one start s)

-- ---- what is held is the rest of the stream

empty : (bytes : List ℕ) → length bytes ≡ 0 → bytes ≡ []
empty [] e = refl
empty (byte ∷ bytes) e = absurd (omega (arith, e))

pub begun_stream : (held : List ℕ) → IsBegun held → IsFrameStream held [] held
begun_stream held begun = held_is_stream [] held tt (begun_is_rest held begun)

pub nothing_held : (held : List ℕ) (n : ℕ) → IsBegun held
    → ((frames : List RequestFrame) (rest : List ℕ) → IsFrameStream held frames rest → n ≡ length rest) → n ≡ 0
    → held ≡ []
nothing_held held n begun count none = empty held (sym (count [] held (begun_stream held begun)) ∙ none)

-- a refusal of the framer is a length field out of range
pub bad_by : (refusal : FrameRefusal) (held : List ℕ)
    → ((refusal ≡ refusals.TooLong) → IsTooLong held) → ((refusal ≡ refusals.TooShort) → IsTooShort held)
    → IsTooLong held ⊎ IsTooShort held
bad_by refusals.TooLong held long short = inl (long refl)
bad_by refusals.TooShort held long short = inr (short refl)

pub input_at : (left : Option (List ℕ)) (end : SessionEnd) → IsAtInputEnd end → IsAtEnd left → IsInputAt left end
input_at left ends.Closed of at = at
input_at left ends.CutFrame of at = at
input_at left ends.BadFrame of at = tt
input_at left ends.ReadFault of at = tt
input_at left ends.WriteFault of at = tt
input_at left ends.NoMemory of at = tt

pub none_taken : (buf : List ℕ) (before after : Option (List ℕ)) → before ≡ prepend_known (take 0 buf) after
    → after ≡ before
none_taken buf before after e = prepended_none after ∙ sym e
