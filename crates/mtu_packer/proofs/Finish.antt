-- What is answered where all operations are packed.
use Rattle.std.proofs.Common.{◌≡◌, ℕ, ◌<◌, ◌≤◌, ◌++◌, List, [], ◌∷◌, length, map, if◌then◌else◌, ◌==◌}
use Rattle.std.proofs.Common.{refl, sym, subst, ap, ◌∙◌, inl, inr, arith, append-nil, Result, Ok, Err}
use Rattle.std.proofs.Common.{IfOk, Some}
use Rattle.std.specs.List.{AllByRecursion, flat_map}
use Rattle.std.proofs.lemmas.Bool.{cases_eq}
use Rattle.std.proofs.lemmas.List.{length-map, map-append, nil_from_length}
use Rattle.std.proofs.lemmas.Bool.Decides.{nat_tests}
use Rattle.ipb_base.specs.Word.{AreWords}
use Rattle.ipb_base.specs.declared.no_memory.NoMemory.{NoMemory}
use Rattle.transaction_codec.specs.declared.request.Op.{Op}
use Rattle.transaction_codec.specs.Request.{AreRequests}
use Rattle.transaction_codec.specs.Answer.{reply_room}
use Rattle.transaction_codec.proofs.Longest.{longest_unique, reply_room_longest}
use Rattle.mtu_packer.specs.declared.packed.Span.{Span}
use Rattle.mtu_packer.specs.Cutting.{cut_pieces, piece_count}
use Rattle.mtu_packer.specs.Packing.{requests_from, body_words, longest_reply, Fits, AreFull, AreReadable}
use Rattle.mtu_packer.specs.Packed.{piece_at, pieces_at, places_in, places_from, Contents, IsPacked, FitsPackets}
use Rattle.mtu_packer.specs.Progress.{Progress, FitsAlone, Over, start, close, all_bodies, run}
use Rattle.mtu_packer.specs.Span.{span_places}
use Rattle.ipb_base.proofs.AllLemmas.{AllByRecursion-append, all_of_each}
use Rattle.mtu_packer.proofs.Steps.{run-payload}
use Rattle.mtu_packer.proofs.Pieces.{cut_fits, length-cut}
use Rattle.mtu_packer.proofs.Readable.{all_readable, all_words}
use Rattle.mtu_packer.proofs.Parts.{Holds, close_represents, close_whole, longest_reply_is_longest, run_holds}
use Rattle.mtu_packer.proofs.Parts.{start_holds}
use Rattle.mtu_packer.proofs.Whole.{spans_places}
use Rattle.mtu_packer.specs.Packed.{deal}
use Rattle.mtu_packer.proofs.Dealing.{map-deal, deal_joined, joined_deal}
use Rattle.mtu_packer.proofs.PlaceLemmas.{pieces_stand, length-places_from}

-- ---- all pieces fit

pub all_fit : (payload : ℕ) (ops : List Op) → 16 ≤ payload → AllByRecursion (FitsAlone payload)
    (flat_map (cut_pieces payload) ops)
all_fit payload [] low = tt
all_fit payload (op ∷ ops) low = AllByRecursion-append (FitsAlone payload) (cut_pieces payload op)
    (flat_map (cut_pieces payload) ops) (cut_fits payload op low) (all_fit payload ops low)

-- ---- the last body is closed

pub record Finished (progress : Progress) (payload : ℕ) (taken : List Op) : Type 0 where
  pub parts : List (List Op)
  pub whole : flat_map (λ xs. xs) parts ≡ taken
  pub filled : AllByRecursion (λ xs. 0 < length xs) parts
  pub fits : AllByRecursion (Fits payload) parts
  pub full : AreFull payload parts
  pub bodies : all_bodies progress ≡ map body_words parts
  pub places : progress.places ≡ places_from 0 parts

finished-none : (progress : Progress) → progress.requests ≡ 0 → all_bodies progress ≡ progress.bodies
finished-none progress none = ap (λ n. if n == 0 then progress.bodies else (close progress).bodies) none

finished-some : (progress : Progress) → 1 ≤ progress.requests → all_bodies progress ≡ (close progress).bodies
finished-some progress some = grind (arith, nat_tests)

-- nothing is taken
none_finished : (progress : Progress) (taken : List Op) → progress.requests ≡ 0 → Holds progress taken
    → Finished progress progress.payload taken
none_finished progress taken none holds =
    let last = nil_from_length holds.part (omega (arith, holds.represents.requests, none)) in
    let first = nil_from_length holds.parts (holds.is_open.begun (omega (arith, holds.represents.requests, none))) in
    record {
      parts = [];
      whole = sym (ap (λ xs. flat_map (λ ys. ys) xs ++ holds.part) first ∙ last) ∙ holds.whole;
      filled = tt;
      fits = tt;
      full = tt;
      bodies = finished-none progress none ∙ holds.represents.bodies ∙ ap (map body_words) first;
      places = holds.represents.places ∙ ap (λ xs. places_from 0 xs ++ places_in (length xs) (length holds.part))
          first ∙ ap (λ xs. places_in 0 (length xs)) last;
    }

some_finished : (progress : Progress) (taken : List Op) → 1 ≤ progress.requests → Holds progress taken
    → Finished progress progress.payload taken
some_finished progress taken some holds =
    let parts = holds.parts in
    let part = holds.part in
    let is = close_represents progress parts part holds.represents in
    record {
      parts = parts ++ part ∷ [];
      whole = close_whole parts part ∙ holds.whole;
      filled = AllByRecursion-append (λ xs. 0 < length xs) parts (part ∷ []) holds.is_open.filled
          (omega (arith, holds.represents.requests, some), tt);
      fits = AllByRecursion-append (Fits progress.payload) parts (part ∷ []) holds.is_open.fits (
        holds.is_open.last,
        tt,
      );
      full = holds.is_open.full;
      bodies = finished-some progress some ∙ is.bodies;
      places = is.places ∙ append-nil (places_from 0 (parts ++ part ∷ []));
    }

holds_finished : (progress : Progress) (taken : List Op) → Holds progress taken → Finished progress progress.payload
    taken
holds_finished progress taken holds = elim (cases_eq progress.requests 0) [
  | inl none ↦ none_finished progress taken none holds
  | inr some ↦ some_finished progress taken (omega arith) holds
]

run_finished : (payload : ℕ) (ops : List Op) → 16 ≤ payload
    → Finished (run (start payload) (flat_map (cut_pieces payload) ops)) payload (flat_map (cut_pieces payload) ops)
run_finished payload ops low =
    let pieces = flat_map (cut_pieces payload) ops in
    subst (λ n. Finished (run (start payload) pieces) n pieces) (run-payload (start payload) pieces)
    (holds_finished (run (start payload) pieces) pieces (run_holds (start payload) [] pieces (all_fit payload ops low)
    (start_holds payload (omega arith))))

-- ---- the places of each operation

some_cut : (payload : ℕ) (ops : List Op) → map (λ op. Some op) (flat_map (cut_pieces payload) ops)
    ≡ flat_map (λ op. map (λ piece. Some piece) (cut_pieces payload op)) ops
some_cut payload [] = refl
some_cut payload (op ∷ ops) =
    map-append (λ piece. Some piece) (cut_pieces payload op) (flat_map (cut_pieces payload) ops)
    ∙ ap (λ rest. map (λ piece. Some piece) (cut_pieces payload op) ++ rest) (some_cut payload ops)

length-some : (payload : ℕ) (op : Op) → length (map (λ piece. Some piece) (cut_pieces payload op)) ≡ piece_count payload op
length-some payload op = length-map (cut_pieces payload op) (λ piece. Some piece) ∙ length-cut payload op

pub own_pieces : (payload : ℕ) (ops : List Op) (parts : List (List Op)) → flat_map (λ part. part) parts
    ≡ flat_map (cut_pieces payload) ops
    → map (pieces_at parts) (deal (map (piece_count payload) ops) (places_from 0 parts))
    ≡ map (λ op. map (λ piece. Some piece) (cut_pieces payload op)) ops
own_pieces payload ops parts whole =
    map-deal (piece_at parts) (map (piece_count payload) ops) (places_from 0 parts)
    ∙ ap (deal (map (piece_count payload) ops)) (pieces_stand parts ∙ ap (map (λ op. Some op)) whole
    ∙ some_cut payload ops)
    ∙ deal_joined (λ op. map (λ piece. Some piece) (cut_pieces payload op)) (piece_count payload) ops (length-some payload)

pub all_places : (payload : ℕ) (ops : List Op) (parts : List (List Op)) → flat_map (λ part. part) parts
    ≡ flat_map (cut_pieces payload) ops
    → flat_map (λ places. places) (deal (map (piece_count payload) ops) (places_from 0 parts)) ≡ places_from 0 parts
all_places payload ops parts whole =
    joined_deal (cut_pieces payload) (piece_count payload) ops (places_from 0 parts) (length-cut payload)
    (length-places_from parts ∙ ap length whole)

-- ---- all in one

pub over_packed : (ops : List Op) (payload : ℕ) (progress : Progress) (spans : List Span) (contents : Contents)
    → 16 ≤ payload → payload ≤ 2243 → Over ops payload progress spans
    → contents.bodies ≡ all_bodies progress → AllByRecursion AreWords contents.bodies → contents.pieces
    ≡ map (span_places progress.places) spans → IsPacked ops payload contents
over_packed ops payload progress spans contents low high over bodies words pieces =
    let ended = run_finished payload ops low in
    let same_bodies : contents.bodies ≡ map body_words ended.parts = bodies ∙ ap all_bodies over.taken ∙ ended.bodies in
    let counts = map (piece_count payload) ops in
    let dealt : contents.pieces ≡ deal counts (places_from 0 ended.parts) =
    pieces ∙ ap (map (span_places progress.places)) over.spanned ∙ spans_places progress.places 0 counts
    ∙ ap (deal counts) (ap (λ p. p.places) over.taken ∙ ended.places) in
    record {
      parts = ended.parts;
      packing = record { whole = ended.whole; filled = ended.filled; fits = ended.fits; full = ended.full };
      readable = all_readable payload ended.parts high (all_words ended.parts (subst (AllByRecursion AreWords)
          same_bodies words)) (all_of_each (FitsAlone payload) ended.parts (subst (AllByRecursion (FitsAlone payload))
          (sym ended.whole) (all_fit payload ops low))) ended.fits;
      bodies = same_bodies;
      pieces = ap (map (pieces_at ended.parts)) dealt ∙ own_pieces payload ops ended.parts ended.whole;
      places = ap (flat_map (λ places. places)) dealt ∙ all_places payload ops ended.parts ended.whole;
    }

operations_of : (ops : List Op) (payload : ℕ) (contents : Contents) → IsPacked ops payload contents
    → length contents.pieces ≡ length ops
operations_of ops payload contents is =
    sym (length-map contents.pieces (pieces_at is.parts)) ∙ ap length is.pieces
    ∙ length-map ops (λ op. map (λ piece. Some piece) (cut_pieces payload op))

pub packed_operations : (ops : List Op) (payload : ℕ) (result : Result Contents NoMemory)
    → IfOk result (IsPacked ops payload) → IfOk result (λ packed. length packed.pieces ≡ length ops)
packed_operations ops payload (Ok contents) is = operations_of ops payload contents is
packed_operations ops payload (Err why) is = tt

-- ---- the room

room_of : (payload : ℕ) (part : List Op) → AreRequests (requests_from 0 part) → Fits payload part
    → AreWords (body_words part) → FitsPackets payload (body_words part)
room_of payload part ranges fits words =
    let same = longest_unique (body_words part) (reply_room (body_words part)) (longest_reply part)
    (reply_room_longest (body_words part) words) (longest_reply_is_longest 0 part ranges) in
    record { request = fits.request; reply = omega (arith, fits.reply, same) }

rooms_of : (payload : ℕ) (parts : List (List Op)) → AreReadable parts → AllByRecursion (Fits payload) parts
    → AllByRecursion AreWords (map body_words parts)
    → AllByRecursion (FitsPackets payload) (map body_words parts)
rooms_of payload [] ranges fits words = tt
rooms_of payload (part ∷ parts) ranges fits words =
    (room_of payload part ranges.0 fits.0 words.0, rooms_of payload parts ranges.1 fits.1 words.1)

pub packed_room : (ops : List Op) (payload : ℕ) (result : Result Contents NoMemory)
    → IfOk result (IsPacked ops payload) → IfOk result (λ packed. AllByRecursion AreWords packed.bodies)
    → IfOk result (λ packed. AllByRecursion (FitsPackets payload) packed.bodies)
packed_room ops payload (Ok contents) is words =
    subst (AllByRecursion (FitsPackets payload)) (sym is.bodies) (rooms_of payload is.parts is.readable
    is.packing.fits (subst (AllByRecursion AreWords) is.bodies words))
packed_room ops payload (Err why) is words = tt

-- the three clauses of the last step, as one
pub answer_packed : (ops : List Op) (payload : ℕ) (progress : Progress) (spans : List Span) → 16 ≤ payload
    → payload ≤ 2243 → Over ops payload progress spans → (result : Result Contents NoMemory)
    → IfOk result (λ packed. packed.bodies ≡ all_bodies progress) → IfOk result (λ packed. AllByRecursion AreWords
    packed.bodies) → IfOk result (λ packed. packed.pieces ≡ map (span_places progress.places) spans)
    → IfOk result (IsPacked ops payload)
answer_packed ops payload progress spans low high over (Ok contents) bodies words pieces =
    over_packed ops payload progress spans contents low high over bodies words pieces
answer_packed ops payload progress spans low high over (Err why) bodies words pieces = tt
