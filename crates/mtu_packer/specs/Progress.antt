-- The packer at work, piece by piece. No public clause speaks of it.
use Rattle.std.specs.Prelude.{◌≡◌, ℕ, ◌+◌, ◌*◌, ◌^◌, ◌≤◌, Bool, ◌&&◌, ◌==◌, nat_le, if◌then◌else◌, min, List, [], ◌∷◌}
use Rattle.std.specs.Prelude.{◌++◌, length, fold, map}
use Rattle.std.specs.List.{AllByRecursion, flat_map}
use Rattle.ipb_base.specs.Word.{AreWords}
use Rattle.transaction_codec.specs.declared.request.Op.{Op}
use Rattle.transaction_codec.specs.Request.{request_words, op_count, op_words}
use Rattle.transaction_codec.specs.Answer.{values_done}
use Rattle.transaction_codec.specs.declared.header_word.TheConstants.{MAX_COUNT}
use Rattle.mtu_packer.specs.declared.cutting.TheConstants.{HEADERS}
use Rattle.mtu_packer.specs.declared.packed.Piece.{Piece}
use Rattle.mtu_packer.specs.declared.packed.Span.{Span}
use Rattle.mtu_packer.specs.declared.packing.TheConstants.{MIN_PAYLOAD, MAX_PAYLOAD}
use Rattle.mtu_packer.specs.Cutting.{cut_pieces, piece_count}
use Rattle.mtu_packer.specs.Span.{spans_from}

-- the bodies that are closed, the open one with the number of its requests and the words of its longest reply, and the
-- places of all pieces so far
pub record Progress : Type 0 where
  pub payload : ℕ
  pub bodies : List (List ℕ)
  pub open_body : List ℕ
  pub requests : ℕ
  pub reply : ℕ
  pub places : List Piece

abbrev pub start : ℕ → Progress
start payload = record { payload = payload; bodies = []; open_body = []; requests = 0; reply = 0; places = [] }

-- the request and the longest reply of the open body stay within the payload, with one piece more
abbrev pub has_room : Progress → Op → Bool
has_room progress op =
    nat_le (length progress.open_body + length (op_words op) + HEADERS) progress.payload
    && nat_le (progress.reply + values_done op + HEADERS) progress.payload

abbrev pub close : Progress → Progress
close progress = record progress {
  bodies = progress.bodies ++ progress.open_body ∷ [];
  open_body = [];
  requests = 0;
  reply = 0;
}

abbrev pub add : Progress → Op → Progress
add progress op = record progress {
  open_body = progress.open_body ++ request_words (record { tid = progress.requests; op = op });
  requests = progress.requests + 1;
  reply = progress.reply + values_done op + 1;
  places = progress.places ++ record { body = length progress.bodies; index = progress.requests } ∷ [];
}

abbrev pub step : Progress → Op → Progress
step progress op = if has_room progress op then add progress op else add (close progress) op

abbrev pub run : Progress → List Op → Progress
run progress pieces = fold step progress pieces

-- the bodies, with the open one where it has a piece
abbrev pub all_bodies : Progress → List (List ℕ)
all_bodies progress = if progress.requests == 0 then progress.bodies else (close progress).bodies

-- a piece fits an empty body
pub record FitsAlone (payload : ℕ) (op : Op) : Type 0 where
  pub count : op_count op ≤ MAX_COUNT
  pub request : length (op_words op) + HEADERS ≤ payload
  pub reply : values_done op + HEADERS ≤ payload

-- What holds of a packer at work: the open body and its reply are within the payload, a request has two words at
-- least, and every body has a piece.
pub record IsWithin (progress : Progress) : Type 0 where
  pub payload_low : MIN_PAYLOAD ≤ progress.payload
  pub payload_high : progress.payload ≤ MAX_PAYLOAD
  pub body : length progress.open_body + 1 ≤ progress.payload
  pub reply : progress.reply + 1 ≤ progress.payload
  pub requests : 2 * progress.requests ≤ length progress.open_body
  pub begun : progress.requests ≡ 0 → (length progress.open_body ≡ 0) × (progress.reply ≡ 0)
  pub pieces : length progress.bodies + min 1 progress.requests ≤ length progress.places
  pub few : length progress.places ≤ 2 ^ 31
  pub words : AllByRecursion AreWords progress.bodies

-- All operations are packed, from the first piece on, and these are their places.
pub record Over (ops : List Op) (payload : ℕ) (progress : Progress) (spans : List Span) : Type 0 where
  pub taken : progress ≡ run (start payload) (flat_map (cut_pieces payload) ops)
  pub spanned : spans ≡ spans_from 0 (map (piece_count payload) ops)
  pub places : length progress.places ≡ length (flat_map (cut_pieces payload) ops)
