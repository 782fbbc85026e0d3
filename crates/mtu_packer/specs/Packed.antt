-- What packing answers: the bodies as words, and for each operation where its pieces stand. Profile.
use Rattle.std.specs.Prelude.{◌≡◌, ℕ, ◌+◌, ◌≤◌, List, [], ◌∷◌, ◌++◌, map, length, take, drop}
use Rattle.std.specs.Prelude.{Option, Some, option_and_then, slice_get}
use Rattle.std.specs.List.{Any, flat_map, range_with_len}
use Rattle.transaction_codec.specs.declared.request.Op.{Op}
use Rattle.transaction_codec.specs.Answer.{reply_room}
use Rattle.mtu_packer.specs.declared.packed.Piece.{Piece}
use Rattle.mtu_packer.specs.Cutting.{cut_pieces, piece_count}
use Rattle.mtu_packer.specs.Packing.{IsPacking, AreReadable, body_words, parts_of}

-- the places in one body of so many pieces
abbrev pub places_in : ℕ → ℕ → List Piece
places_in body count = map (λ index. record { body = body; index = index }) (range_with_len 0 count)

-- the places of all pieces, body by body, where the first body has this number
abbrev pub places_from : ℕ → List (List Op) → List Piece
places_from body [] = []
places_from body (part ∷ parts) = places_in body (length part) ++ places_from (body + 1) parts

-- the piece that stands at a place
abbrev pub piece_at : List (List Op) → Piece → Option Op
piece_at parts place = option_and_then (λ part. slice_get part place.index) (slice_get parts place.body)

-- the pieces that stand at these places
abbrev pub pieces_at : List (List Op) → List Piece → List (Option Op)
pieces_at parts places = map (piece_at parts) places

pub record Contents : Type 0 where
  pub bodies : List (List ℕ)
  pub pieces : List (List Piece)

-- The bodies are the words of a packing of the operations. At the places of each operation stand its own pieces, in
-- order, and the places are those of all pieces, in order.
pub record IsPacked (ops : List Op) (payload : ℕ) (contents : Contents) : Type 0 where
  pub parts : List (List Op)
  pub packing : IsPacking ops payload parts
  pub readable : AreReadable parts
  pub bodies : contents.bodies ≡ map body_words parts
  pub pieces : map (pieces_at parts) contents.pieces ≡ map (λ op. map Some (cut_pieces payload op)) ops
  pub places : flat_map (λ places. places) contents.pieces ≡ places_from 0 parts

-- the next so many of a list for each count
abbrev pub deal : {T : Type 0} → List ℕ → List T → List (List T)
deal [] xs = []
deal (count ∷ counts) xs = take count xs ∷ deal counts (drop count xs)

-- what packing operations answers, as a function of the payload and the operations: each operation has the places of as
-- many pieces as it is cut into
abbrev pub packed_contents : ℕ → List Op → Contents
packed_contents payload ops = record {
  bodies = map body_words (parts_of payload ops);
  pieces = deal (map (piece_count payload) ops) (places_from 0 (parts_of payload ops));
}

-- a body and the longest answer that a board can give to it fit packets of `payload` words, each with its packet header
pub record FitsPackets (payload : ℕ) (body : List ℕ) : Type 0 where
  pub request : length body + 1 ≤ payload
  pub reply : reply_room body + 1 ≤ payload

-- the words of a body and of the longest answer that a board can give to it
abbrev pub words_with_answer : List ℕ → ℕ
words_with_answer body = length body + reply_room body

-- the piece stands in the body of this number
abbrev pub IsIn : ℕ → Piece → Type 0
IsIn body place = place.body ≡ body

-- some operation has a piece in the body of this number
abbrev pub HasPiece : ℕ → List (List Piece) → Type 0
HasPiece body pieces = Any (Any (IsIn body)) pieces
