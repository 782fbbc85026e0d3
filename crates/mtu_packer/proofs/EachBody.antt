-- Each body of a packing has a piece.
use Rattle.std.proofs.Common.{◌≡◌, ℕ, zero, suc, ◌+◌, ◌<◌, List, [], ◌∷◌, ◌++◌, length, map, true, false}
use Rattle.std.proofs.Common.{if◌then◌else◌, refl, sym, subst, ap, ◌∙◌, arith, append_assoc}
use Rattle.std.proofs.Common.{length-append}
use Rattle.std.specs.List.{AllByRecursion, Any, flat_map}
use Rattle.std.proofs.lemmas.List.{length-map}
use Rattle.transaction_codec.specs.declared.request.Op.{Op}
use Rattle.mtu_packer.specs.Cutting.{cut_pieces}
use Rattle.mtu_packer.specs.Packing.{body_words, takes, parts_from, parts_in, parts_of}
use Rattle.mtu_packer.specs.Packed.{Contents, IsPacked, packed_contents, places_in, places_from, IsIn, HasPiece}
use Rattle.mtu_packer.proofs.AnyLemmas.{any_front, any_back, any_in_one}
use Rattle.mtu_packer.proofs.Finish.{all_places}

-- ---- places

abbrev AreFilled : List (List Op) → Type 0
AreFilled parts = AllByRecursion (λ part. 0 < length part) parts

first_place : (body count : ℕ) → 0 < count → Any (IsIn body) (places_in body count)
first_place body zero some = absurd (omega arith)
first_place body (suc count) some = (0, record { body = body; index = 0 }, omega arith, refl, refl)

place_from : (first body : ℕ) (parts : List (List Op)) → AreFilled parts → body < length parts
    → Any (IsIn (first + body)) (places_from first parts)
place_from first body [] filled within = absurd (omega arith)
place_from first zero (part ∷ parts) filled within =
    let same : first ≡ first + zero = omega arith in
    subst (λ n. Any (IsIn n) (places_from first (part ∷ parts))) same
    (any_front (IsIn first) (places_in first (length part)) (places_from (first + 1) parts)
    (first_place first (length part) filled.0))
place_from first (suc body) (part ∷ parts) filled within =
    let same : first + 1 + body ≡ first + suc body = omega arith in
    subst (λ n. Any (IsIn n) (places_from first (part ∷ parts))) same
    (any_back (IsIn (first + 1 + body)) (places_in first (length part)) (places_from (first + 1) parts)
    (place_from (first + 1) body parts filled.1 (omega arith)))

has_piece : (parts : List (List Op)) (contents : Contents) (body : ℕ) → AreFilled parts
    → contents.bodies ≡ map body_words parts → flat_map (λ places. places) contents.pieces ≡ places_from 0 parts
    → body < length contents.bodies → HasPiece body contents.pieces
has_piece parts contents body filled bodies places within =
    let long : length contents.bodies ≡ length parts = ap length bodies ∙ length-map parts body_words in
    let first : 0 + body ≡ body = omega arith in
    any_in_one (IsIn body) contents.pieces
    (subst (Any (IsIn body)) (sym places)
    (subst (λ n. Any (IsIn n) (places_from 0 parts)) first (place_from 0 body parts filled (omega arith))))

-- ---- the packing as a function, whatever the payload

some_more : (part : List Op) (op : Op) → 0 < length (part ++ op ∷ [])
some_more part op = omega (arith, length-append part (op ∷ []))

filled_from : (payload : ℕ) (part ops : List Op) → 0 < length part → AreFilled (parts_from payload part ops)
filled_from payload part [] some = (some, tt)
filled_from payload part (op ∷ ops) some =
    elim (takes payload part op) as (λ b. AreFilled (if b then parts_from payload (part ++ op ∷ []) ops
    else part ∷ parts_from payload (op ∷ []) ops)) [
      | true ↦ filled_from payload (part ++ op ∷ []) ops (some_more part op)
      | false ↦ (some, filled_from payload (op ∷ []) ops (omega arith))
    ]

whole_from : (payload : ℕ) (part ops : List Op) → flat_map (λ xs. xs) (parts_from payload part ops) ≡ part ++ ops
whole_from payload part [] = refl
whole_from payload part (op ∷ ops) =
    elim (takes payload part op) as (λ b. flat_map (λ xs. xs) (if b then parts_from payload (part ++ op ∷ []) ops
    else part ∷ parts_from payload (op ∷ []) ops) ≡ part ++ op ∷ ops) [
      | true ↦ whole_from payload (part ++ op ∷ []) ops ∙ append_assoc part (op ∷ []) ops
      | false ↦ ap (λ xs. part ++ xs) (whole_from payload (op ∷ []) ops)
    ]

filled_in : (payload : ℕ) (pieces : List Op) → AreFilled (parts_in payload pieces)
filled_in payload [] = tt
filled_in payload (op ∷ pieces) = filled_from payload (op ∷ []) pieces (omega arith)

whole_in : (payload : ℕ) (pieces : List Op) → flat_map (λ xs. xs) (parts_in payload pieces) ≡ pieces
whole_in payload [] = refl
whole_in payload (op ∷ pieces) = whole_from payload (op ∷ []) pieces

-- ---- each body

pub piece_of_packed : (ops : List Op) (payload body : ℕ) → body < length (packed_contents payload ops).bodies
    → HasPiece body (packed_contents payload ops).pieces
piece_of_packed ops payload body within =
    has_piece (parts_of payload ops) (packed_contents payload ops) body (filled_in payload (flat_map (cut_pieces payload) ops)) refl
    (all_places payload ops (parts_of payload ops) (whole_in payload (flat_map (cut_pieces payload) ops))) within

pub piece_of_packing : (ops : List Op) (payload : ℕ) (contents : Contents) (body : ℕ) → IsPacked ops payload contents
    → body < length contents.bodies → HasPiece body contents.pieces
piece_of_packing ops payload contents body is within =
    has_piece is.parts contents body is.packing.filled is.bodies is.places within
