-- Each piece stands at its place.
use Rattle.std.proofs.Common.{◌≡◌, ℕ, ◌+◌, ◌++◌, List, [], ◌∷◌, length, map, Some, refl, sym, ap, ◌∙◌, arith}
use Rattle.std.proofs.Common.{append_assoc, length-append, get_or, slice_get}
use Rattle.std.specs.List.{flat_map, range_with_len}
use Rattle.std.specs.Option.{option_and_then}
use Rattle.std.proofs.lemmas.List.{length-map, map-append}
use Rattle.std.proofs.lemmas.Option.{slice_get-get_or}
use Rattle.transaction_codec.specs.declared.request.Op.{Op}
use Rattle.mtu_packer.specs.declared.packed.Piece.{Piece}
use Rattle.mtu_packer.specs.Packed.{places_in, places_from, piece_at}

at_seam : {T : Type 0} (front : List T) (x : T) (back : List T) → get_or (front ++ x ∷ back) (length front) x ≡ x
at_seam [] x back = refl
at_seam (y ∷ front) x back = at_seam front x back

-- the element behind a list of n
get_at : {T : Type 0} (front : List T) (x : T) (back : List T) (n : ℕ) → n ≡ length front
    → slice_get (front ++ x ∷ back) n ≡ Some x
get_at front x back n here =
    slice_get-get_or (front ++ x ∷ back) n x (omega (arith, length-append front (x ∷ back), here))
    ∙ ap (λ k. Some (get_or (front ++ x ∷ back) k x)) here ∙ ap (λ y. Some y) (at_seam front x back)

abbrev pub place_at : ℕ → ℕ → Piece
place_at body index = record { body = body; index = index }

part_pieces : (parts : List (List Op)) (body : ℕ) (front back part : List Op) (from : ℕ) → slice_get parts body
    ≡ Some part → part ≡ front ++ back → from ≡ length front
    → map (piece_at parts) (map (place_at body) (range_with_len from (length back))) ≡ map (λ op. Some op) back
part_pieces parts body front [] part from here split long = refl
part_pieces parts body front (op ∷ back) part from here split long =
    let found : piece_at parts (place_at body from) ≡ Some op =
    ap (option_and_then (λ (p : List Op). slice_get p from)) here ∙ ap (λ p. slice_get p from) split ∙ get_at front op
    back from long in
    ap (λ x. x ∷ map (piece_at parts) (map (place_at body) (range_with_len (from + 1) (length back)))) found
    ∙ ap (λ xs. Some op ∷ xs) (part_pieces parts body (front ++ op ∷ []) back part (from + 1) here
    (split ∙ sym (append_assoc front (op ∷ []) back)) (omega (arith, length-append front (op ∷ []), long)))

pieces_from : (parts front back : List (List Op)) (body : ℕ) → parts ≡ front ++ back → body ≡ length front
    → map (piece_at parts) (places_from body back) ≡ map (λ op. Some op) (flat_map (λ part. part) back)
pieces_from parts front [] body split long = refl
pieces_from parts front (part ∷ back) body split long =
    let found : slice_get parts body ≡ Some part = ap (λ ps. slice_get ps body) split ∙ get_at front part back body
    long in
    let rest = flat_map (λ (p : List Op). p) back in
    map-append (piece_at parts) (places_in body (length part)) (places_from (body + 1) back)
    ∙ ap (λ xs. xs ++ map (piece_at parts) (places_from (body + 1) back)) (part_pieces parts body [] part part 0 found
    refl refl)
    ∙ ap (λ xs. map (λ op. Some op) part ++ xs) (pieces_from parts (front ++ part ∷ []) back (body + 1)
    (split ∙ sym (append_assoc front (part ∷ []) back)) (omega (arith, length-append front (part ∷ []), long)))
    ∙ sym (map-append (λ op. Some op) part rest)

pub pieces_stand : (parts : List (List Op)) → map (piece_at parts) (places_from 0 parts) ≡ map (λ op. Some op)
    (flat_map (λ part. part) parts)
pieces_stand parts = pieces_from parts [] parts 0 refl refl

-- there are as many places as pieces
pub length-places_from : (parts : List (List Op)) → length (places_from 0 parts)
    ≡ length (flat_map (λ part. part) parts)
length-places_from parts =
    sym (length-map (places_from 0 parts) (piece_at parts)) ∙ ap length (pieces_stand parts)
    ∙ length-map (flat_map (λ part. part) parts) (λ op. Some op)
