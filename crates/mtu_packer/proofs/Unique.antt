-- A packing is the only one of its operations.
use Rattle.std.proofs.Common.{◌≡◌, ℕ, ◌+◌, ◌<◌, ◌≤◌, ◌++◌, List, [], ◌∷◌, length, map, refl, sym, subst, ap, ◌∙◌, inl}
use Rattle.std.proofs.Common.{inr, arith, length-append, append_assoc}
use Rattle.std.specs.List.{AllByRecursion, flat_map}
use Rattle.std.proofs.lemmas.Bool.{cases_lt}
use Rattle.std.proofs.lemmas.List.Sums.{sum_by-append}
use Rattle.std.proofs.Math.Nat.{le_antisymm}
use Rattle.transaction_codec.specs.declared.request.Op.{Op}
use Rattle.transaction_codec.specs.Request.{request_words, requests_words}
use Rattle.transaction_codec.specs.Answer.{values_done}
use Rattle.mtu_packer.specs.declared.packed.Piece.{Piece}
use Rattle.mtu_packer.specs.Packing.{requests_from, body_words, Fits, AreFull, IsPacking}
use Rattle.mtu_packer.specs.Packed.{piece_at, pieces_at, places_from, Contents, IsPacked}
use Rattle.mtu_packer.proofs.Dealing.{one_dealing}

abbrev joined : List (List Op) → List Op
joined parts = flat_map (λ part. part) parts

-- ---- a body that fits fits when it is cut short

words_grow : (tid : ℕ) (front back : List Op) → length (requests_words (requests_from tid front)) ≤ length
    (requests_words (requests_from tid (front ++ back)))
words_grow tid [] back = omega arith
words_grow tid (op ∷ front) back =
    let request = request_words (record { tid = tid; op = op }) in
    omega (
      arith,
      words_grow (tid + 1) front back,
      length-append request
          (requests_words (requests_from (tid + 1) front)),
      length-append request
          (requests_words (requests_from (tid + 1) (front ++ back))),
    )

front_fits : (payload : ℕ) (front back : List Op) → Fits payload (front ++ back) → Fits payload front
front_fits payload front back fits = record {
  request = omega (arith, words_grow 0 front back, fits.request);
  reply = omega (arith, sum_by-append (λ op. 1 + values_done op) front back, fits.reply);
}

-- ---- two ways to begin one list

record Longer (short rest long other : List Op) : Type 0 where
  next : Op
  more : List Op
  split : long ≡ short ++ next ∷ more
  following : rest ≡ next ∷ (more ++ other)

longer : (short rest long other : List Op) → short ++ rest ≡ long ++ other → length short < length long
    → Longer short rest long other
longer [] rest [] other same less = absurd (omega arith)
longer [] rest (op ∷ long) other same less = record { next = op; more = long; split = refl; following = same }
longer (op ∷ short) rest [] other same less = absurd (omega arith)
longer (op ∷ short) rest (first ∷ long) other same less =
    let tails : short ++ rest ≡ long ++ other = cc in
    let heads : first ≡ op = cc in
    let after = longer short rest long other tails (omega arith) in
    record {
      next = after.next;
      more = after.more;
      split = ap (λ x. x ∷ long) heads ∙ ap (λ xs. op ∷ xs) after.split;
      following = after.following;
    }

record Same (left rest right other : List Op) : Type 0 where
  front : left ≡ right
  back : rest ≡ other

same_front : (left rest right other : List Op) → left ++ rest ≡ right ++ other → length left ≡ length right
    → Same left rest right other
same_front [] rest [] other same long = record { front = refl; back = same }
same_front [] rest (op ∷ right) other same long = absurd (omega arith)
same_front (op ∷ left) rest [] other same long = absurd (omega arith)
same_front (op ∷ left) rest (first ∷ right) other same long =
    let tails : left ++ rest ≡ right ++ other = cc in
    let heads : op ≡ first = cc in
    let after = same_front left rest right other tails (omega arith) in
    record { front = ap (λ x. x ∷ left) heads ∙ ap (λ xs. first ∷ xs) after.front; back = after.back }

-- ---- no body is longer than the one that is packed there

over_full : (payload : ℕ) (part : List Op) (parts : List (List Op)) (long other : List Op) → AreFull payload
    (part ∷ parts) → AllByRecursion (λ xs. 0 < length xs) parts → Fits payload long
    → Longer part (joined parts) long other → ⊥
over_full payload part [] long other full filled fits is = let same = is.following in cc
over_full payload part ([] ∷ parts) long other full filled fits is = absurd (let some = filled.0 in omega arith)
over_full payload part ((op ∷ next) ∷ parts) long other full filled fits is =
    let same = is.following in
    let first : is.next ≡ op = cc in
    let split : long ≡ (part ++ op ∷ []) ++ is.more = is.split ∙ ap (λ x. part ++ x ∷ is.more) first
    ∙ sym (append_assoc part (op ∷ []) is.more) in
    full.0 (front_fits payload (part ++ op ∷ []) is.more (subst (Fits payload) split fits))

not_longer : (payload : ℕ) (part : List Op) (parts : List (List Op)) (long other : List Op) → AreFull payload
    (part ∷ parts) → AllByRecursion (λ xs. 0 < length xs) parts → Fits payload long
    → part ++ joined parts ≡ long ++ other → length long ≤ length part
not_longer payload part parts long other full filled fits same = elim (cases_lt (length part) (length long)) [
  | inl less ↦ absurd (over_full payload part parts long other full filled fits (longer part (joined parts) long other
      same less))
  | inr more ↦ more
]

full_tail : (payload : ℕ) (part : List Op) (parts : List (List Op)) → AreFull payload (part ∷ parts) → AreFull payload
    parts
full_tail payload part [] full = tt
full_tail payload part (next ∷ parts) full = full.1

record IsFilledAndFull (payload : ℕ) (parts : List (List Op)) : Type 0 where
  filled : AllByRecursion (λ xs. 0 < length xs) parts
  fits : AllByRecursion (Fits payload) parts
  full : AreFull payload parts

nothing_joined : (payload : ℕ) (parts : List (List Op)) → IsFilledAndFull payload parts → joined parts ≡ [] → parts ≡ []
nothing_joined payload [] is none = refl
nothing_joined payload ([] ∷ parts) is none = absurd (let some = is.filled.0 in omega arith)
nothing_joined payload ((op ∷ part) ∷ parts) is none = absurd cc

one_packing : (payload : ℕ) (left right : List (List Op)) → IsFilledAndFull payload left → IsFilledAndFull payload
    right → joined left ≡ joined right → left ≡ right
one_packing payload [] right is has same = sym (nothing_joined payload right has (sym same))
one_packing payload (part ∷ left) [] is has same = nothing_joined payload (part ∷ left) is same
one_packing payload (part ∷ left) (other ∷ right) is has same =
    let lengths = le_antisymm
    (not_longer payload other right part (joined left) has.full has.filled.1 is.fits.0 (sym same))
    (not_longer payload part left other (joined right) is.full is.filled.1 has.fits.0 same) in
    let both = same_front part (joined left) other (joined right) same lengths in
    let rest = one_packing payload left right
    (record { filled = is.filled.1; fits = is.fits.1; full = full_tail payload part left is.full })
    (record { filled = has.filled.1; fits = has.fits.1; full = full_tail payload other right has.full })
    both.back in
    ap (λ x. x ∷ left) both.front ∙ ap (λ xs. other ∷ xs) rest

pub packing_unique : (ops : List Op) (payload : ℕ) (one other : List (List Op)) → IsPacking ops payload one
    → IsPacking ops payload other → one ≡ other
packing_unique ops payload one other is has =
    one_packing payload one other (record { filled = is.filled; fits = is.fits; full = is.full })
    (record { filled = has.filled; fits = has.fits; full = has.full }) (is.whole ∙ sym has.whole)

abbrev contents_of : List (List ℕ) → List (List Piece) → Contents
contents_of bodies pieces = record { bodies = bodies; pieces = pieces }

same_contents : (one other : Contents) → one.bodies ≡ other.bodies → one.pieces ≡ other.pieces → one ≡ other
same_contents one other bodies pieces = ap (λ b. contents_of b one.pieces) bodies ∙ ap (contents_of other.bodies) pieces

pub packed_unique : (ops : List Op) (payload : ℕ) (one other : Contents) → IsPacked ops payload one
    → IsPacked ops payload other → one ≡ other
packed_unique ops payload one other is has =
    let same = packing_unique ops payload is.parts has.parts is.packing has.packing in
    let bodies : one.bodies ≡ other.bodies = is.bodies ∙ ap (map body_words) same ∙ sym has.bodies in
    let seen : map (pieces_at is.parts) one.pieces ≡ map (pieces_at has.parts) other.pieces =
    is.pieces ∙ sym has.pieces in
    let joined : flat_map (λ places. places) one.pieces ≡ flat_map (λ places. places) other.pieces =
    is.places ∙ ap (places_from 0) same ∙ sym has.places in
    same_contents one other bodies (one_dealing (piece_at is.parts) (piece_at has.parts) one.pieces other.pieces seen
    joined)
