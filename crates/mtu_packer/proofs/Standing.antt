-- The request that stands at the place of a piece.
use Rattle.std.proofs.Common.{◌≡◌, ℕ, ◌+◌, zero, suc, List, [], ◌∷◌, map, Option, Some, None, refl, sym}
use Rattle.std.proofs.Common.{subst}
use Rattle.std.proofs.Common.{ap, ◌∙◌, arith, slice_get}
use Rattle.std.specs.List.{AllByRecursion}
use Rattle.std.specs.Option.{option_and_then, option_map}
use Rattle.std.proofs.lemmas.Option.{slice_get-map}
use Rattle.transaction_codec.specs.declared.request.Op.{Op}
use Rattle.transaction_codec.specs.declared.request.Request.{Request}
use Rattle.transaction_codec.specs.Request.{AreRequests, requests_words, SpellsRequests}
use Rattle.mtu_packer.specs.declared.packed.Piece.{Piece}
use Rattle.mtu_packer.specs.Cutting.{cut_pieces}
use Rattle.mtu_packer.specs.Packing.{requests_from, body_requests, body_words, AreReadable}
use Rattle.mtu_packer.specs.Packed.{piece_at, pieces_at, Contents, IsPacked}

-- ---- bodies spell requests

spells_each : (parts : List (List Op)) → AreReadable parts → AllByRecursion SpellsRequests (map body_words parts)
spells_each [] readable = tt
spells_each (part ∷ parts) readable =
    ((body_requests part, readable.0, refl), spells_each parts readable.1)

pub bodies_spell : (ops : List Op) (payload : ℕ) (contents : Contents) → IsPacked ops payload contents
    → AllByRecursion SpellsRequests contents.bodies
bodies_spell ops payload contents is =
    subst (AllByRecursion SpellsRequests) (sym is.bodies) (spells_each is.parts is.readable)

-- ---- items of lists by their places

some_is : {T : Type 0} (x y : T) → Some x ≡ Some y → x ≡ y
some_is x y same = cc

at_map : {A B : Type 0} (f : A → B) (xs : List A) (k : ℕ) (x : A) → slice_get xs k ≡ Some x
    → slice_get (map f xs) k ≡ Some (f x)
at_map f xs k x here = slice_get-map f xs k ∙ ap (option_map f) here

-- what two lists that are mapped to the same have at one place is mapped to the same
at_both : {A B C : Type 0} (f : A → C) (g : B → C) (xs : List A) (ys : List B) (k : ℕ) (x : A) (y : B)
    → map f xs ≡ map g ys → slice_get xs k ≡ Some x → slice_get ys k ≡ Some y → f x ≡ g y
at_both f g xs ys k x y same left right =
    some_is (f x) (g y) (sym (at_map f xs k x left) ∙ ap (λ zs. slice_get zs k) same ∙ at_map g ys k y right)

all_at : {T : Type 0} (P : T → Type 0) (xs : List T) (k : ℕ) (x : T) → AllByRecursion P xs → slice_get xs k ≡ Some x
    → P x
all_at P [] k x all here = absurd cc
all_at P (y ∷ xs) zero x all here = subst P (some_is y x here) all.0
all_at P (y ∷ xs) (suc k) x all here = all_at P xs k x all.1 here

-- ---- the request at a place

record Stands (parts : List (List Op)) (place : Piece) (piece : Op) : Type 0 where
  part : List Op
  body : slice_get parts place.body ≡ Some part
  index : slice_get part place.index ≡ Some piece

found : (o : Option (List Op)) (index : ℕ) (piece : Op) → option_and_then (λ part. slice_get part index) o ≡ Some piece
    → (part : List Op) × (o ≡ Some part) × (slice_get part index ≡ Some piece)
found None index piece here = absurd cc
found (Some part) index piece here = (part, refl, here)

stands : (parts : List (List Op)) (place : Piece) (piece : Op) → piece_at parts place ≡ Some piece
    → Stands parts place piece
stands parts place piece here =
    let is = found (slice_get parts place.body) place.index piece here in
    record { part = is.0; body = is.1; index = is.2 }

abbrev request_with : ℕ → Op → Request
request_with tid op = record { tid = tid; op = op }

request_at : (tid : ℕ) (part : List Op) (index : ℕ) (piece : Op) → slice_get part index ≡ Some piece
    → slice_get (requests_from tid part) index ≡ Some (request_with (tid + index) piece)
request_at tid [] index piece here = absurd cc
request_at tid (op ∷ part) zero piece here =
    let same : tid ≡ tid + zero = omega arith in
    ap (λ x. Some (request_with tid x)) (some_is op piece here) ∙ ap (λ n. Some (request_with n piece)) same
request_at tid (op ∷ part) (suc index) piece here =
    let same : tid + 1 + index ≡ tid + suc index = omega arith in
    request_at (tid + 1) part index piece here ∙ ap (λ n. Some (request_with n piece)) same

pub stands_there : ((left right : List Request) → AreRequests left → AreRequests right
    → requests_words left ≡ requests_words right → left ≡ right) → (ops : List Op) (payload : ℕ) (contents : Contents)
    → (k j : ℕ) (op piece : Op) (places : List Piece) (place : Piece) (requests : List Request)
    → IsPacked ops payload contents → slice_get ops k ≡ Some op → slice_get contents.pieces k ≡ Some places
    → slice_get (cut_pieces payload op) j ≡ Some piece → slice_get places j ≡ Some place → AreRequests requests
    → slice_get contents.bodies place.body ≡ Some (requests_words requests)
    → slice_get requests place.index ≡ Some (record { tid = place.index; op = piece })
stands_there one_list ops payload contents k j op piece places place requests is own own_places cut_there here ranges
    body =
    let seen : pieces_at is.parts places ≡ map Some (cut_pieces payload op) =
    at_both (pieces_at is.parts) (λ x. map Some (cut_pieces payload x)) contents.pieces ops k places op is.pieces own_places
    own in
    let stood : piece_at is.parts place ≡ Some piece =
    at_both (piece_at is.parts) Some places (cut_pieces payload op) j place piece seen here cut_there in
    let there = stands is.parts place piece stood in
    let words : requests_words requests ≡ body_words there.part =
    some_is (requests_words requests) (body_words there.part)
    (sym body ∙ ap (λ xs. slice_get xs place.body) is.bodies ∙ at_map body_words is.parts place.body there.part
    there.body) in
    let readable = all_at (λ part. AreRequests (body_requests part)) is.parts place.body there.part is.readable
    there.body in
    let same : requests ≡ body_requests there.part = one_list requests (body_requests there.part) ranges readable
    words in
    let zero_more : 0 + place.index ≡ place.index = omega arith in
    ap (λ xs. slice_get xs place.index) same ∙ request_at 0 there.part place.index piece there.index
    ∙ ap (λ n. Some (request_with n piece)) zero_more
