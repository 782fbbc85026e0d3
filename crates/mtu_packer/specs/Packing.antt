-- How pieces are packed into the bodies of packets: each piece goes whole into the current body where the request and
-- the longest reply of that body stay within the payload, and else it begins the next body. Profile.
use Rattle.std.specs.Prelude.{◌≡◌, ℕ, ◌+◌, ◌<◌, ◌≤◌, Bool, ◌&&◌, nat_lt, if◌then◌else◌}
use Rattle.std.specs.Prelude.{List, [], ◌∷◌, ◌++◌, length, take, sum_by}
use Rattle.std.specs.List.{AllByRecursion, flat_map}
use Rattle.transaction_codec.specs.declared.request.Op.{Op}
use Rattle.transaction_codec.specs.declared.request.Request.{Request}
use Rattle.transaction_codec.specs.Request.{AreRequests, requests_words}
use Rattle.transaction_codec.specs.Answer.{values_done}
use Rattle.mtu_packer.specs.Cutting.{cut_pieces}

-- the requests of operations, with transaction identifiers that count on from a number
abbrev pub requests_from : ℕ → List Op → List Request
requests_from tid [] = []
requests_from tid (op ∷ ops) = record { tid = tid; op = op } ∷ requests_from (tid + 1) ops

-- the requests of one body: their identifiers count from 0
abbrev pub body_requests : List Op → List Request
body_requests part = requests_from 0 part

abbrev pub body_words : List Op → List ℕ
body_words part = requests_words (body_requests part)

-- the words of the longest reply to a body: for each request a header and what it reads
abbrev pub longest_reply : List Op → ℕ
longest_reply part = sum_by (λ op. 1 + values_done op) part

-- a body and its longest reply fit packets of `payload` words, each with its packet header
pub record Fits (payload : ℕ) (part : List Op) : Type 0 where
  pub request : length (body_words part) + 1 ≤ payload
  pub reply : longest_reply part + 1 ≤ payload

-- no body has room for the first piece of the next one
abbrev pub AreFull : ℕ → List (List Op) → Type 0
AreFull payload [] = Unit {0}
AreFull payload (part ∷ []) = Unit {0}
AreFull payload (part ∷ (next ∷ parts)) = (¬ Fits payload (part ++ take 1 next)) × AreFull payload (next ∷ parts)

-- The parts are the bodies, each as the list of its pieces, into which operations are packed.
pub record IsPacking (ops : List Op) (payload : ℕ) (parts : List (List Op)) : Type 0 where
  pub whole : flat_map (λ part. part) parts ≡ flat_map (cut_pieces payload) ops
  pub filled : AllByRecursion (λ part. 0 < length part) parts
  pub fits : AllByRecursion (Fits payload) parts
  pub full : AreFull payload parts

-- the part takes one piece more: the body and its longest reply fit packets of `payload` words then
abbrev pub takes : ℕ → List Op → Op → Bool
takes payload part op =
    nat_lt (length (body_words (part ++ op ∷ []))) payload && nat_lt (longest_reply (part ++ op ∷ [])) payload

-- pieces dealt out to bodies, of which the first has these already: it takes each next piece, and where it does not,
-- the next body begins with that piece
abbrev pub parts_from : ℕ → List Op → List Op → List (List Op)
parts_from payload part [] = part ∷ []
parts_from payload part (op ∷ ops) =
    if takes payload part op then parts_from payload (part ++ op ∷ []) ops else part ∷ parts_from payload (op ∷ []) ops

abbrev pub parts_in : ℕ → List Op → List (List Op)
parts_in payload [] = []
parts_in payload (op ∷ ops) = parts_from payload (op ∷ []) ops

-- the bodies, each as the list of its pieces, into which operations are packed
abbrev pub parts_of : ℕ → List Op → List (List Op)
parts_of payload ops = parts_in payload (flat_map (cut_pieces payload) ops)

-- every body has requests that a reader accepts: identifiers of 12 bits, counts of 8 and words of 32
abbrev pub AreReadable : List (List Op) → Type 0
AreReadable parts = AllByRecursion (λ part. AreRequests (body_requests part)) parts
