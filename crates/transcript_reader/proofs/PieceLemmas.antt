-- What can be told of some piece of an operation.
use Rattle.std.proofs.Common.{◌≡◌, ◌⊎◌, ◌↔◌, ℕ, zero, suc, ◌+◌, ◌-◌, ◌*◌, ◌<◌, ◌≤◌, List, [], ◌∷◌, length, map, min}
use Rattle.std.proofs.Common.{take, drop, length-take, length-drop, refl, sym, subst, ◌∙◌, arith}
use Rattle.std.specs.List.{Any, range_with_len}
use Rattle.std.specs.Int.{div_ceil}
use Rattle.std.proofs.lemmas.Grind.{div_ceil_times}
use Rattle.std.proofs.lemmas.List.FromFn.{get_or-map-range_with_len, length-map-range_with_len}
use Rattle.std.proofs.lemmas.Nat.{mul-le}
use Rattle.mtu_packer.specs.declared.packing.TheConstants.{MIN_PAYLOAD}
use Rattle.transaction_codec.specs.declared.request.Op.{Op}
use Rattle.transaction_codec.specs.declared.request.Op.TheVariants.{Read, ReadPort, Write, WritePort, RmwBits, RmwSum}
use Rattle.transaction_codec.specs.Answer.{Fails}
use Rattle.transaction_codec.specs.Request.{op_count}
use Rattle.mtu_packer.specs.Cutting.{CanBeCut, piece, piece_count, piece_length, piece_limit}
use Rattle.transcript_reader.specs.Results.{CanFail}
use Rattle.transcript_reader.specs.Walks.{FailsWith}

module _ {X : Type 0} (P : X → Type 0) (f : ℕ → X) where
  pub some_at : (n : ℕ) → Any P (map f (range_with_len 0 n)) → (k : ℕ) × (k < n) × P (f k)
  some_at n (k, x, low, is, holds) =
      let within : k < n = omega (arith, length-map-range_with_len f 0 n) in
      let same : x ≡ f k = sym is ∙ get_or-map-range_with_len f 0 n k k x within (omega arith) in
      (k, within, subst P same holds)

  pub some_of : (n k : ℕ) → k < n → P (f k) → Any P (map f (range_with_len 0 n))
  some_of n k low holds = (
    k,
    f k,
    omega (arith, length-map-range_with_len f 0 n),
    get_or-map-range_with_len f 0 n k k (f k) low (omega arith),
    holds,
  )

pub begins_within : (all limit k : ℕ) → 1 ≤ limit → k < div_ceil all limit → k * limit < all
begins_within all limit k some low =
    let bounds = div_ceil_times all limit some in
    let below : (k + 1) * limit ≤ div_ceil all limit * limit =
    mul-le (k + 1) limit (div_ceil all limit) limit (omega arith) (omega arith) in
    omega (arith, bounds.1)

-- ---- what fails

positive : (d limit count : ℕ) → 1 ≤ count → count ≤ d * limit → 0 < d
positive zero limit count some fits = omega arith
positive (suc d) limit count some fits = omega arith

some_words : (op : Op) → CanBeCut op → 1 ≤ op_count op
some_words (Read base count) sound = sound.0
some_words (ReadPort base count) sound = sound
some_words (Write base words) sound = sound.0
some_words (WritePort base words) sound = sound
some_words (RmwBits base and_term or_term) sound = omega arith
some_words (RmwSum base addend) sound = omega arith

pub limit_some : (payload : ℕ) (op : Op) → MIN_PAYLOAD ≤ payload → 1 ≤ piece_limit payload op
limit_some payload (Read base count) low = omega arith
limit_some payload (ReadPort base count) low = omega arith
limit_some payload (Write base words) low = omega arith
limit_some payload (WritePort base words) low = omega arith
limit_some payload (RmwBits base and_term or_term) low = omega arith
limit_some payload (RmwSum base addend) low = omega arith

-- an operation has a piece
pub a_piece : (payload : ℕ) (op : Op) → MIN_PAYLOAD ≤ payload → CanBeCut op → 0 < piece_count payload op
a_piece payload op low sound =
    positive (piece_count payload op) (piece_limit payload op) (op_count op) (some_words op sound)
    (div_ceil_times (op_count op) (piece_limit payload op) (limit_some payload op low)).0

within_piece : (after limit : ℕ) (words : List ℕ) → after < min limit (length words - 0 * limit)
    → after < length (take (min limit (length words - 0 * limit)) (drop (0 * limit) words))
within_piece after limit words low =
    omega (arith, length-take (min limit (length words - 0 * limit)) (drop (0 * limit) words), length-drop (0 * limit) words)

first_fails : (payload code after : ℕ) (op : Op) → FailsWith op code → after < piece_length payload op 0
    → (carried : ℕ) × Fails (piece payload op 0) code after carried
first_fails payload code after (Read base count) kind low = (after, (kind, low, refl))
first_fails payload code after (ReadPort base count) kind low = (after, (kind, low, refl))
first_fails payload code after (Write base words) kind low =
    (0, (kind, within_piece after (piece_limit payload (Write base words)) words low, refl))
first_fails payload code after (WritePort base words) kind low =
    (0, (kind, within_piece after (piece_limit payload (WritePort base words)) words low, refl))
first_fails payload code after (RmwBits base and_term or_term) kind low = (0, (kind, omega arith, refl))
first_fails payload code after (RmwSum base addend) kind low = (0, (kind, omega arith, refl))

pub can_fail_by : (payload code after : ℕ) (op : Op) → MIN_PAYLOAD ≤ payload → CanBeCut op → FailsWith op code
    → after < piece_length payload op 0 → CanFail payload op code after
can_fail_by payload code after op low sound kind early =
    some_of (λ (part : Op). (carried : ℕ) × Fails part code after carried) (piece payload op) (piece_count payload op) 0
    (a_piece payload op low sound) (first_fails payload code after op kind early)

in_first : (after limit k : ℕ) (words : List ℕ)
    → after < length (take (min limit (length words - k * limit)) (drop (k * limit) words))
    → after < min limit (length words - 0 * limit)
in_first after limit k words low =
    omega (arith, length-take (min limit (length words - k * limit)) (drop (k * limit) words), length-drop (k * limit) words)

no_later : (payload code after k carried : ℕ) (op : Op) → Fails (piece payload op k) code after carried
    → FailsWith op code × (after < piece_length payload op 0)
no_later payload code after k carried (Read base count) fails = (fails.0, omega (arith, fails.1))
no_later payload code after k carried (ReadPort base count) fails = (fails.0, omega (arith, fails.1))
no_later payload code after k carried (Write base words) fails =
    (fails.0, in_first after (piece_limit payload (Write base words)) k words fails.1)
no_later payload code after k carried (WritePort base words) fails =
    (fails.0, in_first after (piece_limit payload (WritePort base words)) k words fails.1)
no_later payload code after k carried (RmwBits base and_term or_term) fails = (fails.0, omega (arith, fails.1))
no_later payload code after k carried (RmwSum base addend) fails = (fails.0, omega (arith, fails.1))

pub fails_so : (payload code after : ℕ) (op : Op) → CanFail payload op code after
    → FailsWith op code × (after < piece_length payload op 0)
fails_so payload code after op can =
    let found = some_at (λ (part : Op). (carried : ℕ) × Fails part code after carried) (piece payload op)
    (piece_count payload op) can in
    no_later payload code after found.0 found.2.0 op found.2.1
