-- What an operation asks of a bus, access by access. IPbus 2.0, transactions.
use Rattle.std.specs.Prelude.{ℕ, List, [], ◌∷◌, map, length, replicate}
use Rattle.std.specs.List.{range_with_len, zip}
use Rattle.transaction_codec.specs.declared.request.Op.{Op}
use Rattle.transaction_codec.specs.declared.request.Op.TheVariants.{Read, ReadPort, Write, WritePort, RmwBits, RmwSum}

-- what a word X becomes: (X AND and_term) OR or_term, or X + addend modulo 2^32
pub data Change : Type 0 where
  masks : ℕ → ℕ → Change
  adds : ℕ → Change

-- one access at an address: a read, a write of a word, or a read and a write of what that word becomes
pub data Access : Type 0 where
  reads : ℕ → Access
  writes : ℕ → ℕ → Access
  updates : ℕ → Change → Access

-- the accesses of an operation: at consecutive addresses, or all at one
abbrev pub accesses : Op → List Access
accesses (Read base count) = map reads (range_with_len base count)
accesses (ReadPort base count) = map reads (replicate count base)
accesses (Write base words) = map (λ at. writes at.0 at.1) (zip (range_with_len base (length words)) words)
accesses (WritePort base words) = map (writes base) words
accesses (RmwBits base and_term or_term) = updates base (masks and_term or_term) ∷ []
accesses (RmwSum base addend) = updates base (adds addend) ∷ []
