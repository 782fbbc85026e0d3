-- The places of an operation as a part of one list. No public clause speaks of it.
use Rattle.std.specs.Prelude.{ℕ, ◌+◌, ◌≤◌, List, [], ◌∷◌, slice_range}
use Rattle.std.specs.List.{AllByRecursion}
use Rattle.mtu_packer.specs.declared.packed.Piece.{Piece}
use Rattle.mtu_packer.specs.declared.packed.Span.{Span}

abbrev pub span_places : List Piece → Span → List Piece
span_places places span = slice_range places span.start span.end

-- all within a list of this length
abbrev pub AreWithin : ℕ → List Span → Type 0
AreWithin count spans = AllByRecursion (λ span. (span.start ≤ span.end) × (span.end ≤ count)) spans

-- spans of these lengths, one after the other
abbrev pub spans_from : ℕ → List ℕ → List Span
spans_from start [] = []
spans_from start (count ∷ counts) = record { start = start; end = start + count } ∷ spans_from (start + count) counts
