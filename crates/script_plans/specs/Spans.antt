-- The pieces of an operation as a part of one list. No public clause speaks of it.
use Rattle.std.specs.Prelude.{ℕ, ◌≤◌, List, slice_range}
use Rattle.std.specs.List.{AllByRecursion}
use Rattle.script_plans.specs.declared.planned.PieceAt.{PieceAt}
use Rattle.script_plans.specs.declared.op_pieces.Span.{Span}

abbrev pub span_pieces : List PieceAt → Span → List PieceAt
span_pieces places span = slice_range places span.start span.end

-- all within a list of this length
abbrev pub AreWithin : ℕ → List Span → Type 0
AreWithin count spans = AllByRecursion (λ (span : Span). (span.start ≤ span.end) × (span.end ≤ count)) spans
