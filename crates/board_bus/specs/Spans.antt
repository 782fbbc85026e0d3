-- Spans of addresses, by which an overlap is found: no public clause speaks of them. Profile.
use Rattle.std.specs.Prelude.{ℕ, ◌+◌, ◌<◌, ◌≤◌, List, length, get_or}
use Rattle.std.specs.List.{AllAdjacentBelow}
use Rattle.board_bus.specs.declared.range.Range.{Range}
use Rattle.board_bus.specs.declared.range.Span.{Span}
use Rattle.board_bus.specs.Ranges.{end_of}

-- the addresses of a range, from its base to the one before its end
abbrev pub span_of : Range → Span
span_of range = record { base = range.base; «end» = end_of range }

-- the first address of a span
abbrev pub base_of : Span → ℕ
base_of span = span.base

-- some span ends past the beginning of the next one
abbrev pub SomeMeetsNext : List Span → Type 0
SomeMeetsNext spans =
    (k : ℕ) × (k + 1 < length spans) × ((d : Span) → (get_or spans (k + 1) d).base < (get_or spans k d).end)

-- each span ends at the beginning of the next one, or before it
abbrev pub NoneMeetsNext : List Span → Type 0
NoneMeetsNext spans = AllAdjacentBelow (λ span next. span.end ≤ next.base) spans (length spans)
