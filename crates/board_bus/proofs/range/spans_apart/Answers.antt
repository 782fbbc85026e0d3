use Rattle.std.proofs.Common.{◌≡◌, Bool, true, false, List, map, refl, sym, ap, ◌∙◌}
use Rattle.std.specs.List.{All, list_any}
use Rattle.std.specs.List.Sorted.{IsPermutation, IsNonDecreasingBy}
use Rattle.std.specs.Bool.{MatchBool}
use Rattle.std.proofs.lemmas.List.Elements.{All-same}
use Rattle.std.proofs.lemmas.List.Sorted.{All-permutation}
use Rattle.board_bus.specs.declared.range.Range.{Range}
use Rattle.board_bus.specs.declared.range.Span.{Span}
use Rattle.board_bus.specs.Ranges.{any_pair, share_address, is_empty_range}
use Rattle.board_bus.specs.Spans.{span_of, SomeMeetsNext, NoneMeetsNext}
use Rattle.board_bus.proofs.Overlaps.{share, HasAddress, from, until, any_pair-IsPermutation, any_pair-spans}
use Rattle.board_bus.proofs.Overlaps.{spans_there, neighbours_share, neighbours_apart}
use Rattle.board_bus.proofs.range.spans_apart.Goals as goal

-- the answer, from spans in order
found_is : (ranges : List Range) (spans sorted : List Span) (found : Bool) → list_any is_empty_range ranges ≡ false
    → spans ≡ map span_of ranges → IsPermutation spans sorted
    → IsNonDecreasingBy from sorted → MatchBool found (SomeMeetsNext sorted) (NoneMeetsNext sorted)
    → found ≡ any_pair share_address ranges
found_is ranges spans sorted true some is moved up meets =
    let all : All HasAddress spans = All-same HasAddress spans (map span_of ranges) is (spans_there ranges some) in
    sym (neighbours_share from until sorted (All-permutation HasAddress spans sorted moved all) up meets.0 (record
    { base = 0; «end» = 0 }) meets.1 (meets.2 (record { base = 0; «end» = 0 })))
    ∙ any_pair-IsPermutation from until spans sorted moved all ∙ ap (any_pair (share from until)) is
    ∙ any_pair-spans ranges
found_is ranges spans sorted false some is moved up apart =
    let all : All HasAddress spans = All-same HasAddress spans (map span_of ranges) is (spans_there ranges some) in
    sym (neighbours_apart from until sorted up apart)
    ∙ any_pair-IsPermutation from until spans sorted moved all ∙ ap (any_pair (share from until)) is
    ∙ any_pair-spans ranges

pub returns-then-any_meets_next : goal.returns-then-any_meets_next
returns-then-any_meets_next c =
    sym (found_is c.args.ranges.now (map span_of c.args.ranges.now) c.in_ok-spans.spans.items c.any_meets_next.result
    c.requires refl c.in_ok-spans.ensures.same c.in_ok-spans.ensures.rising
    (rw (← c.deref.ensures.value) c.any_meets_next.ensures)) ∙ c.if-any_meets_next.true

pub returns : goal.returns
returns c =
    sym (found_is c.args.ranges.now (map span_of c.args.ranges.now) c.in_ok-spans.spans.items c.any_meets_next.result
    c.requires refl c.in_ok-spans.ensures.same c.in_ok-spans.ensures.rising
    (rw (← c.deref.ensures.value) c.any_meets_next.ensures)) ∙ c.if-any_meets_next.false
