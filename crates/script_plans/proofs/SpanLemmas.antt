-- The pieces of operations as parts of one list.
use Rattle.std.proofs.Common.{◌≡◌, ℕ, ◌-◌, ◌≤◌, List, Some, [], ◌∷◌, ◌++◌, length, take, drop, map, refl, ap, ◌∙◌, arith}
use Rattle.std.proofs.Common.{length-append, length-drop}
use Rattle.std.proofs.lemmas.List.{take-append-le, drop-append-le, take_all}
use Rattle.std.proofs.lemmas.Option.{slice_get-map}
use Rattle.std.specs.List.{slice_get}
use Rattle.std.specs.Option.{option_map}
use Rattle.std.proofs.Math.Seq.{drop-append_seam}
use Rattle.script_plans.specs.declared.planned.PieceAt.{PieceAt}
use Rattle.script_plans.specs.declared.op_pieces.Span.{Span}
use Rattle.script_plans.specs.Spans.{span_pieces, AreWithin}

-- what stands behind changes no part before it
kept : (places more : List PieceAt) (spans : List Span) → AreWithin (length places) spans
    → map (span_pieces (places ++ more)) spans ≡ map (span_pieces places) spans
kept places more [] within = refl
kept places more (span ∷ spans) within =
    let start = span.start in
    let count = span.end - start in
    let short : count ≤ length (drop start places) = rw length-drop (omega (arith, within.0.0, within.0.1)) in
    let here : take count (drop start (places ++ more)) ≡ take count (drop start places) =
    ap (take count) (drop-append-le start places more (omega (arith, within.0.0, within.0.1)))
    ∙ take-append-le count (drop start places) more short in
    ap (λ (part : List PieceAt). part ∷ map (span_pieces (places ++ more)) spans) here
    ∙ ap (λ (parts : List (List PieceAt)). span_pieces places span ∷ parts) (kept places more spans within.1)

-- the part behind all others
last : (places more : List PieceAt)
    → take (length (places ++ more) - length places) (drop (length places) (places ++ more)) ≡ more
last places more =
    ap (take (length (places ++ more) - length places)) (drop-append_seam places more)
    ∙ take_all (length (places ++ more) - length places) more (rw length-append (omega arith))

map_more : (f : Span → List PieceAt) (spans : List Span) (span : Span)
    → map f (spans ++ span ∷ []) ≡ map f spans ++ f span ∷ []
map_more f [] span = refl
map_more f (s ∷ spans) span = ap (λ (parts : List (List PieceAt)). f s ∷ parts) (map_more f spans span)

-- an operation more
pub one_more : (places more : List PieceAt) (spans : List Span) (new_places : List PieceAt) (new_spans : List Span)
    (start end : ℕ) → new_places ≡ places ++ more
    → new_spans ≡ spans ++ record { start = start; end = end } ∷ [] → start ≡ length places
    → end ≡ length (places ++ more)
    → AreWithin (length places) spans
    → map (span_pieces new_places) new_spans ≡ map (span_pieces places) spans ++ more ∷ []
one_more places more spans new_places new_spans start end places_are spans_are starts ends within =
    rw (places_are, spans_are, starts, ends) (
    map_more (span_pieces (places ++ more)) spans (record { start = length places; end = length (places ++ more) })
    ∙ (ap (λ (parts : List (List PieceAt)). parts ++ span_pieces (places ++ more) (record {
      start = length places;
      end = length (places ++ more);
    }) ∷ []) (kept places more spans within)
    ∙ ap (λ (part : List PieceAt). map (span_pieces places) spans ++ part ∷ []) (last places more))
    )

-- the pieces of an operation are the part that its span tells
pub pieces_at : (places : List PieceAt) (spans : List Span) (op : ℕ) (span : Span) → slice_get spans op ≡ Some span
    → slice_get (map (span_pieces places) spans) op ≡ Some (span_pieces places span)
pieces_at places spans op span at =
    slice_get-map (span_pieces places) spans op ∙ ap (option_map (span_pieces places)) at
