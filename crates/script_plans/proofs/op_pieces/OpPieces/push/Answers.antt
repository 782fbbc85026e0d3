use Rattle.std.proofs.Common.{◌≡◌, ◌++◌, [], ◌∷◌, ◌∙◌, List, ap, arith, length, map}
use Rattle.script_plans.specs.declared.planned.PieceAt.{PieceAt}
use Rattle.script_plans.specs.declared.op_pieces.Span.{Span}
use Rattle.script_plans.specs.Plan.{piece_behind}
use Rattle.script_plans.proofs.SpanLemmas.{one_more}
use Rattle.script_plans.proofs.op_pieces.OpPieces.push.Goals as goal

pub returns : goal.returns
returns c =
    let places = c.self.inside.places.items in
    let spans = c.self.inside.spans.items in
    let more = map (piece_behind c.args.first) c.args.pieces.now in
    let reserved : c.reserve-2.new.self.items ≡ places = c.reserve-2.ensures.items in
    let places_are : c.push_moved.new.places.items ≡ places ++ more =
    c.push_moved.ensures ∙ ap (λ (ps : List PieceAt). ps ++ more) reserved in
    let spans_are : c.push_reserved.new.self.items
    ≡ spans ++ record { start = c.len-start.result; end = c.len-end.result } ∷ [] =
    c.push_reserved.ensures.items ∙ ap
    (λ (ss : List Span). ss ++ record { start = c.len-start.result; end = c.len-end.result } ∷ [])
    c.reserve.ensures.items in
    let starts : c.len-start.result ≡ length places = omega
    (arith, c.len-start.ensures, c.reserve-2.new.self.ok, ap length reserved) in
    let ends : c.len-end.result ≡ length (places ++ more) = omega
    (arith, c.len-end.ensures, c.push_moved.new.places.ok, ap length places_are) in
    one_more places more spans c.push_moved.new.places.items c.push_reserved.new.self.items c.len-start.result
    c.len-end.result places_are spans_are starts ends c.self.invariant
    ∙ ap (λ (all : List (List PieceAt)). all ++ more ∷ []) c.self.view_is
