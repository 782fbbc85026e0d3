use Rattle.std.proofs.Common.{◌≡◌, ◌≤◌, ◌++◌, [], List, ℕ, append_assoc, append-nil, arith, drop, length, map}
use Rattle.std.proofs.Common.{sym, ap, ◌∙◌, refl, rules, Some, ◌+◌}
use Rattle.std.specs.List.{slice_get}
use Rattle.std.proofs.lemmas.List.{drop_all, map_push}
use Rattle.std.proofs.lemmas.Option.{slice_get_read}
use Rattle.script_plans.specs.declared.planned.PieceAt.{PieceAt}
use Rattle.run_audit.specs.declared.places.PieceShown.{PieceShown}
use Rattle.run_audit.specs.AskedLines.{ShownPiece, with_places}
use Rattle.run_audit.specs.Steps.{asking, piece_kept}
use Rattle.run_audit.proofs.Walking.{none_with, with_more}
use Rattle.run_audit.proofs.places.push_pieces.Goals as goal

nothing : PieceAt
nothing = record { body = 0; index = 0 }

pub returns-in_default : goal.returns-in_default
returns-in_default c =
    let ask = asking c.args.asked.now in
    let pieces = c.args.pieces.now in
    let places = c.as_slice-places.result.now in
    let at = c.loop-at.at in
    let same : c.as_slice-places.result.now ≡ c.args.asked.now.shown.now.1 = search rules in
    let over : length places ≤ at = omega (arith, c.in_default.ensures.lookup) in
    let rest : drop at places ≡ [] = drop_all at places over in
    let none : with_places ask (drop at pieces) (drop at places) ≡ [] =
    ap (with_places ask (drop at pieces)) rest ∙ none_with ask (drop at pieces) in
    sym (append-nil _) ∙ (ap (λ (ps : List ShownPiece). map piece_kept c.loop-at.all.items ++ ps) (sym none)
    ∙ (c.loop-at.invariant ∙ ap (λ (ps : List (ℕ × ℕ)). map piece_kept c.args.all.now.items ++ with_places ask pieces ps) same))

pub loop-at-preserved : goal.loop-at-preserved
unfolding nothing
loop-at-preserved c =
    let ask = asking c.args.asked.now in
    let pieces = c.args.pieces.now in
    let places = c.as_slice-places.result.now in
    let at = c.loop-at.at in
    let there : slice_get places at ≡ Some c.in-Some.field-0.now =
    slice_get_read places (length places) at c.in-Some.field-0.now refl c.in-Some.ensures.lookup.3.0
    c.in-Some.ensures.lookup.1 in
    let next = with_more ask pieces places at nothing c.in-Some.field-0.now c.loop-at-test.true there in
    ap (λ (ps : List PieceShown). map piece_kept ps ++ with_places ask (drop (at + 1) pieces) (drop (at + 1) places))
    c.in_ok-push.ensures.items
    ∙ (ap (λ (ps : List ShownPiece). ps ++ with_places ask (drop (at + 1) pieces) (drop (at + 1) places))
    (map_push piece_kept c.loop-at.all.items _)
    ∙ (append_assoc (map piece_kept c.loop-at.all.items) _ _
    ∙ (ap (λ (ps : List ShownPiece). map piece_kept c.loop-at.all.items ++ ps) (sym next) ∙ c.loop-at.invariant)))
