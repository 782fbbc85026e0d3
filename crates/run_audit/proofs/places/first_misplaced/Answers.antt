use Rattle.std.proofs.Common.{◌≡◌, ◌≤◌, List, Some, length, map, refl, subst, sym, ap, ◌∙◌}
use Rattle.std.specs.List.{slice_get}
use Rattle.std.proofs.lemmas.Option.{slice_get_read}
use Rattle.script_plans.specs.Claims.{Rises}
use Rattle.transcript.specs.Shown.{places_told}
use Rattle.transcript.specs.declared.line.BoardLine.{BoardLine}
use Rattle.run_audit.specs.declared.places.PieceShown.{PieceShown}
use Rattle.run_audit.specs.AskedLines.{ShownPiece, asked_lines, pieces_shown}
use Rattle.run_audit.specs.Places.{HasMisplaced}
use Rattle.run_audit.specs.Steps.{IsFirstBroken, StandsBefore, piece_kept}
use Rattle.run_audit.proofs.FirstBroken.{IsMisplacedBelow, misplaced_all, misplaced_more}
use Rattle.run_audit.proofs.PlansMade.{session_pieces}
use Rattle.run_audit.proofs.TextOrder.{shown_rise}
use Rattle.run_audit.proofs.places.first_misplaced.Goals as goal

pub loop-board-preserved : goal.loop-board-preserved
loop-board-preserved c = λ boards scripts are.
    let board = c.loop-board.board in
    let shown = c.args.shown.now in
    let told = c.line-item.result in
    let lines = c.as_slice-line-items.result.now in
    let found = c.in_ok-found.found in
    let at : slice_get shown.boards board ≡ Some told =
    ap (λ (ls : List BoardLine). slice_get ls board) (sym c.as_slice-line-items.ensures)
    ∙ slice_get_read lines (length lines) board told refl c.loop-board-test.true c.line-item.is in
    let all = pieces_shown boards scripts board (asked_lines scripts shown) in
    let same : map piece_kept c.as_slice.result.now ≡ all =
    ap (λ (ps : List PieceShown). map piece_kept ps) c.as_slice.ensures.value
    ∙ (c.in_ok-pieces.ensures ∙ session_pieces boards scripts shown board _ _ are) in
    let rises : Rises StandsBefore (map piece_kept c.as_slice.result.now) =
    subst (λ (ps : List ShownPiece). Rises StandsBefore ps) (sym same) (shown_rise boards scripts board shown) in
    let here : IsFirstBroken (HasMisplaced (places_told told) all) found =
    subst (λ n. IsFirstBroken (HasMisplaced n all) found) c.places_told.ensures
    (subst (λ (ps : List ShownPiece). IsFirstBroken (HasMisplaced c.places_told.result ps) found) same
    (c.in_ok-found.ensures rises)) in
    subst (IsFirstBroken (IsMisplacedBelow boards scripts shown _)) (sym c.earliest-first.ensures)
    (misplaced_more boards scripts shown board told c.loop-board.first found at
    (c.loop-board.invariant boards scripts are) here)

pub returns : goal.returns
returns c = λ boards scripts are.
    let over : length c.args.shown.now.boards ≤ c.loop-board.board =
    subst (λ (ls : List BoardLine). length ls ≤ c.loop-board.board) c.as_slice-line-items.ensures c.loop-board-test.false
    in
    misplaced_all boards scripts c.args.shown.now c.loop-board.board c.loop-board.first over
    (c.loop-board.invariant boards scripts are)
