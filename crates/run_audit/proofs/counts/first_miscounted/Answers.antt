use Rattle.std.proofs.Common.{◌≡◌, ◌+◌, ◌≤◌, List, Some, length, map, refl, subst, sym, ap, ◌∙◌}
use Rattle.std.specs.List.{slice_get}
use Rattle.std.proofs.lemmas.Bool.{false≢true}
use Rattle.std.proofs.lemmas.Option.{slice_get_read}
use Rattle.transcript.specs.declared.line.BoardLine.{BoardLine}
use Rattle.run_audit.specs.declared.places.PieceShown.{PieceShown}
use Rattle.run_audit.specs.AskedLines.{ShownPiece, asked_lines, pieces_shown}
use Rattle.run_audit.specs.Counts.{IsMiscounted}
use Rattle.run_audit.specs.Steps.{piece_kept}
use Rattle.run_audit.proofs.Distinct.{miscounted_found, miscounted_more, miscounted_none}
use Rattle.run_audit.proofs.PlansMade.{session_pieces}
use Rattle.run_audit.proofs.counts.first_miscounted.Goals as goal

pub returns-then-branch : goal.returns-then-branch
returns-then-branch c = λ boards are.
    let board = c.loop-board.board in
    let scripts = c.args.scripts.now in
    let shown = c.args.shown.now in
    let told = c.told-item.result in
    let lines = c.as_slice-told-items.result.now in
    let at : slice_get shown.boards board ≡ Some told =
    ap (λ (ls : List BoardLine). slice_get ls board) (sym c.as_slice-told-items.ensures)
    ∙ slice_get_read lines (length lines) board told refl c.loop-board-test.true c.told-item.is in
    let same : map piece_kept c.as_slice.result.now ≡ pieces_shown boards scripts board (asked_lines scripts shown) =
    ap (λ (ps : List PieceShown). map piece_kept ps) c.as_slice.ensures.value
    ∙ (c.in_ok-pieces.ensures ∙ session_pieces boards scripts shown board _ _ are) in
    miscounted_found boards scripts shown board told _
    (ap (λ n. n + board + 1) c.count_client_lines-before.ensures)
    (c.loop-board.invariant boards are) at
    (subst (λ (ps : List ShownPiece). IsMiscounted ps told) same
    (c.in_ok-is_miscounted.ensures.0 c.if-branch.true))

pub loop-board-preserved : goal.loop-board-preserved
loop-board-preserved c = λ boards are.
    let board = c.loop-board.board in
    let scripts = c.args.scripts.now in
    let shown = c.args.shown.now in
    let told = c.told-item.result in
    let lines = c.as_slice-told-items.result.now in
    let at : slice_get shown.boards board ≡ Some told =
    ap (λ (ls : List BoardLine). slice_get ls board) (sym c.as_slice-told-items.ensures)
    ∙ slice_get_read lines (length lines) board told refl c.loop-board-test.true c.told-item.is in
    let same : map piece_kept c.as_slice.result.now ≡ pieces_shown boards scripts board (asked_lines scripts shown) =
    ap (λ (ps : List PieceShown). map piece_kept ps) c.as_slice.ensures.value
    ∙ (c.in_ok-pieces.ensures ∙ session_pieces boards scripts shown board _ _ are) in
    miscounted_more boards scripts shown board told (c.loop-board.invariant boards are) at
    (λ wrong. false≢true (sym c.if-branch.false ∙ c.in_ok-is_miscounted.ensures.1
    (subst (λ (ps : List ShownPiece). IsMiscounted ps told) (sym same) wrong)))

pub returns : goal.returns
returns c = λ boards are.
    let over : length c.args.shown.now.boards ≤ c.loop-board.board =
    subst (λ (ls : List BoardLine). length ls ≤ c.loop-board.board) c.as_slice-told-items.ensures c.loop-board-test.false
    in
    miscounted_none boards c.args.scripts.now c.args.shown.now c.loop-board.board over (c.loop-board.invariant boards are)
