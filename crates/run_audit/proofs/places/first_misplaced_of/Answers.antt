use Rattle.std.proofs.Common.{◌≡◌, ◌||◌, ◌==◌, map, get_or, arith, sym, ap, ◌∙◌, inl, inr, Some, option_map}
use Rattle.std.specs.List.{slice_get}
use Rattle.std.proofs.lemmas.Bool.{false≢true}
use Rattle.std.proofs.lemmas.List.{length-map}
use Rattle.run_audit.specs.declared.places.PieceShown.{PieceShown}
use Rattle.run_audit.specs.Taken.{has}
use Rattle.run_audit.specs.Steps.{piece_kept}
use Rattle.run_audit.proofs.Keys.{last_there}
use Rattle.run_audit.proofs.Misplacing.{place_more, placing_all, placing_found, placing_more, read_mapped}
use Rattle.run_audit.proofs.places.first_misplaced_of.Goals as goal
use Rattle.run_audit.proofs.places.first_misplaced_of.Goals.{then-is_misplaced-via-then-is_misplaced}
use Rattle.run_audit.proofs.places.first_misplaced_of.Goals.{then-is_misplaced-via-else-is_misplaced+then-disagrees}

nothing : PieceShown
nothing = record { line = 0; client = 0; body = 0; index = 0; place = 0; transaction = 0 }

pub returns-then-is_misplaced : goal.returns-then-is_misplaced
unfolding nothing
returns-then-is_misplaced c = λ rises.
    let pieces = map piece_kept c.args.pieces.now in
    let i = c.loop-piece.piece-index in
    let piece = piece_kept (get_or c.args.pieces.now i nothing) in
    let at : slice_get pieces i ≡ Some piece = read_mapped piece_kept c.args.pieces.now i nothing c.loop-piece-test.true in
    let taken = c.in_ok-is_taken.ensures.was ∙ c.loop-piece.invariant.places piece.place in
    placing_found c.args.sent pieces i piece rises at c.in_ok-is_taken.is_taken taken
    (option_map piece_kept c.loop-piece.last) (c.loop-piece.invariant.placing rises)
    (elim c.then-is_misplaced.branch [
      | then-is_misplaced-via-then-is_misplaced w ↦ inl (c.is_misplaced.ensures.0 w.if-is_misplaced.true)
      | then-is_misplaced-via-else-is_misplaced+then-disagrees w ↦
          inr (sym w.disagrees.ensures ∙ w.if-disagrees.true)
    ])

pub loop-piece-preserved : goal.loop-piece-preserved
unfolding nothing
loop-piece-preserved c =
    let pieces = map piece_kept c.args.pieces.now in
    let i = c.loop-piece.piece-index in
    let piece = piece_kept (get_or c.args.pieces.now i nothing) in
    let at : slice_get pieces i ≡ Some piece = read_mapped piece_kept c.args.pieces.now i nothing c.loop-piece-test.true in
    let taken = c.in_ok-is_taken.ensures.was ∙ c.loop-piece.invariant.places piece.place in
    record {
      placing = λ rises. placing_more c.args.sent pieces i piece rises at c.in_ok-is_taken.is_taken taken
          (option_map piece_kept c.loop-piece.last) (c.loop-piece.invariant.placing rises)
          (λ wrong. false≢true (sym c.if-is_misplaced.false ∙ c.is_misplaced.ensures.1 wrong))
          (sym c.disagrees.ensures ∙ c.if-disagrees.false);
      last' = last_there (has c.take_place.new.taken) _ (get_or c.args.pieces.now i nothing)
          (c.in_ok-is_taken.ensures.places piece.place);
      places = λ place.
          c.in_ok-is_taken.ensures.places place
          ∙ (ap (λ b. b || (place == piece.place)) (c.loop-piece.invariant.places place)
          ∙ sym (place_more place pieces i piece at));
    }

pub returns : goal.returns
returns c = λ rises.
    placing_all c.args.sent (map piece_kept c.args.pieces.now) c.loop-piece.piece-index (option_map piece_kept c.loop-piece.last)
    (omega (arith, length-map c.args.pieces.now piece_kept, c.loop-piece-test.false)) (c.loop-piece.invariant.placing rises)
