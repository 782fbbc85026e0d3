use Rattle.std.proofs.Common.{◌∙◌, arith}
use Rattle.std.proofs.lemmas.Grind.{common_steps}
use Rattle.script_plans.specs.declared.planned.PieceAt.{PieceAt}
use Rattle.script_plans.specs.Plan.{IsWithinBody}
use Rattle.transcript.specs.Ends.{piece_place}
use Rattle.transcript.proofs.ListsLeft.{all_left, made_more}
use Rattle.transcript.proofs.results.push_op_places.Goals as goal

pub push_place-requires : goal.push_place-requires
push_place-requires c =
    (all_left IsWithinBody c.args.pieces.now c.loop-piece.piece-index _ c.loop-piece-test.true
    c.loop-piece.invariant.within).0

pub loop-piece-preserved : goal.loop-piece-preserved
loop-piece-preserved c =
    let pieces = c.args.pieces.now in
    let before = c.loop-piece in
    let past : PieceAt = record { body = 0; index = 0 } in
    record {
      places = rw c.in_ok-push_place.ensures
          (made_more (piece_place c.args.ends.now) pieces before.piece-index past before.places.items
          c.loop-piece-test.true ∙ before.invariant.places);
      within = (all_left IsWithinBody pieces before.piece-index past c.loop-piece-test.true before.invariant.within).1;
    }

pub returns : goal.returns
returns c = grind (arith, common_steps)
