use Rattle.std.proofs.Common.{◌∙◌, ap, map, sym}
use Rattle.std.specs.Option.{option_map}
use Rattle.transcript.specs.Ends.{piece_result}
use Rattle.transcript.specs.Results.{shown_not_done}
use Rattle.transcript.proofs.PiecesSoFar.{came_to_fault, came_to_words, fault_here, fault_on, words_on}
use Rattle.transcript.proofs.results.op_result.Goals as goal

pub returns-in-Some : goal.returns-in-Some
returns-in-Some c =
    let ends = c.args.ends.now in
    let pieces = c.args.pieces.now in
    let op = c.args.op.now in
    came_to_fault op.verb op.mask (map (piece_result ends) pieces) c.in-Some.fault
    (sym (ap (option_map (shown_not_done op.verb op.mask)) c.loop-piece.invariant.fault)
    ∙ fault_here op.verb op.mask ends pieces c.loop-piece.piece-index _ c.in-Some.fault c.loop-piece-test.true
    (sym c.in_ok-fault.ensures.fault ∙ c.in-Some.is))

pub loop-piece-preserved : goal.loop-piece-preserved
loop-piece-preserved c =
    let ends = c.args.ends.now in
    let pieces = c.args.pieces.now in
    let before = c.loop-piece in
    record {
      words = words_on ends pieces before.piece-index _ before.words.items c.piece_fault.new.words.items
          c.loop-piece-test.true c.in_ok-fault.ensures.values ∙ before.invariant.words;
      fault = fault_on c.args.op.now.verb c.args.op.now.mask ends pieces before.piece-index _ c.loop-piece-test.true
          (sym c.in_ok-fault.ensures.fault ∙ c.in_default.is) ∙ before.invariant.fault;
    }

pub returns : goal.returns
returns c =
    let op = c.args.op.now in
    c.shown.ensures ∙ came_to_words op.verb op.mask c.args.ends.now c.args.pieces.now c.loop-piece.piece-index
    c.loop-piece.words.items c.loop-piece-test.false c.loop-piece.invariant.words c.loop-piece.invariant.fault
