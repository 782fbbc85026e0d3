use Rattle.std.proofs.Common.{◌≡◌, refl, sym, ◌∙◌, arith}
use Rattle.transaction_codec.specs.declared.request.Op.{Op}
use Rattle.transaction_codec.specs.Answer.{values_done}
use Rattle.mtu_packer.specs.Cutting.{piece, piece_count}
use Rattle.transcript_reader.proofs.PieceLemmas.{some_at, some_of}
use Rattle.transcript_reader.proofs.pieces.can_read.Goals as goal

pub returns-then-values_of_piece-count : goal.returns-then-values_of_piece-count
returns-then-values_of_piece-count c = (
  λ _. some_of (λ (part : Op). c.args.count ≡ values_done part) (piece c.args.payload c.args.op.now)
      (piece_count c.args.payload c.args.op.now) c.loop-k.k (omega arith)
      (sym c.if-values_of_piece-count.true ∙ c.values_of_piece.ensures),
  λ _. refl,
)

pub returns : goal.returns
returns c = (
  λ never. absurd cc,
  λ can.
      let found = some_at (λ (part : Op). c.args.count ≡ values_done part) (piece c.args.payload c.args.op.now)
      (piece_count c.args.payload c.args.op.now) can in
      absurd (c.loop-k.invariant found.0 (omega (arith, found.1)) found.2),
)
