use Rattle.std.proofs.Common.{◌≡◌, ℕ, ◌<◌, nat_lt, true, arith}
use Rattle.std.proofs.lemmas.Bool.Decides.{nat_tests}
use Rattle.transcript_reader.proofs.PieceLemmas.{can_fail_by, fails_so}
use Rattle.transcript_reader.proofs.pieces.can_fail.Goals as goal

early : (a b m n : ℕ) → a ≡ m → b ≡ n → nat_lt a b ≡ true → m < n
early a b m n e f test = let low : a < b = grind (arith, nat_tests) in omega arith

passes : (a b m n : ℕ) → a ≡ m → b ≡ n → m < n → nat_lt a b ≡ true
passes a b m n e f low = let below : a < b = omega arith in grind (arith, nat_tests)

pub returns-then-fails_with : goal.returns-then-fails_with
returns-then-fails_with c = (
  λ test. can_fail_by c.args.payload c.args.code c.args.after c.args.op.now c.requires.payload c.requires.sound
      (c.fails_with.ensures.0 c.if-fails_with.true)
      (early c.from.result c.piece_length.result c.args.after _ c.from.ensures c.piece_length.ensures test),
  λ can. passes c.from.result c.piece_length.result c.args.after _ c.from.ensures c.piece_length.ensures
      (fails_so c.args.payload c.args.code c.args.after c.args.op.now can).1,
)

pub returns-else-fails_with : goal.returns-else-fails_with
returns-else-fails_with c = (
  λ never. absurd cc,
  λ can. c.fails_with.ensures.1 (fails_so c.args.payload c.args.code c.args.after c.args.op.now can).0,
)
