use Rattle.std.proofs.Common.{◌∙◌, ap, arith, inl, inr}
use Rattle.std.proofs.lemmas.Bool.{cases_lt}
use Rattle.lane_tables.specs.Books.{is_marked}
use Rattle.lane_tables.proofs.PlannedBodies.{marked_at}
use Rattle.lane_tables.proofs.rows.untaken_from.Goals as goal

pub returns-then-not-body-clause-stops : goal.returns-then-not-body-clause-stops
returns-then-not-body-clause-stops c less = marked_at c.args.bodies.now c.loop-at.at
    c.index-bodies-at.result (omega (arith, less, c.requires.asked)) c.index-bodies-at.is ∙ c.if-not-body.true

pub loop-at-preserved : goal.loop-at-preserved
loop-at-preserved c n from less = elim (cases_lt n c.loop-at.at) [
  | inl lower ↦ c.loop-at.invariant n from lower
  | inr most ↦ ap (is_marked c.args.bodies.now) (omega (arith, most, less))
      ∙ (marked_at c.args.bodies.now c.loop-at.at c.index-bodies-at.result (omega (arith, c.requires.asked))
      c.index-bodies-at.is ∙ c.if-not-body.false)
]
