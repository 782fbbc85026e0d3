use Rattle.std.proofs.Common.{◌≡◌, ◌+◌, ◌-◌, ◌<◌, ℕ, drop, length, ap, ◌∙◌, arith}
use Rattle.board_bus.specs.Ranges.{opening_bus, range_cells}
use Rattle.board_bus.specs.Pages.{put_all}
use Rattle.board_bus.proofs.PutAll.{opening-more}
use Rattle.board_bus.proofs.opening.pages_of.Goals as goal

pub loop-i-preserved : goal.loop-i-preserved
loop-i-preserved c =
    let ranges = c.args.ranges.now in
    let i = c.loop-i.i - 1 in
    let next : c.loop-i.i ≡ i + 1 = omega (arith, c.loop-i-test.true) in
    let within : i < length ranges = omega (arith, c.loop-i-test.true, c.loop-i.auto.i) in (
      c.in_ok-put_range.ensures.paged,
      c.in_ok-put_range.ensures.cells
          ∙ ap (put_all (range_cells c.index-ranges-i.result))
          (c.loop-i.invariant.1 ∙ ap (λ (n : ℕ). opening_bus (drop n ranges)) next)
          ∙ opening-more ranges i c.index-ranges-i.result within c.index-ranges-i.is,
    )
