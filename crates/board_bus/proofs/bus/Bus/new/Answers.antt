use Rattle.std.proofs.Common.{sym, subst}
use Rattle.board_bus.specs.Cells.{HoldsWords}
use Rattle.board_bus.proofs.Openings.{accepted, init_fits, opening-words}
use Rattle.board_bus.proofs.bus.Bus.new.Goals as goal

pub pages_of-requires : goal.pages_of-requires
pages_of-requires c =
    let is = accepted c.args.ranges.now c.in_ok-spans.ensures.ok in
    record { fit = init_fits c.args.ranges.now is.init }

pub invariant_of-result : goal.invariant_of-result
invariant_of-result c = record {
  paged = c.in_ok-pages_of.ensures.paged;
  words = subst HoldsWords (sym c.in_ok-pages_of.ensures.cells)
      (opening-words c.args.ranges.now c.start_with_words.ensures);
}
