use Rattle.std.proofs.Common.{arith}
use Rattle.std.specs.FinMap as map
use Rattle.std.proofs.lemmas.Option.{slice_get_within}
use Rattle.config_store.proofs.NameSearch.{low_half, high_half}
use Rattle.config_store.proofs.kept.first_from.Goals as goal

pub halving-init : goal.halving-init
halving-init c = record {
  rising = omega arith;
  within = omega (arith, c.len-high.ensures.registers);
  sides = record {
    before = λ k e low at. absurd (omega arith);
    after = λ k e high at.
        let within = slice_get_within (map.entries c.args.index.now) k e at in
        absurd (omega (arith, within, c.len-high.ensures.registers, map.len-entries c.args.index.now));
  };
}

pub halving-preserved-then-is_name_before : goal.halving-preserved-then-is_name_before
halving-preserved-then-is_name_before c = record {
  rising = omega arith;
  within = omega arith;
  sides = record {
    before = low_half (map.entries c.args.index.now) c.args.name.now _ _ (map.entries_sorted c.args.index.now)
        c.at.ensures.entry (cc);
    after = c.halving.invariant.sides.after;
  };
}

pub halving-preserved : goal.halving-preserved
halving-preserved c = record {
  rising = omega arith;
  within = omega arith;
  sides = record {
    before = c.halving.invariant.sides.before;
    after = high_half (map.entries c.args.index.now) c.args.name.now _ _ (map.entries_sorted c.args.index.now)
        c.at.ensures.entry (cc);
  };
}
