use Rattle.std.proofs.Common.{◌++◌, List, ℕ, ap, sym, ◌∙◌}
use Rattle.ipb_base.specs.Fronts.{all_of}
use Rattle.capture_reader.specs.Reading.{pair_at}
use Rattle.ipb_base.proofs.Fronts.{all_step, one_more}
use Rattle.capture_reader.proofs.Pairs.{pairs_shorten}
use Rattle.capture_reader.proofs.hex.read_pairs.Goals as goal

pub pairs-smaller : goal.pairs-smaller
pairs-smaller c = pairs_shorten c.pairs.rest.now c.in-Some.more.now c.in-Some.byte c.in-Some.ensures

pub pairs-preserved : goal.pairs-preserved
pairs-preserved c = record {
  bytes =
      ap (λ (bytes : List ℕ). bytes ++ (all_of pair_at c.in-Some.more.now).0) c.in_ok-push.ensures.items
      ∙ one_more pair_at pairs_shorten c.pairs.out.items c.pairs.rest.now c.in-Some.more.now c.in-Some.byte
      c.in-Some.ensures
      ∙ c.pairs.invariant.bytes;
  behind =
      ap (λ (read : List ℕ × List ℕ). read.1)
      (sym (all_step pair_at pairs_shorten c.pairs.rest.now c.in-Some.more.now c.in-Some.byte c.in-Some.ensures))
      ∙ c.pairs.invariant.behind;
}
