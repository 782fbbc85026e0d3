use Rattle.std.proofs.Common.{refl, arith}
use Rattle.reliable_engine.specs.Slots.{open_from}
use Rattle.reliable_engine.proofs.open_places.OpenPlaces.new.Goals as goal

pub invariant_of-result : goal.invariant_of-result
unfolding open_from
invariant_of-result c = record {
  from_one = omega arith;
  up_to_end = omega arith;
  lowest = refl;
  ends = record { rising = omega arith; near = omega arith };
}

pub returns : goal.returns
unfolding open_from
returns c = refl
