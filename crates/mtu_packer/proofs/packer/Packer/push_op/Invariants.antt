use Rattle.std.proofs.Common.{◌≡◌, ◌+◌, length, map}
use Rattle.std.specs.List.{range_with_len}
use Rattle.mtu_packer.specs.Cutting.{piece}
use Rattle.mtu_packer.specs.Progress.{IsWithin, run}
use Rattle.mtu_packer.proofs.packer.Packer.push_op.Given as goal

abbrev pub invariant-loop-k : goal.invariant-loop-k
invariant-loop-k l = record {
  taken : l.self ≡ run l.initial.self (map (piece l.payload l.op) (range_with_len 0 l.k));
  payload : l.self.payload ≡ l.payload;
  count : length l.self.places ≡ length l.initial.self.places + l.k;
  within : IsWithin l.self;
}
