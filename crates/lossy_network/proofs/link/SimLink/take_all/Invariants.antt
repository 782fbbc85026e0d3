use Rattle.std.proofs.Common.{◌≡◌, ℕ}
use Rattle.lossy_network.specs.Network.{all_taken, most_takings, takes}
use Rattle.lossy_network.proofs.link.SimLink.take_all.Given as goal

abbrev pub invariant-loop : goal.invariant-loop
invariant-loop l = (all_taken l.self ≡ all_taken l.fn.self) × ((taken : ℕ) × (l.self ≡ takes taken l.fn.self))

abbrev pub decreases-loop : goal.decreases-loop
decreases-loop l = most_takings l.self
