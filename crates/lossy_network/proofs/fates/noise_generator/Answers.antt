use Rattle.std.proofs.Common.{◌∙◌}
use Rattle.lossy_network.specs.Fates.{generator_of}
use Rattle.lossy_network.proofs.Noise.{no_advance}
use Rattle.lossy_network.proofs.fates.noise_generator.Goals as goal

pub returns-in-Noise : goal.returns-in-Noise
returns-in-Noise c = rw c.in-Noise.is (c.new-in-Noise.ensures ∙ no_advance (generator_of c.in-Noise.noise))
