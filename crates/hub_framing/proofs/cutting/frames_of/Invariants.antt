-- The bytes are the frames so far and what was not taken yet.
use Rattle.std.proofs.Common.{◌≡◌, ◌≤◌, ◌++◌, ◌-◌, length, drop}
use Rattle.std.specs.List.{AllByRecursion}
use Rattle.hub_framing.specs.Frames.{IsFrame, frames_bytes}
use Rattle.hub_framing.proofs.cutting.frames_of.Given as goal

abbrev pub invariant-cutting : goal.invariant-cutting
invariant-cutting l = record {
  within : l.taken ≤ length l.bytes;
  stream : l.bytes ≡ frames_bytes l.frames.items ++ drop l.taken l.bytes;
  each : AllByRecursion IsFrame l.frames.items;
}

abbrev pub decreases-cutting : goal.decreases-cutting
decreases-cutting l = length l.bytes - l.taken
