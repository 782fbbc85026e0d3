use Rattle.std.proofs.Common.{inl}
use Rattle.hub_lane.proofs.InRounds.{round_ends}
use Rattle.hub_lane.proofs.laws.a_round_settles_a_place_unless_datagrams_are_held.Goals as goal

pub returns : goal.returns
returns c begun last after calls some wanted are quiet = round_ends begun last after calls some (inl wanted) are quiet
