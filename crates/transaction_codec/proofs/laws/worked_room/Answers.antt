use Rattle.std.proofs.Common.{refl}
use Rattle.transaction_codec.specs.Request.{request_at}
use Rattle.transaction_codec.proofs.laws.worked_room.Goals as goal

pub returns : goal.returns
unfolding request_at
returns c = refl
