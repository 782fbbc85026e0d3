use Rattle.std.proofs.Common.{◌++◌}
use Rattle.std.specs.List.{filter_map}
use Rattle.turn_pass.specs.Record.{made_by}
use Rattle.lane_record.specs.Coding.{item_from}
use Rattle.hub_session.proofs.laws.a_new_seat_is_unused.Goals as goal

pub returns : goal.returns
returns c = λ k mine opening. record {
  no_call = mine;
  no_entry = (λ i. filter_map item_from (made_by k.number (opening i) ++ mine i));
}
