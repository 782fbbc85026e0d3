-- How the code keeps links with given answers and their rack. The private functions speak of it and no public clause
-- does.
use Rattle.std.specs.Prelude.{◌≤◌, length, take, drop, reverse}
use Rattle.std.specs.List.{All}
use Rattle.std.specs.Vec.{vec_capacity}
use Rattle.lossy_network.specs.declared.script_link.ScriptLink.TheInside.{Inside}
use Rattle.lossy_network.specs.declared.script_rack.ScriptRack.TheInside.{Inside as RackInside}
use Rattle.lossy_network.specs.Scripts.{AreDatagrams, ScriptRackState, ScriptState, bytes_of, lists_of}

abbrev pub script_of : Inside → ScriptState
script_of l = record {
  handed = bytes_of (take l.next l.answers.items);
  left = bytes_of (drop l.next l.answers.items);
  fail = l.fail.items;
  calls = l.calls;
  faults = l.faults;
  quiets = l.quiets;
  gots = l.gots;
  passed = l.passed;
  number = l.number;
}

abbrev pub IsScript : Inside → Type 0
IsScript l = AreDatagrams l.answers.items

-- the next list is the last
abbrev pub scripts_of : RackInside → ScriptRackState
scripts_of r = record {
  left = lists_of (reverse r.lists.items);
  made = r.made;
  faults = r.faults;
  kept = r.kept.items;
}

-- No more links are kept than were made, and there is room for all that were made.
pub record IsScriptRack (r : RackInside) : Type 0 where
  pub short : All (λ answers. AreDatagrams answers.items) r.lists.items
  pub within : length r.kept.items ≤ length r.made
  pub places : length r.made ≤ vec_capacity r.kept
