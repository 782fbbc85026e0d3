use Rattle.std.proofs.Common.{◌≡◌}
use Rattle.toml.specs.View.{members_view, table_view}
use Rattle.script_lang.specs.Walk.{names_faults}
use Rattle.script_lang.proofs.walk.check_each_name.Given as goal

-- the faults are those of the names that are left
abbrev pub invariant-loop-name : goal.invariant-loop-name
invariant-loop-name l = names_faults (members_view l.name-iterator) ≡ names_faults (table_view l.members)
