use Rattle.std.proofs.Common.{◌≡◌, drop, map}
use Rattle.ipb_base.specs.Lists.{first_named}
use Rattle.script_lang.proofs.named.value_named.Given as goal

-- it stands under one of the names that are left
abbrev pub invariant-loop-its_name : goal.invariant-loop-its_name
invariant-loop-its_name g l =
    first_named (map (λ entry. (entry.0.now, entry.1)) (drop l.its_name-index l.table)) l.name
    ≡ first_named (map (λ entry. (entry.0.now, entry.1)) l.table) l.name
