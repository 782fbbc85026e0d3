use Rattle.std.proofs.Common.{◌≡◌, drop}
use Rattle.std.specs.List.{list_any}
use Rattle.std.specs.Str.{bytes_eq}
use Rattle.script_lang.proofs.document.has_name_of.Given as goal

-- the boards that are left decide it
abbrev pub invariant-loop-other : goal.invariant-loop-other
invariant-loop-other l =
    list_any (λ other. bytes_eq other.name l.named.name) (drop l.other-index l.boards)
    ≡ list_any (λ other. bytes_eq other.name l.named.name) l.boards
