-- How often an address is taken by registers. No public clause speaks of it.
use Rattle.std.specs.Prelude.{ℕ, ◌+◌, ◌≤◌, List, if◌then◌else◌, ◌&&◌, nat_le, nat_lt, String}
use Rattle.std.specs.List.{sum_by}
use Rattle.std.specs.declared.alloc.Global.{Global}
use Rattle.node_tree.specs.declared.register.Register.{Register}
use Rattle.node_tree.specs.Overlaps.{takes_words}
use Rattle.node_tree.specs.Walk.{words_of}

-- 1 where an address is one from the first to the one before the end
abbrev pub takes_at : ℕ → ℕ × ℕ → ℕ
takes_at address span = if nat_le span.0 address && nat_lt address span.1 then 1 else 0

-- 1 where a register has an address
abbrev pub register_takes : ℕ → Register → ℕ
register_takes address r =
    if takes_words r.mode then takes_at address (r.address, r.address + words_of r.mode r.size) else 0

-- no two entries share an address
abbrev pub AreApart : List (String Global × Register) → Type 0
AreApart es = (address : ℕ) → sum_by (λ e. register_takes address e.1) es ≤ 1
