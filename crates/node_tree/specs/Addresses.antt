-- The addresses that a register takes, in words (uHAL: a block has one address for each word, every other register
-- one).
use Rattle.std.specs.Prelude.{ℕ, ◌+◌, ◌-◌}
use Rattle.address_table.specs.declared.kinds.Mode.{Mode}
use Rattle.address_table.specs.declared.kinds.Mode.TheVariants.{Single, Block, Port, Hierarchical}
use Rattle.node_tree.specs.declared.register.Register.{Register}

-- how many addresses a register of a mode takes
abbrev pub words_of : Mode → ℕ → ℕ
words_of Block size = size
words_of Single size = 1
words_of Port size = 1
words_of Hierarchical size = 1

-- the last of them
abbrev pub last_address : Register → ℕ
last_address r = r.address + (words_of r.mode r.size - 1)
