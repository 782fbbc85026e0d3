-- A listing worked by hand. uHAL for names and modes; profile.
use Rattle.std.specs.Prelude.{List, [], ◌∷◌, codes}
use Rattle.address_table.specs.declared.kinds.Mode.TheVariants.{Single, Block, Hierarchical}
use Rattle.address_table.specs.declared.kinds.Permission.TheVariants.{R, Rw}
use Rattle.node_tree.specs.declared.register.Register.{Register}
use Rattle.node_tree.specs.Maps.{Name}
use Rattle.transcript.specs.Examples.{full_mask, register}

-- a field of a word, a block, and a register below a hierarchical one, in byte order of the names
abbrev pub crate_registers : List (Name × Register)
crate_registers =
    (codes "a", register 8 full_mask Rw Single 1)
    ∷ (codes "a.top", register 8 0x80000000 Rw Single 1)
    ∷ (codes "mem", register 0x100 full_mask Rw Block 600)
    ∷ (codes "sys", register 0 full_mask Rw Hierarchical 1)
    ∷ (codes "sys.id", register 4 full_mask R Single 1)
    ∷ []
