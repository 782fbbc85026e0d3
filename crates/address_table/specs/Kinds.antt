-- The words for permissions and modes (uHAL; the written mode `hierarchical` is the profile's).
use Rattle.std.specs.Prelude.{ℕ, Bool, if◌then◌else◌, List, [], ◌∷◌, codes, Option, Some, None}
use Rattle.std.specs.List.{list_any}
use Rattle.std.specs.Str.{bytes_eq}
use Rattle.address_table.specs.declared.kinds.Permission.{Permission}
use Rattle.address_table.specs.declared.kinds.Permission.TheVariants.{R, W, Rw}
use Rattle.address_table.specs.declared.kinds.Mode.{Mode}
use Rattle.address_table.specs.declared.kinds.Mode.TheVariants.{Single, Block, Port, Hierarchical}

abbrev pub is_one_of : List (List ℕ) → List ℕ → Bool
is_one_of words word = list_any (λ w. bytes_eq word w) words

abbrev pub permission_named : List ℕ → Option Permission
permission_named word =
    if is_one_of (codes "r" ∷ codes "read" ∷ []) word then Some R
    else if is_one_of (codes "w" ∷ codes "write" ∷ []) word then Some W
    else if is_one_of (codes "rw" ∷ codes "wr" ∷ codes "readwrite" ∷ codes "writeread" ∷ []) word then Some Rw
    else None

abbrev pub mode_named : List ℕ → Option Mode
mode_named word =
    if is_one_of (codes "single" ∷ []) word then Some Single
    else if is_one_of (codes "block" ∷ codes "incremental" ∷ codes "inc" ∷ []) word then Some Block
    else if is_one_of (codes "port" ∷ codes "non-incremental" ∷ codes "non-inc" ∷ []) word then Some Port
    else if is_one_of (codes "hierarchical" ∷ []) word then Some Hierarchical
    else None
