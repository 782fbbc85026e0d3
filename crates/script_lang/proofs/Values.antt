-- Arrays beside the values that they stand for.
use Rattle.std.proofs.Common.{◌≡◌, List, [], ◌∷◌, refl, ap, map}
use Rattle.toml.specs.declared.value.Value.{Value}
use Rattle.toml.specs.View.{view, items_view}
use Rattle.script_lang.specs.Fields.{values}

-- an array's values are those of its vector
pub values_of_view : (vs : List Value) → values (items_view vs) ≡ map view vs
values_of_view [] = refl
values_of_view (v ∷ vs) = ap (λ rest. view v ∷ rest) (values_of_view vs)
