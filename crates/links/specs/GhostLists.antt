-- How a list that contracts alone see is kept. Private functions speak of it and no public clause does.
use Rattle.std.specs.Prelude.{List, [], ◌∷◌, ◌++◌}
use Rattle.links.specs.declared.ghost_list.Items.{Items, Nothing, More'}

abbrev pub items_of : {T : Type 0} → Items T → List T
items_of Nothing = []
items_of (More' marker before last) = items_of before ++ last.value ∷ []
