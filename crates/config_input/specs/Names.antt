-- The names of the rules on configurations, as the line of a refusal shows them. Profile.
use Rattle.std.specs.Prelude.{ℕ, List, codes}
use Rattle.config_store.specs.declared.refusal.StoreWhy.{StoreWhy}
use Rattle.config_store.specs.declared.refusal.StoreWhy.TheVariants as why

abbrev pub store_rule : StoreWhy → List ℕ
store_rule why.Shape = codes "Shape"
store_rule why.Overlap = codes "Overlap"
store_rule why.TooMany = codes "TooMany"
store_rule why.UnknownBoard = codes "UnknownBoard"
store_rule why.UnknownName = codes "UnknownName"
store_rule why.NotKept = codes "NotKept"
store_rule why.BitsOutside = codes "BitsOutside"
