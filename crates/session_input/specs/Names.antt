-- The names of the rules, as the line of a refusal shows them. Profile.
use Rattle.std.specs.Prelude.{ℕ, List, codes}
use Rattle.address_table.specs.declared.refusal.TableWhy.{TableWhy}
use Rattle.address_table.specs.declared.refusal.TableWhy.TheVariants as table
use Rattle.board_bus.specs.declared.range.BusRefusal.{BusRefusal}
use Rattle.board_bus.specs.declared.range.BusRefusal.TheVariants as bus
use Rattle.node_tree.specs.declared.refusal.CompileWhy.{CompileWhy}
use Rattle.node_tree.specs.declared.refusal.CompileWhy.TheVariants as compile
use Rattle.script_lang.specs.declared.refusal.DocWhy.{DocWhy}
use Rattle.script_lang.specs.declared.refusal.DocWhy.TheVariants as document
use Rattle.script_lang.specs.declared.script_refusal.ScriptWhy.{ScriptWhy}
use Rattle.script_lang.specs.declared.script_refusal.ScriptWhy.TheVariants as script

abbrev pub document_rule : DocWhy → List ℕ
document_rule document.NotToml = codes "NotToml"
document_rule document.Shape = codes "Shape"
document_rule document.NoBoards = codes "NoBoards"
document_rule document.ManyBoards = codes "ManyBoards"
document_rule document.ManyClients = codes "ManyClients"
document_rule document.DuplicateBoard = codes "DuplicateBoard"

abbrev pub table_rule : TableWhy → List ℕ
table_rule table.Shape = codes "Shape"
table_rule table.UnknownKey = codes "UnknownKey"
table_rule table.MissingId = codes "MissingId"
table_rule table.BadId = codes "BadId"
table_rule table.BadNumber = codes "BadNumber"
table_rule table.BadMask = codes "BadMask"
table_rule table.BadPermission = codes "BadPermission"
table_rule table.BadMode = codes "BadMode"
table_rule table.BadSize = codes "BadSize"
table_rule table.BadCount = codes "BadCount"

abbrev pub compile_rule : CompileWhy → List ℕ
compile_rule compile.UnknownModule = codes "UnknownModule"
compile_rule compile.ModuleCycle = codes "ModuleCycle"
compile_rule compile.TooMany = codes "TooMany"
compile_rule compile.TooDeep = codes "TooDeep"
compile_rule compile.Duplicate = codes "Duplicate"
compile_rule compile.AddressPastEnd = codes "AddressPastEnd"

-- want of memory is no rule, and no line shows it
abbrev pub bus_rule : BusRefusal → List ℕ
bus_rule bus.Empty = codes "Empty"
bus_rule bus.PastEnd = codes "PastEnd"
bus_rule bus.Overlap = codes "Overlap"
bus_rule bus.TooLarge = codes "TooLarge"
bus_rule bus.InitLong = codes "InitLong"
bus_rule bus.NoMemory = codes "NoMemory"

abbrev pub script_rule : ScriptWhy → List ℕ
script_rule script.BadLine = codes "BadLine"
script_rule script.UnknownBoard = codes "UnknownBoard"
script_rule script.UnknownName = codes "UnknownName"
script_rule script.NoPermission = codes "NoPermission"
script_rule script.WrongMode = codes "WrongMode"
script_rule script.PastSize = codes "PastSize"
script_rule script.BitsOutside = codes "BitsOutside"
script_rule script.NotWhole = codes "NotWhole"
script_rule script.TooMany = codes "TooMany"
