use Rattle.std.proofs.Common.{◌≡◌, ◌<◌, length, false, arith}
use Rattle.std.specs.FinMap.{empty}
use Rattle.std.specs.Str.{bytes_eq}
use Rattle.std.proofs.lemmas.List.{drop_more}
use Rattle.config_store.proofs.Places.{drop_read}
use Rattle.config_store.proofs.checking.index_of.Goals as goal

pub loop-i-preserved : goal.loop-i-preserved
loop-i-preserved c =
    let boards = c.args.boards.now in
    let indexes = c.args.indexes.now in
    let i = c.loop-i.i in
    let within : i < length boards = omega arith in
    let also : i < length indexes = omega (arith, c.requires) in
    let other : bytes_eq c.index-boards-i.result.name c.args.name.now ≡ false = cc in
    rw (drop_read boards i c.index-boards-i.result within c.index-boards-i.is, drop_more indexes i empty also, other) at
    c.loop-i.invariant
