use Rattle.std.proofs.Common.{◌<◌, length, drop, arith, subst}
use Rattle.std.specs.List.{flat_map}
use Rattle.config_store.specs.Kept as kept
use Rattle.config_store.specs.Refusals as fault
use Rattle.config_store.proofs.Faults.{front_fault, handed_on}
use Rattle.config_store.proofs.Places.{drop_read}
use Rattle.config_store.proofs.lines.reads.Goals as goal

pub returns-in_err-push_board-clause-first : goal.returns-in_err-push_board-clause-first
returns-in_err-push_board-clause-first c =
    let boards = c.args.boards.now in
    let indexes = c.args.indexes.now in
    let i = c.loop-i.i in
    let refusal = c.in_err-push_board.field-0.0 in
    let within : i < length boards = omega arith in
    let also : i < length indexes = omega (arith, c.requires) in
    let first : fault.TellsFirst (flat_map fault.overlap_faults (kept.indexed_boards (drop i boards) (drop i indexes))) refusal =
    rw (
      drop_read boards i c.index-boards-i.result within c.index-boards-i.is,
      drop_read indexes i c.index-indexes-i.result also c.index-indexes-i.is,
    )
    (front_fault _ _ refusal c.in_err-push_board.ensures.first) in
    handed_on (fault.TellsFirst (flat_map fault.overlap_faults (kept.indexed_boards boards indexes))) c.from_residual.result
    refusal c.from_residual.ensures.1
    (subst (λ faults. fault.TellsFirst faults refusal) c.loop-i.invariant.faults first)
