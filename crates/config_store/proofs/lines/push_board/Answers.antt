use Rattle.std.proofs.Common.{◌≡◌, ◌∙◌, [], map}
use Rattle.node_tree.specs.Maps.{Name}
use Rattle.config_store.specs.declared.refusal.StoreWhy.TheVariants.{Overlap}
use Rattle.config_store.specs.Kept as kept
use Rattle.config_store.specs.Overlaps.{overlapping_names}
use Rattle.config_store.specs.Refusals as fault
use Rattle.config_store.specs.States.{StoreFault}
use Rattle.config_store.proofs.Faults.{handed_on}
use Rattle.config_store.proofs.lines.push_board.Goals as goal

pub returns-in_err-check_overlaps-clause-first : goal.returns-in_err-check_overlaps-clause-first
returns-in_err-check_overlaps-clause-first c =
    let refusal = c.in_err-check_overlaps.field-0.0 in
    let board = c.args.board.now in
    let index = c.args.index.now in
    let found : c.as_slice.result.now ≡ kept.registers_kept index = c.as_slice.ensures.value ∙ c.in_ok-found.ensures.kept in
    let told : fault.TellsFirst (map {A = Name} {B = StoreFault} (λ name. (board.name, name, Overlap))
    (overlapping_names [] (kept.registers_kept index))) refusal =
    rw (← found, ← c.as_str-board.ensures) c.in_err-check_overlaps.ensures.first in
    handed_on (fault.TellsFirst (fault.overlap_faults (board, index))) c.from_residual-in_err-check_overlaps.result refusal
    c.from_residual-in_err-check_overlaps.ensures.1 told
