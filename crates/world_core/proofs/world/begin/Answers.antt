use Rattle.std.proofs.Common.{min, refl}
use Rattle.world_core.specs.Steps.{world_of}
use Rattle.world_core.proofs.Moves.{begun_there, new_bodies, new_spellings}
use Rattle.world_core.proofs.world.begin.Goals as goal

pub returns-clause-begun : goal.returns-clause-begun
returns-clause-begun c =
    let status = c.in_ok-status in
    begun_there c.args.settings.window c.args.settings.rounds c.args.board status.status.next status.status.buffers
    (world_of (record {
      board = c.status_of.new.board;
      hub = c.in_ok-new.field-0;
      air = c.new-2.result;
      fates = c.new-3.result;
      lates = c.new-4.result;
    }))
    c.requires (c.identifiers_follow_each_other.ensures.first c.args.board.first c.keeps_its_ranges.ensures.first)
    status.ensures.next status.ensures.buffers status.ensures.board c.in_ok-new.ensures c.new-2.ensures
    (rw (c.new-3.ensures.items, c.new-4.ensures.items) refl)

pub returns-clause-spellings : goal.returns-clause-spellings
returns-clause-spellings c =
    let status = c.in_ok-status.status in
    new_spellings status.next (min c.args.settings.window status.buffers) c.args.settings.rounds c.in_ok-new.field-0
    c.in_ok-new.ensures

pub returns-clause-counted : goal.returns-clause-counted
returns-clause-counted c =
    let status = c.in_ok-status.status in
    new_bodies status.next (min c.args.settings.window status.buffers) c.args.settings.rounds c.in_ok-new.field-0
    c.in_ok-new.ensures
