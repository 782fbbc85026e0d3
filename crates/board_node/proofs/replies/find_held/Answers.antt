-- The ring is its two parts, one after the other.
use Rattle.std.proofs.Common.{◌∙◌, sym, ap, subst}
use Rattle.std.specs.List.{AllByRecursion}
use Rattle.world_model.specs.Board.{with_id}
use Rattle.board_node.specs.View.{IsShort}
use Rattle.board_node.proofs.Rings.{all_newer, with_id_first, with_id_second}
use Rattle.board_node.proofs.replies.find_held.Goals as goal

pub find_reply-requires-in-None : goal.find_reply-requires-in-None
find_reply-requires-in-None c = record {
  short = all_newer IsShort c.as_slices.result.0.now c.as_slices.result.1.now
      (subst (AllByRecursion IsShort) (sym c.as_slices.ensures) c.requires.short);
}

pub returns-in-Some-clause-found : goal.returns-in-Some-clause-found
returns-in-Some-clause-found c =
    sym (with_id_first c.args.id c.as_slices.result.0.now c.as_slices.result.1.now _ (sym c.in-Some.ensures.found))
    ∙ ap (with_id c.args.id) c.as_slices.ensures

pub returns-in-None-clause-found : goal.returns-in-None-clause-found
returns-in-None-clause-found c =
    c.find_reply-in-None.ensures.found
    ∙ sym (with_id_second c.args.id c.as_slices.result.0.now c.as_slices.result.1.now (sym c.in-None.ensures.found))
    ∙ ap (with_id c.args.id) c.as_slices.ensures
