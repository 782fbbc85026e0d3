use Rattle.std.proofs.Common.{◌≡◌, ◌∙◌, List, [], ap, length, map, rules, subst, sym, arith}
use Rattle.std.proofs.lemmas.Grind.{common_steps}
use Rattle.std.specs.Vec.Iter.{into_iter_items}
use Rattle.lane_record.specs.declared.outcome.Outcome.{Outcome}
use Rattle.board_history.specs.Runs.{parts_with}
use Rattle.script_plans.specs.Plan.{ClientBodies}
use Rattle.client_threads.specs.declared.result.ClientResult.{ClientResult}
use Rattle.session_run.specs.Parts.{next_of, others_of}
use Rattle.session_run.proofs.PartLists.{all_done, all_have_next, board_done, has_clients, none_done, written_back}
use Rattle.session_run.proofs.parts.client_parts.Goals as goal

pub loop-planned-init : goal.loop-planned-init
loop-planned-init c = (
  rw (c.into_iter-planned-iterator.ensures.into_iter_gives.0, c.in_ok-parts.ensures.items)
      (none_done c.args.boards.items c.args.results.items c.in_ok-clients.clients.items c.in_ok-clients.ensures
      c.requires.lanes c.requires.clients),
  grind (arith, common_steps),
  grind (arith, common_steps),
)

pub parts_on_next-requires-clause-next : goal.parts_on_next-requires-clause-next
parts_on_next-requires-clause-next c =
    rw c.deref_mut.ensures.value
    (all_have_next c.args.boards.items (into_iter_items c.loop-planned.planned-iterator) (into_iter_items
    c.next.new.self)
    c.in-Some.planned (map (λ (r : ClientResult). r.lanes) c.args.results.items) c.loop-planned.clients.items
    c.loop-planned.parts.items c.loop-planned.invariant.0 c.in-Some.ensures.steps.0)

pub parts_on_next-requires-clause-all : goal.parts_on_next-requires-clause-all
parts_on_next-requires-clause-all c =
    rw c.deref_mut.ensures.value
    (has_clients c.args.boards.items (into_iter_items c.loop-planned.planned-iterator) (into_iter_items c.next.new.self)
    c.in-Some.planned (map (λ (r : ClientResult). r.lanes) c.args.results.items) c.loop-planned.clients.items
    c.loop-planned.parts.items c.loop-planned.invariant.0 c.in-Some.ensures.steps.0)

pub loop-planned-preserved : goal.loop-planned-preserved
loop-planned-preserved c = (
  (let old = c.loop-planned.clients.items in
      let others = c.in_ok-parts_on_next.ensures.others ∙ ap (map others_of) c.deref_mut.ensures.value in
      board_done c.args.boards.items (into_iter_items c.loop-planned.planned-iterator) (into_iter_items c.next.new.self)
      c.in-Some.planned (map (λ (r : ClientResult). r.lanes) c.args.results.items) old _ c.loop-planned.parts.items
      c.push_reserved.new.self.items c.in_ok-parts_on_next.field-0 c.loop-planned.invariant.0 c.in-Some.ensures.steps.0
      (subst (λ (l : List (List (List Outcome))). c.in_ok-parts_on_next.field-0
      ≡ parts_with c.in-Some.planned (map next_of l) []) c.deref_mut.ensures.value c.in_ok-parts_on_next.ensures.parts)
      c.push_reserved.ensures.items
      (written_back c.loop-planned.clients.len old c.parts_on_next.new.clients
      (sym c.deref_mut.ensures.len ∙ ap (λ (l : List (List (List Outcome))). length l) c.deref_mut.ensures.value) others)),
  (let one = ap (λ (l : List (List ClientBodies)). length l) c.in-Some.ensures.steps.0 in
      omega (arith, c.push_reserved.ensures.len, c.loop-planned.invariant.1, one)),
  omega (arith, c.push_reserved.ensures.capacity, c.loop-planned.invariant.2),
)

pub returns : goal.returns
returns c = all_done c.args.boards.items (into_iter_items c.loop-planned.planned-iterator) c.args.results.items
    c.loop-planned.clients.items c.loop-planned.parts.items c.loop-planned.invariant.0
    (search rules)

pub returns-in_err-parts : goal.returns-in_err-parts
returns-in_err-parts c = grind (arith, common_steps)

pub returns-in_err-clients : goal.returns-in_err-clients
returns-in_err-clients c = grind (arith, common_steps)

pub returns-in_err-parts_on_next : goal.returns-in_err-parts_on_next
returns-in_err-parts_on_next c = grind (arith, common_steps)
