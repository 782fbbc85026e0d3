use Rattle.std.proofs.Common.{◌≡◌, ◌<◌, ◌≤◌, ◌+◌, get_or, length, sym, subst, ap, refl, ◌∙◌, arith, Some, codes}
use Rattle.toml.specs.Data.{Data, string, integer, float, boolean, datetime, array, table, Members, as_table, depth}
use Rattle.toml.specs.Data.{items_depth, members_depth}
use Rattle.toml.specs.View.{view, array_view, table_view}
use Rattle.address_table.specs.Tables.{node, none, IsFault}
use Rattle.address_table.specs.declared.nodes.Node.TheViews.{out-roll-Node}
use Rattle.address_table.proofs.Faults.{first_fault-node}
use Rattle.address_table.proofs.Kept.{texts}
use Rattle.address_table.proofs.ReadNodes.{next_node, next_refused, past_node, depth-item, depth-children}
use Rattle.address_table.proofs.read.+read.Goals as goal

pub read_rest-copy_at-requires : goal.read_rest-copy_at-requires
read_rest-copy_at-requires t c = (texts _ _ c.requires.kept).id

pub read_rest-copy_module-requires : goal.read_rest-copy_module-requires
read_rest-copy_module-requires t c = (texts _ _ c.requires.kept).«module»

pub read_rest-copy_at-requires-2 : goal.read_rest-copy_at-requires-2
read_rest-copy_at-requires-2 t c = (texts _ _ c.requires.kept).tags

pub read_rest-copy_at-requires-3 : goal.read_rest-copy_at-requires-3
read_rest-copy_at-requires-3 t c = (texts _ _ c.requires.kept).description

pub read_children-read_nodes-requires : goal.read_children-read_nodes-requires
read_children-read_nodes-requires t c =
    let shallower : items_depth (array_view c.in-Some.items.now) + 1 ≤ members_depth (table_view c.args.members.now) =
    depth-children (codes "nodes") _ _ (sym c.in-Some.ensures) in
    (omega arith, tt)

pub read_children-returns-in-None-clause-read : goal.read_children-returns-in-None-clause-read
read_children-returns-in-None-clause-read t c = rw (← c.in-None.ensures, c.new.ensures.items) none

is_table : (d : Data) (ms : Members) → Some ms ≡ as_table d → d ≡ table ms
is_table (string s) ms h = cc
is_table (integer z) ms h = cc
is_table (float x) ms h = cc
is_table (boolean b) ms h = cc
is_table (datetime t) ms h = cc
is_table (array ds) ms h = cc
is_table (table es) ms h = cc

pub read_node-returns-in-Ok-clause-refused : goal.read_node-returns-in-Ok-clause-refused
read_node-returns-in-Ok-clause-refused t c =
    rw (
      is_table (view c.args.value.now) (table_view c.in-Some.members.now) c.in-Some.ensures,
      first_fault-node _ _ c.in-Ok.ensures.kept,
    ) c.read_rest.ensures.refused

pub read_nodes-read_node-requires : goal.read_nodes-read_node-requires
read_nodes-read_node-requires t c =
    let within : c.loop-i.i < length c.args.items.now.items =
    subst (λ vs. c.loop-i.i < length vs) c.deref-item-items.ensures.value c.loop-i-test.true in
    let here : c.item-item.result ≡ get_or c.args.items.now.items c.loop-i.i c.item-item.result =
    c.item-item.is ∙ ap (λ vs. get_or vs c.loop-i.i c.item-item.result) c.deref-item-items.ensures.value in
    let shallower : depth (view c.item-item.result) ≤ items_depth (array_view c.args.items.now) =
    depth-item _ _ _ within here in
    (omega arith, tt)

pub read_nodes-loop-i-init : goal.read_nodes-loop-i-init
read_nodes-loop-i-init t c = record { nodes = rw c.in_ok-nodes.ensures.items none; rest = refl }

pub read_nodes-returns-in-Err-clause-refused : goal.read_nodes-returns-in-Err-clause-refused
read_nodes-returns-in-Err-clause-refused t c =
    let within : c.loop-i.i < length c.args.items.now.items =
    subst (λ vs. c.loop-i.i < length vs) c.deref-item-items.ensures.value c.loop-i-test.true in
    let here : c.item-item.result ≡ get_or c.args.items.now.items c.loop-i.i c.item-item.result =
    c.item-item.is ∙ ap (λ vs. get_or vs c.loop-i.i c.item-item.result) c.deref-item-items.ensures.value in
    subst (λ fault. IsFault fault c.refused_below.result) c.loop-i.invariant.rest
    (next_refused _ _ _ _ c.refused_below.result within here (c.refused_below.ensures _ c.in-Err.ensures.refused))

pub read_nodes-loop-i-preserved : goal.read_nodes-loop-i-preserved
read_nodes-loop-i-preserved t c =
    let within : c.loop-i.i < length c.args.items.now.items =
    subst (λ vs. c.loop-i.i < length vs) c.deref-item-items.ensures.value c.loop-i-test.true in
    let here : c.item-item.result ≡ get_or c.args.items.now.items c.loop-i.i c.item-item.result =
    c.item-item.is ∙ ap (λ vs. get_or vs c.loop-i.i c.item-item.result) c.deref-item-items.ensures.value in
    record {
      nodes =
          rw c.in_ok-push-in-Ok.ensures.items
          (next_node _ _ _ _ _ _ within here c.loop-i.invariant.nodes c.in-Ok.ensures.read);
      rest = sym (past_node _ _ _ _ _ within here c.in-Ok.ensures.read) ∙ c.loop-i.invariant.rest;
    }

pub read_rest-returns-clause-read : goal.read_rest-returns-clause-read
read_rest-returns-clause-read t c =
    let said = c.requires.said in
    node _ _ c.requires.kept
    record {
      id = rw out-roll-Node c.in_ok-copy_at.ensures;
      address = rw out-roll-Node said.address;
      mask = rw out-roll-Node said.mask;
      permission = rw out-roll-Node said.permission;
      mode = rw out-roll-Node said.mode;
      size = rw out-roll-Node said.size;
      count = rw out-roll-Node said.count;
      stride = rw out-roll-Node said.stride;
      «module» = rw out-roll-Node c.in_ok-copy_module.ensures;
      tags = rw out-roll-Node c.in_ok-copy_at-2.ensures;
      description = rw out-roll-Node c.in_ok-copy_at-3.ensures;
    }
    (rw out-roll-Node c.in_ok-nodes.ensures.read)
