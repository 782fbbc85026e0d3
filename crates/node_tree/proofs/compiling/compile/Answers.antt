use Rattle.std.proofs.Common.{IfErr, rules}
use Rattle.std.proofs.lemmas.Result.{IfErr-weaker}
use Rattle.node_tree.specs.Refusals.{IsRefusal}
use Rattle.node_tree.proofs.Compiled.{root_walk-siblings, names-iff, refused, no_fault, few_names, all_registers}
use Rattle.node_tree.proofs.SiblingLemmas.{tells-repeated}
use Rattle.node_tree.proofs.compiling.compile.Goals as goal

pub returns-in-Ok-clause-names : goal.returns-in-Ok-clause-names
returns-in-Ok-clause-names c =
    let walked =
    rw (c.nodes_of.ensures, c.new.ensures, root_walk-siblings c.args.tables.now c.args.root.now) at
    c.in-Ok.ensures.walked in
    rw c.in_ok-index_of-in-Ok.ensures (names-iff c.args.tables.now c.args.root.now c.walk.new.self.found walked)

pub returns-in-Ok-clause-only_if_kept : goal.returns-in-Ok-clause-only_if_kept
returns-in-Ok-clause-only_if_kept c =
    let walked =
    rw (c.nodes_of.ensures, c.new.ensures, root_walk-siblings c.args.tables.now c.args.root.now) at
    c.in-Ok.ensures.walked in
    record {
      known = c.in_ok-check_known.ensures.known;
      acyclic = c.in_ok-check_acyclic.ensures.acyclic;
      nodes = no_fault c.args.tables.now c.args.root.now c.walk.new.self.found c.in_ok-check_known.ensures.valid walked;
    }

pub returns-in-Err-At-clause-refused : goal.returns-in-Err-At-clause-refused
returns-in-Err-At-clause-refused c =
    let stop =
    rw (
      c.nodes_of.ensures,
      c.new.ensures,
      root_walk-siblings c.args.tables.now c.args.root.now,
      c.in-Err-At.field-0-is,
    ) at c.in-Err-At.ensures.stopped in
    refused c.args.tables.now c.args.root.now c.in-Err-At.name c.in-Err-At.why c.refused_at.result
    c.in_ok-check_known.ensures.valid c.refused_at.ensures c.in_ok-check_known.ensures.known
    c.in_ok-check_acyclic.ensures.acyclic stop

pub returns-in-Err-At-clause-repeated : goal.returns-in-Err-At-clause-repeated
returns-in-Err-At-clause-repeated c =
    let stop =
    rw (
      c.nodes_of.ensures,
      c.new.ensures,
      root_walk-siblings c.args.tables.now c.args.root.now,
      c.in-Err-At.field-0-is,
    ) at c.in-Err-At.ensures.stopped in
    tells-repeated c.args.tables.now c.args.root.now c.refused_at.result
    (refused c.args.tables.now c.args.root.now c.in-Err-At.name c.in-Err-At.why c.refused_at.result
    c.in_ok-check_known.ensures.valid c.refused_at.ensures c.in_ok-check_known.ensures.known
    c.in_ok-check_acyclic.ensures.acyclic stop)

pub returns-in_err-check_known-clause-repeated : goal.returns-in_err-check_known-clause-repeated
returns-in_err-check_known-clause-repeated c =
    let told : IfErr c.from_residual.result (IsRefusal c.args.tables.now c.args.root.now) = search rules in
    IfErr-weaker c.from_residual.result (IsRefusal c.args.tables.now c.args.root.now) _
    (λ refusal h. tells-repeated c.args.tables.now c.args.root.now refusal h) told

pub returns-in_err-check_acyclic-clause-repeated : goal.returns-in_err-check_acyclic-clause-repeated
returns-in_err-check_acyclic-clause-repeated c =
    let told : IfErr c.from_residual-in_err-check_acyclic.result (IsRefusal c.args.tables.now c.args.root.now) =
    search rules in
    IfErr-weaker c.from_residual-in_err-check_acyclic.result (IsRefusal c.args.tables.now c.args.root.now) _
    (λ refusal h. tells-repeated c.args.tables.now c.args.root.now refusal h) told

pub index_of-requires-clause-few : goal.index_of-requires-clause-few
index_of-requires-clause-few c =
    let walked =
    rw (c.nodes_of.ensures, c.new.ensures, root_walk-siblings c.args.tables.now c.args.root.now) at
    c.in-Ok.ensures.walked in
    few_names c.args.tables.now c.args.root.now c.walk.new.self.found walked

pub index_of-requires-clause-registers : goal.index_of-requires-clause-registers
index_of-requires-clause-registers c =
    let walked =
    rw (c.nodes_of.ensures, c.new.ensures, root_walk-siblings c.args.tables.now c.args.root.now) at
    c.in-Ok.ensures.walked in
    all_registers c.args.tables.now c.args.root.now c.walk.new.self.found c.in_ok-check_known.ensures.valid walked

pub returns-in-Ok-clause-registers : goal.returns-in-Ok-clause-registers
returns-in-Ok-clause-registers c =
    let walked =
    rw (c.nodes_of.ensures, c.new.ensures, root_walk-siblings c.args.tables.now c.args.root.now) at
    c.in-Ok.ensures.walked in
    rw c.in_ok-index_of-in-Ok.ensures
    (all_registers c.args.tables.now c.args.root.now c.walk.new.self.found c.in_ok-check_known.ensures.valid walked)
