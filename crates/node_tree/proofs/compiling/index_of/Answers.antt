use Rattle.std.proofs.Common.{◌≡◌, ◌≤◌, length, ap, sym, ◌∙◌, subst}
use Rattle.std.specs.FinMap.{entries, entries_sorted, from_sorted, entries-from_sorted, same_entries_map, len-entries}
use Rattle.node_tree.specs.Limits.{most_nodes}
use Rattle.node_tree.specs.Maps.{AreRegisters, RegisterMap}
use Rattle.node_tree.specs.Named.{named_entries}
use Rattle.node_tree.proofs.NamedLemmas.{by_bytes, length-named, entries-in_order}
use Rattle.node_tree.proofs.compiling.index_of.Goals as goal

-- the map of the entries of a map is that map
whole : (m : RegisterMap) → from_sorted (entries m) ≡ m
whole m = same_entries_map _ _ (entries-from_sorted by_bytes (entries m) (entries_sorted m))

pub from_sorted-requires : goal.from_sorted-requires
from_sorted-requires c =
    let same : named_entries c.in_ok-entries.entries.items ≡ entries c.args.found.names =
    ap named_entries c.in_ok-entries.ensures ∙ c.into_entries.ensures in
    let all : c.args.found.names ≡ from_sorted (named_entries c.in_ok-entries.entries.items) =
    sym (ap from_sorted same ∙ whole c.args.found.names) in
    record {
      ordered = entries-in_order c.args.found.names c.in_ok-entries.entries.items same;
      few =
          subst (λ n. n ≤ most_nodes)
          (len-entries c.args.found.names ∙ ap length (sym same) ∙ length-named c.in_ok-entries.entries.items)
          c.requires.few;
      registers = subst AreRegisters all c.requires.registers;
    }

pub returns : goal.returns
returns c =
    let same : named_entries c.in_ok-entries.entries.items ≡ entries c.args.found.names =
    ap named_entries c.in_ok-entries.ensures ∙ c.into_entries.ensures in
    c.from_sorted.ensures ∙ ap from_sorted same ∙ whole c.args.found.names
