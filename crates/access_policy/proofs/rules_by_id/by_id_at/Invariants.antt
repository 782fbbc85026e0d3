use Rattle.std.proofs.Common.{◌≡◌, ℕ, List, [], take}
use Rattle.std.specs.BTreeMap.{get_by}
use Rattle.std.specs.Cmp.Lexicographic.{slice_cmp}
use Rattle.std.specs.List.{filter}
use Rattle.std.specs.Option.{option_map_or}
use Rattle.std.specs.Ordering.{nat_cmp}
use Rattle.access_policy.specs.ById.{asks_for, asks_for_none}
use Rattle.access_policy.proofs.rules_by_id.by_id_at.Given as goal

-- the rules so far stand by their ids, and the others beside them
abbrev pub invariant-loop-candidate : goal.invariant-loop-candidate
invariant-loop-candidate l = record {
  own : (id : List ℕ) → option_map_or (λ found. found.items) (get_by (λ key. slice_cmp nat_cmp id key.now) l.by_id) []
      ≡ filter (asks_for l.place id) (take l.candidate-index l.rules);
  none : l.others.items ≡ filter (asks_for_none l.place) (take l.candidate-index l.rules);
}
