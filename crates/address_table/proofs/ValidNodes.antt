-- The nodes of a table that is read are valid.
use Rattle.std.proofs.Common.{◌≡◌, ◌≤◌, inl, inr, ℕ, List, drop, Bool, true, false, not, ◌||◌, ◌==◌, nat_le, Option}
use Rattle.std.proofs.Common.{Some, None, IfSome, is_some, option_map, codes, refl, ap, ◌∙◌, arith}
use Rattle.std.proofs.lemmas.Bool.{and_parts, leb-true}
use Rattle.std.proofs.lemmas.Bool.Decides.{nat_tests}
use Rattle.std.specs.Option.{option_map_or}
use Rattle.toml.specs.Data.{Data, Items, Members, get_member}
use Rattle.address_table.specs.Keys.{text_at, mask_at, size_at, mode_at, count_at, stride_at, some_number}
use Rattle.address_table.specs.Numbers.{number}
use Rattle.address_table.specs.Limits.{most_indexes}
use Rattle.address_table.specs.Rules.{broken_rule, rules, holds_of, is_id, takes_mask, takes_size, mode_takes}
use Rattle.address_table.specs.Rules.{takes_count, has_count}
use Rattle.address_table.specs.Tables.{SaysKeys, IsNode, node, AreNodes, none, more}
use Rattle.address_table.specs.Valid.{FitsMode, FitsCount, IsValidNode, AreValid, no_nodes, and_node}
use Rattle.address_table.specs.declared.kinds.Mode.{Mode}
use Rattle.address_table.specs.declared.kinds.Mode.TheVariants.{Single, Block, Port, Hierarchical}
use Rattle.address_table.specs.declared.nodes.Node.{Node, out-Node}
use Rattle.address_table.specs.declared.refusal.TableWhy.TheVariants.{BadId, BadMask, BadMode, BadSize, BadCount}
use Rattle.address_table.proofs.Kept.{first_kept, kept_rest}

kept-id : (format : ℕ) (ms : Members) → broken_rule format ms ≡ None → holds_of is_id (text_at (codes "id") ms) ≡ true
unfolding broken_rule
kept-id format ms kept =
    (first_kept BadId (holds_of is_id (text_at (codes "id") ms)) (drop 4 (rules format ms)) (kept_rest 3 (rules format ms) kept)).0

kept-mask : (format : ℕ) (ms : Members) → broken_rule format ms ≡ None → holds_of (λ mask. not (mask == 0)) (mask_at ms) ≡ true
unfolding broken_rule
kept-mask format ms kept =
    (first_kept BadMask (holds_of (λ mask. not (mask == 0)) (mask_at ms)) (drop 6 (rules format ms))
    (kept_rest 5 (rules format ms) kept)).0

kept-mode : (format : ℕ) (ms : Members) → broken_rule format ms ≡ None → mode_takes takes_mask (mask_at ms) ms ≡ true
unfolding broken_rule
kept-mode format ms kept =
    (first_kept BadMode (mode_takes takes_mask (mask_at ms) ms) (drop 8 (rules format ms)) (kept_rest 7 (rules format ms) kept)).0

kept-size : (format : ℕ) (ms : Members) → broken_rule format ms ≡ None → mode_takes takes_size (size_at ms) ms ≡ true
unfolding broken_rule
kept-size format ms kept =
    (first_kept BadSize (mode_takes takes_size (size_at ms) ms) (drop 9 (rules format ms)) (kept_rest 8 (rules format ms) kept)).0

kept-count : (format : ℕ) (ms : Members) → broken_rule format ms ≡ None → has_count ms ≡ true
unfolding broken_rule
kept-count format ms kept =
    (first_kept BadCount (has_count ms) (drop 10 (rules format ms)) (kept_rest 9 (rules format ms) kept)).0

-- a test of what is there
held : {T : Type 0} (test : T → Bool) (o : Option T) (x : T) → o ≡ Some x → holds_of test o ≡ true → test x ≡ true
held test o x is h = cc

held_mode : (takes : Mode → ℕ → Bool) (mode : Mode) (n : ℕ) (number : Option ℕ) (ms : Members) → mode_at ms ≡ Some mode
    → number ≡ Some n
    → mode_takes takes number ms ≡ true → takes mode n ≡ true
held_mode takes mode n number ms mode_is is h =
    held (takes mode) number n is (held (λ m. holds_of (takes m) number) (mode_at ms) mode mode_is h)

fits : (mode : Mode) (mask size : ℕ) → not (mask == 0) ≡ true → takes_mask mode mask ≡ true
    → takes_size mode size ≡ true → FitsMode mode mask size
fits Single mask size some whole words = record {
  masked = grind (arith, nat_tests);
  whole = λ either. elim either [ inl no_block ↦ cc | inr no_port ↦ cc ];
  some_words = grind (arith, nat_tests);
  few_words = grind (arith, nat_tests);
  one_word = λ either. grind (arith, nat_tests);
}
fits Hierarchical mask size some whole words = record {
  masked = grind (arith, nat_tests);
  whole = λ either. elim either [ inl no_block ↦ cc | inr no_port ↦ cc ];
  some_words = grind (arith, nat_tests);
  few_words = grind (arith, nat_tests);
  one_word = λ either. grind (arith, nat_tests);
}
fits Block mask size some whole words = record {
  masked = grind (arith, nat_tests);
  whole = λ either. grind (arith, nat_tests);
  some_words = grind (arith, nat_tests);
  few_words = grind (arith, nat_tests);
  one_word = λ either. elim either [ inl no_single ↦ cc | inr no_hierarchical ↦ cc ];
}
fits Port mask size some whole words = record {
  masked = grind (arith, nat_tests);
  whole = λ either. grind (arith, nat_tests);
  some_words = grind (arith, nat_tests);
  few_words = grind (arith, nat_tests);
  one_word = λ either. elim either [ inl no_single ↦ cc | inr no_hierarchical ↦ cc ];
}

counted : (count : Option ℕ) → takes_count count ≡ true
    → IfSome count (λ c. 1 ≤ c) × IfSome count (λ c. c ≤ most_indexes)
counted None h = (tt, tt)
counted (Some c) h = (grind (arith, nat_tests), grind (arith, nat_tests))

some_is_said : (o : Option ℕ) → option_map Some o ≡ Some None → ⊥
some_is_said None h = let bad : ⊥ = cc in bad
some_is_said (Some c) h = let bad : ⊥ = cc in bad

-- without a count a key for the stride would break the rule
absent : (found : Option Data) → option_map_or some_number found (Some None) ≡ Some None → is_some found ≡ false
absent None h = refl
absent (Some value) h = absurd (some_is_said (number value) h)

alone : (found other : Option Data) (stride : ℕ) → option_map_or some_number found (Some None) ≡ Some None
    → (is_some found || not (is_some other)) ≡ true → option_map_or number other (Some 1) ≡ Some stride → stride ≡ 1
alone found None stride without beside is = cc
alone found (Some value) stride without beside is =
    let e = rw (absent found without) at beside in cc

fits-count : (ms : Members) (count : Option ℕ) (stride : ℕ) → has_count ms ≡ true → count_at ms ≡ Some count
    → stride_at ms ≡ Some stride → FitsCount count stride
unfolding has_count
fits-count ms count stride h counts strides =
    let (some, rest) = and_parts _ _ h in
    let (least, beside) = and_parts _ _ rest in
    let (low, high) = counted count (held takes_count (count_at ms) count counts some) in
    record {
      some_indexes = low;
      few_indexes = high;
      apart = leb-true 1 stride (held (nat_le 1) (stride_at ms) stride strides least);
      alone =
          λ without. alone (get_member (codes "count") ms) (get_member (codes "stride") ms) stride
          (counts ∙ ap Some without) beside strides;
    }

says-valid : (format : ℕ) (ms : Members) (n : Node) → broken_rule format ms ≡ None → SaysKeys ms n → IsValidNode n
says-valid format ms n kept says = record {
  named = held is_id (text_at (codes "id") ms) (out-Node n).id says.id (kept-id format ms kept);
  register = fits (out-Node n).mode (out-Node n).mask (out-Node n).size
      (held (λ mask. not (mask == 0)) (mask_at ms) (out-Node n).mask says.mask (kept-mask format ms kept))
      (held_mode takes_mask (out-Node n).mode (out-Node n).mask (mask_at ms) ms says.mode says.mask (kept-mode format ms kept))
      (held_mode takes_size (out-Node n).mode (out-Node n).size (size_at ms) ms says.mode says.size
      (kept-size format ms kept));
  indexes = fits-count ms (out-Node n).count (out-Node n).stride (kept-count format ms kept) says.count says.stride;
}

mutual
  node-valid : (format : ℕ) (d : Data) (n : Node) → IsNode format d n
      → IsValidNode n × AreValid (out-Node n).nodes.items
  node-valid format d n (node ms m kept says are) = (says-valid format ms m kept says, nodes-valid format _ _ are)

  pub nodes-valid : (format : ℕ) (ds : Items) (ns : List Node) → AreNodes format ds ns → AreValid ns
  nodes-valid format ds ns none = no_nodes
  nodes-valid format ds ns (more d n es ms one others) =
      let (here, below) = node-valid format d n one in and_node n ms here below (nodes-valid format es ms others)
