-- What is asked of a register, where no rule is broken, can be packed.
use Rattle.std.proofs.Common.{◌≡◌, ◌⊎◌, inl, inr, ℕ, ◌+◌, ◌^◌, ◌≤◌, ◌==◌, ◌&&◌, ◌||◌, nat_le, Bool, true, false, not}
use Rattle.std.proofs.Common.{List, length, drop, slice_index, None, refl, subst, arith}
use Rattle.std.proofs.lemmas.Bool.Decides.{nat_tests}
use Rattle.address_table.specs.Rules.{first_broken}
use Rattle.address_table.specs.declared.kinds.Mode.{Mode}
use Rattle.address_table.specs.declared.kinds.Mode.TheVariants.{Single, Block, Port, Hierarchical}
use Rattle.mtu_packer.specs.Cutting.{CanBeCut}
use Rattle.node_tree.specs.Addresses.{words_of}
use Rattle.node_tree.specs.Maps.{IsRegister}
use Rattle.node_tree.specs.declared.register.Register.{Register}
use Rattle.script_lang.specs.declared.call.Call.{Call}
use Rattle.script_steps.specs.declared.operation.Verb.{Verb}
use Rattle.script_steps.specs.declared.operation.Verb.TheVariants.{Read, Write, ReadBlock, WriteBlock, RmwBits, RmwSum}
use Rattle.script_lang.specs.declared.script_refusal.ScriptWhy.TheVariants.{NoPermission, WrongMode, PastSize}
use Rattle.script_lang.specs.Lines.{takes}
use Rattle.script_lang.specs.Operations.{use_rules, allows, is_hierarchical, is_port, fits_size, block_words, is_full}
use Rattle.script_lang.specs.Operations.{op_on, write_op, read_block_op, write_block_op}
use Rattle.script_lang.proofs.MaskedValues.{later_kept}

size_kept : (r : Register) (call : Call) → first_broken (use_rules r call) ≡ None
    → fits_size r (block_words call.verb call.numbers) ≡ true
size_kept r call kept =
    let rules = use_rules r call in
    let a = later_kept NoPermission (allows r.permission call.verb) (drop 1 rules) kept in
    let b = later_kept WrongMode (not (is_hierarchical r.mode)) (drop 2 rules) a.1 in
    (later_kept PastSize (fits_size r (block_words call.verb call.numbers)) (drop 3 rules) b.1).0

-- a register has an address of its own, and a block that is no longer than it ends within 32 bits
within-mode : (mode : Mode) (address size count : ℕ) → address + words_of mode size ≤ 2 ^ 32
    → ((mode ≡ Single) ⊎ (mode ≡ Hierarchical) → size ≡ 1)
    → is_port mode ≡ false → count ≤ size → address + count ≤ 2 ^ 32
within-mode Single address size count within one no_port fits = let is_one : size ≡ 1 = one (inl refl) in omega arith
within-mode Block address size count within one no_port fits = omega arith
within-mode Port address size count within one no_port fits = cc
within-mode Hierarchical address size count within one no_port fits =
    let is_one : size ≡ 1 = one (inr refl) in omega arith

one-word : (mode : Mode) (address size : ℕ) → address + words_of mode size ≤ 2 ^ 32 → 1 ≤ size → address + 1 ≤ 2 ^ 32
one-word Single address size within some = omega arith
one-word Block address size within some = omega arith
one-word Port address size within some = omega arith
one-word Hierarchical address size within some = omega arith

fits-count : (count size : ℕ) (b : Bool) → (nat_le count size || (false && b)) ≡ true → count ≤ size
fits-count count size b h = grind (arith, nat_tests)

block-within : (r : Register) (count : ℕ) → IsRegister r → is_port r.mode ≡ false → fits_size r count ≡ true
    → r.address + count ≤ 2 ^ 32
block-within r count is no_port fits =
    let small : count ≤ r.size =
    fits-count count r.size (r.size == 1)
    (subst (λ port. (nat_le count r.size || (port && (r.size == 1))) ≡ true) no_port fits) in
    within-mode r.mode r.address r.size count is.within is.fits.one_word no_port small

by_port : (P : Type 0) (test b : Bool) → test ≡ b → (test ≡ true → P) → (test ≡ false → P) → P
by_port P test true is here other = here is
by_port P test false is here other = other is

read_block-cut : (r : Register) (count : ℕ) → IsRegister r → 1 ≤ count → fits_size r count ≡ true
    → CanBeCut (read_block_op r count)
read_block-cut r count is some fits =
    by_port (CanBeCut (read_block_op r count)) (is_port r.mode) (is_port r.mode) refl
    (λ port. rw port some)
    (λ no_port. rw no_port (some, block-within r count is no_port fits))

write_block-cut : (r : Register) (words : List ℕ) → IsRegister r → 1 ≤ length words → fits_size r (length words) ≡ true
    → CanBeCut (write_block_op r words)
write_block-cut r words is some fits =
    by_port (CanBeCut (write_block_op r words)) (is_port r.mode) (is_port r.mode) refl
    (λ port. rw port some)
    (λ no_port. rw no_port (some, block-within r (length words) is no_port fits))

one-value : (numbers : List ℕ) → (length numbers == 1) ≡ true → length numbers ≡ 1
one-value numbers h = grind (arith, nat_tests)

write-cut : (r : Register) (numbers : List ℕ) → IsRegister r → (length numbers == 1) ≡ true
    → CanBeCut (write_op r numbers)
write-cut r numbers is one =
    let single : length numbers ≡ 1 = one-value numbers one in
    let end : r.address + 1 ≤ 2 ^ 32 = one-word r.mode r.address r.size is.within is.fits.some_words in
    by_port (CanBeCut (write_op r numbers)) (is_full r.mask) (is_full r.mask) refl
    (λ full. rw (full, single) (omega arith, end))
    (λ part. rw part tt)

some-count : (numbers : List ℕ) → (length numbers == 1 && nat_le 1 (slice_index numbers 0)) ≡ true
    → 1 ≤ slice_index numbers 0
some-count numbers h = grind (arith, nat_tests)

some-words : (numbers : List ℕ) → nat_le 1 (length numbers) ≡ true → 1 ≤ length numbers
some-words numbers h = grind (arith, nat_tests)

verb-cut : (r : Register) (verb : Verb) (numbers : List ℕ) → IsRegister r → takes verb numbers ≡ true
    → fits_size r (block_words verb numbers) ≡ true
    → CanBeCut (op_on r verb numbers)
verb-cut r Read numbers is taken fits = (omega arith, one-word r.mode r.address r.size is.within is.fits.some_words)
verb-cut r Write numbers is taken fits = write-cut r numbers is taken
verb-cut r ReadBlock numbers is taken fits = read_block-cut r (slice_index numbers 0) is (some-count numbers taken) fits
verb-cut r WriteBlock numbers is taken fits = write_block-cut r numbers is (some-words numbers taken) fits
verb-cut r RmwBits numbers is taken fits = tt
verb-cut r RmwSum numbers is taken fits = tt

pub can_be_cut : (r : Register) (call : Call) → IsRegister r → takes call.verb call.numbers ≡ true
    → first_broken (use_rules r call) ≡ None
    → CanBeCut (op_on r call.verb call.numbers)
can_be_cut r call is taken kept = verb-cut r call.verb call.numbers is taken (size_kept r call kept)

pub ruleset cut_kept = (can_be_cut)
