-- Values that fit masks, and rules that are kept.
use Rattle.std.proofs.Common.{◌≡◌, ◌≢◌, ℕ, Bool, true, false, Result, Ok, Err, OnOk, OnErr, None, List, ◌∷◌, not, drop}
use Rattle.std.proofs.Common.{refl, sym, arith}
use Rattle.std.specs.Result.{is_ok, IsOk}
use Rattle.std.proofs.lemmas.Bool.Decides.{nat_tests}
use Rattle.masked_fields.specs.Field.{field, shifted_value, FitsMask}
use Rattle.masked_fields.specs.declared.fields.BitsOutside.{BitsOutside as Outside}
use Rattle.masked_fields.proofs.FieldValues.{field-shifted}
use Rattle.address_table.specs.Rules.{first_broken}
use Rattle.node_tree.specs.declared.register.Register.{Register}
use Rattle.script_lang.specs.declared.call.Call.{Call}
use Rattle.script_lang.specs.declared.script_refusal.ScriptWhy.{ScriptWhy}
use Rattle.script_lang.specs.Operations.{fits_mask, fits_field, use_rules, allows, is_hierarchical, fits_size}
use Rattle.script_lang.specs.Operations.{block_words}
use Rattle.script_lang.specs.declared.script_refusal.ScriptWhy.TheVariants.{NoPermission, WrongMode, PastSize}
use Rattle.script_lang.specs.declared.script_refusal.ScriptWhy.TheVariants.{BitsOutside}

fits : (mask value : ℕ) → fits_mask mask value ≡ true → FitsMask mask value
fits mask value h = grind (arith, nat_tests)

is_fit : (mask value : ℕ) → FitsMask mask value → fits_mask mask value ≡ true
is_fit mask value h = grind (arith, nat_tests)

refuses : (mask value : ℕ) (b : Bool) → fits_mask mask value ≡ b → (FitsMask mask value → ⊥) → false ≡ b
refuses mask value true is bad = absurd (bad (fits mask value is))
refuses mask value false is bad = refl

-- the terms of a value tell whether it fits the mask
pub told : (mask value : ℕ) (r : Result (ℕ × ℕ) Outside) → OnOk r (FitsMask mask value)
    → OnErr r ((word : ℕ) → field word mask ≢ value) → is_ok r ≡ fits_mask mask value
told mask value (Ok terms) good bad = sym (is_fit mask value good)
told mask value (Err e) good bad =
    refuses mask value (fits_mask mask value) refl (λ h. bad (shifted_value mask value) (field-shifted mask value h))

pub has_terms : (mask value : ℕ) (r : Result (ℕ × ℕ) Outside) → fits_mask mask value ≡ true
    → OnErr r ((word : ℕ) → field word mask ≢ value) → IsOk r
has_terms mask value (Ok terms) good bad = refl
has_terms mask value (Err e) good bad =
    absurd (bad (shifted_value mask value) (field-shifted mask value (fits mask value good)))

pub later_kept : (why : ScriptWhy) (kept : Bool) (rest : List (ScriptWhy × Bool))
    → first_broken ((why, kept) ∷ rest) ≡ None → (kept ≡ true) × (first_broken rest ≡ None)
later_kept why true rest h = (refl, h)
later_kept why false rest h = cc

-- where no rule is broken, a single value fits its mask
pub field_kept : (r : Register) (call : Call) → first_broken (use_rules r call) ≡ None
    → fits_field r call.verb call.numbers ≡ true
field_kept r call kept =
    let rules = use_rules r call in
    let a = later_kept NoPermission (allows r.permission call.verb) (drop 1 rules) kept in
    let b = later_kept WrongMode (not (is_hierarchical r.mode)) (drop 2 rules) a.1 in
    let d = later_kept PastSize (fits_size r (block_words call.verb call.numbers)) (drop 3 rules) b.1 in
    (later_kept BitsOutside (fits_field r call.verb call.numbers) (drop 4 rules) d.1).0

pub ruleset kept_field = (field_kept)
