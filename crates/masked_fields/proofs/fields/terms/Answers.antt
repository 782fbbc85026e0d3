use Rattle.std.proofs.Common.{◌≡◌, ℕ, ◌-◌, ◌^◌, bit_and, bit_or, sym, ◌∙◌, ap, subst, rules}
use Rattle.masked_fields.specs.Field.{shifted_value, FitsMask}
use Rattle.masked_fields.proofs.Masks.{joined}
use Rattle.masked_fields.proofs.FieldValues.{FitsMask-field, shifted_whole}
use Rattle.masked_fields.proofs.fields.terms.Goals as goal

-- the test in the code is whether the value fits the mask
tested : (mask value or_term y : ℕ) → or_term ≡ shifted_value mask value → y ≡ mask → FitsMask mask value → bit_and or_term
    y ≡ or_term
tested mask value or_term y same same_mask fits = ap (λ a. bit_and a y) same ∙ ap (bit_and (shifted_value mask value))
    same_mask ∙ fits ∙ sym same

fitting : (mask value or_term y : ℕ) → or_term ≡ shifted_value mask value → y ≡ mask → bit_and or_term y ≡ or_term
    → FitsMask mask value
fitting mask value or_term y same same_mask test = ap (bit_and (shifted_value mask value)) (sym same_mask)
    ∙ ap (λ a. bit_and a y) (sym same) ∙ test ∙ same

pub returns-then-or_term-from-clause-outside : goal.returns-then-or_term-from-clause-outside
returns-then-or_term-from-clause-outside c word found =
    let whole = shifted_whole c.args.mask c.args.value c.from.result c.shift_of.result c.requires (search rules)
    (search rules) c.from.ensures c.shift_of.ensures.shift in
    c.if-or_term-from.true (tested c.args.mask c.args.value _ _ whole c.from-2.ensures (subst (FitsMask c.args.mask)
    found (FitsMask-field word c.args.mask c.requires (search rules))))

pub returns-clause-put : goal.returns-clause-put
returns-clause-put c word small =
    let whole = shifted_whole c.args.mask c.args.value c.from.result c.shift_of.result c.requires (search rules)
    (search rules) c.from.ensures c.shift_of.ensures.shift in
    ap (bit_or (bit_and word (2 ^ 32 - 1 - c.args.mask))) whole
    ∙ joined c.args.mask word (shifted_value c.args.mask c.args.value) (search rules) (fitting c.args.mask c.args.value _ _
    whole c.from-2.ensures c.if-or_term-from.false)
