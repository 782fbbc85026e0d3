-- Small policies for worked examples.
use Rattle.std.specs.Prelude.{ℕ, Bool, false, List, [], ◌∷◌, codes, Option, None}
use Rattle.std.specs.Option.{option_map_or, unwrap_or}
use Rattle.address_table.specs.declared.kinds.Permission.{Permission}
use Rattle.address_table.specs.declared.kinds.Permission.TheVariants.{R, W, Rw}
use Rattle.access_policy.specs.Names.{items_of}
use Rattle.access_policy.specs.Patterns.{pattern_matches}
use Rattle.access_policy.specs.Reading.{no_pattern}
use Rattle.access_policy.specs.Spelling.{pattern_of}
use Rattle.access_policy.specs.declared.policy.Effect.{Effect}
use Rattle.access_policy.specs.declared.policy.Effect.TheVariants.{Allow, Deny}
use Rattle.access_policy.specs.declared.policy.Rule.{Rule}

-- the pattern that a text writes matches a register of a board
abbrev pub text_matches : List ℕ → List ℕ → List ℕ → Bool
text_matches text board name =
    option_map_or (λ pattern. pattern_matches pattern board (items_of name)) (pattern_of text) false

-- a rule for one client or for all, by the text of its pattern
abbrev pub rule_for : Option ℕ → Effect → Permission → List ℕ → Rule
rule_for client effect access text =
    record { effect = effect; access = access; pattern = unwrap_or (pattern_of text) no_pattern; client = client }

abbrev pub rule : Effect → Permission → List ℕ → Rule
rule effect access text = rule_for None effect access text

-- one register may not be written, and all else is allowed
abbrev pub one_kept : List Rule
one_kept = rule Deny W (codes "b0:a") ∷ rule Allow Rw (codes "*:**") ∷ []

-- one branch may be read, and nothing else is allowed
abbrev pub one_shown : List Rule
one_shown = rule Allow R (codes "b0:sys.*") ∷ []
