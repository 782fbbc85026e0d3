-- What is left of a name past the last item of a pattern.
use Rattle.std.proofs.Common.{◌≡◌, List, [], ◌∷◌, map, Bool, true, false, Option, Some, None, is_some, option_copied, Bor, ℕ}
use Rattle.std.proofs.Common.{refl}
use mathlib.Core.Bool.{beq}
use Rattle.access_policy.specs.Cutting.{parts_left}
use Rattle.access_policy.specs.Names.{item_of, parts_of}
use Rattle.access_policy.specs.Patterns.{items_match}
use Rattle.access_policy.specs.Spelling.{is_last}
use Rattle.access_policy.proofs.Parts.{has_part}

by_parts : (rest : Bool) (parts : List (List ℕ)) → is_last parts ≡ false
    → beq rest true ≡ items_match [] rest (map item_of parts)
by_parts rest [] h = cc
by_parts true (part ∷ parts) h = refl
by_parts false (part ∷ parts) h = refl

pub left_matches : (rest : Bool) (left : Option (Bor (List ℕ)))
    → beq rest (is_some left) ≡ items_match [] rest (map item_of (parts_left (option_copied left)))
left_matches true None = refl
left_matches false None = refl
left_matches rest (Some text) = by_parts rest (parts_of text.now) (has_part text.now)
