-- The parts of a text between dots, one after the other.
use Rattle.std.proofs.Common.{◌≡◌, ℕ, ◌==◌, List, [], ◌∷◌, Bool, true, false, cond, Option, Some, None, option_map}
use Rattle.std.proofs.Common.{◌<◌, length, suc, IfSome, refl, ap, arith, ◌∙◌}
use Rattle.std.specs.List.{onto_first}
use Rattle.node_tree.specs.Names.{dot}
use Rattle.script_lang.specs.Texts.{cut_at}
use Rattle.access_policy.specs.Names.{parts_of}
use Rattle.access_policy.specs.Spelling.{is_last}

-- the parts of a text, by how it is cut at its first dot
abbrev pub split_as : List ℕ → Option (List ℕ × List ℕ) → List (List ℕ)
split_as text None = text ∷ []
split_as text (Some parts) = parts.0 ∷ parts_of parts.1

onto : (byte : ℕ) (text : List ℕ) (parts : Option (List ℕ × List ℕ))
    → onto_first byte (split_as text parts)
    ≡ split_as (byte ∷ text) (option_map (λ parts. (byte ∷ parts.0, parts.1)) parts)
onto byte text None = refl
onto byte text (Some parts) = refl

by_dot : (is_dot : Bool) (byte : ℕ) (text : List ℕ) → parts_of text ≡ split_as text (cut_at dot text)
    → cond is_dot ([] ∷ parts_of text) (onto_first byte (parts_of text))
    ≡ split_as (byte ∷ text)
    (cond is_dot (Some ([], text)) (option_map (λ parts. (byte ∷ parts.0, parts.1)) (cut_at dot text)))
by_dot true byte text e = refl
by_dot false byte text e = ap (onto_first byte) e ∙ onto byte text (cut_at dot text)

pub split_first : (text : List ℕ) → parts_of text ≡ split_as text (cut_at dot text)
split_first [] = refl
split_first (byte ∷ text) = by_dot (byte == dot) byte text (split_first text)

shorter_by : (here : Bool) (byte : ℕ) (text : List ℕ) (parts : Option (List ℕ × List ℕ))
    → IfSome {T = List ℕ × List ℕ} parts (λ p. length p.1 < length text)
    → IfSome {T = List ℕ × List ℕ} (cond here (Some ([], text)) (option_map (λ p. (byte ∷ p.0, p.1)) parts))
    (λ p. length p.1 < suc (length text))
shorter_by true byte text parts h = omega arith
shorter_by false byte text None h = tt
shorter_by false byte text (Some parts) h = omega (arith, h)

-- what stands behind a cut is shorter than the whole
pub cut_shorter : (cut : ℕ) (text : List ℕ) → IfSome {T = List ℕ × List ℕ} (cut_at cut text) (λ p. length p.1 < length text)
cut_shorter cut [] = tt
cut_shorter cut (byte ∷ text) = shorter_by (byte == cut) byte text (cut_at cut text) (cut_shorter cut text)

some_first : (text : List ℕ) (parts : Option (List ℕ × List ℕ)) → is_last (split_as text parts) ≡ false
some_first text None = refl
some_first text (Some parts) = refl

-- a text has a part, be it empty
pub has_part : (text : List ℕ) → is_last (parts_of text) ≡ false
has_part text = ap is_last (split_first text) ∙ some_first text (cut_at dot text)
