-- How the way to a place in a document is written: keys as they stand and positions in decimal digits, joined by dots.
-- Profile.
use Rattle.std.specs.Prelude.{ℕ, List, [], ◌∷◌, ◌++◌, codes}
use Rattle.std.specs.List.{flat_map}
use Rattle.std.specs.Fmt.{decimal}
use Rattle.script_lang.specs.declared.steps.PathStep.{PathStep}
use Rattle.script_lang.specs.declared.steps.PathStep.TheVariants.{Key, Item}
use Rattle.script_lang.specs.Walk.{Way}

abbrev pub step_text : PathStep → List ℕ
step_text (Key name) = name
step_text (Item i) = decimal i

-- the steps that follow another, each after a dot
abbrev pub tail : Way → List ℕ
tail steps = flat_map (λ step. codes "." ++ step_text step) steps

abbrev pub path : Way → List ℕ
path [] = []
path (step ∷ steps) = step_text step ++ tail steps
