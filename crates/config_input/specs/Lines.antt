-- The line of a refusal. It ends with a line feed. Profile.
use Rattle.std.specs.Prelude.{ℕ, List, ◌++◌, codes}
use Rattle.session_input.specs.Lines as session
use Rattle.session_input.specs.Lines.{shown_path}
use Rattle.config_input.specs.declared.refusal.ConfigRefusal.{ConfigRefusal}
use Rattle.config_input.specs.declared.refusal.ConfigRefusal.TheVariants.{OfSession, OfState}
use Rattle.config_input.specs.Names.{store_rule}

abbrev pub refusal_line : ConfigRefusal → List ℕ
refusal_line (OfSession refusal) = session.refusal_line refusal
refusal_line (OfState board name why) =
    codes "refused: state " ++ (shown_path board ++ (codes " " ++ (shown_path name ++ (codes " " ++ (store_rule why ++ codes "\n")))))
