-- The line of a refusal. It ends with a line feed. Profile.
use Rattle.std.specs.Prelude.{ℕ, List, [], ◌∷◌, ◌++◌, codes}
use Rattle.std.specs.List.{flat_map}
use Rattle.std.specs.Fmt.{decimal}
use Rattle.session_input.specs.declared.refusal.Refusal.{Refusal}
use Rattle.session_input.specs.declared.refusal.Refusal.TheVariants.{TooLong, Document, Table, Policy, NoServe}
use Rattle.session_input.specs.declared.refusal.Refusal.TheVariants.{OneBoard, NotSim, Compile, Board, Script}
use Rattle.session_input.specs.Names.{document_rule, table_rule, compile_rule, bus_rule, script_rule}

-- an empty path is shown as a hyphen
abbrev pub shown_path : List ℕ → List ℕ
shown_path [] = codes "-"
shown_path (byte ∷ bytes) = byte ∷ bytes

-- positions in decimal digits, with dots between them
abbrev pub positions : List ℕ → List ℕ
positions [] = []
positions (first ∷ rest) = decimal first ++ flat_map (λ position. codes "." ++ decimal position) rest

abbrev pub refusal_line : Refusal → List ℕ
refusal_line TooLong = codes "refused: document - TooLong\n"
refusal_line (Document path why) =
    codes "refused: document " ++ (shown_path path ++ (codes " " ++ (document_rule why ++ codes "\n")))
refusal_line (Table table path why) =
    codes "refused: table "
    ++ (table ++ (codes " " ++ (shown_path (positions path) ++ (codes " " ++ (table_rule why ++ codes "\n")))))
refusal_line (Policy path) = codes "refused: policy " ++ (shown_path path ++ (codes " " ++ (codes "Shape" ++ codes "\n")))
refusal_line NoServe = codes "refused: policy - NoServe\n"
refusal_line OneBoard = codes "refused: document - OneBoard\n"
refusal_line (NotSim name) = codes "refused: board " ++ (name ++ (codes " " ++ (codes "NotSim" ++ codes "\n")))
refusal_line (Compile table path why) =
    codes "refused: compile "
    ++ (table ++ (codes " " ++ (shown_path path ++ (codes " " ++ (compile_rule why ++ codes "\n")))))
refusal_line (Board name why) = codes "refused: board " ++ (name ++ (codes " " ++ (bus_rule why ++ codes "\n")))
refusal_line (Script client line why) =
    codes "refused: script "
    ++ (decimal client ++ (codes " " ++ (decimal line ++ (codes " " ++ (script_rule why ++ codes "\n")))))
