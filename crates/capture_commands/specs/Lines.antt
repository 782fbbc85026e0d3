-- The line of a refusal. It ends with a line feed. Profile.
use Rattle.std.specs.Prelude.{ℕ, List, ◌++◌, codes}
use Rattle.std.specs.Fmt.{decimal}
use Rattle.capture_reader.specs.declared.refusal.CaptureWhy.{CaptureWhy}
use Rattle.capture_reader.specs.declared.refusal.CaptureWhy.TheVariants.{First, Form, Long}
use Rattle.capture_commands.specs.declared.refusal.TextRefusal.{TextRefusal}
use Rattle.capture_commands.specs.declared.refusal.TextRefusal.TheVariants.{LongCapture, LongDescription}
use Rattle.capture_commands.specs.declared.refusal.TextRefusal.TheVariants.{Capture, NotDescription}

-- the names of the rules of lines
abbrev pub capture_rule : CaptureWhy → List ℕ
capture_rule First = codes "First"
capture_rule Form = codes "Form"
capture_rule Long = codes "Long"

abbrev pub refusal_line : TextRefusal → List ℕ
refusal_line LongCapture = codes "refused: capture - TooLong\n"
refusal_line (Capture line why) =
    codes "refused: capture " ++ (decimal line ++ (codes " " ++ (capture_rule why ++ codes "\n")))
refusal_line LongDescription = codes "refused: description - TooLong\n"
refusal_line NotDescription = codes "refused: description - NotDescription\n"
