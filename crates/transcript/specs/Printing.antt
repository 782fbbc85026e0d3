-- How a transcript grows line by line: what private functions promise one another. No public clause speaks of it.
use Rattle.std.specs.Prelude.{◌≡◌, ◌&&◌, List, ◌++◌, string_bytes}
use Rattle.transcript.specs.declared.line.OpLine.{OpLine}
use Rattle.transcript.specs.declared.printing.Printer.{Printer}
use Rattle.transcript.specs.Lines.{are_good}
use Rattle.transcript.specs.Text.{lines_text}

-- these lines were printed, and whether they are good is known
pub record HasPrinted (old new : Printer) (lines : List OpLine) : Type 0 where
  pub text' : string_bytes new.text ≡ string_bytes old.text ++ lines_text lines
  pub good : new.all_good ≡ (old.all_good && are_good lines)
