use Rattle.std.proofs.Common.{refl, arith}
use Rattle.std.specs.Fmt.{digits}
use Rattle.capture_reader.specs.declared.refusal.CaptureWhy.TheVariants.{First}
use Rattle.capture_commands.specs.declared.refusal.TextRefusal.TheVariants.{Capture}
use Rattle.capture_commands.proofs.examples.an_identifier_0_is_refused.Goals as goal

pub returns : goal.returns
unfolding digits
returns c = record {
  refusal = Capture 1 First;
  deserved = (omega arith, c.a_first_line_that_is_refused.ensures);
  spelled = refl;
}
