-- What `describe` and `undescribe` owe to their input. Neither makes a link or lets a client in. Profile.
use Rattle.std.specs.Prelude.{false, Some}
use Rattle.capture_reader.specs.declared.capture.Capture.{Capture}
use Rattle.command_terms.specs.Terms.{Terms, uses_none}
use Rattle.capture_commands.specs.declared.refusal.TextRefusal.TheVariants.{LongCapture, LongDescription}
use Rattle.capture_commands.specs.Lines.{refusal_line}
use Rattle.capture_commands.specs.Numbers.{capture_bytes}
use Rattle.capture_commands.specs.Texts.{DeservesAsCapture, DeservesAsDescription, IsDescribed, IsUndescribed}
use Rattle.capture_commands.specs.Texts.{IsDescriptionOf, IsRefused, IsTextOf}

-- the text of a capture in, its description out
abbrev pub describe_terms : Terms
describe_terms = record {
  limit = Some capture_bytes;
  makes_links = false;
  lets_in = false;
  long_line = refusal_line LongCapture;
  Right = λ bytes. (capture : Capture) × IsTextOf bytes capture;
  Refuses = IsRefused DeservesAsCapture;
  Done = λ bytes given status text. IsDescribed bytes status text;
  Uses = uses_none;
}

-- the description of a capture in, its text out
abbrev pub undescribe_terms : Terms
undescribe_terms = record {
  limit = Some capture_bytes;
  makes_links = false;
  lets_in = false;
  long_line = refusal_line LongDescription;
  Right = λ bytes. (capture : Capture) × IsDescriptionOf bytes capture;
  Refuses = IsRefused DeservesAsDescription;
  Done = λ bytes given status text. IsUndescribed bytes status text;
  Uses = uses_none;
}
