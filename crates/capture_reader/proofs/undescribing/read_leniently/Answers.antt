use Rattle.std.proofs.Common.{◌∙◌}
use Rattle.capture_reader.proofs.OneText.{no_description, read_again}
use Rattle.capture_reader.proofs.undescribing.read_leniently.Goals as goal

pub returns-in-Err-Other-clause-only : goal.returns-in-Err-Other-clause-only
returns-in-Err-Other-clause-only c capture good is =
    absurd (no_description c.args.text.now (rw c.in-Err-Other.field-0-is at c.in-Err-Other.ensures) capture good is)

pub returns-in-Ok-read_datagrams-clause-only : goal.returns-in-Ok-read_datagrams-clause-only
returns-in-Ok-read_datagrams-clause-only c =
    read_again c.args.text.now c.in-Ok.read.1.now c.in-Ok.read.0 c.from_vec.result c.in-Ok.ensures
    (c.from_vec.ensures ∙ c.in-Ok-read_datagrams.ensures.read)
