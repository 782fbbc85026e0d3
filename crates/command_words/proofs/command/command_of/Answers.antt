use Rattle.std.proofs.Common.{Err, ap, sym}
use Rattle.command_words.proofs.Named.{unnamed_words}
use Rattle.command_words.proofs.command.command_of.Goals as goal

pub returns-in-Err-Usage : goal.returns-in-Err-Usage
returns-in-Err-Usage c =
    sym (unnamed_words _ (λ s named e plain.
    c.in-Err-Usage.ensures.usage (ap Err c.in-Err-Usage.field-0-is) s named e plain))
