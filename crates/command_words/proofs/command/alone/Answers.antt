use Rattle.std.proofs.Common.{sym}
use Rattle.command_words.specs.Commands.{alone}
use Rattle.command_words.proofs.Alone.{none_named}
use Rattle.command_words.proofs.command.alone.Goals as goal

pub returns-in_default : goal.returns-in_default
returns-in_default c =
    let other = c.in_default in
    sym (none_named c.args.name.now alone (
      other.not-run,
      (
        other.not-audit,
        (
          other.not-record,
          (
            other.not-describe,
            (
              other.not-undescribe,
              (
                other.not-save,
                (other.not-apply, tt),
              ),
            ),
          ),
        ),
      ),
    ))
