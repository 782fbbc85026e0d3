use Rattle.toml.specs.View.{table_view}
use Rattle.script_lang.proofs.Numbers.{are_limits}
use Rattle.script_lang.proofs.boards.settings.Goals as goal

pub unwrap-requires : goal.unwrap-requires
unwrap-requires c =
    c.new.ensures.some.1
    (rw (c.number_at-rounds.ensures, c.number_at-window.ensures) (are_limits (table_view c.args.document.now)))
