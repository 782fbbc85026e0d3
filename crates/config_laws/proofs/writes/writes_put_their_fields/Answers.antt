use Rattle.config_laws.proofs.AllWrites.{puts_there}
use Rattle.config_laws.proofs.writes.writes_put_their_fields.Goals as goal

pub returns : goal.returns
returns c = puts_there c.a_write_puts_its_field.ensures.here c.a_write_puts_its_field.ensures.elsewhere
    c.a_field_gives_back_what_was_put.ensures.word
