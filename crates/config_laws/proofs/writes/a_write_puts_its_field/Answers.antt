use Rattle.config_laws.proofs.BusWrites.{write_here, write_elsewhere}
use Rattle.config_laws.proofs.writes.a_write_puts_its_field.Goals as goal

pub returns-clause-here : goal.returns-clause-here
returns-clause-here c = write_here c.a_written_word_is_read.ensures.here c.the_full_mask_is_the_word.ensures.put

pub returns-clause-elsewhere : goal.returns-clause-elsewhere
returns-clause-elsewhere c = write_elsewhere c.a_written_word_is_read.ensures.elsewhere
