use Rattle.config_laws.proofs.BusReads.{bus_left, joined_there}
use Rattle.config_laws.proofs.reads.a_body_of_word_reads_answers_what_is_there.Goals as goal

pub returns-clause-bus : goal.returns-clause-bus
returns-clause-bus c = λ cells part ranges reads.
    bus_left c.a_body_is_executed_in_order.ensures.success c.a_body_is_executed_in_order.ensures.failed cells 0 part
    ranges reads

pub returns-clause-answers : goal.returns-clause-answers
returns-clause-answers c = λ cells part answers i op holds ranges reads joined at good.
    joined_there c.a_body_is_executed_in_order.ensures.success c.a_body_is_executed_in_order.ensures.failed
    c.written_is_read_again.ensures.reply c.one_list_for_words.ensures.requests cells part answers i op holds ranges
    reads joined at good
