use Rattle.packet_codec.proofs.WordLemmas.{are_bytes, words_back, words_fit, length-words_of}
use Rattle.packet_codec.proofs.laws.whole_words_are_written_back.Goals as goal

pub returns-clause-bytes : goal.returns-clause-bytes
returns-clause-bytes c = λ order bytes fits whole. words_back order bytes whole (are_bytes bytes fits)

pub returns-clause-words : goal.returns-clause-words
returns-clause-words c = λ order bytes fits. words_fit order bytes (are_bytes bytes fits)

pub returns-clause-count : goal.returns-clause-count
returns-clause-count c = length-words_of
