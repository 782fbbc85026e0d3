use Rattle.transcript_reader.proofs.LawShown.{shows_one_thing}
use Rattle.transcript_reader.proofs.laws.a_text_shows_one_thing.Goals as goal

pub returns : goal.returns
returns c = shows_one_thing
