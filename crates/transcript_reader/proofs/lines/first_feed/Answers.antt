use Rattle.transcript_reader.proofs.LineCuts.{feed_is}
use Rattle.transcript_reader.proofs.lines.first_feed.Goals as goal

pub returns : goal.returns
returns c = feed_is c.args.text.now c.memchr.result c.memchr.ensures
