use Rattle.reply_join.proofs.WordsJoined.{requests_reader, replies_reader, joined_given, given_joined, none_given}
use Rattle.reply_join.proofs.WordsJoined.{gives_none}
use Rattle.reply_join.proofs.laws.joining_is_a_function.Goals as goal

pub returns : goal.returns
returns c =
    let requests = requests_reader c.written_is_read_again.ensures.request c.read_is_spelled_so.ensures.request in
    let replies = replies_reader c.written_is_read_again.ensures.reply c.read_is_spelled_so.ensures.reply in
    record {
      joined = λ body reply list body_fits reply_fits. (
        joined_given requests replies body reply list,
        given_joined requests replies body reply list body_fits
            reply_fits,
      );
      none = λ body reply body_fits reply_fits.
          (none_given requests replies body reply, gives_none requests replies body reply body_fits reply_fits);
      garbled = λ body reply place body_fits reply_fits is.
          gives_none requests replies body reply body_fits reply_fits is.is_none;
    }
