use Rattle.mtu_packer.proofs.Parts.{longest_reply_is_longest}
use Rattle.mtu_packer.proofs.laws.the_longest_reply_is_the_longest_answer.Goals as goal

pub returns : goal.returns
returns c part ranges = longest_reply_is_longest 0 part ranges
