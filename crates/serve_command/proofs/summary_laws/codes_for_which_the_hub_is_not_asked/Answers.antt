use Rattle.serve_command.proofs.ByFrame.{all_coded}
use Rattle.serve_command.proofs.summary_laws.codes_for_which_the_hub_is_not_asked.Goals as goal

pub returns : goal.returns
returns c = λ settings specs links came back connections lines is.
    all_coded settings specs is.boards links is.over_links is.conversations
