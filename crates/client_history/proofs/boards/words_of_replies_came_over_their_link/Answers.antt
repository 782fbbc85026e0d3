use Rattle.client_history.proofs.Lines.{words_carried}
use Rattle.client_history.proofs.boards.words_of_replies_came_over_their_link.Goals as goal

pub returns : goal.returns
returns c = words_carried
