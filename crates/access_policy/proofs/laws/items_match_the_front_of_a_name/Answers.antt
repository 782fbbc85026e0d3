use Rattle.access_policy.proofs.Fronts.{front_of_matched, matched_of_front}
use Rattle.access_policy.proofs.laws.items_match_the_front_of_a_name.Goals as goal

pub returns : goal.returns
returns c patterns rest items = (front_of_matched patterns rest items, matched_of_front patterns rest items)
