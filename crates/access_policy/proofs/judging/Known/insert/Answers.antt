use Rattle.access_policy.proofs.KnownNames.{known_more}
use Rattle.access_policy.proofs.judging.Known.insert.Goals as goal

pub returns-in_ok-insert : goal.returns-in_ok-insert
returns-in_ok-insert c = λ access rules known meant.
    record {
      by_number = known.by_number;
      by_name = known_more access rules c.args.self.now.by_name c.insert.new.self c.args.name.now c.args.decision
          known.by_name meant c.in_ok-insert.ensures.updates;
    }
