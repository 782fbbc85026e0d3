use Rattle.std.proofs.Common.{◌∙◌, sym, ap, arith}
use Rattle.lane_record.specs.Offers.{put}
use Rattle.lane_tables.specs.OutcomeTable.{TableState}
use Rattle.lane_tables.proofs.Put.{put_past, put_set}
use Rattle.lane_tables.proofs.outcome_table.OutcomeTable.put.Goals as goal
use Rattle.lane_tables.proofs.outcome_table.OutcomeTable.put.Goals.{in-Some+in-Replied-1, in-Some+in-TimedOut-1, in-None-1}

pub returns-then-ask-len-clause-items : goal.returns-then-ask-len-clause-items
returns-then-ask-len-clause-items c =
    let items = λ (v : TableState). v.items in
    let came = put_set c.args.ask c.args.outcome c.self.inside.outcomes.items (omega arith)
    ∙ ap (λ (v : TableState). put c.args.ask c.args.outcome v.items) c.self.view_is in
    elim c.match-index_mut.branch [
      | in-Some+in-Replied-1 w ↦ ap items w.self-is ∙ came
      | in-Some+in-TimedOut-1 w ↦ ap items w.self-is ∙ came
      | in-None-1 w ↦ ap items w.self-is ∙ came
    ]

pub returns-else-ask-len-clause-items : goal.returns-else-ask-len-clause-items
returns-else-ask-len-clause-items c =
    let outcomes = ap (λ (v : TableState). v.items) c.self.view_is in
    sym outcomes ∙ (sym (put_past c.args.ask c.args.outcome c.self.inside.outcomes.items (omega arith))
    ∙ ap (put c.args.ask c.args.outcome) outcomes)
