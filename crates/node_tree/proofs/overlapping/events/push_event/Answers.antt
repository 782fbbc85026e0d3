use Rattle.std.proofs.Common.{◌++◌, ◌∷◌, [], cond, ap, sym, ◌∙◌}
use Rattle.node_tree.proofs.OverlapLemmas.{plain}
use Rattle.node_tree.proofs.NotingLemmas.{get-plain}
use Rattle.node_tree.specs.OverlapSearch.{event_at}
use Rattle.node_tree.proofs.overlapping.events.push_event.Goals as goal

pub returns-in_ok-push : goal.returns-in_ok-push
returns-in_ok-push c =
    let old = c.args.events.now.items in
    let r = c.index-entries-place.result.1 in
    record {
      entry = plain c.index-entries-place.result;
      there =
          get-plain c.args.entries.now c.args.place c.index-entries-place.result c.requires c.index-entries-place.is;
      word = c.event_of-event.ensures.word;
      adds = c.in_ok-push.ensures.items ∙ ap (λ e. old ++ e ∷ []) c.event_of-event.ensures.event
          ∙ ap (λ b. cond b (old ++ event_at r c.args.place c.args.asks ∷ []) old)
          (sym c.if-takes_words.true ∙ c.takes_words.ensures);
    }

pub returns-else-takes_words : goal.returns-else-takes_words
returns-else-takes_words c =
    let old = c.args.events.now.items in
    let r = c.index-entries-place.result.1 in
    record {
      entry = plain c.index-entries-place.result;
      there =
          get-plain c.args.entries.now c.args.place c.index-entries-place.result c.requires c.index-entries-place.is;
      word = c.event_of-event.ensures.word;
      adds =
          ap (λ b. cond b (old ++ event_at r c.args.place c.args.asks ∷ []) old)
          (sym c.if-takes_words.false ∙ c.takes_words.ensures);
    }
