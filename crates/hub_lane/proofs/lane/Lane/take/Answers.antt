use Rattle.std.proofs.Common.{◌≡◌, ◌∙◌, ◌<◌, List, sym, ap, subst, refl, ◌++◌, ◌∷◌, [], Option, Some, None, arith}
use Rattle.std.specs.List.{slice_get}
use Rattle.world_model.proofs.Lists.{get_within}
use Rattle.lane_record.specs.declared.outcome.Outcome.{Outcome}
use Rattle.lane_record.specs.declared.item.Item.{Item}
use Rattle.lane_record.specs.Claims.{claims}
use Rattle.lane_record.specs.Items.{asked_count}
use Rattle.lane_record.specs.NextEntry.{took_of}
use Rattle.lane_record.proofs.Lengths.{short_at}
use Rattle.hub_lane.specs.Calls.{IsUntaken, Takes, WasAsked}
use Rattle.hub_lane.specs.Lanes.{BoardStatus, IsLane, LaneState}
use Rattle.hub_lane.proofs.Lanes.{lane_entry, lane_still}
use Rattle.hub_lane.proofs.Links.{on_any_err, same_entries}
use Rattle.hub_lane.proofs.Steps.{asked_below}
use Rattle.lane_tables.proofs.AskedRows.{same_claims}
use Rattle.hub_lane.proofs.LaneRuns.{run_claims}
use Rattle.hub_lane.proofs.lane.Lane.take.Goals as goal

-- a body that was asked has an Ask
pub unreachable-requires : goal.unreachable-requires
unreachable-requires g c =
    let was = subst (λ (v : LaneState _). WasAsked v.items c.args.client c.args.seq) (sym c.self.view_is)
    c.requires.asked in
    let below = asked_below c.self.inside.book.items _ c.args.client c.args.seq c.self.invariant.0.kept.legal was in
    let past = c.in_default.ensures.none in
    omega (arith, below, past)

pub of_ask-requires : goal.of_ask-requires
of_ask-requires g c =
    let items = c.self.inside.book.items in
    let at = c.in-Some.ensures.some in
    let within = get_within (claims items) c.in-Some.ask at.claim at.is.there in
    let each = c.self.invariant.0.agrees.counts.each in
    omega (arith, within, each)

pub returns-in_default-of_ask-clause-taken : goal.returns-in_default-of_ask-clause-taken
returns-in_default-of_ask-clause-taken g c =
    let items = c.self.inside.book.items in
    let ask = c.in-Some.ask in
    let at = c.in-Some.ensures.some in
    let was = subst (λ (v : LaneState _). WasAsked v.items c.args.client c.args.seq) (sym c.self.view_is)
    c.requires.asked in
    let untaken : IsUntaken items c.args.client c.args.seq ask =
    record { claim = at.claim; ask = at.is; once = was.untaken.once } in
    let yet : slice_get c.self.inside.outcomes.items ask ≡ Some None =
    c.of_ask.ensures ∙ ap (λ (o : Option Outcome). Some o) c.in_default-of_ask.is in
    record {
      number = ask;
      untaken = subst (λ (v : LaneState _). IsUntaken v.items c.args.client c.args.seq ask) c.self.view_is untaken;
      none_yet = subst (λ (v : LaneState _). slice_get v.outcomes ask ≡ Some None) c.self.view_is yet;
      same = refl;
    }

pub take-taken-requires-clause-asked : goal.take-taken-requires-clause-asked
take-taken-requires-clause-asked g c =
    let was = subst (λ (v : LaneState _). WasAsked v.items c.args.client c.args.seq) (sym c.self.view_is)
    c.requires.asked in
    subst (λ (xs : List Item). c.args.seq < asked_count c.args.client xs) (sym c.in_ok-reserve.ensures.items)
    (asked_below c.self.inside.book.items _ c.args.client c.args.seq c.self.invariant.0.kept.legal was)

-- where memory ran out the lane is the same
pub returns-in_err-reserve-clause-unchanged : goal.returns-in_err-reserve-clause-unchanged
returns-in_err-reserve-clause-unchanged g c =
    on_any_err _ (same_entries c.self.view_is c.reserve.ensures.items)

pub invariant_of-self : goal.invariant_of-self
invariant_of-self g c = (
  lane_still c.reserve.ensures.items c.self.invariant.0,
  c.self.invariant.1,
  c.self.invariant.2,
  c.self.invariant.3,
  run_claims (ap claims c.reserve.ensures.items) c.self.invariant.4,
)

pub invariant_of-self-2 : goal.invariant_of-self-2
invariant_of-self-2 g c =
    let l = c.self.inside in
    let status : BoardStatus = record { mtu = l.mtu; buffers = l.buffers; next = l.first } in
    let items = l.book.items in
    let outcomes = l.outcomes.items in
    let kept_is = c.in_ok-answer.answer in
    let x = took_of c.args.client c.args.seq kept_is l.give_ups in
    let ask = c.in-Some.ask in
    let at = c.in-Some.ensures.some in
    let was = subst (λ (v : LaneState _). WasAsked v.items c.args.client c.args.seq) (sym c.self.view_is)
    c.requires.asked in
    let became : slice_get outcomes ask ≡ Some (Some kept_is) = c.of_ask.ensures ∙ ap (λ (o : Option Outcome). Some o)
    (c.in-Some-of_ask.is ∙ ap (λ (o : Outcome). Some o) (sym c.in_ok-answer.ensures)) in
    let entry : c.take-taken.new.self.items ≡ items ++ x ∷ [] =
    c.take-taken.ensures.items ∙ ap (λ (xs : List Item). xs ++ x ∷ []) c.in_ok-reserve.ensures.items in (
      subst (λ (xs : List Item). IsLane l.settings status l.engine xs outcomes l.outcomes.lates l.give_ups l.down
          l.spent
          (g.L.Link.telling l.link) (g.L.Link.faults l.link) (g.L.Link.quiets l.link)) (sym entry)
          (lane_entry l.settings status l.engine items outcomes l.outcomes.lates l.give_ups l.down l.spent
          (g.L.Link.telling l.link) (g.L.Link.faults l.link) (g.L.Link.quiets l.link) x refl tt
          (λ kept. c.entries_go_into_the_book.ensures.took items outcomes l.engine.window l.give_ups c.args.client
          c.args.seq
          kept_is kept
          (record { k = ask; claim = at.claim; ask = at.is; once = was.untaken.once; became = became }))
          c.self.invariant.0),
      c.self.invariant.1,
      c.self.invariant.2,
      c.self.invariant.3,
      run_claims (ap claims entry ∙ same_claims items x refl) c.self.invariant.4,
    )

pub returns-clause-taken : goal.returns-clause-taken
returns-clause-taken g c =
    let l = c.self.inside in
    let status : BoardStatus = record { mtu = l.mtu; buffers = l.buffers; next = l.first } in
    let items = l.book.items in
    let outcomes = l.outcomes.items in
    let answer = c.take-taken.result in
    let same : answer ≡ c.in_ok-answer.answer = c.take-taken.ensures.outcome in
    let x = took_of c.args.client c.args.seq answer l.give_ups in
    let ask = c.in-Some.ask in
    let at = c.in-Some.ensures.some in
    let was = subst (λ (v : LaneState _). WasAsked v.items c.args.client c.args.seq) (sym c.self.view_is)
    c.requires.asked in
    let became : slice_get outcomes ask ≡ Some (Some answer) = c.of_ask.ensures ∙ ap (λ (o : Option Outcome). Some o)
    (c.in-Some-of_ask.is ∙ ap (λ (o : Outcome). Some o) (sym (same ∙ c.in_ok-answer.ensures))) in
    let entry : c.take-taken.new.self.items ≡ items ++ x ∷ [] =
    c.take-taken.ensures.items ∙ (ap (λ (o : Outcome). c.reserve.new.self.items ++ took_of c.args.client c.args.seq o l.give_ups ∷
    [])
    (sym same) ∙ ap (λ (xs : List Item). xs ++ x ∷ []) c.in_ok-reserve.ensures.items) in
    subst (λ (v : LaneState _). Takes v c.args.client c.args.seq (record {
      link = l.link;
      number = g.L.Link.number l.link;
      settings = l.settings;
      status = status;
      hub = l.engine;
      items = c.take-taken.new.self.items;
      outcomes = outcomes;
      lates = l.outcomes.lates;
      give_ups = l.give_ups;
      run = l.run;
      down = l.down;
      spent = l.spent;
    }) answer) c.self.view_is (record {
      number = ask;
      untaken = record { claim = at.claim; ask = at.is; once = was.untaken.once };
      became = became;
      short = short_at outcomes ask answer c.self.invariant.0.short became;
      entry = ap (λ (xs : List Item). record {
        link = l.link;
        number = g.L.Link.number l.link;
        settings = l.settings;
        status = status;
        hub = l.engine;
        items = xs;
        outcomes = outcomes;
        lates = l.outcomes.lates;
        give_ups = l.give_ups;
        run = l.run;
        down = l.down;
        spent = l.spent;
      }) entry;
    })
