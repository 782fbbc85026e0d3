use Rattle.std.proofs.Common.{◌∙◌, ℕ, List, subst, sym}
use Rattle.std.specs.Prelude.{IfNone, IfSome}
use Rattle.std.proofs.lemmas.Option.{IfSome_then}
use Rattle.lane_record.specs.declared.outcome.Outcome.TheVariants.{Replied}
use Rattle.lane_record.proofs.Lengths.{short_at}
use Rattle.hub_lane.specs.Lanes.{LaneState}
use Rattle.hub_lane.specs.Calls.{IsReplyAt}
use Rattle.hub_lane.proofs.Replies.{no_reply_under, no_tag, none_then}
use Rattle.hub_lane.proofs.lane.Lane.reply_at.Goals as goal

pub returns-in_err-tag-clause-none : goal.returns-in_err-tag-clause-none
returns-in_err-tag-clause-none g c =
    let l = c.self.inside in
    rw c.from_residual.ensures
    (subst (λ (v : LaneState _). (words : List ℕ) → IsReplyAt v.outcomes c.args.place words → ⊥) c.self.view_is
    (no_tag l.engine.sent _ _ _ l.outcomes.items c.args.place c.self.invariant.0.agrees
    (sym c.tag_at.ensures ∙ c.in_err-tag.was)))

pub returns-clause-none : goal.returns-clause-none
returns-clause-none g c =
    let l = c.self.inside in
    let tag = c.in_ok-tag.tag in
    subst (λ (v : LaneState _). IfNone c.reply_under.result ((words : List ℕ) → IsReplyAt v.outcomes c.args.place words
    → ⊥)) c.self.view_is
    (none_then c.reply_under.result
    (no_reply_under l.engine.sent _ _ _ l.outcomes.items c.args.place tag c.self.invariant.0.agrees
    (sym c.tag_at.ensures ∙ c.in_ok-tag.was)) c.reply_under.ensures.none)

pub returns-clause-some : goal.returns-clause-some
returns-clause-some g c =
    subst (λ (v : LaneState _). IfSome c.reply_under.result (λ words. IsReplyAt v.outcomes c.args.place words.now))
    c.self.view_is c.reply_under.ensures.some

pub returns-clause-short : goal.returns-clause-short
returns-clause-short g c =
    IfSome_then c.reply_under.result c.reply_under.ensures.some (λ words is.
    short_at c.self.inside.outcomes.items is.number (Replied c.args.place words.now) c.self.invariant.0.short is.there)
