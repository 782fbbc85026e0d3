use Rattle.std.proofs.Common.{◌≡◌, ◌∙◌, ◌+◌, ℕ, Bool, Some, cond, ap, sym, subst, refl, arith}
use Rattle.world_model.specs.declared.offered.Offered.{Offered}
use Rattle.world_model.specs.declared.offered.Fate.TheVariants.{Replied}
use Rattle.world_model.specs.Places.{at_place}
use Rattle.world_model.specs.Hub.{Hub, hear_reply, insert_fate, open_with, tag_of, without}
use Rattle.reliable_engine.specs.Answers.{NamesOpenPlace}
use Rattle.reliable_engine.specs.Steps.{places_after, waits}
use Rattle.reliable_engine.specs.View.{hub_of}
use Rattle.reliable_engine.proofs.Keeping.{found}
use Rattle.reliable_engine.proofs.Hubs.{at_front_of, fates_waited, found_sent, names, names_none, reply_keeps}
use Rattle.reliable_engine.proofs.Hubs.{fates_not_waited, lates_not_waited, lates_waited, settle_is}
use Rattle.reliable_engine.proofs.engine.Engine.on_reply.Goals as goal

pub returns-in_default-clause-taken : goal.returns-in_default-clause-taken
returns-in_default-clause-taken c =
    let i = c.self.inside in
    let id = c.args.id in
    let none = sym c.take_open.ensures.found ∙ c.in_default.is in (
      λ e. absurd (cc),
      λ is. absurd (names_none (hub_of i) id none
          (subst (λ (h : Hub). NamesOpenPlace h id) (sym c.self.view_is) is)),
    )

pub overflow_sub-settled : goal.overflow_sub-settled
overflow_sub-settled c =
    let i = c.self.inside in
    let told : open_with i.first c.args.id i.open_places ≡ Some c.in-Some.settled =
    sym c.take_open.ensures.found ∙ c.in-Some.is in
    (found_sent i c.args.id c.in-Some.settled c.self.invariant told).0

pub index-requires : goal.index-requires
index-requires c =
    let i = c.self.inside in
    let told : open_with i.first c.args.id i.open_places ≡ Some c.in-Some.settled =
    sym c.take_open.ensures.found ∙ c.in-Some.is in
    let at = found_sent i c.args.id c.in-Some.settled c.self.invariant told in
    omega (arith, at.0, at.1, c.self.invariant.within)

pub put_fate-requires : goal.put_fate-requires
put_fate-requires c =
    let i = c.self.inside in
    let os = i.open_places in
    let o = c.in-Some.settled in
    let told : open_with i.first c.args.id os ≡ Some o = sym c.take_open.ensures.found ∙ c.in-Some.is in
    let gone = (found i.first c.args.id os o told).gone in
    let w : waits (without o.place os) + 1 ≡ waits os =
    subst (λ (b : Bool). waits (without o.place os) + cond b 1 0 ≡ waits os) c.if-settled.true gone.waiting in
    record { room = omega (arith, c.self.invariant.fates_fit) }

pub invariant_of-self-then-settled : goal.invariant_of-self-then-settled
invariant_of-self-then-settled c =
    reply_keeps c.self.inside c.args.id c.in-Some.settled c.take_open.result c.take_open.new.self
    c.put_fate.new.fates.len c.put_fate.new.fates.cap c.self.inside.lates.len c.self.inside.lates.cap c.self.invariant
    c.take_open.ensures.found c.in-Some.is c.take_open.ensures.after
    (rw c.if-settled.true (omega (arith, c.put_fate.ensures.len))) c.put_fate.ensures.capacity
    (omega arith) (omega arith)

pub invariant_of-self-else-settled : goal.invariant_of-self-else-settled
invariant_of-self-else-settled c =
    let i = c.self.inside in
    reply_keeps i c.args.id c.in-Some.settled c.take_open.result c.take_open.new.self
    i.fates.len i.fates.cap c.put_late.new.lates.len c.put_late.new.lates.cap c.self.invariant
    c.take_open.ensures.found c.in-Some.is
    c.take_open.ensures.after (omega arith) (omega arith) (omega (arith, c.put_late.ensures.len))
    c.put_late.ensures.capacity

pub returns-then-settled-clause-hub : goal.returns-then-settled-clause-hub
returns-then-settled-clause-hub c =
    let i = c.self.inside in
    let h = hub_of i in
    let os = i.open_places in
    let o = c.in-Some.settled in
    let id = c.args.id in
    let words = c.args.words in
    let told : open_with i.first id os ≡ Some o = sym c.take_open.ensures.found ∙ c.in-Some.is in
    let place = found_sent i id o c.self.invariant told in
    let after : c.take_open.new.self ≡ without o.place os =
    c.take_open.ensures.after ∙ ap (places_after os) c.in-Some.is in
    let at = at_front_of i.bodies.items i.sent o.place c.index.result.now place.0 place.1 c.self.invariant.within in
    let tag : c.index.result.now.tag ≡ tag_of (at_place h.sent o.place) =
    ap (λ (x : Offered). x.tag) c.index.ensures ∙ sym (ap tag_of at) in
    let fates = c.put_fate.ensures.items
    ∙ (ap (λ (t : ℕ). insert_fate o.place (t, Replied o.place words) i.fates.items) tag
    ∙ sym (fates_waited h o words c.if-settled.true)) in
    settle_is h words o c.take_open.new.self c.put_fate.new.fates.items i.lates.items
    (open_with i.first id os) told after fates (sym (lates_waited h o words c.if-settled.true))
    ∙ ap (λ (x : Hub). hear_reply x id words) c.self.view_is

pub put_late-requires : goal.put_late-requires
put_late-requires c =
    let i = c.self.inside in
    let told : open_with i.first c.args.id i.open_places ≡ Some c.in-Some.settled =
    sym c.take_open.ensures.found ∙ c.in-Some.is in
    record {
      room = omega (
        arith,
        c.self.invariant.lates_fit,
        (found i.first c.args.id i.open_places
            c.in-Some.settled told).gone.shorter,
      );
    }

pub returns-else-settled-clause-hub : goal.returns-else-settled-clause-hub
returns-else-settled-clause-hub c =
    let i = c.self.inside in
    let h = hub_of i in
    let os = i.open_places in
    let o = c.in-Some.settled in
    let id = c.args.id in
    let words = c.args.words in
    let told : open_with i.first id os ≡ Some o = sym c.take_open.ensures.found ∙ c.in-Some.is in
    let after : c.take_open.new.self ≡ without o.place os =
    c.take_open.ensures.after ∙ ap (places_after os) c.in-Some.is in
    settle_is h words o c.take_open.new.self i.fates.items c.put_late.new.lates.items
    (open_with i.first id os) told after (sym (fates_not_waited h o words c.if-settled.false))
    (c.put_late.ensures.items ∙ sym (lates_not_waited h o words c.if-settled.false))
    ∙ ap (λ (x : Hub). hear_reply x id words) c.self.view_is

pub returns-then-settled-clause-taken : goal.returns-then-settled-clause-taken
returns-then-settled-clause-taken c =
    let i = c.self.inside in
    let told : open_with i.first c.args.id i.open_places ≡ Some c.in-Some.settled =
    sym c.take_open.ensures.found ∙ c.in-Some.is in (
      λ _. subst (λ (h : Hub). NamesOpenPlace h c.args.id) c.self.view_is
          (names (hub_of i) c.args.id c.in-Some.settled told),
      λ _. refl,
    )

pub returns-else-settled-clause-taken : goal.returns-else-settled-clause-taken
returns-else-settled-clause-taken c =
    let i = c.self.inside in
    let told : open_with i.first c.args.id i.open_places ≡ Some c.in-Some.settled =
    sym c.take_open.ensures.found ∙ c.in-Some.is in (
      λ _. subst (λ (h : Hub). NamesOpenPlace h c.args.id) c.self.view_is
          (names (hub_of i) c.args.id c.in-Some.settled told),
      λ _. refl,
    )
