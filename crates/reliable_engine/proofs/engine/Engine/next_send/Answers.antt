use Rattle.std.proofs.Common.{◌≡◌, ◌∙◌, List, None, Some, length, ap, sym, subst}
use Rattle.std.specs.List.{AllByRecursion}
use Rattle.reliable_engine.specs.Answers.{IsQuiet, sent_next}
use Rattle.world_model.specs.declared.offered.OpenPlace.{OpenPlace}
use Rattle.world_model.specs.Hub.{Hub}
use Rattle.world_model.specs.Sends.{first_send, first_wanted}
use Rattle.reliable_engine.specs.Steps.{places_wanted, sending_of}
use Rattle.reliable_engine.specs.View.{hub_of}
use Rattle.world_model.proofs.Hubs.{wanted_is}
use Rattle.reliable_engine.proofs.Keeping.{keeps_wanted}
use Rattle.reliable_engine.proofs.Hubs.{not_quiet, nothing, nothing_wanted, sendable}
use Rattle.reliable_engine.proofs.engine.Engine.next_send.Goals as goal

pub invariant_of-self-in-Some : goal.invariant_of-self-in-Some
invariant_of-self-in-Some c =
    let i = c.self.inside in
    rw c.take_wanted.ensures.after
    (keeps_wanted i.first i.window i.sent (length i.bodies.items) i.open_places i.fates.len i.fates.cap
    i.lates.len i.lates.cap
    c.self.invariant)

pub returns-in-Some-clause-open_place : goal.returns-in-Some-clause-open_place
returns-in-Some-clause-open_place c =
    let i = c.self.inside in
    let os = i.open_places in
    sendable (record (hub_of i) { open_places = c.take_wanted.new.self }) os (first_wanted i.first os) c.in-Some.send
    c.take_wanted.ensures.after (wanted_is i.first os) (sym c.take_wanted.ensures.send ∙ c.in-Some.is)

pub returns-in-Some-clause-none : goal.returns-in-Some-clause-none
returns-in-Some-clause-none c =
    let i = c.self.inside in
    let told : sending_of (first_wanted i.first i.open_places) ≡ Some c.in-Some.send =
    sym c.take_wanted.ensures.send ∙ c.in-Some.is in (
      λ e. absurd (cc),
      λ nothing. absurd (not_quiet i.first i.open_places c.in-Some.send told
          (subst (λ (h : Hub). AllByRecursion IsQuiet h.open_places) (sym c.self.view_is) nothing.quiet)),
    )

pub returns-clause-none : goal.returns-clause-none
returns-clause-none c =
    let i = c.self.inside in
    let h = c.args.self.now in
    let os = i.open_places in
    let none : first_wanted i.first os ≡ None =
    nothing_wanted i.first os (sym c.take_wanted.ensures.send ∙ c.in_default.is) in
    let same : c.take_wanted.new.self ≡ os = c.take_wanted.ensures.after ∙ ap (places_wanted os) none in
    let sent = c.first_send.ensures.send
    ∙ (ap (λ (ps : List OpenPlace). sent_next (first_send (record (hub_of i) { open_places = ps }) (hub_of i).queue))
    same
    ∙ ap (λ (y : Hub). sent_next (first_send y y.queue)) c.self.view_is) in
    nothing h c.first_send.result (ap (λ (y : Hub). y.status_wanted) (sym c.self.view_is) ∙ c.if-self.false)
    (ap (λ (y : Hub). first_wanted y.first y.open_places) (sym c.self.view_is) ∙ none) sent
