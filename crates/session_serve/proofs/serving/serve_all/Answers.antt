use Rattle.std.proofs.Common.{◌∙◌, ap, subst, sym, ◌≡◌, ◌+◌, length, ℕ, false, Option, List}
use Rattle.std.specs.Vec.Iter.{into_iter_items}
use Rattle.ipb_outside.specs.Faults.{RisesExactlyIf}
use Rattle.ipb_outside.specs.Pairs.{pair_shown}
use Rattle.session_serve.specs.Seats.{HasServed}
use Rattle.session_serve.proofs.serving.serve_all.Goals as goal

pub returns-clause-served : goal.returns-clause-served
returns-clause-served g c =
    let door = sym (c.door-1.given.1 (sym c.scoped-back.ensures.1.0) ∙ c.look.ensures) in
    let shows = pair_shown g.D.Incoming.Source g.D.Outgoing.Sink in
    subst (λ (now : Option (List _)). HasServed shows c.args.states.now (into_iter_items c.args.seats)
    (g.D.Door.coming c.args.door.now) now c.scoped-back.result.1) (ap g.D.Door.coming door)
    c.scoped-back.ensures.1.1.0

pub returns-clause-door_faults : goal.returns-clause-door_faults
returns-clause-door_faults g c =
    let door = sym (c.door-1.given.1 (sym c.scoped-back.ensures.1.0) ∙ c.look.ensures) in
    subst (λ (now : ℕ). RisesExactlyIf (c.scoped-back.result.1.is_whole ≡ false) (g.D.Door.faults c.args.door.now) now)
    (ap g.D.Door.faults door) c.scoped-back.ensures.1.1.1.0

pub returns-clause-out : goal.returns-clause-out
returns-clause-out g c =
    let door = sym (c.door-1.given.1 (sym c.scoped-back.ensures.1.0) ∙ c.look.ensures) in
    subst (λ (now : ℕ). now ≡ g.D.Door.out c.args.door.now + length c.scoped-back.result.1.done.items)
    (ap g.D.Door.out door) c.scoped-back.ensures.1.1.1.1.0

pub returns-clause-kept : goal.returns-clause-kept
returns-clause-kept g c =
    let door = sym (c.door-1.given.1 (sym c.scoped-back.ensures.1.0) ∙ c.look.ensures) in
    subst (λ (now : Option (List _)). now ≡ g.D.Door.kept c.args.door.now) (ap g.D.Door.kept door)
    c.scoped-back.ensures.1.1.1.1.1.0

pub returns-clause-ports : goal.returns-clause-ports
returns-clause-ports g c =
    let door = sym (c.door-1.given.1 (sym c.scoped-back.ensures.1.0) ∙ c.look.ensures) in
    subst (λ (now : List ℕ). now ≡ g.D.Door.ports c.args.door.now) (ap g.D.Door.ports door)
    c.scoped-back.ensures.1.1.1.1.1.1
