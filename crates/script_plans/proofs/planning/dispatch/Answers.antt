use Rattle.std.proofs.Common.{sym, subst}
use Rattle.std.specs.List.{AllByRecursion}
use Rattle.ipb_base.proofs.AllLemmas.{AllByRecursion-append}
use Rattle.mtu_packer.specs.Packed.{FitsPackets}
use Rattle.script_plans.specs.Plan.{AreSound, ClientBodies}
use Rattle.script_plans.proofs.PlanLemmas.{on_equal, sound_more}
use Rattle.script_plans.proofs.planning.dispatch.Goals as goal

pub returns-clause-sound : goal.returns-clause-sound
returns-clause-sound c =
    on_equal AreSound c.add_dispatch.result _ _ c.add_dispatch.ensures.planned
    (sound_more _ _ c.args.payload _ c.requires.sound c.in_ok-packed.ensures.packed
    (c.packed_bodies_spell_requests.ensures _ c.args.payload _ c.in_ok-packed.ensures.packed))

pub returns-clause-room : goal.returns-clause-room
returns-clause-room c =
    on_equal (λ (all : ClientBodies). AllByRecursion (FitsPackets c.args.payload) all.bodies) c.add_dispatch.result _ _
    c.add_dispatch.ensures.planned
    (AllByRecursion-append (FitsPackets c.args.payload) _ _ c.requires.room c.in_ok-packed.ensures.room)
