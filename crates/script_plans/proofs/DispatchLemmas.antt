-- The bodies of a plan, as one list and cut into dispatches again.
use Rattle.std.proofs.Common.{◌≡◌, List, [], ◌∷◌, ◌++◌, length, map, refl, sym, ap, ◌∙◌, append_assoc, append-nil}
use Rattle.std.specs.List.{flat_map, fold}
use Rattle.std.proofs.Math.Seq.{take-append_seam, drop-append_seam}
use Rattle.mtu_packer.specs.Packed.{Contents, deal}
use Rattle.script_plans.specs.Plan.{ClientBodies, no_bodies, bodies_in, with_dispatch, all_dispatches}

bodies_from : (all : ClientBodies) (plan : List Contents)
    → (fold with_dispatch all plan).bodies ≡ all.bodies ++ flat_map (λ bodies. bodies) (bodies_in plan)
bodies_from all [] = sym (append-nil all.bodies)
bodies_from all (c ∷ plan) =
    bodies_from (with_dispatch all c) plan ∙ append_assoc all.bodies c.bodies
    (flat_map (λ bodies. bodies) (bodies_in plan))

counts_from : (all : ClientBodies) (plan : List Contents)
    → (fold with_dispatch all plan).counts ≡ all.counts ++ map (λ (c : Contents). length c.bodies) plan
counts_from all [] = sym (append-nil all.counts)
counts_from all (c ∷ plan) =
    counts_from (with_dispatch all c) plan
    ∙ append_assoc all.counts (length c.bodies ∷ []) (map (λ (c : Contents). length c.bodies) plan)

dealt : (plan : List Contents)
    → deal (map (λ (c : Contents). length c.bodies) plan) (flat_map (λ bodies. bodies) (bodies_in plan))
    ≡ bodies_in plan
dealt [] = refl
dealt (c ∷ plan) =
    rw (
      take-append_seam c.bodies (flat_map (λ bodies. bodies) (bodies_in plan)),
      drop-append_seam c.bodies
          (flat_map (λ bodies. bodies) (bodies_in plan)),
    )
    (ap (λ bodies. c.bodies ∷ bodies) (dealt plan))

pub bodies_are : (plan : List Contents) → (all_dispatches plan).bodies ≡ flat_map (λ bodies. bodies) (bodies_in plan)
bodies_are plan = bodies_from no_bodies plan

pub counts_cut : (plan : List Contents) → deal (all_dispatches plan).counts (all_dispatches plan).bodies
    ≡ bodies_in plan
counts_cut plan = rw (bodies_from no_bodies plan, counts_from no_bodies plan) (dealt plan)
