-- How the steps of planning work together: what private functions promise one another. No public clause speaks of
-- these.
use Rattle.std.specs.Prelude.{◌≡◌, ℕ, ◌≤◌, ◌^◌, List, [], ◌∷◌, ◌++◌, length, map, drop, All, fold}
use Rattle.script_steps.specs.declared.operation.RegOp.{RegOp}
use Rattle.script_steps.specs.declared.operation.Step.{Step}
use Rattle.std.specs.List.{AllByRecursion, flat_map}
use Rattle.transaction_codec.specs.declared.request.Op.{Op}
use Rattle.mtu_packer.specs.Cutting.{CanBeCut, cut_pieces}
use Rattle.mtu_packer.specs.Packed.{Contents, FitsPackets, packed_contents}
use Rattle.script_steps.specs.Packing.{CanBePacked, IsSelection}
use Rattle.script_steps.specs.Packing as script
use Rattle.script_plans.specs.declared.planning.Planning.{Planning}
use Rattle.script_plans.specs.Plan.{ClientBodies, AreSound, dispatches, ops_on, plan, with_dispatch, all_dispatches}

abbrev pub so_far : Planning → ClientBodies
so_far p = record { bodies = p.bodies.items; pieces = p.pieces; counts = p.counts.items }

-- the dispatches that are left, the first of which begins with the operations that wait
abbrev pub dispatches_left : ℕ → ℕ → List Op → List (List RegOp) → List Contents
dispatches_left payload board queued [] = packed_contents payload queued ∷ []
dispatches_left payload board queued (dispatch ∷ later) =
    packed_contents payload (queued ++ ops_on board dispatch) ∷ map (λ ops. packed_contents payload (ops_on board ops)) later

-- selections of operations, behind these, are cut into no more pieces than packing takes
abbrev pub HaveFewBehind : ℕ → List Op → List Step → Type 0
HaveFewBehind payload queued steps =
    (ops : List Op) → IsSelection ops (script.operations steps)
    → length (flat_map (cut_pieces payload) (queued ++ ops)) ≤ 2 ^ 31

-- where the first `i` steps are planned, but for what waits for the next dispatch
pub record IsPlanning (payload board : ℕ) (steps : List Step) (i : ℕ) (all : ClientBodies) (queued : List Op) : Type 0
  where
    pub planned : fold with_dispatch all (dispatches_left payload board queued (dispatches (drop i steps)))
        ≡ all_dispatches (plan payload board steps)
    pub sound : AreSound all
    pub room : AllByRecursion (FitsPackets payload) all.bodies
    pub can : All CanBeCut queued
    pub can_later : AllByRecursion CanBePacked (drop i steps)
    pub few : HaveFewBehind payload queued (drop i steps)
    pub few_later : HaveFewBehind payload [] (drop i steps)
