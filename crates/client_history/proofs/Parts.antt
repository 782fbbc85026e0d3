-- The parts of connections in the run of a board.
use Rattle.std.proofs.Common.{◌≡◌, ℕ, suc, List, [], ◌∷◌, ◌++◌, length, map, Option, refl, sym, ap, subst}
use Rattle.std.proofs.Common.{◌∙◌}
use Rattle.std.specs.List.{flat_map}
use Rattle.lane_record.specs.declared.outcome.Outcome.{Outcome}
use Rattle.lane_record.specs.declared.item.Item.{Item}
use Rattle.lane_record.specs.Dispatches.{outcomes_in_order}
use Rattle.lane_record.specs.Submissions.{Submission}
use Rattle.mtu_packer.specs.Packed.{deal}
use Rattle.script_plans.specs.declared.board_run.ClientPart.{ClientPart}
use Rattle.script_plans.specs.Runs.{outcomes_in}
use Rattle.board_history.specs.History as shown
use Rattle.board_history.specs.Lates.{AreLatesOf}
use Rattle.board_history.specs.Records.{IsRecordOf}
use Rattle.client_history.specs.Connections.{submitted_bodies, dispatches_of, outcomes_of}
use Rattle.client_history.specs.Boards.{part_of}

abbrev pub parts_of : List (List Submission) → List ClientPart
parts_of connections = map part_of connections

abbrev pub bodies_shown : List (List Submission) → List (List (List ℕ))
bodies_shown connections = map (λ (part : ClientPart). part.planned.bodies) (parts_of connections)

abbrev pub outcomes_shown : List (List Submission) → List (List Outcome)
outcomes_shown connections = map (λ (part : ClientPart). part.outcomes) (parts_of connections)

abbrev pub dispatches_shown : List (List Submission) → List (List (List Outcome))
dispatches_shown connections = map shown.dispatches_of (parts_of connections)

pub same_bodies : (connections : List (List Submission)) → bodies_shown connections ≡ map submitted_bodies connections
same_bodies [] = refl
same_bodies (s ∷ ss) = ap (λ (bs : List (List (List ℕ))). submitted_bodies s ∷ bs) (same_bodies ss)

pub same_lengths : (connections : List (List Submission))
    → map length (outcomes_shown connections) ≡ map length (bodies_shown connections)
same_lengths [] = refl
same_lengths (s ∷ ss) =
    ap (λ (n : ℕ). n ∷ map length (outcomes_shown ss)) (one_length s)
    ∙ ap (λ (ns : List ℕ). length (submitted_bodies s) ∷ ns) (same_lengths ss)
  where
    one_length : (s : List Submission) → length (outcomes_of s) ≡ length (submitted_bodies s)
    one_length [] = refl
    one_length (x ∷ xs) = ap suc (one_length xs)

-- ---- what came late

abbrev pub lates_shown : List (List Submission) → List (List (Option (List ℕ)))
lates_shown connections = map (λ (part : ClientPart). part.lates) (parts_of connections)

-- nothing of it is shown
pub none_late : (lates : List (Option (List ℕ))) (connections : List (List Submission))
    → AreLatesOf lates (outcomes_shown connections) (lates_shown connections)
none_late lates [] = tt
none_late lates (s ∷ ss) = (tt, none_late lates ss)

-- ---- dispatch by dispatch

pub one_dispatch_each : (s : List Submission)
    → deal (map (λ (x : Submission). 1) s) (outcomes_of s) ≡ dispatches_of s
one_dispatch_each [] = refl
one_dispatch_each (x ∷ xs) = ap (λ (ds : List (List Outcome)). (x.outcome ∷ []) ∷ ds) (one_dispatch_each xs)

pub same_dispatches : (connections : List (List Submission))
    → dispatches_shown connections ≡ map dispatches_of connections
same_dispatches [] = refl
same_dispatches (s ∷ ss) =
    ap (λ (ds : List (List Outcome)). ds ∷ dispatches_shown ss) (one_dispatch_each s)
    ∙ ap (λ (dss : List (List (List Outcome))). dispatches_of s ∷ dss) (same_dispatches ss)

pub joined_again : (s : List Submission) → outcomes_in_order (dispatches_of s) ≡ outcomes_of s
joined_again [] = refl
joined_again (x ∷ xs) = ap (λ (os : List Outcome). x.outcome ∷ os) (joined_again xs)

all_joined_again : (connections : List (List Submission))
    → map outcomes_in_order (map dispatches_of connections) ≡ outcomes_shown connections
all_joined_again [] = refl
all_joined_again (s ∷ ss) =
    ap (λ (os : List Outcome). os ∷ map outcomes_in_order (map dispatches_of ss)) (joined_again s)
    ∙ ap (λ (oss : List (List Outcome)). outcomes_of s ∷ oss) (all_joined_again ss)

pub same_joined : (connections : List (List Submission))
    → map outcomes_in_order (dispatches_shown connections) ≡ outcomes_shown connections
same_joined connections =
    ap (λ (dss : List (List (List Outcome))). map outcomes_in_order dss) (same_dispatches connections)
    ∙ all_joined_again connections

-- ---- in one list

pub all_outcomes : (connections : List (List Submission))
    → outcomes_in (parts_of connections) ≡ flat_map outcomes_of connections
all_outcomes [] = refl
all_outcomes (s ∷ ss) = ap (λ (os : List Outcome). outcomes_of s ++ os) (all_outcomes ss)

pub flat_again : (connections : List (List Submission))
    → flat_map outcomes_in_order (map dispatches_of connections) ≡ outcomes_in (parts_of connections)
flat_again [] = refl
flat_again (s ∷ ss) =
    ap (λ (os : List Outcome). os ++ flat_map outcomes_in_order (map dispatches_of ss)) (joined_again s)
    ∙ ap (λ (os : List Outcome). outcomes_of s ++ os) (flat_again ss)

-- ---- the record

pub record_shown : (connections : List (List Submission)) (items : List Item)
    → IsRecordOf (map submitted_bodies connections) (map dispatches_of connections) items
    → IsRecordOf (bodies_shown connections) (dispatches_shown connections) items
record_shown connections items is =
    subst (λ (bss : List (List (List ℕ))). IsRecordOf bss (dispatches_shown connections) items)
    (sym (same_bodies connections))
    (subst (λ (dss : List (List (List Outcome))). IsRecordOf (map submitted_bodies connections) dss items)
    (sym (same_dispatches connections)) is)
