-- The places of a window.
use Rattle.std.proofs.Common.{◌≡◌, ℕ, ◌+◌, ◌≤◌, true, List, arith}
use Rattle.packet_ids.specs.Identifier.{identifier_at, IsIdentifier}
use Rattle.world_model.specs.declared.offered.OpenPlace.{OpenPlace}
use Rattle.world_model.specs.Hub.{least, places}
use Rattle.world_model.specs.Facts.{has, IsWindow}
use Rattle.world_model.proofs.Places.{has_below, has_from, one_place, rising_from}
use Rattle.reliable_engine.specs.Slots.{AreUpTo}

-- ---- the window

-- an open place is one of those sent
pub open_sent : (window sent place : ℕ) (ps : List ℕ) → IsWindow window sent ps → has place ps ≡ true
    → (1 ≤ place) × (place ≤ sent)
open_sent window sent place ps is there =
    let from = has_from place _ _ ps is.rising there in
    let below = has_below place _ _ ps is.rising there in
    (omega (arith, is.from_one), omega arith)

pub lowest_open : (window sent place : ℕ) (ps : List ℕ) → IsWindow window sent ps → has place ps ≡ true
    → least ps (sent + 1) ≤ place
lowest_open window sent place ps is there = has_from place _ _ ps is.rising there

-- two open places with one identifier are one
pub open_once : (first window sent a b : ℕ) (ps : List ℕ) → IsIdentifier first → IsWindow window sent ps
    → has a ps ≡ true → has b ps ≡ true → identifier_at first a ≡ identifier_at first b → a ≡ b
open_once first window sent a b ps id is there other same =
    let from_a = has_from a _ _ ps is.rising there in
    let from_b = has_from b _ _ ps is.rising other in
    let below_a = has_below a _ _ ps is.rising there in
    let below_b = has_below b _ _ ps is.rising other in
    one_place first a b id (omega (arith, is.from_one)) (omega (arith, is.from_one))
    (omega (arith, is.within, is.few)) (omega (arith, is.within, is.few)) same

pub up_to_sent : (window sent : ℕ) (os : List OpenPlace) → IsWindow window sent (places os) → AreUpTo sent os
up_to_sent window sent os is = rising_from 1 (least (places os) (sent + 1)) (sent + 1) (places os) is.from_one is.rising
