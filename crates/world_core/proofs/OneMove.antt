-- What one move leads to.
use Rattle.std.proofs.Common.{◌≡◌, ℕ, Bool, true, false, cond, List, length, Option, Some, None, Result, Ok, Err, refl}
use Rattle.std.proofs.Common.{sym, ap, ◌∙◌}
use Rattle.std.specs.List.{slice_get}
use Rattle.world_model.specs.declared.datagram.Datagram.{Datagram}
use Rattle.world_model.specs.declared.datagram.Direction.{Direction}
use Rattle.world_model.specs.declared.datagram.Direction.TheVariants.{ToBoard, ToHub}
use Rattle.world_model.specs.declared.moves.WorldEnd.{WorldEnd}
use Rattle.world_model.specs.declared.moves.WorldEnd.TheVariants.{NotThere, TooOld}
use Rattle.world_model.specs.declared.moves.WorldMove.{WorldMove}
use Rattle.world_model.specs.declared.moves.WorldMove.TheVariants.{Offer, Quiet, HubHears, BoardHears}
use Rattle.world_model.specs.Air.{goes_to, is_alive}
use Rattle.world_model.specs.Hub.{hear_quiet, is_waiting, offer}
use Rattle.world_model.specs.Sends.{pending}
use Rattle.world_model.specs.World.{World, board_hears, flush, go_on, handed_out, hub_hears, step, taken_datagram, when_taken}
use Rattle.world_core.specs.Steps.{board_told, end_of, hub_told}

pub moved_by_offer : (at : ℕ) (w after : World) (move : WorldMove) (tag : ℕ) (body words : List ℕ)
    → move ≡ Offer tag body → words ≡ body → after ≡ go_on w (offer w.hub (record { tag = tag; body = words }))
    → step at w move ≡ Ok after
moved_by_offer at w after move tag body words is same moved =
    ap (step at w) is
    ∙ (ap (λ (b : List ℕ). Ok (go_on w (offer w.hub (record { tag = tag; body = b })))) (sym same)
    ∙ ap (λ (v : World). Ok v) (sym moved))

pub moved_by_quiet : (at : ℕ) (w after : World) (move : WorldMove) → move ≡ Quiet → is_waiting w.hub ≡ true
    → after ≡ go_on w (hear_quiet w.hub) → step at w move ≡ Ok after
moved_by_quiet at w after move is waiting moved =
    ap (step at w) is
    ∙ (ap (λ (b : Bool). cond b (Ok (go_on w (hear_quiet w.hub))) (Err (NotThere at))) waiting
    ∙ ap (λ (v : World). Ok v) (sym moved))

-- where a datagram may be heard it is there
may_be_heard : (at : ℕ) (way alive : Bool) (bytes : List ℕ)
    → end_of (cond way (cond alive (Ok bytes) (Err (TooOld at))) (Err (NotThere at))) ≡ Ok tt
    → cond way (cond alive (Ok bytes) (Err (TooOld at))) (Err (NotThere at)) ≡ Ok bytes
may_be_heard at true true bytes is = refl
may_be_heard at true false bytes is = absurd cc
may_be_heard at false alive bytes is = absurd cc

heard : (at sent : ℕ) (hearer : Direction) (r : Option Datagram) (hears : List ℕ → World)
    (told : Option Datagram → World) → ((d : Datagram) → hears d.bytes ≡ told (Some d))
    → end_of (taken_datagram at sent hearer r) ≡ Ok tt → when_taken (taken_datagram at sent hearer r) hears ≡ Ok (told r)
heard at sent hearer None hears told same is = absurd cc
heard at sent hearer (Some d) hears told same is =
    ap (λ (r : Result (List ℕ) WorldEnd). when_taken r hears)
    (may_be_heard at (goes_to hearer d.direction) (is_alive sent d) d.bytes is)
    ∙ ap (λ (v : World). Ok v) (same d)

pub moved_by_hub : (at : ℕ) (w told after : World) (move : WorldMove) (place : ℕ) → move ≡ HubHears place
    → end_of (taken_datagram at (length w.hub.sent) ToHub (slice_get w.air place)) ≡ Ok tt
    → told ≡ hub_told w (slice_get w.air place) → after ≡ handed_out (flush (pending told.hub) told)
    → step at w move ≡ Ok after
moved_by_hub at w told after move place is may heard_so moved =
    let goes : World → World = λ (v : World). handed_out (flush (pending v.hub) v) in
    ap (step at w) is
    ∙ (heard at (length w.hub.sent) ToHub (slice_get w.air place) (hub_hears w) (λ r. goes (hub_told w r)) (λ d. refl) may
    ∙ ap (λ (v : World). Ok v) (ap goes (sym heard_so) ∙ sym moved))

pub moved_by_board : (at : ℕ) (w after : World) (move : WorldMove) (place : ℕ) → move ≡ BoardHears place
    → end_of (taken_datagram at (length w.hub.sent) ToBoard (slice_get w.air place)) ≡ Ok tt
    → after ≡ board_told w (slice_get w.air place) → step at w move ≡ Ok after
moved_by_board at w after move place is may moved =
    ap (step at w) is
    ∙ (heard at (length w.hub.sent) ToBoard (slice_get w.air place) (board_hears w) (board_told w) (λ d. refl) may
    ∙ ap (λ (v : World). Ok v) (sym moved))

-- what may not be heard ends the run
not_heard : (r : Result (List ℕ) WorldEnd) (hears : List ℕ → World) (end : WorldEnd) → end_of r ≡ Err end
    → when_taken r hears ≡ Err end
not_heard (Ok bytes) hears end is = absurd cc
not_heard (Err other) hears end is = ap (λ (e : WorldEnd). Err e) (cc)

pub refused_to_hub : (at : ℕ) (w : World) (move : WorldMove) (place : ℕ) (end : WorldEnd) → move ≡ HubHears place
    → end_of (taken_datagram at (length w.hub.sent) ToHub (slice_get w.air place)) ≡ Err end → step at w move ≡ Err end
refused_to_hub at w move place end is why =
    ap (step at w) is
    ∙ not_heard (taken_datagram at (length w.hub.sent) ToHub (slice_get w.air place)) (hub_hears w) end why

pub refused_to_board : (at : ℕ) (w : World) (move : WorldMove) (place : ℕ) (end : WorldEnd) → move ≡ BoardHears place
    → end_of (taken_datagram at (length w.hub.sent) ToBoard (slice_get w.air place)) ≡ Err end → step at w move ≡ Err end
refused_to_board at w move place end is why =
    ap (step at w) is
    ∙ not_heard (taken_datagram at (length w.hub.sent) ToBoard (slice_get w.air place)) (board_hears w) end why
