-- What calls leave of a link, one after another.
use Rattle.std.proofs.Common.{◌≡◌, ◌∙◌, ap, refl, subst, sym, inl, inr, Bool, true, false, ℕ, ◌≤◌}
use Rattle.std.proofs.Common.{List, [], ◌∷◌, ◌++◌, Option, Some, None, arith}
use Rattle.std.specs.Prelude.{Result, Ok, Err, IfErr, IfSome, IsErrAnd, OnErr}
use Rattle.board_bus.specs.Cells.{CellMap}
use Rattle.ipb_base.specs.Faults.{Rose}
use Rattle.ipb_base.specs.Lists.{IsPrefix}
use Rattle.world_model.specs.Board.{Board}
use Rattle.world_model.specs.Hub.{Hub}
use Rattle.world_model.specs.Messages.{to_hub}
use Rattle.links.specs.declared.link.Link.{Ghosts}
use Rattle.links.specs.declared.link.LinkFault.{LinkFault}
use Rattle.links.specs.declared.link.Received.{Received}
use Rattle.links.specs.declared.link.Received.TheVariants.{Got, Quiet as received_quiet}
use Rattle.links.specs.Receives.{receives_after, receives_in}
use Rattle.links.specs.Traffic.{received_after}
use Rattle.links.proofs.Passing.{one_received}
use Rattle.links.specs.Telling.{IfTelling, IsQuiet, Receives, Telling, gots_after, quiets_after}
use Rattle.lane_record.specs.declared.item.Item.{Item}
use Rattle.hub_lane.specs.declared.answers.Pumped.TheVariants.{Reply, Status, Stray, Quiet, Idle, LinkDown}
use Rattle.hub_lane.specs.declared.answers.Pumped.{Pumped}
use Rattle.hub_lane.specs.Calls.{IsSameRecord, IsSpent, PumpsAs}
use Rattle.hub_lane.specs.Hearing.{IsHeardAs, WasReceived}
use Rattle.hub_lane.specs.Lanes.{LaneState, board_of, opening_of}
use Rattle.hub_lane.specs.Links.{IsDownByFault, KeepsCounting, ReceivesNothing, ReceivesOnce}
use Rattle.hub_lane.proofs.Linked.{received_board}
use Rattle.hub_lane.proofs.Listened.{same_prefix}
use Rattle.hub_lane.proofs.Standing.{SameBoard}

-- what holds of a call that failed, whatever its fault became
pub on_any_err : {T E P : Type 0} (r : Result T E) → P → OnErr r P
on_any_err (Ok x) p = tt
on_any_err (Err e) p = p

pub on_each_err : {T E : Type 0} {P : E → Type 0} (r : Result T E) → ((fault : E) → P fault) → IfErr r P
on_each_err (Ok x) p = tt
on_each_err (Err e) p = p e

-- where the fault is this one
pub on_that_err : {T E : Type 0} (P : E → Type 0) (r : Result T E) (fault : E) → IsErrAnd r (λ (e : E). e ≡ fault)
    → P fault → IfErr r P
on_that_err P (Ok x) fault is p = tt
on_that_err P (Err e) fault is p = subst P (sym is) p

pub nothing_keeps : {L : Type 0} (seen : Ghosts L) (old new : L) → ReceivesNothing seen old new
    → KeepsCounting seen old new
nothing_keeps seen old new is = record {
  faults = is.faults;
  quiets = (let same = is.quiets in omega (arith, same));
  gots = (let same = is.gots in omega (arith, same));
  receives = same_prefix is.receives;
  number = is.number;
  held = is.held;
  board = is.board;
}

-- all was sent, and then came a receive
pub keeps_then : {L : Type 0} (seen : Ghosts L) (old between new : L) → ReceivesNothing seen old between
    → KeepsCounting seen between new → KeepsCounting seen old new
keeps_then seen old between new sent is = record {
  faults = (let first = sent.faults in let last = is.faults in omega (arith, first, last));
  quiets = (let same = sent.quiets in let last = is.quiets in omega (arith, same, last));
  gots = (let same = sent.gots in let last = is.gots in omega (arith, same, last));
  receives = (
    is.receives.0,
    is.receives.1 ∙ ap (λ (front : List (Option (List ℕ))). front ++ is.receives.0) sent.receives,
  );
  number = is.number ∙ sent.number;
  held = (let first = sent.held in let last = is.held in omega (arith, first, last));
  board = is.board ∙ sent.board;
}

grows : (result : Result Received LinkFault) (bytes : List ℕ) (old new : List (Option (List ℕ)))
    → new ≡ receives_after result bytes old → IsPrefix old new
grows (Ok Got) bytes old new is = (Some bytes ∷ [], is)
grows (Ok received_quiet) bytes old new is = (None ∷ [], is)
grows (Err fault) bytes old new is = same_prefix is

pub received_keeps : {L : Type 0} (seen : Ghosts L) → SameBoard → (result : Result Received LinkFault)
    (bytes : List ℕ) (old new : L) → seen.faults old ≤ seen.faults new → seen.quiets old ≤ seen.quiets new
    → seen.gots old ≤ seen.gots new → seen.traffic new ≡ received_after result bytes (seen.traffic old)
    → seen.number new ≡ seen.number old → seen.held old ≤ seen.held new
    → IfTelling (seen.telling old) (seen.telling new) (Receives result bytes (seen.held old) (seen.held new))
    → KeepsCounting seen old new
received_keeps seen law result bytes old new faults quiets gots traffic number held call = record {
  faults = faults;
  quiets = quiets;
  gots = gots;
  receives = grows result bytes (receives_in (seen.traffic old)) (receives_in (seen.traffic new))
      (one_received result bytes (seen.traffic old) traffic);
  number = number;
  held = held;
  board = received_board law result bytes (seen.held old) (seen.held new) (seen.telling old) (seen.telling new) call;
}

-- a receive came to this
abbrev pub CameTo : {L : Type 0} → Ghosts L → Result Received LinkFault → List ℕ → L → L → Type 0
CameTo seen result bytes old new = (seen.quiets new ≡ quiets_after result (seen.quiets old))
    × (seen.gots new ≡ gots_after result (seen.gots old))
    × (seen.traffic new ≡ received_after result bytes (seen.traffic old))

got_as : {L : Type 0} (seen : Ghosts L) (pumped : Pumped) (bytes : List ℕ) (hub : Hub) (old new : L)
    → IsHeardAs hub (to_hub bytes) pumped → CameTo seen (Ok Got) bytes old new → ReceivesOnce seen pumped bytes old new
got_as seen (Reply place) bytes hub old new heard came = record {
  counts = record { quiets = came.0; gots = came.1 };
  receives = one_received (Ok Got) bytes (seen.traffic old) came.2;
}
got_as seen Status bytes hub old new heard came = record {
  counts = record { quiets = came.0; gots = came.1 };
  receives = one_received (Ok Got) bytes (seen.traffic old) came.2;
}
got_as seen Stray bytes hub old new heard came = record {
  counts = record { quiets = came.0; gots = came.1 };
  receives = one_received (Ok Got) bytes (seen.traffic old) came.2;
}
got_as seen Quiet bytes hub old new heard came = absurd heard
got_as seen Idle bytes hub old new heard came = absurd heard
got_as seen LinkDown bytes hub old new heard came = absurd heard

pub got_once : {L : Type 0} (seen : Ghosts L) (pumped : Pumped) (bytes : List ℕ) (hub : Hub) (old new : L)
    (received : Received) → received ≡ Got → IsHeardAs hub (to_hub bytes) pumped
    → CameTo seen (Ok received) bytes old new → ReceivesOnce seen pumped bytes old new
got_once seen pumped bytes hub old new received e heard came =
    got_as seen pumped bytes hub old new heard
    (subst (λ (r : Received). CameTo seen (Ok r) bytes old new) e came)

pub quiet_once : {L : Type 0} (seen : Ghosts L) (bytes : List ℕ) (old new : L) (received : Received)
    → received ≡ received_quiet → CameTo seen (Ok received) bytes old new → ReceivesOnce seen Quiet bytes old new
quiet_once seen bytes old new received e came =
    let is = subst (λ (r : Received). CameTo seen (Ok r) bytes old new) e came in
    record {
      counts = record { quiets = is.0; gots = is.1 };
      receives = one_received (Ok received_quiet) bytes (seen.traffic old) is.2;
    }

pub was_quiet : (bytes : List ℕ) (held now : ℕ) (old new : Option Telling) → IfTelling old new (IsQuiet held now)
    → IfSome new (WasReceived Quiet bytes)
was_quiet bytes held now None None quiet = tt
was_quiet bytes held now None (Some u) quiet = absurd quiet
was_quiet bytes held now (Some t) None quiet = absurd quiet
was_quiet bytes held now (Some t) (Some u) quiet = quiet.none_due

-- ---- what a call leaves of the board that a link tells

abbrev opening_in : Option Board → Option CellMap
opening_in None = None
opening_in (Some board) = Some board.opening

pub same_opening : (old new : Option Telling) → board_of new ≡ board_of old → opening_of new ≡ opening_of old
same_opening None None same = ap opening_in same
same_opening None (Some u) same = ap opening_in same
same_opening (Some t) None same = ap opening_in same
same_opening (Some t) (Some u) same = ap opening_in same

-- what holds of all that links tell
pub if_both : (R : Telling → Telling → Type 0) (old new : Option Telling) → board_of new ≡ board_of old
    → ((t u : Telling) → R t u) → IfTelling old new R
if_both R None None same holds = tt
if_both R None (Some u) same holds = absurd cc
if_both R (Some t) None same holds = absurd cc
if_both R (Some t) (Some u) same holds = holds t u

-- ---- what a call leaves of a lane

not_up : (t : Option Telling) (down : Bool) (P : Type 0) → down ≡ true → IfSome t (λ _. down ≡ false → P)
not_up None down P is = tt
not_up (Some t) down P is = λ up. absurd (let clash : true ≡ false = sym is ∙ up in cc)

still_up : (t : Option Telling) (down : Bool) (P Q : Type 0) → IfSome t (λ _. P → Q) → P
    → IfSome t (λ _. down ≡ false → Q)
still_up None down P Q leads holds = tt
still_up (Some t) down P Q leads holds = λ _. leads holds

-- a call that did nothing
pub nothing_counted : {L : Type 0} (seen : Ghosts L) (link : L) → KeepsCounting seen link link
nothing_counted seen link = record {
  faults = omega arith;
  quiets = omega arith;
  gots = omega arith;
  receives = same_prefix refl;
  number = refl;
  held = omega arith;
  board = refl;
}

nothing_failed : (t : Option Telling) (down : Bool) (faults : ℕ) → IfSome t (λ _. down ≡ false → faults ≡ faults)
nothing_failed None down faults = tt
nothing_failed (Some t) down faults = λ _. refl

pub still_as_down : {L : Type 0} (seen : Ghosts L) (lane : LaneState L) → IsDownByFault seen lane lane
still_as_down seen lane = record {
  down = λ is. inl is;
  up = nothing_failed (seen.telling lane.link) lane.down (seen.faults lane.link);
}

-- a call that left the entries of the record left the lane's view
pub same_entries : {L : Type 0} {inside old : LaneState L} {items : List Item} → inside ≡ old → items ≡ inside.items
    → let now : LaneState L = record {
      link = inside.link;
      number = inside.number;
      settings = inside.settings;
      status = inside.status;
      hub = inside.hub;
      items = items;
      outcomes = inside.outcomes;
      lates = inside.lates;
      give_ups = inside.give_ups;
      run = inside.run;
      down = inside.down;
      spent = inside.spent;
    } in
    now ≡ old
same_entries {L} {inside} {old} {items} view same = ap (λ (xs : List Item). record {
  link = inside.link;
  number = inside.number;
  settings = inside.settings;
  status = inside.status;
  hub = inside.hub;
  items = xs;
  outcomes = inside.outcomes;
  lates = inside.lates;
  give_ups = inside.give_ups;
  run = inside.run;
  down = inside.down;
  spent = inside.spent;
}) same ∙ view

pub pumps_as : {L : Type 0} {inside old : LaneState L} → inside ≡ old → (seen : Ghosts L) (new : LaneState L)
    (telling : Option Telling) (now : List (Option (List ℕ))) (came_to : Pumped)
    → PumpsAs inside telling (receives_in (seen.traffic inside.link)) now new came_to
    → PumpsAs old telling (receives_in (seen.traffic old.link)) now new came_to
pumps_as {L} view seen new telling now came_to =
    subst (λ (v : LaneState L). PumpsAs v telling (receives_in (seen.traffic v.link)) now new came_to) view

-- a call that began with a lane of this view
module _ {L : Type 0} {inside old new : LaneState L} (view : inside ≡ old) where
  pub same_record : IsSameRecord inside new → IsSameRecord old new
  same_record is = subst (λ (v : LaneState L). IsSameRecord v new) view is

  pub is_spent : IsSpent inside new → IsSpent old new
  is_spent is = subst (λ (v : LaneState L). IsSpent v new) view is

  -- the network failed
  pub went_down : (seen : Ghosts L) → new.down ≡ true → Rose (seen.faults inside.link) (seen.faults new.link)
      → IsDownByFault seen old new
  went_down seen down rose = subst (λ (v : LaneState L). IsDownByFault seen v new) view (record {
    down = λ _. inr rose;
    up = not_up (seen.telling inside.link) new.down (seen.faults new.link ≡ seen.faults inside.link) down;
  })

  -- it did not
  pub did_not_go_down : (seen : Ghosts L) (P : Type 0) → new.down ≡ inside.down
      → IfSome (seen.telling inside.link) (λ _. P → seen.faults new.link ≡ seen.faults inside.link) → P
      → IsDownByFault seen old new
  did_not_go_down seen P same leads holds = subst (λ (v : LaneState L). IsDownByFault seen v new) view (record {
    down = λ down. inl (sym same ∙ down);
    up = still_up (seen.telling inside.link) new.down P (seen.faults new.link ≡ seen.faults inside.link) leads holds;
  })
