-- The records on which the hub came to something for bodies begin the one that the seat has seen at last.
use Rattle.std.proofs.Common.{◌≡◌, ℕ, ◌+◌, true, false, List, [], ◌∷◌, ◌++◌, length, map, Option, Some, None, inl, inr}
use Rattle.std.proofs.Common.{refl}
use Rattle.std.proofs.Common.{sym, ap, ◌∙◌, subst, append-nil, append_assoc}
use Rattle.std.proofs.lemmas.Bool.{eq-eqb}
use Rattle.std.proofs.lemmas.List.{map-append}
use Rattle.std.proofs.lemmas.Option.{same_Some, none-some}
use Rattle.std.specs.List.{slice_get}
use Rattle.turn_pass.specs.Record.{Begins, Record}
use Rattle.turn_pass.specs.Pass.{Knowledge}
use Rattle.turn_pass.proofs.Records.{begins_on, begins_self}
use Rattle.lane_record.specs.declared.item.Item.{Item}
use Rattle.lane_record.specs.declared.outcome.Outcome.{Outcome}
use Rattle.lane_record.specs.Coding.{Head, record_of, as_recorded}
use Rattle.lane_record.specs.NextEntry.{ask_of, plan_of}
use Rattle.hub_lane.specs.declared.answers.BoardState.{BoardState}
use Rattle.hub_multiplexer.specs.OwnItems.{planned_by}
use Rattle.hub_multiplexer.specs.Seats.{ChangesAt, SeatState}
use Rattle.hub_framing.specs.Frames.{RequestFrame}
use Rattle.hub_session.specs.declared.got.BodyRefusal.{BodyRefusal}
use Rattle.hub_session.specs.declared.got.Got.{Got}
use Rattle.hub_session.specs.declared.got.Got.TheVariants.{NotAsked, Refused, Came}
use Rattle.hub_session.specs.Exchanges.{Exchange, ExchangesAll, ExchangesFor, HasCome, LaneRequest, WasRefused}
use Rattle.hub_session.specs.Exchanges.{request_of, submissions_on}
use Rattle.hub_session.specs.Serving.{Exchanged, Reaches, Unanswered}
use Rattle.hub_session.specs.Decisions.{AreFramesDecidedIn, IsFrameDecidedIn, WasDecidedIn, plan_behind}
use Rattle.hub_session.proofs.Entries.{exchanges_at, left_at}
use Rattle.hub_session.proofs.Passes.{number_same}
use Rattle.hub_session.proofs.Seats.{at_lane}

-- ---- a record that another begins

pub decided_later : (r later : Record) (client before : ℕ) (body : List ℕ) (got : Got) → Begins r later
    → WasDecidedIn r client before body got → WasDecidedIn later client before body got
decided_later r later client before body got on d = record {
  head = d.head;
  items = d.items;
  own = d.own;
  begins = begins_on (record_of d.head (d.items ++ plan_behind client before body got)) r later d.begins on;
  decided = d.decided;
}

-- ---- by one exchange

refused_on : (body : List ℕ) (why : BodyRefusal) (k after : Knowledge) → WasRefused body why k after
    → WasDecidedIn after.seen k.number (planned_by k) body (Refused why)
refused_on body why k after w = record {
  head = w.head;
  items = w.items;
  own = w.own;
  begins = subst (λ (l : List Item). Begins (record_of w.head l) after.seen) (sym (append-nil w.items))
      (subst (Begins (record_of w.head w.items)) (sym w.seen_now) (begins_self (record_of w.head w.items)));
  decided = w.refused;
}

-- a record with one entry more
one_longer : (head : Head) (items : List Item) (x y : Item)
    → Begins (record_of head (items ++ x ∷ [])) (record_of head (items ++ x ∷ y ∷ []))
one_longer head items x y = record {
  head = refl;
  entries = (
    map as_recorded (y ∷ []),
    ap (map as_recorded) (sym (append_assoc items (x ∷ []) (y ∷ [])))
        ∙ map-append as_recorded (items ++ x ∷ []) (y ∷ []),
  );
}

came_on : (body : List ℕ) (outcome : Outcome) (k after : Knowledge) → HasCome body outcome k after
    → WasDecidedIn after.seen k.number (planned_by k) body (Came outcome)
came_on body outcome k after h =
    let plan = plan_of k.number (planned_by k) body in
    let ask = ask_of k.number (planned_by k) h.asked_at in record {
      head = h.head;
      items = h.items;
      own = h.own;
      begins = begins_on (record_of h.head (h.items ++ plan ∷ [])) (record_of h.head (h.items ++ plan ∷ ask ∷ []))
          after.seen (one_longer h.head h.items plan ask) h.stays;
      decided = h.can;
    }

abbrev DecidedFor : ℕ → Option LaneRequest → Got → Knowledge → Knowledge → Type 0
DecidedFor on request got k after = (body : List ℕ) → request ≡ Some (record { lane = on; body = body })
    → WasDecidedIn after.seen k.number (planned_by k) body got

on_lane : (on : ℕ) (request : LaneRequest) (got : Got) (old new : SeatState) (P : Knowledge → Knowledge → Type 0)
    (k after : Knowledge) → ChangesAt request.lane old new P → slice_get old.knows on ≡ Some k
    → slice_get new.knows on ≡ Some after
    → ((z : Knowledge) → P k z → WasDecidedIn z.seen k.number (planned_by k) request.body got)
    → DecidedFor on (Some request) got k after
on_lane on request got old new P k after c here there f =
    let a = at_lane request.lane on old new P k c here in
    let same : a.after ≡ after = same_Some a.after after (sym a.there ∙ there) in
    λ body is.
    let one : request ≡ record { lane = on; body = body } = same_Some request _ is in
    elim a.went [
      | inl at ↦ subst (λ (z : Knowledge). WasDecidedIn z.seen k.number (planned_by k) body got) same
          (subst (λ (b : List ℕ). WasDecidedIn a.after.seen k.number (planned_by k) b got)
          (ap (λ (r : LaneRequest). r.body) one) (f a.after at.1))
      | inr apart ↦
          let untrue : true ≡ false =
          sym (eq-eqb request.lane on (ap (λ (r : LaneRequest). r.lane) one)) ∙ apart.0 in
          absurd (cc)
    ]

exchange_on : (on : ℕ) (request : Option LaneRequest) (got : Got) (old new : SeatState) (k after : Knowledge)
    → ExchangesFor request got old new → slice_get old.knows on ≡ Some k → slice_get new.knows on ≡ Some after
    → DecidedFor on request got k after
exchange_on on None NotAsked old new k after e here there = λ body is. absurd (none-some _ is)
exchange_on on None (Refused why) old new k after e here there = absurd e
exchange_on on None (Came outcome) old new k after e here there = absurd e
exchange_on on (Some request) NotAsked old new k after e here there = absurd e
exchange_on on (Some request) (Refused why) old new k after e here there =
    on_lane on request (Refused why) old new (WasRefused request.body why) k after e here there
    (λ z w. refused_on request.body why k z w)
exchange_on on (Some request) (Came outcome) old new k after e here there =
    on_lane on request (Came outcome) old new (HasCome request.body outcome) k after e here there
    (λ z h. came_on request.body outcome k z h)

-- ---- by exchanges one after the other

exchanges_on : (boards : List BoardState) (on : ℕ) (es : List Exchange) (old new : SeatState) (k after : Knowledge)
    → ExchangesAll boards es old new → slice_get old.knows on ≡ Some k → slice_get new.knows on ≡ Some after
    → AreFramesDecidedIn after.seen k.number (planned_by k) boards on es
exchanges_on boards on [] old new k after all here there = tt
exchanges_on boards on (x ∷ es) old new k after all here there =
    let first = exchanges_at boards on (x ∷ []) old all.0 k (all.0, all.1, refl) here in
    let later = exchanges_at boards on es all.0 new first.after all.2 first.there in
    let same : later.after ≡ after = same_Some later.after after (sym later.there ∙ there) in
    let begins : Begins first.after.seen after.seen =
    subst (λ (z : Knowledge). Begins first.after.seen z.seen) same later.went.grew.begins in
    let one = exchange_on on (request_of boards x.frame) x.got old all.0 k first.after all.1 here first.there in
    let rest = exchanges_on boards on es all.0 new first.after after all.2 first.there there in (
      λ body is. decided_later first.after.seen after.seen k.number (planned_by k) body x.got begins (one body is),
      subst (λ (n : ℕ). AreFramesDecidedIn after.seen k.number n boards on es) first.went.count
          (subst (λ (c : ℕ). AreFramesDecidedIn after.seen c (planned_by first.after) boards on es)
          (number_same k first.after first.went.items first.went.grew) rest),
    )

-- decided on what the record begins with that another begins
all_later : (r later : Record) (client before : ℕ) (boards : List BoardState) (on : ℕ) (es : List Exchange)
    → Begins r later → AreFramesDecidedIn r client before boards on es
    → AreFramesDecidedIn later client before boards on es
all_later r later client before boards on [] begins all = tt
all_later r later client before boards on (e ∷ es) begins all = (
  λ body is. decided_later r later client before body e.got begins (all.0 body is),
  all_later r later client (before + length (submissions_on boards on (e ∷ []))) boards on es begins all.1,
)

-- ---- of a connection

pub answered_decided : (boards : List BoardState) (on : ℕ) (es : List Exchange) (unanswered : Option Unanswered)
    (old between new : SeatState) (k after : Knowledge) → ExchangesAll boards es old between
    → Reaches boards unanswered between new → slice_get old.knows on ≡ Some k → slice_get new.knows on ≡ Some after
    → AreFramesDecidedIn after.seen k.number (planned_by k) boards on es
answered_decided boards on es unanswered old between new k after all left here there =
    let first = exchanges_at boards on es old between k all here in
    let last = left_at boards on unanswered between new first.after left first.there in
    let same : last.after ≡ after = same_Some last.after after (sym last.there ∙ there) in
    let begins : Begins first.after.seen after.seen =
    subst (λ (z : Knowledge). Begins first.after.seen z.seen) same last.went.grew.begins in
    all_later first.after.seen after.seen k.number (planned_by k) boards on es begins
    (exchanges_on boards on es old between k first.after all here first.there)

pub left_decided : (boards : List BoardState) (on : ℕ) (es : List Exchange) (unanswered : Option Unanswered)
    (frame : RequestFrame) (got : Got) (old between new : SeatState) (k after : Knowledge)
    → ExchangesAll boards es old between → Reaches boards unanswered between new
    → unanswered ≡ Some (record { frame = frame; reached = Exchanged got }) → slice_get old.knows on ≡ Some k
    → slice_get new.knows on ≡ Some after
    → IsFrameDecidedIn after.seen k.number (planned_by k + length (submissions_on boards on es)) boards on
    (record { frame = frame; got = got })
left_decided boards on es unanswered frame got old between new k after all left is here there =
    let first = exchanges_at boards on es old between k all here in
    let e = subst (λ (o : Option Unanswered). Reaches boards o between new) is left in
    let last = exchange_on on (request_of boards frame) got between new first.after after e first.there there in
    λ body for_lane. subst (λ (n : ℕ). WasDecidedIn after.seen k.number n body got) first.went.count
    (subst (λ (c : ℕ). WasDecidedIn after.seen c (planned_by first.after) body got)
    (number_same k first.after first.went.items first.went.grew) (last body for_lane))
