use Rattle.std.proofs.Common.{◌⊎◌, ap, inl, inr, refl, sym, subst}
use Rattle.ipb_base.specs.Faults.{Rose}
use Rattle.hub_lane.specs.Calls.{IsSameRecord, TakesAs}
use Rattle.hub_lane.specs.Lanes.{LaneState}
use Rattle.hub_lane.specs.Step.{PumpsOnce, StepsInVain}
use Rattle.hub_lane.proofs.Links.{on_any_err}
use Rattle.hub_lane.proofs.Steps.{oldest_still, one_pump, pump_counts, pump_opening, pumped_in_vain, same_record}
use Rattle.hub_lane.proofs.lane.Lane.step.Goals as goal

pub returns-in-Ready-clause-stepped : goal.returns-in-Ready-clause-stepped
returns-in-Ready-clause-stepped g c = record {
  seq = c.in-Some.seq;
  oldest = c.in-Some.ensures.some;
  pumped = c.args.self.now;
  same = same_record c.args.self.now c.args.self.now refl;
  takes = subst (λ t. TakesAs c.args.self.now c.args.client c.in-Some.seq c.take.new.self t) c.in-Ready.is
      c.in_ok-outcome.ensures.taken;
}

pub returns-in-Ready-2-clause-stepped : goal.returns-in-Ready-2-clause-stepped
returns-in-Ready-2-clause-stepped g c =
    let first = subst (λ t. TakesAs c.args.self.now c.args.client c.in-Some.seq c.take.new.self t) c.in-NotYet.is
    c.in_ok-outcome.ensures.taken in record {
      seq = c.in-Some.seq;
      oldest = c.in-Some.ensures.some;
      pumped = c.pump.new.self;
      same = subst (λ (old : LaneState g.row.L.Denot). IsSameRecord old c.pump.new.self) first.same
          c.in_ok-pump.ensures.same;
      takes = subst (λ t. TakesAs c.pump.new.self c.args.client c.in-Some.seq c.take-2.new.self t) c.in-Ready-2.is
          c.in_ok-outcome-2.ensures.taken;
    }

pub returns-in-NotYet-2-clause-received : goal.returns-in-NotYet-2-clause-received
returns-in-NotYet-2-clause-received g c =
    let link = g.L.Link in
    let first = subst (λ t. TakesAs c.args.self.now c.args.client c.in-Some.seq c.take.new.self t) c.in-NotYet.is
    c.in_ok-outcome.ensures.taken in
    let last = subst (λ t. TakesAs c.pump.new.self c.args.client c.in-Some.seq c.take-2.new.self t) c.in-NotYet-2.is
    c.in_ok-outcome-2.ensures.taken in
    let pumped = c.in_ok-pump.ensures in
    let rose = pumped_in_vain c.take.new.self c.pump.new.self _ _ _ c.in_ok-pump.field-0 last.number
    (link.quiets c.take.new.self.link) _ (link.gots c.take.new.self.link) _ pumped.pumped c.is_sound.ensures.agrees
    last.none_yet pumped.counted.quiets pumped.counted.gots in
    subst (λ (old : LaneState g.row.L.Denot). Rose (link.quiets old.link) (link.quiets c.take-2.new.self.link)
    ⊎ Rose (link.gots old.link) (link.gots c.take-2.new.self.link)) first.same
    (subst (λ (new : LaneState g.row.L.Denot). Rose (link.quiets c.take.new.self.link) (link.quiets new.link)
    ⊎ Rose (link.gots c.take.new.self.link) (link.gots new.link)) (sym last.same) rose)

pub returns-in-Ready-clause-once : goal.returns-in-Ready-clause-once
returns-in-Ready-clause-once g c = inl (record {
  seq = c.in-Some.seq;
  oldest = c.in-Some.ensures.some;
  takes = subst (λ t. TakesAs c.args.self.now c.args.client c.in-Some.seq c.take.new.self t) c.in-Ready.is
      c.in_ok-outcome.ensures.taken;
})

pub returns-in-Ready-2-clause-once : goal.returns-in-Ready-2-clause-once
returns-in-Ready-2-clause-once g c =
    let link = g.L.Link in
    let first = subst (λ t. TakesAs c.args.self.now c.args.client c.in-Some.seq c.take.new.self t) c.in-NotYet.is
    c.in_ok-outcome.ensures.taken in
    let pumped = c.in_ok-pump.ensures in
    inr (record {
      pumped = c.pump.new.self;
      once = one_pump link c.args.self.now c.take.new.self c.pump.new.self
          c.in_ok-pump.field-0 c.args.client c.in-Some.seq c.in-Some.ensures.some first pumped.pumped pumped.link;
      looks = record {
        seq = c.in-Some.seq;
        oldest = oldest_still c.args.self.now c.take.new.self c.pump.new.self c.args.client c.in-Some.seq
            c.in-Some.ensures.some first pumped.same;
        takes = subst (λ t. TakesAs c.pump.new.self c.args.client c.in-Some.seq c.take-2.new.self t) c.in-Ready-2.is
            c.in_ok-outcome-2.ensures.taken;
      };
    })

pub returns-in-NotYet-2-clause-once : goal.returns-in-NotYet-2-clause-once
returns-in-NotYet-2-clause-once g c =
    let link = g.L.Link in
    let first = subst (λ t. TakesAs c.args.self.now c.args.client c.in-Some.seq c.take.new.self t) c.in-NotYet.is
    c.in_ok-outcome.ensures.taken in
    let last = subst (λ t. TakesAs c.pump.new.self c.args.client c.in-Some.seq c.take-2.new.self t) c.in-NotYet-2.is
    c.in_ok-outcome-2.ensures.taken in
    let pumped = c.in_ok-pump.ensures in
    subst (λ (new : LaneState g.row.L.Denot). PumpsOnce link c.args.self.now
    c.args.client new) (sym last.same)
    (one_pump link c.args.self.now c.take.new.self c.pump.new.self
    c.in_ok-pump.field-0 c.args.client c.in-Some.seq c.in-Some.ensures.some first pumped.pumped pumped.link)

pub returns-in-NotYet-2-clause-stepped : goal.returns-in-NotYet-2-clause-stepped
returns-in-NotYet-2-clause-stepped g c =
    let first = subst (λ t. TakesAs c.args.self.now c.args.client c.in-Some.seq c.take.new.self t) c.in-NotYet.is
    c.in_ok-outcome.ensures.taken in
    let last = subst (λ t. TakesAs c.pump.new.self c.args.client c.in-Some.seq c.take-2.new.self t) c.in-NotYet-2.is
    c.in_ok-outcome-2.ensures.taken in
    subst (λ (new : LaneState g.row.L.Denot). StepsInVain c.args.self.now c.args.client new) (sym last.same) (record {
      seq = c.in-Some.seq;
      oldest = c.in-Some.ensures.some;
      same = subst (λ (old : LaneState g.row.L.Denot). IsSameRecord old c.pump.new.self) first.same c.pump.ensures.same;
      number = last.number;
      claim = last.untaken.claim;
      ask = last.untaken.ask;
      none_yet = last.none_yet;
    })

pub returns-in-NotYet-2-clause-same : goal.returns-in-NotYet-2-clause-same
returns-in-NotYet-2-clause-same g c = tt

pub returns-in-NotYet-2-clause-counts : goal.returns-in-NotYet-2-clause-counts
returns-in-NotYet-2-clause-counts g c =
    let first = subst (λ t. TakesAs c.args.self.now c.args.client c.in-Some.seq c.take.new.self t) c.in-NotYet.is
    c.in_ok-outcome.ensures.taken in
    let last = subst (λ t. TakesAs c.pump.new.self c.args.client c.in-Some.seq c.take-2.new.self t) c.in-NotYet-2.is
    c.in_ok-outcome-2.ensures.taken in
    pump_counts g.L.Link first.same (ap (λ (lane : LaneState g.row.L.Denot). lane.link) last.same)
    c.pump.ensures.counts

pub returns-in-NotYet-2-clause-opening : goal.returns-in-NotYet-2-clause-opening
returns-in-NotYet-2-clause-opening g c =
    let first = subst (λ t. TakesAs c.args.self.now c.args.client c.in-Some.seq c.take.new.self t) c.in-NotYet.is
    c.in_ok-outcome.ensures.taken in
    let last = subst (λ t. TakesAs c.pump.new.self c.args.client c.in-Some.seq c.take-2.new.self t) c.in-NotYet-2.is
    c.in_ok-outcome-2.ensures.taken in
    pump_opening g.L.Link first.same (ap (λ (lane : LaneState g.row.L.Denot). lane.link) last.same)
    c.pump.ensures.opening

pub returns-in-Ready-2-clause-counts : goal.returns-in-Ready-2-clause-counts
returns-in-Ready-2-clause-counts g c =
    let first = subst (λ t. TakesAs c.args.self.now c.args.client c.in-Some.seq c.take.new.self t) c.in-NotYet.is
    c.in_ok-outcome.ensures.taken in
    let last = subst (λ t. TakesAs c.pump.new.self c.args.client c.in-Some.seq c.take-2.new.self t) c.in-Ready-2.is
    c.in_ok-outcome-2.ensures.taken in
    pump_counts g.L.Link first.same (ap (λ (lane : LaneState g.row.L.Denot). lane.link) last.entry)
    c.pump.ensures.counts

pub returns-in-Ready-2-clause-opening : goal.returns-in-Ready-2-clause-opening
returns-in-Ready-2-clause-opening g c =
    let first = subst (λ t. TakesAs c.args.self.now c.args.client c.in-Some.seq c.take.new.self t) c.in-NotYet.is
    c.in_ok-outcome.ensures.taken in
    let last = subst (λ t. TakesAs c.pump.new.self c.args.client c.in-Some.seq c.take-2.new.self t) c.in-Ready-2.is
    c.in_ok-outcome-2.ensures.taken in
    pump_opening g.L.Link first.same (ap (λ (lane : LaneState g.row.L.Denot). lane.link) last.entry)
    c.pump.ensures.opening

pub returns-in_err-outcome-2-clause-counts : goal.returns-in_err-outcome-2-clause-counts
returns-in_err-outcome-2-clause-counts g c =
    let first = subst (λ t. TakesAs c.args.self.now c.args.client c.in-Some.seq c.take.new.self t) c.in-NotYet.is
    c.in_ok-outcome.ensures.taken in
    pump_counts g.L.Link first.same
    (ap (λ (lane : LaneState g.row.L.Denot). lane.link) c.in_err-outcome-2.ensures.unchanged) c.pump.ensures.counts

pub returns-in_err-outcome-2-clause-opening : goal.returns-in_err-outcome-2-clause-opening
returns-in_err-outcome-2-clause-opening g c =
    let first = subst (λ t. TakesAs c.args.self.now c.args.client c.in-Some.seq c.take.new.self t) c.in-NotYet.is
    c.in_ok-outcome.ensures.taken in
    pump_opening g.L.Link first.same
    (ap (λ (lane : LaneState g.row.L.Denot). lane.link) c.in_err-outcome-2.ensures.unchanged) c.pump.ensures.opening

pub returns-in_err-pump-clause-counts : goal.returns-in_err-pump-clause-counts
returns-in_err-pump-clause-counts g c =
    let first = subst (λ t. TakesAs c.args.self.now c.args.client c.in-Some.seq c.take.new.self t) c.in-NotYet.is
    c.in_ok-outcome.ensures.taken in
    pump_counts g.L.Link first.same refl c.pump.ensures.counts

pub returns-in_err-pump-clause-opening : goal.returns-in_err-pump-clause-opening
returns-in_err-pump-clause-opening g c =
    let first = subst (λ t. TakesAs c.args.self.now c.args.client c.in-Some.seq c.take.new.self t) c.in-NotYet.is
    c.in_ok-outcome.ensures.taken in
    pump_opening g.L.Link first.same refl c.pump.ensures.opening

pub returns-in_err-pump-clause-same : goal.returns-in_err-pump-clause-same
returns-in_err-pump-clause-same g c =
    let first = subst (λ t. TakesAs c.args.self.now c.args.client c.in-Some.seq c.take.new.self t) c.in-NotYet.is
    c.in_ok-outcome.ensures.taken in
    on_any_err _ (subst (λ (old : LaneState g.row.L.Denot). IsSameRecord old c.pump.new.self) first.same
    c.pump.ensures.same)

pub returns-in_err-outcome-2-clause-same : goal.returns-in_err-outcome-2-clause-same
returns-in_err-outcome-2-clause-same g c =
    let first = subst (λ t. TakesAs c.args.self.now c.args.client c.in-Some.seq c.take.new.self t) c.in-NotYet.is
    c.in_ok-outcome.ensures.taken in
    on_any_err _ (subst (λ (new : LaneState g.row.L.Denot). IsSameRecord c.args.self.now new)
    (sym c.in_err-outcome-2.ensures.unchanged)
    (subst (λ (old : LaneState g.row.L.Denot). IsSameRecord old c.pump.new.self) first.same c.pump.ensures.same))
