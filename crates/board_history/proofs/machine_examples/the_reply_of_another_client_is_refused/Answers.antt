use Rattle.std.proofs.Common.{◌≡◌, ℕ, false, zero, suc, List, [], ◌∷◌, Option, Some, refl, sym, ap, subst, arith, get_or}
use Rattle.std.proofs.Common.{inl, inr}
use Rattle.std.specs.Prelude.{sum}
use Rattle.std.specs.List.{slice_get}
use Rattle.std.proofs.lemmas.Option.{same_Some}
use Rattle.packet_codec.specs.Reading as reading
use Rattle.world_model.specs.declared.offered.Fate.{Fate}
use Rattle.world_model.specs.declared.offered.Fate.TheVariants as fate
use Rattle.world_model.specs.Hub.{Hub}
use Rattle.world_model.specs.Messages.{StatusReply, to_board, to_hub}
use Rattle.reliable_engine.specs.Events.{IsAmong}
use Rattle.reliable_engine.specs.MachineRuns.{Heard, IsFreshRun, Offer, RunEvent, Send, run_events}
use Rattle.reliable_engine.specs.Traffic.{Got, first_sends_in}
use Rattle.lane_record.specs.declared.outcome.Outcome.{Outcome}
use Rattle.lane_record.specs.declared.outcome.Outcome.TheVariants.{Replied}
use Rattle.lane_record.specs.Offers as lane
use Rattle.hub_lane.specs.Lanes.{BoardStatus}
use Rattle.hub_lane.specs.Run.{IsGreetingOf}
use Rattle.hub_lane.specs.Fates.{AreFatesAt, IsFateAt}
use Rattle.board_history.specs.LaneExamples.{status_datagram}
use Rattle.board_history.specs.Machine.{AskedBody, IsMachineBoard, hub_greeted, ordered_bodies, packet_of, packets_of}
use Rattle.board_history.specs.MachineExamples.{both_replied, exchanged_replies, greeting_passed, read_of}
use Rattle.board_history.specs.MachineExamples.{reads_passed, reply_with, usual_limits}
use Rattle.board_history.proofs.machine_examples.the_reply_of_another_client_is_refused.Goals as goal

-- ---- each is shown its own

abbrev status : BoardStatus
status = record { mtu = 1500; buffers = 4; next = 1 }

abbrev asked : List AskedBody
asked = record { client = 1; body = read_of 1; outcome = Replied 1 (reply_with 7) }
    ∷ record { client = 2; body = read_of 2; outcome = Replied 2 (reply_with 8) } ∷ []

abbrev events : List RunEvent
events = Offer 0 (read_of 1) ∷ Offer 1 (read_of 2) ∷ Send ∷ Send ∷ Heard (packet_of 1 1 (reply_with 7))
    ∷ Heard (packet_of 1 2 (reply_with 8)) ∷ []

abbrev fates_had : List (ℕ × Fate)
fates_had = (0, fate.Replied 1 (reply_with 7)) ∷ (1, fate.Replied 2 (reply_with 8)) ∷ []

abbrev outcomes : List (Option Outcome)
outcomes = Some (Replied 1 (reply_with 7)) ∷ Some (Replied 2 (reply_with 8)) ∷ []

greeted : IsGreetingOf 8 status greeting_passed
unfolding to_hub reading.packet_of reading.start_of
greeted = record {
  vain = 0;
  fewer = omega arith;
  before = [];
  vain_rounds = refl;
  heard = Got status_datagram ∷ [];
  told = record {
    others = [];
    none_told = tt;
    few = omega arith;
    datagram = status_datagram;
    told = refl;
    passed_is = refl;
  };
  passed_is = refl;
}

fresh : IsFreshRun 1 4 events
fresh = record {
  identifier = record { from_one = omega arith; up_to_end = omega arith };
  some_window = omega arith;
  window_in_range = omega arith;
  sendable = (
    record { words = (omega arith, (omega arith, tt)); short = omega arith },
    (record { words = (omega arith, (omega arith, tt)); short = omega arith }, tt),
  );
}

each_shown : (tag : ℕ) (one : Fate) → IsAmong (tag, one) fates_had
    → slice_get outcomes tag ≡ Some (Some (lane.outcome_of one))
each_shown tag one (inl same) = subst
    (λ (f : ℕ × Fate). slice_get outcomes f.0 ≡ Some (Some (lane.outcome_of f.1))) (sym same) refl
each_shown tag one (inr (inl same)) = subst
    (λ (f : ℕ × Fate). slice_get outcomes f.0 ≡ Some (Some (lane.outcome_of f.1))) (sym same) refl
each_shown tag one (inr (inr none)) = absurd none

-- a hub with these fates shows these outcomes
each_had : (end : Hub) → end.fates ≡ fates_had → (tag : ℕ) (outcome : Outcome)
    → slice_get outcomes tag ≡ Some (Some outcome) → IsFateAt end tag outcome
each_had end has zero outcome shown =
    let same = same_Some (Some (Replied 1 (reply_with 7))) (Some outcome) shown in
    subst (IsFateAt end 0) (same_Some (Replied 1 (reply_with 7)) outcome same)
    (subst (IsAmong (0, fate.Replied 1 (reply_with 7))) (sym has) (inl refl))
each_had end has (suc zero) outcome shown =
    let same = same_Some (Some (Replied 2 (reply_with 8))) (Some outcome) shown in
    subst (IsFateAt end 1) (same_Some (Replied 2 (reply_with 8)) outcome same)
    (subst (IsAmong (1, fate.Replied 2 (reply_with 8))) (sym has) (inr (inl refl)))
each_had end has (suc (suc k)) outcome shown = absurd cc

shown_so : (end : Hub) → end.fates ≡ fates_had → AreFatesAt end outcomes
shown_so end has = record {
  each_fate = λ tag one among. each_shown tag one (subst (IsAmong (tag, one)) has among);
  each_outcome = each_had end has;
}

abbrev started : Hub
started = hub_greeted usual_limits status

pub returns-clause-own : goal.returns-clause-own
unfolding to_hub to_board reading.packet_of reading.start_of
returns-clause-own c = record {
  status = status;
  told = refl;
  packets = refl;
  greeting = greeting_passed;
  greeted = greeted;
  asked = asked;
  of_clients = record {
    each = (
      record { bodies' = refl; outcomes' = refl },
      (record { bodies' = refl; outcomes' = refl }, tt),
    );
    nobody_else = ((omega arith, omega arith), ((omega arith, omega arith), tt));
  };
  events = events;
  traffic = reads_passed;
  end = run_events started events;
  machine = record {
    may_come = (tt, (tt, ((_, refl), ((_, refl), (refl, (refl, tt))))));
    traffic_is = refl;
    end_is = refl;
    fates_are = refl;
  };
  fresh = fresh;
  failed = false;
  only_failed = λ failed. absurd cc;
  offered = refl;
  passed = refl;
  sent = refl;
  fates = shown_so (run_events started events) refl;
  late = (tt, (tt, tt));
}

-- ---- each is shown the other's

-- the sum of the first packet's bytes
abbrev first_sum : List (List ℕ) → ℕ
first_sum packets = sum (get_or packets 0 [])

next_told : (is : IsMachineBoard usual_limits 368 exchanged_replies both_replied) → is.status.next ≡ 1
unfolding to_hub reading.packet_of reading.start_of
next_told is =
    let same : StatusReply 1500 4 1 ≡ StatusReply is.status.mtu is.status.buffers is.status.next =
    same_Some (StatusReply 1500 4 1) (StatusReply is.status.mtu is.status.buffers is.status.next) is.told in cc

-- it would have had to send the second client's read first
other_first : first_sends_in 1 0 both_replied.traffic ≡ packets_of 1 1 (ordered_bodies exchanged_replies) → ⊥
unfolding to_board reading.packet_of reading.start_of
other_first same = let sums : 322 ≡ 323 = ap first_sum same in absurd (omega (arith, sums))

pub returns-clause-exchanged : goal.returns-clause-exchanged
returns-clause-exchanged c = λ is.
    other_first (subst
    (λ (n : ℕ). first_sends_in n 0 both_replied.traffic ≡ packets_of n 1 (ordered_bodies exchanged_replies))
    (next_told is)
    (c.first_sends_are_the_order_of_a_board.ensures.on_good_link usual_limits 368 exchanged_replies both_replied is refl))
