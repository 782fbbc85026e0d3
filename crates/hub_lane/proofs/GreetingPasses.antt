-- What passes in a greeting, receive by receive and round by round.
use Rattle.std.proofs.Common.{◌≡◌, ◌∙◌, inl, inr, ap, refl, sym, subst, ℕ, suc, ◌+◌, ◌<◌, ◌≤◌, arith}
use Rattle.std.proofs.Common.{List, [], ◌∷◌, ◌++◌, length, map, Option, Some, None, append_assoc, length-append}
use Rattle.std.specs.Prelude.{Result, Ok, Err, IfOk, OnErr}
use Rattle.std.specs.List.{AllByRecursion}
use Rattle.std.proofs.lemmas.List.{append-nil, map-append}
use Rattle.ipb_base.proofs.AllLemmas.{AllByRecursion-append}
use Rattle.packet_codec.specs.Packet.{packet_bytes}
use Rattle.status_packet.specs.Packets.{status_request}
use Rattle.status_packet.specs.declared.status.Status.{Status}
use Rattle.world_model.specs.Messages.{to_hub}
use Rattle.reliable_engine.specs.Traffic.{Got, Passed, Sent}
use Rattle.reliable_engine.specs.Traffic as passes
use Rattle.links.specs.declared.link.LinkFault.{LinkFault}
use Rattle.links.specs.declared.link.Received.{Received}
use Rattle.links.specs.declared.link.Received.TheVariants as received
use Rattle.links.specs.Traffic.{received_after, sent_after}
use Rattle.hub_lane.specs.declared.greeting.Answer.{Answer}
use Rattle.hub_lane.specs.declared.greeting.Answer.TheVariants as answer
use Rattle.hub_lane.specs.Greeting.{IsSaid}
use Rattle.hub_lane.specs.Lanes.{status_of}
use Rattle.hub_lane.specs.Run.{AreVainRounds, IsGreetingCutOff, IsGreetingOf, PassesAnswer, PassesHeard, PassesNoneYet}
use Rattle.hub_lane.specs.Run.{PassesRound, PassesRoundCutOff, TellsNone, round_with}
use Rattle.hub_lane.proofs.Runs.{got_traffic, quiet_traffic}

-- ---- one receive

pub quiet_answer : (r : Received) (bytes : List ℕ) (before : List Passed) {now : List Passed} → r ≡ received.Quiet
    → now ≡ received_after (Ok r) bytes before → PassesAnswer answer.Nothing before now
quiet_answer r bytes before e is = quiet_traffic r bytes before e is

got_told : (told : Answer) (bytes : List ℕ) (before : List Passed) {now : List Passed} → IsSaid (to_hub bytes) told
    → now ≡ before ++ Got bytes ∷ [] → PassesAnswer told before now
got_told (answer.Told status) bytes before said is = (bytes, said, is)
got_told answer.Nothing bytes before said is = absurd said
got_told answer.Other bytes before said is = (bytes, said, is)

pub got_answer : (told : Answer) (r : Received) (bytes : List ℕ) (before : List Passed) {now : List Passed}
    → r ≡ received.Got → IsSaid (to_hub bytes) told → now ≡ received_after (Ok r) bytes before
    → PassesAnswer told before now
got_answer told r bytes before e said is = got_told told bytes before said (got_traffic r bytes before e is)

-- ---- a round

-- so many datagrams came that tell no status
pub record PassesOthers (other : ℕ) (old now : List Passed) : Type 0 where
  pub others : List (List ℕ)
  pub none_told : AllByRecursion TellsNone others
  pub many : length others ≡ other
  pub passed_is : now ≡ old ++ map Got others

pub no_others : (passed : List Passed) → PassesOthers 0 passed passed
no_others passed = record { others = []; none_told = tt; many = refl; passed_is = sym (append-nil passed) }

pub one_other : {other : ℕ} {old now new : List Passed} → PassesOthers other old now
    → PassesAnswer answer.Other now new → PassesOthers (other + 1) old new
one_other {other} {old} {now} {new} so_far came =
    let others = so_far.others in
    let many = so_far.many in
    record {
      others = others ++ came.0 ∷ [];
      none_told = AllByRecursion-append TellsNone others (came.0 ∷ []) so_far.none_told (came.1, tt);
      many = length-append others (came.0 ∷ []) ∙ ap (λ (n : ℕ). n + 1) many;
      passed_is = came.2
          ∙ (ap (λ (xs : List Passed). xs ++ Got came.0 ∷ []) so_far.passed_is
          ∙ (append_assoc old (map Got others) (Got came.0 ∷ [])
          ∙ ap (λ (xs : List Passed). old ++ xs) (sym (map-append Got others (came.0 ∷ [])))));
    }

pub heard_status : {other : ℕ} {old now new : List Passed} {heard : Answer} {status : Status}
    → PassesOthers other old now → other < 64 → heard ≡ answer.Told status → PassesAnswer heard now new
    → PassesHeard (Some status) old new
heard_status {other} {old} {now} {new} {heard} {status} so_far few e passed =
    let came = subst (λ (a : Answer). PassesAnswer a now new) e passed in
    let others = so_far.others in
    let many = so_far.many in
    record {
      heard = map Got others ++ Got came.0 ∷ [];
      ends = record {
        others = others;
        none_told = so_far.none_told;
        few = omega (arith, many, few);
        datagram = came.0;
        told = came.1;
        passed_is = refl;
      };
      passed_is = came.2
          ∙ (ap (λ (xs : List Passed). xs ++ Got came.0 ∷ []) so_far.passed_is
          ∙ append_assoc old (map Got others) (Got came.0 ∷ []));
    }

pub heard_none : {other : ℕ} {old now new : List Passed} {heard : Answer}
    → PassesOthers other old now → other < 64 → heard ≡ answer.Nothing → PassesAnswer heard now new
    → PassesHeard None old new
heard_none {other} {old} {now} {new} {heard} so_far few e passed =
    let came = subst (λ (a : Answer). PassesAnswer a now new) e passed in
    let others = so_far.others in
    let many = so_far.many in
    record {
      heard = map Got others ++ passes.Quiet ∷ [];
      ends = record {
        others = others;
        none_told = so_far.none_told;
        ended = inl (refl, omega (arith, many, few));
      };
      passed_is = came
          ∙ (ap (λ (xs : List Passed). xs ++ passes.Quiet ∷ []) so_far.passed_is
          ∙ append_assoc old (map Got others) (passes.Quiet ∷ []));
    }

pub heard_others : {other : ℕ} {old now : List Passed} → PassesOthers other old now → 64 ≤ other → other ≤ 64
    → PassesHeard None old now
heard_others {other} {old} {now} so_far least most =
    let many = so_far.many in
    record {
      heard = map Got so_far.others;
      ends = record {
        others = so_far.others;
        none_told = so_far.none_told;
        ended = inr (refl, omega (arith, many, least, most));
      };
      passed_is = so_far.passed_is;
    }

asked_found : (found : Option Status) (old mid new : List Passed) → mid ≡ old ++ Sent (packet_bytes status_request) ∷ []
    → PassesHeard found mid new → PassesRound found old new
asked_found found old mid new sent is = record {
  heard = is.heard;
  ends = is.ends;
  passed_is = is.passed_is
      ∙ (ap (λ (xs : List Passed). xs ++ is.heard) sent
      ∙ append_assoc old (Sent (packet_bytes status_request) ∷ []) is.heard);
}

-- the status was asked for, and then this was heard
pub asked_then : {request : List ℕ} (result : Result (Option Status) LinkFault) (old mid new : List Passed)
    → request ≡ packet_bytes status_request → mid ≡ old ++ Sent request ∷ []
    → IfOk result (λ found. PassesHeard found mid new) → IfOk result (λ found. PassesRound found old new)
asked_then (Ok found) old mid new request_is sent is = asked_found found old mid new
    (sent ∙ ap (λ (bytes : List ℕ). old ++ Sent bytes ∷ []) request_is) is
asked_then (Err fault) old mid new request_is sent is = tt

-- ---- all rounds

pub vain_again : (rounds : ℕ) {now new : List Passed} → AreVainRounds rounds now → PassesRound None now new
    → AreVainRounds (rounds + 1) new
vain_again rounds {now} {new} so_far is =
    let more : AreVainRounds (suc rounds) new = (
      now,
      round_with is.heard,
      is.passed_is,
      so_far,
      record { heard = is.heard; passed_is = refl; vain = is.ends },
    ) in
    let same : suc rounds ≡ rounds + 1 = omega arith in
    subst (λ (n : ℕ). AreVainRounds n new) same more

pub greeted_so : {rounds most : ℕ} {found : Option Status} {status : Status} {now new : List Passed}
    → found ≡ Some status → rounds < most → AreVainRounds rounds now → PassesRound found now new
    → IsGreetingOf most (status_of status) new
greeted_so {rounds} {most} {found} {status} {now} {new} e fewer so_far passed =
    let is = subst (λ (f : Option Status). PassesRound f now new) e passed in
    record {
      vain = rounds;
      fewer = fewer;
      before = now;
      vain_rounds = so_far;
      heard = is.heard;
      told = is.ends;
      passed_is = is.passed_is;
    }

-- as many as were to be
pub vain_all : {rounds end most : ℕ} (now : List Passed) → AreVainRounds rounds now → end ≡ most → end ≤ rounds
    → rounds ≤ end → AreVainRounds most now
vain_all {rounds} {end} {most} now so_far ends all few =
    let same : rounds ≡ most = omega (arith, ends, all, few) in
    subst (λ (n : ℕ). AreVainRounds n now) same so_far

-- ---- where the link failed

-- a receive failed where only others came
pub heard_none_yet : {other : ℕ} {old now new : List Passed} → PassesOthers other old now → other < 64 → new ≡ now
    → PassesNoneYet old new
heard_none_yet {other} {old} {now} {new} so_far few same =
    let many = so_far.many in
    record {
      heard = map Got so_far.others;
      none_yet = record {
        others = so_far.others;
        none_told = so_far.none_told;
        few = omega (arith, many, few);
        passed_is = refl;
      };
      passed_is = same ∙ so_far.passed_is;
    }

-- the request failed
pub refused_round : {old new : List Passed} → new ≡ old → PassesRoundCutOff old new
refused_round {old} {new} same = record {
  last = [];
  cut_off = inl refl;
  passed_is = same ∙ sym (append-nil old);
}

-- the status was asked for, and then a receive failed
pub asked_then_cut_off : {request : List ℕ} (result : Result (Option Status) LinkFault) (old mid new : List Passed)
    → request ≡ packet_bytes status_request → mid ≡ old ++ Sent request ∷ []
    → OnErr result (PassesNoneYet mid new) → OnErr result (PassesRoundCutOff old new)
asked_then_cut_off (Ok found) old mid new request_is sent is = tt
asked_then_cut_off (Err fault) old mid new request_is sent is = record {
  last = round_with is.heard;
  cut_off = inr (is.heard, is.none_yet, refl);
  passed_is = is.passed_is
      ∙ (ap (λ (xs : List Passed). xs ++ is.heard)
      (sent ∙ ap (λ (bytes : List ℕ). old ++ Sent bytes ∷ []) request_is)
      ∙ append_assoc old (Sent (packet_bytes status_request) ∷ []) is.heard);
}

-- so a greeting ended
pub greeting_cut_off : {rounds most : ℕ} {now new : List Passed} → rounds < most → AreVainRounds rounds now
    → PassesRoundCutOff now new → IsGreetingCutOff most new
greeting_cut_off {rounds} {most} {now} {new} fewer so_far is = record {
  vain = rounds;
  fewer = fewer;
  before = now;
  vain_rounds = so_far;
  last = is.last;
  cut_off = is.cut_off;
  passed_is = is.passed_is;
}
