-- What the run of a live board's machine tells of its link and of what is shown.
use Rattle.std.proofs.Common.{◌≡◌, ◌↔◌, ℕ, zero, suc, ◌+◌, Bool, true, false, List, [], ◌∷◌, ◌++◌, map}
use Rattle.std.proofs.Common.{append-nil, if◌then◌else◌, ◌≤◌, Option, Some, refl, sym, ap, ◌∙◌, subst, arith, inl, inr}
use Rattle.std.specs.List.{AllByRecursion, slice_get}
use Rattle.std.proofs.lemmas.Option.{same_Some}
use Rattle.ipb_base.specs.Lists.{IsPrefix}
use Rattle.ipb_base.proofs.AllLemmas.{AllByRecursion-append, front_of_all}
use Rattle.packet_codec.specs.Packet.{packet_bytes}
use Rattle.packet_codec.specs.Reading as reading
use Rattle.status_packet.specs.Packets.{status_request}
use Rattle.world_model.specs.declared.datagram.Direction.TheVariants.{ToBoard}
use Rattle.world_model.specs.declared.offered.Fate.{Fate}
use Rattle.world_model.specs.declared.offered.Offered.{Offered}
use Rattle.world_model.specs.Facts.{bodies_of}
use Rattle.world_model.specs.Hub.{Hub}
use Rattle.world_model.specs.Links.{is_first_send}
use Rattle.world_model.specs.Messages.{to_board}
use Rattle.world_model.specs.Places.{at_place}
use Rattle.world_model.proofs.Lists.{get_map}
use Rattle.reliable_engine.specs.Events.{IsAmong}
use Rattle.reliable_engine.specs.MachineRuns.{RunEvent, offers_in}
use Rattle.reliable_engine.specs.ToldFates.{StandsIn}
use Rattle.reliable_engine.specs.Traffic.{Got, IfSent, Passed, Quiet, Sent, first_sends_in, packets_from}
use Rattle.lane_record.specs.declared.outcome.Outcome.{Outcome}
use Rattle.lane_record.specs.Offers as lane
use Rattle.hub_lane.specs.Lanes.{BoardStatus}
use Rattle.hub_lane.specs.Run.{AreVainRounds, HearsNone, HearsStatus, IsGreetingOf, IsVainRound, round_with}
use Rattle.hub_lane.specs.Fates.{AreFatesAt}
use Rattle.board_history.specs.Machine.{AskedBody, PassedAll, WereOffered, offers_of, packet_of, packets_of}

-- ---- first sends

pub packets_same : (first place : ℕ) (offers : List Offered)
    → packets_from first place offers ≡ packets_of first place (bodies_of offers)
packets_same first place [] = refl
packets_same first place (offered ∷ later) =
    ap (λ (bytes : List (List ℕ)). packet_of first place offered.body ∷ bytes) (packets_same first (place + 1) later)

-- a body that was sent stands at its place
pub record StandsAt (sent : List Offered) (place : ℕ) (body : List ℕ) : Type 0 where
  pub offered : Offered
  pub there : at_place sent place ≡ Some offered
  pub body' : offered.body ≡ body

stands_in : (sent : List Offered) (k : ℕ) (body : List ℕ) → slice_get (bodies_of sent) k ≡ Some body
    → (offered : Offered) × (slice_get sent k ≡ Some offered) × (offered.body ≡ body)
stands_in [] k body at = absurd cc
stands_in (offered ∷ later) zero body at = (offered, refl, same_Some offered.body body at)
stands_in (offered ∷ later) (suc k) body at = stands_in later k body at

pub stands_at : (sent : List Offered) (place : ℕ) (body : List ℕ) → at_place (bodies_of sent) place ≡ Some body
    → StandsAt sent place body
stands_at sent zero body at = absurd cc
stands_at sent (suc k) body at =
    let found = stands_in sent k body at in
    record { offered = found.0; there = found.1; body' = found.2 }

-- ---- what was sent in a greeting

module _ (P : List ℕ → Type 0) (asks : P (packet_bytes status_request)) where
  gots : (others : List (List ℕ)) → AllByRecursion (IfSent P) (map Got others)
  gots [] = tt
  gots (bytes ∷ later) = (tt, gots later)

  in_none : (heard : List Passed) → HearsNone heard → AllByRecursion (IfSent P) heard
  in_none heard is = elim (is.ended) [
    | inl quiet ↦ subst (AllByRecursion (IfSent P)) (sym quiet.0)
        (AllByRecursion-append (IfSent P) (map Got is.others) (Quiet ∷ []) (gots is.others) (tt, tt))
    | inr full ↦ subst (AllByRecursion (IfSent P)) (sym full.0) (gots is.others)
  ]

  in_told : (status : BoardStatus) (heard : List Passed) → HearsStatus status heard
      → AllByRecursion (IfSent P) heard
  in_told status heard is = subst (AllByRecursion (IfSent P)) (sym is.passed_is)
      (AllByRecursion-append (IfSent P) (map Got is.others) (Got is.datagram ∷ []) (gots is.others) (tt, tt))

  in_rounds : (rounds : ℕ) (passed : List Passed) → AreVainRounds rounds passed → AllByRecursion (IfSent P) passed
  in_rounds zero passed are = subst (AllByRecursion (IfSent P)) (sym are) tt
  in_rounds (suc rounds) passed are =
      let last : IsVainRound are.1 = are.4 in
      subst (AllByRecursion (IfSent P)) (sym are.2)
      (AllByRecursion-append (IfSent P) are.0 are.1 (in_rounds rounds are.0 are.3)
      (subst (AllByRecursion (IfSent P)) (sym last.passed_is) (asks, in_none last.heard last.vain)))

  in_greeting : (rounds : ℕ) (status : BoardStatus) (greeting : List Passed) → IsGreetingOf rounds status greeting
      → AllByRecursion (IfSent P) greeting
  in_greeting rounds status greeting is = subst (AllByRecursion (IfSent P)) (sym is.passed_is)
      (AllByRecursion-append (IfSent P) is.before (round_with is.heard) (in_rounds is.vain is.before is.vain_rounds)
      (asks, in_told status is.heard is.told))

  in_passed : (failed : Bool) (whole passed : List Passed) → PassedAll failed whole passed
      → AllByRecursion (IfSent P) whole → AllByRecursion (IfSent P) passed
  in_passed false whole passed same all = subst (AllByRecursion (IfSent P)) (sym same) all
  in_passed true whole passed (inl same) all = subst (AllByRecursion (IfSent P)) (sym same) all
  in_passed true whole passed (inr refused) all =
      front_of_all (IfSent P) passed (Sent refused.0 ∷ []) (subst (AllByRecursion (IfSent P)) refused.1 all)

  pub over_link : (failed : Bool) (rounds : ℕ) (status : BoardStatus) (greeting traffic passed : List Passed)
      → IsGreetingOf rounds status greeting → AllByRecursion (IfSent P) traffic
      → PassedAll failed (greeting ++ traffic) passed → AllByRecursion (IfSent P) passed
  over_link failed rounds status greeting traffic passed greeted all is =
      in_passed failed (greeting ++ traffic) passed is
      (AllByRecursion-append (IfSent P) greeting traffic (in_greeting rounds status greeting greeted) all)

-- ---- what was sent was asked

stands_longer : {T : Type 0} (xs ys zs : List T) → StandsIn xs ys → StandsIn xs (ys ++ zs)
stands_longer [] ys zs stands = tt
stands_longer (x ∷ xs) [] zs stands = absurd stands
stands_longer (x ∷ xs) (y ∷ ys) zs (inl here) = inl (here.0, stands_longer xs ys zs here.1)
stands_longer (x ∷ xs) (y ∷ ys) zs (inr later) = inr (stands_longer (x ∷ xs) ys zs later)

pub sent_was_asked : (failed : Bool) (sent : List Offered) (asked : List AskedBody) (events : List RunEvent)
    → WereOffered failed asked events → StandsIn sent (offers_in events) → StandsIn sent (offers_of 0 asked)
sent_was_asked false sent asked events same stands = subst (StandsIn sent) same stands
sent_was_asked true sent asked events front stands =
    subst (StandsIn sent) (sym front.1) (stands_longer sent (offers_in events) front.0 stands)

-- ---- what is shown of each body

abbrev pub shown_outcomes : List AskedBody → List (Option Outcome)
shown_outcomes asked = map (λ (one : AskedBody). Some one.outcome) asked

-- where a fate is at the end of a run exactly if it was brought, the body is shown it exactly if it was
pub shown_exactly : (Brought : Type 0) (end : Hub) (asked : List AskedBody) (number : ℕ) (one : AskedBody) (fate : Fate)
    → AreFatesAt end (shown_outcomes asked) → slice_get asked number ≡ Some one
    → (one.outcome ≡ lane.outcome_of fate → IsAmong (number, fate) end.fates)
    → IsAmong (number, fate) end.fates ↔ Brought → (one.outcome ≡ lane.outcome_of fate) ↔ Brought
shown_exactly Brought end asked number one fate are at among exactly =
    let shown : slice_get (shown_outcomes asked) number ≡ Some (Some one.outcome) =
    get_map (λ (a : AskedBody). Some a.outcome) asked number one at in (
      λ same. exactly.0 (among same),
      λ brought.
          let became = are.each_fate number fate (exactly.1 brought) in
          same_Some one.outcome (lane.outcome_of fate)
          (same_Some (Some one.outcome) (Some (lane.outcome_of fate)) (sym shown ∙ became)),
    )

pub shown_at : (end : Hub) (asked : List AskedBody) (number : ℕ) (one : AskedBody) (outcome : Outcome)
    → slice_get asked number ≡ Some one → one.outcome ≡ outcome
    → slice_get (shown_outcomes asked) number ≡ Some (Some outcome)
shown_at end asked number one outcome at same =
    get_map (λ (a : AskedBody). Some a.outcome) asked number one at ∙ ap (λ (o : Outcome). Some (Some o)) same

-- ---- no first send stands in a greeting

abbrev pub IsNoFirst : ℕ → List ℕ → Type 0
IsNoFirst first bytes = is_first_send first 0 ToBoard bytes ≡ false

request_is_none : (first : ℕ) → IsNoFirst first (packet_bytes status_request)
unfolding to_board reading.packet_of reading.start_of
request_is_none first = refl

past_none : (first : ℕ) (none more : List Passed) → AllByRecursion (IfSent (IsNoFirst first)) none
    → first_sends_in first 0 (none ++ more) ≡ first_sends_in first 0 more
past_none first [] more all = refl
past_none first (Sent bytes ∷ none) more all = rw all.0 (past_none first none more all.1)
past_none first (Got bytes ∷ none) more all = past_none first none more all.1
past_none first (Quiet ∷ none) more all = past_none first none more all.1

-- a link that never failed carried what was to pass
passed_whole : (failed : Bool) (faults : ℕ) (whole passed : List Passed) → (failed ≡ true → 1 ≤ faults) → faults ≡ 0
    → PassedAll failed whole passed → passed ≡ whole
passed_whole false faults whole passed only none is = is
passed_whole true faults whole passed only none is = absurd (let some = only refl in omega (arith, some, none))

pub sent_over_link : (failed : Bool) (faults first rounds : ℕ) (status : BoardStatus)
    (greeting traffic passed : List Passed) → (failed ≡ true → 1 ≤ faults) → faults ≡ 0
    → IsGreetingOf rounds status greeting → PassedAll failed (greeting ++ traffic) passed
    → first_sends_in first 0 passed ≡ first_sends_in first 0 traffic
sent_over_link failed faults first rounds status greeting traffic passed only none greeted is =
    ap (first_sends_in first 0) (passed_whole failed faults (greeting ++ traffic) passed only none is)
    ∙ past_none first greeting traffic
    (in_greeting (IsNoFirst first) (request_is_none first) rounds status greeting greeted)

-- the first sends of a front are a front
first_front : (first count : ℕ) (front more : List Passed)
    → IsPrefix (first_sends_in first count front) (first_sends_in first count (front ++ more))
first_front first count [] more = (first_sends_in first count more, refl)
first_front first count (Sent bytes ∷ front) more = elim (is_first_send first count ToBoard bytes) as
    (λ b. IsPrefix
    (if b then bytes ∷ first_sends_in first (count + 1) front else first_sends_in first count front)
    (if b
    then bytes ∷ first_sends_in first (count + 1) (front ++ more)
    else first_sends_in first count (front ++ more))) [
      | true ↦ let later = first_front first (count + 1) front more in
          (later.0, ap (λ (sends : List (List ℕ)). bytes ∷ sends) later.1)
      | false ↦ first_front first count front more
    ]
first_front first count (Got bytes ∷ front) more = first_front first count front more
first_front first count (Quiet ∷ front) more = first_front first count front more

passed_front : (failed : Bool) (first : ℕ) (whole passed : List Passed) → PassedAll failed whole passed
    → IsPrefix (first_sends_in first 0 passed) (first_sends_in first 0 whole)
passed_front false first whole passed same = ([], ap (first_sends_in first 0) (sym same) ∙ sym (append-nil _))
passed_front true first whole passed (inl same) = ([], ap (first_sends_in first 0) (sym same) ∙ sym (append-nil _))
passed_front true first whole passed (inr refused) =
    subst (λ (all : List Passed). IsPrefix (first_sends_in first 0 passed) (first_sends_in first 0 all)) (sym refused.1)
    (first_front first 0 passed (Sent refused.0 ∷ []))

pub front_over_link : (failed : Bool) (first rounds : ℕ) (status : BoardStatus) (greeting traffic passed : List Passed)
    → IsGreetingOf rounds status greeting → PassedAll failed (greeting ++ traffic) passed
    → IsPrefix (first_sends_in first 0 passed) (first_sends_in first 0 traffic)
front_over_link failed first rounds status greeting traffic passed greeted is =
    subst (IsPrefix (first_sends_in first 0 passed))
    (past_none first greeting traffic
    (in_greeting (IsNoFirst first) (request_is_none first) rounds status greeting greeted))
    (passed_front failed first (greeting ++ traffic) passed is)
