-- The board at a position, its link, what it was asked, and what its frames were answered.
use Rattle.std.proofs.Common.{◌≡◌, ◌≢◌, ℕ, zero, suc, ◌+◌, ◌*◌, ◌≤◌, true, List, [], ◌∷◌, ◌++◌, map}
use Rattle.std.proofs.Common.{Option, Some, None, refl, sym, ap, ap₂, ◌∙◌, subst, arith}
use Rattle.std.specs.Prelude.{is_some, option_map}
use Rattle.std.specs.List.{AllByRecursion, flat_map, slice_get}
use Rattle.std.proofs.lemmas.Option.{same_Some, slice_get-map}
use Rattle.board_bus.specs.Cells.{CellMap}
use Rattle.world_model.specs.Board.{Board}
use Rattle.board_specs.specs.declared.spec.BoardSpec.{BoardSpec}
use Rattle.world_model.specs.Settings.{Limits}
use Rattle.lane_record.specs.Submissions.{Submission}
use Rattle.hub_lane.specs.declared.answers.BoardState.{BoardState}
use Rattle.hub_lane.specs.declared.answers.BoardState.TheVariants as stands
use Rattle.script_plans.specs.declared.greeting.Greeting.{Greeting}
use Rattle.script_plans.specs.declared.greeting.Greeting.TheVariants.{Live, Silent, Down}
use Rattle.script_plans.specs.Claims.{Rises}
use Rattle.board_history.specs.GiveUps.{IsExact}
use Rattle.board_history.specs.Order.{RisesFrom}
use Rattle.board_history.specs.Parts.{IsReplied}
use Rattle.ipb_base.specs.Numbers.{payload_of}
use Rattle.board_specs.specs.declared.spec.LinkSpec.{LinkSpec}
use Rattle.board_specs.specs.declared.spec.LinkSpec.TheVariants.{Sim, Udp}
use Rattle.board_history.specs.Runs.{greeting_of}
use Rattle.board_history.specs.Links.{HasFailed, IsBoardOf, IsFaithful, LinkReport, board_there}
use Rattle.board_history.specs.Receives.{quiets_since_status}
use Rattle.board_history.specs.LinkRuns.{IsAsTold}
use Rattle.board_history.proofs.LaneShown.{some_then}
use Rattle.client_history.specs.Boards.{AreServedOver, IsServedOver, ServedBoard, run_of}
use Rattle.client_history.specs.Shown.{GaveUpOnlyAfterRounds, IsNotLostUnlessFailed, IsReplyCarried, IsRightlyReplied}
use Rattle.client_history.specs.Shown.{OfEach, PlacesDiffer, PlacesRise, given_up, places_in}
use Rattle.hub_session.specs.Codes.{link_lost_code, replied_code, timed_out_code, unsent_code}
use Rattle.hub_session.specs.Exchanges.{Exchange}
use Rattle.session_serve.specs.Boards.{states_of}
use Rattle.session_serve.specs.Connections.{Conversation, exchanges_of, submissions_to}
use Rattle.serve_command.specs.Answers.{has_code_at}
use Rattle.serve_command.specs.Frames.{PlacesOfFramesDiffer, PlacesOfFramesRise, FramesGivenUpOnlyAfterRounds}
use Rattle.serve_command.specs.Frames.{IsAnsweredAsCarried, IsAnsweredRightly}
use Rattle.serve_command.specs.Frames.{IsLostOnlyWithLink, NoneWithCode, NoneIsGivenUpOrLost, OfEachWithCode}
use Rattle.serve_command.specs.Frames.{IsPlaced, frames_given_up, place_on, places_on}
use Rattle.serve_command.proofs.Counting.{IsPlacing, unsent_unplaced}
use Rattle.serve_command.proofs.Asked.{AreAsked}
use Rattle.serve_command.proofs.AtIdle.{down_is, never_coded, no_places, none_placed, silent_is}
use Rattle.serve_command.proofs.AtLane.{all_carried, all_lost, all_right, given_up_are, none_coded, placed_by_code}
use Rattle.serve_command.proofs.AtLane.{places_are}
use Rattle.serve_command.proofs.Lanes.{down_at, lane_at, one_place, silent_at}

-- ---- the board at a position

pub record IsBoardAt (settings : Limits) (boards : List ServedBoard) (position : ℕ) (spec : BoardSpec)
    (link : LinkReport) : Type 0 where
  pub served : ServedBoard
  pub there : slice_get boards position ≡ Some served
  pub over : IsServedOver settings spec served link

pub board_at : (settings : Limits) (specs : List BoardSpec) (boards : List ServedBoard) (links : List LinkReport)
    (position : ℕ) (spec : BoardSpec) (link : LinkReport) → AreServedOver settings specs boards links
    → slice_get specs position ≡ Some spec → slice_get links position ≡ Some link
    → IsBoardAt settings boards position spec link
board_at settings [] boards links position spec link over at linked = absurd cc
board_at settings (s ∷ specs) [] links position spec link over at linked = absurd over
board_at settings (s ∷ specs) (b ∷ boards) [] position spec link over at linked = absurd over
board_at settings (s ∷ specs) (b ∷ boards) (l ∷ links) zero spec link over at linked = record {
  served = b;
  there = refl;
  over = subst (λ (x : BoardSpec). IsServedOver settings x b link) (same_Some s spec at)
      (subst (λ (x : LinkReport). IsServedOver settings s b x) (same_Some l link linked) over.0);
}
board_at settings (s ∷ specs) (b ∷ boards) (l ∷ links) (suc i) spec link over at linked =
    let later = board_at settings specs boards links i spec link over.1 at linked in
    record { served = later.served; there = later.there; over = later.over }

abbrev pub AskedOf : List ServedBoard → List Conversation → Type 0
AskedOf boards conversations = map (λ (b : ServedBoard). b.connections) boards
    ≡ map (λ (state : BoardState). map (submissions_to (states_of boards) state) conversations) (states_of boards)

-- what it was asked is what the connections submitted to it
pub submitted : (boards : List ServedBoard) (conversations : List Conversation) → AskedOf boards conversations
    → (position : ℕ) (state : BoardState) (b : ServedBoard) → slice_get boards position ≡ Some b
    → slice_get (states_of boards) position ≡ Some state
    → b.connections ≡ map (submissions_to (states_of boards) state) conversations
submitted boards conversations asked position state b at here =
    let lists = λ (s : BoardState). map (submissions_to (states_of boards) s) conversations in
    same_Some b.connections (lists state)
    (sym (slice_get-map (λ (c : ServedBoard). c.connections) boards position
    ∙ ap (option_map (λ (c : ServedBoard). c.connections)) at)
    ∙ ap (λ ls. slice_get ls position) asked
    ∙ (slice_get-map lists (states_of boards) position ∙ ap (option_map lists) here))

module _ (boards : List ServedBoard) (position : ℕ) where
  abbrev states : List BoardState
  states = states_of boards

  alone : (lane : ℕ) → slice_get states position ≡ Some (stands.Lane lane) → (at : ℕ)
      → slice_get states at ≡ Some (stands.Lane lane) → at ≡ position
  alone lane here at there = one_place 0 (map (λ (b : ServedBoard). b.told) boards) at position lane there here

  -- how it stands
  pub told_at : (b : ServedBoard) (told : Greeting) → slice_get boards position ≡ Some b → b.told ≡ told
      → slice_get (map (λ (c : ServedBoard). c.told) boards) position ≡ Some told
  told_at b told at greeted =
      slice_get-map (λ (c : ServedBoard). c.told) boards position
      ∙ ap (option_map (λ (c : ServedBoard). c.told)) at ∙ ap Some greeted

  pub stands_as : (b : ServedBoard) (told : Greeting) → slice_get boards position ≡ Some b → b.told ≡ told
      → (state : BoardState) × (slice_get states position ≡ Some state)
  stands_as b (Live payload) at greeted =
      let lane = lane_at 0 (map (λ (c : ServedBoard). c.told) boards) position payload
      (told_at b (Live payload) at greeted) in (stands.Lane lane.0, lane.1)
  stands_as b Silent at greeted =
      (stands.Silent, silent_at 0 (map (λ (c : ServedBoard). c.told) boards) position (told_at b Silent at greeted))
  stands_as b Down at greeted =
      (stands.Down, down_at 0 (map (λ (c : ServedBoard). c.told) boards) position (told_at b Down at greeted))

  -- ---- places

  places_of : (state : BoardState) → slice_get states position ≡ Some state → (c : Conversation) → AreAsked states c
      → places_on position c ≡ places_in (submissions_to states state c)
  places_of (stands.Lane lane) here c asked =
      places_are states position lane here (alone lane here) (exchanges_of c) asked
  places_of stands.Silent here c asked =
      no_places stands.Silent unsent_code silent_is states position here (exchanges_of c) asked
  places_of stands.Down here c asked =
      no_places stands.Down link_lost_code down_is states position here (exchanges_of c) asked

  module _ (state : BoardState) (here : slice_get states position ≡ Some state) where
    pub all_rise : (cs : List Conversation) → AllByRecursion (AreAsked states) cs
        → PlacesRise (map (submissions_to states state) cs) → PlacesOfFramesRise position cs
    all_rise [] asked rise = tt
    all_rise (c ∷ cs) asked rise =
        (subst (RisesFrom 1) (sym (places_of state here c asked.0)) rise.0, all_rise cs asked.1 rise.1)

    same_places : (cs : List Conversation) → AllByRecursion (AreAsked states) cs
        → flat_map (places_on position) cs ≡ flat_map places_in (map (submissions_to states state) cs)
    same_places [] asked = refl
    same_places (c ∷ cs) asked =
        ap₂ (λ (ps qs : List ℕ). ps ++ qs) (places_of state here c asked.0) (same_places cs asked.1)

    pub all_differ : (cs : List Conversation) → AllByRecursion (AreAsked states) cs
        → PlacesDiffer (map (submissions_to states state) cs) → PlacesOfFramesDiffer position cs
    all_differ cs asked differ =
        subst (Rises (λ (one other : ℕ). one ≢ other)) (sym (same_places cs asked)) differ

  -- ---- which frames have a place

  placed_at : (code : ℕ) → IsPlacing code → (state : BoardState) → slice_get states position ≡ Some state
      → (c : Conversation) → AreAsked states c
      → AllByRecursion (λ e. has_code_at code position states e ≡ true → IsPlaced position e) (exchanges_of c)
  placed_at code is (stands.Lane lane) here c asked =
      placed_by_code states position lane here (alone lane here) code (λ (p : Option ℕ). is_some p ≡ true) is.near
      is.placed (exchanges_of c) asked
  placed_at code is stands.Silent here c asked =
      never_coded stands.Silent unsent_code silent_is states position here code is.near is.not_unsent
      (IsPlaced position) (exchanges_of c)
  placed_at code is stands.Down here c asked =
      never_coded stands.Down link_lost_code down_is states position here code is.near is.not_lost (IsPlaced position)
      (exchanges_of c)

  pub all_placed : (code : ℕ) → IsPlacing code → (state : BoardState) → slice_get states position ≡ Some state
      → (cs : List Conversation) → AllByRecursion (AreAsked states) cs
      → OfEachWithCode code position states (IsPlaced position) cs
  all_placed code is state here [] asked = tt
  all_placed code is state here (c ∷ cs) asked =
      (placed_at code is state here c asked.0, all_placed code is state here cs asked.1)

  unplaced_at : (state : BoardState) → slice_get states position ≡ Some state → (c : Conversation)
      → AreAsked states c → AllByRecursion
      (λ e. has_code_at unsent_code position states e ≡ true → place_on position e ≡ None) (exchanges_of c)
  unplaced_at (stands.Lane lane) here c asked =
      placed_by_code states position lane here (alone lane here) unsent_code (λ (p : Option ℕ). p ≡ None)
      (omega arith) unsent_unplaced (exchanges_of c) asked
  unplaced_at stands.Silent here c asked =
      none_placed stands.Silent unsent_code silent_is states position here
      (λ e. has_code_at unsent_code position states e ≡ true) (exchanges_of c) asked
  unplaced_at stands.Down here c asked =
      none_placed stands.Down link_lost_code down_is states position here
      (λ e. has_code_at unsent_code position states e ≡ true) (exchanges_of c) asked

  pub all_unplaced : (state : BoardState) → slice_get states position ≡ Some state → (cs : List Conversation)
      → AllByRecursion (AreAsked states) cs
      → OfEachWithCode unsent_code position states (λ e. place_on position e ≡ None) cs
  all_unplaced state here [] asked = tt
  all_unplaced state here (c ∷ cs) asked =
      (unplaced_at state here c asked.0, all_unplaced state here cs asked.1)

  -- ---- code 0

  module _ (opening : CellMap) (done : List (List ℕ)) where
    rightly_at : (state : BoardState) → slice_get states position ≡ Some state → (c : Conversation)
        → AreAsked states c → AllByRecursion (IsRightlyReplied opening done) (submissions_to states state c)
        → AllByRecursion
        (λ e. has_code_at replied_code position states e ≡ true → IsAnsweredRightly opening done states position e)
        (exchanges_of c)
    rightly_at (stands.Lane lane) here c asked right =
        all_right states position lane here (alone lane here) opening done (exchanges_of c) asked right
    rightly_at stands.Silent here c asked right =
        never_coded stands.Silent unsent_code silent_is states position here replied_code (omega arith)
        (λ same. absurd cc) (IsAnsweredRightly opening done states position) (exchanges_of c)
    rightly_at stands.Down here c asked right =
        never_coded stands.Down link_lost_code down_is states position here replied_code (omega arith)
        (λ same. absurd cc) (IsAnsweredRightly opening done states position) (exchanges_of c)

    pub all_rightly : (state : BoardState) → slice_get states position ≡ Some state → (cs : List Conversation)
        → AllByRecursion (AreAsked states) cs
        → OfEach (IsRightlyReplied opening done) (map (submissions_to states state) cs)
        → OfEachWithCode replied_code position states (IsAnsweredRightly opening done states position) cs
    all_rightly state here [] asked right = tt
    all_rightly state here (c ∷ cs) asked right =
        (rightly_at state here c asked.0 right.0, all_rightly state here cs asked.1 right.1)

  module _ (link : LinkReport) where
    carried_at : (state : BoardState) → slice_get states position ≡ Some state → (c : Conversation)
        → AreAsked states c → AllByRecursion (IsReplyCarried link) (submissions_to states state c)
        → AllByRecursion
        (λ e. has_code_at replied_code position states e ≡ true → IsAnsweredAsCarried link states position e)
        (exchanges_of c)
    carried_at (stands.Lane lane) here c asked brought =
        all_carried states position lane here (alone lane here) link (exchanges_of c) asked brought
    carried_at stands.Silent here c asked brought =
        never_coded stands.Silent unsent_code silent_is states position here replied_code (omega arith)
        (λ same. absurd cc) (IsAnsweredAsCarried link states position) (exchanges_of c)
    carried_at stands.Down here c asked brought =
        never_coded stands.Down link_lost_code down_is states position here replied_code (omega arith)
        (λ same. absurd cc) (IsAnsweredAsCarried link states position) (exchanges_of c)

    pub all_as_carried : (state : BoardState) → slice_get states position ≡ Some state → (cs : List Conversation)
        → AllByRecursion (AreAsked states) cs
        → OfEach (IsReplyCarried link) (map (submissions_to states state) cs)
        → OfEachWithCode replied_code position states (IsAnsweredAsCarried link states position) cs
    all_as_carried state here [] asked brought = tt
    all_as_carried state here (c ∷ cs) asked brought =
        (carried_at state here c asked.0 brought.0, all_as_carried state here cs asked.1 brought.1)

  -- ---- codes 1 and 2

  pub all_paid : (cost paid lane : ℕ) → slice_get states position ≡ Some (stands.Lane lane) → (cs : List Conversation)
      → AllByRecursion (AreAsked states) cs
      → AllByRecursion (λ (s : List Submission). cost * given_up s ≤ paid)
      (map (submissions_to states (stands.Lane lane)) cs)
      → AllByRecursion (λ (c : Conversation). cost * frames_given_up position states c ≤ paid) cs
  all_paid cost paid lane here [] asked pays = tt
  all_paid cost paid lane here (c ∷ cs) asked pays = (
    subst (λ (n : ℕ). cost * n ≤ paid)
        (sym (given_up_are states position lane here (alone lane here) (exchanges_of c) asked.0)) pays.0,
    all_paid cost paid lane here cs asked.1 pays.1,
  )

  pub all_waited : (settings : Limits) (link : LinkReport) (lane : ℕ) (cs : List Conversation)
      → slice_get states position ≡ Some (stands.Lane lane) → AllByRecursion (AreAsked states) cs
      → GaveUpOnlyAfterRounds settings link (map (submissions_to states (stands.Lane lane)) cs)
      → FramesGivenUpOnlyAfterRounds settings link position states cs
  all_waited settings link lane cs here asked gave_up = record {
    quiets' = λ exact. all_paid (settings.rounds + 1) link.quiets lane here cs asked (gave_up.quiets' exact);
    since = all_paid (settings.rounds + 1) (quiets_since_status link) lane here cs asked gave_up.since;
    held' = some_then (λ _. IsExact link.held → AllByRecursion
        (λ (s : List Submission). settings.rounds * given_up s ≤ link.held)
        (map (submissions_to states (stands.Lane lane)) cs)) (λ _. IsExact link.held → AllByRecursion
        (λ (c : Conversation). settings.rounds * frames_given_up position states c ≤ link.held) cs) link.telling
        (λ t pays exact. all_paid settings.rounds link.held lane here cs asked (pays exact)) gave_up.held';
  }

  -- ---- code 3

  failed_each : (link : LinkReport) (code : ℕ) (es : List Exchange) → HasFailed link
      → AllByRecursion (λ e. has_code_at code position states e ≡ true → HasFailed link) es
  failed_each link code [] failed = tt
  failed_each link code (e ∷ es) failed = (λ coded. failed, failed_each link code es failed)

  lost_at : (link : LinkReport) (state : BoardState) → slice_get states position ≡ Some state
      → (state ≡ stands.Down → HasFailed link) → (c : Conversation) → AreAsked states c
      → AllByRecursion (IsNotLostUnlessFailed link) (submissions_to states state c)
      → AllByRecursion (λ e. has_code_at link_lost_code position states e ≡ true → HasFailed link) (exchanges_of c)
  lost_at link (stands.Lane lane) here down c asked lost =
      all_lost states position lane here (alone lane here) link (exchanges_of c) asked lost
  lost_at link stands.Silent here down c asked lost =
      never_coded stands.Silent unsent_code silent_is states position here link_lost_code (omega arith)
      (λ same. absurd cc) (λ e. HasFailed link) (exchanges_of c)
  lost_at link stands.Down here down c asked lost = failed_each link link_lost_code (exchanges_of c) (down refl)

  pub all_lost_with : (link : LinkReport) (state : BoardState) → slice_get states position ≡ Some state
      → ((s : BoardState) → slice_get states position ≡ Some s → s ≡ stands.Down → HasFailed link)
      → (cs : List Conversation) → AllByRecursion (AreAsked states) cs
      → OfEach (IsNotLostUnlessFailed link) (map (submissions_to states state) cs)
      → IsLostOnlyWithLink link position states cs
  all_lost_with link state here down [] asked lost = tt
  all_lost_with link state here down (c ∷ cs) asked lost =
      (lost_at link state here (down state here) c asked.0 lost.0, all_lost_with link state here down cs asked.1 lost.1)

  -- a board stands as down only where its link failed at the greeting
  failed_as : (settings : Limits) (spec : BoardSpec) (link : LinkReport) (b : ServedBoard) (told : Greeting)
      → slice_get boards position ≡ Some b → (greeted : b.told ≡ told)
      → IsAsTold settings spec (run_of spec b) link told → (state : BoardState)
      → slice_get states position ≡ Some state → state ≡ stands.Down → HasFailed link
  failed_as settings spec link b (Live payload) at greeted is state here down =
      let live = lane_at 0 (map (λ (c : ServedBoard). c.told) boards) position payload
      (told_at b (Live payload) at greeted) in
      let other = sym live.1 ∙ here ∙ ap Some down in absurd cc
  failed_as settings spec link b Silent at greeted is state here down =
      let silent = silent_at 0 (map (λ (c : ServedBoard). c.told) boards) position (told_at b Silent at greeted) in
      let other = sym silent ∙ here ∙ ap Some down in absurd cc
  failed_as settings spec link b Down at greeted is state here down = is.failed

  pub down_failed : (settings : Limits) (spec : BoardSpec) (link : LinkReport) (b : ServedBoard)
      → slice_get boards position ≡ Some b → IsServedOver settings spec b link → (state : BoardState)
      → slice_get states position ≡ Some state → state ≡ stands.Down → HasFailed link
  down_failed settings spec link b at over =
      failed_as settings spec link b b.told at refl over.as_told

  -- ---- where all was replied to

  -- a board over a faithful link has a lane
  greeted_lane : (spec : LinkSpec) (board : Option Board) (there : Board) (b : ServedBoard) → board ≡ Some there
      → IsBoardOf spec board → slice_get boards position ≡ Some b → b.told ≡ greeting_of spec
      → (lane : ℕ) × (slice_get states position ≡ Some (stands.Lane lane))
  greeted_lane (Sim mtu buffers first ranges fates) board there b tells of at greeted =
      lane_at 0 (map (λ (c : ServedBoard). c.told) boards) position (payload_of mtu)
      (told_at b (Live (payload_of mtu)) at greeted)
  greeted_lane (Udp address port wait) None there b tells of at greeted = absurd cc
  greeted_lane (Udp address port wait) (Some board) there b tells of at greeted = absurd of

  pub faithful_lane : (settings : Limits) (spec : BoardSpec) (link : LinkReport) (b : ServedBoard)
      → slice_get boards position ≡ Some b → IsFaithful link → IsServedOver settings spec b link
      → b.told ≡ greeting_of spec.link → (lane : ℕ) × (slice_get states position ≡ Some (stands.Lane lane))
  faithful_lane settings spec link b at calm over greeted =
      greeted_lane spec.link (board_there link.telling) calm.there b calm.tells over.board' at greeted

  pub none_by : (code lane : ℕ) → code ≤ 3 → code ≢ replied_code
      → slice_get states position ≡ Some (stands.Lane lane) → (cs : List Conversation)
      → AllByRecursion (AreAsked states) cs
      → OfEach (λ (s : Submission). IsReplied s.outcome) (map (submissions_to states (stands.Lane lane)) cs)
      → NoneWithCode code position states cs
  none_by code lane near other here [] asked replied = tt
  none_by code lane near other here (c ∷ cs) asked replied = (
    none_coded states position lane here (alone lane here) code near other (exchanges_of c) asked.0 replied.0,
    none_by code lane near other here cs asked.1 replied.1,
  )

  pub none_lost : (lane : ℕ) → slice_get states position ≡ Some (stands.Lane lane) → (cs : List Conversation)
      → AllByRecursion (AreAsked states) cs
      → OfEach (λ (s : Submission). IsReplied s.outcome) (map (submissions_to states (stands.Lane lane)) cs)
      → NoneIsGivenUpOrLost position states cs
  none_lost lane here cs asked replied = record {
    timed_out = none_by timed_out_code lane (omega arith) (λ same. absurd cc) here cs asked replied;
    unsent = none_by unsent_code lane (omega arith) (λ same. absurd cc) here cs asked replied;
    link_lost = none_by link_lost_code lane (omega arith) (λ same. absurd cc) here cs asked replied;
  }
