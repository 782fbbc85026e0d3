-- What is shown of boards once their lanes came back.
use Rattle.std.proofs.Common.{◌≡◌, ◌∙◌, ℕ, ◌+◌, List, [], ◌∷◌, map, length, Some, refl, sym, ap, subst}
use Rattle.std.proofs.Common.{◌++◌, drop, suc, take, zero, Option}
use Rattle.std.proofs.Common.{arith}
use Rattle.std.proofs.lemmas.List.{length-map}
use Rattle.std.proofs.lemmas.Option.{none-some, same_Some}
use Rattle.std.specs.List.{AllByRecursion, slice_get}
use Rattle.ipb_base.specs.Numbers.{payload_of}
use Rattle.ipb_outside.specs.Pairs.{PairReport}
use Rattle.links.specs.declared.link.Link.{Ghosts}
use Rattle.links.specs.Telling.{Telling}
use Rattle.world_model.specs.Settings.{Limits}
use Rattle.board_specs.specs.declared.spec.BoardSpec.{BoardSpec}
use Rattle.lane_record.specs.Coding.{Head}
use Rattle.lane_record.specs.Submissions.{Submission}
use Rattle.hub_lane.specs.Lanes.{IsLane, LaneState}
use Rattle.board_greeting.specs.declared.standing.Standing.{Standing}
use Rattle.board_greeting.specs.declared.standing.Standing.TheVariants.{Live, AtHub, Silent, Down}
use Rattle.hub_lane.specs.declared.answers.BoardState.{BoardState}
use Rattle.hub_lane.specs.declared.answers.BoardState.TheVariants as stands
use Rattle.hub_multiplexer.specs.Lanes.{shown_record}
use Rattle.client_threads.specs.Running.{AtEach}
use Rattle.script_plans.specs.declared.greeting.Greeting.{Greeting}
use Rattle.script_plans.specs.declared.greeting.Greeting.TheVariants as greeting
use Rattle.transcript.specs.declared.line.BoardLine.{BoardLine}
use Rattle.transcript.specs.declared.line.BoardLine.TheVariants as line
use Rattle.transcript.specs.Lines.{board_line}
use Rattle.board_history.specs.Runs.{opens_with}
use Rattle.board_history.specs.Links.{IsUntouched, LinkReport, numbers_of}
use Rattle.board_history.specs.Lanes.{IsSoundLane}
use Rattle.board_history.specs.LinkRuns.{TellsPayload}
use Rattle.client_history.specs.Boards.{AreServedOver, IsServedOver, ServedBoard, run_of}
use Rattle.client_history.specs.Planned.{KeepLimits}
use Rattle.board_greeting.specs.Boards.{AreFreshLinks, AreReached, IsEndedLane, IsLaneTo}
use Rattle.board_greeting.specs.Boards.{head_shown}
use Rattle.board_greeting.specs.Reports.{shown_by}
use Rattle.board_greeting.specs.Standings.{all_at_hub, lane_after, lanes_in, links_in, numbers_in, state_at, with_lanes}
use Rattle.board_greeting.proofs.Boards.{fresh_links, reached_fresh}
use Rattle.board_greeting.proofs.Lanes.{lane_back}
use Rattle.board_greeting.proofs.Numbers.{lane_numbers, numbers_back}
use Rattle.session_serve.specs.Boards.{AreLinksTo, lines_of, states_from, states_of}
use Rattle.hub_session.specs.declared.served.Served.{Served}
use Rattle.session_serve.specs.Connections.{Conversation, HaveExchanged, submissions_to}
use Rattle.session_serve.specs.Refusals.{AreFilledBefore, AreFramesByRules}
use Rattle.session_serve.specs.Serving.{AreServed}
use Rattle.session_serve.specs.Finish.{IsHere, IsSound, lane_line, lines_in}
use Rattle.session_serve.specs.Hubs.{AreServedAt, IsServedLane, KeepsHead, submitted_on}
use Rattle.session_serve.specs.Prepared.{IsReady, told_by}
use Rattle.session_serve.specs.declared.prepared.Prepared.{Prepared}
use Rattle.session_serve.specs.ReportLaws.{ReportLaws}
use Rattle.session_serve.proofs.Lists.{all_map, there}
use Rattle.board_greeting.proofs.Standings.{written_whole}
use Rattle.session_serve.proofs.Standing.{all_here, ready_states}

-- lanes side by side, the first of which has this number
pub record SideBySide {A B : Type 0} (lane : ℕ) (xs : List A) (ys : List B) (holds : ℕ → A → B → Type 0) : Type 0 where
  pub long : length ys ≡ length xs
  pub each : (i : ℕ) (x : A) (y : B) → slice_get xs i ≡ Some x → slice_get ys i ≡ Some y → holds (lane + i) x y

pub from_each : {A B : Type 0} (xs : List A) (ys : List B) (holds : ℕ → A → B → Type 0) → AtEach xs ys holds
    → SideBySide 0 xs ys holds
from_each xs ys holds at = record {
  long = at.long;
  each = λ i x y ex ey. subst (λ n. holds n x y) (omega arith) (at.each i x y ex ey);
}

pub first_of : {A B : Type 0} (lane : ℕ) (x : A) (xs : List A) (y : B) (ys : List B) (holds : ℕ → A → B → Type 0)
    → SideBySide lane (x ∷ xs) (y ∷ ys) holds → holds lane x y
first_of lane x xs y ys holds side = subst (λ n. holds n x y) (omega arith) (side.each 0 x y refl refl)

pub rest_of : {A B : Type 0} (lane : ℕ) (x : A) (xs : List A) (y : B) (ys : List B) (holds : ℕ → A → B → Type 0)
    → SideBySide lane (x ∷ xs) (y ∷ ys) holds → SideBySide (lane + 1) xs ys holds
rest_of lane x xs y ys holds side = record {
  long = (let l = side.long in omega (arith, l));
  each = λ i a b ea eb. subst (λ n. holds n a b) (omega arith) (side.each (suc i) a b ea eb);
}

-- ---- the boards

abbrev pub served_board : List BoardState → List Conversation → Greeting → BoardState → ServedBoard
served_board all conversations told state =
    record { told = told; connections = map (submissions_to all state) conversations }

abbrev pub served_boards : {L : Type 0} → List BoardState → List Conversation → ℕ → List (Standing L) → List ServedBoard
served_boards all conversations lane [] = []
served_boards all conversations lane (b ∷ boards) =
    served_board all conversations (told_by b) (state_at lane b)
    ∷ served_boards all conversations (lane_after lane b) boards

pub told_same : {L : Type 0} (all : List BoardState) (conversations : List Conversation) (lane : ℕ)
    (boards : List (Standing L)) → map (λ (s : ServedBoard). s.told) (served_boards all conversations lane boards)
    ≡ map (λ (b : Standing L). told_by b) boards
told_same all conversations lane [] = refl
told_same all conversations lane (b ∷ boards) =
    ap (λ (l : List Greeting). told_by b ∷ l) (told_same all conversations (lane_after lane b) boards)

pub asked_same : {L : Type 0} (all : List BoardState) (conversations : List Conversation) (lane : ℕ)
    (boards : List (Standing L))
    → map (λ (s : ServedBoard). s.connections) (served_boards all conversations lane boards)
    ≡ map (λ (state : BoardState). map (submissions_to all state) conversations)
    (states_from lane (map (λ (b : Standing L). told_by b) boards))
asked_same all conversations lane [] = refl
asked_same all conversations lane (Live ready ∷ boards) =
    ap (λ (l : List (List (List Submission))). map (submissions_to all (stands.Lane lane)) conversations ∷ l)
    (asked_same all conversations (lane + 1) boards)
asked_same all conversations lane (Silent link ∷ boards) =
    ap (λ (l : List (List (List Submission))). map (submissions_to all stands.Silent) conversations ∷ l)
    (asked_same all conversations lane boards)
asked_same all conversations lane (Down link ∷ boards) =
    ap (λ (l : List (List (List Submission))). map (submissions_to all stands.Down) conversations ∷ l)
    (asked_same all conversations lane boards)
asked_same all conversations lane (AtHub ∷ boards) =
    ap (λ (l : List (List (List Submission))). map (submissions_to all (stands.Lane lane)) conversations ∷ l)
    (asked_same all conversations (lane + 1) boards)

both_lines : {a b : BoardLine} {x y : List BoardLine} → a ≡ b → x ≡ y → a ∷ x ≡ b ∷ y
both_lines p q = (λ i. p i ∷ q i)

module _ (L : Type 0) (seen : Ghosts L) (settings : Limits) where
  -- the links are those of the boards
  pub links_to : (lane : ℕ) (specs : List BoardSpec) (boards : List (Standing L)) (news : List (LaneState L))
      → length boards ≡ length specs
      → AreReached (shown_by seen) settings specs boards
      → SideBySide lane (lanes_in boards) news (λ n. KeepsHead seen.telling)
      → AllByRecursion (IsSound seen) (with_lanes (all_at_hub boards) news)
      → AreLinksTo specs (map (shown_by seen)
      (links_in (with_lanes (all_at_hub boards) news)))
      × (length (links_in (with_lanes (all_at_hub boards) news)) ≡ length specs)
  links_to lane [] [] news long are side sound = (tt, refl)
  links_to lane [] (b ∷ boards) news long are side sound = absurd cc
  links_to lane (s ∷ specs) [] news long are side sound = absurd cc
  links_to lane (s ∷ specs) (Live old ∷ boards) [] long are side sound =
      absurd (let l = side.long in omega (arith, l))
  links_to lane (s ∷ specs) (Live old ∷ boards) (n ∷ news) long are side sound =
      let rest = links_to (lane + 1) specs boards news (omega (arith, long)) are.1
      (rest_of lane old (lanes_in boards) n news (λ k. KeepsHead seen.telling) side) sound.1 in
      let to = lane_back seen.telling (shown_by seen old.link) settings s old n are.0 refl
      (first_of lane old (lanes_in boards) n news (λ k. KeepsHead seen.telling) side) in
      (((sound.0.1 settings s to).board', rest.0), ap suc rest.1)
  links_to lane (s ∷ specs) (Silent link ∷ boards) news long are side sound =
      let rest = links_to lane specs boards news (omega (arith, long)) are.1 side sound.1 in
      ((are.0.fresh.board', rest.0), ap suc rest.1)
  links_to lane (s ∷ specs) (Down link ∷ boards) news long are side sound =
      let rest = links_to lane specs boards news (omega (arith, long)) are.1 side sound.1 in
      ((are.0.fresh.board', rest.0), ap suc rest.1)
  links_to lane (s ∷ specs) (AtHub ∷ boards) news long are side sound = absurd are.0

  module _ (laws : ReportLaws) (all : List BoardState) (conversations : List Conversation) where
    -- what is shown of a live board, and its line
    live_served : (lane : ℕ) (spec : BoardSpec) (old new : LaneState L)
        → IsLaneTo settings spec (seen.telling new.link) new → KeepsHead seen.telling old new
        → IsServedLane seen.telling (submitted_on all lane conversations) old new
        → IsLane new.settings new.status new.hub new.items new.outcomes new.lates new.give_ups new.down new.spent
        (seen.telling new.link) (seen.faults new.link) (seen.quiets new.link)
        → IsEndedLane settings spec new (shown_by seen new.link)
        → IsServedOver settings spec (served_board all conversations (greeting.Live (payload_of old.status.mtu))
        (stands.Lane lane)) (shown_by seen new.link)
        × (board_line (run_of spec (served_board all conversations (greeting.Live (payload_of old.status.mtu))
        (stands.Lane lane))) ≡ lane_line spec.name new)
    live_served lane spec old new to heads served is ended =
        let connections = submitted_on all lane conversations in
        let left = laws.left connections (head_shown seen.telling old) (head_shown seen.telling new) new.items
        served.after
        (shown_record seen.telling new) served.served_on served.ended refl in
        let mtu : new.status.mtu ≡ old.status.mtu = ap (λ (h : Head). h.mtu) heads in
        let payload = subst (λ n. TellsPayload spec.link (payload_of n)) mtu ended.payload in
        let sound = subst (λ n. IsSoundLane settings (opens_with spec.link) (payload_of n) (shown_by seen new.link)
        new.items new.outcomes new.lates new.give_ups) mtu ended.sound in (
          laws.served settings spec (shown_by seen new.link) (payload_of old.status.mtu) connections new.items
              new.outcomes new.lates new.give_ups ended.board' payload left sound,
          laws.line new.settings new.status new.hub new.items new.outcomes new.lates new.give_ups new.down new.spent
              (seen.telling new.link) (seen.faults new.link) (seen.quiets new.link) spec (payload_of old.status.mtu)
              connections is left,
        )

    pub all_served_over : (lane : ℕ) (specs : List BoardSpec) (boards : List (Standing L)) (news : List (LaneState L))
        → length boards ≡ length specs
        → AreReached (shown_by seen) settings specs boards
        → SideBySide lane (lanes_in boards) news (λ n. KeepsHead seen.telling)
        → SideBySide lane (lanes_in boards) news (λ n. IsServedLane seen.telling (submitted_on all n conversations))
        → AllByRecursion (IsSound seen) (with_lanes (all_at_hub boards) news)
        → AreServedOver settings specs (served_boards all conversations lane boards)
        (map (shown_by seen)
        (links_in (with_lanes (all_at_hub boards) news)))
        × (lines_in (map (λ (s : BoardSpec). s.name) specs) (with_lanes (all_at_hub boards) news)
        ≡ lines_of specs (served_boards all conversations lane boards))
    all_served_over lane [] [] news long are heads served sound = (tt, refl)
    all_served_over lane [] (b ∷ boards) news long are heads served sound = absurd cc
    all_served_over lane (s ∷ specs) [] news long are heads served sound = absurd cc
    all_served_over lane (s ∷ specs) (Live old ∷ boards) [] long are heads served sound =
        absurd (let l = heads.long in omega (arith, l))
    all_served_over lane (s ∷ specs) (Live old ∷ boards) (n ∷ news) long are heads served sound =
        let head = first_of lane old (lanes_in boards) n news (λ k. KeepsHead seen.telling) heads in
        let on = first_of lane old (lanes_in boards) n news
        (λ k. IsServedLane seen.telling (submitted_on all k conversations)) served in
        let to = lane_back seen.telling (shown_by seen old.link) settings s old n are.0 refl head in
        let one = live_served lane s old n to head on sound.0.0 (sound.0.1 settings s to) in
        let rest = all_served_over (lane + 1) specs boards news (omega (arith, long)) are.1
        (rest_of lane old (lanes_in boards) n news (λ k. KeepsHead seen.telling) heads)
        (rest_of lane old (lanes_in boards) n news (λ k. IsServedLane seen.telling (submitted_on all k conversations))
        served) sound.1 in
        ((one.0, rest.0), both_lines (sym one.1) rest.1)
    all_served_over lane (s ∷ specs) (Silent link ∷ boards) news long are heads served sound =
        let rest = all_served_over lane specs boards news (omega (arith, long)) are.1 heads served sound.1 in (
          (
            record {
              asked = all_map (submissions_to all stands.Silent) (λ (l : List Submission). l ≡ []) conversations
                  (λ c. refl);
              board' = are.0.fresh.board';
              as_told = are.0.as_told;
            },
            rest.0,
          ),
          ap (λ (l : List BoardLine). line.Silent s.name ∷ l) rest.1,
        )
    all_served_over lane (s ∷ specs) (Down link ∷ boards) news long are heads served sound =
        let rest = all_served_over lane specs boards news (omega (arith, long)) are.1 heads served sound.1 in (
          (
            record {
              asked = all_map (submissions_to all stands.Down) (λ (l : List Submission). l ≡ []) conversations (λ c.
                  refl);
              board' = are.0.fresh.board';
              as_told = are.0.as_told;
            },
            rest.0,
          ),
          ap (λ (l : List BoardLine). line.Down s.name ∷ l) rest.1,
        )
    all_served_over lane (s ∷ specs) (AtHub ∷ boards) news long are heads served sound = absurd are.0

-- ---- the lane of a live board

-- a live board has the lane with this number, and told its payload
record LiveLane {L : Type 0} (all : List BoardState) (conversations : List Conversation) (first : ℕ)
    (boards : List (Standing L)) (payload lane : ℕ) (board : ServedBoard) : Type 0 where
  pub old : LaneState L
  pub index : ℕ
  pub at : slice_get (lanes_in boards) index ≡ Some old
  pub number : lane ≡ first + index
  pub payload' : payload ≡ payload_of old.status.mtu
  pub connections' : board.connections ≡ submitted_on all lane conversations

one_live : {L : Type 0} (all : List BoardState) (conversations : List Conversation) (first : ℕ) (ready : LaneState L)
    (boards : List (Standing L)) (payload lane : ℕ) (board : ServedBoard)
    → served_board all conversations (greeting.Live (payload_of ready.status.mtu)) (stands.Lane first) ≡ board
    → board.told ≡ greeting.Live payload → stands.Lane first ≡ stands.Lane lane
    → LiveLane all conversations first (Live ready ∷ boards) payload lane board
one_live all conversations first ready boards payload lane board is told state =
    let same : lane ≡ first = cc in
    let live : greeting.Live (payload_of ready.status.mtu) ≡ greeting.Live payload =
    ap (λ (b : ServedBoard). b.told) is ∙ told in
    record {
      old = ready;
      index = 0;
      at = refl;
      number = omega (arith, same);
      payload' = cc;
      connections' = sym (ap (λ (b : ServedBoard). b.connections) is)
          ∙ ap (λ n. submitted_on all n conversations) (sym same);
    }

later_live : {L : Type 0} (all : List BoardState) (conversations : List Conversation) (first : ℕ)
    (ready : LaneState L) (boards : List (Standing L)) (payload lane : ℕ) (board : ServedBoard)
    → LiveLane all conversations (first + 1) boards payload lane board
    → LiveLane all conversations first (Live ready ∷ boards) payload lane board
later_live all conversations first ready boards payload lane board l = let number = l.number in record {
  old = l.old;
  index = suc l.index;
  at = l.at;
  number = omega (arith, number);
  payload' = l.payload';
  connections' = l.connections';
}

not_live : {P : Type 0} (board : ServedBoard) (told other : Greeting) (payload : ℕ) → board.told ≡ told
    → board.told ≡ greeting.Live payload → (told ≡ greeting.Live payload → ⊥) → P
not_live board told other payload is live not = absurd (not (sym is ∙ live))

live_lane : {L : Type 0} (all : List BoardState) (conversations : List Conversation) (first : ℕ)
    (boards : List (Standing L)) (position payload lane : ℕ) (board : ServedBoard) → AllByRecursion IsHere boards
    → slice_get (served_boards all conversations first boards) position ≡ Some board
    → board.told ≡ greeting.Live payload
    → slice_get (states_from first (map (λ (b : Standing L). told_by b) boards)) position ≡ Some (stands.Lane lane)
    → LiveLane all conversations first boards payload lane board
live_lane all conversations first [] position payload lane board here at told state = absurd (none-some board at)
live_lane all conversations first (Live ready ∷ boards) zero payload lane board here at told state =
    one_live all conversations first ready boards payload lane board (same_Some _ board at) told (same_Some _ _ state)
live_lane all conversations first (Live ready ∷ boards) (suc position) payload lane board here at told state =
    later_live all conversations first ready boards payload lane board
    (live_lane all conversations (first + 1) boards position payload lane board here.1 at told state)
live_lane all conversations first (Silent link ∷ boards) zero payload lane board here at told state =
    let none : stands.Silent ≡ stands.Lane lane = same_Some _ _ state in absurd cc
live_lane all conversations first (Silent link ∷ boards) (suc position) payload lane board here at told state =
    let l = live_lane all conversations first boards position payload lane board here.1 at told state in record {
      old = l.old;
      index = l.index;
      at = l.at;
      number = l.number;
      payload' = l.payload';
      connections' = l.connections';
    }
live_lane all conversations first (Down link ∷ boards) zero payload lane board here at told state =
    let none : stands.Down ≡ stands.Lane lane = same_Some _ _ state in absurd cc
live_lane all conversations first (Down link ∷ boards) (suc position) payload lane board here at told state =
    let l = live_lane all conversations first boards position payload lane board here.1 at told state in record {
      old = l.old;
      index = l.index;
      at = l.at;
      number = l.number;
      payload' = l.payload';
      connections' = l.connections';
    }
live_lane all conversations first (AtHub ∷ boards) position payload lane board here at told state = absurd here.0

-- so much holds of the lane of each live board, and of its payload
of_live_boards : {L : Type 0} (holds : ℕ → ℕ → List (List Submission) → Type 0) (all : List BoardState)
    (conversations : List Conversation) (boards : List (Standing L)) (olds news : List (LaneState L))
    → AllByRecursion IsHere boards → olds ≡ lanes_in boards
    → AtEach olds news (λ lane old new. holds (payload_of old.status.mtu) lane (submitted_on all lane conversations))
    → (position payload lane : ℕ) (board : ServedBoard)
    → slice_get (served_boards all conversations 0 boards) position ≡ Some board
    → board.told ≡ greeting.Live payload
    → slice_get (states_from 0 (map (λ (b : Standing L). told_by b) boards)) position ≡ Some (stands.Lane lane)
    → holds payload lane board.connections
of_live_boards holds all conversations boards olds news here lanes each position payload lane board at told state =
    let l = live_lane all conversations 0 boards position payload lane board here at told state in
    let number = l.number in
    let same : l.index ≡ lane = omega (arith, number) in
    let eo : slice_get olds lane ≡ Some l.old = (λ i. slice_get (lanes i) (sym same i)) ∙ l.at in
    let new = there olds news lane l.old each.long eo in
    subst (λ (c : List (List Submission)). holds payload lane c) (sym l.connections')
    (subst (λ n. holds n lane (submitted_on all lane conversations)) (sym l.payload')
    (each.each lane l.old new.0 eo new.1))

back_long : {L : Type 0} (boards : List (Standing L)) (news : List (LaneState L))
    → length (with_lanes (all_at_hub boards) news) ≡ length boards
back_long [] news = refl
back_long (Live lane ∷ boards) [] = ap suc (back_long boards [])
back_long (Live lane ∷ boards) (n ∷ news) = ap suc (back_long boards news)
back_long (AtHub ∷ boards) [] = ap suc (back_long boards [])
back_long (AtHub ∷ boards) (n ∷ news) = ap suc (back_long boards news)
back_long (Silent link ∷ boards) news = ap suc (back_long boards news)
back_long (Down link ∷ boards) news = ap suc (back_long boards news)

back_here : {L : Type 0} (boards : List (Standing L)) (news : List (LaneState L)) → AllByRecursion IsHere boards
    → length news ≡ length (lanes_in boards) → AllByRecursion IsHere (with_lanes (all_at_hub boards) news)
back_here [] news here long = tt
back_here (Live lane ∷ boards) [] here long = absurd cc
back_here (Live lane ∷ boards) (n ∷ news) here long = (tt, back_here boards news here.1 (omega (arith, long)))
back_here (AtHub ∷ boards) news here long = absurd here.0
back_here (Silent link ∷ boards) news here long = (tt, back_here boards news here.1 long)
back_here (Down link ∷ boards) news here long = (tt, back_here boards news here.1 long)

-- ---- boards whose lanes came back

-- Boards whose lanes were taken, and stand in their places again once these came back from the hub.
pub record BoardsBack {L : Type 0} (seen : Ghosts L) (settings : Limits) (specs : List BoardSpec)
    (boards : List (Standing L)) (news : List (LaneState L)) (ended : List (Standing L)) : Type 0 where
  pub is : ended ≡ with_lanes (all_at_hub boards) news
  pub heads : SideBySide 0 (lanes_in boards) news (λ lane. KeepsHead seen.telling)
  pub all : length boards ≡ length specs
  pub reached : AreReached (shown_by seen) settings specs boards

pub boards_back : {L : Type 0} {settings : Limits} {specs : List BoardSpec} {left : List (Standing L)}
    {prepared : Prepared L} {news : List (LaneState L)} {ended : List (Standing L)} (seen : Ghosts L)
    (ready : IsReady (shown_by seen) settings specs left prepared)
    → AtEach prepared.lanes.items news (λ lane. KeepsHead seen.telling) → ended ≡ with_lanes left news
    → BoardsBack seen settings specs ready.boards news ended
boards_back {L} {news = news} seen ready heads is =
    let boards = ready.boards in
    let holds : ℕ → LaneState L → LaneState L → Type 0 = λ lane. KeepsHead seen.telling in
    record {
      is = is ∙ ap (λ (b : List (Standing L)). with_lanes b news) ready.left';
      heads = from_each (lanes_in boards) news holds
          (subst (λ (l : List (LaneState L)). AtEach l news holds) ready.prepared'.lanes' heads);
      all = ready.all;
      reached = ready.reached;
    }

-- lanes that were put back into a slice of all boards
pub put_whole : {L : Type 0} {n : ℕ} {left slice : List (Standing L)} (news : List (LaneState L))
    (ended : List (Standing L)) → length slice ≡ n → slice ≡ left → length ended ≡ length slice
    → ended ≡ with_lanes slice news → take n (ended ++ drop (length ended) left) ≡ with_lanes left news
put_whole {L} news ended many same long is =
    written_whole ended many same long ∙ (is ∙ ap (λ (b : List (Standing L)). with_lanes b news) same)

pub boards_long : {L : Type 0} {seen : Ghosts L} {settings : Limits} {specs : List BoardSpec}
    {boards : List (Standing L)} {news : List (LaneState L)} {ended : List (Standing L)}
    → BoardsBack seen settings specs boards news ended → length ended ≡ length specs
boards_long {L} {boards = boards} {news = news} back =
    ap (λ (l : List (Standing L)). length l) back.is ∙ (back_long boards news ∙ back.all)

pub boards_here : {L : Type 0} {seen : Ghosts L} {settings : Limits} {specs : List BoardSpec}
    {boards : List (Standing L)} {news : List (LaneState L)} {ended : List (Standing L)}
    → BoardsBack seen settings specs boards news ended → AllByRecursion IsHere ended
boards_here {L} {seen} {settings} {specs} {boards = boards} {news = news} back =
    rw back.is (back_here boards news (all_here (shown_by seen) settings specs boards back.reached) back.heads.long)

-- their links
pub links_back : {L : Type 0} {seen : Ghosts L} {settings : Limits} {specs : List BoardSpec}
    {boards : List (Standing L)} {news : List (LaneState L)} {ended : List (Standing L)}
    → BoardsBack seen settings specs boards news ended → AllByRecursion (IsSound seen) ended
    → AreLinksTo specs (map (shown_by seen) (links_in ended))
    × (length (map (shown_by seen) (links_in ended)) ≡ length specs)
links_back {L} {seen} {settings} {specs} {boards} {news} {ended} back sound =
    let shows = shown_by seen in
    let to = links_to L seen settings 0 specs boards news back.all back.reached back.heads
    (subst (AllByRecursion (IsSound seen)) back.is sound) in
    rw back.is (to.0, length-map (links_in (with_lanes (all_at_hub boards) news)) shows ∙ to.1)

side_numbers : {L : Type 0} (tells : L → Option Telling) (lane : ℕ) (olds news : List (LaneState L))
    → SideBySide lane olds news (λ n. KeepsHead tells) → lane_numbers news ≡ lane_numbers olds
side_numbers tells lane [] [] side = refl
side_numbers tells lane [] (n ∷ news) side = absurd (let l = side.long in omega (arith, l))
side_numbers tells lane (o ∷ olds) [] side = absurd (let l = side.long in omega (arith, l))
side_numbers {L} tells lane (o ∷ olds) (n ∷ news) side =
    let head = first_of lane o olds n news (λ k. KeepsHead tells) side in
    let first : n.number ≡ o.number = ap (λ (h : Head). h.link) head in
    ap (λ (k : ℕ). k ∷ lane_numbers news) first
    ∙ ap (λ (ks : List ℕ). o.number ∷ ks)
    (side_numbers tells (lane + 1) olds news (rest_of lane o olds n news (λ k. KeepsHead tells) side))

sound_numbers : {L : Type 0} (seen : Ghosts L) (boards : List (Standing L)) → AllByRecursion (IsSound seen) boards
    → numbers_of (map (shown_by seen) (links_in boards)) ≡ numbers_in seen.number boards
sound_numbers seen [] sound = refl
sound_numbers {L} seen (Live lane ∷ boards) sound =
    ap (λ (k : ℕ). k ∷ numbers_of (map (shown_by seen) (links_in boards))) sound.0.2
    ∙ ap (λ (ks : List ℕ). lane.number ∷ ks) (sound_numbers seen boards sound.1)
sound_numbers seen (AtHub ∷ boards) sound = sound_numbers seen boards sound.1
sound_numbers seen (Silent link ∷ boards) sound =
    ap (λ (ks : List ℕ). seen.number link ∷ ks) (sound_numbers seen boards sound.1)
sound_numbers seen (Down link ∷ boards) sound =
    ap (λ (ks : List ℕ). seen.number link ∷ ks) (sound_numbers seen boards sound.1)

-- the links have the numbers of those that the lanes went with
pub numbers_still : {L : Type 0} {settings : Limits} {specs : List BoardSpec} {left : List (Standing L)}
    {prepared : Prepared L} {news : List (LaneState L)} {ended : List (Standing L)} (seen : Ghosts L)
    (ready : IsReady (shown_by seen) settings specs left prepared)
    → BoardsBack seen settings specs ready.boards news ended → AllByRecursion (IsSound seen) ended
    → numbers_of (map (shown_by seen) (links_in ended)) ≡ numbers_in seen.number (with_lanes left prepared.lanes.items)
numbers_still {L} {settings} {specs} {left} {prepared} {news} {ended} seen ready back sound =
    let boards = ready.boards in
    let number = seen.number in
    sound_numbers seen ended sound
    ∙ (ap (λ (bs : List (Standing L)). numbers_in number bs) back.is
    ∙ (numbers_back seen settings specs boards news back.reached
    (side_numbers seen.telling 0 (lanes_in boards) news back.heads)
    ∙ (sym (numbers_back seen settings specs boards (lanes_in boards) back.reached refl)
    ∙ sym (ap (λ (bs : List (Standing L)). numbers_in number (with_lanes bs prepared.lanes.items)) ready.left'
    ∙ ap (λ (ls : List (LaneState L)). numbers_in number (with_lanes (all_at_hub boards) ls)) ready.prepared'.lanes'))))

-- ---- links of boards that were greeted

pub untouched_links : (settings : Limits) (specs : List BoardSpec) (links : List LinkReport)
    → AreFreshLinks settings specs links → AreLinksTo specs links × AllByRecursion IsUntouched links
untouched_links settings specs [] are = (tt, tt)
untouched_links settings [] (l ∷ links) are = absurd are
untouched_links settings (s ∷ specs) (l ∷ links) are =
    let rest = untouched_links settings specs links are.1 in
    ((are.0.board', rest.0), (are.0.untouched, rest.1))

pub greeted_links : {L : Type 0} (shows : L → LinkReport) (settings : Limits) (specs : List BoardSpec)
    (boards : List (Standing L)) → AreReached shows settings specs boards → length boards ≡ length specs
    → AreLinksTo specs (map shows (links_in boards)) × (length (map shows (links_in boards)) ≡ length specs)
    × AllByRecursion IsUntouched (map shows (links_in boards))
greeted_links {L} shows settings specs boards are all =
    let fresh = fresh_links shows settings specs boards (reached_fresh shows settings specs boards are) in
    let links = map shows (links_in boards) in
    let both = untouched_links settings specs links fresh.0 in
    (both.0, length-map (links_in boards) shows ∙ (fresh.1 ∙ all), both.1)

-- ---- the report

pub are_served : {L : Type 0} {settings : Limits} {specs : List BoardSpec} {left : List (Standing L)} {prepared : Prepared L}
    {news : List (LaneState L)} {ended : List (Standing L)} (laws : ReportLaws) (seen : Ghosts L)
    (ready : IsReady (shown_by seen) settings specs left prepared) (came back : List PairReport)
    (served : List Served) (lines : List BoardLine) → BoardsBack seen settings specs ready.boards news ended
    → AllByRecursion (IsSound seen) ended → lines ≡ lines_in prepared.names.items ended
    → AreServedAt seen.telling prepared.states prepared.lanes.items news came back served
    → AreServed settings specs (map (shown_by seen) (links_in ended)) came back served lines
are_served {L} {settings} {specs} {left} {prepared} {news} {ended} laws seen ready came back served lines again
    sound lines_are at =
    let shows = shown_by seen in
    let boards = ready.boards in
    let here = all_here shows settings specs boards ready.reached in
    let olds = prepared.lanes.items in
    let lanes = ready.prepared'.lanes' in
    let all = prepared.states in
    let states = ready_states ready in
    let conversations = at.conversations in
    let shown_boards = served_boards all conversations 0 boards in
    let on = subst (λ (l : List (LaneState L)). AtEach l news (λ lane. IsServedLane seen.telling (submitted_on all lane
    conversations))) lanes at.lanes in
    let over = all_served_over L seen settings laws all conversations 0 specs boards news again.all
    again.reached again.heads
    (from_each (lanes_in boards) news (λ lane. IsServedLane seen.telling (submitted_on all lane conversations)) on)
    (subst (AllByRecursion (IsSound seen)) again.is sound) in
    let stand : states_of shown_boards ≡ all = ap (states_from 0) (told_same all conversations 0 boards) ∙ sym states in
    let states_at : (position lane : ℕ) → slice_get (states_of shown_boards) position ≡ Some (stands.Lane lane)
    → slice_get (states_from 0 (map (λ (b : Standing L). told_by b) boards)) position ≡ Some (stands.Lane lane) =
    λ position lane is'. ap (λ (a : List Greeting). slice_get (states_from 0 a) position)
    (sym (told_same all conversations 0 boards)) ∙ is' in
    record {
      boards = shown_boards;
      conversations = conversations;
      over_links = subst (λ (b : List (Standing L)). AreServedOver settings specs shown_boards
          (map shows (links_in b))) (sym again.is) over.0;
      lines' = lines_are ∙ (ap (λ (n : List (List ℕ)). lines_in n ended) ready.prepared'.names'
          ∙ (ap (λ (b : List (Standing L)). lines_in (map (λ (s : BoardSpec). s.name) specs) b) again.is ∙ over.1));
      exchanged = subst (λ (a : List BoardState). HaveExchanged a 1 conversations came back served) (sym stand)
          at.exchanged;
      asked = subst (λ (a : List BoardState). map (λ (b : ServedBoard). b.connections) shown_boards
          ≡ map (λ (state : BoardState). map (submissions_to a state) conversations) a) (sym stand)
          (asked_same all conversations 0 boards
          ∙ ap (λ (a : List BoardState). map (λ (state : BoardState). map (submissions_to all state) conversations) a)
          (sym states));
      by_rules = λ position payload lane board live.
          subst (λ (a : List BoardState). AreFramesByRules payload board.connections a lane conversations) (sym stand)
          (of_live_boards (λ n l connections. AreFramesByRules n connections all l conversations) all conversations
          boards olds news here lanes at.by_rules position payload lane board live.there live.told'
          (states_at position lane live.lane'));
      filled_before = λ position payload lane board live.
          subst (λ (a : List BoardState). AreFilledBefore board.connections a lane conversations) (sym stand)
          (of_live_boards (λ n l connections. AreFilledBefore connections all l conversations) all conversations
          boards olds news here lanes at.filled_before position payload lane board live.there live.told'
          (states_at position lane live.lane'));
      limits = λ position payload lane board live. of_live_boards (λ n l connections. KeepLimits connections) all
          conversations boards olds news here lanes at.limits position payload lane board live.there live.told'
          (states_at position lane live.lane');
    }
