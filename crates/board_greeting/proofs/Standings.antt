-- Boards whose lanes go to a hub and come back, one after another.
use Rattle.std.proofs.Common.{◌≡◌, ◌∙◌, ℕ, zero, suc, ◌+◌, ◌≤◌, ◌<◌, List, [], ◌∷◌, ◌++◌, length, drop, take}
use Rattle.std.proofs.Common.{set, get_or, refl, sym, ap, arith, append_assoc, append-nil}
use Rattle.std.proofs.lemmas.List.{drop_all, drop_more, take_all}
use Rattle.hub_lane.specs.Lanes.{LaneState}
use Rattle.hub_lane.specs.declared.answers.BoardState.{BoardState}
use Rattle.board_greeting.specs.Standings.{all_at_hub, at_hub, lane_after, lane_in, lanes_in}
use Rattle.board_greeting.specs.Standings.{positions_at_hub, state_at, states_at, with_lanes}
use Rattle.board_greeting.specs.Boards.{AreReached}
use Rattle.board_greeting.specs.declared.standing.Standing.{Standing}
use Rattle.board_greeting.specs.declared.standing.Standing.TheVariants.{Live, AtHub, Silent, Down}
use Rattle.board_history.specs.Links.{LinkReport}
use Rattle.board_specs.specs.declared.spec.BoardSpec.{BoardSpec}
use Rattle.world_model.specs.Settings.{Limits}

-- ---- item by item

-- a list of which one item is written
record Written {A : Type 0} (k : ℕ) (old new : List A) (was now : A) : Type 0 where
  pub begins : drop k old ≡ was ∷ drop (k + 1) old
  pub front : take (k + 1) new ≡ take k old ++ now ∷ []
  pub behind : drop (k + 1) new ≡ drop (k + 1) old
  pub long : length new ≡ length old

written_here : {A : Type 0} (k : ℕ) (old : List A) (was now : A) → k < length old → was ≡ get_or old k was
    → (drop k old ≡ was ∷ drop (suc k) old) × (take (suc k) (set old k now) ≡ take k old ++ now ∷ [])
    × (drop (suc k) (set old k now) ≡ drop (suc k) old) × (length (set old k now) ≡ length old)
written_here k [] was now within is = absurd (omega (arith, within))
written_here zero (x ∷ old) was now within is = (ap (λ (y : _). y ∷ old) (sym is), refl, refl, refl)
written_here (suc k) (x ∷ old) was now within is =
    let rest = written_here k old was now (omega (arith, within)) is in
    (rest.0, ap (λ (l : List _). x ∷ l) rest.1, rest.2, ap suc rest.3)

written : {A : Type 0} (k : ℕ) (old new : List A) (was now : A) → k < length old → was ≡ get_or old k was
    → new ≡ set old k now → Written k old new was now
written {A} k old new was now within is put =
    let here = written_here k old was now within is in
    let up : suc k ≡ k + 1 = omega arith in
    rw put (record {
      begins = here.0 ∙ ap (λ (n : ℕ). was ∷ drop n old) up;
      front = sym (ap (λ (n : ℕ). take n (set old k now)) up) ∙ here.1;
      behind = sym (ap (λ (n : ℕ). drop n (set old k now)) up) ∙ (here.2 ∙ ap (λ (n : ℕ). drop n old) up);
      long = here.3;
    })

-- a slice of all items that was written, and is written back whole
pub written_whole : {A : Type 0} {n : ℕ} {olds slice : List A} (news : List A) → length slice ≡ n → slice ≡ olds
    → length news ≡ length slice → take n (news ++ drop (length news) olds) ≡ news
written_whole {A} {n} {olds} news many same long =
    let old = ap (λ (l : List A). length l) same in
    ap (λ (l : List A). take n (news ++ l)) (drop_all (length news) olds (omega (arith, long, old)))
    ∙ (ap (take n) (append-nil news) ∙ take_all n news (omega (arith, many, long)))

-- ---- lanes that are taken

pub record TakenSoFar {L : Type 0} (k : ℕ) (olds boards : List (Standing L)) (lanes : List (LaneState L)) : Type 0
  where
    pub left : take k boards ++ all_at_hub (drop k boards) ≡ all_at_hub olds
    pub taken : lanes ++ lanes_in (drop k boards) ≡ lanes_in olds
    pub long : length boards ≡ length olds

pub taken_more : {L : Type 0} (k : ℕ) (olds boards later : List (Standing L)) (lanes more : List (LaneState L))
    (was now : Standing L) → TakenSoFar k olds boards lanes → k < length olds → was ≡ get_or boards k was
    → later ≡ set boards k now → now ≡ at_hub was → more ≡ lanes ++ lane_in was → TakenSoFar (k + 1) olds later more
taken_more {L} k olds boards later lanes more was now so_far within is put left pushed =
    let long = so_far.long in
    let one = written k boards later was now (omega (arith, within, long)) is put in
    let rest = drop (k + 1) boards in
    record {
      left = ap (λ (l : List (Standing L)). take (k + 1) later ++ all_at_hub l) one.behind
          ∙ (ap (λ (l : List (Standing L)). l ++ all_at_hub rest) one.front
          ∙ (append_assoc (take k boards) (now ∷ []) (all_at_hub rest)
          ∙ (ap (λ (b : Standing L). take k boards ++ b ∷ all_at_hub rest) left
          ∙ (ap (λ (l : List (Standing L)). take k boards ++ all_at_hub l) (sym one.begins) ∙ so_far.left))));
      taken = ap (λ (l : List (Standing L)). more ++ lanes_in l) one.behind
          ∙ (ap (λ (l : List (LaneState L)). l ++ lanes_in rest) pushed
          ∙ (append_assoc lanes (lane_in was) (lanes_in rest)
          ∙ (ap (λ (l : List (Standing L)). lanes ++ lanes_in l) (sym one.begins) ∙ so_far.taken)));
      long = one.long ∙ long;
    }

-- ---- lanes that are put back

pub record PutSoFar {L : Type 0} (k : ℕ) (olds boards : List (Standing L)) (all lanes : List (LaneState L)) : Type 0
  where
    pub put : take k boards ++ with_lanes (drop k boards) lanes ≡ with_lanes olds all
    pub long : length boards ≡ length olds

pub put_more : {L : Type 0} (k : ℕ) (olds boards later : List (Standing L)) (all lanes rest_lanes : List (LaneState L))
    (was now : Standing L) → PutSoFar k olds boards all lanes → k < length olds → was ≡ get_or boards k was
    → later ≡ set boards k now
    → ((rest : List (Standing L)) → with_lanes (was ∷ rest) lanes ≡ now ∷ with_lanes rest rest_lanes)
    → PutSoFar (k + 1) olds later all rest_lanes
put_more {L} k olds boards later all lanes rest_lanes was now so_far within is written_so put =
    let long = so_far.long in
    let one = written k boards later was now (omega (arith, within, long)) is written_so in
    let rest = drop (k + 1) boards in
    record {
      put = ap (λ (l : List (Standing L)). take (k + 1) later ++ with_lanes l rest_lanes) one.behind
          ∙ (ap (λ (l : List (Standing L)). l ++ with_lanes rest rest_lanes) one.front
          ∙ (append_assoc (take k boards) (now ∷ []) (with_lanes rest rest_lanes)
          ∙ (ap (λ (l : List (Standing L)). take k boards ++ l) (sym (put rest))
          ∙ (ap (λ (l : List (Standing L)). take k boards ++ with_lanes l lanes) (sym one.begins) ∙ so_far.put))));
      long = one.long ∙ long;
    }

-- ---- how boards stand to clients

lane_few : {L : Type 0} (lane k : ℕ) (board : Standing L) → lane ≤ k → lane_after lane board ≤ k + 1
lane_few lane k (Live own) few = omega (arith, few)
lane_few lane k AtHub few = omega (arith, few)
lane_few lane k (Silent link) few = omega (arith, few)
lane_few lane k (Down link) few = omega (arith, few)

pub one_more_state : {L : Type 0} (boards : List (Standing L)) (k lane next : ℕ) (board : Standing L)
    (states pushed : List BoardState) (state : BoardState)
    → states ++ states_at lane (drop k boards) ≡ states_at 0 boards → k < length boards
    → board ≡ get_or boards k board → state ≡ state_at lane board → next ≡ lane_after lane board
    → pushed ≡ states ++ state ∷ [] → pushed ++ states_at next (drop (k + 1) boards) ≡ states_at 0 boards
one_more_state {L} boards k lane next board states pushed state so_far low at is after push =
    let rest = drop (k + 1) boards in
    let begins : drop k boards ≡ board ∷ rest = drop_more boards k board low
    ∙ ap (λ (b : Standing L). b ∷ rest) (sym at) in
    ap (λ (l : List BoardState). l ++ states_at next rest) push
    ∙ (append_assoc states (state ∷ []) (states_at next rest)
    ∙ (ap (λ (s : BoardState). states ++ s ∷ states_at next rest) is
    ∙ (ap (λ (n : ℕ). states ++ state_at lane board ∷ states_at n rest) after
    ∙ (ap (λ (l : List (Standing L)). states ++ states_at lane l) (sym begins) ∙ so_far))))

pub lane_fits : {L : Type 0} (lane next k : ℕ) (board : Standing L) → lane ≤ k → next ≡ lane_after lane board
    → next ≤ k + 1
lane_fits lane next k board few is = let f = lane_few lane k board few in omega (arith, f, is)

-- ---- the boards of a document

-- no more boards are at a hub than there are
pub positions_few : {L : Type 0} (position : ℕ) (boards : List (Standing L))
    → length (positions_at_hub position boards) ≤ length boards
positions_few position [] = omega arith
positions_few position (Live lane ∷ boards) = let few = positions_few (position + 1) boards in omega (arith, few)
positions_few position (AtHub ∷ boards) = let few = positions_few (position + 1) boards in omega (arith, few)
positions_few position (Silent link ∷ boards) = let few = positions_few (position + 1) boards in omega (arith, few)
positions_few position (Down link ∷ boards) = let few = positions_few (position + 1) boards in omega (arith, few)

-- all lanes are taken, one for each position at a hub
pub positions_long : {L : Type 0} (position : ℕ) (boards : List (Standing L)) (shows : L → LinkReport)
    (settings : Limits) (specs : List BoardSpec) → AreReached shows settings specs boards
    → length (positions_at_hub position (all_at_hub boards)) ≡ length (lanes_in boards)
positions_long position [] shows settings specs are = refl
positions_long position (b ∷ boards) shows settings [] are = absurd are
positions_long position (Live lane ∷ boards) shows settings (s ∷ specs) are =
    ap suc (positions_long (position + 1) boards shows settings specs are.1)
positions_long position (AtHub ∷ boards) shows settings (s ∷ specs) are = absurd are.0
positions_long position (Silent link ∷ boards) shows settings (s ∷ specs) are =
    positions_long (position + 1) boards shows settings specs are.1
positions_long position (Down link ∷ boards) shows settings (s ∷ specs) are =
    positions_long (position + 1) boards shows settings specs are.1
