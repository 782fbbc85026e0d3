-- Boards whose lanes came back, and what came of each.
use Rattle.std.proofs.Common.{◌≡◌, ◌⊎◌, inl, inr, ℕ, ◌+◌, List, [], ◌∷◌, length, Option}
use Rattle.std.proofs.Common.{refl, sym, ap, subst, arith, ◌∙◌}
use Rattle.ipb_base.specs.Numbers.{payload_of}
use Rattle.links.specs.declared.link.Link.{Ghosts}
use Rattle.links.specs.Telling.{Telling}
use Rattle.world_model.specs.Settings.{Limits}
use Rattle.board_specs.specs.declared.spec.BoardSpec.{BoardSpec}
use Rattle.lane_record.specs.Coding.{Head}
use Rattle.script_steps.specs.declared.operation.Step.{Step}
use Rattle.hub_lane.specs.Lanes.{BoardStatus, LaneState}
use Rattle.hub_lane.specs.declared.greeting.Greeted.TheVariants.{Ready}
use Rattle.script_plans.specs.declared.greeting.Greeting.TheVariants as greeting
use Rattle.script_plans.specs.declared.board_run.ClientPart.{ClientPart}
use Rattle.script_plans.specs.Plan.{plans_on}
use Rattle.board_history.specs.Links.{LinkReport}
use Rattle.board_history.specs.Records.{IsPartlyPlanned}
use Rattle.board_greeting.specs.Boards.{AreReached, IsReached}
use Rattle.board_greeting.specs.Standings.{all_at_hub, lanes_in, positions_at_hub, with_lanes}
use Rattle.board_greeting.specs.declared.standing.Standing.{Standing}
use Rattle.board_greeting.specs.declared.standing.Standing.TheVariants.{Live, AtHub, Silent, Down}
use Rattle.board_greeting.specs.Reports.{shown_by}
use Rattle.session_run.specs.Clients.{bodies_of_plans}
use Rattle.session_run.specs.Lanes.{AllThree, HasGoneOn, IsRunOn, IsStoppedLane}
use Rattle.session_run.specs.Places.{AreCameOf}
use Rattle.board_greeting.proofs.Lanes.{lane_back}
use Rattle.board_greeting.proofs.Numbers.{lane_numbers}

-- ---- what came of a lane

stopped : {L : Type 0} (tells : L → Option Telling) (shows : L → LinkReport) (settings : Limits)
    (scripts : List (List Step)) (position : ℕ) (spec : BoardSpec) (old new : LaneState L)
    → IsReached settings spec (Ready old) (shows old.link) → (shows old.link).telling ≡ tells old.link
    → HasGoneOn tells scripts position old new
    → IsStoppedLane settings scripts position spec (tells new.link) new
stopped {L} tells shows settings scripts position spec old new reached same_link gone =
    let status : new.status ≡ old.status =
    ap (λ (h : Head). let s : BoardStatus = record { mtu = h.mtu; buffers = h.buffers; next = h.first } in s)
    gone.head in
    let to = lane_back tells (shows old.link) settings spec old new reached same_link gone.head in
    record {
      settings' = to.settings';
      board' = to.board';
      some = subst (λ (s : BoardStatus). IsPartlyPlanned
          (bodies_of_plans (plans_on position (greeting.Live (payload_of s.mtu)) scripts)) new.items) (sym status) gone.some;
    }

-- ---- every board

-- where clients ran to their end there are parts for each lane; elsewhere none
abbrev pub HaveParts : {L : Type 0} → List (List Step) → List ℕ → List (LaneState L) → List (List ClientPart) → Type 0
HaveParts scripts positions news parts = (parts ≡ []) ⊎ AllThree (IsRunOn scripts) positions news parts

none_came : {L : Type 0} (seen : Ghosts L) (settings : Limits) (scripts : List (List Step)) (position : ℕ)
    (specs : List BoardSpec) (boards : List (Standing L)) (news : List (LaneState L)) → length boards ≡ length specs
    → AreReached (shown_by seen) settings specs boards
    → AllThree (HasGoneOn seen.telling scripts) (positions_at_hub position (all_at_hub boards)) (lanes_in boards) news
    → AreCameOf (shown_by seen) settings scripts position specs (with_lanes (all_at_hub boards) news) []
none_came seen settings scripts position [] [] news long are gone = tt
none_came seen settings scripts position [] (b ∷ boards) news long are gone = absurd cc
none_came seen settings scripts position (s ∷ specs) [] news long are gone = absurd cc
none_came seen settings scripts position (s ∷ specs) (Live lane ∷ boards) [] long are gone = absurd gone
none_came seen settings scripts position (s ∷ specs) (Live lane ∷ boards) (n ∷ news) long are gone = (
  (stopped seen.telling (shown_by seen) settings scripts position s lane n are.0 refl gone.0, tt),
  none_came seen settings scripts (position + 1) specs boards news (omega (arith, long)) are.1 gone.1,
)
none_came seen settings scripts position (s ∷ specs) (AtHub ∷ boards) news long are gone = absurd are.0
none_came seen settings scripts position (s ∷ specs) (Silent link ∷ boards) news long are gone =
    (are.0, none_came seen settings scripts (position + 1) specs boards news (omega (arith, long)) are.1 gone)
none_came seen settings scripts position (s ∷ specs) (Down link ∷ boards) news long are gone =
    (are.0, none_came seen settings scripts (position + 1) specs boards news (omega (arith, long)) are.1 gone)

all_came : {L : Type 0} (seen : Ghosts L) (settings : Limits) (scripts : List (List Step)) (position : ℕ)
    (specs : List BoardSpec) (boards : List (Standing L)) (news : List (LaneState L)) (parts : List (List ClientPart))
    → length boards ≡ length specs → AreReached (shown_by seen) settings specs boards
    → AllThree (HasGoneOn seen.telling scripts) (positions_at_hub position (all_at_hub boards)) (lanes_in boards) news
    → AllThree (IsRunOn scripts) (positions_at_hub position (all_at_hub boards)) news parts
    → AreCameOf (shown_by seen) settings scripts position specs (with_lanes (all_at_hub boards) news) parts
all_came seen settings scripts position [] [] news parts long are gone ran = tt
all_came seen settings scripts position [] (b ∷ boards) news parts long are gone ran = absurd cc
all_came seen settings scripts position (s ∷ specs) [] news parts long are gone ran = absurd cc
all_came seen settings scripts position (s ∷ specs) (Live lane ∷ boards) [] parts long are gone ran = absurd gone
all_came seen settings scripts position (s ∷ specs) (Live lane ∷ boards) (n ∷ news) [] long are gone ran = absurd ran
all_came seen settings scripts position (s ∷ specs) (Live lane ∷ boards) (n ∷ news) (p ∷ parts) long are gone ran = (
  (stopped seen.telling (shown_by seen) settings scripts position s lane n are.0 refl gone.0, ran.0),
  all_came seen settings scripts (position + 1) specs boards news parts (omega (arith, long)) are.1 gone.1 ran.1,
)
all_came seen settings scripts position (s ∷ specs) (AtHub ∷ boards) news parts long are gone ran = absurd are.0
all_came seen settings scripts position (s ∷ specs) (Silent link ∷ boards) news parts long are gone ran =
    (are.0, all_came seen settings scripts (position + 1) specs boards news parts (omega (arith, long)) are.1 gone ran)
all_came seen settings scripts position (s ∷ specs) (Down link ∷ boards) news parts long are gone ran =
    (are.0, all_came seen settings scripts (position + 1) specs boards news parts (omega (arith, long)) are.1 gone ran)

pub boards_came : {L : Type 0} (seen : Ghosts L) (settings : Limits) (scripts : List (List Step))
    (specs : List BoardSpec) (boards : List (Standing L)) (news : List (LaneState L)) (parts : List (List ClientPart))
    → length boards ≡ length specs → AreReached (shown_by seen) settings specs boards
    → AllThree (HasGoneOn seen.telling scripts) (positions_at_hub 0 (all_at_hub boards)) (lanes_in boards) news
    → HaveParts scripts (positions_at_hub 0 (all_at_hub boards)) news parts
    → AreCameOf (shown_by seen) settings scripts 0 specs (with_lanes (all_at_hub boards) news) parts
boards_came seen settings scripts specs boards news parts long are gone (inl none) =
    rw none (none_came seen settings scripts 0 specs boards news long are gone)
boards_came seen settings scripts specs boards news parts long are gone (inr ran) =
    all_came seen settings scripts 0 specs boards news parts long are gone ran

-- lanes that came back have the numbers of those that went
pub gone_numbers : {L : Type 0} (tells : L → Option Telling) (scripts : List (List Step)) (positions : List ℕ)
    (olds news : List (LaneState L)) → AllThree (HasGoneOn tells scripts) positions olds news
    → lane_numbers news ≡ lane_numbers olds
gone_numbers tells scripts [] [] [] gone = refl
gone_numbers tells scripts [] [] (n ∷ news) gone = absurd gone
gone_numbers tells scripts [] (o ∷ olds) news gone = absurd gone
gone_numbers tells scripts (p ∷ positions) [] news gone = absurd gone
gone_numbers tells scripts (p ∷ positions) (o ∷ olds) [] gone = absurd gone
gone_numbers {L} tells scripts (p ∷ positions) (o ∷ olds) (n ∷ news) gone =
    let first : n.number ≡ o.number = ap (λ (h : Head). h.link) gone.0.head in
    ap (λ (k : ℕ). k ∷ lane_numbers news) first
    ∙ ap (λ (ks : List ℕ). o.number ∷ ks) (gone_numbers tells scripts positions olds news gone.1)
