-- The places of the bodies of connections.
use Rattle.std.proofs.Common.{◌≡◌, ◌≢◌, ℕ, List, [], ◌∷◌, ◌++◌, Option, Some, None, refl, sym, ap, subst, ◌∙◌}
use Rattle.std.specs.List.{AllByRecursion, cons_option, flat_map}
use Rattle.std.proofs.lemmas.List.{map-append}
use Rattle.board_specs.specs.declared.spec.BoardSpec.{BoardSpec}
use Rattle.world_model.specs.Settings.{Limits}
use Rattle.lane_record.specs.Outcomes.{place_of}
use Rattle.lane_record.specs.Submissions.{Submission}
use Rattle.script_plans.specs.Claims.{Rises}
use Rattle.script_plans.specs.declared.greeting.Greeting.{Greeting}
use Rattle.script_plans.specs.declared.greeting.Greeting.TheVariants.{Live, Silent, Down}
use Rattle.board_history.specs.Order.{Placed, RisesFrom, all_placed, order, bodies_with_places, places_of, with_place}
use Rattle.board_history.specs.Parts.{KeepsScripts}
use Rattle.board_history.proofs.OwnPlaces.{AreApart, counting_apart, sorted_apart}
use Rattle.board_history.specs.Links.{LinkReport}
use Rattle.board_history.specs.LinkRuns.{IsAsTold}
use Rattle.client_history.specs.Connections.{submitted_bodies, outcomes_of}
use Rattle.client_history.specs.Boards.{IsAskedOnlyIfLive, IsServedOver, ServedBoard, run_of}
use Rattle.client_history.specs.Shown.{PlacesDiffer, PlacesRise, places_in}
use Rattle.client_history.proofs.Parts.{bodies_shown, outcomes_shown}

-- ---- places

one_place : (body : List ℕ) (found : Option ℕ) (ps : List Placed) (ns : List ℕ) → places_of ps ≡ ns
    → places_of (with_place body found ++ ps) ≡ cons_option found ns
one_place body None ps ns same = same
one_place body (Some place) ps ns same = ap (λ (l : List ℕ). place ∷ l) same

pub places_are : (s : List Submission) → places_of (bodies_with_places (submitted_bodies s) (outcomes_of s)) ≡ places_in s
places_are [] = refl
places_are (x ∷ xs) =
    one_place x.body (place_of x.outcome) (bodies_with_places (submitted_bodies xs) (outcomes_of xs)) (places_in xs) (places_are xs)

all_places_are : (connections : List (List Submission))
    → places_of (all_placed (bodies_shown connections) (outcomes_shown connections)) ≡ flat_map places_in connections
all_places_are [] = refl
all_places_are (s ∷ ss) =
    let own = bodies_with_places (submitted_bodies s) (outcomes_of s) in
    let later = all_placed (bodies_shown ss) (outcomes_shown ss) in
    map-append (λ (p : Placed). p.place) own later
    ∙ ap (λ (l : List ℕ). l ++ places_of later) (places_are s)
    ∙ ap (λ (l : List ℕ). places_in s ++ l) (all_places_are ss)

-- ---- they rise

all_rise : (connections : List (List Submission))
    → KeepsScripts (bodies_shown connections) (outcomes_shown connections) → PlacesRise connections
all_rise [] keeps = tt
all_rise (s ∷ ss) keeps = (subst (RisesFrom 1) (places_are s) keeps.0, all_rise ss keeps.1)

none_rise : (connections : List (List Submission))
    → AllByRecursion (λ (s : List Submission). s ≡ []) connections → PlacesRise connections
none_rise [] none = tt
none_rise (s ∷ ss) none =
    (subst (λ (x : List Submission). RisesFrom 1 (places_in x)) (sym none.0) tt, none_rise ss none.1)

rise_as : (settings : Limits) (spec : BoardSpec) (served : ServedBoard) (link : LinkReport) (told : Greeting)
    → IsAskedOnlyIfLive told served.connections → IsAsTold settings spec (run_of spec served) link told
    → PlacesRise served.connections
rise_as settings spec served link (Live payload) asked is = all_rise served.connections is.any_link.script_order
rise_as settings spec served link Silent asked is = none_rise served.connections asked
rise_as settings spec served link Down asked is = none_rise served.connections asked

pub places_rise : (settings : Limits) (spec : BoardSpec) (served : ServedBoard) (link : LinkReport)
    → IsServedOver settings spec served link → PlacesRise served.connections
places_rise settings spec served link is =
    rise_as settings spec served link served.told is.asked is.as_told

-- ---- they differ

abbrev DiffersFrom : ℕ → ℕ → Type 0
DiffersFrom one other = one ≢ other

all_differ : (place : ℕ) (ps : List Placed) → AllByRecursion (λ (q : Placed). place ≢ q.place) ps
    → AllByRecursion (DiffersFrom place) (places_of ps)
all_differ place [] all = tt
all_differ place (p ∷ ps) all = (all.0, all_differ place ps all.1)

apart_differ : (ps : List Placed) → AreApart ps → Rises DiffersFrom (places_of ps)
apart_differ [] apart = tt
apart_differ (p ∷ ps) apart = (all_differ p.place ps apart.0, apart_differ ps apart.1)

no_places : (connections : List (List Submission)) → AllByRecursion (λ (s : List Submission). s ≡ []) connections
    → flat_map places_in connections ≡ []
no_places [] none = refl
no_places (s ∷ ss) none =
    ap (λ (x : List Submission). places_in x ++ flat_map places_in ss) none.0 ∙ no_places ss none.1

none_differ : (connections : List (List Submission)) → AllByRecursion (λ (s : List Submission). s ≡ []) connections
    → PlacesDiffer connections
none_differ connections none = subst (Rises DiffersFrom) (sym (no_places connections none)) tt

differ_as : (settings : Limits) (spec : BoardSpec) (served : ServedBoard) (link : LinkReport) (told : Greeting)
    → IsAskedOnlyIfLive told served.connections → IsAsTold settings spec (run_of spec served) link told
    → PlacesDiffer served.connections
differ_as settings spec served link (Live payload) asked is =
    let bodies = bodies_shown served.connections in
    let outcomes = outcomes_shown served.connections in
    subst (Rises DiffersFrom) (all_places_are served.connections)
    (apart_differ (all_placed bodies outcomes) (sorted_apart (all_placed bodies outcomes)
    (counting_apart 1 (order bodies outcomes) is.any_link.one_order)))
differ_as settings spec served link Silent asked is = none_differ served.connections asked
differ_as settings spec served link Down asked is = none_differ served.connections asked

pub places_differ : (settings : Limits) (spec : BoardSpec) (served : ServedBoard) (link : LinkReport)
    → IsServedOver settings spec served link → PlacesDiffer served.connections
places_differ settings spec served link is =
    differ_as settings spec served link served.told is.asked is.as_told
