-- Boards one after another: the links given back so far, and the runs.
use Rattle.std.proofs.Common.{◌≡◌, ℕ, ◌+◌, ◌<◌, ◌≤◌, ◌∙◌, inl, inr, Bool, true, List, [], ◌∷◌, ◌++◌, length, map}
use Rattle.std.proofs.Common.{refl, sym, ap, subst, arith, append_assoc, append-nil, length-append, take}
use Rattle.std.proofs.Common.{drop, get_or}
use Rattle.std.specs.Prelude.{IfOk, IsErrAnd, MatchResult, Result, Ok, Err, is_ok}
use Rattle.std.specs.List.{AllByRecursion}
use Rattle.std.proofs.lemmas.List.{drop_all, length-drop, length-map, length-take-le, map_push, take_more}
use Rattle.world_model.specs.Settings.{Limits}
use Rattle.ipb_outside.specs.Faults.{RisesExactlyIf}
use Rattle.links.specs.declared.rack.RackFault.{RackFault}
use Rattle.links.specs.declared.rack.RackFault.TheVariants as rack
use Rattle.board_specs.specs.declared.spec.BoardSpec.{BoardSpec}
use Rattle.script_steps.specs.declared.operation.Step.{Step}
use Rattle.script_plans.specs.declared.board_run.BoardRun.{BoardRun}
use Rattle.script_plans.specs.declared.board_run.ClientPart.{ClientPart}
use Rattle.board_history.specs.Links.{IsUntouched, LinkReport}
use Rattle.board_history.specs.LinkRuns.{AreRunsOver, IsRunOver}
use Rattle.board_greeting.specs.Boards.{AreFreshLinks, LeavesRoom, IsFreshLink}
use Rattle.session_run.specs.Boards.{OnRun}
use Rattle.session_run.specs.Places.{AreCameOf, IsCameOf, parts_after, parts_at}
use Rattle.board_greeting.specs.declared.standing.Standing.{Standing}
use Rattle.board_history.proofs.Lists.{begins_at}
use Rattle.session_run.specs.Faults.{run_fault}
use Rattle.session_run.specs.Links.{AreLeft, IsLeft}
use Rattle.session_run.specs.declared.session.RunFault.{RunFault}
use Rattle.session_run.specs.declared.session.RunFault.TheVariants as run

left_more : (board : ℕ) (specs rest : List BoardSpec) (scripts : List (List Step)) (links : List LinkReport)
    (spec : BoardSpec) (link : LinkReport) → AreLeft board specs scripts links → drop (length links) specs ≡ spec ∷ rest
    → IsLeft spec (board + length links) scripts link → AreLeft board specs scripts (links ++ link ∷ [])
left_more board [] rest scripts [] spec link left begins is = absurd cc
left_more board (s ∷ specs) rest scripts [] spec link left begins is =
    let same : s ≡ spec = cc in (
      subst (λ (t : BoardSpec). IsLeft t board scripts link) (sym same)
          (subst (λ n. IsLeft spec n scripts link) (omega arith) is),
      tt,
    )
left_more board [] rest scripts (l ∷ links) spec link left begins is = absurd left
left_more board (s ∷ specs) rest scripts (l ∷ links) spec link left begins is = (
  left.0,
  left_more (board + 1) specs rest scripts links spec link left.1 begins
      (subst (λ n. IsLeft spec n scripts link) (omega arith) is),
)

runs_more : (settings : Limits) (board : ℕ) (specs : List BoardSpec) (scripts : List (List Step)) (runs : List BoardRun)
    (links : List LinkReport) (spec : BoardSpec) (run : BoardRun) (link : LinkReport)
    → AreRunsOver settings board specs scripts runs links → IsRunOver settings spec (board + length specs) scripts run
    link
    → AreRunsOver settings board (specs ++ spec ∷ []) scripts (runs ++ run ∷ []) (links ++ link ∷ [])
runs_more settings board [] scripts [] [] spec run link are is =
    (subst (λ n. IsRunOver settings spec n scripts run link) (omega arith) is, tt)
runs_more settings board [] scripts [] (l ∷ links) spec run link are is = absurd are
runs_more settings board [] scripts (r ∷ runs) links spec run link are is = absurd are
runs_more settings board (s ∷ specs) scripts [] links spec run link are is = absurd are
runs_more settings board (s ∷ specs) scripts (r ∷ runs) [] spec run link are is = absurd are
runs_more settings board (s ∷ specs) scripts (r ∷ runs) (l ∷ links) spec run link are is = (
  are.0,
  runs_more settings (board + 1) specs scripts runs links spec run link are.1
      (subst (λ n. IsRunOver settings spec n scripts run link) (omega arith) is),
)

-- so many boards ran, and their links were given back
pub record RanBoards {L : Type 0} (shows : L → LinkReport) (settings : Limits) (k : ℕ) (specs : List BoardSpec)
    (scripts : List (List Step)) (runs : List BoardRun) (is_whole : Bool) (kept now : List L) : Type 0 where
  pub links : List L
  pub grown : now ≡ kept ++ links
  pub many : length links ≡ k
  pub left : AreLeft 0 specs scripts (map shows links)
  pub ran : is_whole ≡ true → AreRunsOver settings 0 (take k specs) scripts runs (map shows links)

pub none_ran : {L : Type 0} (shows : L → LinkReport) (settings : Limits) (specs : List BoardSpec)
    (scripts : List (List Step)) (kept : List L) → RanBoards shows settings 0 specs scripts [] true kept kept
none_ran shows settings specs scripts kept = record {
  links = [];
  grown = sym (append-nil kept);
  many = refl;
  left = tt;
  ran = λ e. tt;
}

none_of : {L : Type 0} (shows : L → LinkReport) (settings : Limits) (scripts : List (List Step)) (k : ℕ)
    (specs : List BoardSpec) (parts : List (List ClientPart)) → AreCameOf shows settings scripts k specs [] parts
    → 0 < length specs → ⊥
none_of shows settings scripts k [] parts came some = omega (arith, some)
none_of shows settings scripts k (s ∷ specs) parts came some = came

-- what came of the next board, and of those behind it
pub record NextBoard {L : Type 0} (shows : L → LinkReport) (settings : Limits) (scripts : List (List Step)) (k : ℕ)
    (specs : List BoardSpec) (spec : BoardSpec) (board : Standing L) (others : List (Standing L))
    (parts : List (List ClientPart)) : Type 0 where
  pub came : IsCameOf shows settings scripts k spec board (parts_at board parts)
  pub later : AreCameOf shows settings scripts (k + 1) (drop (k + 1) specs) others (parts_after board parts)

pub next_board : {L : Type 0} (shows : L → LinkReport) (settings : Limits) (scripts : List (List Step)) (k : ℕ)
    (specs : List BoardSpec) (spec : BoardSpec) (boards others : List (Standing L)) (board : Standing L)
    (parts : List (List ClientPart)) → AreCameOf shows settings scripts k (drop k specs) boards parts
    → k < length specs → spec ≡ get_or specs k spec → boards ≡ board ∷ others
    → NextBoard shows settings scripts k specs spec board others parts
next_board {L} shows settings scripts k specs spec boards others board parts came within is here =
    let both = subst (λ (ss : List BoardSpec). AreCameOf shows settings scripts k ss (board ∷ others) parts)
    (begins_at specs k spec within is)
    (subst (λ (bs : List (Standing L)). AreCameOf shows settings scripts k (drop k specs) bs parts) here came) in
    record { came = both.0; later = both.1 }

-- some board is left
pub some_left : {L : Type 0} (shows : L → LinkReport) (settings : Limits) (scripts : List (List Step)) (k : ℕ)
    (specs : List BoardSpec) (boards : List (Standing L)) (parts : List (List ClientPart))
    → AreCameOf shows settings scripts k (drop k specs) boards parts → k < length specs → 0 < length boards
some_left shows settings scripts k specs [] parts came within =
    let long = length-drop k specs in
    absurd (none_of shows settings scripts k (drop k specs) parts came (omega (arith, long, within)))
some_left shows settings scripts k specs (b ∷ boards) parts came within = omega arith

-- no more links than boards
pub left_within : (board : ℕ) (specs : List BoardSpec) (scripts : List (List Step)) (links : List LinkReport)
    → AreLeft board specs scripts links → length links ≤ length specs
left_within board specs scripts [] left = omega arith
left_within board [] scripts (l ∷ links) left = absurd left
left_within board (s ∷ specs) scripts (l ∷ links) left =
    let rest = left_within (board + 1) specs scripts links left.1 in omega (arith, rest)

-- none is left behind the last one
pub none_left : {L : Type 0} (shows : L → LinkReport) (settings : Limits) (scripts : List (List Step)) (k : ℕ)
    (specs : List BoardSpec) (boards : List (Standing L)) (parts : List (List ClientPart))
    → AreCameOf shows settings scripts k (drop k specs) boards parts → length specs ≤ k → boards ≡ []
none_left shows settings scripts k specs [] parts came over = refl
none_left shows settings scripts k specs (b ∷ boards) parts came over =
    absurd (subst (λ (ss : List BoardSpec). AreCameOf shows settings scripts k ss (b ∷ boards) parts)
    (drop_all k specs over) came)

pub room_for_one : {L : Type 0} (shows : L → LinkReport) (settings : Limits) (k : ℕ) (specs : List BoardSpec)
    (scripts : List (List Step)) (runs : List BoardRun) (is_whole : Bool) (kept now : List L) (made : ℕ)
    → RanBoards shows settings k specs scripts runs is_whole kept now → LeavesRoom (length kept) made (length specs)
    → k < length specs → length now < made
room_for_one shows settings k specs scripts runs is_whole kept now made so_far (inl none) within =
    absurd (omega (arith, none, within))
room_for_one shows settings k specs scripts runs is_whole kept now made so_far (inr room) within =
    let e = ap (λ l. length l) so_far.grown in let f = length-append kept so_far.links in let m = so_far.many in
    omega (arith, e, f, m, room, within)

run_there : {E : Type 0} (P : BoardRun → Type 0) (Q : BoardRun → Type 0) (R : Type 0) (result : Result BoardRun E)
    → IfOk result P → OnRun result Q → ((run : BoardRun) → P run → Q run → R) → R
run_there P Q R (Ok run) p q leads = leads run p q
run_there P Q R (Err e) p q leads = absurd q

whole_more : {L : Type 0} (shows : L → LinkReport) (settings : Limits) (k : ℕ) (specs : List BoardSpec)
    (scripts : List (List Step)) (runs later : List BoardRun) (links : List L) (spec : BoardSpec) (run : BoardRun)
    (link : L) → AreRunsOver settings 0 (take k specs) scripts runs (map shows links) → k < length specs
    → spec ≡ get_or specs k spec → IsRunOver settings spec k scripts run (shows link) → later ≡ runs ++ run ∷ []
    → AreRunsOver settings 0 (take (k + 1) specs) scripts later (map shows (links ++ link ∷ []))
whole_more {L} shows settings k specs scripts runs later links spec run link are within is over is_later =
    let few : length (take k specs) ≡ k = length-take-le k specs (omega (arith, within)) in
    let front : take (k + 1) specs ≡ take k specs ++ spec ∷ [] = take_more specs k spec within
    ∙ ap (λ (s : BoardSpec). take k specs ++ s ∷ []) (sym is) in
    rw (front, is_later, map_push shows links link)
    (runs_more settings 0 (take k specs) scripts runs (map shows links) spec run (shows link) are
    (subst (λ n. IsRunOver settings spec n scripts run (shows link)) (omega (arith, few)) over))

pub board_more : {L E : Type 0} (shows : L → LinkReport) (settings : Limits) (k : ℕ) (specs : List BoardSpec)
    (scripts : List (List Step)) (runs later : List BoardRun) (is_whole added : Bool) (kept now new : List L)
    (spec : BoardSpec) (link : L) (result : Result BoardRun E)
    → RanBoards shows settings k specs scripts runs is_whole kept now → k < length specs → spec ≡ get_or specs k spec
    → new ≡ now ++ link ∷ [] → IsLeft spec k scripts (shows link)
    → IfOk result (λ run. IsRunOver settings spec k scripts run (shows link))
    → (added ≡ true → is_whole ≡ true) → (added ≡ true → OnRun result (λ run. later ≡ runs ++ run ∷ []))
    → RanBoards shows settings (k + 1) specs scripts later added kept new
board_more {L} {E} shows settings k specs scripts runs later is_whole added kept now new spec link result so_far
    within is
    push left ran was adds =
    let links = so_far.links in
    let count = length-map links shows in
    let many = so_far.many in
    let place : length (map shows links) ≡ k = count ∙ many in
    record {
      links = links ++ link ∷ [];
      grown = push ∙ (ap (λ (l : List L). l ++ link ∷ []) so_far.grown ∙ append_assoc kept links (link ∷ []));
      many = length-append links (link ∷ []) ∙ ap (λ n. n + 1) many;
      left = subst (AreLeft 0 specs scripts) (sym (map_push shows links link))
          (left_more 0 specs (drop (k + 1) specs) scripts (map shows links) spec (shows link) so_far.left
          (ap (λ n. drop n specs) place ∙ begins_at specs k spec within is)
          (subst (λ n. IsLeft spec n scripts (shows link)) (omega (arith, place)) left));
      ran = λ e. run_there (λ (run : BoardRun). IsRunOver settings spec k scripts run (shows link))
          (λ (run : BoardRun). later ≡ runs ++ run ∷ [])
          (AreRunsOver settings 0 (take (k + 1) specs) scripts later (map shows (links ++ link ∷ []))) result ran
          (adds e)
          (λ run over is_later. whole_more shows settings k specs scripts runs later links spec run link
          (so_far.ran (was e)) within is over is_later);
    }

abbrev pub FreshLaw : Type 0
FreshLaw = (settings : Limits) (spec : BoardSpec) (board : ℕ) (scripts : List (List Step)) (link : LinkReport)
    → IsFreshLink settings spec link → IsLeft spec board scripts link

pub fresh_are_left : FreshLaw → (settings : Limits) (board : ℕ) (specs : List BoardSpec) (scripts : List (List Step))
    (links : List LinkReport) → AreFreshLinks settings specs links → AreLeft board specs scripts links
fresh_are_left law settings board specs scripts [] are = tt
fresh_are_left law settings board [] scripts (l ∷ links) are = absurd are
fresh_are_left law settings board (s ∷ specs) scripts (l ∷ links) are = (
  law settings s board scripts l are.0,
  fresh_are_left law settings (board + 1) specs scripts links are.1,
)

pub untouched_all : (settings : Limits) (specs : List BoardSpec) (links : List LinkReport)
    → AreFreshLinks settings specs links → AllByRecursion IsUntouched links
untouched_all settings specs [] are = tt
untouched_all settings [] (l ∷ links) are = absurd are
untouched_all settings (s ∷ specs) (l ∷ links) are = (are.0.untouched, untouched_all settings specs links are.1)

-- a rack's fault that is handed on is counted as it was
pub fault_counted : {X Y : Type 0} (fault : RackFault) (failed : Result X RackFault) (result : Result Y RunFault)
    (before now : ℕ) → failed ≡ Err fault → IsErrAnd result (λ told. told ≡ run_fault fault)
    → RisesExactlyIf (failed ≡ Err rack.Failed) before now → RisesExactlyIf (result ≡ Err run.Rack) before now
fault_counted fault failed (Ok runs) before now same is rises = absurd is
fault_counted rack.Failed failed (Err told) before now same is rises =
    (λ e. rises.0 same, rises.1, λ other. absurd (other (ap Err is)))
fault_counted rack.NoMemory failed (Err told) before now same is rises =
    (λ e. absurd cc, rises.1, λ other. rises.2 (λ e. cc))

-- the runs where memory ran out nowhere, and else a fault that is none of the rack
pub ran_still : {A E D : Type 0} (P : A → Type 0) (Q : E → Type 0) (ran : Result A E) (result : Result A D)
    → MatchResult ran (λ runs. result ≡ Ok runs) Q → is_ok result ≡ is_ok ran → IfOk ran P → IfOk result P
ran_still P Q (Ok runs) result same variant there = subst (λ r. IfOk r P) (sym same) there
ran_still P Q (Err fault) (Ok runs) same variant there = absurd cc
ran_still P Q (Err fault) (Err told) same variant there = tt

pub rack_stands : {A E : Type 0} (ran : Result A E) (result : Result A RunFault)
    → MatchResult ran (λ runs. result ≡ Ok runs) (λ fault. IsErrAnd result (λ told. told ≡ run.NoMemory))
    → result ≡ Err run.Rack → ⊥
rack_stands (Ok runs) result same failed = absurd cc
rack_stands (Err fault) (Ok runs) same failed = absurd same
rack_stands (Err fault) (Err told) same failed = absurd cc
