-- What lines tell of bodies, line by line, and the first that tells another thing than one before it.
use Rattle.std.proofs.Common.{◌≡◌, ◌≢◌, ◌⊎◌, ℕ, zero, suc, ◌<◌, List, [], ◌∷◌, ◌++◌, Option, Some, None}
use Rattle.std.proofs.Common.{refl, sym, ap, subst, ◌∙◌, inl, inr, arith, length, drop, take, get_or}
use Rattle.std.specs.BTreeMap.{BTreeMap}
use Rattle.std.specs.List.{AllByRecursion, Any, slice_get}
use Rattle.std.specs.Option.{unwrap_or}
use Rattle.std.proofs.lemmas.Option.{none-some, same_Some, slice_get_read}
use Rattle.ipb_base.proofs.AllLemmas.{AllByRecursion-append}
use Rattle.board_specs.specs.declared.spec.BoardSpec.{BoardSpec}
use Rattle.script_plans.proofs.Lookups.{all_at}
use Rattle.script_plans.specs.Claims.{Rises}
use Rattle.script_plans.specs.declared.board_run.BoardRun.{BoardRun}
use Rattle.script_steps.specs.declared.operation.Step.{Step}
use Rattle.transcript_reader.specs.declared.shown.Shown.{Shown}
use Rattle.run_audit.specs.declared.fate.Fate.{Fate}
use Rattle.run_audit.specs.Agreeing.{IsApartAt}
use Rattle.run_audit.specs.Apart.{Body, Fates, body_in, fate_of, only_body}
use Rattle.run_audit.specs.AskedLines.{AskedLine, pieces_of}
use Rattle.run_audit.specs.Replaying.{AreReplayed}
use Rattle.run_audit.specs.Results.{TellApart, fate_in}
use Rattle.run_audit.specs.Steps.{IsFirstBroken}
use Rattle.run_audit.proofs.ApartBodies.{StandsIn, cases_body, only_within, run_pieces, stands_in}
use Rattle.run_audit.proofs.FirstBroken.{first_same}
use Rattle.run_audit.proofs.InText.{HoldsAt, HoldsNowhere, first_at, nowhere}
use Rattle.run_audit.proofs.Misplacing.{split_at}
use Rattle.run_audit.proofs.TextOrder.{ComesBefore, lines_rise}

-- ---- lists

module _ {T : Type 0} (P : T → Type 0) where
  any_front : (xs ys : List T) (k : ℕ) (x : T) → k < length xs → get_or xs k x ≡ x → P x → Any P (xs ++ ys)
  any_front [] ys k x within is holds = absurd (omega arith)
  any_front (y ∷ xs) ys zero x within is holds = (zero, x, omega arith, is, holds)
  any_front (y ∷ xs) ys (suc k) x within is holds =
      let rest : Any P (xs ++ ys) = any_front xs ys k x (omega arith) is holds in
      (suc rest.0, rest.1, omega (arith, rest.2), rest.3, rest.4)

  any_last : (xs : List T) (x : T) → P x → Any P (xs ++ x ∷ [])
  any_last [] x holds = (zero, x, omega arith, refl, holds)
  any_last (y ∷ xs) x holds =
      let rest : Any P (xs ++ x ∷ []) = any_last xs x holds in
      (suc rest.0, rest.1, omega (arith, rest.2), rest.3, rest.4)

  all_front : (xs ys : List T) → AllByRecursion P (xs ++ ys) → AllByRecursion P xs
  all_front [] ys all = tt
  all_front (x ∷ xs) ys all = (all.0, all_front xs ys all.1)

  all_behind : (xs : List T) (x : T) (ys : List T) → AllByRecursion P (xs ++ x ∷ ys) → P x
  all_behind [] x ys all = all.0
  all_behind (y ∷ xs) x ys all = all_behind xs x ys all.1

  all_of : (Q : T → Type 0) (xs : List T) → ((x : T) → P x → Q x) → AllByRecursion P xs → AllByRecursion Q xs
  all_of Q [] f all = tt
  all_of Q (x ∷ xs) f all = (f x all.0, all_of Q xs f all.1)

  all_read : (xs : List T) (k : ℕ) (x : T) → k < length xs → get_or xs k x ≡ x → AllByRecursion P xs → P x
  all_read xs k x within is all = all_at P xs k x (slice_get_read xs (length xs) k x refl within (sym is)) all

-- ---- what was told

-- what the line tells of the body of its operation
abbrev pub fate_told : AskedLine → Fate
fate_told asking = fate_in asking.shows.0

module _ (body_at : AskedLine → Option Body) where
  -- what a line tells is what was told of its body
  abbrev pub TellsAs : Fates → AskedLine → Type 0
  TellsAs told line = (body : Body) → body_at line ≡ Some body → fate_of told body ≡ Some (fate_told line)

  -- a line that tells this of this body
  abbrev pub Tells : Body → Fate → AskedLine → Type 0
  Tells body fate line = (body_at line ≡ Some body) × (fate_told line ≡ fate)

  -- This was told by these lines, of which no two tell different things of one body.
  pub record IsTold (told : Fates) (lines : List AskedLine) : Type 0 where
    pub each : AllByRecursion (TellsAs told) lines
    pub some : (body : Body) (fate : Fate) → fate_of told body ≡ Some fate → Any (Tells body fate) lines

  pub told_none : (told : Fates) → ((body : Body) → fate_of told body ≡ None) → IsTold told []
  told_none told none = record {
    each = tt;
    some = λ body fate is. absurd (none-some fate (sym (none body) ∙ is));
  }

  -- a line more that tells of no body
  pub told_past : (told : Fates) (lines : List AskedLine) (line : AskedLine) → IsTold told lines
      → body_at line ≡ None → IsTold told (lines ++ line ∷ [])
  told_past told lines line so_far none = record {
    each = AllByRecursion-append (TellsAs told) lines (line ∷ []) so_far.each
        ((λ body is. absurd (none-some body (sym none ∙ is))), tt);
    some = λ body fate is.
        let any : Any (Tells body fate) lines = so_far.some body fate is in
        any_front (Tells body fate) lines (line ∷ []) any.0 any.1 any.2 any.3 any.4;
  }

  module _ (told : Fates) (lines : List AskedLine) (line : AskedLine) (so_far : IsTold told lines)
      (body : Body) (at : body_at line ≡ Some body) (first : Fate)
      (is_first : first ≡ unwrap_or (fate_of told body) (fate_told line)) where
    first_cases : (before : Option Fate) → first ≡ unwrap_or before (fate_told line)
        → (before ≡ None × (first ≡ fate_told line)) ⊎ (before ≡ Some first)
    first_cases None is = inl (refl, is)
    first_cases (Some fate) is = inr (ap Some (sym is))

    -- what was told with a line more that tells the same
    module _ (next : Fates) (same : first ≡ fate_told line) (here : fate_of next body ≡ Some first)
        (others : (other : Body) → other ≢ body → fate_of next other ≡ fate_of told other) where
      still_tells : (earlier : AskedLine) → TellsAs told earlier → TellsAs next earlier
      still_tells earlier tells key is = elim (cases_body key body) [
        | inl one ↦
            let was : fate_of told body ≡ Some (fate_told earlier) = tells body (is ∙ ap Some one) in
            let told_first : first ≡ fate_told earlier =
            is_first ∙ ap (λ fate. unwrap_or fate (fate_told line)) was in
            ap (fate_of next) one ∙ (here ∙ ap Some told_first)
        | inr other ↦ others key other ∙ tells key is
      ]

      itself_tells : TellsAs next line
      itself_tells key is =
          let one : key ≡ body = same_Some key body (sym is ∙ at) in
          ap (fate_of next) one ∙ (here ∙ ap Some same)

      some_tells : (key : Body) (fate : Fate) → fate_of next key ≡ Some fate → Any (Tells key fate) (lines ++ line ∷ [])
      some_tells key fate is = elim (cases_body key body) [
        | inl one ↦
            let told_fate : first ≡ fate = same_Some first fate (sym here ∙ (ap (fate_of next) (sym one) ∙ is)) in
            any_last (Tells key fate) lines line (at ∙ ap Some (sym one), sym same ∙ told_fate)
        | inr other ↦
            let any : Any (Tells key fate) lines = so_far.some key fate (sym (others key other) ∙ is) in
            any_front (Tells key fate) lines (line ∷ []) any.0 any.1 any.2 any.3 any.4
      ]

      pub told_more : IsTold next (lines ++ line ∷ [])
      told_more = record {
        each = AllByRecursion-append (TellsAs next) lines (line ∷ [])
            (all_of (TellsAs told) (TellsAs next) lines still_tells so_far.each) (itself_tells, tt);
        some = some_tells;
      }

    -- one that tells another thing than a line before it
    pub told_apart : first ≢ fate_told line
        → Any (λ earlier. (body_at earlier ≡ Some body) × (fate_told earlier ≢ fate_told line)) lines
    told_apart apart = elim (first_cases (fate_of told body) is_first) [
      | inl none ↦ absurd (apart none.1)
      | inr some ↦
          let any : Any (Tells body first) lines = so_far.some body first some in
          (any.0, any.1, any.2, any.3, (any.4.0, λ same. apart (sym any.4.1 ∙ same)))
    ]

-- ---- lines of a session

abbrev body_of : ℕ → ℕ → ℕ → Option Body
body_of board client body = Some (board, client, body)

-- this line tells another thing of its body than one of these
abbrev pub IsApartBehind : List BoardSpec → List (List Step) → List AskedLine → AskedLine → Type 0
IsApartBehind boards scripts before line = Any (λ earlier. TellApart boards scripts earlier line) before

module _ (boards : List BoardSpec) (scripts : List (List Step)) (shown : Shown) (runs : List BoardRun)
    (lines : List AskedLine) (are : AreReplayed boards scripts shown runs lines) where
  bodies : (asking : AskedLine) → body_in runs asking ≡ only_body asking (pieces_of boards scripts asking)
  bodies asking = ap (only_body asking) (run_pieces boards scripts lines runs are.runs' asking)

  tell_apart : (earlier later : AskedLine) (body : Body) → body_in runs earlier ≡ Some body
      → body_in runs later ≡ Some body → fate_told earlier ≢ fate_told later → TellApart boards scripts earlier later
  tell_apart earlier later body at at' apart =
      let one : StandsIn earlier (pieces_of boards scripts earlier) body =
      stands_in earlier (pieces_of boards scripts earlier) body (sym (bodies earlier) ∙ at) in
      let other : StandsIn later (pieces_of boards scripts later) body =
      stands_in later (pieces_of boards scripts later) body (sym (bodies later) ∙ at') in
      record {
        client = one.client ∙ sym other.client;
        board = one.board ∙ sym other.board;
        body = body.2;
        within_earlier = one.within;
        within_later = other.within;
        apart = apart;
      }

  none_apart : (told : Fates) (before : List AskedLine) → IsTold (body_in runs) told before
      → HoldsNowhere (IsApartBehind boards scripts) before
  none_apart told before is front line behind all any =
      let earlier = any.1 in
      let apart : TellApart boards scripts earlier line = any.4 in
      let Tell = TellsAs (body_in runs) told in
      let each : AllByRecursion Tell (front ++ line ∷ behind) = subst (AllByRecursion Tell) all is.each in
      let first : Tell earlier =
      all_read Tell front any.0 earlier any.2 any.3 (all_front Tell front (line ∷ behind) each) in
      let next : Tell line = all_behind Tell front line behind each in
      let body : Body = (line.ask.op.board, line.client, apart.body) in
      let at : body_in runs line ≡ Some body =
      bodies line ∙ only_within line (pieces_of boards scripts line) apart.body apart.within_later.0
      apart.within_later.1 in
      let at' : body_in runs earlier ≡ Some body =
      bodies earlier
      ∙ (only_within earlier (pieces_of boards scripts earlier) apart.body apart.within_earlier.0 apart.within_earlier.1
      ∙ (ap (λ (b : ℕ). body_of b earlier.client apart.body) apart.board
      ∙ ap (λ (c : ℕ). body_of line.ask.op.board c apart.body) apart.client)) in
      apart.apart (same_Some (fate_told earlier) (fate_told line) (sym (first body at') ∙ next body at))

  apart_at : (line : ℕ) → HoldsAt (IsApartBehind boards scripts) lines line → IsApartAt boards scripts lines line
  apart_at line at = record {
    before = at.before;
    asking = at.asking;
    behind = at.behind;
    all = at.all;
    here = at.here;
    wrong = at.holds;
  }

  holds_at : (line : ℕ) → IsApartAt boards scripts lines line → HoldsAt (IsApartBehind boards scripts) lines line
  holds_at line at = record {
    before = at.before;
    asking = at.asking;
    behind = at.behind;
    all = at.all;
    here = at.here;
    holds = at.wrong;
  }

  -- No line tells another thing of its body than one before it.
  pub apart_none : (told : Fates) → IsTold (body_in runs) told lines
      → IsFirstBroken (IsApartAt boards scripts lines) None
  apart_none told is =
      first_same (HoldsAt (IsApartBehind boards scripts) lines) (IsApartAt boards scripts lines) apart_at holds_at None
      (nowhere (IsApartBehind boards scripts) lines (none_apart told lines is))

  -- This line does, and none before it.
  pub apart_found : (told : Fates) (i : ℕ) (line : AskedLine) → slice_get lines i ≡ Some line
      → IsTold (body_in runs) told (take i lines) → (body : Body) → body_in runs line ≡ Some body → (first : Fate)
      → first ≡ unwrap_or (fate_of told body) (fate_told line) → first ≢ fate_told line
      → IsFirstBroken (IsApartAt boards scripts lines) (Some line.line)
  apart_found told i line there is body at first is_first apart =
      let rises : Rises ComesBefore lines = subst (Rises ComesBefore) (sym are.lines') (lines_rise scripts shown) in
      let any : Any (λ earlier. (body_in runs earlier ≡ Some body) × (fate_told earlier ≢ fate_told line)) (take i lines) =
      told_apart (body_in runs) told (take i lines) line is body at first is_first apart in
      let behind : IsApartBehind boards scripts (take i lines) line =
      (any.0, any.1, any.2, any.3, tell_apart any.1 line body any.4.0 at any.4.1) in
      first_same (HoldsAt (IsApartBehind boards scripts) lines) (IsApartAt boards scripts lines) apart_at holds_at
      (Some line.line)
      (first_at (IsApartBehind boards scripts) lines (take i lines) line (drop (suc i) lines) rises
      (split_at lines i line there) behind (none_apart told (take i lines) is))
