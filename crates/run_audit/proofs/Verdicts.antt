-- From the first lines that break rules to the verdict.
use Rattle.std.proofs.Common.{◌≡◌, ◌<◌, ◌+◌, ℕ, suc, List, [], ◌∷◌, Option, Some, None, length, map, arith, subst, sym, ap, refl, ◌∙◌, ◌^◌}
use Rattle.std.specs.List.{AllZip}
use Rattle.std.proofs.lemmas.List.{length-append, length-map}
use Rattle.board_specs.specs.declared.spec.BoardSpec.{BoardSpec}
use Rattle.script_steps.specs.declared.operation.Step.{Step}
use Rattle.script_lang.specs.declared.session.Session.{Session}
use Rattle.transcript_reader.specs.declared.shown.Shown.{Shown}
use Rattle.transcript_reader.specs.Entries.{IsLineOf, clients_from, entries}
use Rattle.transcript_reader.specs.Shown.{IsShownBy}
use Rattle.run_audit.specs.declared.verdict.AuditWhy.{AuditWhy}
use Rattle.run_audit.specs.declared.verdict.AuditWhy.TheVariants.{Form, Partial, Place, Result, Count}
use Rattle.run_audit.specs.Verdicts.{Breaks, BreaksFirst, CanBeAudited, Fits, rule_number}
use Rattle.script_plans.specs.Plan.{ClientBodies}
use Rattle.run_audit.specs.declared.asking.AskedOp.{AskedOp}
use Rattle.run_audit.specs.AskedLines.{AskedLine, asked_lines}
use Rattle.script_plans.specs.declared.board_run.BoardRun.{BoardRun}
use Rattle.run_audit.specs.Replaying.{AreReplayed}
use Rattle.run_audit.specs.Steps.{AreOf, IsFirstBroken, asking, plans_from, replays_from}

-- ---- how many lines there are

pub boards_long : (boards : List BoardSpec) (scripts : List (List Step))
    → length (entries boards scripts) ≡ length (clients_from 1 scripts) + length boards
boards_long boards scripts = simp (length-append, length-map)

pub zip_long : {A B : Type 0} (R : A → B → Type 0) (xs : List A) (ys : List B) → AllZip R xs ys → length ys ≡ length xs
zip_long R [] [] all = refl
zip_long R [] (y ∷ ys) all = absurd all
zip_long R (x ∷ xs) [] all = absurd all
zip_long R (x ∷ xs) (y ∷ ys) all = ap suc (zip_long R xs ys all.1)

-- ---- the first rule

module _ (session : Session) (scripts : List (List Step)) (shown : Shown) where
  abbrev pub Whole : AuditWhy → Type 0
  Whole why = (line : ℕ) → ¬ Breaks why session scripts shown line

  -- this is the first line that breaks the rule, or none does
  abbrev pub Found : AuditWhy → Option ℕ → Type 0
  Found why found = IsFirstBroken (λ at. Breaks why session scripts shown at) found

  -- no rule of a lower number is broken
  abbrev WholeBelow : ℕ → Type 0
  WholeBelow number = (other : AuditWhy) (at : ℕ) → rule_number other < number
      → ¬ Breaks other session scripts shown at

  pub whole_of : (why : AuditWhy) {found : Option ℕ} → Found why found → found ≡ None → Whole why
  whole_of why first none = subst (Found why) none first

  below_partial : WholeBelow 2
  below_partial Form at less b = b
  below_partial Partial at less b = absurd (omega arith)
  below_partial Place at less b = absurd (omega arith)
  below_partial Result at less b = absurd (omega arith)
  below_partial Count at less b = absurd (omega arith)

  below_place : Whole Partial → WholeBelow 3
  below_place partial Form at less b = b
  below_place partial Partial at less b = partial at b
  below_place partial Place at less b = absurd (omega arith)
  below_place partial Result at less b = absurd (omega arith)
  below_place partial Count at less b = absurd (omega arith)

  below_result : Whole Partial → Whole Place → WholeBelow 4
  below_result partial place Form at less b = b
  below_result partial place Partial at less b = partial at b
  below_result partial place Place at less b = place at b
  below_result partial place Result at less b = absurd (omega arith)
  below_result partial place Count at less b = absurd (omega arith)

  below_count : Whole Partial → Whole Place → Whole Result → WholeBelow 5
  below_count partial place result Form at less b = b
  below_count partial place result Partial at less b = partial at b
  below_count partial place result Place at less b = place at b
  below_count partial place result Result at less b = result at b
  below_count partial place result Count at less b = absurd (omega arith)

  all_whole : Whole Partial → Whole Place → Whole Result → Whole Count → (why : AuditWhy) → Whole why
  all_whole partial place result count Form line b = b
  all_whole partial place result count Partial line b = partial line b
  all_whole partial place result count Place line b = place line b
  all_whole partial place result count Result line b = result line b
  all_whole partial place result count Count line b = count line b

  module _ (text : List ℕ) (is : IsShownBy session.boards scripts text shown) where
    breaks_first : (why : AuditWhy) (line : ℕ) (found : Option ℕ) → Found why found → found ≡ Some line
        → WholeBelow (rule_number why) → BreaksFirst session scripts text line why
    breaks_first why line found first some lowest =
        let broken = subst (Found why) some first in record {
          shown = shown;
          is_shown = is;
          broken = broken.0;
          first = broken.1;
          lowest = lowest;
        }

    pub breaks_partial : {line : ℕ} {found : Option ℕ} → Found Partial found → found ≡ Some line
        → BreaksFirst session scripts text line Partial
    breaks_partial {line} {found} first some = breaks_first Partial line found first some below_partial

    pub breaks_place : {line : ℕ} {found : Option ℕ} → Whole Partial → Found Place found → found ≡ Some line
        → BreaksFirst session scripts text line Place
    breaks_place {line} {found} partial first some = breaks_first Place line found first some (below_place partial)

    pub breaks_result : {line : ℕ} {found : Option ℕ} → Whole Partial → Whole Place → Found Result found
        → found ≡ Some line → BreaksFirst session scripts text line Result
    breaks_result {line} {found} partial place first some =
        breaks_first Result line found first some (below_result partial place)

    pub breaks_count : {line : ℕ} {found : Option ℕ} → Whole Partial → Whole Place → Whole Result → Found Count found
        → found ≡ Some line → BreaksFirst session scripts text line Count
    breaks_count {line} {found} partial place result first some =
        breaks_first Count line found first some (below_count partial place result)

    pub fits : Whole Partial → Whole Place → Whole Result → Whole Count → Fits session scripts text
    fits partial place result count = record {
      shown = shown;
      is_shown = is;
      whole = all_whole partial place result count;
    }

-- ---- what the code keeps

pub they_are : {boards own : List BoardSpec} (scripts : List (List Step)) (shown : Shown)
    {plans made : List (List ClientBodies)} {asked all : List AskedOp} → own ≡ boards → made ≡ plans_from 0 own scripts
    → map asking all ≡ asked_lines scripts shown → plans ≡ made → asked ≡ all
    → AreOf boards scripts shown plans (map asking asked)
they_are scripts shown same made_is all_is plans_is asked_is = record {
  plans' = plans_is ∙ (made_is ∙ ap (λ b. plans_from 0 b scripts) same);
  lines' = ap (map asking) asked_is ∙ all_is;
}

pub made_are : {boards : List BoardSpec} {scripts : List (List Step)} {shown : Shown}
    {plans made : List (List ClientBodies)} {lines : List AskedLine} → made ≡ plans → AreOf boards scripts shown plans lines
    → AreOf boards scripts shown made lines
made_are {boards = boards} {scripts = scripts} {shown = shown} {lines = lines} same are =
    subst (λ p. AreOf boards scripts shown p lines) (sym same) are

pub lines_few : (session : Session) (scripts : List (List Step)) (text : List ℕ) (shown : Shown)
    → CanBeAudited session scripts → IsShownBy session.boards scripts text shown
    → length (clients_from 1 scripts) + length shown.boards < 2 ^ 32
lines_few session scripts text shown can is =
    let same = zip_long IsLineOf session.boards shown.boards is.boards' in
    let long = boards_long session.boards scripts in
    omega (arith, can.lines')

pub all_replayed : {boards own : List BoardSpec} (scripts : List (List Step)) {text : List ℕ} (shown : Shown)
    {plans : List (List ClientBodies)} {runs made : List BoardRun} {asked asked' all : List AskedOp}
    → IsShownBy boards scripts text shown → own ≡ boards → plans ≡ plans_from 0 own scripts
    → map asking all ≡ asked_lines scripts shown → asked ≡ all → asked' ≡ all → runs ≡ made
    → (AreOf own scripts shown plans (map asking asked')
    → made ≡ replays_from own scripts (map asking asked') 0 own)
    → AreReplayed boards scripts shown runs (map asking asked)
all_replayed {boards = boards} {own = own} scripts shown {asked' = asked'} is same plans_are all_is asked_is asked'_is
    runs_is made =
    let made_is = made (they_are scripts shown refl plans_are all_is refl asked'_is) in record {
      lines' = ap (map asking) asked_is ∙ all_is;
      runs' = runs_is ∙ (made_is ∙ (ap (λ b. replays_from b scripts (map asking asked') 0 b) same
          ∙ ap (λ a. replays_from boards scripts (map asking a) 0 boards) (asked'_is ∙ sym asked_is)));
      clients' = is.clients';
      boards' = is.boards';
    }

pub replayed_as_shown : {boards own : List BoardSpec} {scripts : List (List Step)} {text : List ℕ} {shown : Shown}
    {plans : List (List ClientBodies)} {runs : List BoardRun} {lines : List AskedLine}
    → IsShownBy boards scripts text shown → AreOf boards scripts shown plans lines → own ≡ boards
    → (AreOf own scripts shown plans lines → runs ≡ replays_from own scripts lines 0 own)
    → AreReplayed boards scripts shown runs lines
replayed_as_shown {scripts = scripts} {shown = shown} {plans = plans} {lines = lines} is are same made =
    let there = subst (λ b. AreOf b scripts shown plans lines) (sym same) are in record {
      lines' = are.lines';
      runs' = made there ∙ ap (λ b. replays_from b scripts lines 0 b) same;
      clients' = is.clients';
      boards' = is.boards';
    }
