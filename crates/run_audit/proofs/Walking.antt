-- The walk over the operations of a client.
use Rattle.std.proofs.Common.{◌≡◌, ℕ, zero, suc, ◌+◌, ◌<◌, ◌≤◌, ◌==◌, cond, length, get_or, take, drop, set, map}
use Rattle.std.proofs.Common.{List, [], ◌∷◌, ◌++◌, Option, Some, None, refl, sym, ap, ◌∙◌, inl, inr, arith, add-one}
use Rattle.std.proofs.Common.{zero-add, true, false, append_assoc, append-nil, length-append}
use Rattle.std.specs.List.{slice_get}
use Rattle.std.specs.Prelude.{slice_index}
use Rattle.std.specs.Option.{is_some, option_map}
use Rattle.std.proofs.lemmas.Bool.{cases_eq}
use Rattle.std.proofs.lemmas.Bool.Decides.{nat_tests}
use Rattle.std.proofs.lemmas.Grind.{get_or-set_at}
use Rattle.std.proofs.lemmas.List.{drop_all, drop_more, take_all, take-append-drop, get_or-set_other}
use Rattle.std.proofs.lemmas.List.Elements.{filter_map-append}
use Rattle.std.proofs.lemmas.Option.{slice_get-map, slice_get_read}
use Rattle.script_plans.proofs.Covering.{count_by-append}
use Rattle.script_plans.proofs.Lookups.{drop_at}
use Rattle.script_plans.specs.Plan.{count_on}
use Rattle.script_plans.specs.declared.planned.PieceAt.{PieceAt}
use Rattle.script_steps.specs.declared.operation.RegOp.{RegOp}
use Rattle.script_steps.specs.declared.operation.Step.{Step}
use Rattle.script_steps.specs.Rulings.{Asked, asked_in, asked_operations, allowed_operations}
use Rattle.transcript.proofs.Allowed.{allowed-append}
use Rattle.transcript.proofs.LineLemmas.{asked_left, asked_taken}
use Rattle.transcript.specs.Lines.{Showing}
use Rattle.transcript_reader.specs.Entries.{clients_from, operations_from}
use Rattle.run_audit.specs.AskedLines.{AskedLine, asked_behind, shown_piece, with_places}

-- ---- counts

-- a count that is added is 0, as one that is not there
pub push_zero : (counts : List ℕ) (b : ℕ) → get_or (counts ++ 0 ∷ []) b 0 ≡ get_or counts b 0
push_zero [] zero = refl
push_zero [] (suc b) = refl
push_zero (n ∷ ns) zero = refl
push_zero (n ∷ ns) (suc b) = push_zero ns b

-- the count at a board that is raised, and at the others
pub raised_at : (counts : List ℕ) (board b : ℕ) → board < length counts
    → get_or (set counts board (get_or counts board 0 + 1)) b 0 ≡ get_or counts b 0 + cond (board == b) 1 0
raised_at counts board b within =
    elim (cases_eq b board) [
      | inl same ↦ grind (arith, nat_tests, get_or-set_at counts board b (get_or counts board 0 + 1) 0 same)
      | inr other ↦ grind (arith, nat_tests, get_or-set_other counts board b (get_or counts board 0 + 1) 0 other)
    ]

-- ---- lists from a position on

-- what is left of a list from an element on that was read
pub drop_here : {T : Type 0} (xs : List T) (i : ℕ) (x : T) → i < length xs → x ≡ get_or xs i x
    → drop i xs ≡ x ∷ drop (i + 1) xs
drop_here xs i x within is = drop_more xs i x within ∙ ap (λ y. y ∷ drop (i + 1) xs) (sym is)

-- an element that was read, through a function
pub read_here : {A B : Type 0} (f : A → B) (xs : List A) (i : ℕ) (x : A) → i < length xs → x ≡ get_or xs i x
    → slice_get (map f xs) i ≡ Some (f x)
read_here f xs i x within is =
    slice_get-map f xs i ∙ ap (option_map f) (slice_get_read xs (length xs) i x refl within is)

operations_length : (number : ℕ) (asks : List Asked) → length (operations_from number asks) ≡ length asks
operations_length number [] = refl
operations_length number (ask ∷ asks) = ap suc (operations_length (number + 1) asks)

-- the lines of a client are its heading and its operations
pub client_lines : (number : ℕ) (scripts : List (List Step)) (i : ℕ) (steps : List Step) → i < length scripts
    → steps ≡ get_or scripts i steps
    → length (clients_from number (drop i scripts))
    ≡ 1 + length (asked_operations steps) + length (clients_from (number + 1) (drop (i + 1) scripts))
client_lines number scripts i steps within is =
    let rest : drop i scripts ≡ steps ∷ drop (i + 1) scripts = drop_here scripts i steps within is in
    rw rest (omega (
      arith,
      length-append (operations_from 1 (asked_operations steps)) (clients_from (number + 1) (drop (i + 1) scripts)),
      operations_length 1 (asked_operations steps),
    ))

-- ---- rules

pub no_rule : (denied : Option ℕ) → is_some denied ≡ false → denied ≡ None
no_rule None none = refl
no_rule (Some rule) none = cc

pub some_rule : (denied : Option ℕ) → is_some denied ≡ true → (rule : ℕ) × (denied ≡ Some rule)
some_rule None some = cc
some_rule (Some rule) some = (rule, refl)

-- ---- one step more

-- an operation and its line
abbrev pub line_with : ℕ → ℕ → ℕ → Asked → Showing → AskedLine
line_with line client number ask shown =
    record { line = line; client = client; number = number; ask = ask; shows = shown }

-- no line is left of operations that are not shown
pub none_shown : (line client : ℕ) (before asks : List Asked) → asked_behind line client before asks [] ≡ []
none_shown line client before [] = refl
none_shown line client before (ask ∷ asks) = refl

drop_none : {T : Type 0} (xs : List T) (k : ℕ) → slice_get xs k ≡ None → drop k xs ≡ []
drop_none [] zero none = refl
drop_none [] (suc k) none = refl
drop_none (x ∷ xs) zero none = cc
drop_none (x ∷ xs) (suc k) none = drop_none xs k none

drop_later : {T : Type 0} (xs : List T) (k : ℕ) → drop k xs ≡ [] → drop (k + 1) xs ≡ []
drop_later [] k none = rw add-one refl
drop_later (x ∷ xs) zero none = cc
drop_later (x ∷ xs) (suc k) none = rw add-one (rw add-one at (drop_later xs k none))

-- where a client's first `i` steps have these lines, behind others, and these counts
pub record IsWalked (client first : ℕ) (steps : List Step) (shows : List Showing) (old : List AskedLine) (i : ℕ)
    (made : List AskedLine) (line : ℕ) (counts : List ℕ) : Type 0 where
  pub lines : made ++ asked_behind line client (asked_operations (take i steps)) (asked_operations (drop i steps))
      (drop (length (asked_operations (take i steps))) shows) ≡ old ++ asked_behind first client [] (asked_operations steps) shows
  pub line' : line ≡ first + length (asked_operations (take i steps))
  pub counts' : (b : ℕ) → slice_index counts b ≡ count_on b (allowed_operations (asked_operations (take i steps)))

module _ (steps : List Step) (i : ℕ) (step : Step) (within : i < length steps) (is : step ≡ get_or steps i step) where
  pub taken_none : asked_in step ≡ None → asked_operations (take (i + 1) steps) ≡ asked_operations (take i steps)
  taken_none none = asked_taken steps i step within is ∙ (rw none (append-nil _))

  left_none : asked_in step ≡ None → asked_operations (drop i steps) ≡ asked_operations (drop (i + 1) steps)
  left_none none = asked_left steps i step within is ∙ rw none

  pub taken_some : (ask : Asked) → asked_in step ≡ Some ask
      → asked_operations (take (i + 1) steps) ≡ asked_operations (take i steps) ++ ask ∷ []
  taken_some ask some = asked_taken steps i step within is ∙ rw some

  pub left_some : (ask : Asked) → asked_in step ≡ Some ask
      → asked_operations (drop i steps) ≡ ask ∷ asked_operations (drop (i + 1) steps)
  left_some ask some = asked_left steps i step within is ∙ rw some

-- the operation of a step is one more than those before it
pub asked_before : (steps : List Step) (i : ℕ) (step : Step) → i < length steps → step ≡ get_or steps i step
    → (ask : Asked) → asked_in step ≡ Some ask → length (asked_operations (take i steps)) < length (asked_operations steps)
asked_before steps i step within is ask some =
    let cut : asked_operations steps ≡ asked_operations (take i steps) ++ asked_operations (drop i steps) =
    ap asked_operations (sym (take-append-drop i steps)) ∙ filter_map-append asked_in (take i steps) (drop i steps) in
    let rest : length (asked_operations (drop i steps)) ≡ length (asked_operations (drop (i + 1) steps)) + 1 =
    ap length (left_some steps i step within is ask some) ∙ omega arith in
    rw (cut, length-append) (omega (arith, rest))

-- the lines before a client's first step
pub walked_none : (client first : ℕ) (steps : List Step) (shows : List Showing) (old : List AskedLine) (counts : List ℕ)
    → counts ≡ [] → IsWalked client first steps shows old 0 old first counts
walked_none client first steps shows old counts none = record {
  lines = refl;
  line' = omega arith;
  counts' = λ b. rw none;
}

module _ (client first : ℕ) (steps : List Step) (shows : List Showing) (old : List AskedLine) (i : ℕ)
    (made : List AskedLine) (line : ℕ) (counts : List ℕ)
    (so_far : IsWalked client first steps shows old i made line counts) where
  -- those behind the last step
  pub walked_all : length steps ≤ i
      → (made ≡ old ++ asked_behind first client [] (asked_operations steps) shows) × (line ≡ first + length (asked_operations steps))
  walked_all over =
      let e : take i steps ≡ steps = take_all i steps over in
      let rest : drop i steps ≡ [] = drop_all i steps over in (
        sym (append-nil made) ∙ rw rest at so_far.lines,
        so_far.line' ∙ ap (λ s. first + length (asked_operations s)) e,
      )

  module _ (step : Step) (within : i < length steps) (is : step ≡ get_or steps i step) where
    -- a dispatch is no operation
    pub walked_past : asked_in step ≡ None → IsWalked client first steps shows old (i + 1) made line counts
    walked_past none =
        let before : asked_operations (take (i + 1) steps) ≡ asked_operations (take i steps) = taken_none steps i step within is none in
        let rest : asked_operations (drop i steps) ≡ asked_operations (drop (i + 1) steps) = left_none steps i step within is none in
        record {
          lines = rw (before, ← rest) so_far.lines;
          line' = rw before so_far.line';
          counts' = rw before so_far.counts';
        }

    module _ (ask : Asked) (some : asked_in step ≡ Some ask) where
      before : asked_operations (take (i + 1) steps) ≡ asked_operations (take i steps) ++ ask ∷ []
      before = taken_some steps i step within is ask some

      one_more : length (asked_operations (take (i + 1) steps)) ≡ length (asked_operations (take i steps)) + 1
      one_more = rw (before, length-append) refl

      pub next_line : line + 1 ≡ first + length (asked_operations (take (i + 1) steps))
      next_line = rw one_more (omega (arith, so_far.line'))

      -- the line that the next operation has
      abbrev pub line_of : Showing → AskedLine
      line_of shown = line_with line client (count_on ask.op.board (allowed_operations (asked_operations (take i steps)))) ask shown

      pub shown_more : (shown : Showing) → slice_get shows (length (asked_operations (take i steps))) ≡ Some shown
          → (made ++ line_of shown ∷ []) ++ asked_behind (line + 1) client (asked_operations (take (i + 1) steps))
          (asked_operations (drop (i + 1) steps)) (drop (length (asked_operations (take (i + 1) steps))) shows)
          ≡ old ++ asked_behind first client [] (asked_operations steps) shows
      shown_more shown at =
          let rest = left_some steps i step within is ask some in
          let there = drop_at shows (length (asked_operations (take i steps))) shown at in
          rw (one_more, before, append_assoc) (rw (rest, there) at so_far.lines)

      pub unshown_more : slice_get shows (length (asked_operations (take i steps))) ≡ None
          → made ++ asked_behind (line + 1) client (asked_operations (take (i + 1) steps))
          (asked_operations (drop (i + 1) steps)) (drop (length (asked_operations (take (i + 1) steps))) shows)
          ≡ old ++ asked_behind first client [] (asked_operations steps) shows
      unshown_more none =
          let k = length (asked_operations (take i steps)) in
          let over : drop k shows ≡ [] = drop_none shows k none in
          let later : drop (k + 1) shows ≡ [] = drop_later shows k over in
          rw (one_more, later) (ap (λ (ls : List AskedLine). made ++ ls)
          (none_shown _ _ _ (asked_operations (drop (i + 1) steps)) ∙ sym (none_shown line client _ (asked_operations (drop i steps))))
          ∙ rw over at so_far.lines)

      -- those that no rule denies are one more on the board
      pub allowed_more : (more : List ℕ) → ask.denied ≡ None
          → ((b : ℕ) → slice_index more b ≡ slice_index counts b + cond (ask.op.board == b) 1 0)
          → (b : ℕ) → slice_index more b ≡ count_on b (allowed_operations (asked_operations (take (i + 1) steps)))
      allowed_more more free raised b =
          let counted : allowed_operations (ask ∷ []) ≡ ask.op ∷ [] = rw free refl in
          rw (before, allowed-append, counted) (
          raised b
          ∙ (ap (λ n. n + cond (ask.op.board == b) 1 0) (so_far.counts' b)
          ∙ (ap (λ n. count_on b (allowed_operations (asked_operations (take i steps))) + n) (sym (zero-add (cond (ask.op.board == b) 1 0)))
          ∙ sym (count_by-append (λ (o : RegOp). o.board == b) (allowed_operations (asked_operations (take i steps))) (ask.op ∷ []))))
          )

      pub denied_more : (rule : ℕ) → ask.denied ≡ Some rule
          → (b : ℕ) → slice_index counts b ≡ count_on b (allowed_operations (asked_operations (take (i + 1) steps)))
      denied_more rule denied b =
          let counted : allowed_operations (ask ∷ []) ≡ [] = rw denied refl in
          rw (before, allowed-append, counted, append-nil) (so_far.counts' b)

-- ---- pieces with places

-- no piece is shown without a place
pub none_with : (asking : AskedLine) (pieces : List PieceAt) → with_places asking pieces [] ≡ []
none_with asking [] = refl
none_with asking (piece ∷ pieces) = refl

pub with_more : (asking : AskedLine) (pieces : List PieceAt) (places : List (ℕ × ℕ)) (at : ℕ) (d : PieceAt)
    (place : ℕ × ℕ) → at < length pieces → slice_get places at ≡ Some place
    → with_places asking (drop at pieces) (drop at places)
    ≡ shown_piece asking (get_or pieces at d) place ∷ with_places asking (drop (at + 1) pieces) (drop (at + 1) places)
with_more asking pieces places at d place within there =
    rw (drop_more pieces at d within, drop_at places at place there) refl
