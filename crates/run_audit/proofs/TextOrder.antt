-- The order of the text: lines rise, and the bodies of pieces on a board do not fall.
use Rattle.std.proofs.Common.{◌≡◌, ◌⊎◌, ℕ, suc, ◌+◌, ◌<◌, ◌≤◌, ◌==◌, Bool, true, false, cond, length, List, [], ◌∷◌}
use Rattle.std.proofs.Common.{◌++◌, Option, Some, None, refl, sym, ap, subst, ◌∙◌, inl, inr, arith, eq-eqb, eqb-true}
use Rattle.std.specs.List.{AllByRecursion, flat_map, slice_get}
use Rattle.std.specs.Option.{unwrap_or}
use Rattle.ipb_base.proofs.AllLemmas.{AllByRecursion-append, all-map}
use Rattle.board_specs.specs.declared.spec.BoardSpec.{BoardSpec}
use Rattle.script_plans.proofs.Covering.{count_by-append}
use Rattle.script_plans.specs.declared.planned.PieceAt.{PieceAt}
use Rattle.script_plans.specs.Claims.{Rises}
use Rattle.script_plans.specs.Plan.{count_on}
use Rattle.script_steps.specs.declared.operation.RegOp.{RegOp}
use Rattle.script_steps.specs.declared.operation.Step.{Step}
use Rattle.script_steps.specs.Rulings.{Asked, asked_operations, allowed_operations}
use Rattle.transcript.proofs.Allowed.{allowed-append}
use Rattle.transcript.specs.Lines.{Showing}
use Rattle.transcript_reader.specs.declared.shown.Shown.{Shown}
use Rattle.run_audit.specs.AskedLines.{AskedLine, ShownPiece, asked_lines, asked_of, greeting_at, asked_behind, asked_from}
use Rattle.run_audit.specs.AskedLines.{pieces_in, pieces_of, pieces_shown, pieces_unless, shown_piece, with_places}
use Rattle.run_audit.specs.Steps.{StandsBefore}
use Rattle.run_audit.proofs.PlanOrder.{Each, IsUpTo, each_append, each_at, each_nil, plans_in_order, rises_append}
use Rattle.run_audit.proofs.PlanOrder.{rises_at}

-- ---- the lines of operations

-- An operation stands before another in the text.
pub record ComesBefore (earlier later : AskedLine) : Type 0 where
  pub line : earlier.line < later.line
  pub client : (earlier.client < later.client) ⊎ ((earlier.client ≡ later.client)
      × (earlier.ask.denied ≡ None → earlier.ask.op.board ≡ later.ask.op.board → earlier.number < later.number))

-- an operation of a client behind these, from a line on and below another
pub record IsBehind (line most client : ℕ) (before : List Asked) (asking : AskedLine) : Type 0 where
  pub from : line ≤ asking.line
  pub below : asking.line < most
  pub of_client : asking.client ≡ client
  pub number : count_on asking.ask.op.board (allowed_operations before) ≤ asking.number

no_fewer : (board : ℕ) (before : List Asked) (ask : Asked)
    → count_on board (allowed_operations before) ≤ count_on board (allowed_operations (before ++ ask ∷ []))
no_fewer board before ask =
    rw (
      allowed-append before (ask ∷ []),
      count_by-append (λ (o : RegOp). o.board == board) (allowed_operations before) (allowed_operations (ask ∷ [])),
    ) (omega arith)

one_more : (board : ℕ) (before : List Asked) (ask : Asked) → ask.denied ≡ None → ask.op.board ≡ board
    → count_on board (allowed_operations before) < count_on board (allowed_operations (before ++ ask ∷ []))
one_more board before ask free same =
    let counted : allowed_operations (ask ∷ []) ≡ ask.op ∷ [] = rw free refl in
    let one : count_on board (ask.op ∷ []) ≡ 1 = ap (λ b. 0 + cond b 1 0) (eq-eqb ask.op.board board same) in
    rw (
      allowed-append before (ask ∷ []),
      count_by-append (λ (o : RegOp). o.board == board) (allowed_operations before) (allowed_operations (ask ∷ [])),
      counted,
    ) (omega (arith, one))

lines_are_behind : (line client : ℕ) (before asks : List Asked) (shows : List Showing)
    → AllByRecursion (IsBehind line (line + length asks) client before) (asked_behind line client before asks shows)
lines_are_behind line client before [] shows = tt
lines_are_behind line client before (ask ∷ asks) [] = tt
lines_are_behind line client before (ask ∷ asks) (first ∷ shows) = (
  record { from = omega arith; below = omega arith; of_client = refl; number = omega arith },
  all-map (IsBehind (line + 1) (line + 1 + length asks) client (before ++ ask ∷ []))
      (IsBehind line (line + suc (length asks)) client before) _
      (λ later behind. record {
        from = omega (arith, behind.from);
        below = omega (arith, behind.below);
        of_client = behind.of_client;
        number = omega (arith, behind.number, no_fewer later.ask.op.board before ask);
      })
      (lines_are_behind (line + 1) client (before ++ ask ∷ []) asks shows),
)

behind_rise : (line client : ℕ) (before asks : List Asked) (shows : List Showing)
    → Rises ComesBefore (asked_behind line client before asks shows)
behind_rise line client before [] shows = tt
behind_rise line client before (ask ∷ asks) [] = tt
behind_rise line client before (ask ∷ asks) (first ∷ shows) = (
  all-map (IsBehind (line + 1) (line + 1 + length asks) client (before ++ ask ∷ [])) _ _
      (λ later behind. record {
        line = omega (arith, behind.from);
        client = inr (
          sym behind.of_client,
          λ free same.
              let more : count_on later.ask.op.board (allowed_operations before) < count_on later.ask.op.board (allowed_operations (before ++ ask ∷ [])) =
              one_more later.ask.op.board before ask free same in
              subst (λ board. count_on board (allowed_operations before) < later.number) (sym same) (omega (arith, more, behind.number)),
        );
      })
      (lines_are_behind (line + 1) client (before ++ ask ∷ []) asks shows),
  behind_rise (line + 1) client (before ++ ask ∷ []) asks shows,
)

-- an operation of a client from this one on, in a line behind this one
pub record IsFrom (line client : ℕ) (asking : AskedLine) : Type 0 where
  pub line' : line < asking.line
  pub client' : client ≤ asking.client

lines_are_from : (line client : ℕ) (scripts : List (List Step)) (clients : List (List Showing))
    → AllByRecursion (IsFrom line client) (asked_from line client scripts clients)
lines_are_from line client [] clients = tt
lines_are_from line client (steps ∷ scripts) [] = tt
lines_are_from line client (steps ∷ scripts) (shows ∷ clients) =
    AllByRecursion-append (IsFrom line client) _ _
    (all-map (IsBehind (line + 1) (line + 1 + length (asked_operations steps)) client []) (IsFrom line client) _
    (λ asking behind. record { line' = omega (arith, behind.from); client' = omega (arith, behind.of_client) })
    (lines_are_behind (line + 1) client [] (asked_operations steps) shows))
    (all-map (IsFrom (line + 1 + length (asked_operations steps)) (client + 1)) (IsFrom line client) _
    (λ asking from. record { line' = omega (arith, from.line'); client' = omega (arith, from.client') })
    (lines_are_from (line + 1 + length (asked_operations steps)) (client + 1) scripts clients))

from_rise : (line client : ℕ) (scripts : List (List Step)) (clients : List (List Showing))
    → Rises ComesBefore (asked_from line client scripts clients)
from_rise line client [] clients = tt
from_rise line client (steps ∷ scripts) [] = tt
from_rise line client (steps ∷ scripts) (shows ∷ clients) =
    let next = line + 1 + length (asked_operations steps) in
    rises_append ComesBefore _ _ (behind_rise (line + 1) client [] (asked_operations steps) shows)
    (from_rise next (client + 1) scripts clients)
    (all-map (IsBehind (line + 1) next client []) _ _
    (λ one behind. all-map (IsFrom next (client + 1)) (ComesBefore one) _
    (λ other from. record {
      line = omega (arith, behind.below, from.line');
      client = inl (omega (arith, behind.of_client, from.client'));
    })
    (lines_are_from next (client + 1) scripts clients))
    (lines_are_behind (line + 1) client [] (asked_operations steps) shows))

-- The operations of a session stand in the order of the text.
pub lines_rise : (scripts : List (List Step)) (shown : Shown) → Rises ComesBefore (asked_lines scripts shown)
lines_rise scripts shown = from_rise 1 0 scripts shown.clients

-- ---- pieces with places

-- what holds of an operation's pieces at every place holds of those that are shown
all_with : (Q : ShownPiece → Type 0) (asking : AskedLine) (ps : List PieceAt) (places : List (ℕ × ℕ))
    → AllByRecursion (λ p. (at : ℕ × ℕ) → Q (shown_piece asking p at)) ps
    → AllByRecursion Q (with_places asking ps places)
all_with Q asking [] places all = tt
all_with Q asking (p ∷ ps) [] all = tt
all_with Q asking (p ∷ ps) (at ∷ places) all = (all.0 at, all_with Q asking ps places all.1)

with_rise : (asking : AskedLine) (ps : List PieceAt) (places : List (ℕ × ℕ)) → Rises IsUpTo ps
    → Rises StandsBefore (with_places asking ps places)
with_rise asking [] places rises = tt
with_rise asking (p ∷ ps) [] rises = tt
with_rise asking (p ∷ ps) (at ∷ places) rises = (
  all_with (StandsBefore (shown_piece asking p at)) asking ps places
      (all-map (IsUpTo p) _ ps
      (λ q up other. record { line = omega arith; body = inr (refl, up) }) rises.0),
  with_rise asking ps places rises.1,
)

all_of : (ps : List PieceAt) (P : PieceAt → Type 0) → ((p : PieceAt) → P p) → AllByRecursion P ps
all_of [] P f = tt
all_of (p ∷ ps) P f = (f p, all_of ps P f)

rises_unless : (denied : Option ℕ) (ps : List PieceAt) → Rises IsUpTo ps → Rises IsUpTo (pieces_unless denied ps)
rises_unless None ps rises = rises
rises_unless (Some rule) ps rises = tt

each_unless : (denied other : Option ℕ) (ps qs : List PieceAt) → (denied ≡ None → Each IsUpTo ps qs)
    → Each IsUpTo (pieces_unless denied ps) (pieces_unless other qs)
each_unless None None ps qs each = each refl
each_unless None (Some rule) ps qs each = each_nil IsUpTo ps
each_unless (Some rule) other ps qs each = tt

-- pieces of two operations with places, where either the clients rise or the bodies do not fall
two_with : (one other : AskedLine) (ps qs : List PieceAt) (places others : List (ℕ × ℕ)) → one.line ≤ other.line
    → one.client ≡ other.client → Each IsUpTo ps qs
    → Each StandsBefore (with_places one ps places) (with_places other qs others)
two_with one other ps qs places others line client each =
    all_with (λ p. AllByRecursion (StandsBefore p) (with_places other qs others)) one ps places
    (all-map (λ p. AllByRecursion (IsUpTo p) qs) _ ps
    (λ p up at. all_with (StandsBefore (shown_piece one p at)) other qs others
    (all-map (IsUpTo p) _ qs (λ q below to. record { line = line; body = inr (client, below) }) up)) each)

two_clients : (one other : AskedLine) (ps qs : List PieceAt) (places others : List (ℕ × ℕ)) → one.line ≤ other.line
    → one.client < other.client → Each StandsBefore (with_places one ps places) (with_places other qs others)
two_clients one other ps qs places others line client =
    all_with (λ p. AllByRecursion (StandsBefore p) (with_places other qs others)) one ps places
    (all_of ps _ (λ p at. all_with (StandsBefore (shown_piece one p at)) other qs others
    (all_of qs _ (λ q to. record { line = line; body = inl client }))))

-- lists that are there where both are on a board
both_there : (one other : Bool) (xs ys : List ShownPiece) → (one ≡ true → other ≡ true → Each StandsBefore xs ys)
    → Each StandsBefore (cond one xs []) (cond other ys [])
both_there true true xs ys each = each refl refl
both_there true false xs ys each = each_nil StandsBefore xs
both_there false other xs ys each = tt

one_there : (one : Bool) (xs : List ShownPiece) → Rises StandsBefore xs → Rises StandsBefore (cond one xs [])
one_there true xs rises = rises
one_there false xs rises = tt

module _ (boards : List BoardSpec) (scripts : List (List Step)) where
  -- all pieces of a client on a board, operation by operation
  abbrev pieces_on : ℕ → ℕ → List (List PieceAt)
  pieces_on board client = (asked_of boards scripts board client).pieces

  pieces_rise : (asking : AskedLine) → Rises IsUpTo (pieces_of boards scripts asking)
  pieces_rise asking =
      rises_unless asking.ask.denied _ (rises_at IsUpTo (pieces_on asking.ask.op.board asking.client) asking.number
      (plans_in_order asking.ask.op.board (greeting_at boards asking.ask.op.board)
      (unwrap_or (slice_get scripts asking.client) [])).within)

  -- pieces of an operation and of a later one of the same client on the same board
  two_operations : (one other : AskedLine) → one.ask.op.board ≡ other.ask.op.board → one.client ≡ other.client
      → (one.ask.denied ≡ None → one.number < other.number)
      → Each IsUpTo (pieces_of boards scripts one) (pieces_of boards scripts other)
  two_operations one other board client number =
      each_unless one.ask.denied other.ask.denied _ _ (λ free.
      subst (λ b. Each IsUpTo (unwrap_or (slice_get (pieces_on one.ask.op.board one.client) one.number) [])
      (unwrap_or (slice_get (pieces_on b other.client) other.number) [])) board
      (subst (λ c. Each IsUpTo (unwrap_or (slice_get (pieces_on one.ask.op.board one.client) one.number) [])
      (unwrap_or (slice_get (pieces_on one.ask.op.board c) other.number) [])) client
      (each_at IsUpTo (pieces_on one.ask.op.board one.client) one.number other.number (number free)
      (plans_in_order one.ask.op.board (greeting_at boards one.ask.op.board)
      (unwrap_or (slice_get scripts one.client) [])).each)))

  module _ (board : ℕ) where
    both_in : (one other : AskedLine) → ComesBefore one other
        → Each StandsBefore (pieces_in boards scripts board one) (pieces_in boards scripts board other)
    both_in one other before =
        both_there (one.ask.op.board == board) (other.ask.op.board == board) _ _ (λ here there.
        let line : one.line ≤ other.line = omega (arith, before.line) in
        elim before.client [
          | inl client ↦ two_clients one other _ _ one.shows.1 other.shows.1 line client
          | inr same ↦
              let on : one.ask.op.board ≡ other.ask.op.board = eqb-true _ _ here ∙ sym (eqb-true _ _ there) in
              two_with one other _ _ one.shows.1 other.shows.1 line same.0
              (two_operations one other on same.0 (λ free. same.1 free on))
        ])

    each_in : (one : AskedLine) (others : List AskedLine) → AllByRecursion (ComesBefore one) others
        → Each StandsBefore (pieces_in boards scripts board one) (flat_map (pieces_in boards scripts board) others)
    each_in one [] all = each_nil StandsBefore (pieces_in boards scripts board one)
    each_in one (other ∷ others) all =
        each_append StandsBefore (pieces_in boards scripts board one) (pieces_in boards scripts board other)
        (flat_map (pieces_in boards scripts board) others) (both_in one other all.0) (each_in one others all.1)

    all_in_rise : (lines : List AskedLine) → Rises ComesBefore lines
        → Rises StandsBefore (pieces_shown boards scripts board lines)
    all_in_rise [] rises = tt
    all_in_rise (one ∷ others) rises =
        rises_append StandsBefore (pieces_in boards scripts board one) (flat_map (pieces_in boards scripts board) others)
        (one_there (one.ask.op.board == board) _
        (with_rise one (pieces_of boards scripts one) one.shows.1 (pieces_rise one)))
        (all_in_rise others rises.1) (each_in one others rises.0)

    -- The pieces on a board stand in the order of the text.
    pub shown_rise : (shown : Shown)
        → Rises StandsBefore (pieces_shown boards scripts board (asked_lines scripts shown))
    shown_rise shown = all_in_rise (asked_lines scripts shown) (lines_rise scripts shown)
