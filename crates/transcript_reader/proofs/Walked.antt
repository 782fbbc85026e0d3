-- Lines one after another.
use Rattle.std.proofs.Common.{◌≡◌, ◌⊎◌, ℕ, suc, ◌+◌, ◌<◌, List, [], ◌∷◌, ◌++◌, length, map, get_or, take, drop}
use Rattle.std.proofs.Common.{Some, None, inl, inr, refl, sym, ap, subst, ◌∙◌, arith, add-one, append_assoc}
use Rattle.std.proofs.Common.{length-append, take-suc, append-nil, Result, Ok, Err, IfErr}
use Rattle.std.specs.List.{AllZip}
use Rattle.std.proofs.lemmas.List.{map-append, take-append-drop}
use Rattle.std.proofs.lemmas.List.Elements.{filter_map-append}
use Rattle.board_specs.specs.declared.spec.BoardSpec.{BoardSpec}
use Rattle.script_steps.specs.declared.operation.Step.{Step}
use Rattle.script_steps.specs.declared.operation.Step.TheVariants.{Do, Denied, Dispatch}
use Rattle.script_steps.specs.Packing.{CanBePacked}
use Rattle.script_steps.specs.Rulings.{Asked, asked_operations, asked_in}
use Rattle.script_plans.specs.declared.greeting.Greeting.{Greeting}
use Rattle.transcript.specs.declared.line.BoardLine.{BoardLine}
use Rattle.transcript.specs.declared.line.OpLine.{OpLine}
use Rattle.transcript.specs.Lines.{Showing}
use Rattle.transcript.specs.Text.{board_text, heading, line_text}
use Rattle.transcript_reader.specs.declared.reading.Reader.{Reader}
use Rattle.transcript_reader.specs.declared.shown.Unshown.{Unshown}
use Rattle.transcript_reader.specs.declared.shown.Unshown.TheVariants.{At, NoMemory}
use Rattle.transcript_reader.specs.Entries.{Board, CanShowIn, Entry, Heading, IsLineOf, MayStand, Operation, clients_from}
use Rattle.transcript_reader.specs.Entries.{line_under, lines_of, operations_from}
use Rattle.transcript_reader.specs.Shown.{CanShowAll, clients_under, lines_under}
use Rattle.transcript_reader.specs.Walks.{AreBoards, AreClients, AreOperations, CanBeSent, IsClient, IsNextBoard}
use Rattle.transcript_reader.specs.Walks.{IsNextOperation, IsStuck, IsStuckBehind, IsTaken, client_texts}
use Rattle.transcript_reader.proofs.Lists.{zip_push}
use Rattle.transcript_reader.proofs.Told.{length_client, length_operations}

pub zip_append : {A B : Type 0} (R : A → B → Type 0) (xs more : List A) (ys others : List B) → AllZip R xs ys
    → AllZip R more others → AllZip R (xs ++ more) (ys ++ others)
zip_append R [] more [] others all behind = behind
zip_append R [] more (y ∷ ys) others all behind = absurd all
zip_append R (x ∷ xs) more [] others all behind = absurd all
zip_append R (x ∷ xs) more (y ∷ ys) others all behind = (all.0, zip_append R xs more ys others all.1 behind)

module _ (boards : List BoardSpec) (told : List Greeting) where
  stuck_more : (es more : List Entry) (ls : List (List ℕ)) (n : ℕ) → IsStuck boards told es ls n
      → IsStuck boards told (es ++ more) ls n
  stuck_more [] more ls n stuck = absurd stuck
  stuck_more (e ∷ es) more [] n stuck = stuck
  stuck_more (e ∷ es) more (l ∷ ls) n (inl wrong) = inl wrong
  stuck_more (e ∷ es) more (l ∷ ls) n (inr (later, is, stands, stuck)) =
      inr (later, is, stands, stuck_more es more ls later stuck)

  stuck_after : (es more : List Entry) (front new : List (List ℕ)) (m k : ℕ) → AllZip (MayStand boards told) es front
      → k ≡ length es + m → IsStuck boards told more new m → IsStuck boards told (es ++ more) (front ++ new) k
  stuck_after [] more [] new m k stand is stuck =
      let same : m ≡ k = omega arith in subst (λ (n : ℕ). IsStuck boards told more new n) same stuck
  stuck_after [] more (l ∷ front) new m k stand is stuck = absurd stand
  stuck_after (e ∷ es) more [] new m k stand is stuck = absurd stand
  stuck_after (e ∷ es) more (l ∷ front) new m k stand is stuck =
      inr (length es + m, omega arith, stand.0, stuck_after es more front new m (length es + m) stand.1 refl stuck)

  pub behind_more : (es more : List Entry) (ls : List (List ℕ)) (before : ℕ) (u : Unshown)
      → IsStuckBehind boards told es ls before u → IsStuckBehind boards told (es ++ more) ls before u
  behind_more es more ls before (At line) (n, is, stuck) = (n, is, stuck_more es more ls n stuck)
  behind_more es more ls before NoMemory stuck = tt

  pub behind_after : (es more : List Entry) (old front new : List (List ℕ)) (before mid : ℕ) (u : Unshown)
      → AllZip (MayStand boards told) es front → old ≡ front ++ new → mid ≡ before + length es
      → IsStuckBehind boards told more new mid u → IsStuckBehind boards told (es ++ more) old before u
  behind_after es more old front new before mid (At line) stand parts counted (n, is, stuck) = (
    length es + n,
    omega arith,
    subst (λ (ls : List (List ℕ)). IsStuck boards told (es ++ more) ls (length es + n)) (sym parts)
        (stuck_after es more front new n (length es + n) stand refl stuck),
  )
  behind_after es more old front new before mid NoMemory stand parts counted stuck = tt

  -- ---- operations

  ops_stand : (n : ℕ) (asks : List Asked) (shows : List Showing) → AllZip (CanShowIn told) asks shows
      → AllZip (MayStand boards told) (operations_from n asks) (map line_text (lines_under boards n asks shows))
  ops_stand n [] [] can = tt
  ops_stand n [] (s ∷ shows) can = absurd can
  ops_stand n (a ∷ asks) [] can = absurd can
  ops_stand n (a ∷ asks) (s ∷ shows) can = ((s, can.0, refl), ops_stand (n + 1) asks shows can.1)

  lines_push : (n k : ℕ) (asks : List Asked) (shows : List Showing) (a : Asked) (s : Showing)
      → AllZip (CanShowIn told) asks shows → k ≡ n + length asks
      → lines_under boards n (asks ++ a ∷ []) (shows ++ s ∷ [])
      ≡ lines_under boards n asks shows ++ line_under boards k a s ∷ []
  lines_push n k [] [] a s can is =
      let same : n ≡ k = omega arith in ap (λ (m : ℕ). line_under boards m a s ∷ []) same
  lines_push n k [] (t ∷ shows) a s can is = absurd can
  lines_push n k (b ∷ asks) [] a s can is = absurd can
  lines_push n k (b ∷ asks) (t ∷ shows) a s can is =
      ap (λ (ls : List OpLine). line_under boards n b t ∷ ls) (lines_push (n + 1) k asks shows a s can.1 (omega arith))

  pub ops_more : (asks : List Asked) (number : ℕ) (a : Asked) (old mid new : Reader) (shows : List Showing) (s : Showing)
      → AreOperations boards told asks old mid shows → number ≡ 1 + length asks
      → IsNextOperation boards told number a mid new s
      → AreOperations boards told (asks ++ a ∷ []) old new (shows ++ s ∷ [])
  ops_more asks number a old mid new shows s before is next = record {
    can = zip_push (CanShowIn told) asks shows a s before.can next.can;
    spelled =
        before.spelled
        ∙ (ap (λ (ls : List (List ℕ)). map line_text (lines_under boards 1 asks shows) ++ ls) next.spelled
        ∙ sym (ap (λ (ls : List OpLine). map line_text ls ++ lines_of new.text.now)
        (lines_push 1 number asks shows a s before.can is)
        ∙ (ap (λ (ls : List (List ℕ)). ls ++ lines_of new.text.now)
        (map-append line_text (lines_under boards 1 asks shows) (line_under boards number a s ∷ []))
        ∙ append_assoc (map line_text (lines_under boards 1 asks shows)) (line_text (line_under boards number a s) ∷ [])
        (lines_of new.text.now))));
    counted = omega (arith, before.counted, next.counted, length-append asks (a ∷ []));
  }

  ops_append : (n : ℕ) (xs ys : List Asked)
      → operations_from n (xs ++ ys) ≡ operations_from n xs ++ operations_from (n + length xs) ys
  ops_append n [] ys = let same : n ≡ n + length {A = Asked} [] = omega arith in ap (λ (k : ℕ). operations_from k ys) same
  ops_append n (x ∷ xs) ys =
      let same : n + 1 + length xs ≡ n + length (x ∷ xs) = omega arith in
      ap (λ (es : List Entry). Operation n x ∷ es)
      (ops_append (n + 1) xs ys ∙ ap (λ (k : ℕ). operations_from (n + 1) xs ++ operations_from k ys) same)

  pub ops_stuck : (all asks more : List Asked) (number : ℕ) (a : Asked) (old mid : Reader) (shows : List Showing)
      (u : Unshown) → AreOperations boards told asks old mid shows → number ≡ 1 + length asks → all ≡ asks ++ a ∷ more
      → IsStuckBehind boards told (Operation number a ∷ []) (lines_of mid.text.now) mid.line u
      → IsStuckBehind boards told (operations_from 1 all) (lines_of old.text.now) old.line u
  ops_stuck all asks more number a old mid shows u before is parts stuck =
      let here : Operation number a ∷ operations_from (number + 1) more ≡ operations_from (1 + length asks) (a ∷ more) =
      ap (λ (k : ℕ). operations_from k (a ∷ more)) is in
      subst (λ (es : List Entry). IsStuckBehind boards told es (lines_of old.text.now) old.line u)
      (ap (λ (es : List Entry). operations_from 1 asks ++ es) here
      ∙ (sym (ops_append 1 asks (a ∷ more)) ∙ ap (operations_from 1) (sym parts)))
      (behind_after (operations_from 1 asks) (Operation number a ∷ operations_from (number + 1) more)
      (lines_of old.text.now) (map line_text (lines_under boards 1 asks shows)) (lines_of mid.text.now) old.line mid.line u
      (ops_stand 1 asks shows before.can) before.spelled (omega (arith, before.counted, length_operations 1 asks))
      (behind_more (Operation number a ∷ []) (operations_from (number + 1) more) (lines_of mid.text.now) mid.line u stuck))

  -- ---- clients

  pub clients_stand : (n : ℕ) (scripts : List (List Step)) (clients : List (List Showing))
      → AllZip (CanShowAll told) scripts clients
      → AllZip (MayStand boards told) (clients_from n scripts) (client_texts n (clients_under boards scripts clients))
  clients_stand n [] [] can = tt
  clients_stand n [] (c ∷ clients) can = absurd can
  clients_stand n (s ∷ scripts) [] can = absurd can
  clients_stand n (s ∷ scripts) (c ∷ clients) can = (
    refl,
    zip_append (MayStand boards told) (operations_from 1 (asked_operations s)) (clients_from (n + 1) scripts)
        (map line_text (lines_under boards 1 (asked_operations s) c)) (client_texts (n + 1) (clients_under boards scripts clients))
        (ops_stand 1 (asked_operations s) c can.0) (clients_stand (n + 1) scripts clients can.1),
  )

  texts_push : (n k : ℕ) (scripts : List (List Step)) (clients : List (List Showing)) (s : List Step) (c : List Showing)
      → AllZip (CanShowAll told) scripts clients → k ≡ n + length scripts
      → client_texts n (clients_under boards (scripts ++ s ∷ []) (clients ++ c ∷ []))
      ≡ client_texts n (clients_under boards scripts clients)
      ++ (heading k ∷ (map line_text (lines_under boards 1 (asked_operations s) c) ++ []))
  texts_push n k [] [] s c can is =
      let same : n ≡ k = omega arith in
      ap (λ (m : ℕ). heading m ∷ (map line_text (lines_under boards 1 (asked_operations s) c) ++ [])) same
  texts_push n k [] (d ∷ clients) s c can is = absurd can
  texts_push n k (t ∷ scripts) [] s c can is = absurd can
  texts_push n k (t ∷ scripts) (d ∷ clients) s c can is =
      ap (λ (ls : List (List ℕ)). heading n ∷ (map line_text (lines_under boards 1 (asked_operations t) d) ++ ls))
      (texts_push (n + 1) k scripts clients s c can.1 (omega arith))
      ∙ ap (λ (ls : List (List ℕ)). heading n ∷ ls)
      (sym (append_assoc (map line_text (lines_under boards 1 (asked_operations t) d))
      (client_texts (n + 1) (clients_under boards scripts clients))
      (heading k ∷ (map line_text (lines_under boards 1 (asked_operations s) c) ++ []))))

  clients_append : (n : ℕ) (xs ys : List (List Step))
      → clients_from n (xs ++ ys) ≡ clients_from n xs ++ clients_from (n + length xs) ys
  clients_append n [] ys =
      let same : n ≡ n + length {A = List Step} [] = omega arith in ap (λ (k : ℕ). clients_from k ys) same
  clients_append n (x ∷ xs) ys =
      let same : n + 1 + length xs ≡ n + length (x ∷ xs) = omega arith in
      ap (λ (es : List Entry). Heading n ∷ es)
      (ap (λ (es : List Entry). operations_from 1 (asked_operations x) ++ es)
      (clients_append (n + 1) xs ys ∙ ap (λ (k : ℕ). clients_from (n + 1) xs ++ clients_from k ys) same)
      ∙ sym (append_assoc (operations_from 1 (asked_operations x)) (clients_from (n + 1) xs) (clients_from (n + length (x ∷ xs)) ys)))

  -- ---- boards

  pub boards_stand : (specs : List BoardSpec) (shown : List BoardLine) → AllZip IsLineOf specs shown
      → AllZip (MayStand boards told) (map Board specs) (map board_text shown)
  boards_stand [] [] can = tt
  boards_stand [] (s ∷ shown) can = absurd can
  boards_stand (b ∷ specs) [] can = absurd can
  boards_stand (b ∷ specs) (s ∷ shown) can = ((s, can.0, refl), boards_stand specs shown can.1)

-- ---- steps

pub sent_by : (step : Step) (ask : Asked) → asked_in step ≡ Some ask → CanBePacked step → CanBeSent ask.denied ask.op
sent_by (Do op) ask is packed = let same : record { op = op; denied = None } ≡ ask = cc in
    subst (λ (a : Asked). CanBeSent a.denied a.op) same packed
sent_by (Denied rule op) ask is packed = let same : record { op = op; denied = Some rule } ≡ ask = cc in
    subst (λ (a : Asked). CanBeSent a.denied a.op) same packed
sent_by Dispatch ask is packed = absurd cc

one_asked : (step : Step) (steps : List Step) (ask : Asked) → asked_in step ≡ Some ask
    → asked_operations (step ∷ steps) ≡ ask ∷ asked_operations steps
one_asked step steps ask is = rw is refl

none_asked : (step : Step) (steps : List Step) → asked_in step ≡ None → asked_operations (step ∷ steps) ≡ asked_operations steps
none_asked step steps is = rw is refl

taken : (steps : List Step) (i : ℕ) (step : Step) → i < length steps → step ≡ get_or steps i step
    → asked_operations (take (i + 1) steps) ≡ asked_operations (take i steps) ++ asked_operations (step ∷ [])
taken steps i step low is =
    rw add-one
    (ap asked_operations (take-suc steps i step low ∙ ap (λ (s : Step). take i steps ++ s ∷ []) (sym is))
    ∙ filter_map-append asked_in (take i steps) (step ∷ []))

pub asked_taken : (steps : List Step) (i : ℕ) (step : Step) (ask : Asked) → i < length steps
    → step ≡ get_or steps i step → asked_in step ≡ Some ask
    → asked_operations (take (i + 1) steps) ≡ asked_operations (take i steps) ++ ask ∷ []
asked_taken steps i step ask low is some =
    taken steps i step low is ∙ ap (λ (more : List Asked). asked_operations (take i steps) ++ more) (one_asked step [] ask some)

pub none_taken : (steps : List Step) (i : ℕ) (step : Step) → i < length steps → step ≡ get_or steps i step
    → asked_in step ≡ None → asked_operations (take (i + 1) steps) ≡ asked_operations (take i steps)
none_taken steps i step low is none =
    taken steps i step low is
    ∙ (ap (λ (more : List Asked). asked_operations (take i steps) ++ more) (none_asked step [] none) ∙ append-nil (asked_operations (take i steps)))

pub asked_parts : (steps : List Step) (i : ℕ) (step : Step) (ask : Asked) → drop i steps ≡ step ∷ drop (i + 1) steps
    → asked_in step ≡ Some ask → asked_operations steps ≡ asked_operations (take i steps) ++ ask ∷ asked_operations (drop (i + 1) steps)
asked_parts steps i step ask is some =
    ap asked_operations (sym (take-append-drop i steps))
    ∙ (filter_map-append asked_in (take i steps) (drop i steps)
    ∙ ap (λ (more : List Asked). asked_operations (take i steps) ++ more) (ap asked_operations is ∙ one_asked step (drop (i + 1) steps) ask some))

pub take_next : {A : Type 0} (xs : List A) (i : ℕ) (x : A) → i < length xs → x ≡ get_or xs i x
    → take (i + 1) xs ≡ take i xs ++ x ∷ []
take_next xs i x low is = rw add-one (take-suc xs i x low ∙ ap (λ y. take i xs ++ y ∷ []) (sym is))

pub parts_at : {A : Type 0} (xs : List A) (i : ℕ) (x : A) → drop i xs ≡ x ∷ drop (i + 1) xs
    → xs ≡ take i xs ++ x ∷ drop (i + 1) xs
parts_at xs i x is = sym (take-append-drop i xs) ∙ ap (λ ys. take i xs ++ ys) is

module _ (boards : List BoardSpec) (told : List Greeting) where
  pub client_stuck : (client : ℕ) (steps : List Step) (old mid : Reader) (u : Unshown)
      → IsTaken old mid (heading client)
      → IsStuckBehind boards told (operations_from 1 (asked_operations steps)) (lines_of mid.text.now) mid.line u
      → IsStuckBehind boards told (Heading client ∷ operations_from 1 (asked_operations steps)) (lines_of old.text.now) old.line u
  client_stuck client steps old mid u taken stuck =
      behind_after boards told (Heading client ∷ []) (operations_from 1 (asked_operations steps)) (lines_of old.text.now)
      (heading client ∷ []) (lines_of mid.text.now) old.line mid.line u (refl, tt) taken.cut taken.counted stuck

  pub client_refused : (client : ℕ) (steps : List Step) (old mid : Reader) (r : Result (List Showing) Unshown)
      → IsTaken old mid (heading client)
      → IfErr r (IsStuckBehind boards told (operations_from 1 (asked_operations steps)) (lines_of mid.text.now) mid.line)
      → IfErr r (IsStuckBehind boards told (Heading client ∷ operations_from 1 (asked_operations steps)) (lines_of old.text.now)
      old.line)
  client_refused client steps old mid (Ok shows) taken stuck = tt
  client_refused client steps old mid (Err u) taken stuck = client_stuck client steps old mid u taken stuck

  pub clients_more : (scripts : List (List Step)) (client : ℕ) (steps found : List Step) (old mid new : Reader)
      (clients : List (List Showing)) (shows : List Showing) → AreClients boards told scripts old mid clients
      → client ≡ 1 + length scripts → found ≡ steps → IsClient boards told client found mid new shows
      → AreClients boards told (scripts ++ steps ∷ []) old new (clients ++ shows ∷ [])
  clients_more scripts client steps found old mid new clients shows before is same next =
      let here = subst (λ (s : List Step). IsClient boards told client s mid new shows) same next in
      let T = client_texts 1 (clients_under boards scripts clients) in
      let L = map line_text (lines_under boards 1 (asked_operations steps) shows) in
      record {
        can = zip_push (CanShowAll told) scripts clients steps shows before.can here.can;
        spelled =
            before.spelled
            ∙ (ap (λ (ls : List (List ℕ)). T ++ ls) here.spelled
            ∙ sym (ap (λ (ls : List (List ℕ)). ls ++ lines_of new.text.now)
            (texts_push boards told 1 client scripts clients steps shows before.can is)
            ∙ (append_assoc T (heading client ∷ (L ++ [])) (lines_of new.text.now)
            ∙ ap (λ (ls : List (List ℕ)). T ++ (heading client ∷ (ls ++ lines_of new.text.now))) (append-nil L))));
        counted = omega (
          arith,
          before.counted,
          here.counted,
          ap length (clients_append boards told 1 scripts (steps ∷ [])),
          length-append (clients_from 1 scripts) (clients_from (1 + length scripts) (steps ∷ [])),
          length_client (1 + length scripts) steps [],
        );
      }

  pub clients_stuck : (all scripts more : List (List Step)) (client : ℕ) (steps found : List Step) (old mid : Reader)
      (clients : List (List Showing)) (u : Unshown) → AreClients boards told scripts old mid clients
      → client ≡ 1 + length scripts → found ≡ steps → all ≡ scripts ++ steps ∷ more
      → IsStuckBehind boards told (Heading client ∷ operations_from 1 (asked_operations found)) (lines_of mid.text.now) mid.line u
      → IsStuckBehind boards told (clients_from 1 all) (lines_of old.text.now) old.line u
  clients_stuck all scripts more client steps found old mid clients u before is same parts stuck =
      let here = subst (λ (s : List Step). IsStuckBehind boards told (Heading client ∷ operations_from 1 (asked_operations s))
      (lines_of mid.text.now) mid.line u) same stuck in
      let rest = clients_from (client + 1) more in
      let renumbered : clients_from client (steps ∷ more) ≡ clients_from (1 + length scripts) (steps ∷ more) =
      ap (λ (k : ℕ). clients_from k (steps ∷ more)) is in
      subst (λ (es : List Entry). IsStuckBehind boards told es (lines_of old.text.now) old.line u)
      (ap (λ (es : List Entry). clients_from 1 scripts ++ es) renumbered
      ∙ (sym (clients_append boards told 1 scripts (steps ∷ more)) ∙ ap (clients_from 1) (sym parts)))
      (behind_after boards told (clients_from 1 scripts) (clients_from client (steps ∷ more)) (lines_of old.text.now)
      (client_texts 1 (clients_under boards scripts clients)) (lines_of mid.text.now) old.line mid.line u
      (clients_stand boards told 1 scripts clients before.can) before.spelled before.counted
      (behind_more boards told (Heading client ∷ operations_from 1 (asked_operations steps)) rest (lines_of mid.text.now) mid.line u
      here))

pub mapped : (specs : List BoardSpec) → length (map Board specs) ≡ length specs
mapped [] = refl
mapped (spec ∷ specs) = ap suc (mapped specs)

pub boards_more : (specs : List BoardSpec) (spec : BoardSpec) (old mid new : Reader) (shown : List BoardLine)
    (s : BoardLine) → AreBoards specs old mid shown → IsNextBoard spec mid new s
    → AreBoards (specs ++ spec ∷ []) old new (shown ++ s ∷ [])
boards_more specs spec old mid new shown s before next = record {
  can = zip_push IsLineOf specs shown spec s before.can next.can;
  spelled =
      before.spelled
      ∙ (ap (λ (ls : List (List ℕ)). map board_text shown ++ ls) next.spelled
      ∙ sym (ap (λ (ls : List (List ℕ)). ls ++ lines_of new.text.now) (map-append board_text shown (s ∷ []))
      ∙ append_assoc (map board_text shown) (board_text s ∷ []) (lines_of new.text.now)));
  counted = omega (arith, before.counted, next.counted, length-append specs (spec ∷ []));
}

pub boards_stuck : (boards : List BoardSpec) (told : List Greeting) (all specs more : List BoardSpec) (spec : BoardSpec)
    (old mid : Reader) (shown : List BoardLine) (u : Unshown) → AreBoards specs old mid shown
    → all ≡ specs ++ spec ∷ more
    → IsStuckBehind boards told (Board spec ∷ []) (lines_of mid.text.now) mid.line u
    → IsStuckBehind boards told (map Board all) (lines_of old.text.now) old.line u
boards_stuck boards told all specs more spec old mid shown u before parts stuck =
    subst (λ (es : List Entry). IsStuckBehind boards told es (lines_of old.text.now) old.line u)
    (sym (map-append Board specs (spec ∷ more)) ∙ ap (λ (bs : List BoardSpec). map Board bs) (sym parts))
    (behind_after boards told (map Board specs) (map Board (spec ∷ more)) (lines_of old.text.now) (map board_text shown)
    (lines_of mid.text.now) old.line mid.line u (boards_stand boards told specs shown before.can) before.spelled
    (omega (arith, before.counted, mapped specs))
    (behind_more boards told (Board spec ∷ []) (map Board more) (lines_of mid.text.now) mid.line u stuck))
