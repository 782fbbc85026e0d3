-- A text shows one thing.
use Rattle.std.proofs.Common.{◌≡◌, ℕ, ◌+◌, List, [], ◌∷◌, ◌++◌, length, map, drop, get_or, Some, refl, sym, ap, subst, ◌∙◌, arith}
use Rattle.std.specs.List.{AllZip}
use Rattle.board_specs.specs.declared.spec.BoardSpec.{BoardSpec}
use Rattle.script_steps.specs.declared.operation.Step.{Step}
use Rattle.script_steps.specs.Rulings.{Asked, asked_operations}
use Rattle.script_plans.specs.declared.greeting.Greeting.{Greeting}
use Rattle.transcript.specs.declared.line.BoardLine.{BoardLine}
use Rattle.transcript.specs.declared.line.BoardLine.TheVariants.{Live, Silent, Down}
use Rattle.transcript.specs.Lines.{Showing}
use Rattle.transcript.specs.Text.{board_text, down_text, line_text, live_text, silent_text}
use Rattle.transcript_reader.specs.declared.shown.Shown.{Shown}
use Rattle.transcript_reader.specs.Entries.{CanShowIn, IsCount, IsLineOf, line_under}
use Rattle.transcript_reader.specs.Results.{CanShow}
use Rattle.transcript_reader.specs.Shown.{CanShowAll, HaveNames, IsShownBy, clients_under, greetings_in, lines_under}
use Rattle.transcript_reader.specs.Walks.{client_texts, shows_text}
use Rattle.transcript_reader.proofs.BoardTexts.{counts_text, front_again, read_again}
use Rattle.transcript_reader.proofs.OperationLines.{front_of, line_parts}
use Rattle.transcript_reader.proofs.Shows.{candidate_again}
use Rattle.transcript_reader.proofs.LawCuts.{lines_shown}
use Rattle.transcript_reader.proofs.LawPlaces.{as_many}

-- ---- lists

two_parts : {A : Type 0} (xs us ys vs : List A) → length xs ≡ length us → xs ++ ys ≡ us ++ vs → (xs ≡ us) × (ys ≡ vs)
two_parts [] [] ys vs long e = (refl, e)
two_parts [] (u ∷ us) ys vs long e = absurd (omega arith)
two_parts (x ∷ xs) [] ys vs long e = absurd (omega arith)
two_parts (x ∷ xs) (u ∷ us) ys vs long e =
    let tails : xs ++ ys ≡ us ++ vs = cc in
    let more = two_parts xs us ys vs (omega arith) tails in
    let first : x ≡ u = cc in
    (ap (λ y. y ∷ xs) first ∙ ap (λ zs. u ∷ zs) more.0, more.1)

same_behind : (front xs ys : List ℕ) → front ++ xs ≡ front ++ ys → xs ≡ ys
same_behind [] xs ys e = e
same_behind (b ∷ front) xs ys e = let tails : front ++ xs ≡ front ++ ys = cc in same_behind front xs ys tails

heads : {A : Type 0} {x y : A} {xs ys : List A} → x ∷ xs ≡ y ∷ ys → x ≡ y
heads same = cc

tails : {A : Type 0} {x y : A} {xs ys : List A} → x ∷ xs ≡ y ∷ ys → xs ≡ ys
tails same = cc

some_same : {A : Type 0} {x y : A} → Some x ≡ Some y → x ≡ y
some_same same = cc

-- ---- boards

live_not_silent : (name : List ℕ) (a b c d : ℕ) → live_text name a b c d ≡ silent_text name → ⊥
live_not_silent name a b c d e =
    let tails = same_behind name _ _ (ap (drop 6) e) in
    let letters : ◌≡◌ {A = ℕ} 112 115 = ap (λ l. get_or l 1 0) tails in omega arith

live_not_down : (name : List ℕ) (a b c d : ℕ) → live_text name a b c d ≡ down_text name → ⊥
live_not_down name a b c d e =
    let tails = same_behind name _ _ (ap (drop 6) e) in
    let letters : ◌≡◌ {A = ℕ} 112 100 = ap (λ l. get_or l 1 0) tails in omega arith

down_not_silent : (name : List ℕ) → down_text name ≡ silent_text name → ⊥
down_not_silent name e =
    let tails = same_behind name _ _ (ap (drop 6) e) in
    let letters : ◌≡◌ {A = ℕ} 100 115 = ap (λ l. get_or l 1 0) tails in omega arith

same_live : (name one other : List ℕ) (a b c d e f g h : ℕ) → one ≡ name → other ≡ name → IsCount a → IsCount b
    → IsCount c → IsCount d → IsCount e → IsCount f → IsCount g → IsCount h
    → live_text one a b c d ≡ live_text other e f g h → Live one a b c d ≡ Live other e f g h
same_live name one other a b c d e f g h is also fa fb fc fd fe ff fg fh same =
    let names : one ≡ other = is ∙ sym also in
    let line = live_text other e f g h in
    let whole : line ≡ live_text other a b c d = sym same ∙ ap (λ (n : List ℕ). live_text n a b c d) names in
    let found = front_again other line e f g h refl in
    let first = read_again other line (counts_text e f g h) a b c d fa fb fc fd whole found in
    let second = read_again other line (counts_text e f g h) e f g h fe ff fg fh refl found in
    ap (λ (n : List ℕ). Live n a b c d) names
    ∙ ap (λ (k : ℕ × ℕ × ℕ × ℕ). Live other k.0 k.1 k.2 k.3)
    (some_same {A = ℕ × ℕ × ℕ × ℕ} {x = (a, b, c, d)} {y = (e, f, g, h)} (sym first ∙ second))

-- of one name
same_board : (spec : BoardSpec) (one other : BoardLine) → IsLineOf spec one → IsLineOf spec other
    → board_text one ≡ board_text other → one ≡ other
same_board spec (Live n a b c d) (Live m e f g h) is also same =
    same_live spec.name n m a b c d e f g h is.0 also.0 is.1 is.2 is.3 is.4 also.1 also.2 also.3 also.4 same
same_board spec (Live n a b c d) (Silent m) is also same =
    absurd (live_not_silent m a b c d (subst (λ (x : List ℕ). live_text x a b c d ≡ silent_text m) (is.0 ∙ sym also) same))
same_board spec (Live n a b c d) (Down m) is also same =
    absurd (live_not_down m a b c d (subst (λ (x : List ℕ). live_text x a b c d ≡ down_text m) (is.0 ∙ sym also) same))
same_board spec (Silent n) (Live m a b c d) is also same =
    absurd (live_not_silent n a b c d
    (subst (λ (x : List ℕ). live_text x a b c d ≡ silent_text n) (also.0 ∙ sym is) (sym same)))
same_board spec (Silent n) (Silent m) is also same = ap Silent (is ∙ sym also)
same_board spec (Silent n) (Down m) is also same =
    absurd (down_not_silent n (subst (λ (x : List ℕ). down_text x ≡ silent_text n) (also ∙ sym is) (sym same)))
same_board spec (Down n) (Live m a b c d) is also same =
    absurd (live_not_down n a b c d
    (subst (λ (x : List ℕ). live_text x a b c d ≡ down_text n) (also.0 ∙ sym is) (sym same)))
same_board spec (Down n) (Silent m) is also same =
    absurd (down_not_silent m (subst (λ (x : List ℕ). down_text x ≡ silent_text m) (is ∙ sym also) same))
same_board spec (Down n) (Down m) is also same = ap Down (is ∙ sym also)

same_boards : (specs : List BoardSpec) (one other : List BoardLine) → AllZip IsLineOf specs one
    → AllZip IsLineOf specs other → map board_text one ≡ map board_text other → one ≡ other
same_boards [] [] [] is also same = refl
same_boards [] [] (y ∷ ys) is also same = absurd also
same_boards [] (x ∷ xs) ys is also same = absurd is
same_boards (spec ∷ specs) [] ys is also same = absurd is
same_boards (spec ∷ specs) (x ∷ xs) [] is also same = absurd also
same_boards (spec ∷ specs) (x ∷ xs) (y ∷ ys) is also same =
    let first : board_text x ≡ board_text y = cc in
    let later : map board_text xs ≡ map board_text ys = cc in
    ap (λ (z : BoardLine). z ∷ xs) (same_board spec x y is.0 also.0 first)
    ∙ ap (λ (zs : List BoardLine). y ∷ zs) (same_boards specs xs ys is.1 also.1 later)

-- ---- operations

same_told : (told : Greeting) (ask : Asked) (x y : Showing) → CanShow told ask x → CanShow told ask y
    → shows_text x ≡ shows_text y → x ≡ y
same_told told ask x y can could same =
    let one = candidate_again ask.denied told ask.op x (shows_text x) can refl in
    let other = candidate_again ask.denied told ask.op y (shows_text x) could same in
    cc

module _ (boards : List BoardSpec) (told : List Greeting) where
  same_operation : (n : ℕ) (ask : Asked) (x y : Showing) → CanShowIn told ask x → CanShowIn told ask y
      → line_text (line_under boards n ask x) ≡ line_text (line_under boards n ask y) → x ≡ y
  same_operation n ask x y (told_x, has, can) (told_y, has_too, could) same =
      let one : told_y ≡ told_x = cc in
      let tails = same_behind (front_of boards n ask) (shows_text x) (shows_text y)
      (sym (line_parts boards n ask x) ∙ (same ∙ line_parts boards n ask y)) in
      same_told told_x ask x y can (subst (λ (g : Greeting). CanShow g ask y) one could) tails

  same_operations : (n : ℕ) (asks : List Asked) (xs ys : List Showing) → AllZip (CanShowIn told) asks xs
      → AllZip (CanShowIn told) asks ys
      → map line_text (lines_under boards n asks xs) ≡ map line_text (lines_under boards n asks ys) → xs ≡ ys
  same_operations n [] [] [] can could same = refl
  same_operations n [] [] (y ∷ ys) can could same = absurd could
  same_operations n [] (x ∷ xs) ys can could same = absurd can
  same_operations n (ask ∷ asks) [] ys can could same = absurd can
  same_operations n (ask ∷ asks) (x ∷ xs) [] can could same = absurd could
  same_operations n (ask ∷ asks) (x ∷ xs) (y ∷ ys) can could same =
      let first : line_text (line_under boards n ask x) ≡ line_text (line_under boards n ask y) = heads same in
      let later : map line_text (lines_under boards (n + 1) asks xs) ≡ map line_text (lines_under boards (n + 1) asks ys) =
      tails same in
      ap (λ (z : Showing). z ∷ xs) (same_operation n ask x y can.0 could.0 first)
      ∙ ap (λ (zs : List Showing). y ∷ zs) (same_operations (n + 1) asks xs ys can.1 could.1 later)

  as_many_lines : (n : ℕ) (asks : List Asked) (xs : List Showing) → AllZip (CanShowIn told) asks xs
      → length (map line_text (lines_under boards n asks xs)) ≡ length asks
  as_many_lines n [] [] can = refl
  as_many_lines n [] (x ∷ xs) can = absurd can
  as_many_lines n (ask ∷ asks) [] can = absurd can
  as_many_lines n (ask ∷ asks) (x ∷ xs) can = omega (arith, as_many_lines (n + 1) asks xs can.1)

  same_clients : (n : ℕ) (scripts : List (List Step)) (xs ys : List (List Showing)) → AllZip (CanShowAll told) scripts xs
      → AllZip (CanShowAll told) scripts ys
      → client_texts n (clients_under boards scripts xs) ≡ client_texts n (clients_under boards scripts ys) → xs ≡ ys
  same_clients n [] [] [] can could same = refl
  same_clients n [] [] (y ∷ ys) can could same = absurd could
  same_clients n [] (x ∷ xs) ys can could same = absurd can
  same_clients n (s ∷ scripts) [] ys can could same = absurd can
  same_clients n (s ∷ scripts) (x ∷ xs) [] can could same = absurd could
  same_clients n (s ∷ scripts) (x ∷ xs) (y ∷ ys) can could same =
      let parts = two_parts (map line_text (lines_under boards 1 (asked_operations s) x))
      (map line_text (lines_under boards 1 (asked_operations s) y)) (client_texts (n + 1) (clients_under boards scripts xs))
      (client_texts (n + 1) (clients_under boards scripts ys))
      (as_many_lines 1 (asked_operations s) x can.0 ∙ sym (as_many_lines 1 (asked_operations s) y could.0)) (tails same) in
      ap (λ (z : List Showing). z ∷ xs) (same_operations 1 (asked_operations s) x y can.0 could.0 parts.0)
      ∙ ap (λ (zs : List (List Showing)). y ∷ zs) (same_clients (n + 1) scripts xs ys can.1 could.1 parts.1)

-- ---- the whole

shown_of : List (List Showing) → List BoardLine → Shown
shown_of clients boards = record { clients = clients; boards = boards }

one_shown : (one other : Shown) → one.clients ≡ other.clients → one.boards ≡ other.boards → one ≡ other
unfolding shown_of
one_shown one other clients boards =
    ap (λ (cs : List (List Showing)). shown_of cs one.boards) clients
    ∙ ap (λ (bs : List BoardLine). shown_of other.clients bs) boards

pub shows_one_thing : (boards : List BoardSpec) (scripts : List (List Step)) (text : List ℕ) (one other : Shown)
    → HaveNames boards scripts → IsShownBy boards scripts text one → IsShownBy boards scripts text other → one ≡ other
shows_one_thing boards scripts text one other names is also =
    let told = greetings_in boards one.boards in
    let parts = two_parts (client_texts 1 (clients_under boards scripts one.clients))
    (client_texts 1 (clients_under boards scripts other.clients)) (map board_text one.boards)
    (map board_text other.boards)
    (as_many boards told scripts one.clients is.clients'
    ∙ sym (as_many boards (greetings_in boards other.boards) scripts other.clients also.clients'))
    (sym (lines_shown boards scripts text one names is) ∙ lines_shown boards scripts text other names also) in
    let same : one.boards ≡ other.boards = same_boards boards one.boards other.boards is.boards' also.boards' parts.1 in
    let could : AllZip (CanShowAll told) scripts other.clients =
    subst (λ (ls : List BoardLine). AllZip (CanShowAll (greetings_in boards ls)) scripts other.clients) (sym same)
    also.clients' in
    one_shown one other (same_clients boards told 1 scripts one.clients other.clients is.clients' could parts.0) same
