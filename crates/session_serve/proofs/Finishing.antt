-- Boards that are finished one after another.
use Rattle.std.proofs.Common.{◌≡◌, ◌∙◌, ℕ, List, [], ◌∷◌, ◌++◌, length, refl, sym, ap, subst, suc, arith}
use Rattle.std.proofs.Common.{append_assoc, append-nil}
use Rattle.std.specs.List.{AllByRecursion}
use Rattle.std.proofs.lemmas.List.{nil_from_length}
use Rattle.links.specs.declared.link.Link.{Ghosts}
use Rattle.transcript.specs.declared.line.BoardLine.{BoardLine}
use Rattle.board_greeting.specs.Standings.{link_in, links_in}
use Rattle.board_greeting.specs.declared.standing.Standing.{Standing}
use Rattle.session_serve.specs.Finish.{IsHere, IsSound, line_in, lines_in}

pub record FinishedSoFar {L : Type 0} (seen : Ghosts L) (names : List (List ℕ)) (boards : List (Standing L))
    (names_left : List (List ℕ)) (left : List (Standing L)) (lines : List BoardLine) (kept kept_now : List L) : Type 0
  where
    pub lines' : lines ++ lines_in names_left left ≡ lines_in names boards
    pub links : kept_now ++ links_in left ≡ kept ++ links_in boards
    pub all : length names_left ≡ length left
    pub here : AllByRecursion IsHere left
    pub sound : AllByRecursion (IsSound seen) left → AllByRecursion (IsSound seen) boards

pub none_finished : {L : Type 0} (seen : Ghosts L) (names : List (List ℕ)) (boards : List (Standing L))
    (lines : List BoardLine) (kept : List L) → length names ≡ length boards → AllByRecursion IsHere boards
    → lines ≡ [] → FinishedSoFar seen names boards names boards lines kept kept
none_finished seen names boards lines kept all here none = record {
  lines' = ap (λ (l : List BoardLine). l ++ lines_in names boards) none;
  links = refl;
  all = all;
  here = here;
  sound = λ s. s;
}

-- the next board is here
pub next_here : {L : Type 0} {seen : Ghosts L} {names : List (List ℕ)} {boards : List (Standing L)}
    {names_left : List (List ℕ)} {left later : List (Standing L)} {board : Standing L} {lines : List BoardLine}
    {kept mid : List L} → FinishedSoFar seen names boards names_left left lines kept mid → left ≡ board ∷ later
    → IsHere board × AllByRecursion IsHere later
next_here so_far is = subst (AllByRecursion IsHere) is so_far.here

pub one_finished : {L : Type 0} {seen : Ghosts L} {names : List (List ℕ)} {boards : List (Standing L)}
    {names_left names_later : List (List ℕ)} {name : List ℕ} {left later : List (Standing L)} {board : Standing L}
    {lines lines_now : List BoardLine} {kept mid now : List L} (link : L)
    → FinishedSoFar seen names boards names_left left lines kept mid
    → names_left ≡ name ∷ names_later → left ≡ board ∷ later → lines_now ≡ lines ++ line_in name board ∷ []
    → link_in board ≡ link ∷ [] → now ≡ mid ++ link ∷ [] → IsSound seen board
    → FinishedSoFar seen names boards names_later later lines_now kept now
one_finished {L} {seen} {names} {boards} {names_left} {names_later} {name} {left} {later} {board} {lines}
    {lines_now} {kept} {mid} {now} link so_far names_are left_is pushed own given sound = record {
      lines' = ap (λ (l : List BoardLine). l ++ lines_in names_later later) pushed
          ∙ (append_assoc lines (line_in name board ∷ []) (lines_in names_later later)
          ∙ (sym (ap (λ (n : List (List ℕ)). lines ++ lines_in n left) names_are
          ∙ ap (λ (b : List (Standing L)). lines ++ lines_in (name ∷ names_later) b) left_is) ∙ so_far.lines'));
      links = ap (λ (l : List L). l ++ links_in later) given
          ∙ (append_assoc mid (link ∷ []) (links_in later)
          ∙ (ap (λ (l : List L). mid ++ (l ++ links_in later)) (sym own)
          ∙ (sym (ap (λ (b : List (Standing L)). mid ++ links_in b) left_is) ∙ so_far.links)));
      all = (let a = so_far.all in let n = ap (λ (l : List (List ℕ)). length l) names_are in
          let b = ap (λ (l : List (Standing L)). length l) left_is in omega (arith, a, n, b));
      here = (next_here so_far left_is).1;
      sound = λ rest. so_far.sound (subst (AllByRecursion (IsSound seen)) (sym left_is) (sound, rest));
    }

pub record Finished {L : Type 0} (seen : Ghosts L) (names : List (List ℕ)) (boards : List (Standing L))
    (lines : List BoardLine) (kept kept_now : List L) : Type 0 where
  pub lines' : lines ≡ lines_in names boards
  pub links : kept_now ≡ kept ++ links_in boards
  pub sound : AllByRecursion (IsSound seen) boards

pub all_finished : {L : Type 0} {seen : Ghosts L} {names : List (List ℕ)} {boards : List (Standing L)}
    {names_left : List (List ℕ)} {left : List (Standing L)} {lines : List BoardLine} {kept now : List L}
    → FinishedSoFar seen names boards names_left left lines kept now
    → length names_left ≡ 0 → Finished seen names boards lines kept now
all_finished {L} {seen} {names} {boards} {names_left} {left} {lines} {kept} {now} so_far over =
    let no_names = nil_from_length names_left over in
    let no_boards = nil_from_length left (let a = so_far.all in omega (arith, a, over)) in
    let here = subst (λ (b : List (Standing L)). FinishedSoFar seen names boards [] b lines kept now) no_boards
    (subst (λ (n : List (List ℕ)). FinishedSoFar seen names boards n left lines kept now) no_names so_far) in
    record {
      lines' = sym (append-nil lines) ∙ here.lines';
      links = sym (append-nil now) ∙ here.links;
      sound = here.sound tt;
    }

pub some_left : {L : Type 0} {seen : Ghosts L} {names : List (List ℕ)} {boards : List (Standing L)}
    {names_left names_later : List (List ℕ)} {name : List ℕ} {left : List (Standing L)} {lines : List BoardLine}
    {kept now : List L} → FinishedSoFar seen names boards names_left left lines kept now
    → names_left ≡ name ∷ names_later → length left ≡ suc (length names_later)
some_left so_far is = sym so_far.all ∙ ap (λ (l : List (List ℕ)). length l) is
