-- The commands that are a name alone, whatever their list is.
use Rattle.std.proofs.Common.{◌≡◌, ◌∙◌, ◌⊎◌, Bool, true, false, if◌then◌else◌, List, [], ◌∷◌, map, Option, Some, None}
use Rattle.std.proofs.Common.{refl, sym, ap, subst, inl, inr, is_some, find, ◌&&◌, ◌||◌}
use Rattle.std.proofs.lemmas.Option.{same_Some}
use Rattle.std.proofs.lemmas.Slice.Eq.{bytes_eq-Decides}
use Rattle.std.specs.List.{AllByRecursion, list_all}
use Rattle.std.specs.Str.{bytes_eq}
use Rattle.ipb_base.specs.Lists.{first_named}
use Rattle.clap.specs.Walk.{Text, answers_to}
use Rattle.command_words.specs.Commands.{alone, command_of_one}
use Rattle.command_words.specs.Forms.{IsAlone, names_alone}
use Rattle.command_words.specs.declared.command.Command.{Command}

pub is_word : (name w : Text) → (bytes_eq name w ≡ false) ⊎ (name ≡ w)
is_word name w = by (bytes_eq name w) refl
  where
    by : (t : Bool) → bytes_eq name w ≡ t → (bytes_eq name w ≡ false) ⊎ (name ≡ w)
    by true e = inr ((bytes_eq-Decides name w).0 e)
    by false e = inl e

-- a word that is none of the names
pub none_named : (w : Text) (rows : List (Text × Command)) → AllByRecursion (λ row. w ≡ row.0 → ⊥) rows
    → first_named rows w ≡ None
none_named w [] others = refl
none_named w (row ∷ rows) others = elim (is_word row.0 w) [
  | inr same ↦ absurd (others.0 (sym same))
  | inl apart ↦ ap (λ (b : Bool). if b then Some row.1 else first_named rows w) apart ∙ none_named w rows others.1
]

-- what holds of each name holds of a word that is one
listed : (P : Text → Type 0) (rows : List (Text × Command)) → AllByRecursion P (map (λ row. row.0) rows) → (w : Text)
    → is_some (first_named rows w) ≡ true → P w
listed P [] all w is = absurd cc
listed P (row ∷ rows) all w is = elim (is_word row.0 w) [
  | inr same ↦ subst P same all.0
  | inl other ↦ listed P rows all.1 w
      (sym (ap (λ (b : Bool). is_some (if b then Some row.1 else first_named rows w)) other) ∙ is)
]

both : {P : Type 0} (a b : Bool) → (a && b) ≡ true → (b ≡ true → P) → (a ≡ true) × P
both true b all rest = (refl, rest all)
both false b all rest = absurd cc

all_true : (test : Text → Bool) (names : List Text) → list_all test names ≡ true
    → AllByRecursion (λ (n : Text). test n ≡ true) names
all_true test [] all = tt
all_true test (n ∷ names) all = both (test n) (list_all test names) all (all_true test names)

all_same : {B : Type 0} (f g : Text → B) (names : List Text) → map f names ≡ map g names
    → AllByRecursion (λ (n : Text). f n ≡ g n) names
all_same f g [] same = tt
all_same f g (n ∷ names) same = (cc, all_same f g names cc)

-- a test that computes to true at each name, and a value that computes to the same
pub each_true : (test : Text → Bool) → list_all test names_alone ≡ true → (w : Text) → IsAlone w → test w ≡ true
each_true test all w is = listed (λ (n : Text). test n ≡ true) alone (all_true test names_alone all) w is

pub each_same : {B : Type 0} (f g : Text → B) → map f names_alone ≡ map g names_alone → (w : Text) → IsAlone w
    → f w ≡ g w
each_same f g same w is = listed (λ (n : Text). f n ≡ g n) alone (all_same f g names_alone same) w is

-- a word is one of the names, or none
pub is_alone_or_none : (w : Text) → IsAlone w ⊎ (command_of_one w ≡ None)
is_alone_or_none w = by (command_of_one w) refl
  where
    by : (command : Option Command) → command_of_one w ≡ command → IsAlone w ⊎ (command_of_one w ≡ None)
    by (Some command) is = inl (ap is_some is)
    by None is = inr is

-- one that is none answers to none of them
met_none : (b : Bool) (command : Command) (others : Option Command) (name : Text × List Text)
    (found : Option (Text × List Text)) → (if b then Some command else others) ≡ None
    → (others ≡ None → found ≡ None) → (if (b || false) then Some name else found) ≡ None
met_none true command others name found none rest = absurd cc
met_none false command others name found none rest = rest none

not_listed : (rows : List (Text × Command)) (w : Text) → first_named rows w ≡ None
    → find (answers_to w) (map (λ row. (row.0, [])) rows) ≡ None
not_listed [] w none = refl
not_listed (row ∷ rows) w none =
    met_none (bytes_eq row.0 w) row.1 (first_named rows w) (row.0, [])
    (find (answers_to w) (map (λ row. (row.0, [])) rows)) none (not_listed rows w)

pub none_answers : (w : Text) → command_of_one w ≡ None
    → find (answers_to w) (map (λ (n : Text). (n, [])) names_alone) ≡ None
none_answers w none = not_listed alone w none

-- what holds of each command holds of the one that a word names
either : (P : Command → Type 0) (b : Bool) (one : Command) (others : Option Command) (command : Command)
    → (if b then Some one else others) ≡ Some command → P one → (others ≡ Some command → P command) → P command
either P true one others command is holds rest = subst P (same_Some one command is) holds
either P false one others command is holds rest = rest is

pub one_of : (P : Command → Type 0) (rows : List (Text × Command)) → AllByRecursion (λ row. P row.1) rows → (w : Text)
    (command : Command) → first_named rows w ≡ Some command → P command
one_of P [] all w command is = absurd cc
one_of P (row ∷ rows) all w command is =
    either P (bytes_eq row.0 w) row.1 (first_named rows w) command is all.0 (one_of P rows all.1 w command)
