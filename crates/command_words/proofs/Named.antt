-- The command of words is that of their form.
use Rattle.std.proofs.Common.{◌≡◌, ◌∙◌, ◌&&◌, ℕ, Bool, true, false, not, if◌then◌else◌, List, [], ◌∷◌}
use Rattle.std.proofs.Common.{codes}
use Rattle.std.proofs.Common.{Option, Some, None, refl, sym, ap, subst, inl, inr, ◌⊎◌, arith}
use Rattle.std.proofs.lemmas.Bool.Decides.{eqb_tells}
use Rattle.std.specs.Str.{bytes_eq}
use Rattle.command_words.specs.Commands.{command_of, is_option, number_between}
use Rattle.command_words.specs.Commands.{load_of, load_command_of, serve_of, serve_command_of}
use Rattle.command_words.specs.Forms.{Form, words_of, IsAlone, IsNamed, IsPlain, ArePlain, alone, check, serve, load}
use Rattle.command_words.specs.Read.{command_named}
use Rattle.command_words.specs.declared.command.Command.{Command}
use Rattle.command_words.specs.declared.command.Command.TheVariants as command
use Rattle.command_words.proofs.Digits.{hyphen}
use Rattle.command_words.proofs.Alone.{each_true, is_alone_or_none, is_word}
use Rattle.command_words.proofs.Walks.{not_hyphen}

no_option : (w : List ℕ) → IsPlain w → is_option w ≡ false
no_option [] plain = refl
no_option (byte ∷ bytes) plain = not_hyphen byte plain

plain_or : (w : List ℕ) → (is_option w ≡ true) ⊎ IsPlain w
plain_or [] = inr tt
plain_or (byte ∷ bytes) = elim (eqb_tells byte 45) [
  | inl p ↦ inl p.0
  | inr p ↦ inr p.1
]

-- what two words are, by what the first of them is
if_table : Bool → Bool → List ℕ → Option Command
if_table is_check is_load word = if is_check then Some (command.Check word) else if is_load then load_command_of word else None

pub named_words : (s : Form) → ArePlain (words_of s) → command_of (words_of s) ≡ command_named s
unfolding if_table
named_words (alone name) plain = refl
named_words (check table) plain =
    ap (λ b. if_table (not b) (bytes_eq (codes "check") (codes "load")) table) (no_option table plain.1.0)
named_words (serve port count) plain = refl
named_words (load count) plain = refl

-- a word that begins with a hyphen is no number
no_number : (least most : ℕ) (w : List ℕ) → is_option w ≡ true → number_between least most w ≡ None
no_number least most [] option = cc
no_number least most (byte ∷ bytes) option = elim (eqb_tells byte 45) [
  | inl p ↦ subst (λ n. number_between least most (n ∷ bytes) ≡ None) (sym p.1) (hyphen least most bytes)
  | inr p ↦ absurd cc
]

no_count : (port : Option ℕ) → serve_of port None ≡ None
no_count None = refl
no_count (Some port) = refl

-- no name alone begins with a hyphen
plain_name : (w : List ℕ) → IsAlone w → IsPlain w
plain_name w is = elim (plain_or w) [
  | inl option ↦ absurd (option_apart w option (each_true (λ n. not (is_option n)) refl w is))
  | inr plain ↦ plain
]
  where
    option_apart : (w : List ℕ) → is_option w ≡ true → not (is_option w) ≡ true → ⊥
    option_apart w option other = let no : false ≡ true = sym (ap not option) ∙ other in cc

abbrev IsNone : List (List ℕ) → Type 0
IsNone ws = command_of ws ≡ None

abbrev Says : List (List ℕ) → Type 0
Says ws = (s : Form) → IsNamed s → ws ≡ words_of s → ArePlain ws → ⊥

one : (w : List ℕ) → Says (w ∷ []) → IsNone (w ∷ [])
one w never = elim (is_alone_or_none w) [
  | inr none ↦ none
  | inl is ↦ absurd (never (alone w) is refl (plain_name w is, tt))
]

no_load : (w : List ℕ) → is_option w ≡ true → load_command_of w ≡ None
no_load w option = ap load_of (no_number 1 100000 w option)

-- behind `check`
two_check : (t : List ℕ) → Says (codes "check" ∷ t ∷ []) → IsNone (codes "check" ∷ t ∷ [])
unfolding if_table
two_check t never = elim (plain_or t) [
  | inl option ↦ ap (λ b. if_table (not b) false t) option
  | inr plain ↦ absurd (never (check t) tt refl ((λ e. absurd (omega (arith, e))), (plain, tt)))
]

two_load : (t : List ℕ) → Says (codes "load" ∷ t ∷ []) → IsNone (codes "load" ∷ t ∷ [])
two_load t never = elim (plain_or t) [
  | inl option ↦ no_load t option
  | inr plain ↦ absurd (never (load t) tt refl ((λ e. absurd (omega (arith, e))), (plain, tt)))
]

two : (w t : List ℕ) → Says (w ∷ t ∷ []) → IsNone (w ∷ t ∷ [])
unfolding if_table
two w t never = elim (is_word w (codes "check")) [
  | inr is ↦ subst (λ n. IsNone (n ∷ t ∷ [])) (sym is)
      (two_check t (subst (λ n. Says (n ∷ t ∷ [])) is never))
  | inl other ↦ elim (is_word w (codes "load")) [
    | inr is ↦ subst (λ n. IsNone (n ∷ t ∷ [])) (sym is)
        (two_load t (subst (λ n. Says (n ∷ t ∷ [])) is never))
    | inl more ↦
        ap (λ b. if_table (b && not (is_option t)) (bytes_eq w (codes "load")) t) other
        ∙ ap (λ b. if_table false b t) more
  ]
]

three : (w p c : List ℕ) → Says (w ∷ p ∷ c ∷ []) → IsNone (w ∷ p ∷ c ∷ [])
three w p c never = elim (is_word w (codes "serve")) [
  | inl other ↦ ap (λ b. if b then serve_command_of p c else None) other
  | inr is ↦ subst (λ n. IsNone (n ∷ p ∷ c ∷ [])) (sym is) (elim (plain_or p) [
    | inl option ↦ ap (λ port. serve_of port (number_between 1 64 c)) (no_number 1 65535 p option)
    | inr port ↦ elim (plain_or c) [
      | inl option ↦ ap (serve_of (number_between 1 65535 p)) (no_number 1 64 c option)
          ∙ no_count (number_between 1 65535 p)
      | inr count ↦ absurd (never (serve p c) tt (ap (λ n. n ∷ p ∷ c ∷ []) is)
          (subst (λ n. ArePlain (n ∷ p ∷ c ∷ [])) (sym is) ((λ e. absurd (omega (arith, e))), (port, (count, tt)))))
    ]
  ])
]

pub unnamed_words : (ws : List (List ℕ)) → Says ws → IsNone ws
unnamed_words [] never = refl
unnamed_words (w ∷ []) never = one w never
unnamed_words (w ∷ t ∷ []) never = two w t never
unnamed_words (w ∷ p ∷ c ∷ []) never = three w p c never
unnamed_words (w ∷ p ∷ c ∷ d ∷ more) never = refl
