-- The words of each command, walked as clap walks them.
use Rattle.std.proofs.Common.{◌≡◌, ◌≢◌, ◌∙◌, ◌==◌, ◌&&◌, ◌||◌, ℕ, Bool, true, false, List, [], ◌∷◌, Option}
use Rattle.std.proofs.Common.{Some, None, refl, ap, ap₂, codes, if◌then◌else◌, inl, inr}
use Rattle.std.proofs.lemmas.Bool.Decides.{eqb_tells}
use Rattle.std.specs.Prelude.{option_and_then, slice_index_or}
use Rattle.std.specs.List.{list_all}
use Rattle.std.specs.Option.{option_map_or}
use Rattle.std.specs.Str.{bytes_eq}
use Rattle.clap.specs.Lexer.{long_of, long_of_rest, short_of, short_of_rest, strip_byte}
use Rattle.clap.specs.Walk.{Held, Rule, Step, Text, Walk, idle, value, after_step, arg_by_index}
use Rattle.clap.specs.Walk.{finished, long_or_other, nothing_held, short_or_plain, to_positional}
use Rattle.clap.specs.Walk.{walked, word_met, trailing, first_of}
use Rattle.clap.specs.Simple.{Shape, is_simple, new_rule, subcommand_of}
use Rattle.clap.specs.Takes.{default_passes, flag_word_passes, is_valid, level_passes, positional_passes, settle_passes}
use Rattle.clap.specs.Takes.{step_passes, takes, turn_passes, word_passes, bundle_passes}
use Rattle.clap.proofs.OnLiterals.{clap_on_literals}
use Rattle.command_words.specs.Forms.{Form, words_of, IsAlone, IsNamed, IsPlain, ArePlain, alone, check, serve, load}
use Rattle.command_words.specs.App.{ipbus, leaf, start, stand, after_one, after_two, rows_of_form, name_of}
use Rattle.command_words.proofs.Alone.{each_same, each_true}

-- ---- a word with no hyphen before it

pub not_hyphen : (x : ℕ) → x ≢ 45 → (x == 45) ≡ false
not_hyphen x h = elim (eqb_tells x 45) [
  | inl p ↦ absurd (h p.1)
  | inr p ↦ p.0
]

no_strip : (w : Text) → IsPlain w → strip_byte 45 w ≡ None
no_strip [] h = refl
no_strip (x ∷ xs) h = ap (λ (b : Bool). if b then Some xs else None) (not_hyphen x h)

pub no_dashes : (w : Text) → IsPlain w → bytes_eq w (45 ∷ 45 ∷ []) ≡ false
no_dashes [] h = refl
no_dashes (x ∷ xs) h = ap (λ (b : Bool). b && bytes_eq xs (45 ∷ [])) (not_hyphen x h)

pub no_long : (w : Text) → IsPlain w → long_of w ≡ None
no_long w h = ap (λ (o : Option Text). option_and_then long_of_rest (option_and_then (strip_byte 45) o)) (no_strip w h)

pub no_short : (w : Text) → IsPlain w → short_of w ≡ None
no_short w h = ap (λ (o : Option Text). option_and_then short_of_rest o) (no_strip w h)

-- ---- one word, where nothing waits and there are no subcommands

pub met_plain : (c : List Rule) (position : ℕ) (w : Text) (h : Held) → IsPlain w
    → word_met c [] false idle position w h ≡ (h, value)
met_plain c position w h plain =
    ap (λ (b : Bool). if b then (h, trailing position) else long_or_other c idle w (long_of w) h) (no_dashes w plain)
    ∙ ap (λ (o : Option (Text × Option Text)). long_or_other c idle w o h) (no_long w plain)
    ∙ ap (λ (o : Option Text). short_or_plain c idle w o h) (no_short w plain)

pub walked_plain : (c : List Rule) (position : ℕ) (w : Text) (h : Held) → IsPlain w
    → walked c [] (stand h position) w ≡ to_positional c (arg_by_index c position) w (stand h position) h
unfolding clap_on_literals
walked_plain c position w h plain =
    ap (λ (met : Held × Step). after_step c w (stand h position) met.0 met.1) (met_plain c position w h plain)

word_plain : (s : Shape) (w : Text) (h : Held) → IsPlain w → word_passes s [] false idle w h ≡ true
word_plain s w h plain =
    ap (λ (b : Bool). b || flag_word_passes s.rules s.args_override_self (long_of w) w h) (no_dashes w plain)
    ∙ ap (λ (o : Option (Text × Option Text)). flag_word_passes s.rules s.args_override_self o w h) (no_long w plain)
    ∙ ap (λ (o : Option Text). option_map_or (λ flags. bundle_passes s.rules s.args_override_self flags h) o true)
    (no_short w plain)

turn_plain : (s : Shape) (position : ℕ) (w : Text) (h : Held) (a : Rule) → IsPlain w
    → arg_by_index s.rules position ≡ Some a
    → turn_passes s [] (stand h position) w ≡ positional_passes s.rules s.args_override_self a h
turn_plain s position w h a plain there =
    ap₂ (λ (p : Bool) (met : Held × Step). p && step_passes s position met.0 met.1) (word_plain s w h plain)
    (met_plain s.rules position w h plain)
    ∙ ap (λ (o : Option Rule). option_map_or (λ b. positional_passes s.rules s.args_override_self b h) o false) there

-- ---- the commands as built

abbrev ends : Shape → Walk → Bool
ends s w =
    settle_passes s.rules s.args_override_self w.held
    && (list_all default_passes s.rules && is_valid s (finished s.rules w.held) false)

abbrev first : Shape → Rule
first s = slice_index_or s.rules 0 (new_rule [])

abbrev second : Shape → Rule
second s = slice_index_or s.rules 1 (new_rule [])

one_word : (s : Shape) (w : Text) (a : Rule) → IsPlain w → arg_by_index s.rules 1 ≡ Some a
    → level_passes s [] nothing_held (w ∷ []) false
    ≡ ((positional_passes s.rules s.args_override_self a nothing_held && true) && ends s (after_one s w))
unfolding clap_on_literals
one_word s w a plain there =
    ap₂ (λ (p : Bool) (end : Walk). (p && true) && ends s end) (turn_plain s 1 w nothing_held a plain there)
    (walked_plain s.rules 1 w nothing_held plain)

two_words : (s : Shape) (w v : Text) (a b : Rule) → IsPlain w → IsPlain v → arg_by_index s.rules 1 ≡ Some a
    → arg_by_index s.rules 2 ≡ Some b
    → after_one s w ≡ stand (after_one s w).held 2
    → level_passes s [] nothing_held (w ∷ v ∷ []) false
    ≡ ((positional_passes s.rules s.args_override_self a nothing_held
    && (positional_passes s.rules s.args_override_self b (after_one s w).held && true)) && ends s (after_two s w v))
unfolding clap_on_literals
two_words s w v a b w_plain v_plain there also stands =
    let one : walked s.rules [] start w ≡ stand (after_one s w).held 2 =
    walked_plain s.rules 1 w nothing_held w_plain ∙ stands in
    let two : walked s.rules [] (walked s.rules [] start w) v ≡ after_two s w v
    = ap (λ (x : Walk). walked s.rules [] x v) one ∙ walked_plain s.rules 2 v (after_one s w).held v_plain in
    let turn : turn_passes s [] (walked s.rules [] start w) v
    ≡ positional_passes s.rules s.args_override_self b (after_one s w).held
    = ap (λ (x : Walk). turn_passes s [] x v) one ∙ turn_plain s 2 v (after_one s w).held b v_plain also in
    ap₂ (λ (p : Bool) (q : Bool). (p && (q && true)) && ends s (walked s.rules [] (walked s.rules [] start w) v))
    (turn_plain s 1 w nothing_held a w_plain there) turn
    ∙ ap (λ (x : Walk). (positional_passes s.rules s.args_override_self a nothing_held
    && (positional_passes s.rules s.args_override_self b (after_one s w).held && true)) && ends s x) two

taken_alone : (name : Text) → IsAlone name → takes ipbus (words_of (alone name)) ≡ true
unfolding clap_on_literals
taken_alone name is = each_true (λ (n : Text). takes ipbus (n ∷ [])) refl name is

taken_check : (t : Text) → IsPlain t → takes ipbus (words_of (check t)) ≡ true
unfolding clap_on_literals
taken_check t plain = ap (λ (b : Bool). b && true) (one_word (leaf 0) t (first (leaf 0)) plain refl)

taken_load : (t : Text) → IsPlain t → takes ipbus (words_of (load t)) ≡ true
unfolding clap_on_literals
taken_load t plain = ap (λ (b : Bool). b && true) (one_word (leaf 2) t (first (leaf 2)) plain refl)

taken_serve : (p c : Text) → IsPlain p → IsPlain c → takes ipbus (words_of (serve p c)) ≡ true
unfolding clap_on_literals
taken_serve p c p_plain c_plain =
    ap (λ (b : Bool). b && true)
    (two_words (leaf 1) p c (first (leaf 1)) (second (leaf 1)) p_plain c_plain refl refl refl)

pub taken : (s : Form) → IsNamed s → ArePlain (words_of s) → takes ipbus (words_of s) ≡ true
taken (alone name) named plain = taken_alone name named
taken (check t) named plain = taken_check t plain.1.0
taken (serve p c) named plain = taken_serve p c plain.1.0 plain.1.1.0
taken (load c) named plain = taken_load c plain.1.0

-- ---- the matches

entered_alone : (name : Text) → IsAlone name → subcommand_of ipbus (words_of (alone name)) ≡ Some (name, [])
unfolding clap_on_literals
entered_alone name is =
    each_same (λ (n : Text). subcommand_of ipbus (n ∷ [])) (λ (n : Text). Some (n, [])) refl name is

entered_check : (t : Text) → IsPlain t
    → subcommand_of ipbus (words_of (check t)) ≡ Some (codes "check", rows_of_form (check t))
unfolding clap_on_literals
entered_check t plain =
    ap (λ (w : Walk). Some (codes "check", finished (leaf 0).rules w.held))
    (walked_plain (leaf 0).rules 1 t nothing_held plain)

entered_load : (t : Text) → IsPlain t
    → subcommand_of ipbus (words_of (load t)) ≡ Some (codes "load", rows_of_form (load t))
unfolding clap_on_literals
entered_load t plain =
    ap (λ (w : Walk). Some (codes "load", finished (leaf 2).rules w.held))
    (walked_plain (leaf 2).rules 1 t nothing_held plain)

walked_two : (s : Shape) (w v : Text) → IsPlain w → IsPlain v → after_one s w ≡ stand (after_one s w).held 2
    → walked s.rules [] (walked s.rules [] start w) v ≡ after_two s w v
walked_two s w v w_plain v_plain stands =
    ap (λ (x : Walk). walked s.rules [] x v) (walked_plain s.rules 1 w nothing_held w_plain ∙ stands)
    ∙ walked_plain s.rules 2 v (after_one s w).held v_plain

entered_serve : (p c : Text) → IsPlain p → IsPlain c
    → subcommand_of ipbus (words_of (serve p c)) ≡ Some (codes "serve", rows_of_form (serve p c))
unfolding clap_on_literals
entered_serve p c p_plain c_plain =
    ap (λ (w : Walk). Some (codes "serve", finished (leaf 1).rules w.held))
    (walked_two (leaf 1) p c p_plain c_plain refl)

pub entered : (s : Form) → IsNamed s → ArePlain (words_of s)
    → subcommand_of ipbus (words_of s) ≡ Some (name_of s, rows_of_form s)
entered (alone name) named plain = entered_alone name named
entered (check t) named plain = entered_check t plain.1.0
entered (serve p c) named plain = entered_serve p c plain.1.0 plain.1.1.0
entered (load c) named plain = entered_load c plain.1.0

pub table_is : (t : Text) → first_of (codes "table") (rows_of_form (check t)) ≡ Some t
table_is t = refl

pub port_is : (p c : Text) → first_of (codes "port") (rows_of_form (serve p c)) ≡ Some p
port_is p c = refl

pub count_is : (p c : Text) → first_of (codes "count") (rows_of_form (serve p c)) ≡ Some c
count_is p c = refl

pub load_is : (c : Text) → first_of (codes "count") (rows_of_form (load c)) ≡ Some c
load_is c = refl

pub simple : is_simple ipbus ≡ true
unfolding clap_on_literals
simple = refl
