-- Words at which clap finds no fault are those of a command.
use Rattle.std.proofs.Common.{◌≡◌, ◌∙◌, ◌||◌, ◌<◌, ℕ, Bool, true, false, List, [], ◌∷◌, ◌++◌, Option, Some, None, refl}
use Rattle.std.proofs.Common.{sym, ap, subst, codes, if◌then◌else◌, inl, inr, append-nil, append_assoc, option_map}
use Rattle.std.proofs.Common.{fold, slice_index, arith, find, is_some, map}
use Rattle.std.specs.Option.{option_map_or}
use Rattle.std.specs.Str.{bytes_eq}
use Rattle.clap.specs.Lexer.{long_of}
use Rattle.clap.specs.Kinds.{Kinds, or_else}
use Rattle.clap.specs.Faults.{bundle_fault, check_fault, defaults_fault, settle_fault, entered_fault, fault_of}
use Rattle.clap.specs.Faults.{flag_word_fault, is_simple_and_free, level_fault, other_fault, positional_fault}
use Rattle.clap.specs.Faults.{step_fault, stray_fault, turn_fault, walk_fault, word_fault}
use Rattle.clap.specs.Walk.{settled, Held, Names, Rule, Step, Text, Walk, idle, value, trailing, arg_by_index, finished}
use Rattle.clap.specs.Walk.{answers_to}
use Rattle.clap.specs.Walk.{long_or_other, nothing_held, short_or_plain, subcommand_met, subcommand_or_other, walk}
use Rattle.clap.specs.Walk.{walked, word_met}
use Rattle.clap.specs.Simple.{Shape, built, names_of}
use Rattle.clap.specs.declared.error.kind.ErrorKind.{ErrorKind}
use Rattle.clap.proofs.OnLiterals.{clap_on_literals}
use Rattle.command_words.specs.Commands.{command_of_one}
use Rattle.command_words.specs.Forms.{Form, words_of, IsAlone, IsNamed, IsPlain, ArePlain, alone, check, serve, load}
use Rattle.command_words.specs.Forms.{names_alone}
use Rattle.command_words.specs.App.{ipbus, leaf, leaf_alone, start, stand, after_one, after_two, name_of}
use Rattle.command_words.proofs.Alone.{each_same, is_alone_or_none, is_word, none_answers}
use Rattle.command_words.proofs.Walks.{no_dashes, no_long, no_short, walked_plain}

nothing : (a b : Kinds) → or_else a b ≡ [] → (a ≡ []) × (b ≡ [])
nothing [] b e = (refl, e)
nothing (k ∷ ks) b e = absurd cc

some : (k : ErrorKind) (ks : Kinds) → k ∷ ks ≡ [] → ⊥
some k ks e = absurd cc

-- ---- a plain word that no positional takes and no subcommand is named by

met_none : (c : List Rule) (names : Names) (position : ℕ) (w : Text) (h : Held) → IsPlain w
    → subcommand_met names idle w ≡ None → word_met c names false idle position w h ≡ (h, value)
met_none c names position w h plain none =
    ap (λ (o : Option Text). subcommand_or_other c o idle position w h) none
    ∙ ap (λ (b : Bool). if b then (h, trailing position) else long_or_other c idle w (long_of w) h) (no_dashes w plain)
    ∙ ap (λ (o : Option (Text × Option Text)). long_or_other c idle w o h) (no_long w plain)
    ∙ ap (λ (o : Option Text). short_or_plain c idle w o h) (no_short w plain)

word_none : (s : Shape) (names : Names) (w : Text) (h : Held) → IsPlain w → subcommand_met names idle w ≡ None
    → word_fault s names false idle w h ≡ []
word_none s names w h plain none =
    ap (λ (o : Option Text). other_fault s o w h) none
    ∙ ap (λ (b : Bool). if b then [] else flag_word_fault s.rules s.args_override_self (long_of w) w h)
    (no_dashes w plain)
    ∙ ap (λ (o : Option (Text × Option Text)). flag_word_fault s.rules s.args_override_self o w h) (no_long w plain)
    ∙ ap (λ (o : Option Text). option_map_or (λ flags. bundle_fault s.rules s.args_override_self flags h) o [])
    (no_short w plain)

turn_stray : (s : Shape) (names : Names) (position : ℕ) (w : Text) (h : Held) → IsPlain w
    → subcommand_met names idle w ≡ None → arg_by_index s.rules position ≡ None
    → turn_fault s names (stand h position) w ≡ stray_fault s
turn_stray s names position w h plain none no_arg =
    ap (λ (f : Kinds). or_else f
    (step_fault s position (word_met s.rules names false idle position w h).0
    (word_met s.rules names false idle position w h).1)) (word_none s names w h plain none)
    ∙ ap (λ (met : Held × Step). step_fault s position met.0 met.1) (met_none s.rules names position w h plain none)
    ∙ ap (λ (o : Option Rule). option_map_or (λ a. positional_fault s.rules s.args_override_self a h) o (stray_fault s))
    no_arg

-- ---- a subcommand that was met takes the other words

halted : (c : List Rule) (names : Names) (w : Walk) (n : Text) (acc ws : List Text)
    → fold (walked c names) (record w { stopped = Some (n, acc) }) ws ≡ record w { stopped = Some (n, acc ++ ws) }
unfolding clap_on_literals
halted c names w n acc [] = ap (λ (l : List Text). record w { stopped = Some (n, l) }) (sym (append-nil acc))
halted c names w n acc (x ∷ xs) =
    halted c names w n (acc ++ x ∷ []) xs
    ∙ ap (λ (l : List Text). record w { stopped = Some (n, l) }) (append_assoc acc (x ∷ []) xs)

-- ---- each command's words

abbrev Says : List Text → Type 0
Says ws = (s : Form) × IsNamed s × (ws ≡ words_of s)

-- nothing is wrong at the words behind the name
abbrev Fine : ℕ → List Text → Type 0
Fine i ws = level_fault (leaf i) [] nothing_held ws false [] ≡ []

abbrev below : Option (Text × List Text) → Type 0
below stop = entered_fault (built ipbus) stop ≡ []

stop_at : (n : Text) (rest : List Text)
    → walked (built ipbus).top.rules (names_of (built ipbus)) start n ≡ record start { stopped = Some (n, []) }
    → (walk (built ipbus).top.rules (names_of (built ipbus)) nothing_held (n ∷ rest)).stopped ≡ Some (n, rest)
stop_at n rest met =
    ap (λ (w : Walk). (fold (walked (built ipbus).top.rules (names_of (built ipbus))) w rest).stopped) met
    ∙ ap (λ (w : Walk). w.stopped) (halted (built ipbus).top.rules (names_of (built ipbus)) start n [] rest)

under : (n : Text) (rest : List Text)
    → walked (built ipbus).top.rules (names_of (built ipbus)) start n ≡ record start { stopped = Some (n, []) }
    → fault_of ipbus (n ∷ rest) ≡ [] → below (Some (n, rest))
under n rest met e = subst below (stop_at n rest met) (nothing _ _ (nothing _ _ e).1).0

fine_check : (rest : List Text) → fault_of ipbus (codes "check" ∷ rest) ≡ [] → Fine 0 rest
unfolding clap_on_literals
fine_check rest e = under (codes "check") rest refl e

fine_serve : (rest : List Text) → fault_of ipbus (codes "serve" ∷ rest) ≡ [] → Fine 1 rest
unfolding clap_on_literals
fine_serve rest e = under (codes "serve") rest refl e

fine_load : (rest : List Text) → fault_of ipbus (codes "load" ∷ rest) ≡ [] → Fine 2 rest
unfolding clap_on_literals
fine_load rest e = under (codes "load") rest refl e

-- a stray word behind the others
first_stray : (i : ℕ) (w : Text) (more : List Text) → IsPlain w → arg_by_index (leaf i).rules 1 ≡ None
    → Fine i (w ∷ more) → stray_fault (leaf i) ≡ []
unfolding clap_on_literals
first_stray i w more plain no_arg fine =
    sym (turn_stray (leaf i) [] 1 w nothing_held plain refl no_arg) ∙ (nothing _ _ (nothing _ _ fine).0).0

second_stray : (i : ℕ) (w v : Text) (more : List Text) → IsPlain w → IsPlain v
    → after_one (leaf i) w ≡ stand (after_one (leaf i) w).held 2
    → arg_by_index (leaf i).rules 2 ≡ None → Fine i (w ∷ v ∷ more) → stray_fault (leaf i) ≡ []
unfolding clap_on_literals
second_stray i w v more w_plain v_plain stands no_arg fine =
    let one : walked (leaf i).rules [] start w ≡ stand (after_one (leaf i) w).held 2 =
    walked_plain (leaf i).rules 1 w nothing_held w_plain ∙ stands in
    sym (ap (λ (x : Walk). turn_fault (leaf i) [] x v) one
    ∙ turn_stray (leaf i) [] 2 v (after_one (leaf i) w).held v_plain refl no_arg)
    ∙ (nothing _ _ (nothing _ _ (nothing _ _ fine).0).1).0

third_stray : (i : ℕ) (w v u : Text) (more : List Text) → IsPlain w → IsPlain v → IsPlain u
    → after_one (leaf i) w ≡ stand (after_one (leaf i) w).held 2
    → after_two (leaf i) w v ≡ stand (after_two (leaf i) w v).held 3 → arg_by_index (leaf i).rules 3 ≡ None
    → Fine i (w ∷ v ∷ u ∷ more) → stray_fault (leaf i) ≡ []
unfolding clap_on_literals
third_stray i w v u more w_plain v_plain u_plain stands stands_two no_arg fine =
    let one : walked (leaf i).rules [] start w ≡ stand (after_one (leaf i) w).held 2 =
    walked_plain (leaf i).rules 1 w nothing_held w_plain ∙ stands in
    let two : walked (leaf i).rules [] (walked (leaf i).rules [] start w) v ≡ stand (after_two (leaf i) w v).held 3
    = ap (λ (x : Walk). walked (leaf i).rules [] x v) one
    ∙ walked_plain (leaf i).rules 2 v (after_one (leaf i) w).held v_plain ∙ stands_two in
    sym (ap (λ (x : Walk). turn_fault (leaf i) [] x u) two
    ∙ turn_stray (leaf i) [] 3 u (after_two (leaf i) w v).held u_plain refl no_arg)
    ∙ (nothing _ _ (nothing _ _ (nothing _ _ (nothing _ _ fine).0).1).1).0

-- what is wrong at the words behind a name alone
behind : Text → List Text → Kinds
behind name ws = level_fault (leaf_alone name) [] nothing_held ws false []

met_alone : (name : Text) → IsAlone name
    → walked (built ipbus).top.rules (names_of (built ipbus)) start name ≡ record start { stopped = Some (name, []) }
unfolding clap_on_literals
met_alone name is =
    each_same (λ (n : Text). walked (built ipbus).top.rules (names_of (built ipbus)) start n)
    (λ (n : Text). record start { stopped = Some (n, []) }) refl name is

below_alone : (name : Text) → IsAlone name → (ws : List Text)
    → entered_fault (built ipbus) (Some (name, ws)) ≡ behind name ws
unfolding clap_on_literals behind
below_alone name is ws =
    each_same (λ (n : Text). entered_fault (built ipbus) (Some (n, ws))) (λ (n : Text). behind n ws) refl name is

stray_alone : (name w : Text) (more : List Text) → IsPlain w → behind name (w ∷ more) ≡ []
    → stray_fault (leaf_alone name) ≡ []
unfolding clap_on_literals behind
stray_alone name w more plain fine =
    sym (turn_stray (leaf_alone name) [] 1 w nothing_held plain refl refl) ∙ (nothing _ _ (nothing _ _ fine).0).0

alone_words : (name : Text) → IsAlone name → (ws : List Text) → ArePlain ws → fault_of ipbus (name ∷ ws) ≡ []
    → name ∷ ws ≡ words_of (alone name)
alone_words name is [] plain e = refl
alone_words name is (w ∷ more) plain e =
    let fine = sym (below_alone name is (w ∷ more)) ∙ under name (w ∷ more) (met_alone name is) e in
    absurd (some _ _ (stray_alone name w more plain.0 fine))

none_given : (i : ℕ) (k : ErrorKind) (ks : Kinds) → level_fault (leaf i) [] nothing_held [] false [] ≡ k ∷ ks
    → Fine i [] → ⊥
none_given i k ks is fine = some k ks (sym is ∙ fine)

check_words : (ws : List Text) → ArePlain ws → Fine 0 ws → Says (codes "check" ∷ ws)
unfolding clap_on_literals
check_words [] plain fine = absurd (none_given 0 _ _ refl fine)
check_words (t ∷ []) plain fine = (check t, tt, refl)
check_words (t ∷ u ∷ more) plain fine = absurd (some _ _ (second_stray 0 t u more plain.0 plain.1.0 refl refl fine))

load_words : (ws : List Text) → ArePlain ws → Fine 2 ws → Says (codes "load" ∷ ws)
unfolding clap_on_literals
load_words [] plain fine = absurd (none_given 2 _ _ refl fine)
load_words (t ∷ []) plain fine = (load t, tt, refl)
load_words (t ∷ u ∷ more) plain fine = absurd (some _ _ (second_stray 2 t u more plain.0 plain.1.0 refl refl fine))

one_missing : (t : Text) → IsPlain t → Fine 1 (t ∷ []) → ⊥
unfolding clap_on_literals
one_missing t plain fine =
    let end = (walk (leaf 1).rules [] nothing_held (t ∷ [])).held in
    let last =
    (nothing (defaults_fault (settled (leaf 1).rules end).rows (leaf 1).rules) _
    (nothing (settle_fault (leaf 1).rules (leaf 1).args_override_self end) _
    (nothing (walk_fault (leaf 1) [] start (t ∷ [])) _ fine).1).1).1 in
    let checked : check_fault (leaf 1) (finished (leaf 1).rules (after_one (leaf 1) t).held) false ≡ []
    = ap (λ (w : Walk). check_fault (leaf 1) (finished (leaf 1).rules w.held) false)
    (sym (walked_plain (leaf 1).rules 1 t nothing_held plain)) ∙ last in
    some _ _ checked

serve_words : (ws : List Text) → ArePlain ws → Fine 1 ws → Says (codes "serve" ∷ ws)
unfolding clap_on_literals
serve_words [] plain fine = absurd (none_given 1 _ _ refl fine)
serve_words (p ∷ []) plain fine = absurd (one_missing p plain.0 fine)
serve_words (p ∷ c ∷ []) plain fine = (serve p c, tt, refl)
serve_words (p ∷ c ∷ u ∷ more) plain fine =
    absurd (some _ _ (third_stray 1 p c u more plain.0 plain.1.0 plain.1.1.0 refl refl refl fine))

-- ---- the first word

met : Text → Option Text
met w = subcommand_met (names_of (built ipbus)) idle w

-- the name that is met, where `others` is that of a command that is a name alone
pick : Bool → Bool → Bool → Option (Text × List Text) → Option Text
pick a b c others = option_map (λ (s : Text × List Text). s.0)
    (if (a || false) then Some (codes "check", []) else
    (if (b || false) then Some (codes "serve", []) else (if (c || false) then Some (codes "load", []) else others)))

others_met : Text → Option (Text × List Text)
others_met w = find (answers_to w) (map (λ (n : Text). (n, [])) names_alone)

unnamed : (w : Text) → command_of_one w ≡ None → bytes_eq (codes "check") w ≡ false
    → bytes_eq (codes "serve") w ≡ false → bytes_eq (codes "load") w ≡ false → met w ≡ None
unfolding met pick others_met
unnamed w r c s l =
    ap (λ (b : Bool). pick b (bytes_eq (codes "serve") w) (bytes_eq (codes "load") w) (others_met w)) c
    ∙ ap (λ (b : Bool). pick false b (bytes_eq (codes "load") w) (others_met w)) s
    ∙ ap (λ (b : Bool). pick false false b (others_met w)) l
    ∙ ap (λ (o : Option (Text × List Text)). pick false false false o) (none_answers w r)

unnamed_fails : (w : Text) (rest : List Text) → IsPlain w → met w ≡ None → fault_of ipbus (w ∷ rest) ≡ [] → ⊥
unfolding clap_on_literals met
unnamed_fails w rest plain none e =
    some _ _ (sym (turn_stray (built ipbus).top (names_of (built ipbus)) 1 w nothing_held plain none refl)
    ∙ (nothing (turn_fault (built ipbus).top (names_of (built ipbus)) start w) _
    (nothing (walk_fault (built ipbus).top (names_of (built ipbus)) start (w ∷ rest)) _ e).0).0)

-- words at which no fault is found
abbrev Faultless : List Text → Type 0
Faultless ws = fault_of ipbus ws ≡ []

no_words : Faultless [] → ⊥
unfolding clap_on_literals
no_words e = some _ _ e

pub says : (ws : List Text) → ArePlain ws → Faultless ws → Says ws
says [] plain e = absurd (no_words e)
says (w ∷ rest) plain e =
    elim (is_alone_or_none w) [
      | inl is ↦ (alone w, is, alone_words w is rest plain.1 e)
      | inr r ↦ elim (is_word (codes "check") w) [
        | inr is ↦ subst (λ (n : Text). Says (n ∷ rest)) is
            (check_words rest plain.1 (fine_check rest (subst (λ (n : Text). Faultless (n ∷ rest)) (sym is) e)))
        | inl c ↦ elim (is_word (codes "serve") w) [
          | inr is ↦ subst (λ (n : Text). Says (n ∷ rest)) is
              (serve_words rest plain.1 (fine_serve rest (subst (λ (n : Text). Faultless (n ∷ rest)) (sym is) e)))
          | inl s ↦ elim (is_word (codes "load") w) [
            | inr is ↦ subst (λ (n : Text). Says (n ∷ rest)) is
                (load_words rest plain.1 (fine_load rest (subst (λ (n : Text). Faultless (n ∷ rest)) (sym is) e)))
            | inl l ↦ absurd (unnamed_fails w rest plain.0 (unnamed w r c s l) e)
          ]
        ]
      ]
    ]

pub is_free : is_simple_and_free ipbus ≡ true
unfolding clap_on_literals
is_free = refl

-- ---- the words out of the matches

abbrev head_of : Text → ℕ
head_of l = slice_index l 0

apart : codes "check" ≡ codes "serve" → ⊥
apart e = differ (head_of (codes "check")) (head_of (codes "serve")) (ap head_of e) (omega arith)
  where
    differ : (a b : ℕ) → a ≡ b → a < b → ⊥
    differ a b e lt = absurd (omega (arith, e, lt))

-- a name that is none of a command alone
not_alone : (word name : Text) → is_some (command_of_one word) ≡ false → word ≡ name → IsAlone name → ⊥
not_alone word name none same is =
    let no : is_some (command_of_one name) ≡ false = subst (λ (w : Text). is_some (command_of_one w) ≡ false) same none
    in absurd (different (is_some (command_of_one name)) is no)
  where
    different : (b : Bool) → b ≡ true → b ≡ false → ⊥
    different b one other = cc

pub is_check : (s : Form) → IsNamed s → codes "check" ≡ name_of s → (t : Text) × (s ≡ check t)
is_check (alone name) named e = absurd (not_alone (codes "check") name refl e named)
is_check (check t) named e = (t, refl)
is_check (serve p c) named e = absurd (apart e)
is_check (load c) named e = absurd cc

pub is_serve : (s : Form) → IsNamed s → codes "serve" ≡ name_of s → (p c : Text) × (s ≡ serve p c)
is_serve (alone name) named e = absurd (not_alone (codes "serve") name refl e named)
is_serve (check t) named e = absurd (apart (sym e))
is_serve (serve p c) named e = (p, c, refl)
is_serve (load c) named e = absurd cc

pub is_load : (s : Form) → IsNamed s → codes "load" ≡ name_of s → (c : Text) × (s ≡ load c)
is_load (alone name) named e = absurd (not_alone (codes "load") name refl e named)
is_load (check t) named e = absurd cc
is_load (serve p c) named e = absurd cc
is_load (load c) named e = (c, refl)
