-- Commands below others.
use Rattle.std.proofs.Common.{◌≡◌, ℕ, ◌≤◌, ◌-◌, List, [], ◌∷◌, ◌++◌, ◌∙◌, sym, ap, ap₂, subst, arith, length, map}
use Rattle.std.proofs.Common.{take, drop, get_or, true, false, Ok, IfOk, Result}
use Rattle.std.proofs.lemmas.List.{map-append, take_rest}
use Rattle.std.specs.Borrow.{Bor}
use Rattle.std.specs.List.{AllByRecursion}
use Rattle.clap.specs.Simple.{new_app, new_rule, with_rule, with_subcommand}
use Rattle.clap.specs.Walk.{Rule, Text}
use Rattle.clap.specs.Words.{AddsArg, AddsInTurn, AddsSubcommand, App, app_of, rule_of}
use Rattle.clap.specs.declared.builder.arg.Arg.{Arg}
use Rattle.clap.specs.declared.builder.command.Command.{Command}
use Rattle.command_words.specs.App.{HasShapeBelow, needed_word}

-- an argument that has to be there
pub is_needed : (new required : Arg) (word : Text) → required ≡ record new { required = true }
    → rule_of new ≡ new_rule word → new.global ≡ false → (rule_of required ≡ needed_word word) × (required.global ≡ false)
is_needed new required word is rule_is is_local =
    (ap rule_of is ∙ ap (λ (r : Rule). record r { required = true }) rule_is, ap (λ (a : Arg). a.global) is ∙ is_local)

-- a word was added to a command
pub word_added : (old new : Command) (app : App) (rule : Rule)
    → (arg : Arg) × (rule_of arg ≡ rule) × (arg.global ≡ false) × AddsArg old arg new → app_of old ≡ app
    → app_of new ≡ with_rule app rule
word_added old new app rule added is = added.3.shape added.2 ∙ ap₂ with_rule is added.1

-- a command was added behind others, if it could be made
abbrev pub StandsBehind : {E : Type 0} → List Command → Result Command E → List Command → Type 0
StandsBehind before made after = (one : Command) × (made ≡ Ok one) × (after ≡ before ++ one ∷ [])

pub apps_behind : {E : Type 0} (apps : List App) (app : App) (before : List Command) (made : Result Command E)
    (after : List Command) → map app_of before ≡ apps → IfOk made (λ one. app_of one ≡ app)
    → StandsBehind before made after → map app_of after ≡ apps ++ app ∷ []
apps_behind apps app before made after are is stands =
    let one_is : app_of stands.0 ≡ app = subst (λ r. IfOk r (λ one. app_of one ≡ app)) stands.1 is in
    ap (map app_of) stands.2 ∙ map-append app_of before (stands.0 ∷ [])
    ∙ ap₂ (λ (l : List App) (a : App). l ++ a ∷ []) are one_is

pub shape_behind : (before : List Command) (one : Command) → AllByRecursion HasShapeBelow before → HasShapeBelow one
    → AllByRecursion HasShapeBelow (before ++ one ∷ [])
shape_behind [] one all has_shape = (has_shape, tt)
shape_behind (first ∷ before) one all has_shape = (all.0, shape_behind before one all.1 has_shape)

pub shapes_behind : {E : Type 0} (before : List Command) (made : Result Command E) (after : List Command)
    → AllByRecursion HasShapeBelow before → IfOk made HasShapeBelow → StandsBehind before made after
    → AllByRecursion HasShapeBelow after
shapes_behind before made after all has_shape stands =
    subst (AllByRecursion HasShapeBelow) (sym stands.2)
    (shape_behind before stands.0 all (subst (λ r. IfOk r HasShapeBelow) stands.1 has_shape))

app_behind : (before : List Command) (one : Command) (app : App) (rest : List App) → app_of one ≡ app
    → map app_of (before ++ one ∷ []) ++ rest ≡ map app_of before ++ app ∷ rest
app_behind [] one app rest is = ap (λ (a : App). a ∷ rest) is
app_behind (first ∷ before) one app rest is =
    ap (λ (apps : List App). app_of first ∷ apps) (app_behind before one app rest is)

-- the command of the first name was added, and those of the others are left
pub first_alone : (before after : List Command) (one : Command) (names : List (Bor (List ℕ))) (other : Bor (List ℕ))
    → 1 ≤ length names → after ≡ before ++ one ∷ [] → app_of one ≡ new_app (get_or names 0 other).now
    → map app_of after ++ map (λ name. new_app name.now) (take (length names - 1) (drop 1 names))
    ≡ map app_of before ++ map (λ name. new_app name.now) names
first_alone before after one [] other some added is = absurd (omega arith)
first_alone before after one (name ∷ names) other some added is =
    rw (take_rest (name ∷ names) 1, added)
    (app_behind before one (new_app name.now) (map (λ name. new_app name.now) names) is)

-- a command with these behind its others
abbrev pub with_all : App → List App → App
with_all app [] = app
with_all app (below ∷ more) = with_all (with_subcommand app below.top) more

-- commands were added in turn
pub added_in_turn : (program made : Command) (below : List Command) → AllByRecursion HasShapeBelow below
    → AddsInTurn AddsSubcommand program below made → app_of made ≡ with_all (app_of program) (map app_of below)
added_in_turn program made [] have_shapes added = ap app_of (sym added)
added_in_turn program made (one ∷ more) have_shapes added =
    added_in_turn added.0 made more have_shapes.1 added.2
    ∙ ap (λ (app : App). with_all app (map app_of more)) (have_shapes.0 program added.0 added.1)
