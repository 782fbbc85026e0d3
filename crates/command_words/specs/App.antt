-- The command line as `clap` sees it: its commands and their words, and what it makes of the words of each. No public
-- clause but the laws speaks of these.
use Rattle.std.specs.Prelude.{◌≡◌, ℕ, true, false, List, [], ◌∷◌, codes, Some, None, slice_index_or}
use Rattle.clap.specs.Simple.{App, Shape, built, new_app, new_rule, new_shape, on_top, with_rule, with_subcommand}
use Rattle.clap.specs.Simple.{subcommand_rows_of}
use Rattle.clap.specs.Walk.{Held, Row, Rule, Text, Walk, arg_by_index, finished, idle, nothing_held, to_positional}
use Rattle.clap.specs.Walk.{walk_from}
use Rattle.clap.specs.Words.{AddsSubcommand, app_of}
use Rattle.clap.specs.declared.builder.command.Command.{Command}
use Rattle.clap.specs.declared.parser.matches.ArgMatches.{ArgMatches}
use Rattle.command_words.specs.Forms.{Form, alone, check, serve, load, names_alone}

-- a word that has to be there
abbrev pub needed_word : Text → Rule
needed_word name = record (new_rule name) { required = true }

abbrev pub check_app : App
check_app = with_rule (new_app (codes "check")) (needed_word (codes "table"))

abbrev pub serve_app : App
serve_app = with_rule (with_rule (new_app (codes "serve")) (needed_word (codes "port"))) (needed_word (codes "count"))

abbrev pub load_app : App
load_app = with_rule (new_app (codes "load")) (needed_word (codes "count"))

-- where this command is added to another, that one has its shape behind the others
abbrev pub HasShapeBelow : Command → Type 0
HasShapeBelow c = (old new : Command) → AddsSubcommand old c new
    → app_of new ≡ with_subcommand (app_of old) (app_of c).top

-- no help, no version, and a command has to be there
abbrev pub bare : App
bare =
    on_top (λ s. record s {
      no_binary_name = true;
      disable_help_flag = true;
      disable_help_subcommand = true;
      disable_version_flag = true;
      subcommand_required = true;
    }) (new_app (codes "ipbus"))

-- the commands that have words
abbrev pub worded_app : App
worded_app = with_subcommand (with_subcommand (with_subcommand bare check_app.top) serve_app.top) load_app.top

-- and commands of these names behind them, which have none
abbrev pub with_alone : App → List Text → App
with_alone app [] = app
with_alone app (name ∷ names) = with_alone (with_subcommand app (new_app name).top) names

abbrev pub ipbus : App
ipbus = with_alone worded_app names_alone

-- ---- what clap makes of the words of a command

-- the command at this position, as it is built
abbrev pub leaf : ℕ → Shape
leaf i = slice_index_or (built ipbus).subs i (new_shape [])

-- the command that is this name alone, as it is built
abbrev pub leaf_alone : Text → Shape
leaf_alone name = slice_index_or (built (with_alone bare (name ∷ []))).subs 0 (new_shape [])

abbrev pub start : Walk
start = walk_from nothing_held

abbrev pub stand : Held → ℕ → Walk
stand h position = record { held = h; waiting = idle; position = position; is_trailing = false; stopped = None }

abbrev pub after_one : Shape → Text → Walk
after_one s w = to_positional s.rules (arg_by_index s.rules 1) w start nothing_held

abbrev pub after_two : Shape → Text → Text → Walk
after_two s w v = to_positional s.rules (arg_by_index s.rules 2) v (stand (after_one s w).held 2) (after_one s w).held

abbrev pub rows_of_form : Form → List Row
rows_of_form (alone name) = []
rows_of_form (check t) = finished (leaf 0).rules (after_one (leaf 0) t).held
rows_of_form (serve p c) = finished (leaf 1).rules (after_two (leaf 1) p c).held
rows_of_form (load c) = finished (leaf 2).rules (after_one (leaf 2) c).held

abbrev pub name_of : Form → Text
name_of (alone name) = name
name_of (check t) = codes "check"
name_of (serve p c) = codes "serve"
name_of (load c) = codes "load"

-- the matches are those of this command
abbrev pub IsFor : Form → ArgMatches → Type 0
IsFor s m = subcommand_rows_of m ≡ Some (name_of s, rows_of_form s)
