-- What the reader of words answers, and what follows of it. No public clause but the laws speaks of these.
use Rattle.std.specs.Prelude.{Option, Some}
use Rattle.command_words.specs.Commands.{command_of_one, load_command_of, serve_command_of}
use Rattle.command_words.specs.Forms.{Form, alone, check, serve, load}
use Rattle.command_words.specs.declared.command.Command.{Command}
use Rattle.command_words.specs.declared.command.Command.TheVariants as command
use Rattle.command_words.specs.declared.line.Line.{Line}
use Rattle.command_words.specs.declared.line.Line.TheVariants as line

-- the form of a line, apart from where its words lie in memory
abbrev pub form_of : Line → Form
form_of (line.Alone name) = alone name.now
form_of (line.Check table) = check table.now
form_of (line.Serve port count) = serve port.now count.now
form_of (line.Load count) = load count.now

-- the command of a form, if its name is one or its numbers are right
abbrev pub command_named : Form → Option Command
command_named (alone name) = command_of_one name
command_named (check table) = Some (command.Check table)
command_named (serve port count) = serve_command_of port count
command_named (load count) = load_command_of count
