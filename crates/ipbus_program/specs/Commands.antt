-- WHAT EACH COMMAND OWES. What the program promises of a command is said of its terms. Profile.
use Rattle.command_words.specs.declared.command.Command.{Command}
use Rattle.command_words.specs.declared.command.Command.TheVariants.{Run, Check, Serve, Load, Audit}
use Rattle.command_words.specs.declared.command.Command.TheVariants.{Record, Describe, Undescribe, Save, Apply}
use Rattle.command_terms.specs.Terms.{Terms}
use Rattle.run_command.specs.Terms.{run_terms}
use Rattle.ipbus_program.specs.CheckTerms.{check_terms}
use Rattle.serve_command.specs.Terms.{serve_terms}
use Rattle.load_run.specs.Terms.{load_terms}
use Rattle.audit_command.specs.Terms.{audit_terms}
use Rattle.record_command.specs.Terms.{record_terms}
use Rattle.capture_commands.specs.Terms.{describe_terms, undescribe_terms}
use Rattle.config_commands.specs.Terms.{apply_terms, save_terms}

abbrev pub terms_of : Command → Terms
terms_of Run = run_terms
terms_of (Check table) = check_terms table
terms_of (Serve port count) = serve_terms count
terms_of (Load count) = load_terms count
terms_of Audit = audit_terms
terms_of Record = record_terms
terms_of Describe = describe_terms
terms_of Undescribe = undescribe_terms
terms_of Save = save_terms
terms_of Apply = apply_terms
