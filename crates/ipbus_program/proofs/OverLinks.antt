-- Where a call is done, what passed over each of its links is what the machine of the protocol does.
use Rattle.std.proofs.Common.{◌≡◌, ◌⊎◌, inl, inr, ℕ, List, [], ◌∷◌, Option, sym, subst, String, Global}
use Rattle.std.specs.List.{AllByRecursion}
use Rattle.board_specs.specs.declared.spec.LinkSpec.{LinkSpec}
use Rattle.board_history.specs.Machine.{RanAsMachine}
use Rattle.board_history.proofs.OverLinks.{ran_over}
use Rattle.client_history.proofs.OverLinks.{ran_served}
use Rattle.command_words.specs.declared.command.Command.{Command}
use Rattle.command_words.specs.declared.command.Command.TheVariants.{Run, Check, Serve, Load, Audit}
use Rattle.command_words.specs.declared.command.Command.TheVariants.{Record, Describe, Undescribe, Save, Apply}
use Rattle.command_terms.specs.Outside.{GivenBack}
use Rattle.load_run.specs.Generated.{boards, settings, steps}
use Rattle.ipbus_program.specs.Commands.{terms_of}
use Rattle.ipbus_program.specs.Owed.{AreCommand, OwesDone, UsedFrom, WroteOwed}
use Rattle.ipbus_program.proofs.Deserved.{one_command}

module _ (before now : Option (List ℕ)) (specs : List LinkSpec) (given : GivenBack) where
  -- the links of a command, if there are any, were used by it
  abbrev Used : Command → Type 0
  Used command = (given.links ≡ []) ⊎ UsedFrom (terms_of command) before now specs given.links

  abbrev AllRan : Type 0
  AllRan = AllByRecursion RanAsMachine given.links

  no_links : given.links ≡ [] → AllRan
  no_links none = subst (AllByRecursion RanAsMachine) (sym none) tt

  ran_by : (command : Command) → Used command → (bytes : List ℕ) (status : ℕ) (text : List ℕ)
      → (terms_of command).Done bytes given status text → AllRan
  ran_by Run used bytes status text done =
      ran_over done.session.settings 0 done.session.boards done.steps done.runs given.links done.run.boards
  ran_by (Serve port count) used bytes status text done =
      ran_served done.session.settings done.session.boards done.served.boards given.links done.served.over_links
  ran_by (Load count) used bytes status text done =
      ran_over settings 0 (boards count) (steps count) done.load.runs given.links done.load.over
  ran_by Record used bytes status text done =
      ran_over done.session.settings 0 done.session.boards done.steps done.runs given.links done.run.boards
  ran_by Save used bytes status text done =
      ran_over done.session.settings 0 done.session.boards (done.steps ∷ []) done.written.runs given.links
      done.written.run.boards
  ran_by Apply used bytes status text done =
      ran_over done.session.settings 0 done.session.boards (done.steps ∷ []) done.written.runs given.links
      done.written.run.boards
  ran_by (Check table) (inl none) bytes status text done = no_links none
  ran_by (Check table) (inr used) bytes status text done = absurd used.uses
  ran_by Audit (inl none) bytes status text done = no_links none
  ran_by Audit (inr used) bytes status text done = absurd used.uses
  ran_by Describe (inl none) bytes status text done = no_links none
  ran_by Describe (inr used) bytes status text done = absurd used.uses
  ran_by Undescribe (inl none) bytes status text done = no_links none
  ran_by Undescribe (inr used) bytes status text done = absurd used.uses

  -- the words are this command, and what it makes of the input was written
  pub ran_by_words : (words : List (String Global)) (command : Command) → AreCommand words command
      → (given.links ≡ []) ⊎ UsedFrom (terms_of command) before now specs given.links → (status : ℕ)
      (written written_now : Option (List ℕ))
      → WroteOwed (OwesDone words before now given status) written written_now
      → AllByRecursion RanAsMachine given.links
  ran_by_words words command are used status written written_now wrote =
      let owed = wrote.1 in
      ran_by owed.0 (subst Used (one_command are owed.1) used) owed.2.bytes status wrote.0 owed.2.done
