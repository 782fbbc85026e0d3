use Rattle.access_policy.specs.Decisions.{names_of, ruled_scripts}
use Rattle.script_lang.specs.Scripts.{steps_of}
use Rattle.transcript.specs.Lines.{lines_from}
use Rattle.config_laws.proofs.Undenied.{nothing_denied}
use Rattle.config_laws.proofs.permitted.where_all_was_done_nothing_was_denied.Goals as goal

pub returns : goal.returns
returns c = λ settings specs indexes scripts policy runs links is status.
    let steps = steps_of specs indexes scripts in
    let permitted = ruled_scripts policy (names_of specs) steps in
    nothing_denied c.lines_tell_what_is_denied.ensures.rules settings specs policy steps runs links
    (c.scripts_ask_of_boards_that_are_there.ensures specs indexes scripts) is
    ((c.the_status_tells_whether_all_was_done.ensures.done (lines_from runs 0 permitted)).0 status)
