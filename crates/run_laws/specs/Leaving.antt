-- What running the steps of a session left: what private functions of commands promise one another. No public clause
-- speaks of it.
use Rattle.std.specs.Prelude.{◌≡◌, ℕ, List, length, Result, Err, IfOk}
use Rattle.std.specs.List.{AllByRecursion}
use Rattle.board_specs.specs.declared.spec.LinkSpec.{LinkSpec}
use Rattle.board_history.specs.Links.{LinkReport, IsUntouched}
use Rattle.script_steps.specs.declared.operation.Step.{Step}
use Rattle.script_lang.specs.declared.session.Session.{Session}
use Rattle.session_run.specs.declared.session.RunFault.{RunFault}
use Rattle.session_run.specs.declared.session.RunFault.TheVariants.{Rack}
use Rattle.session_run.specs.Links.{AreLeft, AreMadeFor}
use Rattle.command_terms.specs.declared.answer.Answer.{Answer}

-- `Tells` is what holds of the links, of the status and of the text of an answer, and `made` and `makes` are the specs
-- that the rack made links of before and after.
pub record RunLeaves (Tells : List LinkReport → ℕ → List ℕ → Type 0) (session : Session) (steps : List (List Step))
    (made makes : List LinkSpec) (result : Result Answer RunFault) (links : List LinkReport) : Type 0 where
  pub left : AreLeft 0 session.boards steps links
  pub links_made : AreMadeFor session.boards links made makes
  pub tells : IfOk result (λ answer. Tells links answer.status answer.text.items)
  pub untouched : result ≡ Err Rack → AllByRecursion IsUntouched links
