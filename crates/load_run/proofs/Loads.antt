-- What a load leaves, put together from what its steps say.
use Rattle.std.proofs.Common.{◌≡◌, ◌≤◌, ℕ, Bool, List, [], ◌∷◌, length, Result, Ok, Err, IfOk}
use Rattle.std.proofs.Common.{sym, ap, ◌∙◌, append-nil, arith}
use Rattle.std.specs.List.{AllByRecursion}
use Rattle.std.specs.Result.{IsErr, IsErrAnd}
use Rattle.board_specs.specs.declared.spec.BoardSpec.{BoardSpec}
use Rattle.board_specs.specs.declared.spec.LinkSpec.{LinkSpec}
use Rattle.board_specs.specs.declared.spec.LinkSpec.TheVariants.{Sim, Udp}
use Rattle.board_history.specs.Runs.{CanRun, RunsHere}
use Rattle.board_specs.specs.OpeningWords.{OpensOnWords}
use Rattle.script_plans.specs.declared.board_run.BoardRun.{BoardRun}
use Rattle.script_plans.specs.Runs.{HaveOwnNames}
use Rattle.board_history.specs.Links.{CanBeMade, IsUntouched, LinkReport}
use Rattle.command_terms.proofs.Leaving.{Told, same_Err}
use Rattle.ipb_base.specs.Numbers.{most_operations}
use Rattle.load_run.specs.Generated.{boards, steps}
use Rattle.board_greeting.proofs.Boards.{none_made}
use Rattle.session_run.specs.Links.{AreLeft, AreMadeFor, CanBeReached}
use Rattle.session_run.specs.declared.session.RunFault.{RunFault}
use Rattle.session_run.specs.declared.session.RunFault.TheVariants.{NoMemory, Rack}
use Rattle.load_run.specs.declared.run.Load.{Load}
use Rattle.load_run.specs.Loading.{IsLoadOf, LoadLaw, LoadLeaves, PrintsLoad}

-- one board has a name of its own
pub one_name : (runs : List BoardRun) (run : BoardRun) → runs ≡ run ∷ [] → HaveOwnNames runs
one_name runs run one i j d less within =
    let single = ap length one in absurd (omega (arith, single, less, within))

module _ (Tells : ℕ → List LinkReport → Bool → List ℕ → Type 0) (count : ℕ) (made makes : List LinkSpec) where
  pub load_failed : (result : Result Load RunFault) (fault : RunFault) (links : List LinkReport)
      → AreLeft 0 (boards count) (steps count) links → AreMadeFor (boards count) links made makes
      → IsErr result → IsErrAnd result (λ why. why ≡ fault) → (fault ≡ Rack → AllByRecursion IsUntouched links)
      → LoadLeaves Tells count made makes result links
  load_failed (Ok load) fault links left links_made fails is untouched = absurd cc
  load_failed (Err why) fault links left links_made fails is untouched = record {
    left = left;
    links_made = links_made;
    tells = tt;
    untouched = λ rack. untouched (sym is ∙ same_Err why Rack rack);
  }

  pub load_told : (load : Load) (links : List LinkReport) → AreLeft 0 (boards count) (steps count) links
      → AreMadeFor (boards count) links made makes → Tells count links load.done load.text.items
      → LoadLeaves Tells count made makes (Ok load) links
  load_told load links left links_made tells = record {
    left = left;
    links_made = links_made;
    tells = tells;
    untouched = λ never. absurd cc;
  }

-- no link was made
pub no_load : {L : Type 0} (shown : L → LinkReport) (kept : List L)
    (Tells : ℕ → List LinkReport → Bool → List ℕ → Type 0) (count : ℕ)
    (made : List LinkSpec) (result : Result Load RunFault)
    → IsErr result → IsErrAnd result (λ why. why ≡ NoMemory)
    → Told shown kept kept (LoadLeaves Tells count made made result)
no_load shown kept Tells count made result fails is = (
  [],
  sym (append-nil kept),
  load_failed Tells count made made result NoMemory [] tt (none_made (boards count) made) fails is (λ rack. tt),
)

follows : LoadLaw → (count : ℕ) → count ≤ most_operations → (links : List LinkReport) (result : Result Load RunFault)
    → IfOk result (λ load. PrintsLoad count links load.done load.text.items)
    → IfOk result (λ load. IsLoadOf count links load.done load.text.items)
follows law count most links (Err why) prints = tt
follows law count most links (Ok load) prints = record {
  runs = prints.runs;
  over = prints.over;
  spelled = prints.spelled;
  rightly = law count prints.runs links most prints.over;
  told = prints.told;
}

pub rightly_left : LoadLaw → (count : ℕ) (made makes : List LinkSpec) → count ≤ most_operations
    → (result : Result Load RunFault) (links : List LinkReport) → LoadLeaves PrintsLoad count made makes result links
    → LoadLeaves IsLoadOf count made makes result links
rightly_left law count made makes most result links leaves = record {
  left = leaves.left;
  links_made = leaves.links_made;
  tells = follows law count most links result leaves.tells;
  untouched = leaves.untouched;
}

made_at : (link : LinkSpec) → RunsHere link → CanBeMade link
made_at (Sim mtu buffers first ranges fates) here = here
made_at (Udp address port wait) here = absurd here

pub made_of : (specs : List BoardSpec) → AllByRecursion CanRun specs
    → AllByRecursion (λ (spec : BoardSpec). CanBeMade spec.link) specs
made_of [] here = tt
made_of (spec ∷ specs) here = (made_at spec.link here.0, made_of specs here.1)

pub reached_of : (specs : List BoardSpec) → AllByRecursion CanRun specs → AllByRecursion OpensOnWords specs
    → AllByRecursion CanBeReached specs
reached_of [] here words = tt
reached_of (spec ∷ specs) here words =
    (record { made = made_at spec.link here.0; words = words.0 }, reached_of specs here.1 words.1)
