-- What a load leaves and answers.
use Rattle.std.proofs.Common.{◌≡◌, inl, inr, ℕ, List, Result}
use Rattle.std.proofs.Common.{Ok, Err}
use Rattle.std.proofs.Common.{sym, ap, subst, ◌∙◌}
use Rattle.std.specs.Global.{Vec}
use Rattle.std.specs.Result.{IsErr, IsErrAnd}
use Rattle.board_specs.specs.declared.spec.LinkSpec.{LinkSpec}
use Rattle.board_history.specs.Links.{LinkReport}
use Rattle.session_run.specs.declared.session.RunFault.{RunFault}
use Rattle.session_run.specs.declared.session.RunFault.TheVariants.{Rack}
use Rattle.session_run.specs.Faults.{IsRunFailure}
use Rattle.command_terms.specs.declared.answer.Answer.{Answer}
use Rattle.command_terms.specs.Leaving.{Leaves}
use Rattle.command_terms.specs.Numbers.{told_status}
use Rattle.command_terms.specs.Outside.{NoneCame, no_pairs}
use Rattle.command_terms.proofs.Leaving.{none_came, same_Err}
use Rattle.load_run.specs.declared.run.Load.{Load}
use Rattle.load_run.specs.Loading.{IsLoadOf, LoadLeaves}
use Rattle.load_run.specs.Terms.{load_terms}

module _ (count : ℕ) (bytes : List ℕ) (made makes : List LinkSpec) (links : List LinkReport) where
  pub load_stopped : (fault : RunFault) (result : Result Answer RunFault) → IsErr result
      → IsErrAnd result (λ why. why ≡ fault)
      → LoadLeaves IsLoadOf count made makes (Err fault) links
      → Leaves NoneCame IsRunFailure Rack (load_terms count) bytes made makes result (no_pairs links)
  load_stopped fault (Ok answer) fails is leaves = absurd cc
  load_stopped fault (Err why) fails is leaves = record {
    specs = leaves.links_made.specs;
    grown = leaves.links_made.grown;
    counted = leaves.links_made.many;
    in_order = leaves.links_made.in_order;
    used = inr (record { first = leaves.links_made.first; left = leaves.left });
    back = none_came;
    owed = tt;
    behind = λ other same failed. record { first = leaves.links_made.first; left = leaves.left };
    untouched = λ rack. leaves.untouched (ap Err (sym is ∙ same_Err why Rack rack));
  }

  pub load_done : (load : Load) (answer : Answer) → answer.status ≡ told_status load.done → answer.text ≡ load.text
      → LoadLeaves IsLoadOf count made makes (Ok load) links
      → Leaves NoneCame IsRunFailure Rack (load_terms count) bytes made makes (Ok answer) (no_pairs links)
  load_done load answer told spelled leaves = record {
    specs = leaves.links_made.specs;
    grown = leaves.links_made.grown;
    counted = leaves.links_made.many;
    in_order = leaves.links_made.in_order;
    used = inr (record { first = leaves.links_made.first; left = leaves.left });
    back = none_came;
    owed = inl (record {
      done = load.done;
      load = subst (λ (text : Vec ℕ). IsLoadOf count links load.done text.items) (sym spelled) leaves.tells;
      told = told;
    });
    behind = λ fault is failed. absurd cc;
    untouched = λ rack. absurd cc;
  }
